-- No PARALLEL DO of statements writes its variables: the same of each of them; and where others have come into a gap.
use Rattle.std.proofs.Common.{◌≡◌, ℕ, ◌+◌, List, [], ◌∷◌, Bool, true, false, ◌&&◌, ◌||◌, ◌⊎◌, inl, inr, refl, sym, ap, ◌∙◌}
use Rattle.std.specs.List.{list_any}
use Rattle.ped_bodies.specs.ped_flow.specs.ped_base.specs.Lists.{is_same_text, is_among}
use Rattle.ped_bodies.specs.ped_flow.specs.ped_base.proofs.NameEquality.{same_itself, same_is}
use Rattle.ped_bodies.specs.ped_flow.specs.ped_tree.specs.Tree.{Head, StmtTree, StmtTrees, Assign, If, Do, Print, Read, Stop, Comment, no_stmts, more_stmts}
use Rattle.ped_bodies.specs.ped_flow.specs.ped_tree.specs.Numbering.{statement_count, statements_count}
use Rattle.ped_bodies.specs.ped_flow.specs.ped_tree.specs.NamesIn.{all_loop_variables}
use Rattle.ped_bodies.specs.ped_flow.proofs.Truths.{untrue, or_none, or_split}
use Rattle.ped_bodies.specs.ped_steps.specs.Replacing.{followed}
use Rattle.ped_bodies.specs.ped_steps.specs.Runs.Gaps.{Gap, at_front, past, in_then, in_else, in_body, filled}
use Rattle.ped_bodies.specs.ped_steps.proofs.RunLaws.RunCells.{EachDo, EachDos}
use Rattle.ped_loop_runs.specs.Writing.{writes_itself, writes, all_write, writes_index, some_write_index}
use Rattle.ped_loop_runs.proofs.TidyLaws.TidyPathsGaps.{gap_variables}
use Rattle.ped_loop_runs.proofs.TidyLaws.TidyReferencesFilled.{filled_unwritten}

-- what holds of none of some names
pub none_of : (p : List ℕ → Bool) (names : List (List ℕ)) → ((w : List ℕ) → is_among w names ≡ true → p w ≡ false) → list_any p names ≡ false
none_of p [] h = refl
none_of p (y ∷ ys) h = λ i. h y (first (is_same_text y y) (is_among y ys) (same_itself y)) i || none_of p ys (λ w e. h w (second (is_same_text w y) (is_among w ys) e)) i
  where
    first : (a b : Bool) → a ≡ true → (a || b) ≡ true
    first true b e = refl
    first false b e = untrue e

    second : (a b : Bool) → b ≡ true → (a || b) ≡ true
    second true b e = refl
    second false b e = e

pub of_none : (p : List ℕ → Bool) (names : List (List ℕ)) (w : List ℕ) → list_any p names ≡ false → is_among w names ≡ true → p w ≡ false
of_none p [] w h e = untrue e
of_none p (y ∷ ys) w h e =
    let parts = or_none (p y) (list_any p ys) h in
    elim (or_split (is_same_text w y) (is_among w ys) e) [
      | inl same ↦ ap p (same_is w y same) ∙ parts.0
      | inr more ↦ of_none p ys w parts.1 more
    ]

module _ (cs : List (List ℕ)) where
  -- the body of a PARALLEL DO writes a variable of it
  abbrev pub written : Head → StmtTrees → Bool
  written h body = list_any (λ w. all_write cs w body) (h.variable ∷ all_loop_variables body)

  -- where the DO is parallel, it doesn't
  abbrev pub Unwritten : ℕ → Head → StmtTrees → Type 0
  Unwritten n h body = h.parallel ≡ true → written h body ≡ false

  both_unwritten : (p w : Bool) → (p ≡ true → w ≡ false) → (p && w) ≡ false
  both_unwritten true w h = h refl
  both_unwritten false w h = refl

  from_both : (p w : Bool) → (p && w) ≡ false → p ≡ true → w ≡ false
  from_both true w h e = h
  from_both false w h e = untrue e

  mutual
    pub one_told : (s : StmtTree) (n : ℕ) → EachDo Unwritten s n → writes_index cs s ≡ false
    one_told (Assign left right) n all = refl
    one_told (If c a b) n all = λ i. all_told a (n + 1) all.0 i || all_told b (n + 1 + statements_count a) all.1 i
    one_told (Do h body) n all = λ i. both_unwritten h.parallel (written h body) all.0 i || all_told body (n + 1) all.1 i
    one_told (Print items) n all = refl
    one_told (Read items) n all = refl
    one_told Stop n all = refl
    one_told (Comment text) n all = refl

    pub all_told : (ss : StmtTrees) (n : ℕ) → EachDos Unwritten ss n → some_write_index cs ss ≡ false
    all_told no_stmts n all = refl
    all_told (more_stmts s rest) n all = λ i. one_told s n all.0 i || all_told rest (n + statement_count s) all.1 i

  mutual
    one_each : (s : StmtTree) (n : ℕ) → writes_index cs s ≡ false → EachDo Unwritten s n
    one_each (Assign left right) n e = tt
    one_each (If c a b) n e = let p = or_none (some_write_index cs a) (some_write_index cs b) e in (all_each a (n + 1) p.0, all_each b (n + 1 + statements_count a) p.1)
    one_each (Do h body) n e =
        let p = or_none (h.parallel && written h body) (some_write_index cs body) e in (from_both h.parallel (written h body) p.0, all_each body (n + 1) p.1)
    one_each (Print items) n e = tt
    one_each (Read items) n e = tt
    one_each Stop n e = tt
    one_each (Comment text) n e = tt

    pub all_each : (ss : StmtTrees) (n : ℕ) → some_write_index cs ss ≡ false → EachDos Unwritten ss n
    all_each no_stmts n e = tt
    all_each (more_stmts s rest) n e = let p = or_none (writes_index cs s) (some_write_index cs rest) e in (one_each s n p.0, all_each rest (n + statement_count s) p.1)

  pub followed_index : (ts us : StmtTrees) → some_write_index cs (followed ts us) ≡ (some_write_index cs ts || some_write_index cs us)
  followed_index no_stmts us = refl
  followed_index (more_stmts t rest) us = ap (λ (b : Bool). writes_index cs t || b) (followed_index rest us) ∙ or_assoc (writes_index cs t) (some_write_index cs rest) (some_write_index cs us)
    where
      or_assoc : (a b c : Bool) → (a || (b || c)) ≡ ((a || b) || c)
      or_assoc true b c = refl
      or_assoc false b c = refl

-- a variable of DO loops with the gap is one of the old, or is new
abbrev pub IsFurther : StmtTrees → StmtTrees → List ℕ → Type 0
IsFurther old new w = (is_among w (all_loop_variables new) ≡ true) × (is_among w (all_loop_variables old) ≡ false)

pub variable_from : (old new : StmtTrees) (g : Gap) (w : List ℕ) → is_among w (all_loop_variables (filled g new)) ≡ true → (is_among w (all_loop_variables (filled g old)) ≡ true) ⊎ IsFurther old new w
variable_from old new g w e = go (is_among w (all_loop_variables new)) (is_among w (all_loop_variables old)) refl refl
  where
    go : (a b : Bool) → is_among w (all_loop_variables new) ≡ a → is_among w (all_loop_variables old) ≡ b → (is_among w (all_loop_variables (filled g old)) ≡ true) ⊎ IsFurther old new w
    go true true f h = inl (gap_variables w old new (λ k. h) g e)
    go true false f h = inr (f, h)
    go false b f h = inl (gap_variables w old new (λ k. untrue (sym f ∙ k)) g e)

module _ (cs : List (List ℕ)) (old new : StmtTrees) (writes_no_more : (w : List ℕ) → all_write cs w old ≡ false → all_write cs w new ≡ false) (unwritten : some_write_index cs old ≡ false → some_write_index cs new ≡ false) where
  -- a DO round the gap
  round_unwritten : (h : Head) (g : Gap) → ((w : List ℕ) → IsFurther old new w → all_write cs w (filled g old) ≡ false) → (p : Bool) → (p && written cs h (filled g old)) ≡ false → (p && written cs h (filled g new)) ≡ false
  round_unwritten h g further false e = refl
  round_unwritten h g further true e = none_of (λ w. all_write cs w (filled g new)) (h.variable ∷ all_loop_variables (filled g new)) each
    where
      old_unwritten : (w : List ℕ) → is_among w (h.variable ∷ all_loop_variables (filled g old)) ≡ true → all_write cs w (filled g old) ≡ false
      old_unwritten w k = of_none (λ v. all_write cs v (filled g old)) (h.variable ∷ all_loop_variables (filled g old)) w e k

      among : (w : List ℕ) (b : Bool) → is_same_text w h.variable ≡ b → (b || is_among w (all_loop_variables (filled g new))) ≡ true → all_write cs w (filled g old) ≡ false
      among w true f k = old_unwritten w (λ i. f i || is_among w (all_loop_variables (filled g old)))
      among w false f k = elim (variable_from old new g w k) [
        | inl m ↦ old_unwritten w ((λ i. f i || is_among w (all_loop_variables (filled g old))) ∙ m)
        | inr m ↦ further w m
      ]

      each : (w : List ℕ) → is_among w (h.variable ∷ all_loop_variables (filled g new)) ≡ true → all_write cs w (filled g new) ≡ false
      each w k = filled_unwritten cs w old new (writes_no_more w) g (among w (is_same_text w h.variable) refl k)

  pub filled_index : (g : Gap) → ((w : List ℕ) → IsFurther old new w → all_write cs w (filled g old) ≡ false) → some_write_index cs (filled g old) ≡ false → some_write_index cs (filled g new) ≡ false
  filled_index (at_front rest) further e =
      let p = or_none (some_write_index cs old) (some_write_index cs rest) (sym (followed_index cs old rest) ∙ e) in
      followed_index cs new rest ∙ (λ i. unwritten p.0 i || p.1 i)
  filled_index (past s g) further e =
      let p = or_none (writes_index cs s) (some_write_index cs (filled g old)) e in
      λ i. p.0 i || filled_index g (λ w f. (or_none (writes cs w s) (all_write cs w (filled g old)) (further w f)).1) p.1 i
  filled_index (in_then c g b rest) further e =
      let p = or_none (some_write_index cs (filled g old) || some_write_index cs b) (some_write_index cs rest) e in
      let q = or_none (some_write_index cs (filled g old)) (some_write_index cs b) p.0 in
      λ i. (filled_index g (λ w f. (or_none (all_write cs w (filled g old)) (all_write cs w b) (or_none (all_write cs w (filled g old) || all_write cs w b) (all_write cs w rest) (further w f)).0).0) q.0 i || q.1 i) || p.1 i
  filled_index (in_else c a g rest) further e =
      let p = or_none (some_write_index cs a || some_write_index cs (filled g old)) (some_write_index cs rest) e in
      let q = or_none (some_write_index cs a) (some_write_index cs (filled g old)) p.0 in
      λ i. (q.0 i || filled_index g (λ w f. (or_none (all_write cs w a) (all_write cs w (filled g old)) (or_none (all_write cs w a || all_write cs w (filled g old)) (all_write cs w rest) (further w f)).0).1) q.1 i) || p.1 i
  filled_index (in_body h g rest) further e =
      let p = or_none ((h.parallel && written cs h (filled g old)) || some_write_index cs (filled g old)) (some_write_index cs rest) e in
      let q = or_none (h.parallel && written cs h (filled g old)) (some_write_index cs (filled g old)) p.0 in
      λ i. (round_unwritten h g inner h.parallel q.0 i || filled_index g inner q.1 i) || p.1 i
    where
      inner : (w : List ℕ) → IsFurther old new w → all_write cs w (filled g old) ≡ false
      inner w f =
          (or_none (writes_itself cs w (Do h (filled g old))) (all_write cs w (filled g old)) (or_none (writes_itself cs w (Do h (filled g old)) || all_write cs w (filled g old)) (all_write cs w rest) (further w f)).0).1

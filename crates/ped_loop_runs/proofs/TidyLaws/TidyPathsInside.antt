-- A DO with a number inside another DO stands in its body, and its variables are among those there.
use Rattle.std.proofs.Common.{◌≡◌, ℕ, ◌+◌, ◌-◌, ◌<◌, ◌≤◌, ◌==◌, List, [], ◌∷◌, ◌++◌, length, Bool, true, false, ◌||◌, Some, None, ◌⊎◌, inl, inr, refl, sym, ap, ◌∙◌, arith, eqb-true, if◌then◌else◌}
use Rattle.std.specs.List.{list_any}
use Rattle.std.proofs.lemmas.List.{append_assoc}
use Rattle.std.proofs.lemmas.List.Folds.{list_any-append}
use Rattle.ped_bodies.specs.ped_flow.specs.ped_base.specs.Lists.{is_same_text, is_among}
use Rattle.ped_bodies.specs.ped_flow.specs.ped_tree.specs.Tree.{StmtTree, StmtTrees, Assign, If, Do, Print, Read, Stop, Comment, no_stmts, more_stmts, ProgramTree}
use Rattle.ped_bodies.specs.ped_flow.specs.ped_tree.specs.Numbering.{numbered, all_numbered, at_place, statement_with, statement_count, statements_count}
use Rattle.ped_bodies.specs.ped_flow.specs.ped_tree.proofs.Numbers.{length-all_numbered, numbered-back, all_numbered-back}
use Rattle.ped_bodies.specs.ped_flow.specs.ped_tree.specs.NamesIn.{loop_variables, all_loop_variables}
use Rattle.ped_bodies.specs.ped_flow.specs.Questions.{LoopOf, IsIndexIn}
use Rattle.ped_bodies.specs.ped_flow.proofs.Truths.{untrue, or_split}
use Rattle.ped_bodies.specs.ped_steps.specs.Replacing.{followed, alone, program_with}
use Rattle.ped_bodies.specs.ped_steps.specs.Runs.Gaps.{Gap, at_front, past, in_then, in_else, in_body, filled, number_at}
use Rattle.ped_bodies.specs.ped_steps.proofs.RunLaws.ReplacedTrees.{HasGap, program_gap}
use Rattle.ped_loop_runs.proofs.TidyLaws.TidyPathsGaps.{gap_count, gap_from}

within : (xs ys : List StmtTree) (k : ℕ) → k < length xs → at_place (xs ++ ys) k ≡ at_place xs k
within [] ys k h = absurd (omega arith)
within (x ∷ xs) ys k h = grind (arith, eqb-true, within xs ys (k - 1))

within_all : (ts : StmtTrees) (ys : List StmtTree) (k : ℕ) → k < statements_count ts → at_place (all_numbered ts ++ ys) k ≡ at_place (all_numbered ts) k
within_all ts ys k h = let long = length-all_numbered ts in within (all_numbered ts) ys k (omega (arith, h, long))

next : (x : StmtTree) (xs : List StmtTree) (k : ℕ) → 0 < k → at_place (x ∷ xs) k ≡ at_place xs (k - 1)
next x xs k h = grind (arith, eqb-true, h)

followed_numbered : (ts us : StmtTrees) → all_numbered (followed ts us) ≡ all_numbered ts ++ all_numbered us
followed_numbered no_stmts us = refl
followed_numbered (more_stmts t rest) us = ap (λ (z : List StmtTree). numbered t ++ z) (followed_numbered rest us) ∙ sym (append_assoc (numbered t) (all_numbered rest) (all_numbered us))

-- what stands at a place of statements in a gap
gap_place : (g : Gap) (n i j : ℕ) (ts : StmtTrees) → n + i ≡ number_at g n + j → j < statements_count ts → at_place (all_numbered (filled g ts)) i ≡ at_place (all_numbered ts) j
gap_place (at_front rest) n i j ts e h =
    let same : i ≡ j = omega (arith, e) in
    ap (λ (z : List StmtTree). at_place z i) (followed_numbered ts rest) ∙ ap (at_place (all_numbered ts ++ all_numbered rest)) same ∙ within_all ts (all_numbered rest) j h
gap_place (past t g) n i j ts e h =
    let from = gap_from g (n + statement_count t) in
    numbered-back t (all_numbered (filled g ts)) i (i - statement_count t) (omega (arith, from, e)) ∙ gap_place g (n + statement_count t) (i - statement_count t) j ts (omega (arith, from, e)) h
gap_place (in_then c g b rest) n i j ts e h =
    let from = gap_from g (n + 1) in
    let count = gap_count g (n + 1) ts in
    let long = length-all_numbered (filled g ts) in
    let xs : List StmtTree = all_numbered (filled g ts) in
    next (If c (filled g ts) b) ((xs ++ all_numbered b) ++ all_numbered rest) i (omega (arith, from, e))
    ∙ ap (λ (z : List StmtTree). at_place z (i - 1)) (append_assoc xs (all_numbered b) (all_numbered rest))
    ∙ within xs (all_numbered b ++ all_numbered rest) (i - 1) (omega (arith, from, e, h, count, long))
    ∙ gap_place g (n + 1) (i - 1) j ts (omega (arith, from, e)) h
gap_place (in_else c a g rest) n i j ts e h =
    let from = gap_from g (n + 1 + statements_count a) in
    let count = gap_count g (n + 1 + statements_count a) ts in
    let long = length-all_numbered (filled g ts) in
    let xs : List StmtTree = all_numbered (filled g ts) in
    next (If c a (filled g ts)) ((all_numbered a ++ xs) ++ all_numbered rest) i (omega (arith, from, e))
    ∙ ap (λ (z : List StmtTree). at_place z (i - 1)) (append_assoc (all_numbered a) xs (all_numbered rest))
    ∙ all_numbered-back a (xs ++ all_numbered rest) (i - 1) (i - 1 - statements_count a) (omega (arith, from, e))
    ∙ within xs (all_numbered rest) (i - 1 - statements_count a) (omega (arith, from, e, h, count, long))
    ∙ gap_place g (n + 1 + statements_count a) (i - 1 - statements_count a) j ts (omega (arith, from, e)) h
gap_place (in_body f g rest) n i j ts e h =
    let from = gap_from g (n + 1) in
    let count = gap_count g (n + 1) ts in
    let long = length-all_numbered (filled g ts) in
    let xs : List StmtTree = all_numbered (filled g ts) in
    next (Do f (filled g ts)) (xs ++ all_numbered rest) i (omega (arith, from, e))
    ∙ within xs (all_numbered rest) (i - 1) (omega (arith, from, e, h, count, long))
    ∙ gap_place g (n + 1) (i - 1) j ts (omega (arith, from, e)) h

module _ (w : List ℕ) where
  -- the name is the variable of a DO of the statement
  abbrev has : StmtTree → Bool
  has t = is_among w (loop_variables t)

  has_left : (a b : Bool) → a ≡ true → (a || b) ≡ true
  has_left a b e = ap (λ (z : Bool). z || b) e

  has_right : (a b : Bool) → b ≡ true → (a || b) ≡ true
  has_right true b e = refl
  has_right false b e = e

  one_has : (xs : List StmtTree) (i : ℕ) (u : StmtTree) → at_place xs i ≡ Some u → has u ≡ true → list_any has xs ≡ true
  one_has [] i u e k = absurd cc
  one_has (x ∷ xs) i u e k = go (i == 0) e (λ f. one_has xs (i - 1) u f k)
    where
      go : (b : Bool) → (if b then Some x else at_place xs (i - 1)) ≡ Some u → (at_place xs (i - 1) ≡ Some u → list_any has xs ≡ true) → list_any has (x ∷ xs) ≡ true
      go true f rest = let same : x ≡ u = cc in has_left (has x) (list_any has xs) (ap has same ∙ k)
      go false f rest = has_right (has x) (list_any has xs) (rest f)

  either_has : (a b c d : Bool) → (a || b) ≡ true → (a ≡ true → c ≡ true) → (b ≡ true → d ≡ true) → (c || d) ≡ true
  either_has a b c d e f g = go (or_split a b e)
    where
      go : (a ≡ true) ⊎ (b ≡ true) → (c || d) ≡ true
      go (inl h) = has_left c d (f h)
      go (inr h) = has_right c d (g h)

  either_is : (a b : Bool) → (a || b) ≡ true → (b ≡ true → a ≡ true) → a ≡ true
  either_is true b e f = refl
  either_is false b e f = f e

  mutual
    numbered_has : (t : StmtTree) → list_any has (numbered t) ≡ true → has t ≡ true
    numbered_has (Assign left right) e = untrue e
    numbered_has (If c a b) e =
        either_is (has (If c a b)) (list_any has (all_numbered a ++ all_numbered b)) e
        (λ f. list_any-append (is_same_text w) (all_loop_variables a) (all_loop_variables b)
        ∙ either_has (list_any has (all_numbered a)) (list_any has (all_numbered b)) (is_among w (all_loop_variables a)) (is_among w (all_loop_variables b))
        (sym (list_any-append has (all_numbered a) (all_numbered b)) ∙ f) (all_numbered_has a) (all_numbered_has b))
    numbered_has (Do h body) e = either_is (has (Do h body)) (list_any has (all_numbered body)) e (λ f. has_right (is_same_text w h.variable) (is_among w (all_loop_variables body)) (all_numbered_has body f))
    numbered_has (Print items) e = untrue e
    numbered_has (Read items) e = untrue e
    numbered_has Stop e = untrue e
    numbered_has (Comment text) e = untrue e

    all_numbered_has : (ts : StmtTrees) → list_any has (all_numbered ts) ≡ true → is_among w (all_loop_variables ts) ≡ true
    all_numbered_has no_stmts e = untrue e
    all_numbered_has (more_stmts t rest) e =
        list_any-append (is_same_text w) (loop_variables t) (all_loop_variables rest)
        ∙ either_has (list_any has (numbered t)) (list_any has (all_numbered rest)) (is_among w (loop_variables t)) (is_among w (all_loop_variables rest))
        (sym (list_any-append has (numbered t) (all_numbered rest)) ∙ e) (numbered_has t) (all_numbered_has rest)

-- the statement with a number inside a DO stands in its body
pub inside_place : (t : ProgramTree) (s : ℕ) (l : LoopOf t s) (k : ℕ) → s < k → k ≤ s + statements_count l.body → statement_with k t ≡ at_place (all_numbered l.body) (k - s - 1)
inside_place t s l k above below =
    chosen (k == 0) refl
    ∙ ap (λ (ts : StmtTrees). at_place (all_numbered ts) (k - 1)) g.old_is
    ∙ gap_place g.gap 1 (k - 1) (k - s) (alone (Do l.head l.body)) (omega (arith, number, above)) (omega (arith, above, below))
    ∙ next (Do l.head l.body) (all_numbered l.body ++ []) (k - s) (omega (arith, above))
    ∙ within_all l.body [] (k - s - 1) (omega (arith, above, below))
  where
    g : HasGap (λ u. alone u) s (Do l.head l.body) 1 t.body (program_with (λ u. alone u) s t).body
    g = program_gap (λ u. alone u) s (Do l.head l.body) t l.is

    number : number_at g.gap 1 ≡ s
    number = g.number

    chosen : (b : Bool) → (k == 0) ≡ b → (if b then None else at_place (all_numbered t.body) (k - 1)) ≡ at_place (all_numbered t.body) (k - 1)
    chosen true e = let none : k ≡ 0 = grind (arith, eqb-true, e) in absurd (omega (arith, none, above))
    chosen false e = refl

-- the variables of a DO in another one are among those of its body
pub inside_variables : (t : ProgramTree) (s : ℕ) (l : LoopOf t s) (k : ℕ) (w : List ℕ) → s < k → k ≤ s + statements_count l.body → IsIndexIn t k w → is_among w (all_loop_variables l.body) ≡ true
inside_variables t s l k w above below index =
    all_numbered_has w l.body (one_has w (all_numbered l.body) (k - s - 1) (Do index.loop.head index.loop.body) (sym (inside_place t s l k above below) ∙ index.loop.is) index.among)

-- What a test tells of statements by "or" it tells of the units of a body, and of the DO loops that are made of them.
use Rattle.std.proofs.Common.{◌≡◌, ℕ, zero, suc, ◌+◌, ◌<◌, ◌≤◌, ◌==◌, List, [], ◌∷◌, length, slice_index_or, Bool, true, false, ◌||◌, if◌then◌else◌, inl, inr, refl, sym, ap, ◌∙◌, eqb-true, arith}
use Rattle.std.specs.List.{list_any}
use Rattle.std.proofs.lemmas.Bool.{or_parts, or_right}
use Rattle.ped_tree.specs.Tree.{Head, StmtTree, StmtTrees, Assign, If, Do, Print, Read, Stop, Comment, no_stmts, more_stmts}
use Rattle.ped_tree.specs.Numbering.{statement_count, statements_count}
use Rattle.ped_rules.specs.ped_steps.specs.Replacing.{followed, alone}
use Rattle.ped_splits.specs.Units.{before_first, units}
use Rattle.ped_splits.specs.Distributing.{units_at, loops_of}
use Rattle.ped_splits.proofs.PiBlockLaws.{In, in_either}
use Rattle.ped_splits.proofs.Partitions.{flat}

grouped : (p q r : Bool) → p || (q || r) ≡ (p || q) || r
grouped true q r = refl
grouped false q r = refl

or_none : (a : Bool) → a || false ≡ a
or_none true = refl
or_none false = refl

-- what is so of comments is so of statements without a number
pub only_comment : (P : StmtTree → Type 0) → ((text : List ℕ) → P (Comment text)) → (s : StmtTree) → statement_count s ≡ 0 → P s
only_comment P f (Assign left right) h = absurd (omega (arith, h))
only_comment P f (If c a b) h = absurd (omega (arith, h))
only_comment P f (Do d body) h = absurd (omega (arith, h))
only_comment P f (Print items) h = absurd (omega (arith, h))
only_comment P f (Read items) h = absurd (omega (arith, h))
only_comment P f Stop h = absurd (omega (arith, h))
only_comment P f (Comment text) h = f text

module _ (all : StmtTrees → Bool) (told : StmtTree → Bool) (none : all no_stmts ≡ false) (more : (s : StmtTree) (rest : StmtTrees) → all (more_stmts s rest) ≡ told s || all rest) (quiet : (s : StmtTree) → statement_count s ≡ 0 → told s ≡ false) where
  -- statements behind others
  both : (a b : StmtTrees) → all (followed a b) ≡ all a || all b
  both no_stmts b = ap (λ (x : Bool). x || all b) (sym none)
  both (more_stmts s rest) b = more s (followed rest b) ∙ ap (λ (x : Bool). told s || x) (both rest b) ∙ grouped (told s) (all rest) (all b) ∙ ap (λ (x : Bool). x || all b) (sym (more s rest))

  -- units
  first_any : (s : StmtTree) (us : List StmtTrees) → told s ≡ false → list_any all (before_first s us) ≡ list_any all us
  first_any s [] q = refl
  first_any s (u ∷ us) q = ap (λ (x : Bool). x || list_any all us) (more s u ∙ ap (λ (x : Bool). x || all u) q)

  alone_is : (s : StmtTree) → all (alone s) ≡ told s
  alone_is s = more s no_stmts ∙ ap (λ (x : Bool). told s || x) none ∙ or_none (told s)

  pub any_unit : (body : StmtTrees) → list_any all (units body) ≡ all body
  any_unit no_stmts = sym none
  any_unit (more_stmts s rest) = by (any_unit rest) (statement_count s == 0) refl
    where
      inner : list_any all (units rest) ≡ all rest → (b : Bool) → list_any all (if b then more_stmts s rest ∷ [] else alone s ∷ units rest) ≡ told s || all rest
      inner same true = or_none (all (more_stmts s rest)) ∙ more s rest
      inner same false = λ i. alone_is s i || same i

      by : list_any all (units rest) ≡ all rest → (b : Bool) → (statement_count s == 0) ≡ b → list_any all (if b then before_first s (units rest) else if statements_count rest == 0 then more_stmts s rest ∷ [] else alone s ∷ units rest) ≡ all (more_stmts s rest)
      by same true e = let q = quiet s (eqb-true (statement_count s) 0 e) in first_any s (units rest) q ∙ same ∙ ap (λ (x : Bool). x || all rest) (sym q) ∙ sym (more s rest)
      by same false e = inner same (statements_count rest == 0) ∙ sym (more s rest)

  any_at : (us : List StmtTrees) (i : ℕ) → list_any all us ≡ false → all (slice_index_or us i no_stmts) ≡ false
  any_at [] i h = none
  any_at (u ∷ us) zero h = (or_parts (all u) (list_any all us) h).0
  any_at (u ∷ us) (suc i) h = any_at us i (or_parts (all u) (list_any all us) h).1

  some_at : (us : List StmtTrees) → list_any all us ≡ true → (i : ℕ) × (i < length us) × (all (slice_index_or us i no_stmts) ≡ true)
  some_at [] h = absurd cc
  some_at (u ∷ us) h = by (some_at us) (all u) refl h
    where
      by : (list_any all us ≡ true → (i : ℕ) × (i < length us) × (all (slice_index_or us i no_stmts) ≡ true)) → (b : Bool) → all u ≡ b → (b || list_any all us) ≡ true → (i : ℕ) × (i < length (u ∷ us)) × (all (slice_index_or (u ∷ us) i no_stmts) ≡ true)
      by rest true e h = (0, omega arith, e)
      by rest false e h = let r = rest h in (suc r.0, let inside = r.1 in omega (arith, inside), r.2)

  -- a body of which it is so has a unit of which it is so
  pub some_unit : (body : StmtTrees) → all body ≡ true → (i : ℕ) × (i < length (units body)) × (all (slice_index_or (units body) i no_stmts) ≡ true)
  some_unit body h = some_at (units body) (any_unit body ∙ h)

  -- units of a body, one behind another
  pub joined_none : (body : StmtTrees) (block : List ℕ) → all body ≡ false → all (units_at body block) ≡ false
  joined_none body [] h = none
  joined_none body (i ∷ is) h = both (slice_index_or (units body) i no_stmts) (units_at body is) ∙ (λ j. any_at (units body) i (any_unit body ∙ h) j || joined_none body is h j)

  pub joined_some : (body : StmtTrees) (block : List ℕ) (i : ℕ) → In i block → all (slice_index_or (units body) i no_stmts) ≡ true → all (units_at body block) ≡ true
  joined_some body [] i inside e = elim inside [ ]
  joined_some body (k ∷ ks) i (inl x) e =
      both (slice_index_or (units body) k no_stmts) (units_at body ks) ∙ ap (λ (b : Bool). b || all (units_at body ks)) (ap (λ (m : ℕ). all (slice_index_or (units body) m no_stmts)) (sym x) ∙ e)
  joined_some body (k ∷ ks) i (inr r) e =
      both (slice_index_or (units body) k no_stmts) (units_at body ks) ∙ ap (λ (b : Bool). all (slice_index_or (units body) k no_stmts) || b) (joined_some body ks i r e) ∙ or_right (all (slice_index_or (units body) k no_stmts)) true refl

  -- the DO loops of blocks
  pub loops_none : (h : Head) (body : StmtTrees) (found : List (List ℕ)) → ((b : List ℕ) → told (Do h (units_at body b)) ≡ false) → all (loops_of found h body) ≡ false
  loops_none h body [] f = none
  loops_none h body (b ∷ bs) f = more (Do h (units_at body b)) (loops_of bs h body) ∙ (λ i. f b i || loops_none h body bs f i)

  pub loops_first : (h : Head) (body : StmtTrees) (found : List (List ℕ)) → 1 ≤ length found → ((b : List ℕ) → told (Do h (units_at body b)) ≡ true) → all (loops_of found h body) ≡ true
  loops_first h body [] long f = absurd (omega (arith, long))
  loops_first h body (b ∷ bs) long f = more (Do h (units_at body b)) (loops_of bs h body) ∙ ap (λ (x : Bool). x || all (loops_of bs h body)) (f b)

  pub loops_some : (h : Head) (body : StmtTrees) (found : List (List ℕ)) (i : ℕ) → In i (flat found) → ((b : List ℕ) → In i b → told (Do h (units_at body b)) ≡ true) → all (loops_of found h body) ≡ true
  loops_some h body [] i inside f = elim inside [ ]
  loops_some h body (b ∷ bs) i inside f = elim (in_either i b (flat bs) inside) [
    | inl x ↦ more (Do h (units_at body b)) (loops_of bs h body) ∙ ap (λ (r : Bool). r || all (loops_of bs h body)) (f b x)
    | inr y ↦ more (Do h (units_at body b)) (loops_of bs h body) ∙ ap (λ (r : Bool). told (Do h (units_at body b)) || r) (loops_some h body bs i y f) ∙ or_right (told (Do h (units_at body b))) true refl
  ]

  -- where a test tells of a DO by its head, or by its body, it tells the same of all DO loops that the body is taken apart into
  module _ (h : Head) (body : StmtTrees) (found : List (List ℕ)) (long : 1 ≤ length found) (placed : (i : ℕ) → i < length (units body) → In i (flat found)) (top : Bool) (shape : (b : StmtTrees) → told (Do h b) ≡ top || all b) where
    told_some : top || all body ≡ true → all (loops_of found h body) ≡ true
    told_some e = by top refl
      where
        by : (x : Bool) → top ≡ x → all (loops_of found h body) ≡ true
        by true p = loops_first h body found long (λ b. shape (units_at body b) ∙ ap (λ (x : Bool). x || all (units_at body b)) p)
        by false p =
            let inside : all body ≡ true = sym (ap (λ (x : Bool). x || all body) p) ∙ e in
            let i = some_unit body inside in
            loops_some h body found i.0 (placed i.0 i.1) (λ b here. shape (units_at body b) ∙ ap (λ (x : Bool). x || all (units_at body b)) p ∙ joined_some body b i.0 here i.2)

    told_none : top || all body ≡ false → all (loops_of found h body) ≡ false
    told_none e =
        let parts = or_parts top (all body) e in
        loops_none h body found (λ b. shape (units_at body b) ∙ (λ i. parts.0 i || joined_none body b parts.1 i))

    pub loops_tell : all (loops_of found h body) ≡ told (Do h body)
    loops_tell = by (top || all body) refl ∙ sym (shape body)
      where
        by : (b : Bool) → top || all body ≡ b → all (loops_of found h body) ≡ top || all body
        by true e = told_some e ∙ sym e
        by false e = told_none e ∙ sym e

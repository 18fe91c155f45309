-- The numbers of the second of two DO loops become those that its body has in the one DO, and its copies those of that DO.
use Rattle.std.proofs.Common.{◌≡◌, ◌⊎◌, ℕ, ◌+◌, ◌-◌, ◌<◌, ◌≤◌, ◌==◌, ◌&&◌, List, [], ◌∷◌, ◌++◌, map, Bool, true, false, inl, inr, if◌then◌else◌, eqb-true, refl, sym, ap, ◌∙◌, arith}
use Rattle.std.specs.Prelude.{nat_lt}
use Rattle.std.proofs.lemmas.Bool.{cases_lt}
use Rattle.ped_tree.specs.Nests.{Loop}
use Rattle.ped_tree.specs.Numbering.{statement_count, statements_count}
use Rattle.ped_rules.specs.ped_steps.proofs.RunLaws.FilledGaps.{number_from}
use Rattle.ped_rules.specs.ped_steps.proofs.RunLaws.RenumberedRuns.{AreRenumbered, deeper, outside_all}
use Rattle.ped_rules.specs.ped_steps.specs.Runs.Gaps.{Gap, at_front, past, in_then, in_else, in_body, number_at}
use Rattle.ped_rules.specs.ped_steps.specs.Runs.Pasting.{AreTurnsOf}
use Rattle.ped_rules.specs.ped_steps.specs.Runs.Renumbering.{renumbered_iteration, renumbered_cell, old_store, IsToldBack}
use Rattle.ped_rules.specs.ped_laws.proofs.ConflictLaws.CoveringDirections.{same_numbers}
use Rattle.ped_rules.specs.ped_eval.specs.Scopes.{Scope, turns_of}
use Rattle.ped_rules.specs.ped_store.specs.Acts.{Turn}
use Rattle.ped_rules.specs.ped_store.specs.Cells.{Cell, Scalar, Element, Private, In, Out, Iteration}
use Rattle.ped_rules.specs.ped_store.specs.Stores.{Store}
use Rattle.ped_splits.proofs.CoverGaps.{gap_loops}

pub test_no : (a b : ℕ) → (a < b) ⊎ (b < a) → (a == b) ≡ false
test_no a b apart = go (a == b) refl
  where
    go : (c : Bool) → (a == b) ≡ c → (a == b) ≡ false
    go false e = e
    go true e = let same : a ≡ b = eqb-true a b e in elim apart [ inl h ↦ absurd (omega (arith, h, same)) | inr h ↦ absurd (omega (arith, h, same)) ]

pub less_no : (a b : ℕ) → b ≤ a → nat_lt a b ≡ false
less_no a b h = grind (arith, h)

pub less_yes : (a b : ℕ) → a < b → nat_lt a b ≡ true
less_yes a b h = grind (arith, h)

-- a number by what it is: that of the second DO, that of the first, one of the second one's body, or another
abbrev chosen : Bool → Bool → Bool → Bool → ℕ → ℕ → ℕ → ℕ → ℕ
chosen second first low high s m c k = if second then s else (if first then m + c else (if low && high then k - 1 else k))

abbrev chosen_back : Bool → Bool → Bool → Bool → ℕ → ℕ → ℕ → ℕ → ℕ
chosen_back first last low high s m c k = if first then m else (if last then s else (if low && high then k + 1 else k))

-- the second DO, with number m and so many statements in its body, counts as the first, with number s, and its body one nearer; the first has a number that is left over
abbrev pub as_first : (s m c : ℕ) → ℕ → ℕ
as_first s m c k = chosen (k == m) (k == s) (nat_lt m k) (nat_lt k (m + c + 1)) s m c k

abbrev pub as_second : (s m c : ℕ) → ℕ → ℕ
as_second s m c k = chosen_back (k == s) (k == m + c) (nat_lt k (m + c)) (nat_lt m (k + 1)) s m c k

module _ (s m c : ℕ) (before : s < m) where
  pub its_number : as_first s m c m ≡ s
  its_number = λ i. chosen (same_numbers m m refl i) (m == s) (nat_lt m m) (nat_lt m (m + c + 1)) s m c m

  of_first : as_first s m c s ≡ m + c
  of_first = λ i. chosen (test_no s m (inl before) i) (same_numbers s s refl i) (nat_lt m s) (nat_lt s (m + c + 1)) s m c s

  pub in_body_of : (k : ℕ) → m < k → k ≤ m + c → as_first s m c k ≡ k - 1
  in_body_of k low high = λ i. chosen (test_no k m (inr low) i) (test_no k s (inr (omega (arith, low, before))) i) (less_yes m k low i) (less_yes k (m + c + 1) (omega (arith, high)) i) s m c k

  below_second : (k : ℕ) → k < m → (k < s) ⊎ (s < k) → as_first s m c k ≡ k
  below_second k low other = λ i. chosen (test_no k m (inl low) i) (test_no k s other i) (less_no m k (omega (arith, low)) i) (nat_lt k (m + c + 1)) s m c k

  behind_second : (k : ℕ) → m + c < k → as_first s m c k ≡ k
  behind_second k high = λ i. chosen (test_no k m (inr (omega (arith, high))) i) (test_no k s (inr (omega (arith, high, before))) i) (less_yes m k (omega (arith, high)) i) (less_no k (m + c + 1) (omega (arith, high)) i) s m c k

  pub below_first : (k : ℕ) → k < s → as_first s m c k ≡ k
  below_first k low = below_second k (omega (arith, low, before)) (inl low)

  back_first : as_second s m c s ≡ m
  back_first = λ i. chosen_back (same_numbers s s refl i) (s == m + c) (nat_lt s (m + c)) (nat_lt m (s + 1)) s m c s

  back_last : as_second s m c (m + c) ≡ s
  back_last = λ i. chosen_back (test_no (m + c) s (inr (omega (arith, before))) i) (same_numbers (m + c) (m + c) refl i) (nat_lt (m + c) (m + c)) (nat_lt m (m + c + 1)) s m c (m + c)

  back_body : (k : ℕ) → m ≤ k → k < m + c → as_second s m c k ≡ k + 1
  back_body k low high = λ i. chosen_back (test_no k s (inr (omega (arith, low, before))) i) (test_no k (m + c) (inl high) i) (less_yes k (m + c) high i) (less_yes m (k + 1) (omega (arith, low)) i) s m c k

  back_below : (k : ℕ) → k < m → (k < s) ⊎ (s < k) → as_second s m c k ≡ k
  back_below k low other = (λ i. chosen_back (test_no k s other i) (test_no k (m + c) (inl (omega (arith, low))) i) (less_yes k (m + c) (omega (arith, low)) i) (less_no m (k + 1) (omega (arith, low)) i) s m c k)

  back_behind : (k : ℕ) → m + c < k → as_second s m c k ≡ k
  back_behind k high = λ i. chosen_back (test_no k s (inr (omega (arith, high, before))) i) (test_no k (m + c) (inr high) i) (less_no k (m + c) (omega (arith, high)) i) (nat_lt m (k + 1)) s m c k

  one_less : (k : ℕ) → m < k → (k - 1) + 1 ≡ k
  one_less k low = omega (arith, low)

  back : (k : ℕ) → as_second s m c (as_first s m c k) ≡ k
  back k = elim (cases_lt k m) [
    | inl low ↦ elim (cases_lt k s) [
      | inl less ↦ ap (as_second s m c) (below_second k low (inl less)) ∙ back_below k low (inl less)
      | inr more ↦ elim (cases_lt s k) [
        | inl above ↦ ap (as_second s m c) (below_second k low (inr above)) ∙ back_below k low (inr above)
        | inr same ↦ (let e : k ≡ s = omega (arith, more, same) in ap (λ (n : ℕ). as_second s m c (as_first s m c n)) e ∙ ap (as_second s m c) of_first ∙ back_last ∙ sym e)
      ]
    ]
    | inr high ↦ elim (cases_lt m k) [
      | inl above ↦ elim (cases_lt k (m + c + 1)) [
        | inl within ↦ ap (as_second s m c) (in_body_of k above (omega (arith, within))) ∙ back_body (k - 1) (omega (arith, above)) (omega (arith, above, within)) ∙ one_less k above
        | inr beyond ↦ ap (as_second s m c) (behind_second k (omega (arith, beyond))) ∙ back_behind k (omega (arith, beyond))
      ]
      | inr same ↦ (let e : k ≡ m = omega (arith, high, same) in ap (λ (n : ℕ). as_second s m c (as_first s m c n)) e ∙ ap (as_second s m c) its_number ∙ back_first ∙ sym e)
    ]
  ]

  pub told_back : IsToldBack (as_first s m c) (as_second s m c)
  told_back = record { back = back }

  -- so each store comes from one
  path_back : (path : List Iteration) → map (renumbered_iteration (as_second s m c)) (map (renumbered_iteration (as_first s m c)) path) ≡ path
  path_back [] = refl
  path_back (j ∷ path) = λ i. record { statement = back j.statement i; number = j.number } ∷ path_back path i

  cell_back : (a : Cell) → renumbered_cell (as_second s m c) (renumbered_cell (as_first s m c) a) ≡ a
  cell_back (Scalar x) = refl
  cell_back (Element x js) = refl
  cell_back (Private x path) = ap (Private x) (path_back path)
  cell_back In = refl
  cell_back Out = refl

  pub store_back : (v : Store) → old_store (as_first s m c) (old_store (as_second s m c) v) ≡ v
  store_back v = λ i a. v (cell_back a i)

  -- iterations of loops with lesser numbers stay
  abbrev pub StandBelow : List Loop → Type 0
  StandBelow [] = Unit {0}
  StandBelow (k ∷ ks) = (k.number < s) × StandBelow ks

  abbrev pub AreBelow : List Turn → Type 0
  AreBelow [] = Unit {0}
  AreBelow (t ∷ ts) = (t.statement < s) × AreBelow ts

  pub turns_below : (nest : List Loop) (ts : List Turn) → AreTurnsOf (λ n. n) nest ts → StandBelow nest → AreBelow ts
  turns_below [] [] h below = tt
  turns_below [] (t ∷ ts) h below = absurd h
  turns_below (k ∷ ks) [] h below = tt
  turns_below (k ∷ ks) (t ∷ ts) h below = ((let is = h.0 in let less = below.0 in omega (arith, is, less)), turns_below ks ts h.2 below.1)

  front_below : (ts : List Turn) (t : Turn) → AreBelow (ts ++ t ∷ []) → AreBelow ts × (t.statement < s)
  front_below [] t h = (tt, h.0)
  front_below (u ∷ ts) t h = let rest = front_below ts t h.1 in ((h.0, rest.0), rest.1)

  same_scope : (scope : Scope) → AreBelow (turns_of scope) → AreRenumbered (as_first s m c) (as_second s m c) told_back scope scope
  same_scope [] below = outside_all (as_first s m c) (as_second s m c) told_back
  same_scope (f ∷ fs) below =
      let parts = front_below (turns_of fs) f.turn below in
      deeper (as_first s m c) (as_second s m c) told_back f f fs fs (λ i. record { statement = sym (below_first f.turn.statement parts.1) i; parallel = f.turn.parallel; number = f.turn.number; value = f.turn.value }) refl refl (same_scope fs parts.0)

  pub scope_stays : (nest : List Loop) (scope : Scope) → AreTurnsOf (λ n. n) nest (turns_of scope) → StandBelow nest → AreRenumbered (as_first s m c) (as_second s m c) told_back scope scope
  scope_stays nest scope turns below = same_scope scope (turns_below nest (turns_of scope) turns below)

  -- the loops round a gap stand before it
  pub gap_below : (gap : Gap) (n : ℕ) → number_at gap n ≡ s → StandBelow (gap_loops gap n)
  gap_below (at_front rest) n e = tt
  gap_below (past x gap) n e = gap_below gap (n + statement_count x) e
  gap_below (in_then a gap b rest) n e = gap_below gap (n + 1) e
  gap_below (in_else a b gap rest) n e = gap_below gap (n + 1 + statements_count b) e
  gap_below (in_body d gap rest) n e = ((let from = number_from gap (n + 1) in omega (arith, from, e)), gap_below gap (n + 1) e)

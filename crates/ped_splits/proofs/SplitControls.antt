-- The entries and ends of DO loops with PRIVATE names: they write the variable and, at the place of the DO, the PRIVATE names.
use Rattle.std.proofs.Common.{◌≡◌, ◌⊎◌, ℕ, suc, ◌-◌, ◌==◌, ◌≤◌, List, [], ◌∷◌, ◌++◌, Bool, true, false, ◌||◌, inl, inr, refl, sym, ap, subst, ◌∙◌, append-nil, if◌then◌else◌, arith}
use Rattle.std.specs.List.{list_any, range_with_len}
use Rattle.std.proofs.lemmas.Bool.{or_right}
use Rattle.ped_rules.proofs.NestLaws.NestKnots.{in_numbers, in_rows}
use Rattle.ped_rules.specs.ped_bodies.proofs.BodyLaws.TripLists.{end_in_order}
use Rattle.ped_rules.specs.ped_bodies.specs.Trips.{loop_entry, trip_end}
use Rattle.ped_rules.specs.ped_laws.proofs.ActLaws.Lists.{in_parts}
use Rattle.ped_rules.specs.ped_laws.specs.Acts.Conflicts.{WriteWithin}
use Rattle.ped_rules.specs.ped_laws.specs.Acts.Fitting.{touches_of}
use Rattle.ped_rules.specs.ped_laws.specs.Acts.Orders.{IsIn}
use Rattle.ped_rules.specs.ped_laws.specs.Runs.Replaying.{act}
use Rattle.ped_rules.specs.ped_eval.specs.Evaluation.{Seen, cell_seen, index_seen, numbered}
use Rattle.ped_rules.specs.ped_eval.specs.Loops.{Entered, exit_touches, exit_when_none, undefined_all, undefined_by}
use Rattle.ped_rules.specs.ped_eval.specs.Scopes.{Scope, cell_of}
use Rattle.ped_rules.specs.ped_store.specs.Acts.{Act, Place, Touch, ended_turn}
use Rattle.ped_rules.specs.ped_store.specs.Cells.{Cell}
use Rattle.ped_rules.specs.ped_weaves.specs.Weaves.{block, control}
use Rattle.ped_splits.proofs.SplitKnots.{loop_knots, trip_knots, unit_knots}

pub any_there : {X : Type 0} (p : X → Bool) (xs : List X) (x : X) → IsIn x xs → p x ≡ true → list_any p xs ≡ true
any_there p [] x i h = absurd i
any_there p (y ∷ ys) x (inl e) h = ap (λ (b : Bool). b || list_any p ys) (ap p (sym e) ∙ h)
any_there p (y ∷ ys) x (inr i) h = ap (λ (b : Bool). p y || b) (any_there p ys x i h) ∙ or_right (p y) true refl

same_control : (c a : List Act) → control c ≡ control a → c ≡ a
same_control c a q = cc

module _ (e : Entered) (scope : Scope) (at : Place) where
  none_of_units : (ks : List ℕ) (i : ℕ) (c : List Act) → IsIn (control c) (unit_knots ks i) → ⊥
  none_of_units [] i c h = h
  none_of_units (k ∷ ks) i c (inl q) = absurd cc
  none_of_units (k ∷ ks) i c (inr h) = none_of_units ks i c h

  pi_block_of : (ks : List ℕ) (n i k : ℕ) → IsIn (block i k) (unit_knots ks n) → (i ≡ n) × IsIn k ks
  pi_block_of [] n i k h = absurd h
  pi_block_of (z ∷ ks) n i k (inl q) = let one : i ≡ n = cc in let other : k ≡ z = cc in (one, inl other)
  pi_block_of (z ∷ ks) n i k (inr h) = let r = pi_block_of ks n i k h in (r.0, inr r.1)

  -- a block is that of one of the units in an iteration
  pub block_known : (seen : List Seen) (ks : List ℕ) (i k : ℕ) → IsIn (block i k) (loop_knots e scope at seen ks) → (1 ≤ i) × (i ≤ e.count) × IsIn k ks
  block_known seen ks i k (inl q) = absurd cc
  block_known seen ks i k (inr h) =
      let r = in_rows (trip_knots e scope at ks) (range_with_len 1 e.count) (block i k) h in
      let w = in_numbers e.count 1 r.0 r.1 in
      let low = w.0 in
      let high = w.1 in
      let b = by r.0 (in_parts (block i k) (unit_knots ks r.0) (control (trip_end e scope at r.0) ∷ []) r.2) in
      let same = b.0 in
      (omega (arith, same, low), omega (arith, same, high), b.1)
    where
      by : (n : ℕ) → IsIn (block i k) (unit_knots ks n) ⊎ IsIn (block i k) (control (trip_end e scope at n) ∷ []) → (i ≡ n) × IsIn k ks
      by n (inl j) = pi_block_of ks n i k j
      by n (inr (inl q)) = absurd cc
      by n (inr (inr none)) = absurd none

  -- a control is the entry or an end
  pub control_is : (seen : List Seen) (ks : List ℕ) (c : List Act) → IsIn (control c) (loop_knots e scope at seen ks) → (c ≡ loop_entry seen e scope at ∷ []) ⊎ ((i : ℕ) × (c ≡ trip_end e scope at i))
  control_is seen ks c (inl q) = inl (same_control c (loop_entry seen e scope at ∷ []) q)
  control_is seen ks c (inr h) =
      let r = in_rows (trip_knots e scope at ks) (range_with_len 1 e.count) (control c) h in
      inr (r.0, by r.0 (in_parts (control c) (unit_knots ks r.0) (control (trip_end e scope at r.0) ∷ []) r.2))
    where
      by : (i : ℕ) → IsIn (control c) (unit_knots ks i) ⊎ IsIn (control c) (control (trip_end e scope at i) ∷ []) → c ≡ trip_end e scope at i
      by i (inl j) = absurd (none_of_units ks i c j)
      by i (inr (inl q)) = same_control c (trip_end e scope at i) q
      by i (inr (inr none)) = absurd none

module _ (idle : Cell → Bool) where
  reads_alone : (n : ℕ) (seen : List Seen) → WriteWithin idle (numbered n seen)
  reads_alone n [] = tt
  reads_alone n (cell_seen c content ∷ more) = (tt, reads_alone (suc n) more)
  reads_alone n (index_seen c v ∷ more) = (tt, reads_alone n more)

  within_append : (xs ys : List Touch) → WriteWithin idle xs → WriteWithin idle ys → WriteWithin idle (xs ++ ys)
  within_append [] ys h k = k
  within_append (t ∷ xs) ys h k = (h.0, within_append xs ys h.1 k)

  one_act : (a : Act) → WriteWithin idle a.touches → WriteWithin idle (touches_of (a ∷ []))
  one_act a h = subst (WriteWithin idle) (sym (append-nil a.touches)) h

  module _ (e : Entered) (scope : Scope) (serial : e.head.parallel ≡ false) (inner : e.inner ≡ []) (variable : idle (cell_of scope e.head.variable) ≡ true) (private : (y : List ℕ) → IsIn y e.head.private → idle (cell_of scope y) ≡ true) where
    undefined_within : (n : ℕ) (ys : List (List ℕ)) → ((y : List ℕ) → IsIn y ys → idle (cell_of scope y) ≡ true) → WriteWithin idle (undefined_by scope n ys)
    undefined_within n [] h = tt
    undefined_within n (y ∷ ys) h = (h y (inl refl), undefined_within (suc n) ys (λ z i. h z (inr i)))

    exit_within : WriteWithin idle (exit_touches e scope)
    exit_within = (
      variable,
      within_append (undefined_by scope e.behind_bounds e.head.private) (undefined_all scope e.inner) (undefined_within e.behind_bounds e.head.private private)
          (subst (λ (xs : List (List ℕ)). WriteWithin idle (undefined_all scope xs)) (sym inner) tt),
    )

    none_within : (n : ℕ) → WriteWithin idle (exit_when_none n e scope)
    none_within n = go (n == 0)
      where
        go : (b : Bool) → WriteWithin idle (if b then exit_touches e scope else [])
        go true = exit_within
        go false = tt

    entry_within : (seen : List Seen) (at : Place) → WriteWithin idle (touches_of (loop_entry seen e scope at ∷ []))
    entry_within seen at = one_act (loop_entry seen e scope at) (within_append (numbered 1 seen) (exit_when_none e.count e scope) (reads_alone 1 seen) (none_within e.count))

    end_within : (at : Place) (j : ℕ) → WriteWithin idle (touches_of (trip_end e scope at j))
    end_within at j =
        subst (λ (acts : List Act). WriteWithin idle (touches_of acts)) (sym (end_in_order e scope at j (e.count - j) serial refl))
        (one_act (act (ended_turn (e.count - j)) at (exit_when_none (e.count - j) e scope)) (none_within (e.count - j)))

    pub controls_within : (at : Place) (seen : List Seen) (ks : List ℕ) (c : List Act) → IsIn (control c) (loop_knots e scope at seen ks) → WriteWithin idle (touches_of c)
    controls_within at seen ks c i = by (control_is e scope at seen ks c i)
      where
        by : (c ≡ loop_entry seen e scope at ∷ []) ⊎ ((j : ℕ) × (c ≡ trip_end e scope at j)) → WriteWithin idle (touches_of c)
        by (inl q) = subst (λ (acts : List Act). WriteWithin idle (touches_of acts)) (sym q) (entry_within seen at)
        by (inr r) = subst (λ (acts : List Act). WriteWithin idle (touches_of acts)) (sym r.1) (end_within at r.0)

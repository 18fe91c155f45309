-- A DO as a list that is woven of its trips and of ends that do nothing; what leaves the DO is the last block.
use Rattle.std.proofs.Common.{◌≡◌, ℕ, zero, suc, ◌+◌, ◌-◌, ◌<◌, ◌≤◌, List, [], ◌∷◌, ◌++◌, Bool, true, false, eqb-true, refl, sym, ap, ◌∙◌, inl, inr, arith, append_assoc, append-nil, if◌then◌else◌}
use Rattle.std.specs.Prelude.{◌==◌, ◌||◌, nat_le}
use Rattle.std.specs.List.{flat_map, range_with_len}
use Rattle.std.proofs.Math.Nat.{eq-or-lt_of_le}
use Rattle.std.proofs.lemmas.Bool.Decides.{nat_tests}
use Rattle.ped_bodies.specs.ped_store.specs.Acts.{Touch, Place, Act, ended_turn, closed}
use Rattle.ped_bodies.specs.ped_laws.specs.Acts.Fitting.{touches_of}
use Rattle.ped_bodies.specs.ped_eval.specs.Scopes.{Scope}
use Rattle.ped_bodies.specs.ped_eval.specs.Loops.{Entered, exit_touches, exit_when_none}
use Rattle.ped_bodies.specs.ped_laws.specs.Runs.Replaying.{act}
use Rattle.ped_bodies.specs.Trips.{trip_end, trips, loop_close}
use Rattle.ped_bodies.proofs.BodyLaws.TripLists.{end_in_order, end_parallel, close_in_order, close_of_none, close_parallel}

pub le_true : (k n : ℕ) → k ≤ n → nat_le k n ≡ true
le_true k n h = grind (arith, nat_tests, h)

pub le_false : (k n : ℕ) → n < k → nat_le k n ≡ false
le_false k n h = grind (arith, nat_tests, h)

some_left : (n : ℕ) → 0 < n → (n == 0) ≡ false
some_left n h = grind (arith, eqb-true, h)

-- the first numbers of a row, and one of them; and two of them
pub one_at : {X : Type 0} (g : ℕ → List X) (m a k : ℕ) → a ≤ k → k < a + m → (xs : List X) × (ys : List X) × (flat_map g (range_with_len a m) ≡ xs ++ (g k ++ ys))
one_at g zero a k h less = absurd (omega (arith, h, less))
one_at g (suc m) a k h less = elim (eq-or-lt_of_le h) [
  | inl e ↦ ([], flat_map g (range_with_len (a + 1) m), ap (λ (j : ℕ). g j ++ flat_map g (range_with_len (a + 1) m)) e)
  | inr later ↦ (
      let r = one_at g m (a + 1) k (omega (arith, later)) (omega (arith, less)) in
      (g a ++ r.0, r.1, ap (λ xs. g a ++ xs) r.2 ∙ sym (append_assoc (g a) r.0 (g k ++ r.1)))
      )
]

pub two_at : {X : Type 0} (g : ℕ → List X) (m a k j : ℕ) → a ≤ k → k < j → j < a + m → (xs : List X) × (ys : List X) × (zs : List X) × (flat_map g (range_with_len a m) ≡ xs ++ (g k ++ (ys ++ (g j ++ zs))))
two_at g zero a k j h between less = absurd (omega (arith, h, between, less))
two_at g (suc m) a k j h between less = elim (eq-or-lt_of_le h) [
  | inl e ↦ (
      let r = one_at g m (a + 1) j (omega (arith, h, between)) (omega (arith, less)) in
      ([], r.0, r.1, ap (λ (i : ℕ). g i ++ flat_map g (range_with_len (a + 1) m)) e ∙ ap (λ xs. g k ++ xs) r.2)
      )
  | inr later ↦ (
      let r = two_at g m (a + 1) k j (omega (arith, later)) between (omega (arith, less)) in
      (g a ++ r.0, r.1, r.2, ap (λ xs. g a ++ xs) r.3 ∙ sym (append_assoc (g a) r.0 (g k ++ (r.1 ++ (g j ++ r.2)))))
      )
]

module _ (e : Entered) (scope : Scope) (at : Place) where
  -- the end of an iteration that isn't the last: it touches nothing
  abbrev pub quiet_end : ℕ → List Act
  quiet_end k = if e.head.parallel || nat_le e.count k then [] else act (ended_turn (e.count - k)) at [] ∷ []

  -- the act that leaves the DO behind an iteration
  abbrev pub leaving : List Act
  leaving = if e.count == 0 then [] else act (if e.head.parallel then closed else ended_turn 0) at (exit_touches e scope) ∷ []

  pub quiet_touches : (k : ℕ) → touches_of (quiet_end k) ≡ []
  quiet_touches k = go (e.head.parallel || nat_le e.count k)
    where
      go : (b : Bool) → touches_of (if b then [] else act (ended_turn (e.count - k)) at [] ∷ []) ≡ []
      go true = refl
      go false = refl

  quiet_last : (k : ℕ) → e.count ≤ k → quiet_end k ≡ []
  quiet_last k h = ap (λ (b : Bool). if e.head.parallel || b then [] else act (ended_turn (e.count - k)) at [] ∷ []) (le_true e.count k h) ∙ go e.head.parallel
    where
      go : (b : Bool) → (if b || true then [] else act (ended_turn (e.count - k)) at [] ∷ []) ≡ []
      go true = refl
      go false = refl

  quiet_before : (k : ℕ) → k < e.count → quiet_end k ≡ trip_end e scope at k
  quiet_before k less = go e.head.parallel refl
    where
      none : exit_when_none (e.count - k) e scope ≡ []
      none = ap (λ (b : Bool). if b then exit_touches e scope else []) (some_left (e.count - k) (omega (arith, less)))

      go : (b : Bool) → e.head.parallel ≡ b → quiet_end k ≡ trip_end e scope at k
      go true q = ap (λ (b : Bool). if b || nat_le e.count k then [] else act (ended_turn (e.count - k)) at [] ∷ []) q ∙ sym (end_parallel e scope at k q)
      go false q =
          (λ i. if q i || le_false e.count k less i then [] else act (ended_turn (e.count - k)) at [] ∷ [])
          ∙ sym (end_in_order e scope at k (e.count - k) q refl ∙ ap (λ (ts : List Touch). act (ended_turn (e.count - k)) at ts ∷ []) none)

  -- the last end and the close are what leaves the DO
  last_part : (k more : ℕ) → e.count ≡ suc more → e.count ≡ k → trip_end e scope at k ++ loop_close e scope at ≡ leaving
  last_part k more some same = go e.head.parallel refl
    where
      left : (b : Bool) → e.head.parallel ≡ b → leaving ≡ act (if b then closed else ended_turn 0) at (exit_touches e scope) ∷ []
      left b q =
          ap (λ (r : Bool). if r then [] else act (if e.head.parallel then closed else ended_turn 0) at (exit_touches e scope) ∷ []) (some_left e.count (omega (arith, some)))
          ∙ ap (λ (r : Bool). act (if r then closed else ended_turn 0) at (exit_touches e scope) ∷ []) q

      go : (b : Bool) → e.head.parallel ≡ b → trip_end e scope at k ++ loop_close e scope at ≡ leaving
      go true q = (λ i. end_parallel e scope at k q i ++ close_parallel e scope at more q some i) ∙ sym (left true q)
      go false q = (λ i. end_in_order e scope at k 0 q (omega (arith, same)) i ++ close_in_order e scope at q i) ∙ sym (left false q)

  module _ (trip : ℕ → List Act) where
    -- iteration k, and behind the last one what leaves the DO
    abbrev pub trip_or_exit : ℕ → List Act
    trip_or_exit k = if nat_le k e.count then trip k else leaving

    -- with its end
    abbrev pub whole_trip : ℕ → List Act
    whole_trip k = trip_or_exit k ++ (quiet_end k ++ [])

    pub is_trip : (k : ℕ) → k ≤ e.count → trip_or_exit k ≡ trip k
    is_trip k h = ap (λ (b : Bool). if b then trip k else leaving) (le_true k e.count h)

    pub is_exit : (k : ℕ) → e.count < k → trip_or_exit k ≡ leaving
    is_exit k h = ap (λ (b : Bool). if b then trip k else leaving) (le_false k e.count h)

    exit_alone : (k : ℕ) → e.count < k → whole_trip k ≡ leaving
    exit_alone k h = (λ i. is_exit k h i ++ (quiet_last k (omega (arith, h)) i ++ [])) ∙ append-nil leaving

    last_two : (k more : ℕ) → e.count ≡ suc more → e.count ≡ k → whole_trip k ++ (whole_trip (k + 1) ++ []) ≡ trips e scope at trip k 1 ++ loop_close e scope at
    last_two k more some same =
        (λ i. (is_trip k (omega (arith, same)) i ++ (quiet_last k (omega (arith, same)) i ++ [])) ++ (exit_alone (k + 1) (omega (arith, same)) i ++ []))
        ∙ (λ i. append-nil (trip k) i ++ append-nil leaving i)
        ∙ ap (λ (acts : List Act). trip k ++ acts) (sym (last_part k more some same))
        ∙ sym (append_assoc (trip k) (trip_end e scope at k) (loop_close e scope at))
        ∙ ap (λ (acts : List Act). acts ++ loop_close e scope at) (sym (append-nil (trip k ++ trip_end e scope at k)))

    rest_from : (m k more : ℕ) → e.count ≡ suc more → k + suc m ≡ e.count + 1 → flat_map whole_trip (range_with_len k (suc (suc m))) ≡ trips e scope at trip k (suc m) ++ loop_close e scope at
    rest_from zero k more some whole = last_two k more some (omega (arith, whole))
    rest_from (suc m) k more some whole =
        (λ i. (is_trip k (omega (arith, whole)) i ++ (quiet_before k (omega (arith, whole)) i ++ [])) ++ rest_from m (k + 1) more some (omega (arith, whole)) i)
        ∙ (λ i. (trip k ++ append-nil (trip_end e scope at k) i) ++ (trips e scope at trip (k + 1) (suc m) ++ loop_close e scope at))
        ∙ sym (append_assoc (trip k ++ trip_end e scope at k) (trips e scope at trip (k + 1) (suc m)) (loop_close e scope at))

    -- what follows the entry is woven so
    pub rest_is : flat_map whole_trip (range_with_len 1 (e.count + 1)) ≡ trips e scope at trip 1 e.count ++ loop_close e scope at
    rest_is = by e.count refl
      where
        counted : (n m : ℕ) → n ≡ m → flat_map whole_trip (range_with_len 1 n) ≡ flat_map whole_trip (range_with_len 1 m)
        counted n m q = ap (λ (i : ℕ). flat_map whole_trip (range_with_len 1 i)) q

        none : e.count ≡ 0 → leaving ≡ []
        none q = λ i. if q i == 0 then [] else act (if e.head.parallel then closed else ended_turn 0) at (exit_touches e scope) ∷ []

        by : (n : ℕ) → e.count ≡ n → flat_map whole_trip (range_with_len 1 (e.count + 1)) ≡ trips e scope at trip 1 e.count ++ loop_close e scope at
        by zero q =
            counted (e.count + 1) 1 (omega (arith, q)) ∙ append-nil (whole_trip 1) ∙ exit_alone 1 (omega (arith, q)) ∙ none q ∙ sym (close_of_none e scope at q)
            ∙ ap (λ (n : ℕ). trips e scope at trip 1 n ++ loop_close e scope at) (sym q)
        by (suc more) q =
            counted (e.count + 1) (suc (suc more)) (omega (arith, q)) ∙ rest_from more 1 more q (omega (arith, q))
            ∙ ap (λ (n : ℕ). trips e scope at trip 1 n ++ loop_close e scope at) (sym q)

-- The iterations of an open loop by their places.
use Rattle.std.proofs.Common.{◌≡◌, ◌≢◌, ◌<◌, ◌≤◌, ℕ, zero, suc, ◌+◌, ◌%◌, ◌/◌, Bool, true, false, Option, Some, None, if◌then◌else◌, refl, sym, ap, ◌∙◌, arith}
use Rattle.ped_store.specs.Stores.{Store}
use Rattle.ped_store.specs.Acts.{closed}
use Rattle.ped_interleavings.specs.ped_eval.specs.Scopes.{Setting, Scope, place_of}
use Rattle.ped_interleavings.specs.ped_eval.specs.Loops.{Entered, exit_touches}
use Rattle.ped_interleavings.specs.Lefts.{Left, more_lefts, lefts_by, is_finished, many, one_on, unfinished, or_else, with_left, open_loop}
use Rattle.ped_interleavings.specs.Steps.{Next, went, act_of, inside, opened_step, step, step_at}
use Rattle.ped_machine.specs.Opens.{lefts_of}

-- there are so many
pub many_of : (n : ℕ) (f : ℕ → Left) → many (lefts_of n f) ≡ n
many_of zero f = refl
many_of (suc n) f = ap (λ k. k + 1) (many_of n (λ j. f (suc j))) ∙ one n
  where
    one : (n : ℕ) → n + 1 ≡ suc n
    one n = omega arith

-- the same items
pub same_of : (n : ℕ) (f g : ℕ → Left) → ((i : ℕ) → i < n → f i ≡ g i) → lefts_of n f ≡ lefts_of n g
same_of zero f g h = refl
same_of (suc n) f g h = λ i. more_lefts (h 0 first i) (same_of n (λ j. f (suc j)) (λ j. g (suc j)) (λ j k. h (suc j) (next j k)) i)
  where
    first : 0 < suc n
    first = omega arith

    next : (j : ℕ) → j < n → suc j < suc n
    next j k = omega (arith, k)

-- another item at a place
pub with_of : (n j : ℕ) (f g : ℕ → Left) → j < n → ((i : ℕ) → i < n → i ≢ j → g i ≡ f i) → with_left j (g j) (lefts_of n f) ≡ lefts_of n g
with_of zero j f g k h = absurd (none k)
  where
    none : j < 0 → ⊥
    none k = omega (arith, k)
with_of (suc n) zero f g k h = ap (more_lefts (g 0)) (same_of n (λ j. f (suc j)) (λ j. g (suc j)) (λ j b. sym (h (suc j) (next j b) (other j))))
  where
    next : (j : ℕ) → j < n → suc j < suc n
    next j k = omega (arith, k)

    other : (j : ℕ) → suc j ≢ 0
    other j e = omega (arith, e)
with_of (suc n) (suc j) f g k h =
    let less : j < n = omega (arith, k) in
    let first : 0 < suc n = omega arith in
    let rest = with_of n j (λ i. f (suc i)) (λ i. g (suc i)) less (λ i b d. h (suc i) (next i b) (other i d)) in
    λ i. more_lefts (sym (h 0 first apart) i) (rest i)
  where
    next : (i : ℕ) → i < n → suc i < suc n
    next i k = omega (arith, k)

    other : (i : ℕ) → i ≢ j → suc i ≢ suc j
    other i d e = d (omega (arith, e))

    apart : 0 ≢ suc j
    apart e = omega (arith, e)

-- none is unfinished
pub unfinished_none : (n j : ℕ) (f : ℕ → Left) → ((k : ℕ) → j ≤ k → k < n → is_finished (f k) ≡ true) → unfinished j (lefts_of n f) ≡ None
unfinished_none zero j f h = refl
unfinished_none (suc n) zero f h =
    let first : 0 ≤ 0 = omega arith in
    let less : 0 < suc n = omega arith in
    ap (λ b. if b then one_on (unfinished zero (lefts_of n (λ i. f (suc i)))) else Some 0) (h 0 first less)
    ∙ ap one_on (unfinished_none n 0 (λ i. f (suc i)) (λ k a b. h (suc k) (omega (arith, a)) (omega (arith, b))))
unfinished_none (suc n) (suc j) f h = ap one_on (unfinished_none n j (λ i. f (suc i)) (λ k a b. h (suc k) (omega (arith, a)) (omega (arith, b))))

-- the first that is unfinished
pub unfinished_first : (n j i : ℕ) (f : ℕ → Left) → j ≤ i → i < n → is_finished (f i) ≡ false → ((k : ℕ) → j ≤ k → k < i → is_finished (f k) ≡ true) → unfinished j (lefts_of n f) ≡ Some i
unfinished_first zero j i f a b u h = absurd (none b)
  where
    none : i < 0 → ⊥
    none k = omega (arith, k)
unfinished_first (suc n) zero zero f a b u h = ap (λ b. if b then one_on (unfinished zero (lefts_of n (λ i. f (suc i)))) else Some 0) u
unfinished_first (suc n) zero (suc i) f a b u h =
    let first : 0 ≤ 0 = omega arith in
    let less : 0 < suc i = omega arith in
    ap (λ b. if b then one_on (unfinished zero (lefts_of n (λ i. f (suc i)))) else Some 0) (h 0 first less)
    ∙ ap one_on (unfinished_first n 0 i (λ i. f (suc i)) (omega arith) (omega (arith, b)) u (λ k a b. h (suc k) (omega (arith, a)) (omega (arith, b))))
unfinished_first (suc n) (suc j) zero f a b u h = absurd (none a)
  where
    none : suc j ≤ 0 → ⊥
    none k = omega (arith, k)
unfinished_first (suc n) (suc j) (suc i) f a b u h =
    ap one_on (unfinished_first n j i (λ i. f (suc i)) (omega (arith, a)) (omega (arith, b)) u (λ k a b. h (suc k) (omega (arith, a)) (omega (arith, b))))

one_less : (i : ℕ) (o : Option ℕ) → one_on o ≡ Some i → (j : ℕ) × ((o ≡ Some j) × (i ≡ suc j))
one_less i None h = absurd cc
one_less i (Some j) h = (j, (refl, cc))

-- what is found is unfinished
pub unfinished_is : (n j i : ℕ) (f : ℕ → Left) → unfinished j (lefts_of n f) ≡ Some i → (i < n) × (is_finished (f i) ≡ false)
unfinished_is zero j i f h = absurd cc
unfinished_is (suc n) zero i f h = by (is_finished (f 0)) refl (λ k. unfinished_is n 0 k (λ x. f (suc x)))
  where
    by : (b : Bool) → is_finished (f 0) ≡ b → ((k : ℕ) → unfinished 0 (lefts_of n (λ x. f (suc x))) ≡ Some k → (k < n) × (is_finished (f (suc k)) ≡ false)) → (i < suc n) × (is_finished (f i) ≡ false)
    by true e behind =
        let q = one_less i (unfinished 0 (lefts_of n (λ k. f (suc k)))) (sym (ap (λ b. if b then one_on (unfinished zero (lefts_of n (λ k. f (suc k)))) else Some 0) e) ∙ h) in
        let k = behind q.0 q.1.0 in
        let is : i ≡ suc q.0 = q.1.1 in
        (omega (arith, k.0, is), ap (λ (x : ℕ). is_finished (f x)) is ∙ k.1)
    by false e behind =
        let w : Some 0 ≡ Some i = sym (ap (λ b. if b then one_on (unfinished zero (lefts_of n (λ k. f (suc k)))) else Some 0) e) ∙ h in
        let is : 0 ≡ i = cc in
        (omega (arith, is), ap (λ (x : ℕ). is_finished (f x)) (sym is) ∙ e)
unfinished_is (suc n) (suc j) i f h =
    let q = one_less i (unfinished j (lefts_of n (λ k. f (suc k)))) h in
    let k = unfinished_is n j q.0 (λ k. f (suc k)) q.1.0 in
    let is : i ≡ suc q.0 = q.1.1 in
    (omega (arith, k.0, is), ap (λ (x : ℕ). is_finished (f x)) is ∙ k.1)

-- so is what is picked
pub picked_is : (n j k i : ℕ) (f : ℕ → Left) → Some i ≡ or_else (unfinished j (lefts_of n f)) (unfinished k (lefts_of n f)) → (i < n) × (is_finished (f i) ≡ false)
picked_is n j k i f h = by (unfinished j (lefts_of n f)) refl h
  where
    by : (o : Option ℕ) → unfinished j (lefts_of n f) ≡ o → Some i ≡ or_else o (unfinished k (lefts_of n f)) → (i < n) × (is_finished (f i) ≡ false)
    by (Some x) e q = unfinished_is n j i f (e ∙ sym q)
    by None e q = unfinished_is n k i f (sym q)

-- items by their numbers from 1
pub by_numbers : (n : ℕ) (item : ℕ → Left) → lefts_by n 1 item ≡ lefts_of n (λ j. item (j + 1))
by_numbers n item = go n 1 item (λ j. item (j + 1)) (λ j. refl)
  where
    go : (n k : ℕ) (item g : ℕ → Left) → ((j : ℕ) → g j ≡ item (j + k)) → lefts_by n k item ≡ lefts_of n g
    go zero k item g h = refl
    go (suc n) k item g h = λ i. more_lefts (sym (h 0 ∙ ap item (front k)) i) (go n (k + 1) item (λ j. g (suc j)) (λ j. h (suc j) ∙ ap item (moved j k)) i)
      where
        moved : (j k : ℕ) → suc j + k ≡ j + (k + 1)
        moved j k = omega arith

        front : (k : ℕ) → 0 + k ≡ k
        front k = omega arith

-- the step of the iteration at a place
pub step_at_of : (p : Setting) (n j : ℕ) (f : ℕ → Left) (c : ℕ) (s : Store) → j < n → step_at p (lefts_of n f) j c s ≡ step p (f j) c s
step_at_of p zero j f c s h = absurd (none h)
  where
    none : j < 0 → ⊥
    none k = omega (arith, k)
step_at_of p (suc n) zero f c s h = refl
step_at_of p (suc n) (suc j) f c s h = step_at_of p n j (λ i. f (suc i)) c s (omega (arith, h))

module _ (p : Setting) (e : Entered) (n count : ℕ) (scope : Scope) (f : ℕ → Left) (rest : Left) (c : ℕ) (s : Store) where
  abbrev pub close : Next
  close = went (act_of closed (place_of p n scope) (exit_touches e scope)) rest

  abbrev pub picked : Option ℕ
  picked = or_else (unfinished (c % count) (lefts_of count f)) (unfinished 0 (lefts_of count f))

  -- the step of an open loop in which an iteration is picked
  pub picks : (j : ℕ) → picked ≡ Some j → j < count
      → step p (open_loop e n scope (lefts_of count f) rest) c s ≡ inside (step p (f j) (c / count) s) (λ l. open_loop e n scope (with_left j l (lefts_of count f)) rest)
  picks j h k =
      ap (λ N. opened_step (or_else (unfinished (c % N) (lefts_of count f)) (unfinished 0 (lefts_of count f)))
      (λ j. inside (step_at p (lefts_of count f) j (c / N) s) (λ l. open_loop e n scope (with_left j l (lefts_of count f)) rest)) close) (many_of count f)
      ∙ ap (λ o. opened_step o (λ j. inside (step_at p (lefts_of count f) j (c / count) s) (λ l. open_loop e n scope (with_left j l (lefts_of count f)) rest)) close) h
      ∙ ap (λ x. inside x (λ l. open_loop e n scope (with_left j l (lefts_of count f)) rest)) (step_at_of p count j f (c / count) s k)

  -- and in which none is
  pub closes : picked ≡ None → step p (open_loop e n scope (lefts_of count f) rest) c s ≡ close
  closes h =
      ap (λ N. opened_step (or_else (unfinished (c % N) (lefts_of count f)) (unfinished 0 (lefts_of count f)))
      (λ j. inside (step_at p (lefts_of count f) j (c / N) s) (λ l. open_loop e n scope (with_left j l (lefts_of count f)) rest)) close) (many_of count f)
      ∙ ap (λ o. opened_step o (λ j. inside (step_at p (lefts_of count f) j (c / count) s) (λ l. open_loop e n scope (with_left j l (lefts_of count f)) rest)) close) h

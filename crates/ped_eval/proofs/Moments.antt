-- Moments of a run, and what lies ahead of them.
use Rattle.std.proofs.Common.{zero, add-zero, append-nil, ◌≡◌, ◌⊎◌, inl, inr, ℕ, suc, ◌+◌, ◌<◌, List, [], ◌∷◌, ◌++◌, Bool, true, false, if◌then◌else◌, eqb, eqb-true, ltb, refl, sym, ap, ◌∙◌, arith, append_assoc}
use Rattle.std.proofs.lemmas.Bool.{ltb-true, lt-ltb}
use Rattle.std.proofs.lemmas.List.{map-append}
use Rattle.ped_store.specs.Cells.{Iteration}
use Rattle.ped_store.specs.Acts.{Turn}
use Rattle.ped_eval.specs.Scopes.{Frame, Scope, turns_of}
use Rattle.ped_eval.specs.Agreement.{path_of, row_of, is_ahead, before, before_turn}

pub itself : (n : ℕ) → eqb n n ≡ true
itself n = grind (arith, eqb-true)

less_differs : (n k : ℕ) → n < k → eqb n k ≡ false
less_differs n k h = grind (arith, eqb-true)

differs : (n k : ℕ) → (n ≡ k → ⊥) → eqb n k ≡ false
differs n k h = grind (arith, eqb-true)

cases_by : (n k : ℕ) (x : Bool) (b : Bool) → eqb n k ≡ b → (if b then x else ltb n k) ≡ true → ((n ≡ k) × (x ≡ true)) ⊎ (n < k)
cases_by n k x true e h = inl (eqb-true n k e, h)
cases_by n k x false e h = inr (ltb-true n k h)

ahead_cases : (n k : ℕ) (x : Bool) → (if eqb n k then x else ltb n k) ≡ true → ((n ≡ k) × (x ≡ true)) ⊎ (n < k)
ahead_cases n k x h = cases_by n k x (eqb n k) refl h

ahead_less : (n k : ℕ) (x : Bool) → n < k → (if eqb n k then x else ltb n k) ≡ true
ahead_less n k x h = ap (λ b. if b then x else ltb n k) (less_differs n k h) ∙ lt-ltb n k h

ahead_same : (n : ℕ) (x : Bool) → (if eqb n n then x else ltb n n) ≡ x
ahead_same n x = ap (λ b. if b then x else ltb n n) (itself n)

both_ahead : (n m j : ℕ) (x y z : Bool) → ((n ≡ m) × (x ≡ true)) ⊎ (n < m) → ((m ≡ j) × (y ≡ true)) ⊎ (m < j) → (x ≡ true → y ≡ true → z ≡ true) → (if eqb n j then z else ltb n j) ≡ true
both_ahead n m j x y z (inl p) (inl q) f = ap (λ b. if b then z else ltb n j) (ap (λ k. eqb k j) (p.0 ∙ q.0) ∙ itself j) ∙ f p.1 q.1
both_ahead n m j x y z (inl p) (inr q) f = ahead_less n j z (omega (arith, p.0, q))
both_ahead n m j x y z (inr p) (inl q) f = ahead_less n j z (omega (arith, q.0, p))
both_ahead n m j x y z (inr p) (inr q) f = ahead_less n j z (omega (arith, p, q))

-- what is ahead of a later moment is ahead of an earlier one
pub later : (a b c : List ℕ) → is_ahead a b ≡ true → is_ahead b c ≡ true → is_ahead a c ≡ true
later [] b c h k = refl
later (n ∷ ns) [] c h k = absurd cc
later (n ∷ ns) (m ∷ ms) [] h k = absurd cc
later (n ∷ ns) (m ∷ ms) (j ∷ js) h k = both_ahead n m j _ _ _ (ahead_cases n m (is_ahead ns ms) h) (ahead_cases m j (is_ahead ms js) k) (later ns ms js)

-- what both have in front doesn't count
pub front_same : (p a b : List ℕ) → is_ahead (p ++ a) (p ++ b) ≡ is_ahead a b
front_same [] a b = refl
front_same (n ∷ p) a b = ahead_same n (is_ahead (p ++ a) (p ++ b)) ∙ front_same p a b

-- a row with more behind it is ahead of the row
pub more_ahead : (a b : List ℕ) → is_ahead a (a ++ b) ≡ true
more_ahead [] b = refl
more_ahead (n ∷ a) b = ahead_same n (is_ahead a (a ++ b)) ∙ more_ahead a b

-- a front of a row isn't ahead of it
pub front_behind : (p : List ℕ) (n : ℕ) (a : List ℕ) → is_ahead (p ++ n ∷ a) p ≡ false
front_behind [] n a = refl
front_behind (m ∷ p) n a = ahead_same m (is_ahead (p ++ n ∷ a) p) ∙ front_behind p n a

row_append : (is js : List Iteration) → row_of (is ++ js) ≡ row_of is ++ row_of js
row_append [] js = refl
row_append (i ∷ is) js = ap (λ r. i.statement ∷ (i.number ∷ r)) (row_append is js)

-- the row of an iteration and those round it
pub row_inside : (f : Frame) (fs : Scope) → row_of (path_of (f ∷ fs)) ≡ row_of (path_of fs) ++ f.turn.statement ∷ (f.turn.number ∷ [])
row_inside f fs =
    ap row_of (map-append (λ (t : Turn). record { statement = t.statement; number = t.number }) (turns_of fs) (f.turn ∷ []))
    ∙ row_append (path_of fs) (record { statement = f.turn.statement; number = f.turn.number } ∷ [])

-- a later statement in the same iterations
pub next_statement : (scope : Scope) (n c : ℕ) → is_ahead (before scope n) (before scope (n + c)) ≡ true
next_statement scope n c = front_same (row_of (path_of scope)) (n ∷ []) ((n + c) ∷ []) ∙ from c
  where
    from : (c : ℕ) → is_ahead (n ∷ []) ((n + c) ∷ []) ≡ true
    from zero = rw add-zero (ahead_same n true)
    from (suc c) = ahead_less n (n + suc c) true (omega arith)

-- the first iteration behind the entry
pub first_turn : (scope : Scope) (n k : ℕ) → is_ahead (before scope n) (before_turn scope n k) ≡ true
first_turn scope n k = front_same (row_of (path_of scope)) (n ∷ []) (n ∷ (k ∷ [])) ∙ ahead_same n true

-- the first statement of an iteration
pub into_turn : (f : Frame) (fs : Scope) (m : ℕ) → is_ahead (before_turn fs f.turn.statement f.turn.number) (before (f ∷ fs) m) ≡ true
into_turn f fs m =
    ap (λ (r : List ℕ). is_ahead (before_turn fs f.turn.statement f.turn.number) (r ++ m ∷ [])) (row_inside f fs)
    ∙ more_ahead (row_of (path_of fs) ++ f.turn.statement ∷ (f.turn.number ∷ [])) (m ∷ [])

-- the copies of an iteration
pub own_copies : (f : Frame) (fs : Scope) → is_ahead (before_turn fs f.turn.statement f.turn.number) (row_of (path_of (f ∷ fs))) ≡ true
own_copies f fs =
    ap (is_ahead (before_turn fs f.turn.statement f.turn.number)) (row_inside f fs ∙ sym (append-nil (before_turn fs f.turn.statement f.turn.number)))
    ∙ more_ahead (before_turn fs f.turn.statement f.turn.number) []

-- the next iteration
pub next_turn : (f : Frame) (fs : Scope) (m : ℕ) → is_ahead (before (f ∷ fs) m) (before_turn fs f.turn.statement (f.turn.number + 1)) ≡ true
next_turn f fs m =
    ap (λ (r : List ℕ). is_ahead r (before_turn fs f.turn.statement (f.turn.number + 1))) (ap (λ (r : List ℕ). r ++ m ∷ []) (row_inside f fs) ∙ append_assoc (row_of (path_of fs)) (f.turn.statement ∷ (f.turn.number ∷ [])) (m ∷ []))
    ∙ front_same (row_of (path_of fs)) (f.turn.statement ∷ (f.turn.number ∷ (m ∷ []))) (f.turn.statement ∷ ((f.turn.number + 1) ∷ []))
    ∙ ahead_same f.turn.statement _ ∙ ahead_less f.turn.number (f.turn.number + 1) _ (omega arith)

-- the statement behind a DO
pub behind_turns : (scope : Scope) (n k c : ℕ) → 0 < c → is_ahead (before_turn scope n k) (before scope (n + c)) ≡ true
behind_turns scope n k c h = front_same (row_of (path_of scope)) (n ∷ (k ∷ [])) ((n + c) ∷ []) ∙ ahead_less n (n + c) _ (omega (arith, h))

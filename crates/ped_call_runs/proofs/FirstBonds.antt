-- What is known of names at first.
use Rattle.std.proofs.Common.{◌≡◌, ℕ, ℤ, List, [], ◌∷◌, map, Bool, true, false, ◌==◌, eqb-true, refl, ap, ◌∙◌, if◌then◌else◌}
use Rattle.std.proofs.lemmas.Bool.{and_parts, both_ways}
use Rattle.ped_base.specs.Lists.{is_same_text, is_among}
use Rattle.ped_base.proofs.NameEquality.{same_itself}
use Rattle.ped_call_runs.specs.UnitRuns.{own, is_own}
use Rattle.ped_call_runs.proofs.FollowingStores.{tight, loose, held, free, is_slack}
use Rattle.ped_call_runs.proofs.Traces.{first_bond}
use Rattle.ped_call_runs.proofs.OwnNames.{IsNoOwn}

-- names of a CALL's own may be undefined in the units alone
pub first_slack : (pairs : List (List ℕ × List ℕ)) (n : ℕ) (x : List ℕ) → is_own n x ≡ true → is_slack (first_bond pairs x) ≡ true
first_slack pairs n [] h = absurd cc
first_slack pairs n (c ∷ []) h = absurd cc
first_slack pairs n (c ∷ m ∷ y) h =
    let parts = and_parts (c == 0) (m == n) h in
    ap (λ (t : Bool). is_slack (if t then (if is_among (c ∷ m ∷ y) (map (λ p. p.0) pairs) then loose else free) else tight)) parts.0 ∙ either (is_among (c ∷ m ∷ y) (map (λ p. p.0) pairs))
  where
    either : (t : Bool) → is_slack (if t then loose else free) ≡ true
    either true = refl
    either false = refl

-- no number is known
pub first_unknown : (pairs : List (List ℕ × List ℕ)) (x : List ℕ) (n : ℤ) → first_bond pairs x ≡ held n → ⊥
first_unknown pairs [] n h = absurd cc
first_unknown pairs (c ∷ []) n h = absurd cc
first_unknown pairs (c ∷ m ∷ y) n h = go (c == 0) (is_among (c ∷ m ∷ y) (map (λ p. p.0) pairs)) h
  where
    go : (t u : Bool) → (if t then (if u then loose else free) else tight) ≡ held n → ⊥
    go true true e = absurd cc
    go true false e = absurd cc
    go false u e = absurd cc

-- other names hold the same on both sides
pub first_tight : (pairs : List (List ℕ × List ℕ)) (y : List ℕ) → IsNoOwn y → first_bond pairs y ≡ tight
first_tight pairs [] h = refl
first_tight pairs (c ∷ []) h = refl
first_tight pairs (c ∷ m ∷ y) h = go (c == 0) refl
  where
    go : (t : Bool) → (c == 0) ≡ t → (if c == 0 then (if is_among (c ∷ m ∷ y) (map (λ p. p.0) pairs) then loose else free) else tight) ≡ tight
    go false e = ap (λ (t : Bool). if t then (if is_among (c ∷ m ∷ y) (map (λ p. p.0) pairs) then loose else free) else tight) e
    go true e =
        let zero : c ≡ 0 = eqb-true c 0 e in
        absurd (both_ways (is_same_text (own m y) (c ∷ m ∷ y)) (h m y) (ap (λ (z : ℕ). is_same_text (own m y) (z ∷ m ∷ y)) zero ∙ same_itself (own m y)))

-- The next new name: those with lesser numbers that are taken are passed over.
use Rattle.std.proofs.Common.{◌≡◌, ℕ, zero, suc, ◌+◌, ◌-◌, ◌<◌, ◌≤◌, Bool, true, false, List, refl, ap, ◌∙◌, arith, if◌then◌else◌}
use Rattle.ped_base.specs.Lists.{is_among}
use Rattle.ped_links.specs.ped_units.specs.Expanding.{numbered_name, free_from}

-- one that is taken
pub passed : (tries : ℕ) (taken : List (List ℕ)) (n : ℕ) → is_among (numbered_name n) taken ≡ true → free_from (suc tries) taken n ≡ free_from tries taken (n + 1)
passed tries taken n h = ap (λ (b : Bool). if b then free_from tries taken (n + 1) else numbered_name n) h

-- one that isn't
pub stopped : (tries : ℕ) (taken : List (List ℕ)) (n : ℕ) → is_among (numbered_name n) taken ≡ false → free_from tries taken n ≡ numbered_name n
stopped zero taken n h = refl
stopped (suc tries) taken n h = ap (λ (b : Bool). if b then free_from tries taken (n + 1) else numbered_name n) h

one_more : (k : ℕ) → k + 1 + 1 ≡ suc k + 1
one_more k = omega arith

-- all those before a number
pub all_passed : (k : ℕ) (taken : List (List ℕ)) (tries : ℕ) → ((n : ℕ) → 1 ≤ n → n < k + 1 → is_among (numbered_name n) taken ≡ true) → k ≤ tries → free_from tries taken 1 ≡ free_from (tries - k) taken (k + 1)
all_passed zero taken tries h few = let same : tries ≡ tries - 0 = omega arith in ap (λ (m : ℕ). free_from m taken 1) same
all_passed (suc k) taken tries h few =
    let before = all_passed k taken tries (λ n p q. h n p (omega (arith, q))) (omega (arith, few)) in
    let left : tries - k ≡ suc (tries - suc k) = omega (arith, few) in
    before ∙ ap (λ (m : ℕ). free_from m taken (k + 1)) left ∙ passed (tries - suc k) taken (k + 1) (h (k + 1) (omega arith) (omega arith)) ∙ ap (free_from (tries - suc k) taken) (one_more k)

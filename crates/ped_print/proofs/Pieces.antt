-- One piece after the other.
use Rattle.std.proofs.Common.{◌≡◌, ℕ, suc, ◌+◌, ◌-◌, ◌/◌, ◌%◌, ◌<◌, min, List, [], ◌∷◌, ◌++◌, map, ap, append_assoc, arith}
use Rattle.std.specs.List.{range_with_len}

-- a quotient rounded up
pub rounded_up : (n : ℕ) → n / 66 + min 1 (n % 66) ≡ (n + 65) / 66
rounded_up n = omega arith

-- the numbers that are left after one of them
pub numbers_left : (k count : ℕ) → k < count → range_with_len k (count - k) ≡ k ∷ range_with_len (k + 1) (count - (k + 1))
numbers_left k count h =
    let e : count - k ≡ suc (count - (k + 1)) = omega arith in
    ap (range_with_len k) e

-- a line more, and one less that is left
pub one_more : {X : Type 0} (f : ℕ → X) (k count : ℕ) (old new start : List X) → k < count → new ≡ old ++ f k ∷ [] → old ++ map f (range_with_len k (count - k)) ≡ start → new ++ map f (range_with_len (k + 1) (count - (k + 1))) ≡ start
one_more f k count old new start h e i =
    let left = ap (map f) (numbers_left k count h) in
    let joined = append_assoc old (f k ∷ []) (map f (range_with_len (k + 1) (count - (k + 1)))) in
    cc

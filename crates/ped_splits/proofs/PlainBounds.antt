-- What the code's test of a bound tells.
use Rattle.std.proofs.Common.{◌≡◌, Bool, true, false, IsTrue, ◌↔◌, refl}

pub not_plain : {P : Type 0} (b : Bool) → b ≡ false → IsTrue b ↔ P → P → ⊥
not_plain true n is p = absurd cc
not_plain false n is p = let f : false ≡ true = is.1 p in absurd cc

pub so_plain : {P : Type 0} (b : Bool) → b ≡ true → IsTrue b ↔ P → P
so_plain true n is = is.0 refl
so_plain false n is = absurd cc

-- What a hasher is fed of a name, and that equal names are hashed alike (plain words).
use Rattle.std.specs.Prelude.{◌≡◌, ℕ, List, [], ◌∷◌, true}
use Rattle.std.specs.Cmp.{unsigned_Decides}
use Rattle.std.specs.Hash as fed
use Rattle.std.proofs.Common.{ap, refl}
use Rattle.std.proofs.lemmas.Slice.Eq.{slice_eq-Decides}
use Rattle.ped_base.specs.Lists.{is_same_text}

-- what a hasher is fed of a name: its bytes, at once
abbrev pub name_writes : List ℕ → fed.HashWrites
name_writes x = x ∷ []

-- equal names are hashed alike
pub names_hash_alike : (x y : List ℕ) → is_same_text x y ≡ true → name_writes x ≡ name_writes y
names_hash_alike x y h = ap name_writes ((slice_eq-Decides unsigned_Decides x y (is_same_text x y) refl).0 h)

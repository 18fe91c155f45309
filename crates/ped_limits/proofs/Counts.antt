-- How many references there are of one name.
use Rattle.std.proofs.Common.{◌≡◌, [], ◌∷◌, length, Bool, true, false, refl, if◌then◌else◌}
use Rattle.ped_tree.specs.Accesses.{Access}

-- none for a constant, and one for another name
pub unless_length : (b : Bool) (a : Access) → length (if b then [] else a ∷ []) ≡ (if b then 0 else 1)
unless_length true a = refl
unless_length false a = refl

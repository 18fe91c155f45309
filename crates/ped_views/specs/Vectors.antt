-- The direction vectors of a view, and the distances of its loops (Allen and Kennedy, section 3.2).
use Rattle.std.specs.Prelude.{◌≡◌, ◌⊎◌, ℕ, zero, suc, ℤ, ◌-ℤ◌, ◌*ℤ◌, List, [], ◌∷◌, ◌++◌, map, length, ◌&&◌, Option, None, if◌then◌else◌}
use Rattle.std.specs.List.{AllByRecursion}
use Rattle.ped_views.specs.declared.directions.Direction.{Direction}
use Rattle.ped_views.specs.declared.directions.Direction.TheVariants.{Before, Same, After}
use Rattle.ped_views.specs.Whole.{whole_quotient}
use Rattle.ped_views.specs.Views.{SubscriptPair, View}
use Rattle.ped_views.specs.Forms.{Form, ziv, strong_siv, weak_zero_siv, weak_crossing_siv, other_form, form_of, is_strong_in}
use Rattle.ped_views.specs.Excluded.{Excludes, loop_at}

-- all vectors over n loops, in the order `<`, `=`, `>`, the outermost loop first (Allen and Kennedy, section 2.2.4)
abbrev pub all_vectors : ℕ → List (List Direction)
all_vectors zero = [] ∷ []
all_vectors (suc n) = map (λ v. Before ∷ v) (all_vectors n) ++ map (λ v. Same ∷ v) (all_vectors n) ++ map (λ v. After ∷ v) (all_vectors n)

-- the second list has the items of the first that have P, in their order, and no others (plain words)
abbrev pub AreThose : {X : Type 0} → (X → Type 0) → List X → List X → Type 0
AreThose P [] chosen = chosen ≡ []
AreThose P (x ∷ xs) chosen = (P x × ((rest : List _) × (chosen ≡ x ∷ rest) × AreThose P xs rest)) ⊎ (¬ (P x) × AreThose P xs chosen)

-- no position of the view excludes the vector, and no group: a group excludes where its positions do, and one without positions is never asked (Allen and Kennedy, section 3.1)
abbrev pub IsPossible : View → List Direction → Type 0
IsPossible v vector = AllByRecursion (λ p. ¬ (Excludes v p vector)) v.positions

-- the vectors of the view: all of 3^n over its n common loops that no position and no group excludes
abbrev pub AreVectors : View → List (List Direction) → Type 0
AreVectors v vectors = AreThose (IsPossible v) (all_vectors (length v.loops)) vectors

-- (c1 - c2) / (a * step) of a strong SIV pair in a loop of that step, where it is whole (Allen and Kennedy, section 3.3.2)
abbrev pub strong_distance : Form → ℤ → SubscriptPair → Option ℤ
strong_distance (strong_siv o) step p = whole_quotient (p.source.constant -ℤ p.sink.constant) (o.at_source *ℤ step)
strong_distance ziv step p = None
strong_distance (weak_zero_siv o) step p = None
strong_distance (weak_crossing_siv o) step p = None
strong_distance other_form step p = None

-- the distance by the first of these positions that is strong SIV in the loop (Allen and Kennedy, section 3.3.2; this project)
abbrev pub first_distance : ℕ → ℤ → List SubscriptPair → Option ℤ
first_distance k step [] = None
first_distance k step (p ∷ ps) = if p.usable && is_strong_in k (form_of p) then strong_distance (form_of p) step p else first_distance k step ps

-- the distance of the common loop at place k, in iterations; None where it is unknown (Allen and Kennedy, section 2.2.4)
abbrev pub distance : View → ℕ → Option ℤ
distance v k = first_distance k (loop_at v k).step v.positions

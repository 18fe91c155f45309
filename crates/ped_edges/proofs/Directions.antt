-- The code's tests of directions.
use Rattle.std.proofs.Common.{◌≡◌, Decides, List, refl}
use Rattle.std.specs.Cmp.Lexicographic.{pointwise, pointwise_decides}
use Rattle.ped_views.specs.declared.directions.Direction.{Direction}
use Rattle.ped_views.specs.declared.directions.Direction.TheVariants.{Before, Same, After}
use Rattle.ped_views.specs.contracts.directions.DirectionPartialEq.TheImpl as code
use Rattle.ped_edges.specs.Rows.{same_direction, are_signs}

-- the code's test of two directions
pub direction_is : (a b : Direction) → (code.eq-value).it a b ≡ same_direction a b
direction_is Before Before = refl
direction_is Before Same = refl
direction_is Before After = refl
direction_is Same Before = refl
direction_is Same Same = refl
direction_is Same After = refl
direction_is After Before = refl
direction_is After Same = refl
direction_is After After = refl

-- the test tells whether two directions are the same
pub same_direction-decides : (a b : Direction) → Decides (same_direction a b) (a ≡ b)
same_direction-decides Before Before = (λ _. refl, λ _. refl)
same_direction-decides Same Same = (λ _. refl, λ _. refl)
same_direction-decides After After = (λ _. refl, λ _. refl)
same_direction-decides Before Same = (λ e. cc, λ e. cc)
same_direction-decides Before After = (λ e. cc, λ e. cc)
same_direction-decides Same Before = (λ e. cc, λ e. cc)
same_direction-decides Same After = (λ e. cc, λ e. cc)
same_direction-decides After Before = (λ e. cc, λ e. cc)
same_direction-decides After Same = (λ e. cc, λ e. cc)

-- the code's test of two lists of directions
pub directions_are : (xs ys : List Direction) → pointwise (code.eq-value).it xs ys ≡ are_signs xs ys
directions_are xs ys = λ i. pointwise (λ a b. direction_is a b i) xs ys

-- the test tells whether two lists of directions are the same
pub are_signs-decides : (xs ys : List Direction) → Decides (are_signs xs ys) (xs ≡ ys)
are_signs-decides = pointwise_decides same_direction-decides

-- the test tells whether two lists of vectors are the same
pub are_vectors-decides : (xs ys : List (List Direction)) → Decides (pointwise are_signs xs ys) (xs ≡ ys)
are_vectors-decides = pointwise_decides are_signs-decides

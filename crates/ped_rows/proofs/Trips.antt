-- Iterations of DO loops with constant bounds, which are the same in each run (ANSI X3.9-1978, section 11.10; this project).
use Rattle.std.specs.Prelude.{◌≡◌, ℕ, ◌-◌, ◌<◌, ◌≤◌, ℤ, pos, ◌+ℤ◌, ◌*ℤ◌, List, [], ◌∷◌, map, length, take, drop, Some}
use Rattle.std.specs.Option.{unwrap_or}
use Rattle.ped_laws.specs.ped_graph.specs.ped_views.specs.declared.directions.Direction.{Direction}
use Rattle.ped_laws.specs.ped_graph.specs.ped_views.specs.declared.directions.Direction.TheVariants.{Before, Same, After}
use Rattle.ped_laws.specs.ped_graph.specs.ped_views.specs.Excluded.{Indices}
use Rattle.ped_laws.specs.ped_flow.specs.ped_tree.specs.Tree.{Head}
use Rattle.ped_laws.specs.ped_flow.specs.ped_tree.specs.Nests.{Loop, common_nest}
use Rattle.ped_laws.specs.ped_flow.specs.ped_tree.specs.Constants.ConstantExpressions.{constant_value}
use Rattle.ped_laws.specs.ped_flow.specs.PlainBounds.{Values}
use Rattle.ped_laws.specs.ped_eval.specs.ped_store.specs.Acts.{Turn}
use Rattle.ped_laws.specs.ped_eval.specs.Loops.{increment, iteration_count}

-- a DO with constant bounds has an iteration with this number, from 1 (ANSI X3.9-1978, section 11.10.3)
pub record IsTrip (constants : Values) (h : Head) (k : ℕ) : Type 0 where
  pub first : ℤ
  pub last : ℤ
  pub first_is : constant_value constants h.first ≡ Some first
  pub last_is : constant_value constants h.last ≡ Some last
  pub from : 1 ≤ k
  pub to : k ≤ iteration_count first last (increment constants h)

-- one such iteration of each DO of a nest, by their numbers (ANSI X3.9-1978, section 11.10.3)
abbrev pub AreTrips : Values → List Loop → List ℕ → Type 0
AreTrips constants (l ∷ ls) (k ∷ ks) = IsTrip constants l.head k × AreTrips constants ls ks
AreTrips constants [] [] = Unit {0}
AreTrips constants [] (k ∷ ks) = ⊥
AreTrips constants (l ∷ ls) [] = ⊥

-- the value of the variable in iteration k of a DO with constant bounds: m1+(k-1)*m3 (ANSI X3.9-1978, section 11.10.7)
abbrev pub trip_value : Values → Head → ℕ → ℤ
trip_value constants h k = unwrap_or (constant_value constants h.first) (pos 0) +ℤ pos (k - 1) *ℤ increment constants h

-- the iterations of a nest with these numbers, the outermost DO's first (ANSI X3.9-1978, section 11.10)
abbrev pub turns_at : Values → List Loop → List ℕ → List Turn
turns_at constants (l ∷ ls) (k ∷ ks) = (record { statement = l.number; parallel = l.head.parallel; number = k; value = trip_value constants l.head k }) ∷ turns_at constants ls ks
turns_at constants (l ∷ ls) [] = []
turns_at constants [] ks = []

-- the values of the variables of a nest in the iterations with these numbers (ANSI X3.9-1978, section 11.10.7)
abbrev pub trip_values : Values → List Loop → List ℕ → List ℤ
trip_values constants nest ks = map (λ t. t.value) (turns_at constants nest ks)

-- the numbers of two iterations of a DO stand in this direction (Allen and Kennedy, section 2.2.4)
abbrev pub NumberStands : Direction → ℕ → ℕ → Type 0
NumberStands Before i j = i < j
NumberStands Same i j = i ≡ j
NumberStands After i j = j < i

-- at each loop round both the numbers of the iterations stand in this direction (Allen and Kennedy, section 2.2.4)
abbrev pub NumbersStand : List Direction → List ℕ → List ℕ → Type 0
NumbersStand (d ∷ ds) (i ∷ is) (j ∷ js) = NumberStands d i j × NumbersStand ds is js
NumbersStand [] is js = Unit {0}
NumbersStand (d ∷ ds) [] js = ⊥
NumbersStand (d ∷ ds) (i ∷ is) [] = ⊥

-- the values of the variables of two nests in such iterations: of the loops in both, and of the further ones (Allen and Kennedy, section 3.3)
abbrev pub indices_at : Values → List Loop → List Loop → List ℕ → List ℕ → Indices
indices_at constants source sink is js =
    let common = length (common_nest source sink) in
    record {
      source = take common (trip_values constants source is);
      sink = take common (trip_values constants sink js);
      source_inner = drop common (trip_values constants source is);
      sink_inner = drop common (trip_values constants sink js);
    }

-- Values of the loops' variables at two accesses: in their ranges, and in directions (Allen and Kennedy, section 3.3; this project).
use Rattle.std.specs.Prelude.{◌≡◌, ℕ, ℤ, pos, ◌-ℤ◌, List, [], ◌∷◌, ◌++◌, take, drop, false, IsTrue}
use Rattle.ped_flow.specs.ped_base.specs.Lists.{is_among}
use Rattle.ped_flow.specs.ped_tree.specs.Nests.{indices_of}
use Rattle.ped_flow.specs.ped_affine.specs.PairViews.{Site, Depths}
use Rattle.ped_laws.specs.Covering.Weights.{first_values}
use Rattle.ped_graph.specs.ped_views.specs.declared.directions.Direction.{Direction}
use Rattle.ped_graph.specs.ped_views.specs.Whole.{Divides}
use Rattle.ped_graph.specs.ped_views.specs.Views.{Range, SubscriptPair, View}
use Rattle.ped_graph.specs.ped_views.specs.Excluded.{InRange, Stands, Indices, difference}

-- the values i at the source and j at the sink lie in the loop's range, are in the direction, and in a steady loop are a whole number of steps apart (Allen and Kennedy, sections 2.2.4, 3.3.2)
pub record AreValues (r : Range) (d : Direction) (i j : ℤ) : Type 0 where
  pub source : InRange r i
  pub sink : InRange r j
  pub stands : Stands r d i j
  pub in_step : IsTrue r.steady → Divides r.step (j -ℤ i)

-- the same at each of the common loops, for each of which there is a direction and a value of either side (Allen and Kennedy, section 3.3)
abbrev pub CommonValues : List Range → List Direction → List ℤ → List ℤ → Type 0
CommonValues (r ∷ rs) (d ∷ ds) (i ∷ is) (j ∷ js) = AreValues r d i j × CommonValues rs ds is js
CommonValues [] [] [] [] = Unit {0}
CommonValues rs ds is js = ⊥

-- a value in the range of each loop (Allen and Kennedy, section 3.3)
abbrev pub ValuesInRange : List Range → List ℤ → Type 0
ValuesInRange (r ∷ rs) (i ∷ is) = InRange r i × ValuesInRange rs is
ValuesInRange [] [] = Unit {0}
ValuesInRange rs is = ⊥

-- values of all loops around both sides, which are in the directions of this vector (Allen and Kennedy, section 3.3)
pub record StandTogether (v : View) (vector : List Direction) (at : Indices) : Type 0 where
  pub common : CommonValues v.loops vector at.source at.sink
  pub source_inner : ValuesInRange v.source_inner at.source_inner
  pub sink_inner : ValuesInRange v.sink_inner at.sink_inner

-- where the position is usable, both subscripts are equal at these values (Allen and Kennedy, section 3.1)
abbrev pub IsSolvedBy : Indices → SubscriptPair → Type 0
IsSolvedBy at p = IsTrue p.usable → difference p at ≡ pos 0

-- the values of the loops around both sides among those of all unknowns of each side, of which the loops come first (Allen and Kennedy, section 3.1)
abbrev pub indices_among : Depths → List ℤ → List ℤ → Indices
indices_among n from to = record {
  source = take n.common from;
  sink = take n.common to;
  source_inner = take n.source (drop n.common from);
  sink_inner = take n.sink (drop n.common to);
}

-- the values of the unknowns of one side: those of the loops around it, and of these other variables (Allen and Kennedy, section 3.1)
abbrev pub side_values : (List ℕ → ℤ) → Site → List (List ℕ) → List ℤ
side_values values side others = first_values values [] (indices_of side.nest ++ others)

-- the other variables have the same values on both sides (Allen and Kennedy, section 3.1)
abbrev pub AgreeOnOthers : Depths → List ℤ → List ℤ → Type 0
AgreeOnOthers n from to = drop n.source (drop n.common from) ≡ drop n.sink (drop n.common to)

-- no name is in the list twice (plain words)
abbrev pub AreDistinct : List (List ℕ) → Type 0
AreDistinct [] = Unit {0}
AreDistinct (x ∷ xs) = (is_among x xs ≡ false) × AreDistinct xs

-- A delta: what takes a graph from the state after a change of the program to that before it, and forth again (this project).
use Rattle.std.specs.Prelude.{◌≡◌, ℕ}
use Rattle.ped_graph.specs.Held.{Held}
use Rattle.ped_graph.specs.Parts.{HeldParts, Fit}

-- what a delta holds: the frame of the other state with the verdicts that this one hasn't got, and how many pairs of references its change tested; a verdict that stayed is in the graph alone (this project)
pub record HeldDelta : Type 0 where
  pub parts : HeldParts
  pub tested : ℕ

-- the delta belongs to a graph that holds the first, and a swap takes this graph to the second (this project)
abbrev pub TakesTo : HeldDelta → Held → Held → Type 0
TakesTo delta here other = Fit delta.parts here other

-- a swap of a delta and a graph gives these: the graph holds what the delta took it to, and the delta takes it back (this project)
abbrev pub IsSwap : HeldDelta → Held → HeldDelta → Held → Type 0
IsSwap delta here left there = (other : Held) → TakesTo delta here other → (there ≡ other) × TakesTo left other here

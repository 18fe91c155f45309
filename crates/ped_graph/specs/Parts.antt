-- What a graph exchanges for its own frame and verdicts: those of another program, whose pairs with the same view keep their verdicts (this project).
use Rattle.std.specs.Prelude.{◌≡◌, ◌≢◌, ℕ, List, length, Option, Some, None, slice_get, AllPairs}
use Rattle.std.specs.List.{AllByRecursion}
use Rattle.ped_views.specs.Views.{View}
use Rattle.ped_graph.specs.Held.{HeldFrame, Held}
use Rattle.ped_graph.specs.declared.parts.Kept.{Kept}

-- the frame of the other state, a slot for the verdict of each of its pairs, and which pair of the graph keeps its verdict for which slot
pub record HeldParts : Type 0 where
  pub frame : HeldFrame
  pub slots : List (Option View)
  pub kept : List Kept

-- a verdict that stays: its slot is empty, and the view of its pair is the same in both states
pub record Stays (slots : List (Option View)) (here other : Held) (k : Kept) : Type 0 where
  pub empty : slice_get slots k.there ≡ Some None
  pub view : View
  pub before : slice_get here.views k.here ≡ Some view
  pub behind : slice_get other.views k.there ≡ Some view

-- the parts take a graph that holds the first to the second: there is one slot for each pair of the frame; the slots that aren't empty have the views of their pairs; the empty ones are those for which a verdict is kept, each once, and no verdict is kept twice
pub record Fit (parts : HeldParts) (here other : Held) : Type 0 where
  pub frame : parts.frame ≡ other.frame
  pub paired : length parts.slots ≡ length parts.frame.pairs
  pub long : length parts.slots ≡ length other.views
  pub one_here : AllPairs (λ k m. k.here ≢ m.here) parts.kept
  pub one_there : AllPairs (λ k m. k.there ≢ m.there) parts.kept
  pub left : (n : ℕ) (v : View) → slice_get parts.slots n ≡ Some (Some v) → slice_get other.views n ≡ Some v
  pub stay : AllByRecursion (Stays parts.slots here other) parts.kept
  pub others : (n : ℕ) → slice_get parts.slots n ≡ Some None → (j : ℕ) × (k : Kept) × (slice_get parts.kept j ≡ Some k) × (k.there ≡ n)

-- the same, seen from the other state
abbrev pub turned : Kept → Kept
turned k = record { here = k.there; there = k.here }

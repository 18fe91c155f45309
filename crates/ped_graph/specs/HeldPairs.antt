-- Only contracts of private functions use the dependences of the pairs that a graph holds (this project).
use Rattle.std.specs.Prelude.{◌≡◌, ℕ, ◌≤◌, List, [], ◌∷◌, ◌++◌, length, filter, Bool, Some}
use Rattle.std.specs.List.{flat_map, range_with_len}
use Rattle.ped_views.specs.declared.directions.Direction.{Direction}
use Rattle.ped_views.specs.Vectors.{AreVectors}
use Rattle.ped_edges.specs.Edges.{Edge}
use Rattle.ped_edges.specs.Rows.{edge_row}
use Rattle.ped_graph.specs.Dependences.{vectors_of}
use Rattle.ped_graph.specs.Held.{Pair, held_edge, held_edges}

-- the dependences of a pair with these vectors that this many loops carry (Allen and Kennedy, section 2.2.5)
abbrev pub held_carried : Pair → List (List Direction) → ℕ → List Edge
held_carried p vectors n = flat_map (λ level. held_edge p (Some level) (vectors_of (Some level) vectors)) (range_with_len 1 n)

-- these are the dependences of a pair, which at most six loops enclose (this project)
pub record HeldPairEdges (p : Pair) (edges : List Edge) : Type 0 where
  pub few : length p.view.loops ≤ 6
  pub vectors : List (List Direction)
  pub possible : AreVectors p.view vectors
  pub divided : edges ≡ held_edges p vectors

-- these are the dependences of pairs, pair by pair (this project)
abbrev pub AreHeldEdges : List Pair → List Edge → Type 0
AreHeldEdges [] edges = edges ≡ []
AreHeldEdges (p ∷ ps) edges = (first : List Edge) × (rest : List Edge) × (edges ≡ first ++ rest) × HeldPairEdges p first × AreHeldEdges ps rest

-- the same of those dependences that are asked for (this project)
abbrev pub HaveSame : (Edge → Bool) → List Edge → List Edge → Type 0
HaveSame asked found all = filter asked found ≡ filter asked all

-- as to what is asked for, these are the dependences of a pair (this project)
abbrev pub IsHeldAsked : (Edge → Bool) → Pair → List Edge → Type 0
IsHeldAsked asked p found = (all : List Edge) × HeldPairEdges p all × HaveSame asked found all

-- as to what is asked for, these are the dependences of pairs (this project)
abbrev pub AreHeldAsked : (Edge → Bool) → List Pair → List Edge → Type 0
AreHeldAsked asked ps found = (all : List Edge) × AreHeldEdges ps all × HaveSame asked found all

-- the rows of dependences, each with a line feed after it (this project)
abbrev pub rows_of : List Edge → List ℕ
rows_of edges = flat_map (λ e. edge_row e ++ 10 ∷ []) edges

-- The order of direction vectors by the loop that carries them. Only contracts of private functions use these definitions (this project).
use Rattle.std.specs.Prelude.{◌≡◌, ℕ, ◌+◌, ◌≤◌, List, [], ◌∷◌, Option, Some, None, Bool, true, false, ⊤}
use Rattle.ped_views.specs.declared.directions.Direction.{Direction}
use Rattle.ped_edges.specs.Edges.{Edge}
use Rattle.ped_graph.specs.Marks.{mark_by}
use Rattle.ped_graph.specs.Dependences.{Carriage, carried, independent, backward, carriage_from, vectors_of, distances_of}
use Rattle.ped_graph.specs.Held.{Pair, rejects_at}
use Rattle.ped_graph.specs.declared.levels.LevelVectors.{LevelVectors}

-- the first doesn't come behind the second: what an outer loop carries comes before what an inner loop does, then what is independent of loops, and last what leads from the sink to the source (Allen and Kennedy, section 2.2.5)
abbrev pub MayPrecede : Carriage → Carriage → Type 0
MayPrecede (carried j) (carried k) = j ≤ k
MayPrecede (carried j) independent = ⊤
MayPrecede (carried j) backward = ⊤
MayPrecede independent (carried k) = ⊥
MayPrecede independent independent = ⊤
MayPrecede independent backward = ⊤
MayPrecede backward (carried k) = ⊥
MayPrecede backward independent = ⊥
MayPrecede backward backward = ⊤

-- vectors over the loops from this level on come in that order, and none comes before this
abbrev pub ComeFrom : ℕ → Carriage → List (List Direction) → Type 0
ComeFrom level c [] = ⊤
ComeFrom level c (v ∷ vs) = MayPrecede c (carriage_from level v) × ComeFrom level (carriage_from level v) vs

-- vectors come in that order, and none comes before this
abbrev pub ComeByLevel : Carriage → List (List Direction) → Type 0
ComeByLevel = ComeFrom 1

-- what is of a level: carried by its loop, or independent of loops
abbrev pub carriage_at : Option ℕ → Carriage
carriage_at (Some level) = carried level
carriage_at None = independent

-- what comes behind a level
abbrev pub carriage_behind : Option ℕ → Carriage
carriage_behind (Some level) = carried (level + 1)
carriage_behind None = backward

-- from the source to the sink: carried by a loop, or independent of loops where the source comes first (Allen and Kennedy, section 2.2.5)
abbrev pub leads_on : Bool → Carriage → Bool
leads_on is_forward (carried k) = true
leads_on is_forward independent = is_forward
leads_on is_forward backward = false

-- no loop further in than this level carries
abbrev pub IsUpTo : ℕ → Carriage → Type 0
IsUpTo last (carried k) = k ≤ last
IsUpTo last independent = ⊤
IsUpTo last backward = ⊤

-- of vectors over the loops from this level on, no loop further in than the last one carries any
abbrev pub AreUpTo : (level last : ℕ) → List (List Direction) → Type 0
AreUpTo level last [] = ⊤
AreUpTo level last (v ∷ vs) = IsUpTo last (carriage_from level v) × AreUpTo level last vs

-- vectors over so many loops come in that order
pub record AreByLevel (loops : ℕ) (vectors : List (List Direction)) : Type 0 where
  pub ordered : ComeByLevel (carried 1) vectors
  pub within : AreUpTo 1 loops vectors

-- those that are left of some vectors come in that order, are over no more loops, and have all vectors of the levels from here on
pub record AreLeft (c : Carriage) (vectors rest : List (List Direction)) : Type 0 where
  pub ordered : ComeByLevel c rest
  pub within : (loops : ℕ) → AreUpTo 1 loops vectors → AreUpTo 1 loops rest
  pub all : (level : Option ℕ) → MayPrecede c (carriage_at level) → vectors_of level rest ≡ vectors_of level vectors

-- the dependence of a pair and a level, which has these vectors
abbrev pub edge_by : Pair → LevelVectors → Edge
edge_by p l = record {
  source = p.source;
  sink = p.sink;
  name = p.name;
  kind = p.kind;
  level = l.level;
  vectors = l.vectors.now;
  distances = distances_of p.view;
  mark = mark_by p.proven (rejects_at p.rejecting l.level);
}

-- The pi-blocks of units that have to stay in one DO, and their order (Allen and Kennedy, sections 2.4, 6.2.2).
use Rattle.std.specs.Prelude.{◌≡◌, ℕ, zero, suc, ◌==◌, List, [], ◌∷◌, length, filter, slice_index_or, Bool, false, not, ◌&&◌, ◌||◌}
use Rattle.std.specs.List.{list_all, range_with_len}
use Rattle.ped_bits.specs.Reaching.{row_of}
use Rattle.ped_tree.specs.Tree.{Head, StmtTrees, ProgramTree}
use Rattle.ped_edges.specs.Edges.{Edge}
use Rattle.ped_rules.specs.ped_graph.specs.Dependences.{AreEdges}
use Rattle.ped_splits.specs.Units.{arrows, IsClosure}

-- arrows lead from unit i to unit j
abbrev pub reaches : List (List Bool) → (i j : ℕ) → Bool
reaches reach i j = slice_index_or (row_of reach i) j false

-- both are one unit, or arrows lead from each to the other: they stay in one pi-block (Allen and Kennedy, section 2.4)
abbrev pub are_together : List (List Bool) → (i j : ℕ) → Bool
are_together reach i j = (i == j) || (reaches reach i j && reaches reach j i)

-- of the units that are left none leads to this one but those of its pi-block
abbrev pub is_free : List (List Bool) → (left : List ℕ) → ℕ → Bool
is_free reach left i = list_all (λ k. not (reaches reach k i) || reaches reach i k) left

-- the pi-block of the first of these free units, and after it the pi-blocks of the units that remain then
abbrev pub pi_block_then : List (List Bool) → (others : List ℕ → List (List ℕ)) → (left free : List ℕ) → List (List ℕ)
pi_block_then reach others left [] = []
pi_block_then reach others left (i ∷ free) = filter (are_together reach i) left ∷ others (filter (λ k. not (are_together reach i k)) left)

-- the pi-blocks of the remaining units, in order, at most as many as given: of the pi-blocks to which no remaining unit leads always the one whose first unit comes first in the text; in a pi-block the order of the text stays (Allen and Kennedy, section 2.4; this project)
abbrev pub ordered : List (List Bool) → ℕ → (left : List ℕ) → List (List ℕ)
ordered reach zero left = []
ordered reach (suc n) left = pi_block_then reach (ordered reach n) left (filter (is_free reach left) left)

-- the pi-blocks of all units, in order
abbrev pub pi_blocks : List (List Bool) → List (List ℕ)
pi_blocks reach = ordered reach (length reach) (range_with_len 0 (length reach))

-- these are the pi-blocks of units of the body of a DO, in order: those of the arrows that the dependences of the program make (Allen and Kennedy, sections 2.4, 6.2.2; ParaScope)
pub record ArePiBlocks (t : ProgramTree) (s : ℕ) (h : Head) (body : StmtTrees) (found : List (List ℕ)) : Type 0 where
  pub edges : List Edge
  pub are : AreEdges t edges
  pub reach : List (List Bool)
  pub closed : IsClosure (arrows t s h body edges) reach
  pub order : found ≡ pi_blocks reach

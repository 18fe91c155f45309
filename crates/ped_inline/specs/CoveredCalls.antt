-- Conflicts of a run with what a CALL does, and the folded dependences that cover them (Allen and Kennedy, section 2.2.1; ParaScope).
use Rattle.std.specs.Prelude.{◌≡◌, ℕ, suc, List, [], ◌∷◌, take, Bool, true, ◌==◌, is_some, Option, Some, None, if◌then◌else◌}
use Rattle.ped_tree.specs.Tree.{ProgramTree}
use Rattle.ped_edges.specs.Edges.{Edge}
use Rattle.ped_rules.specs.ped_store.specs.Acts.{Turn, iterations_of}
use Rattle.ped_rules.specs.ped_store.specs.Races.{Access}
use Rattle.ped_rules.specs.ped_laws.specs.Conflicts.Covered.{IsCovered}
use Rattle.ped_inline.specs.Folding.{CallBlock, blocks, block_at, is_folded}

-- the level of the outermost loop around both in whose iterations two accesses are apart, where the outermost loop of all has this level; None where they are in the same iterations of all loops around both (Allen and Kennedy, section 2.2.5)
abbrev pub apart_from : ℕ → List Turn → List Turn → Option ℕ
apart_from level (i ∷ is) (j ∷ js) = if i.statement == j.statement then (if i.number == j.number then apart_from (suc level) is js else Some level) else None
apart_from level [] js = None
apart_from level (i ∷ is) [] = None

-- the same of two accesses of a run (Allen and Kennedy, section 2.2.5)
abbrev pub level_between : Access → Access → Option ℕ
level_between a b = apart_from 1 a.place.turns b.place.turns

-- the access is made in a marked block (this project)
abbrev pub is_in_block : ProgramTree → Access → Bool
is_in_block t a = is_some (block_at (blocks t) a.place.statement)

-- two accesses are made in one execution of a marked block: in the same iterations of the loops around it (this project)
pub record AreInOneCall (t : ProgramTree) (a b : Access) : Type 0 where
  pub block : CallBlock
  pub of_first : block_at (blocks t) a.place.statement ≡ Some block
  pub of_second : block_at (blocks t) b.place.statement ≡ Some block
  pub together : take block.loops (iterations_of a.place.turns) ≡ take block.loops (iterations_of b.place.turns)

-- a folded dependence covers two accesses, and the loop carries it in whose iterations they are apart first (Allen and Kennedy, section 2.2.5; ParaScope)
pub record IsCoveredFolded (t : ProgramTree) (edges : List Edge) (a b : Access) : Type 0 where
  pub covered : IsCovered t edges a b
  pub folded : is_folded (blocks t) covered.edge ≡ true
  pub level : covered.edge.level ≡ level_between a b

-- A DO that becomes a PARALLEL DO, or ceases to be one (ParaScope).
use Rattle.std.specs.Prelude.{ℕ, Bool}
use Rattle.ped_tree.specs.Tree.{Head, StmtTrees, Do, ProgramTree}
use Rattle.ped_rules.specs.OnlyLoops.{on_loop}
use Rattle.ped_loop_runs.specs.ped_steps.specs.Replacing.{alone, program_with}

-- the DO as a PARALLEL DO, or as one whose iterations are done in order; all else of it stays (ParaScope)
abbrev pub with_flag : Bool → Head → StmtTrees → StmtTrees
with_flag parallel h body = alone (Do (record h { parallel = parallel }) body)

-- the program with the DO of this number so (ParaScope)
abbrev pub flagged : ProgramTree → ℕ → Bool → ProgramTree
flagged t s parallel = program_with (on_loop (with_flag parallel)) s t

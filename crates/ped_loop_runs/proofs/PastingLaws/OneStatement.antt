-- One statement of a program that gives way to others.
use Rattle.std.proofs.Common.{◌≡◌, ℕ, ◌<◌, Some, subst, arith}
use Rattle.ped_bodies.specs.ped_flow.specs.ped_tree.specs.Tree.{StmtTree, StmtTrees, ProgramTree}
use Rattle.ped_bodies.specs.ped_flow.specs.ped_tree.specs.Numbering.{statement_with, statement_count, statements_count}
use Rattle.ped_bodies.specs.ped_steps.specs.Replacing.{alone}
use Rattle.ped_bodies.specs.ped_steps.proofs.RunLaws.ReplacedTrees.{program_gap}
use Rattle.ped_loop_runs.specs.Statements.{GivesWay}

pub gives_way : (by : StmtTree → StmtTrees) (l : ℕ) (s : StmtTree) (t : ProgramTree) → statement_with l t ≡ Some s → GivesWay by l s t
gives_way by l s t found =
    let g = program_gap by l s t found in
    let one : statement_count s ≡ statements_count (alone s) = omega arith in
    record { gap = g.gap; old = g.old_is; new = g.new_is; number = g.number; some = subst (λ (m : ℕ). 0 < m) one g.some }

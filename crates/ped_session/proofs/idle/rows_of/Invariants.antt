use Rattle.std.proofs.Common.{◌≡◌, ◌+◌, map, take}
use Rattle.ped_tree.specs.Tree.{ProgramTree}
use Rattle.ped_transformations.specs.ped_evidence.specs.Lines.{line_holds}
use Rattle.ped_session.specs.Idle.{idle_rows}
use Rattle.ped_session.proofs.idle.rows_of.Given as goal

abbrev pub invariant-loop-place : goal.invariant-loop-place
invariant-loop-place l = (t : ProgramTree) → l.held ≡ map (line_holds t) l.evidence → l.rows ≡ idle_rows t (l.line + 1) (take l.place l.evidence)

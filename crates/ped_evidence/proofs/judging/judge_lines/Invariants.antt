use Rattle.std.proofs.Common.{◌≡◌, ◌++◌, map, drop}
use Rattle.ped_tree.specs.Views.{program_tree}
use Rattle.ped_evidence.specs.Lines.{line_holds}
use Rattle.ped_evidence.proofs.judging.judge_lines.Given as goal

abbrev pub invariant-loop-line : goal.invariant-loop-line
invariant-loop-line l = l.held.items ++ map (line_holds (program_tree l.known.program.now)) (drop l.line-index l.evidence) ≡ map (line_holds (program_tree l.known.program.now)) l.evidence

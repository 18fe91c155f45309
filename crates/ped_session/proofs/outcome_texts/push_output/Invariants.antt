use Rattle.std.proofs.Common.{◌≡◌, ◌++◌, drop}
use Rattle.std.specs.List.{flat_map}
use Rattle.ped_session.specs.OutcomeTexts.{output_row}
use Rattle.ped_session.proofs.outcome_texts.push_output.Given as goal

abbrev pub invariant-loop-line : goal.invariant-loop-line
invariant-loop-line l = l.out ++ flat_map output_row (drop l.line-index l.lines) ≡ l.fn.out ++ flat_map output_row l.lines

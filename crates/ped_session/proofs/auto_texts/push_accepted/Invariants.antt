use Rattle.std.proofs.Common.{◌≡◌, ◌++◌, drop}
use Rattle.std.specs.List.{flat_map}
use Rattle.ped_session.specs.AutoAnswers.{accepted_row}
use Rattle.ped_session.proofs.auto_texts.push_accepted.Given as goal

abbrev pub invariant-loop-command : goal.invariant-loop-command
invariant-loop-command l = l.out ++ flat_map accepted_row (drop l.command-index l.accepted) ≡ l.fn.out ++ flat_map accepted_row l.accepted

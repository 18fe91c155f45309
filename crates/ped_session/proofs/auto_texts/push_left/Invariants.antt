use Rattle.std.proofs.Common.{◌≡◌, ◌++◌, drop}
use Rattle.std.specs.List.{flat_map}
use Rattle.ped_transformations.specs.ped_auto.specs.CodeReports.{causes_of}
use Rattle.ped_session.specs.AutoAnswers.{left_row}
use Rattle.ped_session.proofs.auto_texts.push_left.Given as goal

abbrev pub invariant-loop-found : goal.invariant-loop-found
invariant-loop-found l = l.out ++ flat_map left_row (causes_of (drop l.found-index l.left)) ≡ l.fn.out ++ flat_map left_row (causes_of l.left)

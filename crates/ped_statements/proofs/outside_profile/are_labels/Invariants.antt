use Rattle.std.proofs.Common.{◌≡◌, length}
use Rattle.ped_statements.specs.Listing.{whole, several}
use Rattle.ped_statements.specs.ProfileReading.{is_some, numeral_at}
use Rattle.ped_statements.proofs.outside_profile.are_labels.Given as goal

abbrev pub invariant-loop-left : goal.invariant-loop-left
invariant-loop-left l = is_some (whole (several numeral_at l.left)) ≡ is_some (whole (several numeral_at l.text))

abbrev pub decreases-loop-left : goal.decreases-loop-left
decreases-loop-left l = length l.left

use Rattle.std.proofs.Common.{◌≡◌, length}
use Rattle.ped_valid.specs.ped_parse.specs.ped_statements.specs.Listing.{several}
use Rattle.ped_valid.specs.ped_parse.specs.ped_statements.specs.StatementReading.{name_at}
use Rattle.ped_valid.specs.ped_parse.specs.ped_statements.proofs.Gathered.{ahead}
use Rattle.ped_units.proofs.forms.names.Given as goal

abbrev pub invariant-loop-next : goal.invariant-loop-next
invariant-loop-next l = ahead l.names (several name_at l.left) ≡ several name_at l.text

abbrev pub decreases-loop-next : goal.decreases-loop-next
decreases-loop-next l = length l.left

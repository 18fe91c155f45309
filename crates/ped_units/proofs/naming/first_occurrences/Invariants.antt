use Rattle.std.proofs.Common.{◌≡◌, [], drop}
use Rattle.ped_tree.specs.Names.Collecting.{with_names}
use Rattle.ped_units.proofs.naming.first_occurrences.Given as goal

abbrev pub invariant-loop-name : goal.invariant-loop-name
invariant-loop-name l = with_names l.seen (drop l.name-index l.names) ≡ with_names [] l.names

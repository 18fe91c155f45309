use Rattle.std.proofs.Common.{◌≡◌, drop}
use Rattle.ped_tree.specs.Names.Collecting.{with_names}
use Rattle.ped_refusals.proofs.occurrences.add_names.Given as goal

abbrev pub invariant-loop-name : goal.invariant-loop-name
invariant-loop-name l = with_names l.names ((drop l.name-index l.all)) ≡ with_names l.initial.names (l.all)

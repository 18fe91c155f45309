use Rattle.std.proofs.Common.{◌≡◌, drop}
use Rattle.ped_tree.specs.Names.Collecting.{with_names}
use Rattle.ped_calls.proofs.occurring.add_names.Given as goal

abbrev pub invariant-loop-name : goal.invariant-loop-name
invariant-loop-name l = with_names l.names (drop l.name-index l.others) ≡ with_names l.initial.names l.others

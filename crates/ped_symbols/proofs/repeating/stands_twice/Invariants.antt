use Rattle.std.proofs.Common.{◌≡◌, drop}
use Rattle.std.specs.Prelude.{◌||◌}
use Rattle.ped_symbols.specs.NameRefusals.{has_twice}
use Rattle.ped_symbols.proofs.Repeats.{has_one_of}
use Rattle.ped_symbols.proofs.repeating.stands_twice.Given as goal

abbrev pub invariant-loop-name : goal.invariant-loop-name
invariant-loop-name l = (has_one_of l.seen (drop l.name-index l.names) || has_twice (drop l.name-index l.names)) ≡ has_twice l.names

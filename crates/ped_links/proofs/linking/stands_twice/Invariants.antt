use Rattle.std.proofs.Common.{◌≡◌, take, false}
use Rattle.ped_units.specs.ped_valid.specs.ped_symbols.specs.NameRefusals.{has_twice}
use Rattle.ped_links.proofs.linking.stands_twice.Given as goal

abbrev pub invariant-loop-name : goal.invariant-loop-name
invariant-loop-name l = record {
  seen : l.seen ≡ take l.name-index l.names;
  once : has_twice (take l.name-index l.names) ≡ false;
}

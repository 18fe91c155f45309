use Rattle.std.proofs.Common.{◌≡◌, map, take}
use Rattle.ped_links.specs.ped_units.specs.Expanding.{name_meant}
use Rattle.ped_calls.specs.Meaning.{meanings_of}
use Rattle.ped_calls.proofs.replacing.names_replaced.Given as goal

abbrev pub invariant-loop-name : goal.invariant-loop-name
invariant-loop-name l = l.all ≡ map (name_meant (meanings_of l.m)) (take l.name-index l.names)

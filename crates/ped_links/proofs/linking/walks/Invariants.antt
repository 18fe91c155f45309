use Rattle.std.proofs.Common.{map, take}
use Rattle.ped_links.specs.Scenes.{AreWalked}
use Rattle.ped_units.specs.Views.{program_unit_of}
use Rattle.ped_links.proofs.linking.walks.Given as goal

abbrev pub invariant-loop-unit : goal.invariant-loop-unit
invariant-loop-unit l = AreWalked (map program_unit_of (take l.unit-index l.units)) l.walks.items

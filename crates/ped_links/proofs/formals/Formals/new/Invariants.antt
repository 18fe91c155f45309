use Rattle.std.proofs.Common.{map, take}
use Rattle.ped_links.specs.Arguments.{AreFormals}
use Rattle.ped_units.specs.Views.{program_unit_of}
use Rattle.ped_links.proofs.formals.Formals.new.Given as goal

abbrev pub invariant-loop-unit : goal.invariant-loop-unit
invariant-loop-unit l = AreFormals (map program_unit_of (take l.unit-index l.units)) l.formals

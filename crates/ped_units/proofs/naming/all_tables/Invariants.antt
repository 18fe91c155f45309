use Rattle.std.proofs.Common.{map, take}
use Rattle.ped_tree.specs.Grammar.RefusalViews.{found_of}
use Rattle.ped_units.specs.Views.{program_unit_of}
use Rattle.ped_units.proofs.TablesSoFar.{SoFar}
use Rattle.ped_units.proofs.naming.all_tables.Given as goal

abbrev pub invariant-loop-unit : goal.invariant-loop-unit
invariant-loop-unit l = SoFar (map program_unit_of (take l.unit-index l.units)) (found_of l.found) l.tables.items

use Rattle.std.proofs.Common.{◌↔◌, ℕ}
use Rattle.ped_links.specs.Reaching.{AreBelow}
use Rattle.ped_units.specs.Units.{ProgramUnits, all_units}
use Rattle.ped_units.specs.Linking.{IsIn}
use Rattle.ped_links.specs.Arguments.{AreFormals, used_names}
use Rattle.ped_links.specs.Scenes.{IsScene}
use Rattle.ped_links.proofs.Used.{SeedBelow}
use Rattle.ped_links.proofs.formals.seeds.Given as goal

abbrev pub invariant-loop-unit : goal.invariant-loop-unit
invariant-loop-unit l = record {
  below : AreBelow l.formals.count l.seeds.items;
  seeds : (us : ProgramUnits) → IsScene us l.scene → AreFormals (all_units us) l.formals → (n : ℕ) → IsIn n l.seeds.items ↔ SeedBelow (used_names l.as_indexes) us l.unit n;
}

use Rattle.std.proofs.Common.{◌⊎◌, ◌<◌, ◌↔◌, ℕ, List, length, take}
use Rattle.ped_links.specs.Reaching.{AreBelow}
use Rattle.ped_units.specs.Units.{ProgramUnit}
use Rattle.ped_units.specs.Linking.{IsIn}
use Rattle.ped_links.specs.Arguments.{AreFormals, IsSeedAmong}
use Rattle.ped_links.proofs.formals.add_seeds.Given as goal

abbrev pub invariant-loop-name : goal.invariant-loop-name
invariant-loop-name l = record {
  below : AreBelow l.formals.count l.initial.seeds.items → AreBelow l.formals.count l.seeds.items;
  seeds : (us : List ProgramUnit) → AreFormals us l.formals → l.unit < length us
      → (n : ℕ) → IsIn n l.seeds.items ↔ (IsIn n l.initial.seeds.items ⊎ IsSeedAmong us l.unit (take l.name-index l.own) l.names n);
}

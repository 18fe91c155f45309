use Rattle.std.proofs.Common.{◌≡◌, ◌↔◌, ℕ, length}
use Rattle.ped_links.specs.ArrowViews.{ends_of}
use Rattle.ped_links.specs.Reaching.{Leads}
use Rattle.ped_units.specs.Units.{ProgramUnits, all_units}
use Rattle.ped_links.specs.Arguments.{AreFormals}
use Rattle.ped_links.specs.Scenes.{IsScene}
use Rattle.ped_links.proofs.Passings.{PassedBelow}
use Rattle.ped_links.proofs.formals.passings.Given as goal

abbrev pub invariant-loop-unit : goal.invariant-loop-unit
invariant-loop-unit l = record {
  wide : length (ends_of l.arrows) ≡ l.formals.count;
  arrows : (us : ProgramUnits) → IsScene us l.scene → AreFormals (all_units us) l.formals → (from to : ℕ) → Leads (ends_of l.arrows) from to ↔ PassedBelow us l.unit from to;
}

use Rattle.std.proofs.Common.{◌≡◌, ◌⊎◌, ◌<◌, ◌↔◌, ℕ, length, take}
use Rattle.ped_links.specs.ArrowViews.{ends_of}
use Rattle.ped_links.specs.Reaching.{Leads}
use Rattle.ped_units.specs.Units.{ProgramUnits, all_units}
use Rattle.ped_links.specs.Arguments.{AreFormals, CallsPass}
use Rattle.ped_links.specs.Scenes.{IsScene}
use Rattle.ped_links.proofs.formals.add_passings.Given as goal

abbrev pub invariant-loop-call : goal.invariant-loop-call
invariant-loop-call l = record {
  wide : length (ends_of l.arrows) ≡ length (ends_of l.initial.arrows);
  added : (us : ProgramUnits) → IsScene us l.scene → AreFormals (all_units us) l.formals → l.unit < length (all_units us)
      → (from to : ℕ) → Leads (ends_of l.arrows) from to ↔ (Leads (ends_of l.initial.arrows) from to ⊎ CallsPass us l.unit (take l.call-index l.calls) from to);
}

use Rattle.std.proofs.Common.{◌≡◌, ◌⊎◌, ◌↔◌, ℕ, length, take}
use Rattle.ped_links.specs.ArrowViews.{ends_of}
use Rattle.ped_links.specs.Reaching.{Leads}
use Rattle.ped_links.specs.Recursions.{CallsIn}
use Rattle.ped_units.specs.Units.{ProgramUnits, all_units}
use Rattle.ped_links.specs.Scenes.{IsScene}
use Rattle.ped_links.proofs.recursion.add_callers.Given as goal

abbrev pub invariant-loop-call : goal.invariant-loop-call
invariant-loop-call l = record {
  wide : length (ends_of l.arrows) ≡ length (ends_of l.initial.arrows);
  added : (us : ProgramUnits) → IsScene us l.scene → (k i : ℕ) → Leads (ends_of l.arrows) k i ↔ (Leads (ends_of l.initial.arrows) k i ⊎ ((i ≡ l.unit) × CallsIn (all_units us) (take l.call-index l.calls) k));
}

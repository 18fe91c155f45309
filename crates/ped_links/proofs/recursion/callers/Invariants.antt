use Rattle.std.proofs.Common.{◌≡◌, ◌<◌, ◌↔◌, ℕ, length}
use Rattle.ped_links.specs.ArrowViews.{ends_of}
use Rattle.ped_links.specs.Reaching.{Leads}
use Rattle.ped_units.specs.Units.{ProgramUnits}
use Rattle.ped_links.specs.Scenes.{IsScene, CallsAt}
use Rattle.ped_links.proofs.recursion.callers.Given as goal

abbrev pub invariant-loop-unit : goal.invariant-loop-unit
invariant-loop-unit l = record {
  wide : length (ends_of l.arrows) ≡ length l.scene.units.now;
  arrows : (us : ProgramUnits) → IsScene us l.scene → (k i : ℕ) → Leads (ends_of l.arrows) k i ↔ ((i < l.unit) × CallsAt us i k);
}

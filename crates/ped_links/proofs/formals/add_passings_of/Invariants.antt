use Rattle.std.proofs.Common.{◌≡◌, ◌⊎◌, ◌<◌, ◌↔◌, ℕ, List, length, take}
use Rattle.ped_links.specs.ArrowViews.{ends_of}
use Rattle.ped_links.specs.Reaching.{Leads}
use Rattle.ped_units.specs.Units.{ProgramUnit}
use Rattle.ped_links.specs.Arguments.{AreFormals, PassesIn}
use Rattle.ped_links.proofs.formals.add_passings_of.Given as goal

abbrev pub invariant-loop-place : goal.invariant-loop-place
invariant-loop-place l = record {
  wide : length (ends_of l.arrows) ≡ length (ends_of l.initial.arrows);
  added : (us : List ProgramUnit) → AreFormals us l.formals → l.unit < length us → l.callee < length us
      → (from to : ℕ) → Leads (ends_of l.arrows) from to ↔ (Leads (ends_of l.initial.arrows) from to ⊎ PassesIn us l.unit l.callee (take l.place l.names) (take l.place l.arguments) from to);
}

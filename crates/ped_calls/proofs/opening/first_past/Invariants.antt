use Rattle.std.proofs.Common.{◌≤◌, ◌<◌, ◌-◌, length}
use Rattle.ped_links.specs.ped_symbols.specs.NameRefusals.{IsValid}
use Rattle.ped_links.specs.ped_units.specs.Verdicts.{IsWithin, partial}
use Rattle.ped_calls.specs.Courses.{units_of}
use Rattle.ped_calls.proofs.opening.first_past.Given as goal

abbrev pub invariant-loop-place : goal.invariant-loop-place
invariant-loop-place l = record {
  within : IsWithin (units_of l.file.units.now) l.place;
  at : l.place ≤ length l.calls;
  valid : 0 < l.place → IsValid (partial (units_of l.file.units.now) l.place);
}

abbrev pub decreases-loop-place : goal.decreases-loop-place
decreases-loop-place l = length l.calls - l.place

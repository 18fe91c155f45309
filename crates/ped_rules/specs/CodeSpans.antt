-- How the code finds the values of a DO's variable (this project).
use Rattle.std.specs.Prelude.{◌≡◌, ◌≤◌, unsigned_abs, true, Option, Some, None}
use Rattle.ped_rules.specs.declared.spans.Span.{Span as CodeSpan}
use Rattle.ped_rules.specs.declared.spans.Course.{Course}
use Rattle.ped_rules.specs.declared.spans.Course.TheVariants.{Unknown, Far, Near}
use Rattle.ped_rules.specs.Spans.{Span, spans_far}

-- the first and the last value that the code keeps (this project)
abbrev pub span_in : CodeSpan → Span
span_in v = record { first = v.first; last = v.last }

-- literals have both values (this project)
pub record IsNear (v : CodeSpan) : Type 0 where
  pub first : unsigned_abs v.first ≤ 2147483647
  pub last : unsigned_abs v.last ≤ 2147483647

-- there are no values; or there are, and no literal has one of them; or there are these, which literals have (this project)
abbrev pub IsCourse : Option Span → Course → Type 0
IsCourse found Unknown = found ≡ None
IsCourse found Far = (v : Span) × (found ≡ Some v) × (spans_far v ≡ true)
IsCourse found (Near v) = (found ≡ Some (span_in v)) × IsNear v

-- these are the values of a DO's variable, where there are any; literals have them (this project)
abbrev pub IsKnown : Option Span → Option CodeSpan → Type 0
IsKnown found None = found ≡ None
IsKnown found (Some v) = (found ≡ Some (span_in v)) × IsNear v

-- Where the code knows the values of a DO's variable, or that there are none, literals have them.
use Rattle.std.proofs.Common.{◌≡◌, false, Option, Some, None, ap, ◌∙◌}
use Rattle.std.proofs.lemmas.Bool.{false_from_ne_true}
use Rattle.ped_rules.specs.Spans.{Span, spans_far}
use Rattle.ped_rules.specs.CodeSpans.{IsKnown, span_in}
use Rattle.ped_rules.specs.Scalars.{of_span}
use Rattle.ped_rules.specs.declared.spans.Span.{Span as CodeSpan}
use Rattle.ped_rules.proofs.RightSteps.{near_spans}

pub known_near : (found : Option Span) (o : Option CodeSpan) → IsKnown found o → of_span spans_far found ≡ false
known_near found None none = ap (of_span spans_far) none
known_near found (Some v) known = ap (of_span spans_far) known.0 ∙ false_from_ne_true (spans_far (span_in v)) (λ far. near_spans found v (span_in v) known known.0 far)

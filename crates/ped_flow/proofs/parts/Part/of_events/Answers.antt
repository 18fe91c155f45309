use Rattle.std.proofs.Common.{List, Bool, ap, sym, ◌∙◌}
use Rattle.ped_flow.specs.RowPlaces.{bit}
use Rattle.ped_flow.proofs.RowLaws.{nothing_at}
use Rattle.ped_flow.proofs.parts.Part.of_events.Goals as goal

pub returns : goal.returns
returns c = λ names xs ys sum outside w r a e. record {
  width = c.in_ok-summaries.ensures.width ∙ sym w;
  summaries = λ x i at. c.in_ok-summaries.ensures.held i (sum x) (r x i at ∙ e.reads x) (a x i at ∙ e.assigns x) (e.ends x) (e.passes x) (e.loses x);
  loose = λ x i at. ap (λ (row : List Bool). bit row i) c.in_ok-loose.ensures ∙ r x i at ∙ e.loose x;
  indices = λ x i at. ap (λ (row : List Bool). bit row i) c.in_ok-indices.ensures ∙ nothing_at c.width.result i;
}

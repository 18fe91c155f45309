use Rattle.std.proofs.Common.{List, Bool, ap, sym, ◌∙◌}
use Rattle.ped_flow.specs.RowPlaces.{bit}
use Rattle.ped_flow.proofs.RowLaws.{nothing_at}
use Rattle.ped_flow.proofs.parts.Part.nothing.Goals as goal

pub returns : goal.returns
returns c = λ names w. record {
  width = c.in_ok-summaries.ensures.width ∙ sym w;
  summaries = λ x i at. c.in_ok-summaries.ensures.held i;
  loose = λ x i at. ap (λ (r : List Bool). bit r i) c.in_ok-loose.ensures ∙ nothing_at c.args.width i;
  indices = λ x i at. ap (λ (r : List Bool). bit r i) c.in_ok-indices.ensures ∙ nothing_at c.args.width i;
}

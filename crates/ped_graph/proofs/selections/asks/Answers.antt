use Rattle.std.proofs.Common.{◌&&◌, sym, ap, ◌∙◌}
use Rattle.std.specs.Prelude.{◌||◌}
use Rattle.ped_graph.specs.declared.selections.Question.{Question}
use Rattle.ped_graph.specs.DependencePane.{is_in, is_in_body}
use Rattle.ped_graph.specs.HeldSelections.{asks}
use Rattle.ped_graph.proofs.selections.asks.Goals as goal

pub returns-in-Touching : goal.returns-in-Touching
returns-in-Touching c = λ e from to.
    let r = c.in-Touching.region in
    ap (λ (q : Question). asks q e) c.in-Touching.is ∙ (λ i. is_in r.number r.extent (from i) || is_in r.number r.extent (to i)) ∙ sym c.touch.ensures

pub returns-in-Within : goal.returns-in-Within
returns-in-Within c = λ e from to.
    let r = c.in-Within.region in
    ap (λ (q : Question). asks q e) c.in-Within.is ∙ (λ i. is_in_body r.number r.extent (from i) && is_in_body r.number r.extent (to i)) ∙ sym c.stand_in.ensures

use Rattle.std.proofs.Common.{List, ℕ, ap, ◌∙◌}
use Rattle.ped_graph.specs.Held.{Held}
use Rattle.ped_graph.specs.HeldSelections.{has_number}
use Rattle.ped_graph.proofs.Standing.{stands}
use Rattle.ped_graph.proofs.graph.Graph.has_statement.Goals as goal

pub returns : goal.returns
returns g c t is =
    c.has_number.ensures ∙ ap (λ (es : List ℕ). has_number es c.args.number) c.extents.ensures
    ∙ ap (λ (h : Held). has_number h.frame.extents c.args.number) c.self.view_is ∙ stands t c.args.self.now c.args.number is

use Rattle.std.proofs.Common.{List, ℕ, ap, ◌∙◌}
use Rattle.ped_graph.specs.Held.{Held}
use Rattle.ped_graph.specs.HeldSelections.{extent_held}
use Rattle.ped_graph.proofs.Selecting.{extent_is}
use Rattle.ped_graph.proofs.graph.Graph.extent.Goals as goal

pub returns : goal.returns
returns g c t is =
    c.extent_of.ensures ∙ ap (λ (es : List ℕ). extent_held es c.args.number) c.extents.ensures
    ∙ ap (λ (h : Held). extent_held h.frame.extents c.args.number) c.self.view_is ∙ extent_is t c.args.self.now c.args.number is

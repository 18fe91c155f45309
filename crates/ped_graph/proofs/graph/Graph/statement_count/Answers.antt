use Rattle.std.proofs.Common.{List, ℕ, ap, ◌∙◌, length}
use Rattle.ped_graph.specs.Held.{Held}
use Rattle.ped_graph.proofs.Standing.{counted}
use Rattle.ped_graph.proofs.graph.Graph.statement_count.Goals as goal

pub returns : goal.returns
returns g c t is =
    ap (λ (es : List ℕ). length es) c.extents.ensures
    ∙ ap (λ (h : Held). length h.frame.extents) c.self.view_is ∙ counted t c.args.self.now is

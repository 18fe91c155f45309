use Rattle.std.proofs.Common.{List, ap, ◌∙◌}
use Rattle.std.specs.List.{list_any}
use Rattle.ped_tree.specs.Views.{program_tree}
use Rattle.ped_edges.specs.CodeEdges.{edge_of}
use Rattle.ped_edges.specs.declared.edges.Edge.{Edge}
use Rattle.ped_loops.specs.Rejecting.{is_pending_of}
use Rattle.ped_loops.proofs.RejectRules.{found_at}
use Rattle.ped_loops.proofs.rejecting.has_pending.Goals as goal

pub returns : goal.returns
returns g c =
    let t = program_tree c.args.scene.now.tree.now in
    let s = c.args.number in
    let x = c.args.name.now in
    let found = c.in_ok-edges.ensures.edges t c.requires.graph in
    (found.0, found.1, c.is_some_pending.ensures ∙ ap (λ (es : List Edge). list_any (λ (e : Edge). is_pending_of x (edge_of e)) es) c.deref.ensures.value ∙ found_at edge_of t s c.in_ok-level.level x found.0 c.in_ok-edges.edges.items c.in_ok-level.ensures found.2)

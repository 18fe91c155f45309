use Rattle.std.proofs.Common.{ℕ, not, ap, ◌∙◌}
use Rattle.ped_tree.specs.Views.{program_tree}
use Rattle.ped_transformations.specs.ped_graph.specs.DependencePane.{edges_at}
use Rattle.ped_transformations.specs.ped_rules.specs.Carried.{is_carried_by}
use Rattle.ped_edges.specs.Edges.{is_rejected}
use Rattle.ped_transformations.specs.ped_rules.specs.CodeCarried.{AreThose}
use Rattle.ped_transformations.specs.ped_rules.proofs.CarriedEdges.{both_tests}
use Rattle.ped_session.proofs.carrying.carried_edges.Goals as goal

pub returns : goal.returns
returns g c =
    let t = program_tree c.args.program.now in
    let s = c.args.number in
    let found = c.in_ok-edges.ensures.edges t c.requires.graph in
    let all : AreThose t (is_carried_by t s) c.in_ok-edges.edges.items = record {
      all = found.0;
      are = found.1;
      those = found.2 ∙ ap (λ (level : ℕ). edges_at t s level found.0) c.in_ok-level.ensures;
      short = c.in_ok-edges.ensures.short;
    } in
    both_tests t (is_carried_by t s) (λ e. not (is_rejected e.mark)) c.in_ok-edges.edges.items c.keep_unrejected.new.edges.items all c.keep_unrejected.ensures

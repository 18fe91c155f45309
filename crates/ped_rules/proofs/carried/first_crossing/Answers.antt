use Rattle.std.proofs.Common.{ℕ, filter, ap, ◌∙◌}
use Rattle.ped_tree.specs.Views.{program_tree}
use Rattle.ped_edges.specs.CodeEdges.{edge_of}
use Rattle.ped_rules.specs.Carried.{level_at, carried, has_after, crossing}
use Rattle.ped_rules.proofs.CarriedEdges.{both_tests, found_first}
use Rattle.ped_rules.proofs.carried.first_crossing.Goals as goal

pub returns : goal.returns
returns g c =
    let t = program_tree c.args.scene.now.tree.now in
    let s = c.args.number in
    let found = c.in_ok-edges.edges.items in
    let kept = c.keep_crossing.new.edges.items in
    let is = c.keep_crossing.ensures ∙ ap (λ (level : ℕ). filter (λ e. has_after level (edge_of e)) found) c.in_ok-level.ensures in
    found_first t (crossing t s) kept c.first_of.result (both_tests t (carried t s) (has_after (level_at t s)) found kept c.in_ok-edges.ensures is) c.first_of.ensures

use Rattle.std.proofs.Common.{ℕ, filter, ap, ◌∙◌}
use Rattle.ped_tree.specs.Views.{program_tree}
use Rattle.ped_edges.specs.CodeEdges.{edge_of}
use Rattle.ped_evidence.specs.Lines.{lines_of}
use Rattle.ped_rules.specs.Carried.{level_at, carried}
use Rattle.ped_rules.proofs.CarriedEdges.{both_tests, found_first}
use Rattle.ped_loops.specs.ByEvidence.{has_open_after, crossing_open}
use Rattle.ped_loops.proofs.openness.first_open_crossing.Goals as goal

pub returns : goal.returns
returns g c =
    let t = program_tree c.args.scene.now.tree.now in
    let s = c.args.number in
    let evidence = lines_of c.args.evidence.now in
    let found = c.in_ok-edges.edges.items in
    let kept = c.keep_open_after.new.edges.items in
    let by_level = c.keep_open_after.ensures t (c.as_slice.ensures.value ∙ c.in_ok-held.ensures) in
    let is = by_level ∙ ap (λ (level : ℕ). filter (λ e. has_open_after t evidence level (edge_of e)) found) c.in_ok-level.ensures in
    found_first t (crossing_open t s evidence) kept c.first_of.result (both_tests t (carried t s) (has_open_after t evidence (level_at t s)) found kept c.in_ok-edges.ensures is) c.first_of.ensures

use Rattle.std.proofs.Common.{◌∙◌}
use Rattle.ped_tree.specs.Views.{program_tree}
use Rattle.ped_evidence.specs.Lines.{lines_of}
use Rattle.ped_rules.specs.Carried.{carried}
use Rattle.ped_rules.proofs.CarriedEdges.{both_tests, found_first}
use Rattle.ped_loops.specs.ByEvidence.{is_open, carried_open}
use Rattle.ped_loops.proofs.openness.first_open.Goals as goal

pub returns : goal.returns
returns g c =
    let t = program_tree c.args.scene.now.tree.now in
    let s = c.args.number in
    let evidence = lines_of c.args.evidence.now in
    let kept = c.keep_open.new.edges.items in
    let is = c.keep_open.ensures t (c.as_slice.ensures.value ∙ c.in_ok-held.ensures) in
    found_first t (carried_open t s evidence) kept c.first_of.result (both_tests t (carried t s) (is_open t evidence) c.in_ok-edges.edges.items kept c.in_ok-edges.ensures is) c.first_of.ensures

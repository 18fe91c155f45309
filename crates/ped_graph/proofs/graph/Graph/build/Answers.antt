use Rattle.std.proofs.Common.{◌∙◌, ap, length, Some}
use Rattle.ped_tree.specs.Views.{program_tree}
use Rattle.ped_graph.specs.CodeFacts.{views_in}
use Rattle.ped_graph.proofs.Slices.{length_mapped}
use Rattle.ped_graph.proofs.Exchanging.{are_whole, views_there}
use Rattle.ped_graph.proofs.InOrder.{paired_views}
use Rattle.ped_graph.proofs.graph.Graph.build.Goals as goal

pub invariant_of-result : goal.invariant_of-result
invariant_of-result g c =
    let views = c.prepared.inside.views.items in
    let there = c.in_ok-verdicts.ensures.verdicts in
    let paired = paired_views (program_tree c.args.program.now) _ (c.prepared.view_is ∙ c.in_ok-prepared.ensures) in
    are_whole c.prepared.inside.frame views c.in_ok-verdicts.verdicts.items there (ap (λ ss. length ss) there ∙ length_mapped Some views ∙ paired)

pub returns-clause-built : goal.returns-clause-built
returns-clause-built g c =
    let there = c.in_ok-verdicts.ensures.verdicts in
    let views = ap views_in there ∙ views_there c.prepared.inside.views.items in
    (λ i. record { frame = c.prepared.inside.frame; views = views i }) ∙ c.prepared.view_is ∙ c.in_ok-prepared.ensures

use Rattle.std.proofs.Common.{◌+◌, ap, ◌∙◌, arith}
use Rattle.ped_tree.specs.Views.{program_tree, stmt_trees, head_of}
use Rattle.ped_refs.specs.Occurrences.{references_of}
use Rattle.ped_rules.specs.ped_symbols.proofs.FewReferences.{few_references}
use Rattle.ped_rules.specs.ped_flow.proofs.Answering.{loop_fits}
use Rattle.ped_rules.specs.ped_steps.proofs.Answering.{few_numbers}
use Rattle.ped_reduce.specs.declared.referring.Extent.{Extent}
use Rattle.ped_reduce.specs.Reducing.{first_beside_sums}
use Rattle.ped_reduce.proofs.rules.first_no_sum.Goals as goal

pub occurrences-requires-clause-statements : goal.occurrences-requires-clause-statements
occurrences-requires-clause-statements g c = let few = few_numbers (program_tree c.args.scene.now.tree.now) c.requires.scene.valid in omega (arith, few)

pub occurrences-requires-clause-references : goal.occurrences-requires-clause-references
occurrences-requires-clause-references g c = few_references (program_tree c.args.scene.now.tree.now) c.requires.scene.valid.fits

pub extent_of-extent-requires : goal.extent_of-extent-requires
extent_of-extent-requires g c =
    let t = program_tree c.args.scene.now.tree.now in
    let d = c.args.d.now in
    let few = few_numbers t c.requires.scene.valid in
    let fit = loop_fits t c.args.number (head_of d) (stmt_trees d.body.items) c.requires.is in
    omega (arith, few, fit)

pub first_beside_sums-requires-clause-small : goal.first_beside_sums-requires-clause-small
first_beside_sums-requires-clause-small g c =
    let t = program_tree c.args.scene.now.tree.now in
    let d = c.args.d.now in
    let few = few_numbers t c.requires.scene.valid in
    let fit = loop_fits t c.args.number (head_of d) (stmt_trees d.body.items) c.requires.is in
    let sum = ap (λ (e : Extent). e.number + e.count) c.extent_of-extent.ensures in
    omega (arith, few, fit, sum)

pub first_beside_sums-requires-clause-all : goal.first_beside_sums-requires-clause-all
first_beside_sums-requires-clause-all g c = ap references_of c.deref.ensures.value ∙ c.in_ok-found.ensures

pub returns : goal.returns
returns g c = c.first_beside_sums.ensures ∙ ap (λ (e : Extent). first_beside_sums (program_tree c.args.scene.now.tree.now) e.number e.count c.args.names.now) c.extent_of-extent.ensures

use Rattle.std.proofs.Common.{ap, ◌∙◌, arith}
use Rattle.ped_tree.specs.Views.{program_tree, stmt_trees, head_of}
use Rattle.ped_refs.specs.Occurrences.{references_of}
use Rattle.ped_rules.specs.ped_symbols.proofs.FewReferences.{few_references}
use Rattle.ped_rules.specs.ped_flow.proofs.Answering.{loop_fits}
use Rattle.ped_rules.specs.ped_steps.proofs.Answering.{few_numbers}
use Rattle.ped_reduce.proofs.rules.has_unsummable.Goals as goal

pub occurrences-requires-clause-statements : goal.occurrences-requires-clause-statements
occurrences-requires-clause-statements g c = let few = few_numbers (program_tree c.args.scene.now.tree.now) c.requires.scene.valid in omega (arith, few)

pub occurrences-requires-clause-references : goal.occurrences-requires-clause-references
occurrences-requires-clause-references g c = few_references (program_tree c.args.scene.now.tree.now) c.requires.scene.valid.fits

pub is_some_unsummable-requires-clause-small : goal.is_some_unsummable-requires-clause-small
is_some_unsummable-requires-clause-small g c =
    let t = program_tree c.args.scene.now.tree.now in
    let d = c.args.d.now in
    let few = few_numbers t c.requires.scene.valid in
    let fit = loop_fits t c.args.number (head_of d) (stmt_trees d.body.items) c.requires.is in
    omega (arith, few, fit)

pub is_some_unsummable-requires-clause-all : goal.is_some_unsummable-requires-clause-all
is_some_unsummable-requires-clause-all g c = ap references_of c.deref.ensures.value ∙ c.in_ok-found.ensures

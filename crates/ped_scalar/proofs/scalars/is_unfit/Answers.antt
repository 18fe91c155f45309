use Rattle.std.proofs.Common.{List, not, ◌||◌, sym, ap, ◌∙◌, arith}
use Rattle.ped_base.specs.Lists.{is_among}
use Rattle.ped_tree.specs.Nests.{Loop, indices_of}
use Rattle.ped_tree.specs.Views.{program_tree, stmt_trees}
use Rattle.ped_tree.specs.Views.{head_of}
use Rattle.ped_rules.specs.ped_symbols.proofs.FewReferences.{few_references}
use Rattle.ped_rules.specs.ped_flow.proofs.Answering.{loop_fits}
use Rattle.ped_rules.specs.ped_steps.proofs.Answering.{few_numbers}
use Rattle.ped_scalar.proofs.FlowAnswers.{no_scalar}
use Rattle.ped_scalar.proofs.scalars.is_unfit.Goals as goal

pub returns-then-not-is_scalar : goal.returns-then-not-is_scalar
returns-then-not-is_scalar g c =
    let t = program_tree c.args.scene.now.tree.now in
    let d = c.args.d.now in
    no_scalar t c.args.number (head_of d) (stmt_trees d.body.items) c.args.name.now (sym (c.is_scalar.ensures t c.requires.scene.symbols) ∙ c.if-not-is_scalar.true)

pub is_referred-requires-clause-statements : goal.is_referred-requires-clause-statements
is_referred-requires-clause-statements g c =
    let few = few_numbers (program_tree c.args.scene.now.tree.now) c.requires.scene.valid in omega (arith, few)

pub is_referred-requires-clause-references : goal.is_referred-requires-clause-references
is_referred-requires-clause-references g c = few_references (program_tree c.args.scene.now.tree.now) c.requires.scene.valid.fits

pub is_referred-requires-clause-inside : goal.is_referred-requires-clause-inside
is_referred-requires-clause-inside g c =
    let t = program_tree c.args.scene.now.tree.now in
    let d = c.args.d.now in
    let few = few_numbers t c.requires.scene.valid in
    let fit = loop_fits t c.args.number (head_of d) (stmt_trees d.body.items) c.requires.is in
    omega (arith, few, fit)

pub returns : goal.returns
returns g c =
    let t = program_tree c.args.scene.now.tree.now in
    let x = c.args.name.now in
    let scalar = sym c.if-not-is_scalar.false ∙ c.is_scalar.ensures t c.requires.scene.symbols in
    let index = sym c.if-is_index.false ∙ c.is_index.ensures ∙ ap (λ (nest : List Loop). is_among x (indices_of nest)) c.requires.round in
    let inner = sym c.if-is_index_in.false ∙ c.is_index_in.ensures in
    λ i. not (scalar i) || (index i || inner i) || not (c.in_ok-referred.ensures i)

use Rattle.std.proofs.Common.{List, ◌+◌, ap, ◌∙◌, sym, arith}
use Rattle.std.specs.List.{list_any}
use Rattle.ped_base.specs.Lists.{is_among}
use Rattle.ped_tree.specs.NamesIn.{all_loop_variables}
use Rattle.ped_tree.specs.Views.{program_tree, stmt_trees}
use Rattle.ped_tree.specs.declared.statements.Stmt.{Stmt}
use Rattle.ped_tree.specs.Numbering.{statements_count}
use Rattle.ped_refs.specs.Occurrences.{references_of}
use Rattle.ped_rules.specs.Scalars.{is_reference_in}
use Rattle.ped_reduce.specs.declared.referring.Extent.{Extent}
use Rattle.ped_reduce.proofs.UnsummableAnswers.{not_scalar, an_index, referred}
use Rattle.ped_reduce.proofs.rules.is_unsummable.Goals as goal

pub returns-then-not-is_scalar : goal.returns-then-not-is_scalar
returns-then-not-is_scalar g c =
    let t = program_tree c.args.scene.now.tree.now in
    not_scalar t c.args.number (stmt_trees c.args.d.now.body.items) c.args.name.now (sym (c.is_scalar.ensures t c.requires.scene.symbols) ∙ c.if-not-is_scalar.true)

pub returns-then-is_index_of : goal.returns-then-is_index_of
returns-then-is_index_of g c =
    let t = program_tree c.args.scene.now.tree.now in
    let among = sym (c.is_index_of.ensures ∙ ap (λ (ss : List Stmt). is_among c.args.name.now (all_loop_variables (stmt_trees ss))) c.deref.ensures.value) ∙ c.if-is_index_of.true in
    an_index t c.args.number (stmt_trees c.args.d.now.body.items) c.args.name.now (sym (c.is_scalar.ensures t c.requires.scene.symbols) ∙ c.if-not-is_scalar.false) among

pub is_referred-requires : goal.is_referred-requires
is_referred-requires g c =
    let sum = ap (λ (e : Extent). e.number + e.count) c.extent_of.ensures in
    omega (arith, sum, c.requires.small)

pub returns : goal.returns
returns g c =
    let t = program_tree c.args.scene.now.tree.now in
    let among = sym (c.is_index_of.ensures ∙ ap (λ (ss : List Stmt). is_among c.args.name.now (all_loop_variables (stmt_trees ss))) c.deref.ensures.value) ∙ c.if-is_index_of.false in
    let found = c.is_referred.ensures ∙ ap (λ (e : Extent). list_any (is_reference_in e.number e.count c.args.name.now) (references_of c.args.found.now)) c.extent_of.ensures ∙ ap (list_any (is_reference_in c.args.number (statements_count (stmt_trees c.args.d.now.body.items) + 1) c.args.name.now)) c.requires.all in
    referred t c.args.number (stmt_trees c.args.d.now.body.items) c.args.name.now (sym (c.is_scalar.ensures t c.requires.scene.symbols) ∙ c.if-not-is_scalar.false) among c.is_referred.result found

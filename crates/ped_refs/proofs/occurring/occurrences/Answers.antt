use Rattle.std.proofs.Common.{[], ◌++◌, List, length, map, ap, ◌∙◌, arith}
use Rattle.ped_tree.specs.Views.{stmt_trees, decl_tree, program_tree}
use Rattle.ped_tree.specs.Accesses.{constant_names}
use Rattle.ped_tree.specs.Names.Collecting.{with_names}
use Rattle.ped_refs.specs.References.{statements_references}
use Rattle.ped_refs.specs.Occurrences.{references_of}
use Rattle.ped_refs.specs.declared.occurring.Occurrence.{Occurrence}
use Rattle.ped_refs.proofs.SameReferences.{program_same}
use Rattle.ped_refs.proofs.occurring.occurrences.Goals as goal

pub add_statements-requires-clause-references : goal.add_statements-requires-clause-references
add_statements-requires-clause-references c =
    let e = program_same (program_tree c.args.program.now) c.in_ok-constants.constants (stmt_trees c.deref-2.result.now)
    (c.in_ok-constants.ensures ∙ ap (λ ds. with_names [] (constant_names (map decl_tree ds))) c.deref.ensures.value) (ap stmt_trees c.deref-2.ensures.value) in
    omega (arith, ap length e, c.requires.references)

pub returns : goal.returns
returns c =
    let e = program_same (program_tree c.args.program.now) c.in_ok-constants.constants (stmt_trees c.deref-2.result.now)
    (c.in_ok-constants.ensures ∙ ap (λ ds. with_names [] (constant_names (map decl_tree ds))) c.deref.ensures.value) (ap stmt_trees c.deref-2.ensures.value) in
    c.in_ok-add_statements.ensures.found
    ∙ ap (λ (xs : List Occurrence). references_of xs ++ statements_references c.in_ok-constants.constants [] 1 (stmt_trees c.deref-2.result.now)) c.new-found.ensures.items
    ∙ e

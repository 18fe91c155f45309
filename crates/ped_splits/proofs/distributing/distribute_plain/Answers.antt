use Rattle.std.proofs.Common.{◌<◌, ◌^◌, List, sym, ap, subst, ◌∙◌, arith}
use Rattle.ped_tree.specs.Numbering.{statements_count}
use Rattle.ped_tree.specs.Views.{program_tree, stmt_trees, head_of}
use Rattle.ped_tree.specs.declared.statements.Stmt.{Stmt}
use Rattle.ped_rules.specs.ped_symbols.proofs.FewReferences.{few_statements}
use Rattle.ped_rules.specs.ped_flow.proofs.Answering.{loop_fits}
use Rattle.ped_splits.specs.Units.{units}
use Rattle.ped_splits.specs.CodeUnits.{AreShort, unit_trees}
use Rattle.ped_splits.proofs.UnitSizes.{units_short}
use Rattle.ped_splits.proofs.distributing.distribute_plain.Goals as goal

pub homes_of-requires : goal.homes_of-requires
homes_of-requires g c =
    let t = program_tree c.args.scene.now.tree.now in
    let body = stmt_trees c.args.d.now.body.items in
    let fits = loop_fits t c.args.number (head_of c.args.d.now) body c.requires.is in
    let few = few_statements t c.requires.scene.valid.fits in
    let short : statements_count body < 2 ^ 32 = omega (arith, fits, few) in
    let same = ap unit_trees c.deref-2.ensures.value ∙ c.in_ok-units.ensures ∙ ap (λ (xs : List Stmt). units (stmt_trees xs)) c.deref.ensures.value in
    subst AreShort (sym same) (units_short body short)

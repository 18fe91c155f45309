use Rattle.std.proofs.Common.{List, sym, ap, ◌∙◌}
use Rattle.ped_tree.specs.Views.{program_tree, stmt_trees, head_of}
use Rattle.ped_tree.specs.declared.statements.Stmt.{Stmt}
use Rattle.ped_rules.specs.OnlyLoops.{only_loop}
use Rattle.ped_rules.specs.ped_steps.specs.declared.rules.Rule.TheVariants.{NotPerfect}
use Rattle.ped_loops.proofs.InterchangeRules.{perfect_first}
use Rattle.ped_loops.proofs.InterchangeAnswers.{refused, none_perfect}
use Rattle.ped_loops.proofs.interchanging.interchange_loop_by_rules.Goals as goal

pub interchange_two-requires-clause-only : goal.interchange_two-requires-clause-only
interchange_two-requires-clause-only g c = ap (λ (ss : List Stmt). only_loop (stmt_trees ss)) (sym c.deref.ensures.value) ∙ c.in-Some.ensures

pub returns-in-None : goal.returns-in-None
returns-in-None g c =
    let t = program_tree c.args.scene.now.tree.now in
    let s = c.args.number in
    let h = head_of c.args.outer.now in
    let body = stmt_trees c.args.outer.now.body.items in
    let none = ap (λ (ss : List Stmt). only_loop (stmt_trees ss)) (sym c.deref.ensures.value) ∙ c.in-None.ensures in
    refused s t NotPerfect s c.against.result c.against.ensures (perfect_first s t h body c.requires.is (none_perfect h body none))

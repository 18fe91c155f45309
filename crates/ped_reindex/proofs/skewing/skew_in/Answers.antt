use Rattle.std.proofs.Common.{List, sym, ap, ◌∙◌}
use Rattle.std.specs.Prelude.{is_none}
use Rattle.ped_tree.specs.Views.{program_tree, stmt_trees, head_of}
use Rattle.ped_tree.specs.declared.statements.Stmt.{Stmt}
use Rattle.ped_rules.specs.OnlyLoops.{only_loop}
use Rattle.ped_rules.specs.ped_steps.specs.declared.rules.Rule.TheVariants.{NotPerfect}
use Rattle.ped_reindex.proofs.SkewRules as rules
use Rattle.ped_reindex.proofs.SkewAnswers.{refused}
use Rattle.ped_reindex.proofs.skewing.skew_in.Goals as goal

pub returns-in-None : goal.returns-in-None
returns-in-None g c =
    let t = program_tree c.args.scene.now.tree.now in
    let s = c.args.number in
    let f = c.args.factor in
    refused s f t NotPerfect s c.against.result c.against.ensures (rules.perfect_first s f t (head_of c.args.d.now) (stmt_trees c.args.d.now.body.items) c.requires.is (ap (λ (ss : List Stmt). is_none (only_loop (stmt_trees ss))) (sym c.deref.ensures.value) ∙ ap is_none c.in-None.ensures))

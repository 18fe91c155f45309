use Rattle.std.proofs.Common.{sym, ap, ◌∙◌, ◌||◌, Option}
use Rattle.std.specs.Prelude.{is_none}
use Rattle.std.specs.Int.{w64}
use Rattle.std.proofs.lemmas.Int.{to_z-of_z}
use Rattle.ped_tree.specs.Tree.{Head, StmtTrees}
use Rattle.ped_tree.specs.Views.{program_tree, stmt_trees, head_of}
use Rattle.ped_rules.specs.OnlyLoops.{of_loop}
use Rattle.ped_rules.specs.Rules.{is_parallel}
use Rattle.ped_rules.specs.ped_steps.specs.declared.rules.Rule.TheVariants.{ParallelState, IndexEscapes, BadFactor}
use Rattle.ped_reindex.specs.Skewing.{is_bad_factor}
use Rattle.ped_reindex.proofs.SkewRules as rules
use Rattle.ped_reindex.proofs.SkewAnswers.{refused}
use Rattle.ped_reindex.proofs.skewing.skew_inner.Goals as goal

pub returns-then-is_either_parallel : goal.returns-then-is_either_parallel
returns-then-is_either_parallel g c =
    let t = program_tree c.args.scene.now.tree.now in
    let s = c.args.number in
    let f = c.args.factor in
    let h = head_of c.args.d.now in
    let body = stmt_trees c.args.d.now.body.items in
    refused s f t ParallelState s c.against.result c.against.ensures
    (rules.state_first s f t h body c.requires.is (ap is_none c.requires.only) (ap (λ (o : Option (Head × StmtTrees)). h.parallel || of_loop is_parallel o) c.requires.only ∙ sym c.is_either_parallel.ensures ∙ c.if-is_either_parallel.true))

pub returns-in-Some : goal.returns-in-Some
returns-in-Some g c =
    let t = program_tree c.args.scene.now.tree.now in
    let s = c.args.number in
    let f = c.args.factor in
    let h = head_of c.args.d.now in
    let body = stmt_trees c.args.d.now.body.items in
    let serial = ap (λ (o : Option (Head × StmtTrees)). h.parallel || of_loop is_parallel o) c.requires.only ∙ sym c.is_either_parallel.ensures ∙ c.if-is_either_parallel.false in
    refused s f t IndexEscapes c.in-Some.statement c.against-in-Some.result c.against-in-Some.ensures
    (rules.escape_first s f t h body c.requires.is (ap is_none c.requires.only) serial c.in-Some.statement c.in-Some.ensures)

pub returns-then-is_bad_factor : goal.returns-then-is_bad_factor
returns-then-is_bad_factor g c =
    let t = program_tree c.args.scene.now.tree.now in
    let s = c.args.number in
    let f = c.args.factor in
    let h = head_of c.args.d.now in
    let body = stmt_trees c.args.d.now.body.items in
    let serial = ap (λ (o : Option (Head × StmtTrees)). h.parallel || of_loop is_parallel o) c.requires.only ∙ sym c.is_either_parallel.ensures ∙ c.if-is_either_parallel.false in
    refused s f t BadFactor s c.against-then-is_bad_factor.result c.against-then-is_bad_factor.ensures
    (rules.factor_first s f t h body c.requires.is (ap is_none c.requires.only) serial c.in_default.ensures (ap is_bad_factor (sym (to_z-of_z w64 f c.ranges.factor)) ∙ sym c.is_bad_factor.ensures ∙ c.if-is_bad_factor.true))

use Rattle.std.proofs.Common.{◌≡◌, ℕ, ◌+◌, ◌++◌, ◌∷◌, [], List, sym, ap, ◌∙◌, arith}
use Rattle.std.specs.List.{range_with_len}
use Rattle.ped_tree.specs.Numbering.{statements_count}
use Rattle.ped_tree.specs.Views.{program_tree, stmt_trees}
use Rattle.ped_tree.specs.declared.statements.Stmt.{Stmt}
use Rattle.ped_rules.specs.ped_steps.proofs.Answering.{few_numbers}
use Rattle.ped_reduce.proofs.LoweringCode.{range_more}
use Rattle.ped_reduce.proofs.lowering.not_lowered.Goals as goal

pub count_statements-before-end-requires : goal.count_statements-before-end-requires
count_statements-before-end-requires g c =
    let few = few_numbers (program_tree c.args.scene.now.tree.now) c.requires.scene.valid in
    let same = ap (λ (ss : List Stmt). statements_count (stmt_trees ss)) c.deref.ensures.value in
    omega (arith, few, same)

pub loop-before-preserved : goal.loop-before-preserved
loop-before-preserved g c = c.in_ok-push.ensures.items ∙ ap (λ (ns : List ℕ). ns ++ (c.loop-before.before + 1) ∷ []) c.loop-before.invariant ∙ sym (range_more c.loop-before.before)

pub copy_of-requires : goal.copy_of-requires
copy_of-requires g c = few_numbers (program_tree c.args.scene.now.tree.now) c.requires.scene.valid

pub returns-clause-is : goal.returns-clause-is
returns-clause-is g c =
    let t = program_tree c.args.scene.now.tree.now in
    let same : c.count_statements-before-end.result ≡ statements_count t.body = c.count_statements-before-end.ensures ∙ ap (λ (ss : List Stmt). statements_count (stmt_trees ss)) c.deref.ensures.value in
    let end : c.loop-before.before ≡ statements_count t.body = omega (arith, same, c.loop-before-test.false, c.loop-before.auto.before-end) in
    let origin : c.loop-before.origin.items ≡ range_with_len 1 (statements_count t.body) = c.loop-before.invariant ∙ ap (range_with_len 1) end in
    let tree = c.in_ok-tree.ensures.tree in
    let live = c.new.ensures.items in
    λ i. record { tree = tree i; origin = origin i; live = live i; more = 0 }

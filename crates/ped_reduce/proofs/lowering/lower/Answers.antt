use Rattle.std.proofs.Common.{List, ap, arith}
use Rattle.ped_tree.specs.Numbering.{statements_count}
use Rattle.ped_tree.specs.Views.{program_tree, stmt_trees}
use Rattle.ped_tree.specs.declared.statements.Stmt.{Stmt}
use Rattle.ped_rules.specs.ped_steps.proofs.Answering.{few_numbers}
use Rattle.ped_reduce.proofs.lowering.lower.Goals as goal

pub count_statements-requires : goal.count_statements-requires
count_statements-requires g c =
    let few = few_numbers (program_tree c.args.scene.now.tree.now) c.requires.valid in
    let same = ap (λ (ss : List Stmt). statements_count (stmt_trees ss)) c.deref.ensures.value in
    omega (arith, few, same)

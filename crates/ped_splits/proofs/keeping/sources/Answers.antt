use Rattle.std.proofs.Common.{ℕ, List, length, ap, ◌∙◌, arith}
use Rattle.ped_tree.specs.Numbering.{statements_count}
use Rattle.ped_tree.specs.Views.{program_tree, head_of, stmt_trees}
use Rattle.ped_tree.specs.declared.statements.Stmt.{Stmt}
use Rattle.ped_rules.specs.ped_flow.proofs.Answering.{loop_fits}
use Rattle.ped_splits.specs.Units.{units}
use Rattle.ped_splits.specs.CodeUnits.{body_of}
use Rattle.ped_splits.proofs.UnitSizes.{homes_long, units_sum}
use Rattle.ped_splits.proofs.keeping.sources.Goals as goal

pub add_loops-requires-clause-few : goal.add_loops-requires-clause-few
add_loops-requires-clause-few c =
    let body = body_of c.args.parted.now in
    let fits = loop_fits (program_tree c.args.program.now) c.args.parted.now.number (head_of c.args.parted.now.statement.now) body c.requires.parted.is in
    let long = ap (λ (xs : List ℕ). length xs) c.requires.parted.places ∙ homes_long 0 (units body) ∙ units_sum body in
    let few = c.requires.few in
    omega (arith, fits, long, few)

pub count_statements-requires : goal.count_statements-requires
count_statements-requires c =
    let body = body_of c.args.parted.now in
    let fits = loop_fits (program_tree c.args.program.now) c.args.parted.now.number (head_of c.args.parted.now.statement.now) body c.requires.parted.is in
    let few = c.requires.few in
    let same = ap (λ (xs : List Stmt). statements_count (stmt_trees xs)) c.deref.ensures.value in
    omega (arith, fits, few, same)

pub overflow_add-behind : goal.overflow_add-behind
overflow_add-behind c =
    let body = body_of c.args.parted.now in
    let fits = loop_fits (program_tree c.args.program.now) c.args.parted.now.number (head_of c.args.parted.now.statement.now) body c.requires.parted.is in
    let few = c.requires.few in
    let same = c.count_statements.ensures ∙ ap (λ (xs : List Stmt). statements_count (stmt_trees xs)) c.deref.ensures.value in
    omega (arith, fits, few, same)

pub overflow_add-behind-2 : goal.overflow_add-behind-2
overflow_add-behind-2 c =
    let body = body_of c.args.parted.now in
    let fits = loop_fits (program_tree c.args.program.now) c.args.parted.now.number (head_of c.args.parted.now.statement.now) body c.requires.parted.is in
    let few = c.requires.few in
    let same = c.count_statements.ensures ∙ ap (λ (xs : List Stmt). statements_count (stmt_trees xs)) c.deref.ensures.value in
    omega (arith, fits, few, same)

pub overflow_sub-count_statements : goal.overflow_sub-count_statements
overflow_sub-count_statements c =
    let body = body_of c.args.parted.now in
    let fits = loop_fits (program_tree c.args.program.now) c.args.parted.now.number (head_of c.args.parted.now.statement.now) body c.requires.parted.is in
    let same = c.count_statements.ensures ∙ ap (λ (xs : List Stmt). statements_count (stmt_trees xs)) c.deref.ensures.value in
    let all = c.count_statements-2.ensures ∙ ap (λ (xs : List Stmt). statements_count (stmt_trees xs)) c.deref-2.ensures.value in
    omega (arith, fits, same, all)

pub add_unmoved-requires-2 : goal.add_unmoved-requires-2
add_unmoved-requires-2 c =
    let body = body_of c.args.parted.now in
    let fits = loop_fits (program_tree c.args.program.now) c.args.parted.now.number (head_of c.args.parted.now.statement.now) body c.requires.parted.is in
    let few = c.requires.few in
    let same = c.count_statements.ensures ∙ ap (λ (xs : List Stmt). statements_count (stmt_trees xs)) c.deref.ensures.value in
    let all = c.count_statements-2.ensures ∙ ap (λ (xs : List Stmt). statements_count (stmt_trees xs)) c.deref-2.ensures.value in
    omega (arith, fits, few, same, all)

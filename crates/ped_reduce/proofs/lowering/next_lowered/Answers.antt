use Rattle.std.proofs.Common.{◌≡◌, ◌+◌, List, length, ap, arith}
use Rattle.ped_tree.specs.Numbering.{statements_count}
use Rattle.ped_tree.specs.Views.{program_tree, stmt_trees, head_of}
use Rattle.ped_tree.specs.declared.statements.Stmt.{Stmt}
use Rattle.ped_reduce.proofs.LoweringCode.{few_within}
use Rattle.ped_reduce.proofs.lowering.next_lowered.Goals as goal

pub origins_behind-requires-clause-few : goal.origins_behind-requires-clause-few
origins_behind-requires-clause-few c =
    let l = c.args.lowered.now in
    let few = few_within (program_tree l.tree) c.requires.kept.valid (c.args.number + l.more) (head_of c.args.d.now) (stmt_trees c.args.d.now.body.items) c.requires.is in
    let same = ap (λ (ss : List Stmt). statements_count (stmt_trees ss)) c.deref-2.ensures.value in
    omega (arith, few, same)

pub origins_behind-requires-clause-small : goal.origins_behind-requires-clause-small
origins_behind-requires-clause-small c =
    let l = c.args.lowered.now in
    let few = few_within (program_tree l.tree) c.requires.kept.valid (c.args.number + l.more) (head_of c.args.d.now) (stmt_trees c.args.d.now.body.items) c.requires.is in
    let same = ap (λ (ss : List Stmt). statements_count (stmt_trees ss)) c.deref-2.ensures.value in
    omega (arith, few, same)

pub gained-requires : goal.gained-requires
gained-requires c =
    let l = c.args.lowered.now in
    let few = few_within (program_tree l.tree) c.requires.kept.valid (c.args.number + l.more) (head_of c.args.d.now) (stmt_trees c.args.d.now.body.items) c.requires.is in
    let same = ap (λ (ss : List Stmt). statements_count (stmt_trees ss)) c.deref-6.ensures.value in
    let eight = c.requires.few in
    let parts : length c.deref-5.result.now ≡ length c.args.made.partials.items = ap (λ xs. length xs) c.deref-5.ensures.value in
    omega (arith, few, same, parts, eight)

pub overflow_add-result : goal.overflow_add-result
overflow_add-result c =
    let l = c.args.lowered.now in
    let few = few_within (program_tree l.tree) c.requires.kept.valid (c.args.number + l.more) (head_of c.args.d.now) (stmt_trees c.args.d.now.body.items) c.requires.is in
    let same = ap (λ (ss : List Stmt). statements_count (stmt_trees ss)) c.deref-6.ensures.value in
    let eight = c.requires.few in
    let parts : length c.deref-5.result.now ≡ length c.args.made.partials.items = ap (λ xs. length xs) c.deref-5.ensures.value in
    let more = c.gained.ensures.small in
    let before = c.requires.kept.few in
    let number = c.requires.small in
    omega (arith, few, same, parts, eight, more, before, number)

pub returns-clause-kept : goal.returns-clause-kept
returns-clause-kept c =
    let l = c.args.lowered.now in
    let few = few_within (program_tree l.tree) c.requires.kept.valid (c.args.number + l.more) (head_of c.args.d.now) (stmt_trees c.args.d.now.body.items) c.requires.is in
    let same = ap (λ (ss : List Stmt). statements_count (stmt_trees ss)) c.deref-6.ensures.value in
    let eight = c.requires.few in
    let parts : length c.deref-5.result.now ≡ length c.args.made.partials.items = ap (λ xs. length xs) c.deref-5.ensures.value in
    let more = c.gained.ensures.small in
    let before = c.requires.kept.few in
    let from = c.requires.from in
    record {
      valid = c.requires.valid;
      lines = c.requires.lines;
      symbols = c.requires.symbols;
      few = omega (arith, few, same, parts, eight, more, before, from);
    }

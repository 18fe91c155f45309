use Rattle.std.proofs.Common.{◌≤◌, ◌∙◌, ap, map, length, arith, take_all}
use Rattle.ped_tree.specs.Views.{stmt_tree, pack_stmts}
use Rattle.ped_units.specs.Units.{with_calls}
use Rattle.ped_units.specs.Refusals.{using_arguments}
use Rattle.ped_units.proofs.Packed.{stmts_with_calls}
use Rattle.ped_units.proofs.naming.+without_calls.Goals as goal

pub without_calls-returns : goal.without_calls-returns
without_calls-returns t c =
    let arrays = c.args.arrays.now in
    let old = map stmt_tree c.args.statements.now in
    let ended : length c.args.statements.now ≤ c.loop-statement.statement-index = omega (arith, c.loop-statement-test.false, c.loop-statement.auto.statement-index-end) in
    ap pack_stmts (c.loop-statement.invariant ∙ ap (λ ss. map (with_calls (using_arguments arrays)) (map stmt_tree ss)) (take_all c.loop-statement.statement-index c.args.statements.now ended)) ∙ stmts_with_calls (using_arguments arrays) old

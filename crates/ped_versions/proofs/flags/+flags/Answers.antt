use Rattle.std.proofs.Common.{◌≡◌, ◌+◌, ◌<◌, ◌≤◌, length, get_or, ap, arith}
use Rattle.ped_tree.specs.Numbering.{statements_count}
use Rattle.ped_tree.specs.Views.{stmt_trees}
use Rattle.ped_versions.specs.Flags.{flag_all}
use Rattle.ped_versions.proofs.FlagSteps.{next_left, next_done, all_done}
use Rattle.ped_versions.proofs.flags.+flags.Goals as goal

pub set_in-loop-i-preserved : goal.set_in-loop-i-preserved
set_in-loop-i-preserved t c =
    let ss = c.loop-i.statements in
    let s = get_or ss c.loop-i.i c.index-statements-i.result in
    let is : s ≡ get_or ss c.loop-i.i s = ap (get_or ss c.loop-i.i) c.index-statements-i.is in
    let within : c.loop-i.i < length ss = omega (arith, c.loop-i-test.true, c.loop-i.auto.statements) in
    record {
      done = next_done c.args.parallel c.args.number ss c.loop-i.i c.loop-i.own s within is c.set_at-own.new.statement c.set_at-own.result c.set_at-own.ensures.count
          (flag_all c.args.parallel c.args.number (stmt_trees c.args.statements.now) c.args.first) c.set_at-own.ensures.flagged c.loop-i.invariant.done;
      left = next_left c.args.parallel c.args.number ss c.loop-i.i c.loop-i.own s within is c.set_at-own.new.statement c.set_at-own.result c.set_at-own.ensures.count
          (c.args.first + statements_count (stmt_trees c.args.statements.now)) c.loop-i.invariant.left;
      from = omega (arith, c.loop-i.invariant.from);
    }

pub set_in-returns : goal.set_in-returns
set_in-returns t c =
    let end : length c.loop-i.statements ≤ c.loop-i.i = omega (arith, c.loop-i-test.false, c.loop-i.auto.statements) in
    all_done c.args.parallel c.args.number c.loop-i.statements c.loop-i.i c.loop-i.own (flag_all c.args.parallel c.args.number (stmt_trees c.args.statements.now) c.args.first) end c.loop-i.invariant.done

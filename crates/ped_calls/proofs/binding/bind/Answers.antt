use Rattle.std.proofs.Common.{◌≤◌, ◌+◌, map, length, drop, ap, arith}
use Rattle.std.proofs.lemmas.List.{drop_all}
use Rattle.ped_tree.specs.Views.{expr_tree, stmt_tree}
use Rattle.ped_calls.specs.Giving.{given_of}
use Rattle.ped_calls.specs.Meaning.{meanings_of}
use Rattle.ped_calls.proofs.BoundArguments.{first_left, binds_more, binds_last}
use Rattle.ped_calls.proofs.binding.bind.Goals as goal

pub loop-place-preserved : goal.loop-place-preserved
loop-place-preserved c =
    let left = ap (map expr_tree) (first_left c.args.arguments.now c.loop-place.place c.index-arguments-place.result c.loop-place-test.true c.index-arguments-place.is) in
    record {
      binds = binds_more c.args.constants.now c.args.formals.now (map expr_tree c.args.arguments.now) (meanings_of c.args.meanings.now) (map stmt_tree c.args.front.now.items) (given_of c.args.given.now)
          (map expr_tree (drop c.loop-place.place c.args.arguments.now)) (map expr_tree (drop (c.loop-place.place + 1) c.args.arguments.now)) c.loop-place.place
          (meanings_of c.loop-place.meanings) (meanings_of c.keep_at.new.meanings) (map stmt_tree c.loop-place.front.items) (map stmt_tree c.bound.new.front.items)
          (given_of c.loop-place.given) (given_of c.bound.new.given) (expr_tree c.index-arguments-place.result) (expr_tree c.in_ok-e.e)
          c.loop-place.invariant.binds left c.in_ok-e.ensures.meant c.in_ok-e.ensures.assignments c.in_ok-e.ensures.given c.in_ok-keep_at.ensures;
      next = c.in_ok-e.ensures.next;
    }

pub returns-clause-meanings : goal.returns-clause-meanings
returns-clause-meanings c =
    let ended : length c.args.arguments.now ≤ c.loop-place.place = omega (arith, c.loop-place-test.false, c.loop-place.auto.place-end) in
    binds_last c.args.constants.now c.args.formals.now (map expr_tree c.args.arguments.now) (meanings_of c.args.meanings.now) (map stmt_tree c.args.front.now.items) (given_of c.args.given.now)
    (map expr_tree (drop c.loop-place.place c.args.arguments.now)) c.loop-place.place (meanings_of c.loop-place.meanings) (map stmt_tree c.loop-place.front.items) (given_of c.loop-place.given)
    c.loop-place.invariant.binds (ap (map expr_tree) (drop_all c.loop-place.place c.args.arguments.now ended))

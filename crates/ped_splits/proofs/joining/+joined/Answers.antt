use Rattle.std.proofs.Common.{ℕ, ◌+◌, ◌-◌, List, length, drop, sym, ap, ◌∙◌, arith}
use Rattle.std.proofs.lemmas.List.{drop_all, take_all, length-drop}
use Rattle.ped_tree.specs.Tree.{StmtTree}
use Rattle.ped_tree.specs.Views.{stmt_trees, do_tree}
use Rattle.ped_tree.specs.declared.statements.Stmt.{Stmt}
use Rattle.ped_rules.specs.ped_steps.specs.Replacing.{followed, alone}
use Rattle.ped_rules.specs.ped_steps.proofs.Followed.{followed-none}
use Rattle.ped_splits.specs.CodePairs.{behind_next, all_joined}
use Rattle.ped_splits.proofs.JointLoops.{joined_next, joined_here, count_next}
use Rattle.ped_splits.proofs.joining.+joined.Goals as goal

pub joined_among-returns-then-is_there : goal.joined_among-returns-then-is_there
joined_among-returns-then-is_there t c =
    let before = stmt_trees c.loop-place.all.items in
    let xs = c.args.statements.now in
    let k = c.loop-place.place + 1 in
    let long = length-drop k xs in
    let rest = take_all (length xs - k) (drop k xs) (omega (arith, long)) in
    let one = c.in_ok-add_one.ensures ∙ ap (λ (s : StmtTree). followed before (alone s)) (c.of_loop.ensures ∙ c.in_ok-copy.ensures) in
    joined_here (do_tree c.args.joint.now.new.now) c.args.joint.now.number c.args.statements.now c.loop-place.place c.index-statements-place.result c.loop-place-test.true c.index-statements-place.is c.loop-place.next before
    (all_joined (do_tree c.args.joint.now.new.now) c.args.joint.now.number (stmt_trees c.args.statements.now) c.args.first) c.loop-place.invariant.joined (stmt_trees c.add_copies.new.all.items) (sym c.is_there.ensures ∙ c.if-is_there.true)
    (c.in_ok-add_copies.ensures ∙ (λ i. followed (one i) (c.behind_next.ensures i)) ∙ ap (λ (ss : List Stmt). followed (followed before (alone (do_tree c.args.joint.now.new.now))) (behind_next (stmt_trees ss))) rest)

pub joined_among-loop-place-preserved : goal.joined_among-loop-place-preserved
joined_among-loop-place-preserved t c =
    let before = stmt_trees c.loop-place.all.items in
    let at = ap (λ (k : ℕ). c.loop-place.next + k) c.count_statement.ensures in
    record {
      count = count_next (do_tree c.args.joint.now.new.now) c.args.joint.now.number c.args.statements.now c.loop-place.place c.index-statements-place.result c.loop-place-test.true c.index-statements-place.is c.loop-place.next before
          (all_joined (do_tree c.args.joint.now.new.now) c.args.joint.now.number (stmt_trees c.args.statements.now) c.args.first) c.loop-place.invariant.joined _ _ at c.loop-place.invariant.count;
      joined = joined_next (do_tree c.args.joint.now.new.now) c.args.joint.now.number c.args.statements.now c.loop-place.place c.index-statements-place.result c.loop-place-test.true c.index-statements-place.is c.loop-place.next before
          (all_joined (do_tree c.args.joint.now.new.now) c.args.joint.now.number (stmt_trees c.args.statements.now) c.args.first) c.loop-place.invariant.joined (stmt_trees c.add_one-in-loop-place.new.all.items) _
          (sym c.is_there.ensures ∙ c.if-is_there.false) at (c.in_ok-add_one-2.ensures ∙ ap (λ (s : StmtTree). followed before (alone s)) c.in_ok-joined_in.ensures);
    }

pub joined_among-returns : goal.joined_among-returns
joined_among-returns t c =
    let all = stmt_trees c.loop-place.all.items in
    let left = drop_all c.loop-place.place c.args.statements.now (omega (arith, c.loop-place-test.false)) in
    sym (followed-none all) ∙ ap (λ (ss : List Stmt). followed all (all_joined (do_tree c.args.joint.now.new.now) c.args.joint.now.number (stmt_trees ss) c.loop-place.next)) (sym left) ∙ c.loop-place.invariant.joined

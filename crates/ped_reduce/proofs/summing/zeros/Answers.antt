use Rattle.std.proofs.Common.{List, map, sym, ap, ◌∙◌, arith}
use Rattle.std.proofs.lemmas.List.{drop_all}
use Rattle.ped_tree.specs.Views.{stmt_trees}
use Rattle.ped_rules.specs.ped_steps.specs.Replacing.{followed}
use Rattle.ped_rules.specs.ped_steps.proofs.Followed.{followed-none}
use Rattle.ped_reduce.specs.declared.partials.Partials.{Partials}
use Rattle.ped_reduce.specs.Lowering.{zeros}
use Rattle.ped_reduce.specs.CodeLowering.{partials_view}
use Rattle.ped_reduce.proofs.SummedCode.{pushed, zeros_next}
use Rattle.ped_reduce.proofs.summing.zeros.Goals as goal

pub loop-p-preserved : goal.loop-p-preserved
loop-p-preserved c =
    let v = c.args.v in
    let ps = c.args.partials.now in
    let all = c.loop-p.all.items in
    let one = c.push.new.self.items in
    let two = c.push-in-loop-p.new.self.items in
    let three = c.push-in-loop-p-2.new.self.items in
    zeros_next v ps c.loop-p.p-index c.p-item.result c.loop-p-test.true c.p-item.is (stmt_trees all) (stmt_trees one) (stmt_trees two) (stmt_trees three) (zeros v (map partials_view ps)) c.loop-p.invariant
    (pushed all one c.in_ok-set.field-0 _ c.in_ok-push.ensures.items c.in_ok-set.ensures)
    (pushed one two c.in_ok-set-2.field-0 _ c.in_ok-push-2.ensures.items c.in_ok-set-2.ensures)
    (pushed two three c.in_ok-set-3.field-0 _ c.in_ok-push-3.ensures.items c.in_ok-set-3.ensures)

pub returns : goal.returns
returns c =
    let all = stmt_trees c.loop-p.all.items in
    let left = drop_all c.loop-p.p-index c.args.partials.now (omega (arith, c.loop-p-test.false)) in
    sym (followed-none all) ∙ ap (λ (ps : List Partials). followed all (zeros c.args.v (map partials_view ps))) (sym left) ∙ c.loop-p.invariant

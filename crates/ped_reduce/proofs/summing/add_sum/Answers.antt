use Rattle.ped_tree.specs.Tree.{Int, Assign, Add, Div, Call, no_exprs, more_exprs, StmtTree}
use Rattle.ped_tree.specs.Views.{stmt_trees}
use Rattle.ped_tree.specs.declared.expressions.Intrinsic.TheVariants.{Mod}
use Rattle.ped_reduce.specs.Lowering.{at, with_sum}
use Rattle.ped_reduce.specs.CodeSums.{sum_view}
use Rattle.ped_reduce.proofs.SummedCode.{pushed, three_more}
use Rattle.ped_reduce.proofs.summing.add_sum.Goals as goal

pub returns : goal.returns
returns c =
    let old = c.args.all.now.items in
    let one = c.push.new.self.items in
    let two = c.push-2.new.self.items in
    let three = c.push-3.new.self.items in
    let v = c.args.v in
    let p = c.args.p.now in
    let more = with_sum (at p.low v) (sum_view c.args.sum.now) in
    let high : StmtTree = Assign (at p.high v) (Add (at p.high v) (Div more (Int 65536))) in
    let low : StmtTree = Assign (at p.low v) (Call Mod (more_exprs more (more_exprs (Int 65536) no_exprs))) in
    let flag : StmtTree = Assign (at p.flag v) (Int 1) in
    three_more (stmt_trees old) (stmt_trees one) (stmt_trees two) (stmt_trees three) high low flag
    (pushed old one c.in_ok-high_part.field-0 high c.in_ok-push.ensures.items c.in_ok-high_part.ensures)
    (pushed one two c.in_ok-low_part.field-0 low c.in_ok-push-2.ensures.items c.in_ok-low_part.ensures)
    (pushed two three c.in_ok-set.field-0 flag c.in_ok-push-3.ensures.items c.in_ok-set.ensures)

use Rattle.std.proofs.Common.{List, ◌≡◌, take, map, ap, ◌∙◌, arith}
use Rattle.std.proofs.lemmas.List.{take_all}
use Rattle.ped_tree.specs.Views.{pack_stmts, stmt_tree, stmt_trees}
use Rattle.ped_tree.specs.declared.statements.Stmt.{Stmt}
use Rattle.ped_loops.specs.CodeInterchanging.{one_around}
use Rattle.ped_loops.specs.CodeShapes.{outer_of, inner_of}
use Rattle.ped_loops.specs.Shapes.{new_inner}
use Rattle.ped_loops.proofs.ShapedCode.{around_all}
use Rattle.ped_loops.proofs.shapes.all_around.Goals as goal

pub returns : goal.returns
returns c =
    let p = c.args.pair.now in
    let whole : take c.loop-statement.statement-index c.args.statements.now ≡ c.args.statements.now = take_all c.loop-statement.statement-index c.args.statements.now (omega arith) in
    ap pack_stmts (c.loop-statement.invariant ∙ ap (λ (ss : List Stmt). map (λ s. one_around (new_inner (outer_of p) (inner_of p)) (stmt_trees p.inner.now.body.items) (stmt_tree s)) ss) whole)
    ∙ around_all (new_inner (outer_of p) (inner_of p)) (stmt_trees p.inner.now.body.items) c.args.statements.now

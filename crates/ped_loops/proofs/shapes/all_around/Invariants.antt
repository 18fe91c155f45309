use Rattle.std.proofs.Common.{◌≡◌, map, take}
use Rattle.ped_tree.specs.Views.{stmt_tree, stmt_trees}
use Rattle.ped_loops.specs.CodeInterchanging.{one_around}
use Rattle.ped_loops.specs.CodeShapes.{outer_of, inner_of}
use Rattle.ped_loops.specs.Shapes.{new_inner}
use Rattle.ped_loops.proofs.shapes.all_around.Given as goal

abbrev pub invariant-loop-statement : goal.invariant-loop-statement
invariant-loop-statement l = map stmt_tree l.body.items ≡ map (λ s. one_around (new_inner (outer_of l.pair) (inner_of l.pair)) (stmt_trees l.pair.inner.now.body.items) (stmt_tree s)) (take l.statement-index l.statements)

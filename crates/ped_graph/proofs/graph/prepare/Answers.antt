use Rattle.std.proofs.Common.{◌<◌, ◌^◌, List, subst, sym}
use Rattle.ped_tree.specs.Views.{program_tree, stmt_trees}
use Rattle.ped_tree.specs.Numbering.{statements_count}
use Rattle.ped_tree.specs.declared.statements.Stmt.{Stmt}
use Rattle.ped_graph.specs.Held.{Framed}
use Rattle.ped_graph.specs.Keys.{AreInOrder}
use Rattle.ped_graph.proofs.Known.{few_statements}
use Rattle.ped_graph.proofs.InOrder.{frame_in_order}
use Rattle.ped_graph.proofs.graph.prepare.Goals as goal

pub extents-requires : goal.extents-requires
extents-requires c = subst (λ (body : List Stmt). statements_count (stmt_trees body) < 2 ^ 32) (sym c.deref.ensures.value) (few_statements (program_tree c.args.program.now) c.requires.valid)

pub invariant_of-result : goal.invariant_of-result
invariant_of-result c = subst (λ (fs : List Framed). AreInOrder fs) (sym c.in_ok-pairs.ensures.facts) (frame_in_order (program_tree c.args.program.now))

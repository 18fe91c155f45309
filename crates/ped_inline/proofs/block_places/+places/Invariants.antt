use Rattle.std.proofs.Common.{◌≡◌, ◌+◌, ◌<◌, ◌^◌, ◌++◌, length, drop}
use Rattle.ped_tree.specs.Views.{stmt_trees}
use Rattle.ped_tree.specs.Numbering.{statements_count}
use Rattle.ped_inline.specs.Folding.{all_blocks_in}
use Rattle.ped_inline.specs.CodeFolding.{places_seen}
use Rattle.ped_inline.proofs.block_places.+places.Given as goal

abbrev pub invariant-push_all-loop-statement : goal.invariant-push_all-loop-statement
invariant-push_all-loop-statement l = record {
  placed : places_seen l.places.items ++ all_blocks_in l.loops (length l.places.items + 1) (stmt_trees (drop l.statement-index l.statements))
      ≡ places_seen l.fn.places.items ++ all_blocks_in l.loops (length l.fn.places.items + 1) (stmt_trees l.statements);
  long : length l.places.items + statements_count (stmt_trees (drop l.statement-index l.statements)) ≡ length l.fn.places.items + statements_count (stmt_trees l.statements);
  depths : l.loops + statements_count (stmt_trees (drop l.statement-index l.statements)) < 2 ^ 32;
}

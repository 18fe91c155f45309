use Rattle.std.proofs.Common.{◌≡◌, drop, map, length}
use Rattle.ped_tree.specs.Views.{expr_tree, pack_exprs}
use Rattle.ped_splits.specs.CodeAlike.{are_same_exprs}
use Rattle.ped_splits.proofs.alike.+same.Given as goal

abbrev pub invariant-are_same_exprs-loop-place : goal.invariant-are_same_exprs-loop-place
invariant-are_same_exprs-loop-place l = record {
  long : length l.all ≡ length l.others;
  same : are_same_exprs (pack_exprs (map expr_tree (drop l.place l.all))) (pack_exprs (map expr_tree (drop l.place l.others))) ≡ are_same_exprs (pack_exprs (map expr_tree l.all)) (pack_exprs (map expr_tree l.others));
}

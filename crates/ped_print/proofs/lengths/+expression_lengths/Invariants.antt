use Rattle.std.proofs.Common.{◌≡◌, ◌+◌, ◌-◌, ◌^◌, ◌≤◌, map, drop, length}
use Rattle.ped_tree.specs.Printing.{further_text}
use Rattle.ped_tree.specs.Views.{expr_tree, pack_exprs}
use Rattle.ped_print.specs.Lengths.{limited}
use Rattle.ped_print.proofs.lengths.+expression_lengths.Given as goal

abbrev pub invariant-exprs_length-loop-e : goal.invariant-exprs_length-loop-e
invariant-exprs_length-loop-e l = record {
  sum : limited (l.total + length (further_text (pack_exprs (map expr_tree (drop l.e-index l.e-items))))) ≡ limited (l.initial.total + length (further_text (pack_exprs (map expr_tree (drop 1 l.all)))));
  fits : l.total ≤ 2 ^ 64 - 1;
}

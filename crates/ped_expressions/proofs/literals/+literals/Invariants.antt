use Rattle.std.proofs.Common.{◌≡◌, map, drop}
use Rattle.ped_tree.specs.Grammar.Literals.{have_large_literal}
use Rattle.ped_tree.specs.Views.{expr_tree, pack_exprs}
use Rattle.ped_expressions.proofs.literals.+literals.Given as goal

abbrev pub invariant-have_large_literal-loop-e : goal.invariant-have_large_literal-loop-e
invariant-have_large_literal-loop-e l = have_large_literal (pack_exprs (map expr_tree (drop l.e-index l.exprs))) ≡ have_large_literal (pack_exprs (map expr_tree l.exprs))

use Rattle.std.proofs.Common.{◌≡◌, map, drop}
use Rattle.ped_tree.specs.Views.{expr_tree, pack_exprs}
use Rattle.ped_rules.specs.ped_symbolic.specs.Substitution.{have_scalar}
use Rattle.ped_reduce.proofs.sums.+has_scalar.Given as goal

abbrev pub invariant-have_scalar-loop-e : goal.invariant-have_scalar-loop-e
invariant-have_scalar-loop-e l =
    have_scalar l.name (pack_exprs (map expr_tree (drop l.e-index l.exprs))) ≡ have_scalar l.name (pack_exprs (map expr_tree l.exprs))

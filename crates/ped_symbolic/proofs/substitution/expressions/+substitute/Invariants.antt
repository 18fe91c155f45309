use Rattle.std.proofs.Common.{◌≡◌, map, take}
use Rattle.ped_tree.specs.Views.{expr_tree}
use Rattle.ped_symbolic.specs.Substitution.{substituted}
use Rattle.ped_symbolic.proofs.substitution.expressions.+substitute.Given as goal

abbrev pub invariant-substitute_in_all-loop-e :
    goal.invariant-substitute_in_all-loop-e
invariant-substitute_in_all-loop-e l =
    map expr_tree l.new.items ≡ map (substituted l.name (expr_tree l.by)) (map expr_tree (take l.e-index l.exprs))

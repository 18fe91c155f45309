-- Statements that add to a scalar, or take away from it (Allen and Kennedy, section 5.6).
use Rattle.std.specs.Prelude.{ℕ, List, not, ◌&&◌, Option, Some, None, if◌then◌else◌}
use Rattle.ped_tree.specs.Tree.{ExprTree, Add, Sub, StmtTree, Assign}
use Rattle.ped_rules.specs.ped_symbolic.specs.Substitution.{has_scalar, is_scalar}

-- what a statement adds to a scalar, or takes away from it
pub data Sum : Type 0 where
  plus : ExprTree → Sum
  minus : ExprTree → Sum

-- what is added to the scalar or taken away where an expression is the scalar's new value: the one operand of a sum whose other is the scalar, or what is taken from the scalar; the scalar doesn't occur in it
abbrev pub sum_of : List ℕ → ExprTree → Option Sum
sum_of x (Add a b) =
    if is_scalar x a && not (has_scalar x b) then Some (plus b)
    else if is_scalar x b && not (has_scalar x a) then Some (plus a)
    else None
sum_of x (Sub a b) = if is_scalar x a && not (has_scalar x b) then Some (minus b) else None
sum_of x e = None

-- what a statement adds to the scalar or takes away from it, where it is a sum of the scalar: K = K+e, K = e+K or K = K-e (Allen and Kennedy, section 5.6)
abbrev pub sum_to : List ℕ → StmtTree → Option Sum
sum_to x (Assign left right) = if is_scalar x left then sum_of x right else None
sum_to x s = None

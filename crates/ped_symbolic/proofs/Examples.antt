-- Sums, products and substitutions in small trees, worked out by their definitions.
use Rattle.std.proofs.Common.{◌≡◌, [], ◌∷◌, true, refl}
use Rattle.std.specs.Prelude.{codes}
use Rattle.ped_tree.specs.declared.expressions.Intrinsic.TheVariants.{Max}
use Rattle.ped_tree.specs.declared.conditions.Relation.TheVariants.{Lt}
use Rattle.ped_tree.specs.Tree.{ExprTree, Int, Var, Element, Neg, Add, Sub, Mul, Call, no_exprs, more_exprs, Rel, Not, Value, Text, Head, StmtTrees, Assign, If, Do, Print, Read, Comment, no_stmts, more_stmts}
use Rattle.ped_symbolic.specs.Arithmetic.{plus_of, minus_of, times_of}
use Rattle.ped_symbolic.specs.Substitution.{substituted, statements_substituted}

abbrev i : ExprTree
i = Var (codes "I")

abbrev j : ExprTree
j = Var (codes "J")

abbrev a : ExprTree → ExprTree
a e = Element (codes "A") (more_exprs e no_exprs)

-- plus

literals_are_added : plus_of (Int 3) (Neg (Int 5)) ≡ Neg (Int 2)
literals_are_added = refl

greatest_literal : plus_of (Int 2147483646) (Int 1) ≡ Int 2147483647
greatest_literal = refl

least_literal : plus_of (Neg (Int 2147483646)) (Neg (Int 1)) ≡ Neg (Int 2147483647)
least_literal = refl

beyond_literals : plus_of (Int 2147483647) (Int 1) ≡ Add (Int 2147483647) (Int 1)
beyond_literals = refl

beyond_below : plus_of (Neg (Int 2147483647)) (Neg (Int 1)) ≡ Sub (Neg (Int 2147483647)) (Int 1)
beyond_below = refl

sum_is_zero : plus_of (Neg (Int 4)) (Int 4) ≡ Int 0
sum_is_zero = refl

signed_zeros : plus_of (Neg (Int 0)) (Neg (Int 0)) ≡ Int 0
signed_zeros = refl

zero_is_added : plus_of i (Int 0) ≡ i
zero_is_added = refl

signed_zero_is_added : plus_of i (Neg (Int 0)) ≡ i
signed_zero_is_added = refl

added_to_zero : plus_of (Int 0) i ≡ i
added_to_zero = refl

added_to_signed_zero : plus_of (Neg (Int 0)) i ≡ i
added_to_signed_zero = refl

negative_is_added : plus_of i (Neg (Int 3)) ≡ Sub i (Int 3)
negative_is_added = refl

positive_is_added : plus_of i (Int 3) ≡ Add i (Int 3)
positive_is_added = refl

-- -J is no literal, and neither is a literal with two signs
signs_that_stay : plus_of i (Neg j) ≡ Add i (Neg j)
signs_that_stay = refl

two_signs_stay : plus_of (Int 1) (Neg (Neg (Int 3))) ≡ Add (Int 1) (Neg (Neg (Int 3)))
two_signs_stay = refl

-- minus

literals_are_subtracted : minus_of (Int 3) (Int 5) ≡ Neg (Int 2)
literals_are_subtracted = refl

beyond_a_difference : minus_of (Neg (Int 2)) (Int 2147483646) ≡ Sub (Neg (Int 2)) (Int 2147483646)
beyond_a_difference = refl

beyond_above : minus_of (Int 2147483647) (Neg (Int 1)) ≡ Add (Int 2147483647) (Int 1)
beyond_above = refl

zero_is_subtracted : minus_of i (Int 0) ≡ i
zero_is_subtracted = refl

signed_zero_is_subtracted : minus_of i (Neg (Int 0)) ≡ i
signed_zero_is_subtracted = refl

subtracted_from_zero : minus_of (Int 0) i ≡ Sub (Int 0) i
subtracted_from_zero = refl

negative_is_subtracted : minus_of i (Neg (Int 3)) ≡ Add i (Int 3)
negative_is_subtracted = refl

positive_is_subtracted : minus_of i (Int 3) ≡ Sub i (Int 3)
positive_is_subtracted = refl

-- times

once : times_of 1 (Add i j) ≡ Add i j
once = refl

once_signed_zero : times_of 1 (Neg (Int 0)) ≡ Neg (Int 0)
once_signed_zero = refl

literal_twice : times_of 2 (Neg (Int 3)) ≡ Neg (Int 6)
literal_twice = refl

zero_twice : times_of 2 (Neg (Int 0)) ≡ Int 0
zero_twice = refl

greatest_product : times_of 2147483647 (Int 1) ≡ Int 2147483647
greatest_product = refl

beyond_a_product : times_of 2 (Int 1073741824) ≡ Mul (Int 2) (Int 1073741824)
beyond_a_product = refl

scalar_twice : times_of 2 i ≡ Mul (Int 2) i
scalar_twice = refl

-- substitution of one scalar

by_a_difference : substituted (codes "I") (Sub j (Int 1)) (Add i (Int 1)) ≡ Add (Sub j (Int 1)) (Int 1)
by_a_difference = refl

by_a_literal : substituted (codes "I") (Int 4) (Sub (Add i (Int 1)) (Int 2)) ≡ Int 3
by_a_literal = refl

by_a_negative : substituted (codes "I") (Neg (Int 4)) (Add j i) ≡ Sub j (Int 4)
by_a_negative = refl

by_zero : substituted (codes "I") (Int 0) (Add i j) ≡ j
by_zero = refl

-- 1+1 and J+0 have no operand that is changed
others_stay : substituted (codes "I") j (Mul (Add (Int 1) (Int 1)) (Add j (Int 0))) ≡ Mul (Add (Int 1) (Int 1)) (Add j (Int 0))
others_stay = refl

by_itself : substituted (codes "I") i (Add i (Int 0)) ≡ Add i (Int 0)
by_itself = refl

-- a sum in the subscript is made anew, and an array of the scalar's name stays
in_subscripts : substituted (codes "I") j (a (Add i (Int 0))) ≡ a j
in_subscripts = refl

array_stays : substituted (codes "A") j (Add (a i) (Int 0)) ≡ Add (a i) (Int 0)
array_stays = refl

in_arguments : substituted (codes "I") (Int 2) (Call Max (more_exprs (Add i (Int 1)) (more_exprs (Neg i) no_exprs))) ≡ Call Max (more_exprs (Int 3) (more_exprs (Neg (Int 2)) no_exprs))
in_arguments = refl

-- a DO with the variable I and the scalar K among its PRIVATE names and its rejected names
abbrev k : ExprTree → Head
k last = record { variable = codes "I"; first = Int 1; last = last; step = Int 1; parallel = true; private = codes "K" ∷ []; rejected = codes "K" ∷ [] }

-- DO I = 1, last: left = left+1; IF (.NOT. left.LT.2) READ *, left; PRINT *, left-1, 'K'
abbrev loop : ExprTree → ExprTree → ExprTree → ExprTree → StmtTrees
loop last left more less = more_stmts (Do (k last) (
    more_stmts (Assign left more)
    (more_stmts (If (Not (Rel Lt left (Int 2))) (more_stmts (Read (left ∷ [])) no_stmts) (more_stmts (Comment (codes "K")) no_stmts))
    (more_stmts (Print (Value less ∷ Text (codes "K") ∷ [])) no_stmts)))) no_stmts

-- K becomes KX1(I) wherever it is assigned, read or asked about, and the lists of the DO stay
in_statements :
    (λ (e : ExprTree). statements_substituted (codes "K") e (loop (Var (codes "K")) (Var (codes "K")) (Add (Var (codes "K")) (Int 1)) (Sub (Var (codes "K")) (Int 1)))) (Element (codes "KX1") (more_exprs i no_exprs))
    ≡ (λ (e : ExprTree). loop e e (Add e (Int 1)) (Sub e (Int 1))) (Element (codes "KX1") (more_exprs i no_exprs))
in_statements = refl

-- the variable of a DO stays, and its bounds and its body don't
variable_stays : statements_substituted (codes "I") (Int 2) (loop (Add i (Int 1)) j i i) ≡ loop (Int 3) j (Int 2) (Int 2)
variable_stays = refl

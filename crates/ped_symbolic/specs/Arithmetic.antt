-- Sums, differences and products of expressions, with those of literals computed (this project).
use Rattle.std.specs.Prelude.{ℕ, ℤ, pos, neg_ℤ, ◌+ℤ◌, ◌-ℤ◌, ◌*ℤ◌, unsigned_abs, nat_le, ◌==◌, Bool, false, Option, Some, None, if◌then◌else◌}
use Rattle.std.specs.Int.{is_negative}
use Rattle.ped_tree.specs.Tree.{ExprTree, Int, Neg, Add, Sub, Mul}

-- the value of a literal with at most one sign, none of any other expression (ANSI X3.9-1978, sections 4.1, 4.3)
abbrev pub literal_value : ExprTree → Option ℤ
literal_value (Int n) = Some (pos n)
literal_value (Neg (Int n)) = Some (neg_ℤ (pos n))
literal_value e = None

-- the literal of a whole number, with a sign where the number is negative (ANSI X3.9-1978, sections 4.1, 4.3)
abbrev pub literal : ℤ → ExprTree
literal n = if is_negative n then Neg (Int (unsigned_abs n)) else Int (unsigned_abs n)

-- an operation on two values, where both are there (plain words)
abbrev pub of_both : (ℤ → ℤ → ℤ) → Option ℤ → Option ℤ → Option ℤ
of_both f (Some m) (Some n) = Some (f m n)
of_both f (Some m) None = None
of_both f None n = None

-- a number that a literal may have: at most 2147483647 in size
abbrev pub small : Option ℤ → Option ℤ
small (Some n) = if nat_le (unsigned_abs n) 2147483647 then Some n else None
small None = None

-- an operation on two literals, where both expressions are literals and a literal may have the result
abbrev pub computed : (ℤ → ℤ → ℤ) → ExprTree → ExprTree → Option ℤ
computed f a b = small (of_both f (literal_value a) (literal_value b))

-- the literal of a number that is there, else the expression
abbrev pub literal_or : Option ℤ → ExprTree → ExprTree
literal_or (Some n) e = literal n
literal_or None e = e

-- the expression is the literal 0, with a sign or without
abbrev pub is_zero : ExprTree → Bool
is_zero (Int n) = n == 0
is_zero (Neg (Int n)) = n == 0
is_zero e = false

-- a+b, which is a-k where b is the literal -k
abbrev pub added : ExprTree → ExprTree → ExprTree
added a (Neg (Int k)) = Sub a (Int k)
added a b = Add a b

-- a-b, which is a+k where b is the literal -k
abbrev pub subtracted : ExprTree → ExprTree → ExprTree
subtracted a (Neg (Int k)) = Add a (Int k)
subtracted a b = Sub a b

-- the sum: of two literals the literal, where it is at most 2147483647 in size; a literal 0 is no operand
abbrev pub plus_of : ExprTree → ExprTree → ExprTree
plus_of a b = literal_or (computed ◌+ℤ◌ a b) (if is_zero b then a else if is_zero a then b else added a b)

-- the difference: of two literals the literal, where it is at most 2147483647 in size; a literal 0 isn't subtracted
abbrev pub minus_of : ExprTree → ExprTree → ExprTree
minus_of a b = literal_or (computed ◌-ℤ◌ a b) (if is_zero b then a else subtracted a b)

-- the product of a number k and an expression: of a literal the literal, where it is at most 2147483647 in size; 1 is no factor
abbrev pub times_of : ℕ → ExprTree → ExprTree
times_of k a = if k == 1 then a else literal_or (computed ◌*ℤ◌ (Int k) a) (Mul (Int k) a)

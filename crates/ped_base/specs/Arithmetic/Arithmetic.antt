-- The operations on whole numbers, exact within 128 bits: each gives its value, or the fault that ends the run (ANSI X3.9-1978, section 6.1).
use Rattle.std.specs.Prelude.{suc, ◌^◌, List, [], ◌∷◌, Bool, ◌&&◌, if◌then◌else◌, ℤ, pos, negsuc, neg_ℤ, ◌+ℤ◌, ◌-ℤ◌, ◌*ℤ◌, int_lt, int_le, int_div, unsigned_abs, Result, Ok, Err}
use Rattle.std.specs.Int.{int_pow, int_min, int_max}
use Rattle.std.specs.Ordering.{int_eq}
use Rattle.ped_base.specs.Arithmetic.Faults.{◌>>=◌}
use Rattle.ped_base.specs.declared.arithmetic.faults.Fault.{Fault}
use Rattle.ped_base.specs.declared.arithmetic.faults.Fault.TheVariants.{DivisionByZero, OutOfRange}

-- from -2^127 to 2^127-1 (this project)
abbrev pub is_in_range : ℤ → Bool
is_in_range n = int_le (neg_ℤ (pos (2 ^ 127))) n && int_lt n (pos (2 ^ 127))

-- the number, or the fault where 128 bits don't hold it (this project)
abbrev pub in_range : ℤ → Result ℤ Fault
in_range n = if is_in_range n then Ok n else Err OutOfRange

-- a+b
abbrev pub sum_of : ℤ → ℤ → Result ℤ Fault
sum_of a b = in_range (a +ℤ b)

-- a-b
abbrev pub difference_of : ℤ → ℤ → Result ℤ Fault
difference_of a b = in_range (a -ℤ b)

-- -a
abbrev pub negation_of : ℤ → Result ℤ Fault
negation_of a = in_range (neg_ℤ a)

-- a*b
abbrev pub product_of : ℤ → ℤ → Result ℤ Fault
product_of a b = in_range (a *ℤ b)

-- a/b, truncated towards zero (ANSI X3.9-1978, section 6.1.5)
abbrev pub quotient_of : ℤ → ℤ → Result ℤ Fault
quotient_of a b = if int_eq b (pos 0) then Err DivisionByZero else in_range (int_div a b)

-- a**n, where 0**0 is 1; with a negative exponent, which is -(n+1) in the second line, 1 divided by the power with the opposite one
abbrev pub power_of : ℤ → ℤ → Result ℤ Fault
power_of a (pos n) = in_range (int_pow a n)
power_of a (negsuc n) = in_range (int_pow a (suc n)) >>= quotient_of (pos 1)

-- MOD(a,b) is a-(a/b)*b, each of the three operations in its range (ANSI X3.9-1978, table 5)
abbrev pub remainder_of : ℤ → ℤ → Result ℤ Fault
remainder_of a b = quotient_of a b >>= λ q. product_of q b >>= λ m. difference_of a m

-- ABS(a) (ANSI X3.9-1978, table 5)
abbrev pub absolute_value_of : ℤ → Result ℤ Fault
absolute_value_of a = in_range (pos (unsigned_abs a))

-- MAX(a,b) (ANSI X3.9-1978, table 5)
abbrev pub greatest_of : ℤ → ℤ → Result ℤ Fault
greatest_of a b = in_range (int_max a b)

-- MIN(a,b) (ANSI X3.9-1978, table 5)
abbrev pub least_of : ℤ → ℤ → Result ℤ Fault
least_of a b = in_range (int_min a b)

-- an operation on more numbers, from left to right: of the first two, then of that value and the third, and so on
abbrev pub from_left : (ℤ → ℤ → Result ℤ Fault) → ℤ → List ℤ → Result ℤ Fault
from_left f a [] = Ok a
from_left f a (b ∷ rest) = f a b >>= λ c. from_left f c rest

-- The first and the last value of a DO's variable, and the numbers that a literal may have (ANSI X3.9-1978, sections 4.3, 11.10.3).
use Rattle.std.specs.Prelude.{ℕ, ℤ, pos, neg_ℤ, ◌-ℤ◌, int_le, int_lt, int_rem, List, Bool, ◌||◌, Option, Some, None, if◌then◌else◌}
use Rattle.ped_tree.specs.Tree.{Head}
use Rattle.ped_tree.specs.Constants.ConstantExpressions.{constant_value}

-- the named constants with their values
abbrev pub Values : Type 0
Values = List (List ℕ × ℤ)

-- the values of a DO's variable in its first and in its last iteration
pub record Span : Type 0 where
  pub first : ℤ
  pub last : ℤ

-- from the first value in steps of the increment there is a value up to the limit (ANSI X3.9-1978, section 11.10.3)
abbrev pub has_iteration : ℤ → ℤ → ℤ → Bool
has_iteration m1 m2 m3 = if int_lt (pos 0) m3 then int_le m1 m2 else int_le m2 m1

-- the value in the last iteration: the limit less the rest of the way there in steps of the increment (ANSI X3.9-1978, section 11.10.3)
abbrev pub last_value : ℤ → ℤ → ℤ → ℤ
last_value m1 m2 m3 = m2 -ℤ int_rem (m2 -ℤ m1) m3

-- the first and the last value of a DO by its initial value, its limit and its increment, where all are constant and there is an iteration (ANSI X3.9-1978, section 11.10.3)
abbrev pub span_by : Option ℤ → Option ℤ → Option ℤ → Option Span
span_by (Some m1) (Some m2) (Some m3) = if has_iteration m1 m2 m3 then Some (record { first = m1; last = last_value m1 m2 m3 }) else None
span_by (Some m1) (Some m2) None = None
span_by (Some m1) None m3 = None
span_by None m2 m3 = None

-- the first and the last value of a DO's variable, where its bounds are constant and there is an iteration (ANSI X3.9-1978, section 11.10.3)
abbrev pub span_of : Values → Head → Option Span
span_of constants h = span_by (constant_value constants h.first) (constant_value constants h.last) (constant_value constants h.step)

-- no literal has this value: it lies more than 2147483647 from zero (this project)
abbrev pub is_far : ℤ → Bool
is_far n = int_lt (pos 2147483647) n || int_lt n (neg_ℤ (pos 2147483647))

-- the DO's variable has a least or a greatest value that no literal has (this project)
abbrev pub spans_far : Span → Bool
spans_far v = is_far v.first || is_far v.last

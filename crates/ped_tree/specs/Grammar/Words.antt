-- Words of statements: names, numerals, and the names of the intrinsic functions (ANSI X3.9-1978, section 2.2).
use Rattle.std.specs.Prelude.{ℕ, List, [], ◌∷◌, Bool, false, ◌&&◌, ◌||◌, nat_le, length, codes, Option, Some, None, if◌then◌else◌}
use Rattle.std.specs.List.{list_all}
use Rattle.std.specs.Str.Parse.{digits_value}
use Rattle.ped_base.specs.Letters
use Rattle.ped_base.specs.Lists.{is_same_text}
use Rattle.ped_base.specs.Letters.{is_digit}
use Rattle.ped_tree.specs.declared.expressions.Intrinsic.{Intrinsic}
use Rattle.ped_tree.specs.declared.expressions.Intrinsic.TheVariants.{Mod, Abs, Max, Min}
use Rattle.ped_tree.specs.Grammar.LimitNumbers.{most_name}

-- a name: a letter and letters and digits after it, 31 characters at most (ANSI X3.9-1978, section 2.2; this project)
abbrev pub is_name : List ℕ → Bool
is_name x = Letters.is_name x && nat_le (length x) most_name

-- a numeral: one digit or more (ANSI X3.9-1978, section 4.3.1)
abbrev pub is_numeral : List ℕ → Bool
is_numeral [] = false
is_numeral (c ∷ cs) = list_all is_digit (c ∷ cs)

-- the number that a numeral writes (ANSI X3.9-1978, section 4.3.1)
abbrev pub numeral_value : List ℕ → ℕ
numeral_value digits = digits_value 10 digits

-- the intrinsic function of a name, where it is MOD, ABS, IABS, MAX, MAX0, MIN or MIN0 (ANSI X3.9-1978, section 15.10)
unfoldable pub intrinsic_of : List ℕ → Option Intrinsic
intrinsic_of x =
    if is_same_text x (codes "MOD") then Some Mod
    else if is_same_text x (codes "ABS") || is_same_text x (codes "IABS") then Some Abs
    else if is_same_text x (codes "MAX") || is_same_text x (codes "MAX0") then Some Max
    else if is_same_text x (codes "MIN") || is_same_text x (codes "MIN0") then Some Min
    else None

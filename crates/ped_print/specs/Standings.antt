-- The places where a condition may occur, as the definitions of printing name them. Only contracts of private functions use it.
use Rattle.std.specs.Prelude.{Bool, false}
use Rattle.ped_tree.specs.Tree.{CondTree, Rel, Not, And, Or}
use Rattle.ped_tree.specs.Printing as plain
use Rattle.ped_tree.specs.Printing.{encloses_or, encloses_and, encloses_not}
use Rattle.ped_print.specs.declared.conditions.Standing.{Standing}
use Rattle.ped_print.specs.declared.conditions.Standing.TheVariants as code

-- the place of the code as a place of the definitions
abbrev pub standing_of : Standing → plain.Standing
standing_of code.Whole = plain.whole
standing_of code.InOr = plain.in_or
standing_of code.InAnd = plain.in_and
standing_of code.InNot = plain.in_not

-- a condition needs parentheses at a place
abbrev pub encloses : plain.Standing → CondTree → Bool
encloses s (Rel r a b) = false
encloses s (Not a) = encloses_not s
encloses s (And a b) = encloses_and s
encloses s (Or a b) = encloses_or s

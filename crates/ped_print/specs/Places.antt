-- The places where an expression may occur, as the definitions of printing name them. Only contracts of private functions use it.
use Rattle.std.specs.Prelude.{Bool, false}
use Rattle.ped_tree.specs.Tree.{ExprTree, Int, Var, Element, Neg, Add, Sub, Mul, Div, Pow, Call}
use Rattle.ped_tree.specs.Printing as plain
use Rattle.ped_tree.specs.Printing.{encloses_sum, encloses_product, encloses_power}
use Rattle.ped_print.specs.declared.expressions.Place.{Place}
use Rattle.ped_print.specs.declared.expressions.Place.TheVariants as code

-- the place of the code as a place of the definitions
abbrev pub place_of : Place → plain.Place
place_of code.Alone = plain.alone
place_of code.AsTerm = plain.as_term
place_of code.AsFactor = plain.as_factor
place_of code.AsBase = plain.as_base

-- an expression needs parentheses at a place
abbrev pub encloses : plain.Place → ExprTree → Bool
encloses p (Int n) = false
encloses p (Var x) = false
encloses p (Element x subscripts) = false
encloses p (Neg a) = encloses_sum p
encloses p (Add a b) = encloses_sum p
encloses p (Sub a b) = encloses_sum p
encloses p (Mul a b) = encloses_product p
encloses p (Div a b) = encloses_product p
encloses p (Pow a b) = encloses_power p
encloses p (Call f arguments) = false

-- What stands for names, as the code keeps it. Only contracts of private functions use it.
use Rattle.std.specs.Prelude.{map}
use Rattle.ped_tree.specs.Tree.{ExprTree, Add, Sub, Mul, Div, Pow, Head}
use Rattle.ped_tree.specs.Views.{value_tree}
use Rattle.ped_links.specs.ped_units.specs.Expanding as plain
use Rattle.ped_calls.specs.declared.replacing.Meanings.{Meanings}

-- names with the plain trees of what stands for them
abbrev pub meanings_of : Meanings → plain.Meanings
meanings_of m = map value_tree m.exprs.entries

-- a head with these bounds and this increment
abbrev pub with_control : ExprTree → ExprTree → ExprTree → Head → Head
with_control first last step h = record h { first = first; last = last; step = step }

-- the operation that an expression is, on these operands; of what has not two operands, the first of these
abbrev pub with_operands : ExprTree → ExprTree → ExprTree → ExprTree
with_operands (Add a b) left right = Add left right
with_operands (Sub a b) left right = Sub left right
with_operands (Mul a b) left right = Mul left right
with_operands (Div a b) left right = Div left right
with_operands (Pow a b) left right = Pow left right
with_operands e left right = left

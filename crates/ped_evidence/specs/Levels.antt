-- The DO loops round a reference with their ranges, and what bounds their variables (ANSI X3.9-1978, section 11.10.3; this project).
use Rattle.std.specs.Prelude.{pos, List, [], ◌∷◌, ◌++◌, int_lt, Bool, true, false, if◌then◌else◌}
use Rattle.ped_views.specs.Views.{Range}
use Rattle.ped_tree.specs.declared.expressions.Intrinsic.{Intrinsic}
use Rattle.ped_tree.specs.declared.expressions.Intrinsic.TheVariants.{Mod, Abs, Max, Min}
use Rattle.ped_tree.specs.Tree.{ExprTree, ExprTrees, Int, Var, Element, Neg, Add, Sub, Mul, Div, Pow, Call, no_exprs, more_exprs, Head}
use Rattle.ped_tree.specs.Nests.{Loop}
use Rattle.ped_affine.specs.Ranges.{Setting, nest_ranges}
use Rattle.ped_affine.specs.PairViews.{heads_of}

-- a DO round a reference: the DO loops round it, the outermost first, its head, and its range
pub record Level : Type 0 where
  pub around : List Loop
  pub head : Head
  pub range : Range

-- the level of a DO (plain words)
abbrev pub level : List Loop → Head → Range → Level
level around head range = record { around = around; head = head; range = range }

-- loops with these ranges, inside these loops
abbrev pub levels_inside : List Loop → List Loop → List Range → List Level
levels_inside around (l ∷ ls) (r ∷ rs) = level around l.head r ∷ levels_inside (around ++ l ∷ []) ls rs
levels_inside around (l ∷ ls) [] = []
levels_inside around [] rs = []

-- the loops of a nest with their ranges, the outermost first (ANSI X3.9-1978, section 11.10.3)
abbrev pub levels_of : Setting → List Loop → List Level
levels_of s nest = levels_inside [] nest (nest_ranges s (heads_of nest))

-- the function is MAX
abbrev pub is_max : Intrinsic → Bool
is_max Max = true
is_max Mod = false
is_max Abs = false
is_max Min = false

-- the function is MIN
abbrev pub is_min : Intrinsic → Bool
is_min Min = true
is_min Mod = false
is_min Abs = false
is_min Max = false

-- the operands of a bound: those of this function, MAX or MIN, where an operand that is a call of it is replaced by its own operands; the bound alone where it is no such call (this project)
abbrev mutual
  pub operands : (Intrinsic → Bool) → ExprTree → List ExprTree
  operands is_such (Call f arguments) = if is_such f then operands_of_all is_such arguments else Call f arguments ∷ []
  operands is_such (Int n) = Int n ∷ []
  operands is_such (Var x) = Var x ∷ []
  operands is_such (Element x subscripts) = Element x subscripts ∷ []
  operands is_such (Neg a) = Neg a ∷ []
  operands is_such (Add a b) = Add a b ∷ []
  operands is_such (Sub a b) = Sub a b ∷ []
  operands is_such (Mul a b) = Mul a b ∷ []
  operands is_such (Div a b) = Div a b ∷ []
  operands is_such (Pow a b) = Pow a b ∷ []

  -- the operands of arguments, one after another
  pub operands_of_all : (Intrinsic → Bool) → ExprTrees → List ExprTree
  operands_of_all is_such no_exprs = []
  operands_of_all is_such (more_exprs e rest) = operands is_such e ++ operands_of_all is_such rest

-- the loop counts down (ANSI X3.9-1978, section 11.10.7)
abbrev pub falls : Level → Bool
falls v = int_lt v.range.step (pos 0)

-- what the variable of a loop is at least, each of them: the initial value, or the limit where the loop counts down; of a MAX each operand (ANSI X3.9-1978, section 11.10.3)
abbrev pub lower_bounds : Level → List ExprTree
lower_bounds v = if falls v then operands is_max v.head.last else operands is_max v.head.first

-- what the variable of a loop is at most, each of them: the limit, or the initial value where the loop counts down; of a MIN each operand (ANSI X3.9-1978, section 11.10.3)
abbrev pub upper_bounds : Level → List ExprTree
upper_bounds v = if falls v then operands is_min v.head.first else operands is_min v.head.last

-- the same in the order of the text: those of the initial value, and then those of the limit
abbrev pub bounds_in_text : Level → List ExprTree
bounds_in_text v = if falls v then upper_bounds v ++ lower_bounds v else lower_bounds v ++ upper_bounds v

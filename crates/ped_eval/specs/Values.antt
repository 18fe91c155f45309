-- Values of expressions and truth of conditions (ANSI X3.9-1978, sections 6.1, 6.3, 6.4, 6.6, 15.10; this project).
use Rattle.std.specs.Prelude.{ℕ, ℤ, pos, int_lt, int_le, List, [], ◌∷◌, length, nat_le, Bool, not, ◌&&◌, ◌||◌, Option, Some, None, Result, Ok, Err, if◌then◌else◌}
use Rattle.std.specs.Ordering.{int_eq}
use Rattle.ped_base.specs.declared.arithmetic.faults.Fault.{Fault}
use Rattle.ped_base.specs.Arithmetic.Arithmetic.{sum_of, difference_of, negation_of, product_of, quotient_of, power_of}
use Rattle.ped_tree.specs.Constants.NamedConstants.{value_named}
use Rattle.ped_tree.specs.Constants.ConstantExpressions.{intrinsic_result}
use Rattle.ped_tree.specs.declared.conditions.Relation.{Relation}
use Rattle.ped_tree.specs.declared.conditions.Relation.TheVariants.{Lt, Le, Eq, Ne, Gt, Ge}
use Rattle.ped_tree.specs.Tree.{ExprTree, ExprTrees, Int, Var, Element, Neg, Add, Sub, Mul, Div, Pow, Call, no_exprs, more_exprs, CondTree, Rel, Not, And, Or}
use Rattle.ped_store.specs.Cells as cells
use Rattle.ped_store.specs.Cells.{Cell}
use Rattle.ped_store.specs.Stores.{Store, outside_bounds, out_of_range}
use Rattle.ped_store.specs.Storage.{is_within}
use Rattle.ped_eval.specs.Scopes.{Names}
use Rattle.ped_eval.specs.Evaluation.{Evaluated, ◌>>>◌, given, by_number, read_cell, read_index}

-- an operation on a number
abbrev pub unary : (ℤ → Result ℤ Fault) → Evaluated ℤ → Evaluated ℤ
unary f a = a >>> λ u. given (by_number (f u))

-- an operation on two numbers, the left one evaluated first
abbrev pub binary : (ℤ → ℤ → Result ℤ Fault) → Evaluated ℤ → Evaluated ℤ → Evaluated ℤ
binary f a b = a >>> λ u. b >>> λ v. given (by_number (f u v))

-- an intrinsic function of its arguments; one with a wrong number of them is refused before any run (ANSI X3.9-1978, table 5)
abbrev pub of_intrinsic : Option (Result ℤ Fault) → Result ℤ ℕ
of_intrinsic (Some r) = by_number r
of_intrinsic None = Err out_of_range

-- the variable of a DO in its body has the value that the place gives; another scalar is read from its cell (ANSI X3.9-1978, section 11.10; this project)
abbrev pub variable_value : Option ℤ → Store → Cell → Evaluated ℤ
variable_value (Some n) s c = read_index c n
variable_value None s c = read_cell s c

-- a constant has its value, and any other scalar is read (ANSI X3.9-1978, section 8.6)
abbrev pub name_value : Option ℤ → Names → List ℕ → Store → Evaluated ℤ
name_value (Some n) g x s = given (Ok n)
name_value None g x s = variable_value (g.index x) s (g.cell x)

-- an element has one to seven subscripts, as its array has dimensions (ANSI X3.9-1978, sections 5.1.1, 5.4.2)
abbrev pub is_rank : ℕ → Bool
is_rank n = nat_le 1 n && nat_le n 7

-- the element with these subscripts, or the fault where one lies outside its bounds (ANSI X3.9-1978, section 5.4.2)
abbrev pub element_cell : Names → List ℕ → List ℤ → Result Cell ℕ
element_cell g x subscripts = if is_rank (length subscripts) && is_within (g.bounds x) subscripts then Ok (cells.Element x subscripts) else Err outside_bounds

-- the value of an expression: operands from left to right, all operations exact within 128 bits; the subscripts of an element, then its bounds, then its read (ANSI X3.9-1978, sections 6.1, 6.6; this project)
abbrev mutual
  pub value : Names → ExprTree → Store → Evaluated ℤ
  value g (Int n) s = given (Ok (pos n))
  value g (Var x) s = name_value (value_named g.constants x) g x s
  value g (Element x subscripts) s = values g subscripts s >>> λ js. given (element_cell g x js) >>> read_cell s
  value g (Neg a) s = unary negation_of (value g a s)
  value g (Add a b) s = binary sum_of (value g a s) (value g b s)
  value g (Sub a b) s = binary difference_of (value g a s) (value g b s)
  value g (Mul a b) s = binary product_of (value g a s) (value g b s)
  value g (Div a b) s = binary quotient_of (value g a s) (value g b s)
  value g (Pow a b) s = binary power_of (value g a s) (value g b s)
  value g (Call f arguments) s = values g arguments s >>> λ us. given (of_intrinsic (intrinsic_result f us))

  -- the values of expressions, in order
  pub values : Names → ExprTrees → Store → Evaluated (List ℤ)
  values g no_exprs s = given (Ok [])
  values g (more_exprs e rest) s = value g e s >>> λ u. values g rest s >>> λ us. given (Ok (u ∷ us))

-- a relation of two numbers (ANSI X3.9-1978, section 6.3)
abbrev pub relation_holds : Relation → ℤ → ℤ → Bool
relation_holds Lt a b = int_lt a b
relation_holds Le a b = int_le a b
relation_holds Eq a b = int_eq a b
relation_holds Ne a b = not (int_eq a b)
relation_holds Gt a b = int_lt b a
relation_holds Ge a b = int_le b a

-- whether a condition is true: both sides are always evaluated, the left one first (ANSI X3.9-1978, sections 6.3, 6.4; this project)
abbrev pub truth : Names → CondTree → Store → Evaluated Bool
truth g (Rel r a b) s = value g a s >>> λ u. value g b s >>> λ v. given (Ok (relation_holds r u v))
truth g (Not a) s = truth g a s >>> λ u. given (Ok (not u))
truth g (And a b) s = truth g a s >>> λ u. truth g b s >>> λ v. given (Ok (u && v))
truth g (Or a b) s = truth g a s >>> λ u. truth g b s >>> λ v. given (Ok (u || v))

-- the cell of a left side or of an item of a READ; nothing else may be there (ANSI X3.9-1978, sections 10.1, 12.8; this project)
abbrev pub target : Names → ExprTree → Store → Evaluated Cell
target g (Var x) s = given (Ok (g.cell x))
target g (Element x subscripts) s = values g subscripts s >>> λ js. given (element_cell g x js)
target g e s = given (Err outside_bounds)

-- Plain bounds: those that can be evaluated anywhere in the outermost DO, since they depend on the DO variables around them alone (this project).
use Rattle.std.specs.Prelude.{◌≡◌, ℕ, ℤ, ◌+◌, List, [], ◌∷◌, ◌++◌, nat_le, nat_lt, false, ◌&&◌, ◌⊎◌, IsTrue, Option, Some, None, if◌then◌else◌}
use Rattle.ped_base.specs.Lists.{is_among}
use Rattle.ped_tree.specs.declared.expressions.Intrinsic.{Intrinsic}
use Rattle.ped_tree.specs.declared.expressions.Intrinsic.TheVariants.{Max, Min}
use Rattle.ped_tree.specs.Tree.{ExprTree, ExprTrees, Int, Var, Element, Neg, Add, Sub, Mul, Div, Pow, Call, no_exprs, more_exprs, StmtTree, StmtTrees, Assign, If, Do, Print, Read, Stop, Comment, no_stmts, more_stmts, ProgramTree}
use Rattle.ped_tree.specs.Nests.{Loop, indices_of}
use Rattle.ped_tree.specs.Numbering.{statement_count, statements_count, statement_with}
use Rattle.ped_tree.specs.Constants.ConstantExpressions.{constant_value}
use Rattle.ped_affine.specs.Assigned.{assigned_in}
use Rattle.ped_tree.specs.NamesIn.{all_loop_variables}
use Rattle.ped_affine.specs.Ranges.{Setting, Around, interval_of, loop_range, inside}
use Rattle.ped_flow.specs.Questions.{IsAssignedBefore}

-- the DO loops of a statement that are around the statement with a number, the outermost first; the statement has number n
abbrev mutual
  pub loops_round : ℕ → StmtTree → ℕ → List Loop
  loops_round number (Assign left right) n = []
  loops_round number (If condition then_part else_part) n = all_loops_round number then_part (n + 1) ++ all_loops_round number else_part (n + 1 + statements_count then_part)
  loops_round number (Do h body) n =
      if nat_lt n number && nat_le number (n + statements_count body) then (record { number = n; head = h }) ∷ all_loops_round number body (n + 1) else []
  loops_round number (Print items) n = []
  loops_round number (Read items) n = []
  loops_round number Stop n = []
  loops_round number (Comment text) n = []

  pub all_loops_round : ℕ → StmtTrees → ℕ → List Loop
  all_loops_round number no_stmts n = []
  all_loops_round number (more_stmts s rest) n = loops_round number s n ++ all_loops_round number rest (n + statement_count s)

-- the DO loops of a program around the statement with a number, the outermost first
abbrev pub nest_round : ProgramTree → ℕ → List Loop
nest_round t number = all_loops_round number t.body 1

-- the number of the outermost of these DO loops, or else this one
abbrev pub outermost_or : ℕ → List Loop → ℕ
outermost_or number [] = number
outermost_or number (l ∷ ls) = l.number

-- what a statement assigns, where there is one
abbrev pub assigned_by : Option StmtTree → List (List ℕ)
assigned_by (Some s) = assigned_in s
assigned_by None = []

-- the named constants with their values
abbrev pub Values : Type 0
Values = List (List ℕ × ℤ)

-- what ranges depend on in the outermost DO that is the DO with this number or is around it
abbrev pub setting_round : Values → ProgramTree → ℕ → Setting
setting_round constants t l = record {
  constants = constants;
  loop_variables = all_loop_variables t.body;
  assigned = assigned_by (statement_with (outermost_or l (nest_round t l)) t);
}

-- DO loops with their ranges, each inside those before it (ANSI X3.9-1978, section 11.10.3)
abbrev pub around_with : Setting → Around → List Loop → Around
around_with s around [] = around
around_with s around (l ∷ ls) = around_with s (inside around l.head (loop_range s around l.head)) ls

-- the expression is constant and doesn't fault
abbrev pub IsConstant : Setting → ExprTree → Type 0
IsConstant s e = (constant_value s.constants e ≡ None) → ⊥

-- the scalar has one value throughout the outermost DO: it is assigned on each path to it and not overwritten in it, and no DO of the program has it as its variable
pub record IsFixed (constants : Values) (t : ProgramTree) (l : ℕ) (x : List ℕ) : Type 0 where
  pub before : IsAssignedBefore t l x
  pub kept : is_among x (setting_round constants t l).assigned ≡ false
  pub other : is_among x (setting_round constants t l).loop_variables ≡ false

-- the intrinsic function is MAX or MIN
abbrev pub IsExtreme : Intrinsic → Type 0
IsExtreme f = (f ≡ Max) ⊎ (f ≡ Min)

-- an expression is built as a plain bound of a DO is: of constants, variables of DO loops around it and fixed scalars, by sign, sum, difference, product with a constant, MAX and MIN
abbrev mutual
  pub IsPlainlyBuilt : Values → ProgramTree → ℕ → ExprTree → Type 0
  IsPlainlyBuilt constants t l (Int n) = Unit {0}
  IsPlainlyBuilt constants t l (Var x) = IsConstant (setting_round constants t l) (Var x) ⊎ IsTrue (is_among x (indices_of (nest_round t l))) ⊎ IsFixed constants t l x
  IsPlainlyBuilt constants t l (Element x subscripts) = ⊥
  IsPlainlyBuilt constants t l (Neg a) = IsConstant (setting_round constants t l) (Neg a) ⊎ IsPlainlyBuilt constants t l a
  IsPlainlyBuilt constants t l (Add a b) = IsConstant (setting_round constants t l) (Add a b) ⊎ (IsPlainlyBuilt constants t l a × IsPlainlyBuilt constants t l b)
  IsPlainlyBuilt constants t l (Sub a b) = IsConstant (setting_round constants t l) (Sub a b) ⊎ (IsPlainlyBuilt constants t l a × IsPlainlyBuilt constants t l b)
  IsPlainlyBuilt constants t l (Mul a b) =
      IsConstant (setting_round constants t l) (Mul a b)
      ⊎ (IsConstant (setting_round constants t l) a × IsPlainlyBuilt constants t l b)
      ⊎ (IsPlainlyBuilt constants t l a × IsConstant (setting_round constants t l) b)
  IsPlainlyBuilt constants t l (Div a b) = IsConstant (setting_round constants t l) (Div a b)
  IsPlainlyBuilt constants t l (Pow a b) = IsConstant (setting_round constants t l) (Pow a b)
  IsPlainlyBuilt constants t l (Call f arguments) = IsConstant (setting_round constants t l) (Call f arguments) ⊎ (IsExtreme f × ArePlainlyBuilt constants t l arguments)

  pub ArePlainlyBuilt : Values → ProgramTree → ℕ → ExprTrees → Type 0
  ArePlainlyBuilt constants t l no_exprs = Unit {0}
  ArePlainlyBuilt constants t l (more_exprs e rest) = IsPlainlyBuilt constants t l e × ArePlainlyBuilt constants t l rest

-- a bound of the DO with this number is plain: it is built so, and the intervals of its parts lie within 2^62 of zero (this project)
pub record IsPlain (constants : Values) (t : ProgramTree) (l : ℕ) (e : ExprTree) : Type 0 where
  pub built : IsPlainlyBuilt constants t l e
  pub near : (interval_of (setting_round constants t l) (around_with (setting_round constants t l) [] (nest_round t l)) e ≡ None) → ⊥

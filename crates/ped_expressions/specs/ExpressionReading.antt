-- Reading an expression from left to right, with a number of steps that bounds the recursion (this project).
use Rattle.std.specs.Prelude.{ℕ, zero, suc, ◌+◌, ◌*◌, List, length, codes, min, Option, Some, None, Bool, true, false, ◌==◌, nat_le, if◌then◌else◌}
use Rattle.ped_base.specs.Letters.{is_digit, is_alphanumeric}
use Rattle.ped_tree.specs.declared.expressions.Intrinsic.{Intrinsic}
use Rattle.ped_tree.specs.declared.expressions.Intrinsic.TheVariants.{Mod, Abs, Max, Min}
use Rattle.ped_tree.specs.Tree.{ExprTree, ExprTrees, Int, Var, Element, Neg, Add, Sub, Mul, Div, Pow, Call, no_exprs, more_exprs}
use Rattle.ped_tree.specs.Grammar.Words.{is_name, numeral_value, intrinsic_of}
use Rattle.ped_tree.specs.Grammar.ExpressionForms.{signed, added, scaled}
use Rattle.ped_expressions.specs.Scanning.{Answer, ◌>>=◌, go_on, front, behind, first_is, after, sign_at, adding_at, scaling_at}

-- a number as an unsigned integer of 32 bits keeps it: the greatest one where it is greater
abbrev pub saturated : ℕ → ℕ
saturated n = min n 4294967295

abbrev mutual
  -- the tree with each literal n as v n
  pub with_literals : (ℕ → ℕ) → ExprTree → ExprTree
  with_literals v (Int n) = Int (v n)
  with_literals v (Var x) = Var x
  with_literals v (Element x subscripts) = Element x (all_with_literals v subscripts)
  with_literals v (Neg a) = Neg (with_literals v a)
  with_literals v (Add a b) = Add (with_literals v a) (with_literals v b)
  with_literals v (Sub a b) = Sub (with_literals v a) (with_literals v b)
  with_literals v (Mul a b) = Mul (with_literals v a) (with_literals v b)
  with_literals v (Div a b) = Div (with_literals v a) (with_literals v b)
  with_literals v (Pow a b) = Pow (with_literals v a) (with_literals v b)
  with_literals v (Call f arguments) = Call f (all_with_literals v arguments)

  -- the trees with each literal n as v n
  pub all_with_literals : (ℕ → ℕ) → ExprTrees → ExprTrees
  all_with_literals v no_exprs = no_exprs
  all_with_literals v (more_exprs e rest) = more_exprs (with_literals v e) (all_with_literals v rest)

-- how many expressions there are
abbrev pub expr_count : ExprTrees → ℕ
expr_count no_exprs = 0
expr_count (more_exprs e rest) = suc (expr_count rest)

-- the intrinsic function takes this many arguments
abbrev pub takes : Intrinsic → ℕ → Bool
takes Mod n = n == 2
takes Abs n = n == 1
takes Max n = nat_le 2 n
takes Min n = nat_le 2 n

-- a name before a list in parentheses: an intrinsic function, where it takes this many arguments, or else an element
abbrev pub applied : List ℕ → ExprTrees → Option ExprTree
applied x es = go_on (intrinsic_of x) (Some (Element x es)) (λ f. if takes f (expr_count es) then Some (Call f es) else None)

-- the literal of the digits at the front
abbrev pub literal_at : (ℕ → ℕ) → List ℕ → Answer ExprTree
literal_at v text = Some (Int (v (numeral_value (front is_digit text))), behind is_digit text)

abbrev mutual
  -- an expression, with at most n steps, each literal m as v m
  pub expr_at : (ℕ → ℕ) → ℕ → List ℕ → Answer ExprTree
  expr_at v zero text = None
  expr_at v (suc n) text = term_at v n (sign_at text).1 >>= λ x. sums_at v n (signed (sign_at text).0 x.0) x.1

  -- what is added to an expression
  pub sums_at : (ℕ → ℕ) → ℕ → ExprTree → List ℕ → Answer ExprTree
  sums_at v zero a text = None
  sums_at v (suc n) a text = go_on (adding_at text) (Some (a, text)) (λ op. term_at v n op.1 >>= λ x. sums_at v n (added op.0 a x.0) x.1)

  -- a term
  pub term_at : (ℕ → ℕ) → ℕ → List ℕ → Answer ExprTree
  term_at v zero text = None
  term_at v (suc n) text = factor_at v n text >>= λ x. products_at v n x.0 x.1

  -- what a term is multiplied with
  pub products_at : (ℕ → ℕ) → ℕ → ExprTree → List ℕ → Answer ExprTree
  products_at v zero a text = None
  products_at v (suc n) a text = go_on (scaling_at text) (Some (a, text)) (λ op. factor_at v n op.1 >>= λ x. products_at v n (scaled op.0 a x.0) x.1)

  -- a factor
  pub factor_at : (ℕ → ℕ) → ℕ → List ℕ → Answer ExprTree
  factor_at v zero text = None
  factor_at v (suc n) text = primary_at v n text >>= λ x. go_on (after (codes "**") x.1) (Some x) (λ r. factor_at v n r >>= λ y. Some (Pow x.0 y.0, y.1))

  -- a primary
  pub primary_at : (ℕ → ℕ) → ℕ → List ℕ → Answer ExprTree
  primary_at v zero text = None
  primary_at v (suc n) text =
      go_on (after (codes "(") text)
      (if first_is is_digit text then literal_at v text else named_at v n (front is_alphanumeric text) (behind is_alphanumeric text))
      (λ q. expr_at v n q >>= λ x. after (codes ")") x.1 >>= λ r. Some (x.0, r))

  -- a name, and its subscripts or arguments
  pub named_at : (ℕ → ℕ) → ℕ → List ℕ → List ℕ → Answer ExprTree
  named_at v zero x text = None
  named_at v (suc n) x text =
      if is_name x then go_on (after (codes "(") text) (Some (Var x, text)) (λ q. exprs_at v n q >>= λ y. after (codes ")") y.1 >>= λ r. applied x y.0 >>= λ e. Some (e, r))
      else None

  -- expressions with a comma between two
  pub exprs_at : (ℕ → ℕ) → ℕ → List ℕ → Answer ExprTrees
  exprs_at v zero text = None
  exprs_at v (suc n) text = expr_at v n text >>= λ x. go_on (after (codes ",") x.1) (Some (more_exprs x.0 no_exprs, x.1)) (λ r. exprs_at v n r >>= λ y. Some (more_exprs x.0 y.0, y.1))

-- steps enough for a text
abbrev pub enough : List ℕ → ℕ
enough text = 8 * length text + 7

-- an expression, and so on, each with steps enough
unfoldable pub expr_of : (ℕ → ℕ) → List ℕ → Answer ExprTree
expr_of v text = expr_at v (enough text) text

-- what is added to an expression, with steps enough
unfoldable pub sums_of : (ℕ → ℕ) → ExprTree → List ℕ → Answer ExprTree
sums_of v a text = sums_at v (enough text) a text

-- a term, with steps enough
unfoldable pub term_of : (ℕ → ℕ) → List ℕ → Answer ExprTree
term_of v text = term_at v (enough text) text

-- what a term is multiplied with, with steps enough
unfoldable pub products_of : (ℕ → ℕ) → ExprTree → List ℕ → Answer ExprTree
products_of v a text = products_at v (enough text) a text

-- a factor, with steps enough
unfoldable pub factor_of : (ℕ → ℕ) → List ℕ → Answer ExprTree
factor_of v text = factor_at v (enough text) text

-- a primary, with steps enough
unfoldable pub primary_of : (ℕ → ℕ) → List ℕ → Answer ExprTree
primary_of v text = primary_at v (enough text) text

-- a name, and its subscripts or arguments, with steps enough
unfoldable pub named_of : (ℕ → ℕ) → List ℕ → List ℕ → Answer ExprTree
named_of v x text = named_at v (enough text) x text

-- expressions with a comma between two, with steps enough
unfoldable pub exprs_of : (ℕ → ℕ) → List ℕ → Answer ExprTrees
exprs_of v text = exprs_at v (enough text) text

-- an expression that is the whole text
unfoldable pub whole_expr_of : (ℕ → ℕ) → List ℕ → Option ExprTree
whole_expr_of v text = expr_of v text >>= λ x. if length x.1 == 0 then Some x.0 else None

-- a scalar or an element
abbrev pub is_reference : ExprTree → Bool
is_reference (Int n) = false
is_reference (Var x) = true
is_reference (Element x subscripts) = true
is_reference (Neg a) = false
is_reference (Add a b) = false
is_reference (Sub a b) = false
is_reference (Mul a b) = false
is_reference (Div a b) = false
is_reference (Pow a b) = false
is_reference (Call f arguments) = false

-- Expressions as they are written, without blanks: a type for each level of the grammar, with the text and the tree of each form (ANSI X3.9-1978, section 6.1).
use Rattle.std.specs.Prelude.{◌≡◌, ℕ, List, [], ◌++◌, codes, Some, None, IsTrue}
use Rattle.ped_tree.specs.declared.expressions.Intrinsic.TheVariants.{Mod, Abs, Max, Min}
use Rattle.ped_tree.specs.Tree.{ExprTree, ExprTrees, Int, Var, Element, Neg, Add, Sub, Mul, Div, Pow, Call, no_exprs, more_exprs}
use Rattle.ped_tree.specs.Grammar.Words.{is_name, is_numeral, numeral_value, intrinsic_of}

-- what is before the first term: nothing, + or - (ANSI X3.9-1978, section 6.1.1)
pub data Sign : Type 0 where
  unsigned : Sign
  positive : Sign
  negative : Sign

-- between an expression and a term: + or - (ANSI X3.9-1978, section 6.1.1)
pub data Adding : Type 0 where
  add : Adding
  subtract : Adding

-- between a term and a factor: * or / (ANSI X3.9-1978, section 6.1.1)
pub data Scaling : Type 0 where
  multiply : Scaling
  divide : Scaling

mutual
  -- an expression: a term with a sign, or an expression, + or -, and a term (ANSI X3.9-1978, section 6.1.2.4)
  pub data ExprForm : Type 0 where
    first : Sign → TermForm → ExprForm
    sum : ExprForm → Adding → TermForm → ExprForm

  -- a term: a factor, or a term, * or /, and a factor (ANSI X3.9-1978, section 6.1.2.3)
  pub data TermForm : Type 0 where
    single : FactorForm → TermForm
    product : TermForm → Scaling → FactorForm → TermForm

  -- a factor: a primary, or a primary, **, and a factor (ANSI X3.9-1978, section 6.1.2.2)
  pub data FactorForm : Type 0 where
    plain : PrimaryForm → FactorForm
    power : PrimaryForm → FactorForm → FactorForm

  -- a primary: a literal, a scalar or an element, MOD of two, ABS of one, MAX or MIN of two or more, an expression in parentheses (ANSI X3.9-1978, sections 6.1.2.1, 15.10)
  pub data PrimaryForm : Type 0 where
    literal : (digits : List ℕ) → IsTrue (is_numeral digits) → PrimaryForm
    reference : ReferenceForm → PrimaryForm
    remainder : (x : List ℕ) → intrinsic_of x ≡ Some Mod → ExprForm → ExprForm → PrimaryForm
    absolute : (x : List ℕ) → intrinsic_of x ≡ Some Abs → ExprForm → PrimaryForm
    greatest : (x : List ℕ) → intrinsic_of x ≡ Some Max → ExprForm → ExprsForm → PrimaryForm
    least : (x : List ℕ) → intrinsic_of x ≡ Some Min → ExprForm → ExprsForm → PrimaryForm
    parentheses : ExprForm → PrimaryForm

  -- what may be assigned: a scalar, or an element of an array, which has no intrinsic function's name (ANSI X3.9-1978, section 10.1)
  pub data ReferenceForm : Type 0 where
    scalar : (x : List ℕ) → IsTrue (is_name x) → ReferenceForm
    element : (x : List ℕ) → IsTrue (is_name x) → intrinsic_of x ≡ None → ExprsForm → ReferenceForm

  -- one expression or more
  pub data ExprsForm : Type 0 where
    one : ExprForm → ExprsForm
    more : ExprForm → ExprsForm → ExprsForm

-- the character of a sign, where there is one
abbrev pub sign_text : Sign → List ℕ
sign_text unsigned = []
sign_text positive = codes "+"
sign_text negative = codes "-"

-- the character of + or -
abbrev pub adding_text : Adding → List ℕ
adding_text add = codes "+"
adding_text subtract = codes "-"

-- the character of * or /
abbrev pub scaling_text : Scaling → List ℕ
scaling_text multiply = codes "*"
scaling_text divide = codes "/"

abbrev mutual
  -- the text of an expression
  pub expr_form_text : ExprForm → List ℕ
  expr_form_text (first s t) = sign_text s ++ term_form_text t
  expr_form_text (sum e op t) = expr_form_text e ++ adding_text op ++ term_form_text t

  -- the text of a term
  pub term_form_text : TermForm → List ℕ
  term_form_text (single f) = factor_form_text f
  term_form_text (product t op f) = term_form_text t ++ scaling_text op ++ factor_form_text f

  -- the text of a factor
  pub factor_form_text : FactorForm → List ℕ
  factor_form_text (plain p) = primary_form_text p
  factor_form_text (power p f) = primary_form_text p ++ codes "**" ++ factor_form_text f

  -- the text of a primary
  pub primary_form_text : PrimaryForm → List ℕ
  primary_form_text (literal digits is) = digits
  primary_form_text (reference r) = reference_form_text r
  primary_form_text (remainder x is a b) = x ++ codes "(" ++ expr_form_text a ++ codes "," ++ expr_form_text b ++ codes ")"
  primary_form_text (absolute x is a) = x ++ codes "(" ++ expr_form_text a ++ codes ")"
  primary_form_text (greatest x is a rest) = x ++ codes "(" ++ expr_form_text a ++ codes "," ++ exprs_form_text rest ++ codes ")"
  primary_form_text (least x is a rest) = x ++ codes "(" ++ expr_form_text a ++ codes "," ++ exprs_form_text rest ++ codes ")"
  primary_form_text (parentheses e) = codes "(" ++ expr_form_text e ++ codes ")"

  -- the text of a scalar or an element
  pub reference_form_text : ReferenceForm → List ℕ
  reference_form_text (scalar x is) = x
  reference_form_text (element x is other subscripts) = x ++ codes "(" ++ exprs_form_text subscripts ++ codes ")"

  -- the text of expressions, with a comma between two
  pub exprs_form_text : ExprsForm → List ℕ
  exprs_form_text (one e) = expr_form_text e
  exprs_form_text (more e rest) = expr_form_text e ++ codes "," ++ exprs_form_text rest

-- a term after a sign: + leaves no trace
abbrev pub signed : Sign → ExprTree → ExprTree
signed unsigned a = a
signed positive a = a
signed negative a = Neg a

-- the sum or the difference
abbrev pub added : Adding → ExprTree → ExprTree → ExprTree
added add a b = Add a b
added subtract a b = Sub a b

-- the product or the quotient
abbrev pub scaled : Scaling → ExprTree → ExprTree → ExprTree
scaled multiply a b = Mul a b
scaled divide a b = Div a b

abbrev mutual
  -- the tree of an expression
  pub expr_form_tree : ExprForm → ExprTree
  expr_form_tree (first s t) = signed s (term_form_tree t)
  expr_form_tree (sum e op t) = added op (expr_form_tree e) (term_form_tree t)

  -- the tree of a term
  pub term_form_tree : TermForm → ExprTree
  term_form_tree (single f) = factor_form_tree f
  term_form_tree (product t op f) = scaled op (term_form_tree t) (factor_form_tree f)

  -- the tree of a factor
  pub factor_form_tree : FactorForm → ExprTree
  factor_form_tree (plain p) = primary_form_tree p
  factor_form_tree (power p f) = Pow (primary_form_tree p) (factor_form_tree f)

  -- the tree of a primary: parentheses leave no trace
  pub primary_form_tree : PrimaryForm → ExprTree
  primary_form_tree (literal digits is) = Int (numeral_value digits)
  primary_form_tree (reference r) = reference_form_tree r
  primary_form_tree (remainder x is a b) = Call Mod (more_exprs (expr_form_tree a) (more_exprs (expr_form_tree b) no_exprs))
  primary_form_tree (absolute x is a) = Call Abs (more_exprs (expr_form_tree a) no_exprs)
  primary_form_tree (greatest x is a rest) = Call Max (more_exprs (expr_form_tree a) (exprs_form_trees rest))
  primary_form_tree (least x is a rest) = Call Min (more_exprs (expr_form_tree a) (exprs_form_trees rest))
  primary_form_tree (parentheses e) = expr_form_tree e

  -- the tree of a scalar or an element
  pub reference_form_tree : ReferenceForm → ExprTree
  reference_form_tree (scalar x is) = Var x
  reference_form_tree (element x is other subscripts) = Element x (exprs_form_trees subscripts)

  -- the trees of expressions
  pub exprs_form_trees : ExprsForm → ExprTrees
  exprs_form_trees (one e) = more_exprs (expr_form_tree e) no_exprs
  exprs_form_trees (more e rest) = more_exprs (expr_form_tree e) (exprs_form_trees rest)

-- the text reads as this expression
abbrev pub ReadsExpr : List ℕ → ExprTree → Type 0
ReadsExpr text e = (f : ExprForm) × (expr_form_text f ≡ text) × (expr_form_tree f ≡ e)

-- the text reads as this scalar or element
abbrev pub ReadsReference : List ℕ → ExprTree → Type 0
ReadsReference text e = (r : ReferenceForm) × (reference_form_text r ≡ text) × (reference_form_tree r ≡ e)

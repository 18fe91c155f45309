-- Subscripts as affine forms in the variables of the DO loops around them and in variables that the outermost of these loops doesn't assign (Allen and Kennedy, section 3.1).
use Rattle.std.specs.Prelude.{ℕ, ℤ, pos, neg_ℤ, ◌+ℤ◌, ◌-ℤ◌, ◌*ℤ◌, ◌^◌, List, [], ◌∷◌, ◌++◌, map, unsigned_abs, nat_le, Bool, ◌&&◌, Option, Some, None, if◌then◌else◌}
use Rattle.std.specs.List.{list_all}
use Rattle.ped_base.specs.Lists.{is_same_text, is_among}
use Rattle.ped_views.specs.Whole.{is_zero}
use Rattle.ped_tree.specs.Tree.{ExprTree, Int, Var, Element, Neg, Add, Sub, Mul, Div, Pow, Call}
use Rattle.ped_tree.specs.Constants.ConstantExpressions.{constant_value}
use Rattle.ped_affine.specs.Ranges.{is_near}

-- the names that a form may have: the named constants with their values, and the unknowns, which are the variables of the loops around the subscript, the outermost first, and other variables after them
pub record Terms : Type 0 where
  pub constants : List (List ℕ × ℤ)
  pub unknowns : List (List ℕ)

-- a form: a coefficient for each unknown, and a constant
pub record AffineForm : Type 0 where
  pub coefficients : List ℤ
  pub constant : ℤ

-- the form of these numbers
abbrev pub form : List ℤ → ℤ → AffineForm
form coefficients constant = record { coefficients = coefficients; constant = constant }

-- within 2^31 of zero (this project)
abbrev pub is_small : ℤ → Bool
is_small a = nat_le (unsigned_abs a) (2 ^ 31)

-- coefficients within 2^31 of zero and a constant within 2^62 (this project)
abbrev pub is_limited : AffineForm → Bool
is_limited f = list_all is_small f.coefficients && is_near f.constant

-- the form, where its numbers are so small (this project)
abbrev pub within_limits : AffineForm → Option AffineForm
within_limits f = if is_limited f then Some f else None

-- the form of a constant
abbrev pub constant_form : List (List ℕ) → ℤ → AffineForm
constant_form unknowns n = form (map (λ x. pos 0) unknowns) n

-- the coefficient of an unknown in the form of a variable
abbrev pub unknown_coefficient : List ℕ → List ℕ → ℤ
unknown_coefficient x y = if is_same_text x y then pos 1 else pos 0

-- the form of an unknown
abbrev pub unknown_form : List (List ℕ) → List ℕ → AffineForm
unknown_form unknowns x = form (map (unknown_coefficient x) unknowns) (pos 0)

-- the form of a variable, where it is an unknown
abbrev pub variable_form : List (List ℕ) → List ℕ → Option AffineForm
variable_form unknowns x = if is_among x unknowns then within_limits (unknown_form unknowns x) else None

-- coefficient by coefficient
abbrev pub combined : (ℤ → ℤ → ℤ) → List ℤ → List ℤ → List ℤ
combined f (a ∷ first) (b ∷ second) = f a b ∷ combined f first second
combined f [] second = []
combined f (a ∷ first) [] = []

-- number by number, the constants too
abbrev pub combined_form : (ℤ → ℤ → ℤ) → AffineForm → AffineForm → AffineForm
combined_form f a b = form (combined f a.coefficients b.coefficients) (f a.constant b.constant)

-- the sum or the difference of two forms
abbrev pub combination : (ℤ → ℤ → ℤ) → Option AffineForm → Option AffineForm → Option AffineForm
combination f (Some a) (Some b) = within_limits (combined_form f a b)
combination f (Some a) None = None
combination f None b = None

-- a form multiplied by a number
abbrev pub times : ℤ → AffineForm → AffineForm
times n f = form (map (λ a. n *ℤ a) f.coefficients) (n *ℤ f.constant)

-- each number with the opposite sign
abbrev pub opposite : AffineForm → AffineForm
opposite f = form (map neg_ℤ f.coefficients) (neg_ℤ f.constant)

-- the form with the opposite sign
abbrev pub negation : Option AffineForm → Option AffineForm
negation (Some f) = within_limits (opposite f)
negation None = None

-- no unknown is left in the form
abbrev pub is_constant_form : AffineForm → Bool
is_constant_form f = list_all is_zero f.coefficients

-- the product of two forms, one of which is constant (Allen and Kennedy, section 3.1)
abbrev pub product : Option AffineForm → Option AffineForm → Option AffineForm
product (Some a) (Some b) =
    if is_constant_form a then within_limits (times a.constant b)
    else (if is_constant_form b then within_limits (times b.constant a) else None)
product (Some a) None = None
product None b = None

-- the value of a constant expression, which is one form, and else this
abbrev pub constant_or : List (List ℕ) → Option ℤ → Option AffineForm → Option AffineForm
constant_or unknowns (Some n) other = within_limits (constant_form unknowns n)
constant_or unknowns None other = other

-- a subscript as an affine form, where it is one: constant expressions, unknowns, sums, differences, signs, and products with a constant form, each of them within the limits (Allen and Kennedy, section 3.1; this project)
abbrev pub affine_of : Terms → ExprTree → Option AffineForm
affine_of t (Int n) = within_limits (constant_form t.unknowns (pos n))
affine_of t (Var x) = constant_or t.unknowns (constant_value t.constants (Var x)) (variable_form t.unknowns x)
affine_of t (Element x subscripts) = None
affine_of t (Neg a) = constant_or t.unknowns (constant_value t.constants (Neg a)) (negation (affine_of t a))
affine_of t (Add a b) = constant_or t.unknowns (constant_value t.constants (Add a b)) (combination ◌+ℤ◌ (affine_of t a) (affine_of t b))
affine_of t (Sub a b) = constant_or t.unknowns (constant_value t.constants (Sub a b)) (combination ◌-ℤ◌ (affine_of t a) (affine_of t b))
affine_of t (Mul a b) = constant_or t.unknowns (constant_value t.constants (Mul a b)) (product (affine_of t a) (affine_of t b))
affine_of t (Div a b) = constant_or t.unknowns (constant_value t.constants (Div a b)) None
affine_of t (Pow a b) = constant_or t.unknowns (constant_value t.constants (Pow a b)) None
affine_of t (Call f arguments) = constant_or t.unknowns (constant_value t.constants (Call f arguments)) None

-- the variables of which an affine form can be made: those outside elements, quotients, powers and calls of functions (Allen and Kennedy, section 3.1)
abbrev pub form_variables : ExprTree → List (List ℕ)
form_variables (Int n) = []
form_variables (Var x) = x ∷ []
form_variables (Element x subscripts) = []
form_variables (Neg a) = form_variables a
form_variables (Add a b) = form_variables a ++ form_variables b
form_variables (Sub a b) = form_variables a ++ form_variables b
form_variables (Mul a b) = form_variables a ++ form_variables b
form_variables (Div a b) = []
form_variables (Pow a b) = []
form_variables (Call f arguments) = []

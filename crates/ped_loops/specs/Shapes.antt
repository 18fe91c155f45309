-- How a bound of an inner DO depends on the variable of the outer one, and the bounds that come of it where the two change places (Allen and Kennedy, section 5.2; this project).
use Rattle.std.specs.Prelude.{ℕ, List, [], ◌∷◌, ◌++◌, Bool, true, false, not, ◌&&◌, ◌||◌, is_none, Option, Some, None, if◌then◌else◌}
use Rattle.ped_base.specs.Lists.{is_same_text, is_among}
use Rattle.ped_tree.specs.declared.expressions.Intrinsic.{Intrinsic}
use Rattle.ped_tree.specs.declared.expressions.Intrinsic.TheVariants.{Max, Min}
use Rattle.ped_tree.specs.Tree.{ExprTree, ExprTrees, Int, Var, Element, Neg, Add, Sub, Mul, Div, Pow, Call, no_exprs, more_exprs, Head}
use Rattle.ped_tree.specs.NamesIn.{expr_names}
use Rattle.ped_symbolic.specs.Arithmetic.{plus_of, minus_of}

-- a bound of an inner DO: it doesn't name the outer variable I, or it is I, I+c or c+I, I-c, or c-I, where c doesn't name I (Allen and Kennedy, section 5.2)
pub data Shape : Type 0 where
  free : Shape
  itself : Shape
  sum : ExprTree → Shape
  difference : ExprTree → Shape
  turned : ExprTree → Shape

-- the name occurs in the expression
abbrev pub is_named : List ℕ → ExprTree → Bool
is_named x e = is_among x (expr_names e)

-- the expression is the name alone
abbrev pub is_variable : List ℕ → ExprTree → Bool
is_variable x (Var y) = is_same_text x y
is_variable x (Int n) = false
is_variable x (Element y subscripts) = false
is_variable x (Neg a) = false
is_variable x (Add a b) = false
is_variable x (Sub a b) = false
is_variable x (Mul a b) = false
is_variable x (Div a b) = false
is_variable x (Pow a b) = false
is_variable x (Call f arguments) = false

-- the first of two expressions is the name, and the other one doesn't name it
abbrev pub is_with : List ℕ → ExprTree → ExprTree → Bool
is_with x a c = is_variable x a && not (is_named x c)

-- the shape of a bound that names the outer variable, where it has one (Allen and Kennedy, section 5.2)
abbrev pub shaped : List ℕ → ExprTree → Option Shape
shaped x (Var y) = if is_same_text x y then Some itself else None
shaped x (Add a b) = if is_with x a b then Some (sum b) else if is_with x b a then Some (sum a) else None
shaped x (Sub a b) = if is_with x a b then Some (difference b) else if is_with x b a then Some (turned a) else None
shaped x (Int n) = None
shaped x (Element y subscripts) = None
shaped x (Neg a) = None
shaped x (Mul a b) = None
shaped x (Div a b) = None
shaped x (Pow a b) = None
shaped x (Call f arguments) = None

-- the shape of a bound, where it has one (Allen and Kennedy, section 5.2)
abbrev pub shape_of : List ℕ → ExprTree → Option Shape
shape_of x e = if is_named x e then shaped x e else Some free

-- the bound of the new outer DO that comes of a bound of the old inner one: that one where it is free of I; else its value for I as near as it may be, the bound of the old outer DO at the same end, or, where it falls as I grows, as far as it may be, the bound at the other end (Allen and Kennedy, section 5.2)
abbrev pub moved_bound : Shape → (bound near far : ExprTree) → ExprTree
moved_bound free bound near far = bound
moved_bound itself bound near far = near
moved_bound (sum c) bound near far = plus_of near c
moved_bound (difference c) bound near far = minus_of near c
moved_bound (turned c) bound near far = minus_of c far

-- what a bound of the old inner DO asks of I in the new inner one, where J is the variable of the new outer one (Allen and Kennedy, section 5.2)
abbrev pub asked_of : Shape → List ℕ → List ExprTree
asked_of free j = []
asked_of itself j = Var j ∷ []
asked_of (sum c) j = minus_of (Var j) c ∷ []
asked_of (difference c) j = plus_of (Var j) c ∷ []
asked_of (turned c) j = minus_of c (Var j) ∷ []

-- the bound falls as I grows
abbrev pub is_turned : Shape → Bool
is_turned free = false
is_turned itself = false
is_turned (sum c) = false
is_turned (difference c) = false
is_turned (turned c) = true

-- what a bound asks of I, where this end of the new inner DO wants it
abbrev pub asked_if : Bool → Shape → List ℕ → List ExprTree
asked_if true shape j = asked_of shape j
asked_if false shape j = []

-- what the bounds of the old inner DO ask of I from below, the first one before the last one: a first bound that falls as I grows, and a last one that grows with I (Allen and Kennedy, section 5.2)
abbrev pub asked_below : (first last : Shape) → List ℕ → List ExprTree
asked_below first last j = asked_if (is_turned first) first j ++ asked_if (not (is_turned last)) last j

-- what they ask of I from above: a first bound that grows with I, and a last one that falls as I grows (Allen and Kennedy, section 5.2)
abbrev pub asked_above : (first last : Shape) → List ℕ → List ExprTree
asked_above first last j = asked_if (not (is_turned first)) first j ++ asked_if (is_turned last) last j

-- expressions as arguments (plain words)
abbrev pub arguments_of : List ExprTree → ExprTrees
arguments_of [] = no_exprs
arguments_of (e ∷ es) = more_exprs e (arguments_of es)

-- the bound, or the greatest or the least of it and others, where there are some (ANSI X3.9-1978, table 5)
abbrev pub extreme_of : Intrinsic → ExprTree → List ExprTree → ExprTree
extreme_of f e [] = e
extreme_of f e (c ∷ cs) = Call f (arguments_of (e ∷ c ∷ cs))

-- the shape, or free where there is none
abbrev pub shape_or_free : Option Shape → Shape
shape_or_free (Some shape) = shape
shape_or_free None = free

-- the shape of the first bound of the inner DO in the variable of the outer one
abbrev pub first_shape : (outer inner : Head) → Shape
first_shape outer inner = shape_or_free (shape_of outer.variable inner.first)

-- the shape of the last bound
abbrev pub last_shape : (outer inner : Head) → Shape
last_shape outer inner = shape_or_free (shape_of outer.variable inner.last)

-- the head of the new outer DO: the inner one with bounds that don't name I (Allen and Kennedy, section 5.2)
abbrev pub new_outer : (outer inner : Head) → Head
new_outer outer inner = record inner {
  first = moved_bound (first_shape outer inner) inner.first outer.first outer.last;
  last = moved_bound (last_shape outer inner) inner.last outer.last outer.first;
}

-- the head of the new inner DO: the outer one, and in its bounds what the old inner bounds ask of I (Allen and Kennedy, section 5.2)
abbrev pub new_inner : (outer inner : Head) → Head
new_inner outer inner = record outer {
  first = extreme_of Max outer.first (asked_below (first_shape outer inner) (last_shape outer inner) inner.variable);
  last = extreme_of Min outer.last (asked_above (first_shape outer inner) (last_shape outer inner) inner.variable);
}

-- a bound of the inner DO names the variable of the outer one and has no shape (Allen and Kennedy, section 5.2)
abbrev pub isnt_shaped : (outer inner : Head) → Bool
isnt_shaped outer inner = is_none (shape_of outer.variable inner.first) || is_none (shape_of outer.variable inner.last)

-- a bound of the inner DO names the variable of the outer one
abbrev pub names_outer : (outer inner : Head) → Bool
names_outer outer inner = is_named outer.variable inner.first || is_named outer.variable inner.last

-- Bounds with shapes: what a shape tells of an inner bound and of its other part, and that the bound that comes of it is plain where that part is and the bounds of the outer loop are.
use Rattle.ped_base.proofs.NameEquality.{same_is}
use Rattle.ped_base.specs.Arithmetic.Arithmetic.{difference_of, sum_of}
use Rattle.ped_base.specs.Lists.{is_among, is_same_text}
use Rattle.ped_base.specs.declared.arithmetic.faults.Fault.{Fault}
use Rattle.ped_loops.specs.Shapes.{Shape, difference, free, is_named, is_variable, is_with, itself, moved_bound, shape_of, shape_or_free, shaped, sum, turned}
use Rattle.ped_rules.specs.ped_loop_runs.proofs.LoopLaws.OneOut.{difference_sides, plain_out, sum_sides}
use Rattle.ped_rules.specs.ped_loop_runs.specs.OneOut.{IsNextIn}
use Rattle.ped_rules.specs.ped_steps.proofs.RunLaws.SubstitutedSums.{by_shape}
use Rattle.ped_rules.specs.ped_flow.specs.PlainBounds.{IsPlain, IsPlainlyBuilt, Values}
use Rattle.ped_rules.specs.ped_flow.specs.Questions.{LoopOf}
use Rattle.ped_symbolic.specs.Arithmetic.{added, is_zero, literal, literal_or, literal_value, minus_of, of_both, plus_of, small, subtracted}
use Rattle.ped_tree.specs.Constants.ConstantExpressions.{binary_value, constant_value}
use Rattle.ped_tree.specs.Constants.NamedConstants.{value_named}
use Rattle.ped_tree.specs.Grammar.Fits.{expr_fits}
use Rattle.ped_tree.specs.NamesIn.{expr_names}
use Rattle.ped_tree.specs.Tree.{Add, Call, Div, Element, ExprTree, Int, Mul, Neg, Pow, ProgramTree, Sub, Var}
use Rattle.std.proofs.Common.{Bool, List, None, Option, Result, Some, ap, false, if◌then◌else◌, inl, inr, refl, subst, sym, true, ℕ, ℤ, ◌+ℤ◌, ◌+◌, ◌-ℤ◌, ◌∙◌, ◌≡◌, ◌⊎◌}
use Rattle.std.proofs.lemmas.Bool.{and_from, and_parts, not-true}
use Rattle.std.specs.Int.{is_negative}
use Rattle.std.specs.Prelude.{is_none, nat_le, not, unsigned_abs}

one_shape : (a b : Shape) → Some a ≡ Some b → a ≡ b
one_shape a b e = cc

named_is : (x : List ℕ) (a : ExprTree) → is_variable x a ≡ true → a ≡ Var x
named_is x (Var y) h = ap Var (sym (same_is x y h))
named_is x (Int n) h = absurd cc
named_is x (Element y subscripts) h = absurd cc
named_is x (Neg a) h = absurd cc
named_is x (Add a b) h = absurd cc
named_is x (Sub a b) h = absurd cc
named_is x (Mul a b) h = absurd cc
named_is x (Div a b) h = absurd cc
named_is x (Pow a b) h = absurd cc
named_is x (Call f arguments) h = absurd cc

with_is : (x : List ℕ) (a c : ExprTree) → is_with x a c ≡ true → (a ≡ Var x) × (is_among x (expr_names c) ≡ false)
with_is x a c h = let both = and_parts (is_variable x a) (not (is_named x c)) h in (named_is x a both.0, not-true (is_named x c) both.1)

-- what a shape tells of a bound
abbrev pub IsShaped : (x : List ℕ) → ExprTree → Shape → Type 0
IsShaped x e free = is_among x (expr_names e) ≡ false
IsShaped x e itself = e ≡ Var x
IsShaped x e (sum c) = (is_among x (expr_names c) ≡ false) × ((e ≡ Add (Var x) c) ⊎ (e ≡ Add c (Var x)))
IsShaped x e (difference c) = (is_among x (expr_names c) ≡ false) × (e ≡ Sub (Var x) c)
IsShaped x e (turned c) = (is_among x (expr_names c) ≡ false) × (e ≡ Sub c (Var x))

sum_is : (x : List ℕ) (a b : ExprTree) (shape : Shape) (c d : Bool) → is_with x a b ≡ c → is_with x b a ≡ d → (if c then Some (sum b) else if d then Some (sum a) else None) ≡ Some shape → IsShaped x (Add a b) shape
sum_is x a b shape true d p q h = let its = with_is x a b p in subst (IsShaped x (Add a b)) (one_shape (sum b) shape h) (its.1, inl (ap (λ (e : ExprTree). Add e b) its.0))
sum_is x a b shape false true p q h = let its = with_is x b a q in subst (IsShaped x (Add a b)) (one_shape (sum a) shape h) (its.1, inr (ap (Add a) its.0))
sum_is x a b shape false false p q h = absurd cc

difference_is : (x : List ℕ) (a b : ExprTree) (shape : Shape) (c d : Bool) → is_with x a b ≡ c → is_with x b a ≡ d → (if c then Some (difference b) else if d then Some (turned a) else None) ≡ Some shape → IsShaped x (Sub a b) shape
difference_is x a b shape true d p q h = let its = with_is x a b p in subst (IsShaped x (Sub a b)) (one_shape (difference b) shape h) (its.1, ap (λ (e : ExprTree). Sub e b) its.0)
difference_is x a b shape false true p q h = let its = with_is x b a q in subst (IsShaped x (Sub a b)) (one_shape (turned a) shape h) (its.1, ap (Sub a) its.0)
difference_is x a b shape false false p q h = absurd cc

variable_is : (x y : List ℕ) (shape : Shape) (c : Bool) → is_same_text x y ≡ c → (if c then Some itself else None) ≡ Some shape → IsShaped x (Var y) shape
variable_is x y shape true p h = subst (IsShaped x (Var y)) (one_shape itself shape h) (ap Var (sym (same_is x y p)))
variable_is x y shape false p h = absurd cc

shaped_is : (x : List ℕ) (e : ExprTree) (shape : Shape) → shaped x e ≡ Some shape → IsShaped x e shape
shaped_is x (Var y) shape h = variable_is x y shape (is_same_text x y) refl h
shaped_is x (Add a b) shape h = sum_is x a b shape (is_with x a b) (is_with x b a) refl refl h
shaped_is x (Sub a b) shape h = difference_is x a b shape (is_with x a b) (is_with x b a) refl refl h
shaped_is x (Int n) shape h = absurd cc
shaped_is x (Element y subscripts) shape h = absurd cc
shaped_is x (Neg a) shape h = absurd cc
shaped_is x (Mul a b) shape h = absurd cc
shaped_is x (Div a b) shape h = absurd cc
shaped_is x (Pow a b) shape h = absurd cc
shaped_is x (Call f arguments) shape h = absurd cc

pub shape_is : (x : List ℕ) (e : ExprTree) (shape : Shape) → shape_of x e ≡ Some shape → IsShaped x e shape
shape_is x e shape h = go (is_named x e) refl h
  where
    go : (b : Bool) → is_named x e ≡ b → (if b then shaped x e else Some free) ≡ Some shape → IsShaped x e shape
    go true p q = shaped_is x e shape q
    go false p q = subst (IsShaped x e) (one_shape free shape q) p

-- a shape of a bound that has one
pub some_shape : (x : List ℕ) (e : ExprTree) → is_none (shape_of x e) ≡ false → shape_of x e ≡ Some (shape_or_free (shape_of x e))
some_shape x e h = go (shape_of x e) h
  where
    go : (o : Option Shape) → is_none o ≡ false → o ≡ Some (shape_or_free o)
    go None q = absurd cc
    go (Some shape) q = refl

-- sums and differences that are made anew are literals, their parts, or sums and differences of them
of_literal : (P : ExprTree → Type 0) → ((z : ℤ) → nat_le (unsigned_abs z) 2147483647 ≡ true → P (literal z)) → (o : Option ℤ) (e : ExprTree) → P e → P (literal_or (small o) e)
of_literal P whole None e h = h
of_literal P whole (Some z) e h = go (nat_le (unsigned_abs z) 2147483647) refl
  where
    go : (b : Bool) → nat_le (unsigned_abs z) 2147483647 ≡ b → P (literal_or (if b then Some z else None) e)
    go true q = whole z q
    go false q = h

of_if : (P : ExprTree → Type 0) (b : Bool) (d e : ExprTree) → P d → P e → P (if b then d else e)
of_if P true d e h k = h
of_if P false d e h k = k

of_plus : (P : ExprTree → Type 0) → ((z : ℤ) → nat_le (unsigned_abs z) 2147483647 ≡ true → P (literal z)) → (a b : ExprTree) → P a → P b → P (added a b) → P (plus_of a b)
of_plus P whole a b first second both =
    of_literal P whole (of_both ◌+ℤ◌ (literal_value a) (literal_value b)) (if is_zero b then a else if is_zero a then b else added a b)
    (of_if P (is_zero b) a (if is_zero a then b else added a b) first (of_if P (is_zero a) b (added a b) second both))

of_minus : (P : ExprTree → Type 0) → ((z : ℤ) → nat_le (unsigned_abs z) 2147483647 ≡ true → P (literal z)) → (a b : ExprTree) → P a → P (subtracted a b) → P (minus_of a b)
of_minus P whole a b first both =
    of_literal P whole (of_both ◌-ℤ◌ (literal_value a) (literal_value b)) (if is_zero b then a else subtracted a b)
    (of_if P (is_zero b) a (subtracted a b) first both)

module _ (constants : Values) (t : ProgramTree) (l : ℕ) where
  -- an expression is built as a plain bound is, and may be written
  abbrev pub IsBuilt : ExprTree → Type 0
  IsBuilt e = IsPlainlyBuilt constants t l e × (expr_fits e ≡ true)

  literal_built : (z : ℤ) → nat_le (unsigned_abs z) 2147483647 ≡ true → IsBuilt (literal z)
  literal_built z h = go (is_negative z)
    where
      go : (b : Bool) → IsBuilt (if b then Neg (Int (unsigned_abs z)) else Int (unsigned_abs z))
      go true = (inr tt, h)
      go false = (tt, h)

  of_sum : (a b : ExprTree) → IsBuilt a → IsBuilt b → IsBuilt (Add a b)
  of_sum a b first second = (inr (first.0, second.0), and_from (expr_fits a) (expr_fits b) first.1 second.1)

  of_difference : (a b : ExprTree) → IsBuilt a → IsBuilt b → IsBuilt (Sub a b)
  of_difference a b first second = (inr (first.0, second.0), and_from (expr_fits a) (expr_fits b) first.1 second.1)

  added_built : (a : ExprTree) → IsBuilt a → (b : ExprTree) → IsBuilt b → IsBuilt (added a b)
  added_built a first =
      by_shape (λ (b : ExprTree). IsBuilt b → IsBuilt (added a b)) (λ n h. of_sum a (Int n) first h) (λ n h. of_difference a (Int n) first (tt, h.1))
      (λ e p q is other h. subst IsBuilt (sym (is a)) (of_sum a e first h))

  subtracted_built : (a : ExprTree) → IsBuilt a → (b : ExprTree) → IsBuilt b → IsBuilt (subtracted a b)
  subtracted_built a first =
      by_shape (λ (b : ExprTree). IsBuilt b → IsBuilt (subtracted a b)) (λ n h. of_difference a (Int n) first h) (λ n h. of_sum a (Int n) first (tt, h.1))
      (λ e p q other is h. subst IsBuilt (sym (is a)) (of_difference a e first h))

  plus_built : (a b : ExprTree) → IsBuilt a → IsBuilt b → IsBuilt (plus_of a b)
  plus_built a b first second = of_plus IsBuilt literal_built a b first second (added_built a first b second)

  minus_built : (a b : ExprTree) → IsBuilt a → IsBuilt b → IsBuilt (minus_of a b)
  minus_built a b first second = of_minus IsBuilt literal_built a b first (subtracted_built a first b second)

  -- a plain bound that may be written
  pub record IsPlainThere (e : ExprTree) : Type 0 where
    pub plain : IsPlain constants t l e
    pub fits : expr_fits e ≡ true

  -- the other part of a bound with a shape is plain at the outer loop
  abbrev pub HasPart : Shape → ExprTree → Type 0
  HasPart free e = IsPlainThere e
  HasPart itself e = Unit {0}
  HasPart (sum c) e = IsPlainThere c
  HasPart (difference c) e = IsPlainThere c
  HasPart (turned c) e = IsPlainThere c

  built : (e : ExprTree) → IsPlainThere e → IsBuilt e
  built e h = (h.plain.built, h.fits)

  pub moved_built : (shape : Shape) (e near far : ExprTree) → HasPart shape e → IsBuilt near → IsBuilt far → IsBuilt (moved_bound shape e near far)
  moved_built free e near far part first last = built e part
  moved_built itself e near far part first last = first
  moved_built (sum c) e near far part first last = plus_built near c first (built c part)
  moved_built (difference c) e near far part first last = minus_built near c first (built c part)
  moved_built (turned c) e near far part first last = minus_built c far (built c part) last

none_second : (f : ℤ → ℤ → Result ℤ Fault) (o : Option ℤ) → binary_value f o None ≡ None
none_second f None = refl
none_second f (Some n) = refl

module _ (constants : Values) (t : ProgramTree) (l : ℕ) (loop : LoopOf t l) (next : IsNextIn t l loop (l + 1)) (none : value_named constants loop.head.variable ≡ None) where
  abbrev x : List ℕ
  x = loop.head.variable

  part_there : (c : ExprTree) → IsPlain constants t (l + 1) c → is_among x (expr_names c) ≡ false → expr_fits c ≡ true → IsPlainThere constants t l c
  part_there c plain unnamed fit = record { plain = plain_out constants t l loop (l + 1) next c plain unnamed; fits = fit }

  added_part : (e c : ExprTree) → e ≡ Add (Var x) c → is_among x (expr_names c) ≡ false → IsPlain constants t (l + 1) e → expr_fits e ≡ true → IsPlainThere constants t l c
  added_part e c is unnamed plain fit =
      let sides = sum_sides constants t (l + 1) (Var x) c (ap (λ (o : Option ℤ). binary_value sum_of o (constant_value constants c)) none) (subst (IsPlain constants t (l + 1)) is plain) in
      part_there c sides.1 unnamed (and_parts (expr_fits (Var x)) (expr_fits c) (ap expr_fits (sym is) ∙ fit)).1

  added_to_part : (e c : ExprTree) → e ≡ Add c (Var x) → is_among x (expr_names c) ≡ false → IsPlain constants t (l + 1) e → expr_fits e ≡ true → IsPlainThere constants t l c
  added_to_part e c is unnamed plain fit =
      let sides = sum_sides constants t (l + 1) c (Var x) (ap (λ (o : Option ℤ). binary_value sum_of (constant_value constants c) o) none ∙ none_second sum_of (constant_value constants c)) (subst (IsPlain constants t (l + 1)) is plain) in
      part_there c sides.0 unnamed (and_parts (expr_fits c) (expr_fits (Var x)) (ap expr_fits (sym is) ∙ fit)).0

  subtracted_part : (e c : ExprTree) → e ≡ Sub (Var x) c → is_among x (expr_names c) ≡ false → IsPlain constants t (l + 1) e → expr_fits e ≡ true → IsPlainThere constants t l c
  subtracted_part e c is unnamed plain fit =
      let sides = difference_sides constants t (l + 1) (Var x) c (ap (λ (o : Option ℤ). binary_value difference_of o (constant_value constants c)) none) (subst (IsPlain constants t (l + 1)) is plain) in
      part_there c sides.1 unnamed (and_parts (expr_fits (Var x)) (expr_fits c) (ap expr_fits (sym is) ∙ fit)).1

  subtracted_from_part : (e c : ExprTree) → e ≡ Sub c (Var x) → is_among x (expr_names c) ≡ false → IsPlain constants t (l + 1) e → expr_fits e ≡ true → IsPlainThere constants t l c
  subtracted_from_part e c is unnamed plain fit =
      let sides = difference_sides constants t (l + 1) c (Var x) (ap (λ (o : Option ℤ). binary_value difference_of (constant_value constants c) o) none ∙ none_second difference_of (constant_value constants c)) (subst (IsPlain constants t (l + 1)) is plain) in
      part_there c sides.0 unnamed (and_parts (expr_fits c) (expr_fits (Var x)) (ap expr_fits (sym is) ∙ fit)).0

  pub its_part : (e : ExprTree) (shape : Shape) → IsShaped x e shape → IsPlain constants t (l + 1) e → expr_fits e ≡ true → HasPart constants t l shape e
  its_part e free is plain fit = part_there e plain is fit
  its_part e itself is plain fit = tt
  its_part e (sum c) is plain fit = elim is.1 [
    | inl q ↦ added_part e c q is.0 plain fit
    | inr q ↦ added_to_part e c q is.0 plain fit
  ]
  its_part e (difference c) is plain fit = subtracted_part e c is.1 is.0 plain fit
  its_part e (turned c) is plain fit = subtracted_from_part e c is.1 is.0 plain fit

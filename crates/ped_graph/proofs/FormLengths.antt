-- An affine form has a coefficient for each unknown.
use Rattle.std.proofs.Common.{◌≡◌, ℕ, suc, ℤ, ◌+ℤ◌, ◌-ℤ◌, neg_ℤ, ◌*ℤ◌, pos, List, [], ◌∷◌, length, map, Bool, true, false, Option, Some, None, refl, sym, ap, ◌∙◌, arith}
use Rattle.std.specs.Prelude.{if◌then◌else◌}
use Rattle.ped_base.specs.Lists.{is_among}
use Rattle.ped_tree.specs.Tree.{ExprTree, Int, Var, Element, Neg, Add, Sub, Mul, Div, Pow, Call}
use Rattle.ped_tree.specs.Constants.ConstantExpressions.{constant_value}
use Rattle.ped_affine.specs.AffineForms.{Terms, AffineForm, is_limited, within_limits, constant_form, unknown_coefficient, unknown_form, variable_form, combined, combined_form, combination, times, opposite, negation, is_constant_form, product, constant_or, affine_of}

-- where there is a form, it has so many coefficients
abbrev pub HasMany : ℕ → Option AffineForm → Type 0
HasMany n o = (f : AffineForm) → o ≡ Some f → length f.coefficients ≡ n

none_many : (n : ℕ) → HasMany n None
none_many n f e = cc

length-mapped : {X Y : Type 0} (f : X → Y) (xs : List X) → length (map f xs) ≡ length xs
length-mapped f [] = refl
length-mapped f (x ∷ xs) = ap suc (length-mapped f xs)

some_form : (f g : AffineForm) → Some f ≡ Some g → f ≡ g
some_form f g e = cc

limited_many : (n : ℕ) (f : AffineForm) → length f.coefficients ≡ n → HasMany n (within_limits f)
limited_many n f h = go (is_limited f)
  where
    go : (t : Bool) → HasMany n (if t then Some f else None)
    go true g e = ap (λ (x : AffineForm). length x.coefficients) (sym (some_form f g e)) ∙ h
    go false g e = none_many n g e

length-combined : (op : ℤ → ℤ → ℤ) (xs ys : List ℤ) (n : ℕ) → length xs ≡ n → length ys ≡ n → length (combined op xs ys) ≡ n
length-combined op [] ys n h k = h
length-combined op (x ∷ xs) [] n h k = k
length-combined op (x ∷ xs) (y ∷ ys) n h k =
    let same : length ys ≡ length xs = omega (arith, h, k) in
    ap suc (length-combined op xs ys (length xs) refl same) ∙ h

combined_many : (op : ℤ → ℤ → ℤ) (n : ℕ) (a b : Option AffineForm) → HasMany n a → HasMany n b → HasMany n (combination op a b)
combined_many op n (Some a) (Some b) h k = limited_many n (combined_form op a b) (length-combined op a.coefficients b.coefficients n (h a refl) (k b refl))
combined_many op n (Some a) None h k = none_many n
combined_many op n None b h k = none_many n

negated_many : (n : ℕ) (a : Option AffineForm) → HasMany n a → HasMany n (negation a)
negated_many n (Some a) h = limited_many n (opposite a) (length-mapped neg_ℤ a.coefficients ∙ h a refl)
negated_many n None h = none_many n

multiplied_many : (n : ℕ) (a b : Option AffineForm) → HasMany n a → HasMany n b → HasMany n (product a b)
multiplied_many n (Some a) (Some b) h k = go (is_constant_form a) (is_constant_form b)
  where
    go : (t u : Bool) → HasMany n (if t then within_limits (times a.constant b) else (if u then within_limits (times b.constant a) else None))
    go true u = limited_many n (times a.constant b) (length-mapped (λ (x : ℤ). a.constant *ℤ x) b.coefficients ∙ k b refl)
    go false true = limited_many n (times b.constant a) (length-mapped (λ (x : ℤ). b.constant *ℤ x) a.coefficients ∙ h a refl)
    go false false = none_many n
multiplied_many n (Some a) None h k = none_many n
multiplied_many n None b h k = none_many n

module _ (t : Terms) where
  constant_many : (value : Option ℤ) (other : Option AffineForm) → HasMany (length t.unknowns) other → HasMany (length t.unknowns) (constant_or t.unknowns value other)
  constant_many (Some n) other h = limited_many (length t.unknowns) (constant_form t.unknowns n) (length-mapped (λ (x : List ℕ). pos 0) t.unknowns)
  constant_many None other h = h

  variable_many : (x : List ℕ) → HasMany (length t.unknowns) (variable_form t.unknowns x)
  variable_many x = go (is_among x t.unknowns)
    where
      go : (u : Bool) → HasMany (length t.unknowns) (if u then within_limits (unknown_form t.unknowns x) else None)
      go true = limited_many (length t.unknowns) (unknown_form t.unknowns x) (length-mapped (unknown_coefficient x) t.unknowns)
      go false = none_many (length t.unknowns)

  -- a form has a coefficient for each unknown
  pub form_many : (e : ExprTree) → HasMany (length t.unknowns) (affine_of t e)
  form_many (Int n) = limited_many (length t.unknowns) (constant_form t.unknowns (pos n)) (length-mapped (λ (x : List ℕ). pos 0) t.unknowns)
  form_many (Var x) = constant_many (constant_value t.constants (Var x)) (variable_form t.unknowns x) (variable_many x)
  form_many (Element x subscripts) = none_many (length t.unknowns)
  form_many (Neg a) = constant_many (constant_value t.constants (Neg a)) (negation (affine_of t a)) (negated_many (length t.unknowns) (affine_of t a) (form_many a))
  form_many (Add a b) = constant_many (constant_value t.constants (Add a b)) (combination ◌+ℤ◌ (affine_of t a) (affine_of t b)) (combined_many ◌+ℤ◌ (length t.unknowns) (affine_of t a) (affine_of t b) (form_many a) (form_many b))
  form_many (Sub a b) = constant_many (constant_value t.constants (Sub a b)) (combination ◌-ℤ◌ (affine_of t a) (affine_of t b)) (combined_many ◌-ℤ◌ (length t.unknowns) (affine_of t a) (affine_of t b) (form_many a) (form_many b))
  form_many (Mul a b) = constant_many (constant_value t.constants (Mul a b)) (product (affine_of t a) (affine_of t b)) (multiplied_many (length t.unknowns) (affine_of t a) (affine_of t b) (form_many a) (form_many b))
  form_many (Div a b) = constant_many (constant_value t.constants (Div a b)) None (none_many (length t.unknowns))
  form_many (Pow a b) = constant_many (constant_value t.constants (Pow a b)) None (none_many (length t.unknowns))
  form_many (Call f arguments) = constant_many (constant_value t.constants (Call f arguments)) None (none_many (length t.unknowns))

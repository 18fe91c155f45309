-- Unknowns that are named constants change no form: their coefficients are 0.
use Rattle.std.proofs.Common.{◌≡◌, ℕ, ℤ, ◌+ℤ◌, ◌-ℤ◌, neg_ℤ, ◌*ℤ◌, pos, List, [], ◌∷◌, ◌++◌, length, map, Bool, true, false, Option, Some, None, refl, sym, ap, ◌∙◌, arith}
use Rattle.std.proofs.lemmas.Int.{ints}
use Rattle.std.proofs.lemmas.List.Folds.{list_any-append}
use Rattle.std.specs.Prelude.{◌||◌, ◌&&◌, if◌then◌else◌, option_map, is_some}
use Rattle.std.specs.List.{AllByRecursion, list_all}
use Rattle.ped_base.specs.Lists.{is_same_text, is_among}
use Rattle.ped_base.proofs.NameEquality.{same_is}
use Rattle.ped_views.specs.Whole.{is_zero}
use Rattle.ped_tree.specs.Tree.{ExprTree, Int, Var, Element, Neg, Add, Sub, Mul, Div, Pow, Call}
use Rattle.ped_tree.specs.Constants.NamedConstants.{value_named}
use Rattle.ped_tree.specs.Constants.ConstantExpressions.{constant_value}
use Rattle.ped_affine.specs.Ranges.{is_near}
use Rattle.ped_affine.specs.AffineForms.{Terms, AffineForm, form, is_small, is_limited, within_limits, constant_form, unknown_coefficient, unknown_form, variable_form, combined, combination, times, negation, is_constant_form, product, constant_or, affine_of}
use Rattle.ped_graph.proofs.FormLengths.{HasMany, form_many}

-- a coefficient of 0 for each of these names
abbrev pub zeros : List (List ℕ) → List ℤ
zeros names = map (λ x. pos 0) names

-- the form with them behind its coefficients
abbrev pub padded : List (List ℕ) → AffineForm → AffineForm
padded names f = form (f.coefficients ++ zeros names) f.constant

map-append : {X Y : Type 0} (f : X → Y) (xs ys : List X) → map f (xs ++ ys) ≡ map f xs ++ map f ys
map-append f [] ys = refl
map-append {Y = Y} f (x ∷ xs) ys = ap (λ (zs : List Y). f x ∷ zs) (map-append f xs ys)

-- zeros pass a test that 0 passes
all_padded : (p : ℤ → Bool) → p (pos 0) ≡ true → (xs : List ℤ) (names : List (List ℕ)) → list_all p (xs ++ zeros names) ≡ list_all p xs
all_padded p zero [] [] = refl
all_padded p zero [] (x ∷ names) = ap (λ (b : Bool). b && list_all p (zeros names)) zero ∙ all_padded p zero [] names
all_padded p zero (x ∷ xs) names = ap (λ (b : Bool). p x && b) (all_padded p zero xs names)

-- a function of 0 that is 0, on each coefficient
map_padded : (f : ℤ → ℤ) → f (pos 0) ≡ pos 0 → (xs : List ℤ) (names : List (List ℕ)) → map f (xs ++ zeros names) ≡ map f xs ++ zeros names
map_padded f zero [] [] = refl
map_padded f zero [] (x ∷ names) = λ i. zero i ∷ map_padded f zero [] names i
map_padded f zero (x ∷ xs) names = ap (λ (zs : List ℤ). f x ∷ zs) (map_padded f zero xs names)

combined_padded : (op : ℤ → ℤ → ℤ) → op (pos 0) (pos 0) ≡ pos 0 → (xs ys : List ℤ) → length xs ≡ length ys → (names : List (List ℕ)) → combined op (xs ++ zeros names) (ys ++ zeros names) ≡ combined op xs ys ++ zeros names
combined_padded op zero [] [] many [] = refl
combined_padded op zero [] [] many (x ∷ names) = λ i. zero i ∷ combined_padded op zero [] [] many names i
combined_padded op zero [] (y ∷ ys) many names = absurd (omega arith)
combined_padded op zero (x ∷ xs) [] many names = absurd (omega arith)
combined_padded op zero (x ∷ xs) (y ∷ ys) many names = ap (λ (zs : List ℤ). op x y ∷ zs) (combined_padded op zero xs ys (omega arith) names)

module _ (names : List (List ℕ)) where
  limited_padded : (f : AffineForm) → within_limits (padded names f) ≡ option_map (padded names) (within_limits f)
  limited_padded f =
      ap (λ (b : Bool). if b && is_near f.constant then Some (padded names f) else None) (all_padded is_small refl f.coefficients names) ∙ go (is_limited f)
    where
      go : (b : Bool) → (if b then Some (padded names f) else None) ≡ option_map (padded names) (if b then Some f else None)
      go true = refl
      go false = refl

  -- a form of other coefficients
  limited_form : (xs ys : List ℤ) (n : ℤ) → xs ≡ ys ++ zeros names → within_limits (form xs n) ≡ option_map (padded names) (within_limits (form ys n))
  limited_form xs ys n e = ap (λ (zs : List ℤ). within_limits (form zs n)) e ∙ limited_padded (form ys n)

  constant_padded : (us : List (List ℕ)) (n : ℤ) → within_limits (constant_form (us ++ names) n) ≡ option_map (padded names) (within_limits (constant_form us n))
  constant_padded us n = limited_form (zeros (us ++ names)) (zeros us) n (map-append (λ x. pos 0) us names)

  constant_or_padded : (us : List (List ℕ)) (value : Option ℤ) (o p : Option AffineForm) → (value ≡ None → o ≡ option_map (padded names) p) → constant_or (us ++ names) value o ≡ option_map (padded names) (constant_or us value p)
  constant_or_padded us (Some n) o p e = constant_padded us n
  constant_or_padded us None o p e = e refl

  negation_padded : (o p : Option AffineForm) → o ≡ option_map (padded names) p → negation o ≡ option_map (padded names) (negation p)
  negation_padded o (Some f) e = ap negation e ∙ limited_form (map neg_ℤ (f.coefficients ++ zeros names)) (map neg_ℤ f.coefficients) (neg_ℤ f.constant) (map_padded neg_ℤ refl f.coefficients names)
  negation_padded o None e = ap negation e

  combination_padded : (op : ℤ → ℤ → ℤ) → op (pos 0) (pos 0) ≡ pos 0 → (n : ℕ) (o p q r : Option AffineForm) → HasMany n q → HasMany n r → o ≡ option_map (padded names) q → p ≡ option_map (padded names) r
      → combination op o p ≡ option_map (padded names) (combination op q r)
  combination_padded op zero n o p (Some f) (Some g) h k first second =
      (λ i. combination op (first i) (second i)) ∙ limited_form (combined op (f.coefficients ++ zeros names) (g.coefficients ++ zeros names)) (combined op f.coefficients g.coefficients) (op f.constant g.constant)
      (combined_padded op zero f.coefficients g.coefficients (h f refl ∙ sym (k g refl)) names)
  combination_padded op zero n o p (Some f) None h k first second = λ i. combination op (first i) (second i)
  combination_padded op zero n o p None r h k first second = ap (λ (q : Option AffineForm). combination op q p) first

  times_padded : (n : ℤ) (f : AffineForm) → within_limits (times n (padded names f)) ≡ option_map (padded names) (within_limits (times n f))
  times_padded n f = limited_form (map (λ a. n *ℤ a) (f.coefficients ++ zeros names)) (map (λ a. n *ℤ a) f.coefficients) (n *ℤ f.constant) (map_padded (λ a. n *ℤ a) (omega (arith, ints)) f.coefficients names)

  product_padded : (o p q r : Option AffineForm) → o ≡ option_map (padded names) q → p ≡ option_map (padded names) r → product o p ≡ option_map (padded names) (product q r)
  product_padded o p (Some f) (Some g) first second =
      (λ i. product (first i) (second i))
      ∙ (λ i. if all_padded is_zero refl f.coefficients names i then times_padded f.constant g i else (if all_padded is_zero refl g.coefficients names i then times_padded g.constant f i else None))
      ∙ go (is_constant_form f) (is_constant_form g)
    where
      go : (b c : Bool) → (if b then option_map (padded names) (within_limits (times f.constant g)) else (if c then option_map (padded names) (within_limits (times g.constant f)) else None))
          ≡ option_map (padded names) (if b then within_limits (times f.constant g) else (if c then within_limits (times g.constant f) else None))
      go true c = refl
      go false true = refl
      go false false = refl
  product_padded o p (Some f) None first second = λ i. product (first i) (second i)
  product_padded o p None r first second = ap (λ (q : Option AffineForm). product q p) first

  -- a name that isn't among them has a coefficient of 0 for each
  unknowns_padded : (x : List ℕ) (ys : List (List ℕ)) → is_among x ys ≡ false → map (unknown_coefficient x) ys ≡ zeros ys
  unknowns_padded x [] e = refl
  unknowns_padded x (y ∷ ys) e = (λ i. (if (first (is_same_text x y) (is_among x ys) e) i then pos 1 else pos 0) ∷ unknowns_padded x ys (second (is_same_text x y) (is_among x ys) e) i)
    where
      first : (b c : Bool) → (b || c) ≡ false → b ≡ false
      first true c e = cc
      first false c e = refl

      second : (b c : Bool) → (b || c) ≡ false → c ≡ false
      second true c e = cc
      second false c e = e

  variable_padded : (us : List (List ℕ)) (x : List ℕ) → is_among x names ≡ false → variable_form (us ++ names) x ≡ option_map (padded names) (variable_form us x)
  variable_padded us x other =
      let among : is_among x (us ++ names) ≡ is_among x us = list_any-append (is_same_text x) us names ∙ ap (λ (b : Bool). is_among x us || b) other ∙ or_false (is_among x us) in
      let unknowns : map (unknown_coefficient x) (us ++ names) ≡ map (unknown_coefficient x) us ++ zeros names = map-append (unknown_coefficient x) us names ∙ ap (λ (zs : List ℤ). map (unknown_coefficient x) us ++ zs) (unknowns_padded x names other) in
      (λ i. if among i then limited_form (map (unknown_coefficient x) (us ++ names)) (map (unknown_coefficient x) us) (pos 0) unknowns i else None) ∙ go (is_among x us)
    where
      or_false : (b : Bool) → (b || false) ≡ b
      or_false true = refl
      or_false false = refl

      go : (b : Bool) → (if b then option_map (padded names) (within_limits (unknown_form us x)) else None) ≡ option_map (padded names) (if b then within_limits (unknown_form us x) else None)
      go true = refl
      go false = refl

  module _ (constants : List (List ℕ × ℤ)) (named : AllByRecursion (λ x. is_some (value_named constants x) ≡ true) names) where
    -- a name that is no constant isn't among them
    is_apart : (x : List ℕ) → value_named constants x ≡ None → is_among x names ≡ false
    is_apart x none = go names named
      where
        here : (y : List ℕ) (b : Bool) → is_same_text x y ≡ b → is_some (value_named constants y) ≡ true → b ≡ false
        here y false e there = refl
        here y true e there = absurd (none_some (value_named constants y) (sym (ap (value_named constants) (same_is x y e)) ∙ none) there)
          where
            none_some : (o : Option ℤ) → o ≡ None → is_some o ≡ true → ⊥
            none_some None e h = cc
            none_some (Some n) e h = cc

        go : (ys : List (List ℕ)) → AllByRecursion (λ y. is_some (value_named constants y) ≡ true) ys → is_among x ys ≡ false
        go [] h = refl
        go (y ∷ ys) h = (λ i. here y (is_same_text x y) refl h.0 i || is_among x ys) ∙ go ys h.1

    module _ (us : List (List ℕ)) where
      abbrev pub less : Terms
      less = record { constants = constants; unknowns = us }

      abbrev pub more : Terms
      more = record { constants = constants; unknowns = us ++ names }

      -- with them among the unknowns a subscript has the same form, with zeros behind its coefficients
      pub affine_padded : (e : ExprTree) → affine_of more e ≡ option_map (padded names) (affine_of less e)
      affine_padded (Int n) = constant_padded us (pos n)
      affine_padded (Var x) = constant_or_padded us (value_named constants x) (variable_form (us ++ names) x) (variable_form us x) (λ none. variable_padded us x (is_apart x none))
      affine_padded (Element x subscripts) = refl
      affine_padded (Neg a) = constant_or_padded us (constant_value constants (Neg a)) (negation (affine_of more a)) (negation (affine_of less a)) (λ none. negation_padded (affine_of more a) (affine_of less a) (affine_padded a))
      affine_padded (Add a b) =
          constant_or_padded us (constant_value constants (Add a b)) (combination ◌+ℤ◌ (affine_of more a) (affine_of more b)) (combination ◌+ℤ◌ (affine_of less a) (affine_of less b))
          (λ none. combination_padded ◌+ℤ◌ refl (length us) (affine_of more a) (affine_of more b) (affine_of less a) (affine_of less b) (form_many less a) (form_many less b) (affine_padded a) (affine_padded b))
      affine_padded (Sub a b) =
          constant_or_padded us (constant_value constants (Sub a b)) (combination ◌-ℤ◌ (affine_of more a) (affine_of more b)) (combination ◌-ℤ◌ (affine_of less a) (affine_of less b))
          (λ none. combination_padded ◌-ℤ◌ refl (length us) (affine_of more a) (affine_of more b) (affine_of less a) (affine_of less b) (form_many less a) (form_many less b) (affine_padded a) (affine_padded b))
      affine_padded (Mul a b) =
          constant_or_padded us (constant_value constants (Mul a b)) (product (affine_of more a) (affine_of more b)) (product (affine_of less a) (affine_of less b))
          (λ none. product_padded (affine_of more a) (affine_of more b) (affine_of less a) (affine_of less b) (affine_padded a) (affine_padded b))
      affine_padded (Div a b) = constant_or_padded us (constant_value constants (Div a b)) None None (λ none. refl)
      affine_padded (Pow a b) = constant_or_padded us (constant_value constants (Pow a b)) None None (λ none. refl)
      affine_padded (Call f arguments) = constant_or_padded us (constant_value constants (Call f arguments)) None None (λ none. refl)

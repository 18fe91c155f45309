-- Rows in which the places of names are marked, one after the other.
use Rattle.std.proofs.Common.{◌≡◌, ℕ, zero, suc, ◌<◌, List, [], ◌∷◌, ◌++◌, length, get_or, slice_set, if◌then◌else◌, Bool, true, false, ◌||◌, ◌==◌, Option, Some, None, IsTrue, refl, sym, ap, ◌∙◌, subst, arith, eqb-true}
use Rattle.std.proofs.lemmas.List.{get_or-set_same, get_or-set_other, length-set}
use Rattle.std.proofs.lemmas.List.Quantifiers.{position-Some}
use Rattle.std.proofs.lemmas.Bool.{false≢true}
use Rattle.std.specs.List.{list_any}
use Rattle.std.specs.Global.{Box}
use Rattle.ped_base.specs.Lists.{is_same_text, is_among}
use Rattle.ped_tree.proofs.NameLaws.Collected.{among_append}
use Rattle.ped_base.proofs.NameEquality.{same_itself, same_is}
use Rattle.ped_tree.specs.Tree as plain
use Rattle.ped_tree.specs.Views.{expr_tree, cond_tree}
use Rattle.ped_tree.specs.declared.expressions.Expr.{Expr}
use Rattle.ped_tree.specs.declared.expressions.Expr as variant
use Rattle.ped_tree.specs.declared.conditions.Cond.{Cond}
use Rattle.ped_tree.specs.declared.conditions.Cond as cond
use Rattle.ped_tree.specs.declared.conditions.Relation.{Relation}
use Rattle.ped_flow.specs.Events.{unless_constant, scalars_in, scalars_in_cond}
use Rattle.ped_flow.specs.RowPlaces.{place_of, bit, AreMarked}
use Rattle.ped_flow.proofs.ScalarSteps.{expr_tree-Add, expr_tree-Sub, expr_tree-Mul, expr_tree-Div, expr_tree-Pow, cond_tree-Rel, cond_tree-And, cond_tree-Or}

or_false : (a : Bool) → (a || false) ≡ a
or_false true = refl
or_false false = refl

or-assoc : (a b c : Bool) → ((a || b) || c) ≡ (a || (b || c))
or-assoc true b c = refl
or-assoc false b c = refl

some_or : ℕ → Option ℕ → ℕ
some_or d (Some n) = n
some_or d None = d

true_or : (a b : Bool) → b ≡ true → (a || b) ≡ true
true_or true b h = refl
true_or false b h = h

any_at : (test : List ℕ → Bool) (names : List (List ℕ)) (i : ℕ) → i < length names → test (get_or names i []) ≡ true → list_any test names ≡ true
any_at test [] i h t = absurd (omega arith)
any_at test (y ∷ ys) zero h t = ap (λ (z : Bool). z || list_any test ys) t
any_at test (y ∷ ys) (suc i) h t = true_or (test y) (list_any test ys) (any_at test ys i (omega arith) t)

module _ (names : List (List ℕ)) where
  -- a place is one of the names
  pub place_within : (x : List ℕ) (i : ℕ) → place_of names x ≡ Some i → i < length names
  place_within x i h = (position-Some (is_same_text x) names i [] h).0

  -- and it is that of one of the names
  pub place_among : (x : List ℕ) (i : ℕ) → place_of names x ≡ Some i → IsTrue (is_among x names)
  place_among x i h = any_at (is_same_text x) names i (place_within x i h) (position-Some (is_same_text x) names i [] h).1

  same_as : (x y : List ℕ) (i p : ℕ) → place_of names x ≡ Some i → place_of names y ≡ Some p → i ≡ p → x ≡ y
  same_as x y i p h k e =
      same_is x _ (position-Some (is_same_text x) names i [] h).1
      ∙ sym (same_is y _ (subst (λ (j : ℕ). is_same_text y (get_or names j []) ≡ true) (sym e) (position-Some (is_same_text y) names p [] k).1))

  same_place : (x y : List ℕ) (i p : ℕ) → place_of names x ≡ Some i → place_of names y ≡ Some p → x ≡ y → i ≡ p
  unfolding some_or
  same_place x y i p h k e = ap (some_or 0) (sym h ∙ ap (place_of names) e ∙ k)

  -- two names are the same where they have one place
  pub placed_same : (x y : List ℕ) (i p : ℕ) → place_of names x ≡ Some i → place_of names y ≡ Some p → is_same_text x y ≡ (i == p)
  placed_same x y i p h k = by (i == p) refl
    where
      differ : i == p ≡ false → (r : Bool) → is_same_text x y ≡ r → r ≡ false
      differ e true t = absurd (let n : i ≡ p = same_place x y i p h k (same_is x y t) in grind (arith, eqb-true))
      differ e false t = refl

      by : (b : Bool) → (i == p) ≡ b → is_same_text x y ≡ b
      by true e = ap (is_same_text x) (sym (same_as x y i p h k (eqb-true i p e))) ∙ same_itself x
      by false e = differ e (is_same_text x y) refl

  -- a name that has no place is none that has one
  pub placed_other : (x y : List ℕ) (i : ℕ) → place_of names x ≡ Some i → place_of names y ≡ None → is_same_text x y ≡ false
  placed_other x y i h k = by (is_same_text x y) refl
    where
      by : (r : Bool) → is_same_text x y ≡ r → r ≡ false
      by true t = absurd (let n : Some i ≡ None = sym h ∙ ap (place_of names) (same_is x y t) ∙ k in cc)
      by false t = refl

  -- nothing is marked
  pub marked_nothing : (row : List Bool) → AreMarked names row row []
  marked_nothing row = record { width = refl; marked = λ x i h. sym (or_false (bit row i)) }

  -- some names are marked and then others
  pub marked_then : (a b c : List Bool) (xs ys : List (List ℕ)) → AreMarked names a b xs → AreMarked names b c ys → AreMarked names a c (xs ++ ys)
  marked_then a b c xs ys h k = record {
    width = k.width ∙ h.width;
    marked = λ x i p. k.marked x i p ∙ ap (λ (z : Bool). z || is_among x ys) (h.marked x i p) ∙ or-assoc (bit a i) (is_among x xs) (is_among x ys) ∙ ap (λ (z : Bool). bit a i || z) (sym (among_append x xs ys));
  }

  -- the place of a name is set
  pub marked_name : (row : List Bool) (y : List ℕ) (p : ℕ) → length row ≡ length names → place_of names y ≡ Some p → AreMarked names row (slice_set row p true) (y ∷ [])
  marked_name row y p w k = record { width = length-set row p true; marked = λ x i h. by x i h (i == p) refl }
    where
      or_true : (a : Bool) → (a || true) ≡ true
      or_true true = refl
      or_true false = refl

      by : (x : List ℕ) (i : ℕ) → place_of names x ≡ Some i → (b : Bool) → (i == p) ≡ b → bit (slice_set row p true) i ≡ (bit row i || (is_same_text x y || false))
      by x i h true e =
          ap (bit (slice_set row p true)) (eqb-true i p e) ∙ get_or-set_same row p true false (let q : p < length names = place_within y p k in omega (arith, w))
          ∙ sym (or_true (bit row i)) ∙ ap (λ (z : Bool). bit row i || z) (sym (ap (λ (z : Bool). z || false) (placed_same x y i p h k ∙ e)))
      by x i h false e =
          get_or-set_other row p i true false (λ (n : i ≡ p). absurd (grind (arith, eqb-true)))
          ∙ sym (or_false (bit row i)) ∙ ap (λ (z : Bool). bit row i || z) (sym (ap (λ (z : Bool). z || false) (placed_same x y i p h k ∙ e)))

  -- a name without a place
  pub marked_other : (row : List Bool) (y : List ℕ) → place_of names y ≡ None → AreMarked names row row (y ∷ [])
  marked_other row y k = record { width = refl; marked = λ x i h. sym (or_false (bit row i)) ∙ ap (λ (z : Bool). bit row i || z) (sym (ap (λ (z : Bool). z || false) (placed_other x y i h k))) }

  -- no name that has a place is a constant
  pub marked_variable : (cs : List (List ℕ)) → ((x : List ℕ) → IsTrue (is_among x names) → is_among x cs ≡ false) → (a b : List Bool) (y : List ℕ) → AreMarked names a b (y ∷ []) → AreMarked names a b (unless_constant cs y)
  marked_variable cs vars a b y h = record { width = h.width; marked = λ x i p. h.marked x i p ∙ ap (λ (z : Bool). bit a i || z) (by x i p (is_among y cs) refl) }
    where
      constant : (x y : List ℕ) → is_among x cs ≡ false → is_among y cs ≡ true → (r : Bool) → is_same_text x y ≡ r → (r || false) ≡ false
      constant x y f t true e = absurd (false≢true (sym f ∙ ap (λ (z : List ℕ). is_among z cs) (same_is x y e) ∙ t))
      constant x y f t false e = refl

      there : (x : List ℕ) (i : ℕ) → place_of names x ≡ Some i → is_among x cs ≡ false
      there x i p = vars x (place_among x i p)

      by : (x : List ℕ) (i : ℕ) → place_of names x ≡ Some i → (r : Bool) → is_among y cs ≡ r → (is_same_text x y || false) ≡ is_among x (if r then [] else y ∷ [])
      by x i p true e = constant x y (there x i p) e (is_same_text x y) refl
      by x i p false e = refl

  -- one more of a list
  pub next_marked : (initial row mid : List Bool) (whole rest item others : List (List ℕ)) → ((new : List Bool) → AreMarked names row new rest → AreMarked names initial new whole) → rest ≡ item ++ others → AreMarked names row mid item
      → (new : List Bool) → AreMarked names mid new others → AreMarked names initial new whole
  next_marked initial row mid whole rest item others inv parts h new k = inv new (subst (λ (z : List (List ℕ)). AreMarked names row new z) (sym parts) (marked_then row mid new item others h k))

  -- a list is gone through
  pub all_marked : (initial row : List Bool) (whole rest : List (List ℕ)) → ((new : List Bool) → AreMarked names row new rest → AreMarked names initial new whole) → rest ≡ [] → AreMarked names initial row whole
  all_marked initial row whole rest inv none = inv row (subst (λ (z : List (List ℕ)). AreMarked names row row z) (sym none) (marked_nothing row))

  module _ (cs : List (List ℕ)) (row mid new : List Bool) where
    two_marked : (whole left right : List (List ℕ)) → whole ≡ left ++ right → AreMarked names row mid left → AreMarked names mid new right → AreMarked names row new whole
    two_marked whole left right e h k = subst (λ (z : List (List ℕ)). AreMarked names row new z) (sym e) (marked_then row mid new left right h k)

    module _ (e : Expr) (a b : Box Expr) (p q : Expr) where
      operands : (t : plain.ExprTree) → scalars_in cs t ≡ scalars_in cs (expr_tree a.value) ++ scalars_in cs (expr_tree b.value) → expr_tree e ≡ t → p ≡ a.value → q ≡ b.value
          → AreMarked names row mid (scalars_in cs (expr_tree p)) → AreMarked names mid new (scalars_in cs (expr_tree q)) → AreMarked names row new (scalars_in cs (expr_tree e))
      operands t parts is l g = two_marked (scalars_in cs (expr_tree e)) (scalars_in cs (expr_tree p)) (scalars_in cs (expr_tree q)) (ap (scalars_in cs) is ∙ parts ∙ (λ j. scalars_in cs (expr_tree (sym l j)) ++ scalars_in cs (expr_tree (sym g j))))

      pub summary_marked : e ≡ variant.Add a b → p ≡ a.value → q ≡ b.value → AreMarked names row mid (scalars_in cs (expr_tree p)) → AreMarked names mid new (scalars_in cs (expr_tree q)) → AreMarked names row new (scalars_in cs (expr_tree e))
      summary_marked is = operands (plain.Add (expr_tree a.value) (expr_tree b.value)) (λ i. scalars_in cs (expr_tree a.value) ++ scalars_in cs (expr_tree b.value)) (ap expr_tree is ∙ expr_tree-Add a b)

      pub difference_marked : e ≡ variant.Sub a b → p ≡ a.value → q ≡ b.value → AreMarked names row mid (scalars_in cs (expr_tree p)) → AreMarked names mid new (scalars_in cs (expr_tree q)) → AreMarked names row new (scalars_in cs (expr_tree e))
      difference_marked is = operands (plain.Sub (expr_tree a.value) (expr_tree b.value)) (λ i. scalars_in cs (expr_tree a.value) ++ scalars_in cs (expr_tree b.value)) (ap expr_tree is ∙ expr_tree-Sub a b)

      pub product_marked : e ≡ variant.Mul a b → p ≡ a.value → q ≡ b.value → AreMarked names row mid (scalars_in cs (expr_tree p)) → AreMarked names mid new (scalars_in cs (expr_tree q)) → AreMarked names row new (scalars_in cs (expr_tree e))
      product_marked is = operands (plain.Mul (expr_tree a.value) (expr_tree b.value)) (λ i. scalars_in cs (expr_tree a.value) ++ scalars_in cs (expr_tree b.value)) (ap expr_tree is ∙ expr_tree-Mul a b)

      pub quotient_marked : e ≡ variant.Div a b → p ≡ a.value → q ≡ b.value → AreMarked names row mid (scalars_in cs (expr_tree p)) → AreMarked names mid new (scalars_in cs (expr_tree q)) → AreMarked names row new (scalars_in cs (expr_tree e))
      quotient_marked is = operands (plain.Div (expr_tree a.value) (expr_tree b.value)) (λ i. scalars_in cs (expr_tree a.value) ++ scalars_in cs (expr_tree b.value)) (ap expr_tree is ∙ expr_tree-Div a b)

      pub power_marked : e ≡ variant.Pow a b → p ≡ a.value → q ≡ b.value → AreMarked names row mid (scalars_in cs (expr_tree p)) → AreMarked names mid new (scalars_in cs (expr_tree q)) → AreMarked names row new (scalars_in cs (expr_tree e))
      power_marked is = operands (plain.Pow (expr_tree a.value) (expr_tree b.value)) (λ i. scalars_in cs (expr_tree a.value) ++ scalars_in cs (expr_tree b.value)) (ap expr_tree is ∙ expr_tree-Pow a b)

    module _ (c : Cond) where
      pub relation_marked : (o : Relation) (a b : Expr) → c ≡ cond.Rel o a b → AreMarked names row mid (scalars_in cs (expr_tree a)) → AreMarked names mid new (scalars_in cs (expr_tree b)) → AreMarked names row new (scalars_in_cond cs (cond_tree c))
      relation_marked o a b is = two_marked (scalars_in_cond cs (cond_tree c)) (scalars_in cs (expr_tree a)) (scalars_in cs (expr_tree b)) (ap (scalars_in_cond cs) (ap cond_tree is ∙ cond_tree-Rel o a b))

      conditions : (a b : Box Cond) (p q : Cond) (t : plain.CondTree) → scalars_in_cond cs t ≡ scalars_in_cond cs (cond_tree a.value) ++ scalars_in_cond cs (cond_tree b.value) → cond_tree c ≡ t → p ≡ a.value → q ≡ b.value
          → AreMarked names row mid (scalars_in_cond cs (cond_tree p)) → AreMarked names mid new (scalars_in_cond cs (cond_tree q)) → AreMarked names row new (scalars_in_cond cs (cond_tree c))
      conditions a b p q t parts is l g =
          two_marked (scalars_in_cond cs (cond_tree c)) (scalars_in_cond cs (cond_tree p)) (scalars_in_cond cs (cond_tree q))
          (ap (scalars_in_cond cs) is ∙ parts ∙ (λ j. scalars_in_cond cs (cond_tree (sym l j)) ++ scalars_in_cond cs (cond_tree (sym g j))))

      pub and_marked : (a b : Box Cond) (p q : Cond) → c ≡ cond.And a b → p ≡ a.value → q ≡ b.value → AreMarked names row mid (scalars_in_cond cs (cond_tree p)) → AreMarked names mid new (scalars_in_cond cs (cond_tree q)) → AreMarked names row new (scalars_in_cond cs (cond_tree c))
      and_marked a b p q is = conditions a b p q (plain.And (cond_tree a.value) (cond_tree b.value)) (λ i. scalars_in_cond cs (cond_tree a.value) ++ scalars_in_cond cs (cond_tree b.value)) (ap cond_tree is ∙ cond_tree-And a b)

      pub or_marked : (a b : Box Cond) (p q : Cond) → c ≡ cond.Or a b → p ≡ a.value → q ≡ b.value → AreMarked names row mid (scalars_in_cond cs (cond_tree p)) → AreMarked names mid new (scalars_in_cond cs (cond_tree q)) → AreMarked names row new (scalars_in_cond cs (cond_tree c))
      or_marked a b p q is = conditions a b p q (plain.Or (cond_tree a.value) (cond_tree b.value)) (λ i. scalars_in_cond cs (cond_tree a.value) ++ scalars_in_cond cs (cond_tree b.value)) (ap cond_tree is ∙ cond_tree-Or a b)

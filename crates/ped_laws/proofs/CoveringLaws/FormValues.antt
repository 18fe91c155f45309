-- Values of expressions by their affine forms.
use Rattle.std.proofs.Common.{◌≡◌, ℕ, List, [], length, Bool, true, false, refl, sym, ap, ◌∙◌, subst, arith, ℤ, pos, neg_ℤ, ◌+ℤ◌, ◌-ℤ◌, ◌*ℤ◌, Option, Some, None, Result, Ok, if◌then◌else◌}
use Rattle.std.proofs.Math.IntN.{*ℤ_comm}
use Rattle.ped_flow.specs.ped_base.specs.Lists.{is_among}
use Rattle.ped_flow.specs.ped_base.specs.Arithmetic.Arithmetic.{in_range, negation_of}
use Rattle.ped_graph.specs.ped_views.specs.Excluded.{dot}
use Rattle.ped_graph.specs.ped_views.proofs.Products.{linear, mul-add}
use Rattle.ped_flow.specs.ped_tree.specs.Tree.{ExprTree, Int, Var, Element, Neg, Add, Sub, Mul, Div, Pow, Call}
use Rattle.ped_flow.specs.ped_tree.specs.Constants.NamedConstants.{value_named}
use Rattle.ped_flow.specs.ped_tree.specs.Constants.ConstantExpressions.{constant_value}
use Rattle.ped_eval.specs.ped_store.specs.Stores.{Store}
use Rattle.ped_eval.specs.Scopes.{Names}
use Rattle.ped_eval.specs.Evaluation.{Evaluated, ◌>>>◌, given, by_number}
use Rattle.ped_eval.specs.Values.{unary, binary, name_value, value}
use Rattle.ped_flow.specs.ped_affine.specs.AffineForms.{Terms, AffineForm, is_limited, within_limits, constant_form, unknown_coefficient, unknown_form, variable_form, combined_form, combination, times, opposite, negation, is_constant_form, product, constant_or, affine_of}
use Rattle.ped_laws.specs.Covering.Weights.{first_values, HaveValues}
use Rattle.ped_laws.proofs.CoveringLaws.Comings.{came, ok_one, some_one, within_range, Comes, constant_comes}
use Rattle.ped_laws.proofs.CoveringLaws.Weighing.{dot_zeros, dot_opposite, dot_sum, dot_difference, dot_times, dot_none, length_combined, length_mapped, dot_unknown}

limited : (f g : AffineForm) → within_limits f ≡ Some g → f ≡ g
limited f g h = go (is_limited f) h
  where
    go : (b : Bool) → (if b then Some f else None) ≡ Some g → f ≡ g
    go true e = some_one f g e
    go false e = absurd cc

module _ (t : Terms) (values : List ℕ → ℤ) (g : Names) (u : Store) (have : HaveValues t values g u) where
  abbrev vs : List ℤ
  vs = first_values values [] t.unknowns

  -- a form of as many coefficients, which gives the value
  abbrev Gives : ℤ → AffineForm → Type 0
  Gives n f = (length f.coefficients ≡ length t.unknowns) × (n ≡ dot f.coefficients vs +ℤ f.constant)

  abbrev Tells : Option AffineForm → Result ℤ ℕ → Type 0
  Tells o a = (n : ℤ) (f : AffineForm) → a ≡ Ok n → o ≡ Some f → Gives n f

  kept : (n : ℤ) (f h : AffineForm) → Gives n f → within_limits f ≡ Some h → Gives n h
  kept n f h w e = subst (λ (x : AffineForm). Gives n x) (limited f h e) w

  constant_gives : (n : ℤ) → Gives n (constant_form t.unknowns n)
  constant_gives n = (length_mapped (λ x. pos 0) t.unknowns, (let z = dot_zeros t.unknowns vs in omega (arith, linear)))

  same_comes : (e : ExprTree) → Comes (constant_value t.constants e) (value g e u).result
  same_comes e = subst (λ (c : List (List ℕ × ℤ)). Comes (constant_value c e) (value g e u).result) have.constants (constant_comes g u e)

  by_constant : (c : Option ℤ) (o : Option AffineForm) (a : Result ℤ ℕ) → Comes c a → Tells o a → Tells (constant_or t.unknowns c o) a
  by_constant None o a k more n f e h = more n f e h
  by_constant (Some m) o a k more n f e h = subst (λ (x : ℤ). Gives x f) (ok_one m n (sym (k m refl) ∙ e)) (kept m (constant_form t.unknowns m) f (constant_gives m) h)

  unknown_tells : (x : List ℕ) (b : Bool) → is_among x t.unknowns ≡ b → (n : ℤ) (f : AffineForm) → (is_among x t.unknowns ≡ true → n ≡ values x) → (if b then within_limits (unknown_form t.unknowns x) else None) ≡ Some f → Gives n f
  unknown_tells x true i n f e h =
      kept n (unknown_form t.unknowns x) f (length_mapped (unknown_coefficient x) t.unknowns, (let d = dot_unknown values x [] t.unknowns refl i in let v = e i in omega (arith, linear))) h
  unknown_tells x false i n f e h = absurd cc

  name_tells : (x : List ℕ) (o : Option ℤ) → o ≡ value_named t.constants x → Tells (constant_or t.unknowns (value_named t.constants x) (variable_form t.unknowns x)) (name_value o g x u).result
  name_tells x (Some m) k n f e h = subst (λ (z : ℤ). Gives z f) (ok_one m n e) (kept m (constant_form t.unknowns m) f (constant_gives m) (ap (λ (c : Option ℤ). constant_or t.unknowns c (variable_form t.unknowns x)) k ∙ h))
  name_tells x None k n f e h = unknown_tells x (is_among x t.unknowns) refl n f (λ i. have.unknowns x n i e) (ap (λ (c : Option ℤ). constant_or t.unknowns c (variable_form t.unknowns x)) k ∙ h)

  negation_tells : (o : Option AffineForm) (a : Evaluated ℤ) → Tells o a.result → Tells (negation o) (unary negation_of a).result
  negation_tells None a k n f e h = absurd cc
  negation_tells (Some x) a k n f e h =
      let first = came a.seen a.result (λ z. given (by_number (negation_of z))) n e in
      let is : neg_ℤ first.0 ≡ n = within_range (neg_ℤ first.0) n first.2 in
      let w = k first.0 x first.1 refl in
      let d = dot_opposite x.coefficients vs in
      let v = w.1 in
      kept n (opposite x) f (length_mapped neg_ℤ x.coefficients ∙ w.0, omega (arith, linear)) h

  both_tell : (op : ℤ → ℤ → ℤ) (join : Option AffineForm → Option AffineForm → Option AffineForm)
      → ((x : AffineForm) (o : Option AffineForm) (f : AffineForm) → join None o ≡ Some f → ⊥) → ((x f : AffineForm) → join (Some x) None ≡ Some f → ⊥)
      → ((m n : ℤ) (x y f : AffineForm) → Gives m x → Gives n y → join (Some x) (Some y) ≡ Some f → Gives (op m n) f)
      → (o q : Option AffineForm) (a b : Evaluated ℤ) → Tells o a.result → Tells q b.result → Tells (join o q) (binary (λ x. λ y. in_range (op x y)) a b).result
  both_tell op join no_first no_second law None q a b k l n f e h = absurd (no_first f q f h)
  both_tell op join no_first no_second law (Some x) None a b k l n f e h = absurd (no_second x f h)
  both_tell op join no_first no_second law (Some x) (Some y) a b k l n f e h =
      let first = came a.seen a.result (λ z. b >>> λ v. given (by_number (in_range (op z v)))) n e in
      let second = came b.seen b.result (λ v. given (by_number (in_range (op first.0 v)))) n first.2 in
      subst (λ (z : ℤ). Gives z f) (within_range (op first.0 second.0) n second.2) (law first.0 second.0 x y f (k first.0 x first.1 refl) (l second.0 y second.1 refl) h)

  sum_law : (m n : ℤ) (x y f : AffineForm) → Gives m x → Gives n y → combination ◌+ℤ◌ (Some x) (Some y) ≡ Some f → Gives (m +ℤ n) f
  sum_law m n x y f a b h =
      let long : length x.coefficients ≡ length y.coefficients = a.0 ∙ sym b.0 in
      let d = dot_sum x.coefficients y.coefficients vs long in
      let v = a.1 in
      let w = b.1 in
      kept (m +ℤ n) (combined_form ◌+ℤ◌ x y) f (length_combined ◌+ℤ◌ x.coefficients y.coefficients long ∙ a.0, omega (arith, linear)) h

  difference_law : (m n : ℤ) (x y f : AffineForm) → Gives m x → Gives n y → combination ◌-ℤ◌ (Some x) (Some y) ≡ Some f → Gives (m -ℤ n) f
  difference_law m n x y f a b h =
      let long : length x.coefficients ≡ length y.coefficients = a.0 ∙ sym b.0 in
      let d = dot_difference x.coefficients y.coefficients vs long in
      let v = a.1 in
      let w = b.1 in
      kept (m -ℤ n) (combined_form ◌-ℤ◌ x y) f (length_combined ◌-ℤ◌ x.coefficients y.coefficients long ∙ a.0, omega (arith, linear)) h

  times_gives : (m n : ℤ) (x y : AffineForm) → Gives m x → Gives n y → is_constant_form x ≡ true → Gives (m *ℤ n) (times x.constant y)
  times_gives m n x y a b c =
      let none = dot_none x.coefficients vs c in
      let v = a.1 in
      let is : m ≡ x.constant = omega (arith, linear) in
      let d = dot_times x.constant y.coefficients vs in
      let s = mul-add x.constant (dot y.coefficients vs) y.constant in
      let w : m *ℤ n ≡ x.constant *ℤ (dot y.coefficients vs +ℤ y.constant) = λ i. is i *ℤ b.1 i in
      (length_mapped (λ z. x.constant *ℤ z) y.coefficients ∙ b.0, omega (arith, linear))

  product_law : (m n : ℤ) (x y f : AffineForm) → Gives m x → Gives n y → product (Some x) (Some y) ≡ Some f → Gives (m *ℤ n) f
  product_law m n x y f a b h = go (is_constant_form x) (is_constant_form y) refl refl h
    where
      go : (c d : Bool) → is_constant_form x ≡ c → is_constant_form y ≡ d → (if c then within_limits (times x.constant y) else (if d then within_limits (times y.constant x) else None)) ≡ Some f → Gives (m *ℤ n) f
      go true d i j e = kept (m *ℤ n) (times x.constant y) f (times_gives m n x y a b i) e
      go false true i j e = kept (m *ℤ n) (times y.constant x) f (subst (λ (z : ℤ). Gives z (times y.constant x)) (*ℤ_comm n m) (times_gives n m y x b a j)) e
      go false false i j e = absurd cc

  pub value_tells : (e : ExprTree) → Tells (affine_of t e) (value g e u).result
  value_tells (Int n) = λ m f e h. subst (λ (z : ℤ). Gives z f) (ok_one (pos n) m e) (kept (pos n) (constant_form t.unknowns (pos n)) f (constant_gives (pos n)) h)
  value_tells (Var x) = name_tells x (value_named g.constants x) (ap (λ (c : List (List ℕ × ℤ)). value_named c x) have.constants)
  value_tells (Element x subscripts) = λ n f e h. absurd cc
  value_tells (Neg a) = by_constant (constant_value t.constants (Neg a)) (negation (affine_of t a)) (value g (Neg a) u).result (same_comes (Neg a))
      (negation_tells (affine_of t a) (value g a u) (value_tells a))
  value_tells (Add a b) = by_constant (constant_value t.constants (Add a b)) (combination ◌+ℤ◌ (affine_of t a) (affine_of t b)) (value g (Add a b) u).result (same_comes (Add a b))
      (both_tell ◌+ℤ◌ (combination ◌+ℤ◌) (λ x o f h. absurd cc) (λ x f h. absurd cc) sum_law (affine_of t a) (affine_of t b) (value g a u) (value g b u) (value_tells a) (value_tells b))
  value_tells (Sub a b) = by_constant (constant_value t.constants (Sub a b)) (combination ◌-ℤ◌ (affine_of t a) (affine_of t b)) (value g (Sub a b) u).result (same_comes (Sub a b))
      (both_tell ◌-ℤ◌ (combination ◌-ℤ◌) (λ x o f h. absurd cc) (λ x f h. absurd cc) difference_law (affine_of t a) (affine_of t b) (value g a u) (value g b u) (value_tells a) (value_tells b))
  value_tells (Mul a b) = by_constant (constant_value t.constants (Mul a b)) (product (affine_of t a) (affine_of t b)) (value g (Mul a b) u).result (same_comes (Mul a b))
      (both_tell ◌*ℤ◌ product (λ x o f h. absurd cc) (λ x f h. absurd cc) product_law (affine_of t a) (affine_of t b) (value g a u) (value g b u) (value_tells a) (value_tells b))
  value_tells (Div a b) = by_constant (constant_value t.constants (Div a b)) None (value g (Div a b) u).result (same_comes (Div a b)) (λ n f e h. absurd cc)
  value_tells (Pow a b) = by_constant (constant_value t.constants (Pow a b)) None (value g (Pow a b) u).result (same_comes (Pow a b)) (λ n f e h. absurd cc)
  value_tells (Call k arguments) = by_constant (constant_value t.constants (Call k arguments)) None (value g (Call k arguments) u).result (same_comes (Call k arguments)) (λ n f e h. absurd cc)

-- A position has a coefficient for each loop round its side.
use Rattle.std.proofs.Common.{◌≡◌, ℕ, suc, ◌+◌, ◌-◌, ◌≤◌, ◌==◌, ℤ, pos, neg_ℤ, ◌+ℤ◌, ◌-ℤ◌, ◌*ℤ◌, int_eq, List, [], ◌∷◌, ◌++◌, take, drop, length, Bool, true, false, Option, Some, None, if◌then◌else◌, refl, sym, ap, ◌∙◌, subst, arith}
use Rattle.std.specs.List.{AllByRecursion}
use Rattle.std.specs.Cmp.Lexicographic.{pointwise}
use Rattle.std.proofs.lemmas.List.{length-map, length-append, length-replicate, length-take-le, length-drop}
use Rattle.ped_laws.specs.ped_flow.specs.ped_base.specs.Lists.{is_among}
use Rattle.ped_laws.specs.ped_graph.specs.ped_views.specs.Views.{View}
use Rattle.ped_laws.specs.ped_graph.specs.ped_views.specs.Limits.{FitsLoops}
use Rattle.ped_laws.specs.ped_flow.specs.ped_tree.specs.Tree.{ExprTree, Int, Var, Element, Neg, Add, Sub, Mul, Div, Pow, Call}
use Rattle.ped_laws.specs.ped_flow.specs.ped_tree.specs.Nests.{Loop, indices_of, common_nest}
use Rattle.ped_laws.specs.ped_flow.specs.ped_tree.specs.Constants.ConstantExpressions.{constant_value}
use Rattle.ped_laws.specs.ped_flow.specs.ped_affine.specs.Ranges.{Setting, Around, loop_range, inside, ranges_inside, nest_ranges}
use Rattle.ped_laws.specs.ped_flow.specs.ped_affine.specs.AffineForms.{Terms, AffineForm, is_limited, within_limits, constant_form, unknown_coefficient, unknown_form, variable_form, combined, combined_form, combination, times, opposite, negation, is_constant_form, product, constant_or, affine_of}
use Rattle.ped_laws.specs.ped_flow.specs.ped_affine.specs.PairViews.{Site, Depths, depths_of, other_variables, terms_of, other_coefficients, usable_pair, unusable, subscript_pair, positions_of, heads_of, view_at}

-- where there is a form, it has so many coefficients
abbrev HasMany : ℕ → Option AffineForm → Type 0
HasMany n o = (f : AffineForm) → o ≡ Some f → length f.coefficients ≡ n

none_many : (n : ℕ) → HasMany n None
none_many n f e = cc

limited_many : (n : ℕ) (f : AffineForm) → length f.coefficients ≡ n → HasMany n (within_limits f)
limited_many n f h = go (is_limited f)
  where
    one : (f g : AffineForm) → Some f ≡ Some g → f ≡ g
    one f g e = cc

    go : (t : Bool) → HasMany n (if t then Some f else None)
    go true g e = ap (λ (x : AffineForm). length x.coefficients) (sym (one f g e)) ∙ h
    go false g e = none_many n g e

combined_long : (op : ℤ → ℤ → ℤ) (xs ys : List ℤ) (n : ℕ) → length xs ≡ n → length ys ≡ n → length (combined op xs ys) ≡ n
combined_long op [] ys n h k = h
combined_long op (x ∷ xs) [] n h k = k
combined_long op (x ∷ xs) (y ∷ ys) n h k =
    let same : length ys ≡ length xs = omega (arith, h, k) in
    ap suc (combined_long op xs ys (length xs) refl same) ∙ h

combined_many : (op : ℤ → ℤ → ℤ) (n : ℕ) (a b : Option AffineForm) → HasMany n a → HasMany n b → HasMany n (combination op a b)
combined_many op n (Some a) (Some b) h k = limited_many n (combined_form op a b) (combined_long op a.coefficients b.coefficients n (h a refl) (k b refl))
combined_many op n (Some a) None h k = none_many n
combined_many op n None b h k = none_many n

negated_many : (n : ℕ) (a : Option AffineForm) → HasMany n a → HasMany n (negation a)
negated_many n (Some a) h = limited_many n (opposite a) (length-map a.coefficients neg_ℤ ∙ h a refl)
negated_many n None h = none_many n

multiplied_many : (n : ℕ) (a b : Option AffineForm) → HasMany n a → HasMany n b → HasMany n (product a b)
multiplied_many n (Some a) (Some b) h k = go (is_constant_form a) (is_constant_form b)
  where
    go : (t u : Bool) → HasMany n (if t then within_limits (times a.constant b) else (if u then within_limits (times b.constant a) else None))
    go true u = limited_many n (times a.constant b) (length-map b.coefficients (λ (x : ℤ). a.constant *ℤ x) ∙ k b refl)
    go false true = limited_many n (times b.constant a) (length-map a.coefficients (λ (x : ℤ). b.constant *ℤ x) ∙ h a refl)
    go false false = none_many n
multiplied_many n (Some a) None h k = none_many n
multiplied_many n None b h k = none_many n

module _ (t : Terms) where
  abbrev Many : Option AffineForm → Type 0
  Many o = HasMany (length t.unknowns) o

  none : Many None
  none = none_many (length t.unknowns)

  constant_many : (value : Option ℤ) (other : Option AffineForm) → Many other → Many (constant_or t.unknowns value other)
  constant_many (Some n) other h = limited_many (length t.unknowns) (constant_form t.unknowns n) (length-map t.unknowns (λ (x : List ℕ). pos 0))
  constant_many None other h = h

  variable_many : (x : List ℕ) → Many (variable_form t.unknowns x)
  variable_many x = go (is_among x t.unknowns)
    where
      go : (u : Bool) → Many (if u then within_limits (unknown_form t.unknowns x) else None)
      go true = limited_many (length t.unknowns) (unknown_form t.unknowns x) (length-map t.unknowns (unknown_coefficient x))
      go false = none

  -- a form has a coefficient for each unknown
  form_many : (e : ExprTree) → Many (affine_of t e)
  form_many (Int n) = limited_many (length t.unknowns) (constant_form t.unknowns (pos n)) (length-map t.unknowns (λ (x : List ℕ). pos 0))
  form_many (Var x) = constant_many (constant_value t.constants (Var x)) (variable_form t.unknowns x) (variable_many x)
  form_many (Element x subscripts) = none
  form_many (Neg a) = constant_many (constant_value t.constants (Neg a)) (negation (affine_of t a)) (negated_many (length t.unknowns) (affine_of t a) (form_many a))
  form_many (Add a b) = constant_many (constant_value t.constants (Add a b)) (combination ◌+ℤ◌ (affine_of t a) (affine_of t b)) (combined_many ◌+ℤ◌ (length t.unknowns) (affine_of t a) (affine_of t b) (form_many a) (form_many b))
  form_many (Sub a b) = constant_many (constant_value t.constants (Sub a b)) (combination ◌-ℤ◌ (affine_of t a) (affine_of t b)) (combined_many ◌-ℤ◌ (length t.unknowns) (affine_of t a) (affine_of t b) (form_many a) (form_many b))
  form_many (Mul a b) = constant_many (constant_value t.constants (Mul a b)) (product (affine_of t a) (affine_of t b)) (multiplied_many (length t.unknowns) (affine_of t a) (affine_of t b) (form_many a) (form_many b))
  form_many (Div a b) = constant_many (constant_value t.constants (Div a b)) None none
  form_many (Pow a b) = constant_many (constant_value t.constants (Pow a b)) None none
  form_many (Call f arguments) = constant_many (constant_value t.constants (Call f arguments)) None none

-- both subscripts have a coefficient for each loop round their side
pair_fits : (n : Depths) (a b : Option AffineForm) → ((f : AffineForm) → a ≡ Some f → n.common + n.source ≤ length f.coefficients) → ((f : AffineForm) → b ≡ Some f → n.common + n.sink ≤ length f.coefficients)
    → FitsLoops n.common n.source n.sink (subscript_pair n a b)
pair_fits n a b h k = by a b h k
  where
    zeros : FitsLoops n.common n.source n.sink (unusable n)
    zeros = record {
      source_common = length-replicate n.common (pos 0);
      sink_common = length-replicate n.common (pos 0);
      source_inner = length-replicate n.source (pos 0);
      sink_inner = length-replicate n.sink (pos 0);
    }

    further : (c : ℕ) (m : ℕ) (xs : List ℤ) → c + m ≤ length xs → length (take m (drop c xs)) ≡ m
    further c m xs l = length-take-le m (drop c xs) (let d = length-drop c xs in omega (arith, d, l))

    both : (f g : AffineForm) → n.common + n.source ≤ length f.coefficients → n.common + n.sink ≤ length g.coefficients → (t : Bool) → FitsLoops n.common n.source n.sink (if t then usable_pair n f g else unusable n)
    both f g p q false = zeros
    both f g p q true = record {
      source_common = length-take-le n.common f.coefficients (omega (arith, p));
      sink_common = length-take-le n.common g.coefficients (omega (arith, q));
      source_inner = further n.common n.source f.coefficients p;
      sink_inner = further n.common n.sink g.coefficients q;
    }

    by : (a b : Option AffineForm) → ((f : AffineForm) → a ≡ Some f → n.common + n.source ≤ length f.coefficients) → ((f : AffineForm) → b ≡ Some f → n.common + n.sink ≤ length f.coefficients) → FitsLoops n.common n.source n.sink (subscript_pair n a b)
    by None b h k = zeros
    by (Some f) None h k = zeros
    by (Some f) (Some g) h k = both f g (h f refl) (k g refl) (pointwise int_eq (other_coefficients n.common n.source f) (other_coefficients n.common n.sink g))

-- no more loops are common than either side has
pub common_within : (ls ms : List Loop) → (length (common_nest ls ms) ≤ length ls) × (length (common_nest ls ms) ≤ length ms)
common_within [] ms = (omega arith, omega arith)
common_within (l ∷ ls) [] = (omega arith, omega arith)
common_within (l ∷ ls) (m ∷ ms) = let h = common_within ls ms in go (l.number == m.number) h.0 h.1
  where
    go : (b : Bool) → length (common_nest ls ms) ≤ length ls → length (common_nest ls ms) ≤ length ms → (length (if b then l ∷ common_nest ls ms else []) ≤ length (l ∷ ls)) × (length (if b then l ∷ common_nest ls ms else []) ≤ length (m ∷ ms))
    go true h k = (omega (arith, h), omega (arith, k))
    go false h k = (omega arith, omega arith)

ranges_long : (s : Setting) (around : Around) (ls : List Loop) → length (ranges_inside s around (heads_of ls)) ≡ length ls
ranges_long s around [] = refl
ranges_long s around (l ∷ ls) = ap suc (ranges_long s (inside around l.head (loop_range s around l.head)) ls)

module _ (s : Setting) (source sink : Site) where
  abbrev n : Depths
  n = depths_of source sink

  covered : (side : Site) (k : ℕ) (others : List (List ℕ)) (e : ExprTree) → k ≤ length side.nest → (f : AffineForm) → affine_of (terms_of s side.nest others) e ≡ Some f → k + (length side.nest - k) ≤ length f.coefficients
  covered side k others e h f is =
      let many : length f.coefficients ≡ length (indices_of side.nest ++ others) = form_many (terms_of s side.nest others) e f is in
      let parts = length-append (indices_of side.nest) others in
      let loops : length (indices_of side.nest) ≡ length side.nest = length-map side.nest (λ l. l.head.variable) in
      omega (arith, h, many, parts, loops)

  positions_fit : (es gs : List ExprTree) → AllByRecursion (FitsLoops n.common n.source n.sink) (positions_of s source sink es gs)
  positions_fit [] gs = tt
  positions_fit (e ∷ es) [] = tt
  positions_fit (e ∷ es) (g ∷ gs) =
      let others = other_variables s source sink e g in
      let within = common_within source.nest sink.nest in (
        pair_fits n (affine_of (terms_of s source.nest others) e) (affine_of (terms_of s sink.nest others) g) (covered source n.common others e within.0) (covered sink n.common others g within.1),
        positions_fit es gs,
      )

  abbrev v : View
  v = view_at s source sink

  -- a view has a range for each common loop, and for each further one of either side
  pub loops_long : length v.loops ≡ n.common
  loops_long =
      let within = (common_within source.nest sink.nest).0 in
      let long = ranges_long s [] source.nest in
      length-take-le n.common (nest_ranges s (heads_of source.nest)) (omega (arith, within, long))

  source_long : length v.source_inner ≡ n.source
  source_long = length-drop n.common (nest_ranges s (heads_of source.nest)) ∙ ap (λ (m : ℕ). m - n.common) (ranges_long s [] source.nest)

  sink_long : length v.sink_inner ≡ n.sink
  sink_long = length-drop n.common (nest_ranges s (heads_of sink.nest)) ∙ ap (λ (m : ℕ). m - n.common) (ranges_long s [] sink.nest)

  pub view_fits : AllByRecursion (FitsLoops (length v.loops) (length v.source_inner) (length v.sink_inner)) v.positions
  view_fits =
      subst (λ (a : ℕ). AllByRecursion (FitsLoops a (length v.source_inner) (length v.sink_inner)) v.positions) (sym loops_long)
      (subst (λ (a : ℕ). AllByRecursion (FitsLoops n.common a (length v.sink_inner)) v.positions) (sym source_long)
      (subst (λ (a : ℕ). AllByRecursion (FitsLoops n.common n.source a) v.positions) (sym sink_long)
      (positions_fit source.subscripts sink.subscripts)))

-- The view of a pair of references is the same in settings that agree on the names in the bounds of the DO loops round them and in their subscripts.
use Rattle.std.proofs.Common.{◌≡◌, ℕ, suc, ◌-◌, List, [], ◌∷◌, ◌++◌, map, filter, cond, length, take, drop, Bool, false, not, ◌&&◌, ◌||◌, None, refl, sym, ap, ◌∙◌}
use Rattle.std.specs.List.{list_any}
use Rattle.std.specs.Map.{lookup}
use Rattle.std.proofs.lemmas.List.Folds.{list_any-append}
use Rattle.ped_base.specs.Lists.{is_same_text, is_among}
use Rattle.ped_tree.specs.Tree.{ExprTree, ExprTrees, Int, Var, Element, Neg, Add, Sub, Mul, Div, Pow, Call, no_exprs, more_exprs, Head}
use Rattle.ped_tree.specs.Constants.ConstantExpressions.{constant_value}
use Rattle.ped_tree.specs.NamesIn.{expr_names, exprs_names}
use Rattle.ped_tree.specs.Nests.{Loop, indices_of, common_nest}
use Rattle.ped_rules.specs.ped_flow.proofs.Truths.{or_none}
use Rattle.ped_rules.specs.ped_views.specs.Views.{Range}
use Rattle.ped_rules.specs.ped_affine.specs.IntervalArithmetic.{interval_sum, interval_difference, interval_negation, interval_product}
use Rattle.ped_rules.specs.ped_affine.specs.Ranges.{Setting, Around, constant_or, of_one, of_two, variable_by, onto, call_interval, interval_of, intervals_of, near_or_all, step_by, is_steady, are_steady, range_between, loop_range, inside, ranges_inside, nest_ranges}
use Rattle.ped_rules.specs.ped_affine.specs.AffineForms.{affine_of, form_variables}
use Rattle.ped_rules.specs.ped_affine.specs.PairViews.{Site, depths_of, is_other, other_variables, subscript_pair, position_of, positions_of, heads_of, view_at}

-- settings with the same constants and variables of DO loops, in which the same names are assigned, but for some
pub record AgreeBut (bad : List ℕ → Bool) (s u : Setting) : Type 0 where
  pub constants : u.constants ≡ s.constants
  pub loops : (x : List ℕ) → is_among x u.loop_variables ≡ is_among x s.loop_variables
  pub assigned : (x : List ℕ) → bad x ≡ false → is_among x u.assigned ≡ is_among x s.assigned

-- none of these names stands in the expression
abbrev pub is_clean : (List ℕ → Bool) → ExprTree → Bool
is_clean bad e = not (list_any bad (expr_names e))

-- none of these names stands in it
abbrev pub IsClean : (List ℕ → Bool) → ExprTree → Type 0
IsClean bad e = list_any bad (expr_names e) ≡ false

-- nor in one of these
abbrev pub AreClean : (List ℕ → Bool) → List ExprTree → Type 0
AreClean bad [] = Unit {0}
AreClean bad (e ∷ es) = IsClean bad e × AreClean bad es

-- nor in the initial values of these DO loops
abbrev pub HeadsClean : (List ℕ → Bool) → List Head → Type 0
HeadsClean bad [] = Unit {0}
HeadsClean bad (h ∷ hs) = IsClean bad h.first × HeadsClean bad hs

-- two pairs of places: the same DO loops but for their numbers, as many of them common, and the same subscripts
pub record AreAlike (a b c d : Site) : Type 0 where
  pub source : heads_of c.nest ≡ heads_of a.nest
  pub sink : heads_of d.nest ≡ heads_of b.nest
  pub common : length (common_nest c.nest d.nest) ≡ length (common_nest a.nest b.nest)
  pub source_subscripts : c.subscripts ≡ a.subscripts
  pub sink_subscripts : d.subscripts ≡ b.subscripts

-- the variables of DO loops are told by their heads, and so is how many there are
variables_by_heads : (nest : List Loop) → indices_of nest ≡ map (λ (h : Head). h.variable) (heads_of nest)
variables_by_heads [] = refl
variables_by_heads (l ∷ ls) = ap (λ (xs : List (List ℕ)). l.head.variable ∷ xs) (variables_by_heads ls)

pub same_indices : (a b : List Loop) → heads_of a ≡ heads_of b → indices_of a ≡ indices_of b
same_indices a b e = variables_by_heads a ∙ ap (map (λ (h : Head). h.variable)) e ∙ sym (variables_by_heads b)

length_by_heads : (nest : List Loop) → length nest ≡ length (heads_of nest)
length_by_heads [] = refl
length_by_heads (l ∷ ls) = ap suc (length_by_heads ls)

pub same_length : (a b : List Loop) → heads_of a ≡ heads_of b → length a ≡ length b
same_length a b e = length_by_heads a ∙ ap length e ∙ sym (length_by_heads b)

module _ (bad : List ℕ → Bool) where
  clean_parts : (xs ys : List (List ℕ)) → list_any bad (xs ++ ys) ≡ false → (list_any bad xs ≡ false) × (list_any bad ys ≡ false)
  clean_parts xs ys h = or_none (list_any bad xs) (list_any bad ys) (sym (list_any-append bad xs ys) ∙ h)

  both_clean : (xs ys : List (List ℕ)) → list_any bad xs ≡ false → list_any bad ys ≡ false → list_any bad (xs ++ ys) ≡ false
  both_clean xs ys h k = list_any-append bad xs ys ∙ (λ i. h i || k i)

  -- the variables of a form are among the names of the expression
  form_clean : (e : ExprTree) → IsClean bad e → list_any bad (form_variables e) ≡ false
  form_clean (Int n) h = refl
  form_clean (Var x) h = h
  form_clean (Element x es) h = refl
  form_clean (Neg a) h = form_clean a h
  form_clean (Add a b) h = let p = clean_parts (expr_names a) (expr_names b) h in both_clean (form_variables a) (form_variables b) (form_clean a p.0) (form_clean b p.1)
  form_clean (Sub a b) h = let p = clean_parts (expr_names a) (expr_names b) h in both_clean (form_variables a) (form_variables b) (form_clean a p.0) (form_clean b p.1)
  form_clean (Mul a b) h = let p = clean_parts (expr_names a) (expr_names b) h in both_clean (form_variables a) (form_variables b) (form_clean a p.0) (form_clean b p.1)
  form_clean (Div a b) h = refl
  form_clean (Pow a b) h = refl
  form_clean (Call f es) h = refl

  -- tests that agree on names but for these keep the same of names without these
  filter_same : (f g : List ℕ → Bool) → ((x : List ℕ) → bad x ≡ false → f x ≡ g x) → (xs : List (List ℕ)) → list_any bad xs ≡ false → filter f xs ≡ filter g xs
  filter_same f g same [] h = refl
  filter_same f g same (x ∷ xs) h =
      let p = or_none (bad x) (list_any bad xs) h in
      λ i. cond (same x p.0 i) (x ∷ filter_same f g same xs p.1 i) (filter_same f g same xs p.1 i)

  module _ (s u : Setting) (agree : AgreeBut bad s u) where
    -- the intervals of bounds
    mutual
      pub same_interval : (around : Around) (e : ExprTree) → interval_of u around e ≡ interval_of s around e
      same_interval around (Int n) = refl
      same_interval around (Var x) = λ i. constant_or (constant_value (agree.constants i) (Var x)) (variable_by (lookup (is_same_text x) around) (agree.loops x i))
      same_interval around (Element x es) = refl
      same_interval around (Neg a) = λ i. constant_or (constant_value (agree.constants i) (Neg a)) (of_one interval_negation (same_interval around a i))
      same_interval around (Add a b) = λ i. constant_or (constant_value (agree.constants i) (Add a b)) (of_two interval_sum (same_interval around a i) (same_interval around b i))
      same_interval around (Sub a b) = λ i. constant_or (constant_value (agree.constants i) (Sub a b)) (of_two interval_difference (same_interval around a i) (same_interval around b i))
      same_interval around (Mul a b) = λ i. constant_or (constant_value (agree.constants i) (Mul a b)) (of_two interval_product (same_interval around a i) (same_interval around b i))
      same_interval around (Div a b) = λ i. constant_or (constant_value (agree.constants i) (Div a b)) None
      same_interval around (Pow a b) = λ i. constant_or (constant_value (agree.constants i) (Pow a b)) None
      same_interval around (Call f es) = λ i. constant_or (constant_value (agree.constants i) (Call f es)) (call_interval f (same_intervals around es i))

      same_intervals : (around : Around) (es : ExprTrees) → intervals_of u around es ≡ intervals_of s around es
      same_intervals around no_exprs = refl
      same_intervals around (more_exprs e rest) = λ i. onto (same_interval around e i) (same_intervals around rest i)

    -- whether an initial value is the same for all entries
    mutual
      same_steady : (e : ExprTree) → IsClean bad e → is_steady u e ≡ is_steady s e
      same_steady (Int n) h = refl
      same_steady (Var x) h = ap not (agree.assigned x (or_none (bad x) false h).0)
      same_steady (Element x es) h = refl
      same_steady (Neg a) h = same_steady a h
      same_steady (Add a b) h = let p = clean_parts (expr_names a) (expr_names b) h in λ i. same_steady a p.0 i && same_steady b p.1 i
      same_steady (Sub a b) h = let p = clean_parts (expr_names a) (expr_names b) h in λ i. same_steady a p.0 i && same_steady b p.1 i
      same_steady (Mul a b) h = let p = clean_parts (expr_names a) (expr_names b) h in λ i. same_steady a p.0 i && same_steady b p.1 i
      same_steady (Div a b) h = let p = clean_parts (expr_names a) (expr_names b) h in λ i. same_steady a p.0 i && same_steady b p.1 i
      same_steady (Pow a b) h = let p = clean_parts (expr_names a) (expr_names b) h in λ i. same_steady a p.0 i && same_steady b p.1 i
      same_steady (Call f es) h = all_steady es h

      all_steady : (es : ExprTrees) → list_any bad (exprs_names es) ≡ false → are_steady u es ≡ are_steady s es
      all_steady no_exprs h = refl
      all_steady (more_exprs e rest) h = let p = clean_parts (expr_names e) (exprs_names rest) h in λ i. same_steady e p.0 i && all_steady rest p.1 i

    -- the ranges of DO loops
    same_range : (around : Around) (h : Head) → IsClean bad h.first → loop_range u around h ≡ loop_range s around h
    same_range around h clean =
        let first = same_interval around h.first in
        let last = same_interval around h.last in
        let steady = same_steady h.first clean in
        λ i. range_between (near_or_all (first i)) (near_or_all (last i)) (step_by (constant_value (agree.constants i) h.step)) (steady i)

    pub same_ranges : (around : Around) (heads : List Head) → HeadsClean bad heads → ranges_inside u around heads ≡ ranges_inside s around heads
    same_ranges around [] clean = refl
    same_ranges around (h ∷ hs) clean =
        let r = same_range around h clean.0 in
        (λ i. r i ∷ ranges_inside u (inside around h (r i)) hs)
        ∙ ap (λ (rs : List Range). loop_range s around h ∷ rs) (same_ranges (inside around h (loop_range s around h)) hs clean.1)

    module _ (a b c d : Site) (alike : AreAlike a b c d) where
      of_source : indices_of c.nest ≡ indices_of a.nest
      of_source = same_indices c.nest a.nest alike.source

      of_sink : indices_of d.nest ≡ indices_of b.nest
      of_sink = same_indices d.nest b.nest alike.sink

      same_depths : depths_of c d ≡ depths_of a b
      same_depths =
          let n = alike.common in
          let x = same_length c.nest a.nest alike.source in
          let y = same_length d.nest b.nest alike.sink in
          λ i. record { common = n i; source = x i - n i; sink = y i - n i }

      same_other : (x : List ℕ) → bad x ≡ false → is_other u c d x ≡ is_other s a b x
      same_other x h = λ i. not (is_among x (of_source i)) && not (is_among x (of_sink i)) && not (agree.assigned x h i)

      same_others : (e g : ExprTree) → IsClean bad e → IsClean bad g → other_variables u c d e g ≡ other_variables s a b e g
      same_others e g h k = filter_same (is_other u c d) (is_other s a b) same_other (form_variables e ++ form_variables g) (both_clean (form_variables e) (form_variables g) (form_clean e h) (form_clean g k))

      same_position : (e g : ExprTree) → IsClean bad e → IsClean bad g → position_of u c d e g ≡ position_of s a b e g
      same_position e g h k =
          let others = same_others e g h k in
          λ i. subscript_pair (same_depths i) (affine_of (record { constants = agree.constants i; unknowns = of_source i ++ others i }) e) (affine_of (record { constants = agree.constants i; unknowns = of_sink i ++ others i }) g)

      same_positions : (es gs : List ExprTree) → AreClean bad es → AreClean bad gs → positions_of u c d es gs ≡ positions_of s a b es gs
      same_positions [] gs h k = refl
      same_positions (e ∷ es) [] h k = refl
      same_positions (e ∷ es) (g ∷ gs) h k =
          let first = same_position e g h.0 k.0 in
          let rest = same_positions es gs h.1 k.1 in
          λ i. first i ∷ rest i

      -- so views are the same
      pub same_view : HeadsClean bad (heads_of a.nest) → HeadsClean bad (heads_of b.nest) → AreClean bad a.subscripts → AreClean bad b.subscripts → view_at u c d ≡ view_at s a b
      same_view heads_a heads_b subscripts_a subscripts_b =
          let n = alike.common in
          let x : nest_ranges u (heads_of c.nest) ≡ nest_ranges s (heads_of a.nest) = ap (nest_ranges u) alike.source ∙ same_ranges [] (heads_of a.nest) heads_a in
          let y : nest_ranges u (heads_of d.nest) ≡ nest_ranges s (heads_of b.nest) = ap (nest_ranges u) alike.sink ∙ same_ranges [] (heads_of b.nest) heads_b in
          let z : positions_of u c d c.subscripts d.subscripts ≡ positions_of s a b a.subscripts b.subscripts =
          (λ i. positions_of u c d (alike.source_subscripts i) (alike.sink_subscripts i)) ∙ same_positions a.subscripts b.subscripts subscripts_a subscripts_b in
          λ i. record { loops = take (n i) (x i); source_inner = drop (n i) (x i); sink_inner = drop (n i) (y i); positions = z i }

-- A plain bound that doesn't name the variable of the loop round it is plain one loop further out, and has the same interval there.
use Rattle.std.proofs.Common.{◌≡◌, ℕ, ℤ, List, [], ◌∷◌, ◌++◌, Bool, true, false, cond, ◌||◌, inl, inr, Option, Some, None, IsTrue, refl, sym, ap, subst, ◌∙◌, if◌then◌else◌}
use Rattle.std.specs.Map.{lookup}
use Rattle.std.specs.Str.Lines.{lines}
use Rattle.std.proofs.lemmas.Bool.{or_parts}
use Rattle.std.proofs.lemmas.List.Folds.{list_any-append}
use Rattle.ped_bodies.specs.ped_flow.specs.ped_base.specs.Lists.{is_same_text, is_among}
use Rattle.ped_bodies.specs.ped_flow.specs.ped_base.proofs.NameEquality.{same_itself, same_is}
use Rattle.ped_bodies.specs.ped_flow.proofs.Truths.{untrue}
use Rattle.ped_bodies.specs.ped_views.specs.declared.intervals.Interval.{Interval}
use Rattle.ped_bodies.specs.ped_symbols.specs.NameRefusals.{IsValid}
use Rattle.ped_bodies.specs.ped_affine.specs.IntervalArithmetic.{interval_sum, interval_difference, interval_negation, interval_product}
use Rattle.ped_bodies.specs.ped_affine.specs.Ranges.{Setting, Around, constant_or, of_one, of_two, variable_by, onto, call_interval, interval_of, intervals_of, near_or_all, bound_interval, loop_range, between_ends, inside}
use Rattle.ped_bodies.specs.ped_flow.specs.ped_tree.specs.Tree.{ExprTree, ExprTrees, Int, Var, Element, Neg, Add, Sub, Mul, Div, Pow, Call, no_exprs, more_exprs, ProgramTree}
use Rattle.ped_bodies.specs.ped_flow.specs.ped_tree.specs.NamesIn.{expr_names, exprs_names, all_loop_variables}
use Rattle.ped_bodies.specs.ped_flow.specs.ped_tree.specs.Nests.{Loop, indices_of}
use Rattle.ped_bodies.specs.ped_flow.specs.ped_tree.specs.Numbering.{statement_with}
use Rattle.ped_bodies.specs.ped_flow.specs.ped_tree.specs.Constants.ConstantExpressions.{constant_value}
use Rattle.ped_bodies.specs.ped_flow.specs.ped_tree.specs.Grammar.Fits.{expr_fits}
use Rattle.ped_bodies.specs.ped_flow.specs.PlainBounds.{Values, nest_round, setting_round, outermost_or, assigned_by, around_with, IsFixed, IsPlainlyBuilt, ArePlainlyBuilt, IsPlain}
use Rattle.ped_bodies.specs.ped_flow.specs.Questions.{LoopOf}
use Rattle.ped_bodies.specs.ped_store.specs.Stores.{store_at_start}
use Rattle.ped_bodies.specs.ped_store.specs.Acts.{Act}
use Rattle.ped_bodies.specs.ped_eval.specs.Scopes.{Frame, Scope, index_value}
use Rattle.ped_bodies.specs.ped_eval.specs.Outcomes.{setting_of}
use Rattle.ped_bodies.specs.ped_laws.specs.Acts.Fitting.{store_after}
use Rattle.ped_bodies.specs.ped_laws.specs.Covering.Nested.{loop}
use Rattle.ped_bodies.specs.ped_laws.specs.FlowRuns.Entries.{IsEntry}
use Rattle.ped_bodies.specs.ped_laws.specs.Plain.PlainValues.{around_loop}
use Rattle.ped_bodies.specs.ped_laws.specs.Plain.Executions.{IsInside, IsPlaceWith, LieInRanges, HasValueDuring}
use Rattle.ped_bodies.specs.ped_laws.proofs.PlainLaws.Standing.{value_during}
use Rattle.ped_bodies.specs.ped_laws.proofs.PlainLaws.ValidPrograms.{no_stop_in_loops, have_values}
use Rattle.ped_loop_runs.specs.OneOut.{IsNextIn}
use Rattle.ped_loop_runs.proofs.LoopLaws.NextIn.{assigned_out}

-- a name that isn't among two lists is in neither
unnamed_parts : (x : List ℕ) (xs ys : List (List ℕ)) → is_among x (xs ++ ys) ≡ false → (is_among x xs ≡ false) × (is_among x ys ≡ false)
unnamed_parts x xs ys h = or_parts (is_among x xs) (is_among x ys) (sym (list_any-append (is_same_text x) xs ys) ∙ h)

-- another name, told either way
other_name : (x y : List ℕ) → is_same_text x y ≡ false → is_same_text y x ≡ false
other_name x y h = go (is_same_text y x) refl
  where
    go : (b : Bool) → is_same_text y x ≡ b → is_same_text y x ≡ false
    go true e = untrue (sym h ∙ (ap (is_same_text x) (same_is y x e) ∙ same_itself x))
    go false e = e

lookup_other : (around : Around) (v x : List ℕ) (r : Interval) → is_same_text x v ≡ false → lookup (is_same_text x) (around ++ (v, r) ∷ []) ≡ lookup (is_same_text x) around
lookup_other [] v x r h = ap (λ (b : Bool). cond b (Some r) None) h
lookup_other (p ∷ around) v x r h = ap (λ (o : Option Interval). cond (is_same_text x p.0) (Some p.1) o) (lookup_other around v x r h)

-- intervals of expressions that don't name the variable of the innermost loop
module _ (s : Setting) (around : Around) (v : List ℕ) (r : Interval) where
  abbrev more : Around
  more = around ++ (v, r) ∷ []

  mutual
    interval_unnamed : (e : ExprTree) → is_among v (expr_names e) ≡ false → interval_of s more e ≡ interval_of s around e
    interval_unnamed (Int n) h = refl
    interval_unnamed (Var x) h =
        let other = other_name v x (or_parts (is_same_text v x) (is_among v []) h).0 in
        ap (λ (o : Option Interval). constant_or (constant_value s.constants (Var x)) (variable_by o (is_among x s.loop_variables))) (lookup_other around v x r other)
    interval_unnamed (Element x subscripts) h = refl
    interval_unnamed (Neg a) h = ap (λ (o : Option Interval). constant_or (constant_value s.constants (Neg a)) (of_one interval_negation o)) (interval_unnamed a h)
    interval_unnamed (Add a b) h =
        let p = unnamed_parts v (expr_names a) (expr_names b) h in
        λ i. constant_or (constant_value s.constants (Add a b)) (of_two interval_sum (interval_unnamed a p.0 i) (interval_unnamed b p.1 i))
    interval_unnamed (Sub a b) h =
        let p = unnamed_parts v (expr_names a) (expr_names b) h in
        λ i. constant_or (constant_value s.constants (Sub a b)) (of_two interval_difference (interval_unnamed a p.0 i) (interval_unnamed b p.1 i))
    interval_unnamed (Mul a b) h =
        let p = unnamed_parts v (expr_names a) (expr_names b) h in
        λ i. constant_or (constant_value s.constants (Mul a b)) (of_two interval_product (interval_unnamed a p.0 i) (interval_unnamed b p.1 i))
    interval_unnamed (Div a b) h = refl
    interval_unnamed (Pow a b) h = refl
    interval_unnamed (Call f arguments) h = ap (λ (o : Option (List Interval)). constant_or (constant_value s.constants (Call f arguments)) (call_interval f o)) (intervals_unnamed arguments h)

    intervals_unnamed : (es : ExprTrees) → is_among v (exprs_names es) ≡ false → intervals_of s more es ≡ intervals_of s around es
    intervals_unnamed no_exprs h = refl
    intervals_unnamed (more_exprs e rest) h =
        let p = unnamed_parts v (expr_names e) (exprs_names rest) h in
        λ i. onto (interval_unnamed e p.0 i) (intervals_unnamed rest p.1 i)

around_last : (s : Setting) (around : Around) (front : List Loop) (k : Loop) → around_with s around (front ++ k ∷ []) ≡ inside (around_with s around front) k.head (loop_range s (around_with s around front) k.head)
around_last s around [] k = refl
around_last s around (m ∷ front) k = around_last s (inside around m.head (loop_range s around m.head)) front k

indices_last : (x : List ℕ) (front : List Loop) (k : Loop) → is_same_text x k.head.variable ≡ false → is_among x (indices_of (front ++ k ∷ [])) ≡ is_among x (indices_of front)
indices_last x [] k h = ap (λ (b : Bool). b || is_among x []) h
indices_last x (m ∷ front) k h = ap (λ (b : Bool). is_same_text x m.head.variable || b) (indices_last x front k h)

outermost_last : (l m : ℕ) (front : List Loop) (k : Loop) → k.number ≡ l → outermost_or m (front ++ k ∷ []) ≡ outermost_or l front
outermost_last l m [] k e = e
outermost_last l m (o ∷ front) k e = refl

module _ (constants : Values) (t : ProgramTree) (l : ℕ) (outer : LoopOf t l) (m : ℕ) (next : IsNextIn t l outer m) where
  abbrev v : List ℕ
  v = outer.head.variable

  same_outermost : outermost_or m (nest_round t m) ≡ outermost_or l (nest_round t l)
  same_outermost = ap (outermost_or m) next.nest ∙ outermost_last l m (nest_round t l) (loop l outer.head) refl

  same_setting : setting_round constants t m ≡ setting_round constants t l
  same_setting i = record { constants = constants; loop_variables = all_loop_variables t.body; assigned = assigned_by (statement_with (same_outermost i) t) }

  fixed_out : (x : List ℕ) → IsFixed constants t m x → IsFixed constants t l x
  fixed_out x h = record { before = assigned_out t l outer m next x h.before; kept = subst (λ (s : Setting). is_among x s.assigned ≡ false) same_setting h.kept; other = h.other }

  index_out : (x : List ℕ) → is_same_text v x ≡ false → IsTrue (is_among x (indices_of (nest_round t m))) → IsTrue (is_among x (indices_of (nest_round t l)))
  index_out x other h = sym (ap (λ (ls : List Loop). is_among x (indices_of ls)) next.nest ∙ indices_last x (nest_round t l) (loop l outer.head) (other_name v x other)) ∙ h

  mutual
    built_out : (e : ExprTree) → is_among v (expr_names e) ≡ false → IsPlainlyBuilt constants t m e → IsPlainlyBuilt constants t l e
    built_out (Int n) h built = tt
    built_out (Var x) h built = elim built [
      | inl c ↦ inl c
      | inr k ↦ inr (elim k [ inl among ↦ inl (index_out x (or_parts (is_same_text v x) (is_among v []) h).0 among) | inr fixed ↦ inr (fixed_out x fixed) ])
    ]
    built_out (Element x subscripts) h built = built
    built_out (Neg a) h built = elim built [ inl c ↦ inl c | inr k ↦ inr (built_out a h k) ]
    built_out (Add a b) h built = let p = unnamed_parts v (expr_names a) (expr_names b) h in elim built [ inl c ↦ inl c | inr k ↦ inr (built_out a p.0 k.0, built_out b p.1 k.1) ]
    built_out (Sub a b) h built = let p = unnamed_parts v (expr_names a) (expr_names b) h in elim built [ inl c ↦ inl c | inr k ↦ inr (built_out a p.0 k.0, built_out b p.1 k.1) ]
    built_out (Mul a b) h built =
        let p = unnamed_parts v (expr_names a) (expr_names b) h in
        elim built [ inl c ↦ inl c | inr k ↦ inr (elim k [ inl q ↦ inl (q.0, built_out b p.1 q.1) | inr q ↦ inr (built_out a p.0 q.0, q.1) ]) ]
    built_out (Div a b) h built = built
    built_out (Pow a b) h built = built
    built_out (Call f arguments) h built = elim built [ inl c ↦ inl c | inr k ↦ inr (k.0, all_built_out arguments h k.1) ]

    all_built_out : (es : ExprTrees) → is_among v (exprs_names es) ≡ false → ArePlainlyBuilt constants t m es → ArePlainlyBuilt constants t l es
    all_built_out no_exprs h built = tt
    all_built_out (more_exprs e rest) h built = let p = unnamed_parts v (expr_names e) (exprs_names rest) h in (built_out e p.0 built.0, all_built_out rest p.1 built.1)

  -- the loops round the inner DO, and its intervals
  around_out : around_loop constants t m ≡ inside (around_loop constants t l) outer.head (loop_range (setting_round constants t l) (around_loop constants t l) outer.head)
  around_out = (λ i. around_with (same_setting i) [] (next.nest i)) ∙ around_last (setting_round constants t l) [] (nest_round t l) (loop l outer.head)

  interval_out : (e : ExprTree) → is_among v (expr_names e) ≡ false → interval_of (setting_round constants t m) (around_loop constants t m) e ≡ interval_of (setting_round constants t l) (around_loop constants t l) e
  interval_out e h =
      (λ i. interval_of (same_setting i) (around_out i) e)
      ∙ interval_unnamed (setting_round constants t l) (around_loop constants t l) v (between_ends (loop_range (setting_round constants t l) (around_loop constants t l) outer.head)) e h

  pub same_interval : (e : ExprTree) → is_among v (expr_names e) ≡ false → bound_interval (setting_round constants t l) (around_loop constants t l) e ≡ bound_interval (setting_round constants t m) (around_loop constants t m) e
  same_interval e h = ap near_or_all (sym (interval_out e h))

  pub plain_out : (e : ExprTree) → IsPlain constants t m e → is_among v (expr_names e) ≡ false → IsPlain constants t l e
  plain_out e plain h = record { built = built_out e h plain.built; near = λ none. plain.near (interval_out e h ∙ none) }

-- the sides of what is plain
first_near : (f : Interval → Interval → Interval) (o p : Option Interval) → (of_two f o p ≡ None → ⊥) → o ≡ None → ⊥
first_near f o p near none = near (ap (λ (z : Option Interval). of_two f z p) none)

second_near : (f : Interval → Interval → Interval) (o p : Option Interval) → (of_two f o p ≡ None → ⊥) → p ≡ None → ⊥
second_near f (Some a) p near none = near (ap (of_two f (Some a)) none)
second_near f None p near none = near refl

module _ (constants : Values) (t : ProgramTree) (l : ℕ) where
  abbrev interval : ExprTree → Option Interval
  interval e = interval_of (setting_round constants t l) (around_loop constants t l) e

  no_constant : (o : Option Interval) (c : Option ℤ) → c ≡ None → (constant_or c o ≡ None → ⊥) → o ≡ None → ⊥
  no_constant o c e near none = near (ap (λ (z : Option ℤ). constant_or z o) e ∙ none)

  pub sum_sides : (a b : ExprTree) → constant_value constants (Add a b) ≡ None → IsPlain constants t l (Add a b) → IsPlain constants t l a × IsPlain constants t l b
  sum_sides a b none plain =
      let built : IsPlainlyBuilt constants t l a × IsPlainlyBuilt constants t l b = elim plain.built [ inl c ↦ absurd (c none) | inr p ↦ p ] in
      let near = no_constant (of_two interval_sum (interval a) (interval b)) (constant_value constants (Add a b)) none plain.near in (
        record { built = built.0; near = first_near interval_sum (interval a) (interval b) near },
        record { built = built.1; near = second_near interval_sum (interval a) (interval b) near },
      )

  pub difference_sides : (a b : ExprTree) → constant_value constants (Sub a b) ≡ None → IsPlain constants t l (Sub a b) → IsPlain constants t l a × IsPlain constants t l b
  difference_sides a b none plain =
      let built : IsPlainlyBuilt constants t l a × IsPlainlyBuilt constants t l b = elim plain.built [ inl c ↦ absurd (c none) | inr p ↦ p ] in
      let near = no_constant (of_two interval_difference (interval a) (interval b)) (constant_value constants (Sub a b)) none plain.near in (
        record { built = built.0; near = first_near interval_difference (interval a) (interval b) near },
        record { built = built.1; near = second_near interval_difference (interval a) (interval b) near },
      )

  -- an iteration further in
  pub place_further_in : (told : List ℕ → ℤ) (scope : Scope) (f : Frame) → IsPlaceWith constants t l told scope → IsInside (setting_round constants t l) f → is_among f.variable (indices_of (nest_round t l)) ≡ false → IsPlaceWith constants t l told (f ∷ scope)
  place_further_in told scope f place in_it other = record {
    inside = (in_it, place.inside);
    tells = λ x among. ap (λ (b : Bool). if b then Some f.turn.value else index_value scope x) (another x among) ∙ place.tells x among;
  }
    where
      another : (x : List ℕ) → IsTrue (is_among x (indices_of (nest_round t l))) → is_same_text x f.variable ≡ false
      another x among = go (is_same_text x f.variable) refl
        where
          go : (b : Bool) → is_same_text x f.variable ≡ b → is_same_text x f.variable ≡ false
          go true e = untrue (sym other ∙ (ap (λ (y : List ℕ). is_among y (indices_of (nest_round t l))) (sym (same_is x f.variable e)) ∙ among))
          go false e = e

-- its value, in the execution of the outermost DO
pub value_out : (t : ProgramTree) (data_bytes : List ℕ) → IsValid t → (l : ℕ) (outer : LoopOf t l) (m : ℕ) → IsNextIn t l outer m → (front : List Act) → IsEntry (setting_of t) t (store_at_start (lines data_bytes)) l front → (e : ExprTree) → IsPlain (setting_of t).constants t m e → expr_fits e ≡ true → is_among outer.head.variable (expr_names e) ≡ false
    → (told : List ℕ → ℤ) → LieInRanges (setting_of t).constants t l told → HasValueDuring (setting_of t) t l told (store_after front (store_at_start (lines data_bytes))) e
value_out t data_bytes valid l outer m next front entry e plain fits unnamed told ranges =
    value_during (setting_of t) t (λ m n same. same) (no_stop_in_loops t valid) (have_values t valid) (store_at_start (lines data_bytes)) l front entry told (λ x. refl) e
    (plain_out (setting_of t).constants t l outer m next e plain unnamed) fits ranges

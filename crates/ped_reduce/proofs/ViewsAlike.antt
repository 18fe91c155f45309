-- A pair of references that comes from one in a program has the same view there: no scalar of a lowered DO stands in a subscript or in an initial value, and all else is assigned as it was.
use Rattle.std.proofs.Common.{◌≡◌, ℕ, ◌+◌, List, [], ◌∷◌, ◌++◌, map, Bool, true, false, not, ◌||◌, Option, is_some, refl, sym, ap, subst, ◌∙◌, inl, inr, arith, append_assoc}
use Rattle.std.proofs.lemmas.Bool.{both_ways}
use Rattle.ped_base.specs.Lists.{has_some, is_same_text, is_among}
use Rattle.ped_base.proofs.NameEquality.{same_is}
use Rattle.ped_tree.specs.Tree.{Head, StmtTree, StmtTrees, Do, ProgramTree}
use Rattle.ped_tree.specs.Accesses.{constant_names}
use Rattle.ped_tree.specs.Nests.{Loop, indices_of}
use Rattle.ped_tree.specs.NamesIn.{expr_names, stmts_names, loop_variables, all_loop_variables}
use Rattle.ped_tree.specs.Numbering.{statement_with}
use Rattle.ped_refs.specs.References.{Reference, statements_references, outermost_number, outermost}
use Rattle.ped_rules.specs.ped_affine.specs.PairViews.{heads_of}
use Rattle.ped_rules.specs.ped_graph.specs.Dependences.{assigned_by}
use Rattle.ped_rules.specs.ped_laws.specs.Acts.Orders.{IsIn}
use Rattle.ped_rules.specs.ped_symbols.specs.Kinds.{kind_in, table_of}
use Rattle.ped_rules.specs.ped_symbols.specs.NameRefusals.{IsValid}
use Rattle.ped_rules.specs.ped_symbols.specs.RightUses.RightUses.{is_scalar}
use Rattle.ped_rules.specs.ped_symbols.proofs.RightUseLaws.Whole.{others_unvalued}
use Rattle.ped_rules.specs.ped_flow.proofs.Truths.{untrue, not_true, or_split}
use Rattle.ped_rules.specs.ped_flow.specs.PlainBounds.{nest_round}
use Rattle.ped_rules.specs.ped_flow.specs.Questions.{LoopOf}
use Rattle.ped_rules.specs.ped_steps.specs.Replacing.{alone}
use Rattle.ped_rules.specs.ped_steps.proofs.RunLaws.ScalarNames.{scalar_named}
use Rattle.ped_reduce.specs.Lists.{without_list}
use Rattle.ped_reduce.specs.Lowering.{Partials, lowered_loop}
use Rattle.ped_reduce.specs.Reducing.{sum_at}
use Rattle.ped_reduce.proofs.Resembling.{scalars_of}
use Rattle.ped_reduce.proofs.LoopsRoundGaps.{gap_loops}
use Rattle.ped_reduce.proofs.LoweredBehind.{without_loops}
use Rattle.ped_reduce.proofs.LoweredStages.{IsResembling}
use Rattle.ped_reduce.proofs.ConstantScalars.{constant_lacks}
use Rattle.ped_reduce.proofs.ResemblingPaths.{new_loop, no_variable, bounds_valued, in_gap}
use Rattle.ped_reduce.proofs.ReferencesInGaps.{loop, from_number, to_number}
use Rattle.ped_reduce.proofs.ResemblingReferences as refs
use Rattle.ped_reduce.proofs.ResemblingReferences.{From, gap_heads, of_program, scalar_names, in_sum, without_references, stands_body, right_body, old_round, new_round}
use Rattle.ped_reduce.proofs.SummedReferences.{renumbered}
use Rattle.ped_reduce.proofs.EdgesResemble.{ViewsResemble}
use Rattle.ped_reduce.proofs.ResemblingSettings.{IsClear, views_resemble}
use Rattle.ped_reduce.proofs.CleanReferences.{HeadsLack, IsClearOf, all_unnamed, all_summed, subscripts_clean, heads_clean}
use Rattle.ped_reduce.proofs.AssignedStays.{alone_has, alone_same, no_array, whole_same}
use Rattle.ped_reduce.proofs.OuterLoops.{outer_stands, outer_same}

false_or : (b : Bool) → (b ≡ true → ⊥) → b ≡ false
false_or true h = absurd (h refl)
false_or false h = refl

first_number : (ls ms : List Loop) → has_some ls ≡ true → outermost_number (ls ++ ms) ≡ outermost_number ls
first_number [] ms some = untrue some
first_number (l ∷ ls) ms some = refl

no_loops : (ls : List Loop) → has_some ls ≡ false → ls ≡ []
no_loops [] none = refl
no_loops (l ∷ ls) none = absurd cc

some_heads : (ls : List Loop) → has_some (heads_of ls) ≡ has_some ls
some_heads [] = refl
some_heads (l ∷ ls) = refl

either_false : (a b : Bool) → (a || b) ≡ false → (a ≡ false) × (b ≡ false)
either_false true b e = absurd cc
either_false false b e = (refl, e)

was_true : (b : Bool) → not b ≡ false → b ≡ true
was_true true e = refl
was_true false e = absurd cc

module _ (t u : ProgramTree) (s k : ℕ) (loop_is : LoopOf t s) (m : IsResembling t s loop_is u k) (valid : IsValid t) (new_valid : IsValid u) where
  abbrev h : Head
  h = loop_is.head

  abbrev body : StmtTrees
  body = loop_is.body

  abbrev ps : List Partials
  ps = m.partials

  abbrev cs : List (List ℕ)
  cs = constant_names t.decls

  abbrev F : Reference → Type 0
  F r = From t u s k loop_is m valid r

  abbrev base : List Loop
  base = refs.base t u s k loop_is m valid

  abbrev f : ℕ → ℕ
  f = refs.number_of t u s k loop_is m valid

  -- names that don't stand in the program, and where the DO is the outermost the scalars too
  abbrev bad_by : Bool → List ℕ → Bool
  bad_by true y = not (is_among y (stmts_names t.body))
  bad_by false y = not (is_among y (stmts_names t.body)) || is_among y (scalars_of ps)

  -- a name that doesn't stand in the program
  unnamed_clear : (y : List ℕ) → not (is_among y (stmts_names t.body)) ≡ true → (a : Reference) (x : F a) → IsClearOf y x.source
  unnamed_clear y e a x = all_unnamed y cs [] 1 t.body tt (not_true (is_among y (stmts_names t.body)) e) x.source (of_program t u s k loop_is m valid x.source x.listed)

  -- a scalar, where no DO stands round this one
  module _ (outermost_is : nest_round t s ≡ []) (y : List ℕ) (summed : is_among y (scalars_of ps) ≡ true) where
    scalar : is_scalar (kind_in t) y ≡ true
    scalar = scalar_names t s ps h body m.summable y summed

    no_constant : is_among y cs ≡ false
    no_constant = scalar_named t y valid scalar

    base_is : base ≡ loop s h ∷ []
    base_is = ap (λ (ls : List Loop). ls ++ loop s h ∷ []) outermost_is

    -- a DO variable of the program is another
    no_loop : is_among y (all_loop_variables t.body) ≡ false
    no_loop = false_or (is_among y (all_loop_variables t.body)) (λ e. both_ways (is_among y (scalars_of ps)) (no_variable t s ps h body m.summable y e) summed)

    no_own : is_among y (loop_variables (Do h body)) ≡ false
    no_own = false_or (is_among y (loop_variables (Do h body))) (λ e. both_ways (is_among y (all_loop_variables t.body)) no_loop (ap (λ (ts : StmtTrees). is_among y (all_loop_variables ts)) m.stands ∙ in_gap h body y e m.gap))

    own_parts : (is_same_text y h.variable ≡ false) × (is_among y (all_loop_variables body) ≡ false)
    own_parts = either_false (is_same_text y h.variable) (is_among y (all_loop_variables body)) no_own

    first_lacks : is_among y (expr_names h.first) ≡ false
    first_lacks = let b = bounds_valued t s ps h body m.summable in constant_lacks (table_of t).constants y (others_unvalued t y no_constant) h.first b.0.0 b.0.1

    sums : (r : Reference) → IsIn r (statements_references cs base (s + 1) body) → is_same_text y r.access.name ≡ true → is_some (sum_at t y r.statement) ≡ true
    sums r i e =
        let name : y ≡ r.access.name = same_is y r.access.name e in
        let from = from_number cs base (s + 1) body r i in
        let to = to_number cs base (s + 1) body r i in
        ap (λ (z : List ℕ). is_some (sum_at t z r.statement)) name
        ∙ in_sum t s ps h body m.summable r (of_program t u s k loop_is m valid r i) (omega (arith, from)) (omega (arith, to)) (ap (λ (z : List ℕ). is_among z (scalars_of ps)) (sym name) ∙ summed)

    summed_clear : (a : Reference) (x : F a) → IsClearOf y x.source
    summed_clear a x =
        all_summed y cs t (kind_in t) scalar no_constant base (s + 1) (without_list body)
        (subst (λ (ls : List Loop). HeadsLack y (heads_of ls)) (sym base_is) (first_lacks, tt))
        (ap (λ (ls : List Loop). is_among y (indices_of ls)) base_is ∙ (λ i. own_parts.0 i || false))
        (ap (is_among y) (without_loops body) ∙ own_parts.1)
        (stands_body t u s k loop_is m valid) (right_body t u s k loop_is m valid)
        (λ r i. sums r (subst (IsIn r) (without_references cs base body (s + 1)) i))
        x.source (subst (IsIn x.source) (sym (without_references cs base body (s + 1))) x.listed)

  -- how many DO loops stand round the two, none or some
  same_some : has_some (gap_loops m.other 1) ≡ has_some (gap_loops m.gap 1)
  same_some = sym (some_heads (gap_loops m.other 1)) ∙ ap has_some (gap_heads t m.live m.gap 1 1 m.other m.alike) ∙ some_heads (gap_loops m.gap 1)

  -- a name of the program, which isn't one of the arrays
  module _ (y : List ℕ) (there : is_among y (stmts_names t.body) ≡ true) (a : Reference) (x : F a) where
    abbrev AssignedAlike : Type 0
    AssignedAlike = is_among y (assigned_by (statement_with (outermost a) u)) ≡ is_among y (assigned_by (statement_with (outermost x.source) t))

    -- the same is assigned in a DO round both
    inside_same : has_some (nest_round t s) ≡ true → AssignedAlike
    inside_same some =
        let old_some : has_some (gap_loops m.gap 1) ≡ true = sym (ap has_some (old_round t u s k loop_is m valid)) ∙ some in
        let new_some : has_some (gap_loops m.other 1) ≡ true = same_some ∙ old_some in
        let some_new : has_some (nest_round u k) ≡ true = ap has_some (new_round t u s k loop_is m valid) ∙ new_some in
        let of_old : outermost x.source ≡ outermost_number (gap_loops m.gap 1) =
        ap outermost_number (x.old_nest ∙ append_assoc (nest_round t s) (loop s h ∷ []) x.inner) ∙ first_number (nest_round t s) (loop s h ∷ x.inner) some ∙ ap outermost_number (old_round t u s k loop_is m valid) in
        let of_new : outermost a ≡ outermost_number (gap_loops m.other 1) =
        ap outermost_number (x.new_nest ∙ append_assoc (nest_round u k) (loop k (refs.new_head t u s k loop_is m valid) ∷ []) (map (renumbered f) x.inner))
        ∙ first_number (nest_round u k) (loop k (refs.new_head t u s k loop_is m valid) ∷ map (renumbered f) x.inner) some_new ∙ ap outermost_number (new_round t u s k loop_is m valid) in
        ap (λ (n : ℕ). is_among y (assigned_by (statement_with n u))) of_new
        ∙ ap (λ (o : Option StmtTree). is_among y (assigned_by o)) (outer_stands h u m.other (lowered_loop false ps h body) m.new new_some)
        ∙ outer_same h y t m.live there (alone (Do h body)) (lowered_loop false ps h body) (whole_same y t m.live there false s ps h body m.summable ∙ sym (alone_has y (Do h body))) m.gap 1 m.other old_some m.alike
        ∙ sym (ap (λ (o : Option StmtTree). is_among y (assigned_by o)) (outer_stands h t m.gap (alone (Do h body)) m.stands old_some))
        ∙ sym (ap (λ (n : ℕ). is_among y (assigned_by (statement_with n t))) of_old)

    -- and in the DO itself, where there is none, but for the scalars
    alone_alike : nest_round t s ≡ [] → is_among y (scalars_of ps) ≡ false → AssignedAlike
    alone_alike none unsummed =
        let old_none : gap_loops m.gap 1 ≡ [] = sym (old_round t u s k loop_is m valid) ∙ none in
        let new_none : nest_round u k ≡ [] = new_round t u s k loop_is m valid ∙ no_loops (gap_loops m.other 1) (same_some ∙ ap has_some old_none) in
        let of_old : outermost x.source ≡ s = ap outermost_number x.old_nest ∙ ap (λ (ls : List Loop). outermost_number ((ls ++ loop s h ∷ []) ++ x.inner)) none in
        let of_new : outermost a ≡ k = ap outermost_number x.new_nest ∙ ap (λ (ls : List Loop). outermost_number ((ls ++ loop k (refs.new_head t u s k loop_is m valid) ∷ []) ++ map (renumbered f) x.inner)) new_none in
        ap (λ (n : ℕ). is_among y (assigned_by (statement_with n u))) of_new
        ∙ ap (λ (o : Option StmtTree). is_among y (assigned_by o)) (new_loop t u s k loop_is m).is
        ∙ alone_same y false ps h body (no_array y t m.live there s ps h body m.summable) unsummed
        ∙ sym (ap (λ (o : Option StmtTree). is_among y (assigned_by o)) loop_is.is)
        ∙ sym (ap (λ (n : ℕ). is_among y (assigned_by (statement_with n t))) of_old)

  -- what is asked of references holds
  clear_inside : has_some (nest_round t s) ≡ true → (a : Reference) (x : F a) → IsClear t u s k loop_is m valid new_valid (bad_by true) a x
  clear_inside some a x = record {
    assigned = λ y good. inside_same y (was_true (is_among y (stmts_names t.body)) good) a x some;
    heads = heads_clean (bad_by true) (heads_of x.source.nest) (λ y e. (unnamed_clear y e a x).0);
    subscripts = subscripts_clean (bad_by true) x.source.access.subscripts (λ y e. (unnamed_clear y e a x).1);
  }

  bad_clear : nest_round t s ≡ [] → (a : Reference) (x : F a) (y : List ℕ) → bad_by false y ≡ true → IsClearOf y x.source
  bad_clear none a x y e = elim (or_split (not (is_among y (stmts_names t.body))) (is_among y (scalars_of ps)) e) [
    | inl q ↦ unnamed_clear y q a x
    | inr q ↦ summed_clear none y q a x
  ]

  clear_alone : nest_round t s ≡ [] → (a : Reference) (x : F a) → IsClear t u s k loop_is m valid new_valid (bad_by false) a x
  clear_alone none a x = record {
    assigned = λ y good. (let both = either_false (not (is_among y (stmts_names t.body))) (is_among y (scalars_of ps)) good in alone_alike y (was_true (is_among y (stmts_names t.body)) both.0) a x none both.1);
    heads = heads_clean (bad_by false) (heads_of x.source.nest) (λ y e. (bad_clear none a x y e).0);
    subscripts = subscripts_clean (bad_by false) x.source.access.subscripts (λ y e. (bad_clear none a x y e).1);
  }

  -- so the views are the same
  pub views_are : ViewsResemble t u s k loop_is m valid new_valid
  views_are = by (has_some (nest_round t s)) refl
    where
      by : (b : Bool) → has_some (nest_round t s) ≡ b → ViewsResemble t u s k loop_is m valid new_valid
      by true some = views_resemble t u s k loop_is m valid new_valid (bad_by true) (λ a x i. clear_inside some a x)
      by false none = views_resemble t u s k loop_is m valid new_valid (bad_by false) (λ a x i. clear_alone (no_loops (nest_round t s) none) a x)

-- What `interchange` answers, and the program that its code makes.
use Rattle.std.proofs.Common.{◌≡◌, ◌⊎◌, ℕ, ◌+◌, ◌≤◌, ◌<◌, ◌^◌, List, [], ◌∷◌, ◌++◌, Bool, true, false, ◌&&◌, ◌||◌, length, Option, Some, None, Ok, Err, refl, sym, ap, ◌∙◌, subst, inl, inr, arith}
use Rattle.std.specs.Prelude.{MatchOption, is_none}
use Rattle.std.proofs.lemmas.List.{length-append, length-map, map-append}
use Rattle.ped_tree.specs.Tree.{ExprTree, Head, StmtTree, StmtTrees, Do, ProgramTree}
use Rattle.ped_base.specs.Lists.{has_some}
use Rattle.ped_tree.specs.Nests.{Loop}
use Rattle.ped_tree.specs.Views.{stmt_tree, stmt_trees, head_of}
use Rattle.ped_tree.specs.declared.statements.Stmt.{Stmt}
use Rattle.ped_rules.specs.KeepMaps.{all_but}
use Rattle.ped_rules.specs.OnlyLoops.{only_loop, of_loop, either, on_loop, change_only}
use Rattle.ped_rules.specs.Rules.{HasUnplain, WhereUnplain, isnt_perfect, is_parallel, has_private, has_other_step, is_one, leaves, heads_round}
use Rattle.ped_rules.specs.Spans.{Values}
use Rattle.ped_rules.specs.ped_steps.specs.Causes.{IsFirstRule}
use Rattle.ped_rules.specs.ped_steps.specs.Replacing.{alone, program_with}
use Rattle.ped_rules.specs.ped_steps.specs.declared.causes.Refused.{Refused}
use Rattle.ped_rules.specs.ped_steps.specs.declared.causes.Refused.TheVariants as variant
use Rattle.ped_rules.specs.ped_steps.specs.declared.rules.Rule.{Rule}
use Rattle.ped_rules.specs.ped_steps.specs.declared.rules.Rule.TheVariants.{ParallelState, HasPrivate, BoundsShape, StepShape}
use Rattle.ped_rules.specs.ped_affine.specs.PairViews.{heads_of}
use Rattle.ped_rules.specs.ped_affine.specs.Ranges.{Setting}
use Rattle.ped_refs.specs.Loops.{loop_of, nest_of}
use Rattle.ped_refs.specs.declared.loops.Loop.{Loop as CodeLoop}
use Rattle.ped_rules.specs.ped_flow.specs.PlainBounds.{nest_round, IsPlain}
use Rattle.ped_rules.specs.ped_flow.specs.Questions.{IsLoop, LoopOf}
use Rattle.ped_rules.specs.ped_flow.proofs.Answering.{same_head, same_body, loop_fits}
use Rattle.ped_rules.specs.ped_symbols.specs.Kinds.{table_of}
use Rattle.ped_rules.specs.ped_symbols.specs.NameRefusals.{IsValid}
use Rattle.ped_rules.specs.ped_steps.proofs.Answering.{few_numbers}
use Rattle.ped_rules.specs.ped_steps.proofs.OnePlace.{one_program}
use Rattle.ped_rules.specs.ped_loop_runs.proofs.LoopLaws.NextIn.{first_is_next}
use Rattle.ped_rules.specs.ped_loop_runs.specs.OneOut.{IsNextIn}
use Rattle.ped_rules.proofs.NestDepths.{nest_short}
use Rattle.ped_loops.specs.CodeInterchanging.{NoneUpTo}
use Rattle.ped_rules.specs.Rules.{TellsPlain}
use Rattle.ped_loops.specs.CodeEnding.{IsByRules}
use Rattle.ped_loops.specs.Interchanging.{with_exchanged, exchanged_loops, interchanged, StandsAgainstInterchange, IsBoundOfEither, is_tied, has_no_unit, makes_far, leaves_either}
use Rattle.ped_rules.specs.Rules.{IsBoundOf}
use Rattle.ped_loops.specs.Shapes.{Shape, new_outer, new_inner, names_outer, isnt_shaped, shape_of}
use Rattle.ped_loops.proofs.Endings.{ruled}
use Rattle.ped_loops.proofs.InterchangeRules as rules
use Rattle.ped_rules.proofs.NestLaws.OnlyBodies.{pair, only_changed, only_counted}

pub refused : (s : ℕ) (t : ProgramTree) (r : Rule) (n : ℕ) (found : Refused) → found ≡ variant.Rule r n → IsFirstRule (StandsAgainstInterchange s t) r n → IsByRules (StandsAgainstInterchange s t) (interchanged t s) (all_but s (s + 1) t) (Err found)
refused s t r n found is first = ruled (StandsAgainstInterchange s t) (interchanged t s) (all_but s (s + 1) t) r n found is first

same_statement : (a b : StmtTree) → Some a ≡ Some b → a ≡ b
same_statement a b e = cc

same_loop_head : (g h : Head) (a b : StmtTrees) → alone (Do g a) ≡ alone (Do h b) → g ≡ h
same_loop_head g h a b e = cc

same_loop_body : (g h : Head) (a b : StmtTrees) → alone (Do g a) ≡ alone (Do h b) → a ≡ b
same_loop_body g h a b e = cc

same_pair_head : (g h : Head) (a b : StmtTrees) → Some (pair g a) ≡ Some (pair h b) → g ≡ h
same_pair_head g h a b e = let pairs : pair g a ≡ pair h b = cc in ap (λ (p : Head × StmtTrees). p.0) pairs

-- the new program of the code is that of the step
pub exchanged_program : (t : ProgramTree) (n : ℕ) (h : Head) (body : StmtTrees) (f : Stmt) (new : List Stmt) → IsLoop t n h body → new ≡ f ∷ [] → alone (stmt_tree f) ≡ with_exchanged h body → program_with (λ s. stmt_trees new) n t ≡ interchanged t n
exchanged_program t n h body f new is listed made =
    one_program (λ (s : StmtTree). stmt_trees new) (on_loop with_exchanged) n t (λ g e. ap stmt_trees listed ∙ made ∙ ap (on_loop with_exchanged) (same_statement (Do h body) g (sym is ∙ e)))

-- tests of the two loops, where the body of the outer one is the inner one
module _ (h : Head) (body : StmtTrees) where
  pub none_perfect : only_loop body ≡ None → isnt_perfect h body ≡ true
  none_perfect none = ap (λ (o : Option (Head × StmtTrees)). is_none o) none

  module _ (g : Head) (inside : StmtTrees) (only : only_loop body ≡ Some (pair g inside)) where
    pub one_perfect : isnt_perfect h body ≡ false
    one_perfect = ap (λ (o : Option (Head × StmtTrees)). is_none o) only

    pub of_both : (test : Head → StmtTrees → Bool) → either test h body ≡ (test h body || test g inside)
    of_both test = ap (λ (o : Option (Head × StmtTrees)). test h body || of_loop test o) only

    pub tied_is : is_tied h body ≡ isnt_shaped h g
    tied_is = ap (of_loop (λ k z. isnt_shaped h k)) only

    pub units_are : (constants : Values) → has_no_unit constants h body ≡ (names_outer h g && (has_other_step constants is_one h body || has_other_step constants is_one g inside))
    units_are constants = ap (of_loop (λ k z. names_outer h k && (has_other_step constants is_one h body || has_other_step constants is_one k z))) only

    pub far_is : (setting : Setting) (heads : List Head) → makes_far setting heads h body ≡ leaves_either setting heads (new_outer h g) (new_inner h g)
    far_is setting heads = ap (of_loop (λ k z. leaves_either setting heads (new_outer h k) (new_inner h k))) only

    pub exchanged_is : with_exchanged h body ≡ alone (Do (new_outer h g) (change_only (λ k z. Do (new_inner h g) z) body))
    exchanged_is = ap (exchanged_loops h body) only

    pub only_new : only_loop (change_only (λ k z. Do (new_inner h g) z) body) ≡ Some (pair (new_inner h g) inside)
    only_new = only_changed g inside (new_inner h g) body only

    -- so the nest of the inner one is one loop deeper
    pub few_round : (t : ProgramTree) (s : ℕ) → IsValid t → IsLoop t s h body → length (nest_round t s) + 1 ≤ 6
    few_round t s valid is =
        let loop : LoopOf t s = record { head = h; body = body; is = is } in
        let next : IsNextIn t s loop (s + 1) = first_is_next t s loop (let many = only_counted g inside body only in omega (arith, many)) in
        let deep = nest_short t (s + 1) valid in
        let size : length (nest_round t (s + 1)) ≡ length (nest_round t s ++ (record { number = s; head = h }) ∷ []) = ap (λ (ls : List Loop). length ls) next.nest in
        let parts = length-append (nest_round t s) (record { number = s; head = h } ∷ []) in
        omega (arith, deep, size, parts)

-- the bounds of the two loops
module _ (t : ProgramTree) (s : ℕ) (h : Head) (body : StmtTrees) (is : IsLoop t s h body) (g : Head) (inside : StmtTrees) (only : only_loop body ≡ Some (pair g inside)) where
  abbrev loop : LoopOf t s
  loop = record { head = h; body = body; is = is }

  -- the DO of a bound that is asked for
  asked_at : (n : ℕ) (e : ExprTree) → IsBoundOfEither t s n e → ((n ≡ s) × IsBoundOf h e) ⊎ ((n ≡ s + 1) × IsBoundOf g e)
  asked_at n e (l, inl (at, bound)) = inl (at, subst (λ (k : Head). IsBoundOf k e) (same_head t s l.head h l.body body l.is is) bound)
  asked_at n e (l, inr (at, bound)) = inr (at, subst (λ (o : Option (Head × StmtTrees)). MatchOption o ⊥ (λ k. IsBoundOf k.0 e)) (ap only_loop (same_body t s l.head h l.body body l.is is) ∙ only) bound)

  -- where both its bounds are plain, none isn't
  none_unplain : (n m : ℕ) (k : Head) (e : ExprTree) → TellsPlain t n k true → m ≡ n → IsBoundOf k e → (IsPlain (table_of t).constants t m e → ⊥) → ⊥
  none_unplain n m k e plain at (inl is_first) unplain = unplain (subst (λ (i : ℕ). IsPlain (table_of t).constants t i e) (sym at) (subst (λ (x : ExprTree). IsPlain (table_of t).constants t n x) (sym is_first) plain.0))
  none_unplain n m k e plain at (inr is_last) unplain = unplain (subst (λ (i : ℕ). IsPlain (table_of t).constants t i e) (sym at) (subst (λ (x : ExprTree). IsPlain (table_of t).constants t n x) (sym is_last) plain.1))

  least_outer : (k : ℕ) → HasUnplain t (IsBoundOfEither t s) k → s ≤ k
  least_outer k (e, asked, unplain) = by (asked_at k e asked)
    where
      by : ((k ≡ s) × IsBoundOf h e) ⊎ ((k ≡ s + 1) × IsBoundOf g e) → s ≤ k
      by (inl x) = let at = x.0 in omega (arith, at)
      by (inr x) = let at = x.0 in omega (arith, at)

  pub outer_unplain : TellsPlain t s h false → WhereUnplain t s (IsBoundOfEither t s) s
  outer_unplain (e, bound, unplain) = (loop, ((e, (loop, inl (refl, bound)), unplain), least_outer))

  pub inner_unplain : TellsPlain t s h true → TellsPlain t (s + 1) g false → WhereUnplain t s (IsBoundOfEither t s) (s + 1)
  inner_unplain plain (e, bound, unplain) = (loop, ((e, (loop, inr (refl, subst (λ (o : Option (Head × StmtTrees)). MatchOption o ⊥ (λ k. IsBoundOf k.0 e)) (sym only) bound)), unplain), least))
    where
      least : (k : ℕ) → HasUnplain t (IsBoundOfEither t s) k → s + 1 ≤ k
      least k (x, asked, not_plain) = by (asked_at k x asked)
        where
          by : ((k ≡ s) × IsBoundOf h x) ⊎ ((k ≡ s + 1) × IsBoundOf g x) → s + 1 ≤ k
          by (inl y) = absurd (none_unplain s k h x plain y.0 y.1 not_plain)
          by (inr y) = let at = y.0 in omega (arith, at)

  pub both_plain : TellsPlain t s h true → TellsPlain t (s + 1) g true → (n : ℕ) → WhereUnplain t s (IsBoundOfEither t s) n → ⊥
  both_plain plain inner_plain n (l, ((e, asked, unplain), least)) = by (asked_at n e asked)
    where
      by : ((n ≡ s) × IsBoundOf h e) ⊎ ((n ≡ s + 1) × IsBoundOf g e) → ⊥
      by (inl y) = none_unplain s n h e plain y.0 y.1 unplain
      by (inr y) = none_unplain (s + 1) n g e inner_plain y.0 y.1 unplain

  perfect_upto : NoneUpTo 2 (StandsAgainstInterchange s t)
  perfect_upto = rules.upto_perfect s t h body is (one_perfect h body g inside only)

  -- the first rule, and those that don't stand, by the tests of the two loops
  pub first_state : (h.parallel || g.parallel) ≡ true → IsFirstRule (StandsAgainstInterchange s t) ParallelState s
  first_state holds = rules.state_first s t h body is perfect_upto (of_both h body g inside only is_parallel ∙ holds)

  pub upto_state : (h.parallel || g.parallel) ≡ false → NoneUpTo 3 (StandsAgainstInterchange s t)
  upto_state fails = rules.upto_state s t h body is perfect_upto (of_both h body g inside only is_parallel ∙ fails)

  pub first_list : NoneUpTo 3 (StandsAgainstInterchange s t) → (has_some h.private || has_some g.private) ≡ true → IsFirstRule (StandsAgainstInterchange s t) HasPrivate s
  first_list none holds = rules.list_first s t h body is none (of_both h body g inside only has_private ∙ holds)

  pub upto_list : NoneUpTo 3 (StandsAgainstInterchange s t) → (has_some h.private || has_some g.private) ≡ false → NoneUpTo 4 (StandsAgainstInterchange s t)
  upto_list none fails = rules.upto_list s t h body is none (of_both h body g inside only has_private ∙ fails)

  pub first_tied : NoneUpTo 6 (StandsAgainstInterchange s t) → isnt_shaped h g ≡ true → IsFirstRule (StandsAgainstInterchange s t) BoundsShape s
  first_tied none holds = rules.shape_first s t h body is none (tied_is h body g inside only ∙ holds)

  pub upto_tied : NoneUpTo 6 (StandsAgainstInterchange s t) → isnt_shaped h g ≡ false → NoneUpTo 7 (StandsAgainstInterchange s t)
  upto_tied none fails = rules.upto_shape s t h body is none (tied_is h body g inside only ∙ fails)

  -- rule 8 by the values of named constants that the code has
  module _ (values : Values) (are : values ≡ (table_of t).constants) (r : Bool) (told : r ≡ (names_outer h g && (has_other_step values is_one h body || has_other_step values is_one g inside))) where
    units_told : has_no_unit (table_of t).constants h body ≡ r
    units_told = units_are h body g inside only (table_of t).constants ∙ ap (λ (cs : Values). names_outer h g && (has_other_step cs is_one h body || has_other_step cs is_one g inside)) (sym are) ∙ sym told

    pub first_stepping : NoneUpTo 7 (StandsAgainstInterchange s t) → r ≡ true → IsFirstRule (StandsAgainstInterchange s t) StepShape s
    first_stepping none holds = rules.unit_first s t h body is none (units_told ∙ holds)

    pub upto_units : NoneUpTo 7 (StandsAgainstInterchange s t) → r ≡ false → NoneUpTo 8 (StandsAgainstInterchange s t)
    upto_units none fails = rules.upto_unit s t h body is none (units_told ∙ fails)

  -- what the code has found of bounds that aren't plain
  abbrev Unplain : ℕ → Type 0
  Unplain = WhereUnplain t s (IsBoundOfEither t s)

  pub some_unplain : (found : Option ℕ) (n : ℕ) → found ≡ Some n → MatchOption found ((k : ℕ) → Unplain k → ⊥) Unplain → Unplain n
  some_unplain found n is_some told = subst (λ (o : Option ℕ). MatchOption o ((k : ℕ) → Unplain k → ⊥) Unplain) is_some told

  pub none_unplain_found : (found : Option ℕ) → found ≡ None → MatchOption found ((k : ℕ) → Unplain k → ⊥) Unplain → (k : ℕ) → Unplain k → ⊥
  none_unplain_found found is_none_found told = subst (λ (o : Option ℕ). MatchOption o ((k : ℕ) → Unplain k → ⊥) Unplain) is_none_found told

  -- the number of the inner one
  pub few_inner : IsValid t → s + 1 < 2 ^ 32
  few_inner valid = let few = few_numbers t valid in let fits = loop_fits t s h body is in let many = only_counted g inside body only in omega (arith, few, fits, many)

  -- the loops round the two, and the new outer one inside them
  pub round_short : IsValid t → (loops pushed : List CodeLoop) (x : CodeLoop) → pushed ≡ loops ++ x ∷ [] → nest_of loops ≡ nest_round t s → length pushed ≤ 6
  round_short valid loops pushed x are same =
      let few = few_round h body g inside only t s valid is in
      let size = length-map loops loop_of in
      let count : length (nest_of loops) ≡ length (nest_round t s) = ap (λ (nest : List Loop). length nest) same in
      let all : length pushed ≡ length (loops ++ x ∷ []) = ap (λ (ls : List CodeLoop). length ls) are in
      let more = length-append loops (x ∷ []) in
      omega (arith, few, size, count, all, more)

  pub heads_pushed : (loops pushed : List CodeLoop) (x : CodeLoop) → pushed ≡ loops ++ x ∷ [] → nest_of loops ≡ nest_round t s → heads_of (nest_of pushed) ≡ heads_round t s ++ head_of x.statement.now ∷ []
  heads_pushed loops pushed x are same =
      ap (λ (ls : List CodeLoop). heads_of (nest_of ls)) are
      ∙ ap (λ (nest : List Loop). heads_of nest) (map-append loop_of loops (x ∷ []))
      ∙ map-append (λ (l : Loop). l.head) (nest_of loops) (loop_of x ∷ [])
      ∙ ap (λ (nest : List Loop). heads_of nest ++ head_of x.statement.now ∷ []) same

  -- the new loops as the code has them
  module _ (new : Head) (new_body : StmtTrees) (made : alone (Do new new_body) ≡ with_exchanged h body) where
    new_loops : alone (Do new new_body) ≡ alone (Do (new_outer h g) (change_only (λ k z. Do (new_inner h g) z) body))
    new_loops = made ∙ exchanged_is h body g inside only

    new_head : new ≡ new_outer h g
    new_head = same_loop_head new (new_outer h g) new_body (change_only (λ k z. Do (new_inner h g) z) body) new_loops

    pub new_only : only_loop new_body ≡ Some (pair (new_inner h g) inside)
    new_only = ap only_loop (same_loop_body new (new_outer h g) new_body (change_only (λ k z. Do (new_inner h g) z) body) new_loops) ∙ only_new h body g inside only

    module _ (setting : Setting) (heads : List Head) where
      pub far_outside : (leaves setting heads new.first || leaves setting heads new.last) ≡ true → true ≡ makes_far setting heads h body
      far_outside outside =
          sym (far_is h body g inside only setting heads
          ∙ ap (λ (k : Head). (leaves setting heads k.first || leaves setting heads k.last) || (leaves setting (heads ++ k ∷ []) (new_inner h g).first || leaves setting (heads ++ k ∷ []) (new_inner h g).last)) (sym new_head)
          ∙ ap (λ (b : Bool). b || (leaves setting (heads ++ new ∷ []) (new_inner h g).first || leaves setting (heads ++ new ∷ []) (new_inner h g).last)) outside)

      far_inside : (leaves setting heads new.first || leaves setting heads new.last) ≡ false → (k : Head) (z : StmtTrees) → only_loop new_body ≡ Some (pair k z)
          → (leaves setting (heads ++ new ∷ []) k.first || leaves setting (heads ++ new ∷ []) k.last) ≡ makes_far setting heads h body
      far_inside outside k z found =
          ap (λ (f : Head). leaves setting (heads ++ new ∷ []) f.first || leaves setting (heads ++ new ∷ []) f.last) (same_pair_head k (new_inner h g) z inside (sym found ∙ new_only))
          ∙ sym (far_is h body g inside only setting heads
          ∙ ap (λ (f : Head). (leaves setting heads f.first || leaves setting heads f.last) || (leaves setting (heads ++ f ∷ []) (new_inner h g).first || leaves setting (heads ++ f ∷ []) (new_inner h g).last)) (sym new_head)
          ∙ ap (λ (b : Bool). b || (leaves setting (heads ++ new ∷ []) (new_inner h g).first || leaves setting (heads ++ new ∷ []) (new_inner h g).last)) outside)

      -- the same by the loops as the code has them
      pub far_found : (leaves setting heads new.first || leaves setting heads new.last) ≡ false → (k : Head) (z : StmtTrees) → only_loop new_body ≡ Some (pair k z)
          → (hs : List Head) → hs ≡ heads ++ new ∷ [] → (r : Bool) → r ≡ (leaves setting hs k.first || leaves setting hs k.last) → r ≡ makes_far setting heads h body
      far_found outside k z found hs are r e = e ∙ ap (λ (fs : List Head). leaves setting fs k.first || leaves setting fs k.last) are ∙ far_inside outside k z found

-- bounds with shapes
pub are_shaped : (h g : Head) (first last : Shape) → shape_of h.variable g.first ≡ Some first → shape_of h.variable g.last ≡ Some last → isnt_shaped h g ≡ false
are_shaped h g first last one two = λ i. is_none (one i) || is_none (two i)

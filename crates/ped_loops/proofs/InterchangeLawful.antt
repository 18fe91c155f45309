-- `interchange` is lawful.
use Rattle.std.specs.Prelude.{not}
use Rattle.std.proofs.lemmas.Bool.Decides.{Decides-int_eq}
use Rattle.std.proofs.Common.{◌≡◌, ℕ, ℤ, pos, ◌+◌, List, [], ◌∷◌, ◌++◌, All, Bool, true, false, ◌||◌, ◌&&◌, unwrap_or, Option, Some, None, MatchOption, is_none, refl, sym, ap, ◌∙◌, subst, inl, inr}
use Rattle.ped_base.specs.Lists.{has_some}
use Rattle.ped_tree.specs.Tree.{ExprTree, Head, StmtTrees, Do, ProgramTree}
use Rattle.ped_rules.specs.ped_laws.proofs.ConflictLaws.CoveringRuns.{MakingLaw, SequenceLaw}
use Rattle.ped_rules.specs.ped_eval.specs.Outcomes.{setting_of, IsRaceFree}
use Rattle.ped_rules.specs.ped_graph.specs.Dependences.{AreEdges}
use Rattle.ped_edges.specs.Edges.{Edge}
use Rattle.ped_rules.specs.ped_graph.specs.Keeping.{IsOneToOne}
use Rattle.ped_rules.specs.ped_symbols.specs.Kinds.{kind_in}
use Rattle.ped_rules.specs.ped_symbols.specs.NameRefusals.{IsValid}
use Rattle.ped_rules.specs.ped_flow.specs.PlainBounds.{IsPlain, around_with, nest_round, setting_round}
use Rattle.ped_rules.specs.ped_flow.specs.Questions.{LoopOf}
use Rattle.ped_rules.specs.ped_steps.specs.Causes.{NoRule}
use Rattle.ped_rules.specs.ped_steps.specs.Replacing.{alone, program_with}
use Rattle.ped_rules.specs.ped_steps.proofs.OneCause.{one_cause}
use Rattle.ped_rules.specs.ped_loop_runs.specs.Meaning.{KeepsOn}
use Rattle.ped_rules.specs.ped_loop_runs.specs.TrueRejections.{IsTrueOn}
use Rattle.ped_rules.specs.ped_loop_runs.specs.Unrejected.{IsTrusted}
use Rattle.ped_evidence.specs.Evidence.{Line}
use Rattle.ped_rules.specs.Carried.{crossing}
use Rattle.ped_rules.specs.KeepMaps.{all_but}
use Rattle.ped_rules.specs.Lawful.{IsFaithful, IsLawful}
use Rattle.ped_rules.specs.OnlyLoops.{change_only, only_loop, of_loop, either}
use Rattle.ped_rules.specs.Steps.{transformation}
use Rattle.ped_rules.specs.Rules.{HasUnplain, has_other_step, has_private, is_one, is_parallel, isnt_allowed, leaves}
use Rattle.ped_rules.proofs.KeptNumbers.{but_one_to_one}
use Rattle.ped_rules.specs.Rules.{IsBoundOf}
use Rattle.ped_loops.specs.ByEvidence.{crossing_open, interchanging_by}
use Rattle.ped_loops.specs.Interchanging.{IsBoundOfEither, MakesInterchanged, StandsAgainstInterchange, interchanged, interchanging, leaves_either}
use Rattle.ped_loops.specs.Shapes.{is_named, isnt_shaped, names_outer, new_inner, new_outer, shape_of}
use Rattle.ped_rules.specs.ped_affine.specs.PairViews.{heads_of}
use Rattle.ped_rules.specs.ped_affine.specs.Ranges as ranges
use Rattle.ped_rules.specs.ped_affine.specs.Ranges.{Around, Setting, interval_of}
use Rattle.ped_rules.specs.ped_eval.specs.Loops.{increment}
use Rattle.ped_tree.specs.Constants.ConstantExpressions.{constant_value}
use Rattle.ped_rules.proofs.LeastNumbers.{least}
use Rattle.ped_rules.proofs.HeadLaws.ParallelLawful.{TrueLaw}
use Rattle.ped_loops.proofs.FreeSwaps.{free_swap, interchanged_is}
use Rattle.ped_rules.proofs.HeadLaws.PlainAnswers.{same_around}
use Rattle.ped_loops.proofs.ShapedNames.{shaped_names}
use Rattle.ped_loops.proofs.ShapedSwaps.{shaped_swap}
use Rattle.ped_loops.proofs.SwappedKeeps.{swapped_keeps_on, swapped_keeps}
use Rattle.ped_loops.proofs.InterchangeRules as rules
use Rattle.ped_rules.proofs.NestLaws.IndicesApart.{inner_variable_apart, variable_apart, variables_differ}
use Rattle.ped_rules.proofs.HeadLaws.OneHead.{TrustedLaw, ClearedLaw}
use Rattle.ped_rules.proofs.NestLaws.OnlyBodies.{pair}
use Rattle.ped_rules.proofs.HeadLaws.PlainDecided.{OrNot, plain_decided}
use Rattle.ped_rules.proofs.NestLaws.WovenKinds.{swapped_kinds}
use Rattle.ped_rules.proofs.NestLaws.WovenLoops.{AreSwapped}
use Rattle.ped_rules.proofs.NestLaws.WovenTrust.{stays_trusted_swap}
use Rattle.ped_loops.proofs.Endings.{step_by}
use Rattle.ped_loops.proofs.OpenEdges.{DisprovedLaw}
use Rattle.ped_loops.proofs.UncrossedPairs.{NoneCrossesOn, Uncrosses, crossing_uncrosses, open_uncrosses}

or_neither : (a b : Bool) → a || b ≡ false → (a ≡ false) × (b ≡ false)
or_neither true b e = absurd cc
or_neither false b e = (refl, e)

-- an increment that is allowed is 1
one_step : (o : Option ℤ) → isnt_allowed is_one o ≡ false → unwrap_or o (pos 1) ≡ pos 1
one_step None h = absurd cc
one_step (Some n) h = go (is_one n) refl h
  where
    go : (b : Bool) → is_one n ≡ b → not b ≡ false → n ≡ pos 1
    go true e q = (Decides-int_eq n (pos 1)).0 e
    go false e q = absurd cc

some_there : {X : Type 0} (o : Option X) → is_none o ≡ false → o ≡ None → ⊥
some_there None h e = absurd cc
some_there (Some x) h e = absurd cc

none_private : (xs : List (List ℕ)) → has_some xs ≡ false → xs ≡ []
none_private [] e = refl
none_private (x ∷ xs) e = absurd cc

-- a body that isn't other than one DO is one
record HasInner (body : StmtTrees) : Type 0 where
  pub head : Head
  pub inside : StmtTrees
  pub only : only_loop body ≡ Some (pair head inside)

inner_of : (body : StmtTrees) (o : Option (Head × StmtTrees)) → only_loop body ≡ o → is_none o ≡ false → HasInner body
inner_of body None e f = absurd cc
inner_of body (Some l) e f = record { head = l.0; inside = l.1; only = e }

module _ (t : ProgramTree) (valid : IsValid t) (s : ℕ) (none : NoRule (StandsAgainstInterchange s t)) where
  loop : LoopOf t s
  loop = rules.its_loop s t none

  it : HasInner loop.body
  it = inner_of loop.body (only_loop loop.body) refl (rules.is_perfect s t none loop)

  abbrev d : Head
  d = loop.head

  abbrev g : Head
  g = it.head

  abbrev h : Head
  h = new_outer loop.head it.head

  abbrev k : Head
  k = new_inner loop.head it.head

  -- a test of either fails for both
  fails_both : (test : Head → StmtTrees → Bool) → either test d loop.body ≡ false → (test d loop.body ≡ false) × (test g it.inside ≡ false)
  fails_both test e = or_neither (test d loop.body) (test g it.inside) (ap (λ (o : Option (Head × StmtTrees)). test d loop.body || of_loop test o) (sym it.only) ∙ e)

  serial : (d.parallel ≡ false) × (g.parallel ≡ false)
  serial = fails_both is_parallel (rules.are_serial s t none loop)

  unprivate : (d.private ≡ []) × (g.private ≡ [])
  unprivate = let both = fails_both has_private (rules.are_alone s t none loop) in (none_private d.private both.0, none_private g.private both.1)

  -- rule 7: the inner bounds have shapes
  shaped : (is_none (shape_of d.variable g.first) ≡ false) × (is_none (shape_of d.variable g.last) ≡ false)
  shaped = or_neither (is_none (shape_of d.variable g.first)) (is_none (shape_of d.variable g.last)) (ap (λ (o : Option (Head × StmtTrees)). of_loop (λ f inside. isnt_shaped d f) o) (sym it.only) ∙ rules.are_shaped s t none loop)

  -- rule 8: where one of them isn't free, the increments are 1
  with_units : names_outer d g ≡ true → (increment (setting_of t).constants d ≡ pos 1) × (increment (setting_of t).constants g ≡ pos 1)
  with_units named =
      let both = or_neither (has_other_step (setting_of t).constants is_one d loop.body) (has_other_step (setting_of t).constants is_one g it.inside)
      (ap (λ (b : Bool). b && (has_other_step (setting_of t).constants is_one d loop.body || has_other_step (setting_of t).constants is_one g it.inside)) (sym named)
      ∙ ap (λ (o : Option (Head × StmtTrees)). of_loop (λ f inside. names_outer d f && (has_other_step (setting_of t).constants is_one d loop.body || has_other_step (setting_of t).constants is_one f inside)) o) (sym it.only)
      ∙ rules.have_units s t none loop) in
      (one_step (constant_value (setting_of t).constants d.step) both.0, one_step (constant_value (setting_of t).constants g.step) both.1)

  -- rule 9: the new outer bounds stay within 2^62
  abbrev fixed : Setting
  fixed = setting_round (setting_of t).constants t s

  near : (e : ExprTree) → leaves fixed (heads_of (nest_round t s)) e ≡ false → interval_of fixed (around_with fixed [] (nest_round t s)) e ≡ None → ⊥
  near e stays away = some_there (interval_of fixed (ranges.around_with fixed [] (heads_of (nest_round t s))) e) stays (ap (λ (a : Around). interval_of fixed a e) (same_around fixed [] (nest_round t s)) ∙ away)

  stay : (leaves fixed (heads_of (nest_round t s)) h.first ≡ false) × (leaves fixed (heads_of (nest_round t s)) h.last ≡ false)
  stay =
      let outer = (or_neither (leaves fixed (heads_of (nest_round t s)) h.first || leaves fixed (heads_of (nest_round t s)) h.last)
      (leaves fixed (heads_of (nest_round t s) ++ h ∷ []) k.first || leaves fixed (heads_of (nest_round t s) ++ h ∷ []) k.last)
      (ap (λ (o : Option (Head × StmtTrees)). of_loop (λ f inside. leaves_either fixed (heads_of (nest_round t s)) (new_outer d f) (new_inner d f)) o) (sym it.only) ∙ rules.are_near s t none loop)).0 in
      or_neither (leaves fixed (heads_of (nest_round t s)) h.first) (leaves fixed (heads_of (nest_round t s)) h.last) outer

  -- rule 6: all bounds are plain
  all_plain : (n : ℕ) → HasUnplain t (IsBoundOfEither t s) n → ⊥
  all_plain = least (HasUnplain t (IsBoundOfEither t s)) (λ n first. rules.are_plain s t none n (loop, first))

  plain : (n : ℕ) (e : ExprTree) → IsBoundOfEither t s n e → IsPlain (setting_of t).constants t n e
  plain n e asked = by (plain_decided (setting_of t).constants t n e)
    where
      by : OrNot (IsPlain (setting_of t).constants t n e) → IsPlain (setting_of t).constants t n e
      by (inl p) = p
      by (inr not) = absurd (all_plain n (e, asked, not))

  outer_plain : (e : ExprTree) → IsBoundOf d e → IsPlain (setting_of t).constants t s e
  outer_plain e bound = plain s e (loop, inl (refl, bound))

  inner_plain : (e : ExprTree) → IsBoundOf g e → IsPlain (setting_of t).constants t (s + 1) e
  inner_plain e bound = plain (s + 1) e (loop, inr (refl, subst (λ (o : Option (Head × StmtTrees)). MatchOption o ⊥ (λ f. IsBoundOf f.0 e)) (sym it.only) bound))

  made : interchanged t s ≡ program_with (λ z. alone (Do h (change_only (λ f w. Do k w) loop.body))) s t
  made = interchanged_is t s loop g it.inside it.only

  kinds : (y : List ℕ) → kind_in (interchanged t s) y ≡ kind_in t y
  kinds y =
      ap (λ (u : ProgramTree). kind_in u y) made
      ∙ swapped_kinds t valid s loop g h k it.inside it.only unprivate.0 unprivate.1 unprivate.1 unprivate.0 (λ x other. shaped_names x d g shaped.0 shaped.1) y

  trusted : TrustedLaw → ClearedLaw → IsTrusted t → IsTrusted (interchanged t s)
  trusted law cleared before =
      subst IsTrusted (sym made)
      (stays_trusted_swap t valid s loop (rules.is_contained s t none) g h k it.inside it.only refl refl refl refl serial.0 serial.1 serial.1 serial.0 unprivate.0 unprivate.1 unprivate.1 unprivate.0 law cleared before)

  swap : AreSwapped t (interchanged t s) s loop g h k it.inside it.only
  swap = by (names_outer d g) refl
    where
      by : (b : Bool) → names_outer d g ≡ b → AreSwapped t (interchanged t s) s loop g h k it.inside it.only
      by true named =
          let units = with_units named in
          shaped_swap t s loop g it.inside it.only valid (rules.is_valid s t none) kinds (variables_differ t valid s loop g it.inside it.only) serial.0 serial.1 unprivate.0 unprivate.1 (rules.is_contained s t none)
          (outer_plain d.first (inl refl)) (outer_plain d.last (inr refl)) (inner_plain g.first (inl refl)) (inner_plain g.last (inr refl)) shaped.0 shaped.1 units.0 units.1 (near h.first stay.0) (near h.last stay.1)
          (variable_apart t valid s loop) (inner_variable_apart t valid s loop g it.inside it.only)
      by false named =
          let free = or_neither (is_named d.variable g.first) (is_named d.variable g.last) named in
          free_swap t s loop g it.inside it.only free.0 free.1 valid (rules.is_valid s t none) kinds (variables_differ t valid s loop g it.inside it.only) serial.0 serial.1 unprivate.0 unprivate.1 (rules.is_contained s t none)
          (outer_plain d.first (inl refl)) (outer_plain d.last (inr refl)) (inner_plain g.first (inl refl)) (inner_plain g.last (inr refl))
          (variable_apart t valid s loop) (inner_variable_apart t valid s loop g it.inside it.only)

  module _ (making : MakingLaw) (sequence : SequenceLaw) (uncrossed : (data_bytes : List ℕ) → IsTrueOn t data_bytes → (edges : List Edge) → AreEdges t edges → NoneCrossesOn t edges data_bytes s loop.body) where
    -- on data on which no rejected dependence occurs
    interchange_keeps_on : (data_bytes : List ℕ) → IsTrueOn t data_bytes → IsRaceFree t data_bytes → KeepsOn t (interchanged t s) data_bytes
    interchange_keeps_on data_bytes true_on = swapped_keeps_on making sequence t (interchanged t s) s loop g h k it.inside it.only swap data_bytes (λ edges are. uncrossed data_bytes true_on edges are)

    interchange_faithful : TrustedLaw → ClearedLaw → TrueLaw → IsTrusted t → IsFaithful t (interchanged t s)
    interchange_faithful trusted_law cleared true_law before = record {
      trusted = trusted trusted_law cleared before;
      keeps = swapped_keeps making sequence t (interchanged t s) s loop g h k it.inside it.only swap (λ data_bytes edges are. uncrossed data_bytes (true_law t data_bytes before.unrejected) edges are);
    }

module _ (making : MakingLaw) (sequence : SequenceLaw) (trusted_law : TrustedLaw) (cleared : ClearedLaw) (true_law : TrueLaw) (s : ℕ) where
  module _ (forbids : ProgramTree → Edge → Bool) (test : Uncrosses s forbids) where
    uncrossed : (t : ProgramTree) (valid : IsValid t) (none : NoRule (StandsAgainstInterchange s t)) → ((edges : List Edge) → AreEdges t edges → All (λ e. forbids t e ≡ false) edges)
        → (data_bytes : List ℕ) → IsTrueOn t data_bytes → (edges : List Edge) → AreEdges t edges → NoneCrossesOn t edges data_bytes s (loop t valid s none).body
    uncrossed t valid none free data_bytes true_on edges are = test t valid (loop t valid s none) data_bytes true_on edges are (free edges are)

    -- the step that such a test of dependences forbids
    lawful_by_test : IsLawful (step_by transformation s (StandsAgainstInterchange s) forbids (MakesInterchanged s))
    lawful_by_test = record {
      one_cause = λ t c d p q. one_cause t (StandsAgainstInterchange s t) (forbids t) (rules.chain s t).one c d p q;
      one_made = rules.one_made s;
      one_to_one = λ t new keep p. subst IsOneToOne (sym p.1) (but_one_to_one t s (s + 1));
      some_made = λ t valid none. (interchanged t s, all_but s (s + 1) t, (refl, refl), rules.is_valid s t none.0);
      keeps = λ t new keep valid none p before. subst (IsFaithful t) (sym p.0) (interchange_faithful t valid s none.0 making sequence (uncrossed t valid none.0 none.1) trusted_law cleared true_law before);
      keeps_on = λ t new keep data_bytes valid none p kind tidy new_tidy true_on true_for free.
          subst (λ (u : ProgramTree). KeepsOn t u data_bytes) (sym p.0) (interchange_keeps_on t valid s none.0 making sequence (uncrossed t valid none.0 none.1) data_bytes true_on free);
    }

  pub lawful_interchange : IsLawful (interchanging s)
  lawful_interchange = lawful_by_test (λ t. crossing t s) (crossing_uncrosses s)

  -- with evidence
  pub lawful_interchange_by : DisprovedLaw → (evidence : List Line) → IsLawful (interchanging_by s evidence)
  lawful_interchange_by law evidence = lawful_by_test (λ t. crossing_open t s evidence) (open_uncrosses law s evidence)

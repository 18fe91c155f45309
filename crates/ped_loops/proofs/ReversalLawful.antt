-- `reverse` is lawful.
use Rattle.std.proofs.Common.{◌≡◌, ℕ, ℤ, neg_ℤ, List, All, Bool, true, false, Some, Ok, refl, sym, ap, ◌∙◌, subst}
use Rattle.std.proofs.lemmas.Bool.{both_ways}
use Rattle.ped_tree.specs.Constants.ConstantExpressions.{constant_value}
use Rattle.ped_tree.specs.Tree.{Head, StmtTree, StmtTrees, Do, ProgramTree}
use Rattle.ped_rules.specs.ped_eval.specs.Loops.{Limits, limits, increment}
use Rattle.ped_rules.specs.ped_eval.specs.Outcomes.{setting_of, IsRaceFree}
use Rattle.ped_rules.specs.ped_eval.specs.Scopes.{Scope, names_in}
use Rattle.ped_rules.specs.ped_store.specs.Stores.{Store}
use Rattle.ped_rules.specs.ped_graph.specs.Dependences.{AreEdges}
use Rattle.ped_edges.specs.Edges.{Edge}
use Rattle.ped_rules.specs.ped_graph.specs.Keeping.{IsOneToOne}
use Rattle.ped_rules.specs.ped_symbols.specs.Kinds.{kind_in, table_of}
use Rattle.ped_rules.specs.ped_symbols.specs.NameRefusals.{IsValid}
use Rattle.ped_rules.specs.ped_symbols.proofs.RightUseLaws.Whole.{others_unvalued}
use Rattle.ped_rules.specs.ped_flow.specs.Questions.{LoopOf, IsContained}
use Rattle.ped_rules.specs.ped_steps.specs.Causes.{NoRule}
use Rattle.ped_rules.specs.ped_steps.specs.Replacing.{alone, program_with, all_kept}
use Rattle.ped_rules.specs.ped_steps.proofs.OnePlace.{one_program}
use Rattle.ped_rules.specs.ped_steps.proofs.OneCause.{one_cause}
use Rattle.ped_rules.specs.ped_loop_runs.specs.Unrejected.{IsTrusted}
use Rattle.ped_rules.specs.Carried.{carried}
use Rattle.ped_evidence.specs.Evidence.{Line}
use Rattle.ped_rules.specs.Lawful.{IsFaithful, IsLawful}
use Rattle.ped_rules.specs.OnlyLoops.{on_loop}
use Rattle.ped_rules.specs.Rules.{is_unit}
use Rattle.ped_rules.specs.Spans.{Values}
use Rattle.ped_rules.specs.Steps.{transformation}
use Rattle.ped_rules.specs.ped_loop_runs.specs.Carried.{NoneMeetOn}
use Rattle.ped_rules.proofs.KeptNumbers.{all_one_to_one}
use Rattle.ped_rules.specs.ped_loop_runs.specs.Meaning.{KeepsOn}
use Rattle.ped_rules.specs.ped_loop_runs.specs.TrueRejections.{IsTrueOn}
use Rattle.ped_rules.specs.ped_loop_runs.specs.OneForOne.{HasSameTrips, IsOneForOne}
use Rattle.ped_rules.specs.ped_loop_runs.proofs.LoopLaws.OneForOneNames.{kinds_alike}
use Rattle.ped_loops.specs.ByEvidence.{carried_open, reversing_by}
use Rattle.ped_loops.specs.Reversing.{turned_head, with_turned, reversed, MakesReversed, StandsAgainstReversal, reversing}
use Rattle.ped_rules.proofs.HeadLaws.ParallelLawful.{KeepsLaw, KeepsOnLaw, TrueLaw, Forbids, none_meet}
use Rattle.ped_rules.proofs.HeadLaws.OneHead.{TrustedLaw, ClearedLaw, stays_trusted_head}
use Rattle.ped_loops.proofs.Endings.{step_by}
use Rattle.ped_loops.proofs.ReverseRules as rules
use Rattle.ped_loops.proofs.ReversedLoops.{unit_is, turned_trips}
use Rattle.ped_rules.proofs.HeadLaws.HeadNames.{turned_names}

same_statement : (a b : StmtTree) → Some a ≡ Some b → a ≡ b
same_statement a b e = cc

module _ (t : ProgramTree) (valid : IsValid t) (s : ℕ) (loop : LoopOf t s) where
  abbrev d : Head
  d = loop.head

  abbrev body : StmtTrees
  body = loop.body

  abbrev constants : Values
  constants = (table_of t).constants

  abbrev h : Head
  h = turned_head constants d

  reversed_is : reversed t s ≡ program_with (λ z. alone (Do h body)) s t
  reversed_is = one_program (on_loop (with_turned constants)) (λ z. alone (Do h body)) s t (λ g e. ap (on_loop (with_turned constants)) (same_statement g (Do d body) (sym e ∙ loop.is)))

  module _ (m : ℤ) (step : constant_value constants d.step ≡ Some m) (unit : is_unit m ≡ true) where
    kinds : (y : List ℕ) → kind_in (reversed t s) y ≡ kind_in t y
    kinds y = ap (λ (v : ProgramTree). kind_in v y) reversed_is
        ∙ kinds_alike t valid s loop h refl (λ z other. turned_names constants d (neg_ℤ (increment constants d)) m body step z (others_unvalued t z other)) y

    trips : (scope : Scope) (v : Store) (old : Limits) → (limits (names_in (setting_of t) scope) d v).result ≡ Ok old → HasSameTrips (setting_of t) d h body s true scope v old
    trips scope v old come = turned_trips (setting_of t) d body s m step (unit_is m unit) scope v old come

    -- it gives way one for one
    reversal_one_for_one : IsValid (reversed t s) → IsContained t s → d.parallel ≡ false → IsOneForOne t (reversed t s) s loop h true
    reversal_one_for_one new_valid contained serial = record {
      valid = valid;
      new_valid = new_valid;
      new = reversed_is;
      kinds = kinds;
      variable = refl;
      private = refl;
      contained = contained;
      trips = trips;
      in_turn = λ e. (serial, serial);
      differ = λ e. absurd (both_ways true e refl);
      unwritten = λ e. absurd (both_ways true e refl);
    }

    -- and a program that may be trusted stays so
    stays_trusted_reversed : IsContained t s → TrustedLaw → ClearedLaw → IsTrusted t → IsTrusted (reversed t s)
    stays_trusted_reversed contained law cleared trusted = subst IsTrusted (sym reversed_is) (stays_trusted_head t valid s loop contained h refl refl refl (λ none. none) law cleared trusted)

module _ (keeps_law : KeepsLaw) (on_law : KeepsOnLaw) (trusted_law : TrustedLaw) (cleared : ClearedLaw) (true_law : TrueLaw) (s : ℕ) where
  module _ (forbids : ProgramTree → Edge → Bool)
      (test : (t : ProgramTree) → IsValid t → (loop : LoopOf t s) (data_bytes : List ℕ) → IsTrueOn t data_bytes → (edges : List Edge) → AreEdges t edges → All (λ e. forbids t e ≡ false) edges → NoneMeetOn t edges data_bytes s loop.body) where
    module _ (t : ProgramTree) (valid : IsValid t) (none : NoRule (StandsAgainstReversal s t)) (free : (edges : List Edge) → AreEdges t edges → All (λ e. forbids t e ≡ false) edges) where
      loop : LoopOf t s
      loop = rules.its_loop s t none

      step : (m : ℤ) × (constant_value (table_of t).constants loop.head.step ≡ Some m) × (is_unit m ≡ true)
      step = rules.unit_value (constant_value (table_of t).constants loop.head.step) (rules.has_unit s t none loop)

      instead : IsOneForOne t (reversed t s) s loop (turned_head (table_of t).constants loop.head) true
      instead = reversal_one_for_one t valid s loop step.0 step.1 step.2 (rules.is_valid s t none) (rules.is_contained s t none) (rules.is_serial s t none loop)

      -- on data on which no rejected dependence occurs
      reversal_keeps_on : (data_bytes : List ℕ) → IsTrueOn t data_bytes → IsRaceFree t data_bytes → KeepsOn t (reversed t s) data_bytes
      reversal_keeps_on data_bytes true_on = on_law t (reversed t s) s loop (turned_head (table_of t).constants loop.head) true instead data_bytes (λ reordered edges are. test t valid loop data_bytes true_on edges are (free edges are))

      reversal_faithful : IsTrusted t → IsFaithful t (reversed t s)
      reversal_faithful trusted = record {
        trusted = stays_trusted_reversed t valid s loop step.0 step.1 step.2 (rules.is_contained s t none) trusted_law cleared trusted;
        keeps =
            keeps_law t (reversed t s) s loop (turned_head (table_of t).constants loop.head) true instead
            (λ data_bytes reordered edges are. test t valid loop data_bytes (true_law t data_bytes trusted.unrejected) edges are (free edges are));
      }

    -- the step that such a test of dependences forbids
    pub lawful_by_test : IsLawful (step_by transformation s (StandsAgainstReversal s) forbids (MakesReversed s))
    lawful_by_test = record {
      one_cause = λ t c d p q. one_cause t (StandsAgainstReversal s t) (forbids t) (rules.chain s t).one c d p q;
      one_made = rules.one_made s;
      one_to_one = λ t new keep p. subst IsOneToOne (sym p.1) (all_one_to_one t);
      some_made = λ t valid none. (reversed t s, all_kept t, (refl, refl), rules.is_valid s t none.0);
      keeps = λ t new keep valid none p trusted. subst (IsFaithful t) (sym p.0) (reversal_faithful t valid none.0 none.1 trusted);
      keeps_on = λ t new keep data_bytes valid none p kind tidy new_tidy true_on true_for free.
          subst (λ (u : ProgramTree). KeepsOn t u data_bytes) (sym p.0) (reversal_keeps_on t valid none.0 none.1 data_bytes true_on free);
    }

  pub lawful_reversal : IsLawful (reversing s)
  lawful_reversal = lawful_by_test (λ t. carried t s) (λ t valid loop data_bytes. none_meet t s loop data_bytes)

  -- with evidence
  pub lawful_reversal_by : (evidence : List Line) → Forbids s (λ t. carried_open t s evidence) → IsLawful (reversing_by s evidence)
  lawful_reversal_by evidence test = lawful_by_test (λ t. carried_open t s evidence) test.meet

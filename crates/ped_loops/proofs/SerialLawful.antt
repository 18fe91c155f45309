-- `serial` is lawful.
use Rattle.std.proofs.Common.{◌≡◌, ℕ, List, Bool, true, false, not, refl, sym, subst}
use Rattle.std.proofs.lemmas.Bool.{both_ways}
use Rattle.ped_base.specs.Lists.{is_among}
use Rattle.ped_tree.specs.Tree.{Do, ProgramTree}
use Rattle.ped_tree.specs.NamesIn.{loop_variables}
use Rattle.ped_rules.specs.ped_graph.specs.Keeping.{IsOneToOne}
use Rattle.ped_rules.specs.ped_symbols.specs.NameRefusals.{IsValid}
use Rattle.ped_rules.specs.ped_flow.specs.Questions.{LoopOf}
use Rattle.ped_rules.specs.ped_steps.specs.Causes.{NoRule, none_forbids}
use Rattle.ped_rules.specs.ped_steps.specs.Replacing.{all_kept}
use Rattle.ped_rules.specs.ped_steps.specs.Tidy.{is_written_in, IsTidy}
use Rattle.ped_rules.specs.ped_steps.proofs.OneCause.{one_cause}
use Rattle.ped_rules.specs.ped_loop_runs.specs.Unrejected.{IsTrusted}
use Rattle.ped_rules.specs.Lawful.{IsFaithful, IsLawful}
use Rattle.ped_rules.specs.Rules.{is_serial}
use Rattle.ped_rules.specs.ped_steps.specs.Runs.Meaning.{Keeps}
use Rattle.ped_rules.proofs.KeptOnData.{owes_by_tidiness}
use Rattle.ped_rules.proofs.KeptNumbers.{all_one_to_one}
use Rattle.ped_rules.specs.Flags.{flagged}
use Rattle.ped_loops.specs.Serialising.{StandsAgainstSerial, serialising}
use Rattle.ped_rules.proofs.HeadLaws.FlagRules as rules
use Rattle.ped_rules.proofs.HeadLaws.OneHead.{TrustedLaw, ClearedLaw}
use Rattle.ped_rules.proofs.HeadLaws.FlaggedLoops.{stays_trusted_flag}
use Rattle.ped_rules.proofs.HeadLaws.ParallelLawful.{KeepsLaw, flag_keeps}

not_false : (b : Bool) → not b ≡ false → b ≡ true
not_false true e = refl
not_false false e = absurd (both_ways true e refl)

module _ (keeps_law : KeepsLaw) (trusted_law : TrustedLaw) (cleared : ClearedLaw) where
  module _ (s : ℕ) where
    module _ (t : ProgramTree) (valid : IsValid t) (none : NoRule (StandsAgainstSerial s t)) where
      loop : LoopOf t s
      loop = rules.its_loop is_serial false s t none

      parallel : loop.head.parallel ≡ true
      parallel = not_false loop.head.parallel (rules.test_fails is_serial false s t none loop)

      differ : false ≡ loop.head.parallel → ⊥
      differ e = both_ways loop.head.parallel (sym e) parallel

      unwritten : IsTidy t → (w : List ℕ) → is_among w (loop_variables (Do loop.head loop.body)) ≡ true → is_written_in t s loop.body w ≡ false
      unwritten tidy w among = (tidy s loop parallel w (record { loop = loop; among = among })).unwritten

      serial_keeps : IsTidy t → Keeps t (flagged t s false)
      serial_keeps tidy =
          flag_keeps keeps_law t valid s loop false (rules.is_valid is_serial false s t none) (rules.is_contained is_serial false s t none) differ (λ data_bytes became. absurd (both_ways false refl became.1)) (unwritten tidy)

      serial_faithful : IsTrusted t → IsFaithful t (flagged t s false)
      serial_faithful trusted = record { trusted = stays_trusted_flag t valid s loop false (rules.is_contained is_serial false s t none) (unwritten trusted.tidy) trusted_law cleared trusted; keeps = serial_keeps trusted.tidy }

    pub lawful_serial : IsLawful (serialising s)
    lawful_serial = record {
      one_cause = λ t c d p q. one_cause t (StandsAgainstSerial s t) none_forbids (rules.chain is_serial false s t).one c d p q;
      one_made = rules.one_made is_serial false s;
      one_to_one = λ t new keep p. subst IsOneToOne (sym p.1) (all_one_to_one t);
      some_made = λ t valid none. (flagged t s false, all_kept t, (refl, refl), rules.is_valid is_serial false s t none.0);
      keeps = λ t new keep valid none p trusted. subst (IsFaithful t) (sym p.0) (serial_faithful t valid none.0 trusted);
      keeps_on = λ t new keep data_bytes valid none p. owes_by_tidiness (serialising s) t new data_bytes (λ tidy. subst (Keeps t) (sym p.0) (serial_keeps t valid none.0 tidy));
    }

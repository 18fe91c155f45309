-- `reduce` is lawful.
use Rattle.std.proofs.Common.{ℕ, List, refl, sym, subst}
use Rattle.ped_tree.specs.Tree.{ProgramTree}
use Rattle.ped_rules.specs.ped_graph.specs.Keeping.{IsOneToOne}
use Rattle.ped_rules.specs.ped_symbols.specs.NameRefusals.{IsValid}
use Rattle.ped_rules.specs.ped_flow.specs.Questions.{LoopOf}
use Rattle.ped_rules.specs.ped_steps.specs.Causes.{NoRule}
use Rattle.ped_rules.specs.ped_steps.specs.Replacing.{all_kept}
use Rattle.ped_rules.specs.ped_steps.proofs.OneCause.{one_cause}
use Rattle.ped_rules.specs.ped_loop_runs.specs.Unrejected.{IsTrusted}
use Rattle.ped_rules.specs.ped_steps.specs.Runs.Meaning.{Keeps}
use Rattle.ped_rules.specs.Lawful.{IsFaithful, IsLawful}
use Rattle.ped_rules.proofs.KeptOnData.{owes_by_tidiness}
use Rattle.ped_rules.proofs.KeptNumbers.{all_one_to_one}
use Rattle.ped_rules.proofs.HeadLaws.OneHead.{TrustedLaw, ClearedLaw}
use Rattle.ped_reduce.specs.Reducing.{with_reduction, carried_beside, StandsAgainstReducing, reducing}
use Rattle.ped_reduce.proofs.ReducedPrograms.{reduced_is, reduced_keeps, reduced_trusted}
use Rattle.ped_reduce.proofs.ReducingRules as rules

module _ (trusted_law : TrustedLaw) (cleared : ClearedLaw) (s : ℕ) (names : List (List ℕ)) where
  module _ (t : ProgramTree) (valid : IsValid t) (none : NoRule (StandsAgainstReducing s names t)) where
    loop : LoopOf t s
    loop = rules.its_loop s names t none

    keeps : Keeps t (with_reduction t s names)
    keeps = subst (Keeps t) (sym (reduced_is t s loop names)) (reduced_keeps t s loop names)

    faithful : IsTrusted t → IsFaithful t (with_reduction t s names)
    faithful trusted = record { trusted = subst IsTrusted (sym (reduced_is t s loop names)) (reduced_trusted t s loop names valid (rules.is_contained s names t none) trusted_law cleared trusted); keeps = keeps }

  pub lawful : IsLawful (reducing s names)
  lawful = record {
    one_cause = λ t c d p q. one_cause t (StandsAgainstReducing s names t) (carried_beside t s names) (rules.chain s names t).one c d p q;
    one_made = rules.one_made s names;
    one_to_one = λ t new keep p. subst IsOneToOne (sym p.1) (all_one_to_one t);
    some_made = λ t valid none. (with_reduction t s names, all_kept t, (refl, refl), rules.is_valid s names t none.0);
    keeps = λ t new keep valid none p trusted. subst (IsFaithful t) (sym p.0) (faithful t valid none.0 trusted);
    keeps_on = λ t new keep data_bytes valid none p. owes_by_tidiness (reducing s names) t new data_bytes (λ tidy. subst (Keeps t) (sym p.0) (keeps t valid none.0));
  }

-- `peel` is lawful.
use Rattle.ped_base.specs.Lists.{has_some}
use Rattle.ped_rules.proofs.HeadLaws.OneHead.{ClearedLaw, TrustedLaw}
use Rattle.ped_rules.proofs.KeptNumbers.{moved_one_to_one}
use Rattle.ped_rules.specs.ped_steps.specs.Runs.Meaning.{Keeps}
use Rattle.ped_rules.proofs.KeptOnData.{owes_by_tidiness}
use Rattle.ped_rules.specs.Lawful.{IsFaithful, IsLawful}
use Rattle.ped_rules.specs.ped_loop_runs.specs.Unrejected.{IsTrusted}
use Rattle.ped_rules.specs.ped_steps.specs.Causes.{NoRule}
use Rattle.ped_rules.specs.ped_flow.specs.Questions.{LoopOf}
use Rattle.ped_rules.specs.ped_graph.specs.Keeping.{IsOneToOne}
use Rattle.ped_rules.specs.ped_symbols.specs.Kinds.{table_of}
use Rattle.ped_rules.specs.ped_symbols.specs.NameRefusals.{IsValid}
use Rattle.ped_reindex.proofs.Determined.{determined_peel}
use Rattle.ped_reindex.proofs.PeelKeeps.{peeled_keeps}
use Rattle.ped_reindex.proofs.PeelTrusted.{stays_trusted_peeled}
use Rattle.ped_reindex.specs.Peeling.{Peeled, StandsAgainstPeeling, has_far, moves_behind, peeled, peeled_of, peeling}
use Rattle.ped_tree.specs.Numbering.{statements_count}
use Rattle.ped_tree.specs.Tree.{ProgramTree}
use Rattle.std.proofs.Common.{Bool, List, Some, [], ap, false, refl, subst, sym, ℕ, ◌∙◌, ◌∷◌, ◌≡◌}
use Rattle.ped_reindex.proofs.PeelRules as rules

none_private : (xs : List (List ℕ)) → has_some xs ≡ false → xs ≡ []
none_private [] e = refl
none_private (x ∷ xs) e = absurd cc

module _ (trusted_law : TrustedLaw) (cleared : ClearedLaw) (s : ℕ) (last : Bool) where
  module _ (t : ProgramTree) (valid : IsValid t) (none : NoRule (StandsAgainstPeeling s last t)) (l : LoopOf t s) (p : Peeled) (found : peeled_of last (table_of t).constants l.head ≡ Some p) where
    near : has_far (Some p) ≡ false
    near = ap has_far (sym found) ∙ rules.is_near s last t none l

    peel_keeps : Keeps t (peeled t s last p)
    peel_keeps = peeled_keeps t valid s l last p found (rules.is_valid s last t none l p found) near (rules.is_contained s last t none) (rules.is_serial s last t none l) (none_private l.head.private (rules.is_shared s last t none l))

    peel_faithful : IsTrusted t → IsFaithful t (peeled t s last p)
    peel_faithful trusted = record { trusted = stays_trusted_peeled t valid s l last p trusted_law cleared (rules.is_contained s last t none) trusted; keeps = peel_keeps }

  pub lawful_peel : IsLawful (peeling s last)
  lawful_peel = record {
    one_cause = (determined_peel s last).one_cause;
    one_made = (determined_peel s last).one_made;
    one_to_one = λ t new keep m. subst IsOneToOne (sym m.4) (moved_one_to_one t (moves_behind last s (statements_count m.0.body)) (statements_count m.0.body));
    some_made = (determined_peel s last).some_made;
    keeps = λ t new keep valid none m trusted. subst (IsFaithful t) (sym m.3) (peel_faithful t valid none.0 m.0 m.1 m.2 trusted);
    keeps_on = λ t new keep data_bytes valid none m. owes_by_tidiness (peeling s last) t new data_bytes (λ tidy. subst (Keeps t) (sym m.3) (peel_keeps t valid none.0 m.0 m.1 m.2));
  }

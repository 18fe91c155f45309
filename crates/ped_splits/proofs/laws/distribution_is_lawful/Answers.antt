use Rattle.std.proofs.Common.{sym, subst}
use Rattle.ped_tree.specs.Tree.{ProgramTree}
use Rattle.ped_rules.specs.Lawful.{IsFaithful}
use Rattle.ped_rules.specs.ped_loop_runs.specs.Meaning.{KeepsOn}
use Rattle.ped_splits.proofs.Determined.{determined_distribution}
use Rattle.ped_splits.proofs.DistributeRules as rules
use Rattle.ped_splits.proofs.DistributeTrusted.{stays_trusted_distributed}
use Rattle.ped_splits.proofs.OneToOne.{one_to_one}
use Rattle.ped_splits.proofs.SplitFacts.{is_split}
use Rattle.ped_splits.proofs.SplitKeeps.{distributed_always, distributed_keeps}
use Rattle.ped_splits.proofs.laws.distribution_is_lawful.Goals as goal

pub returns : goal.returns
returns c s = record {
  one_cause = (determined_distribution s).one_cause;
  one_made = (determined_distribution s).one_made;
  one_to_one = one_to_one s;
  some_made = (determined_distribution s).some_made;
  keeps = λ t new keep valid none m trusted.
      let l = m.0 in
      let found = m.1 in
      let are = m.2 in
      subst (IsFaithful t) (sym m.3) (record {
        trusted = stays_trusted_distributed t valid s l found are (rules.are_many s t none.0 l found are) (rules.is_serial s t none.0 l) (rules.is_contained s t none.0) c.stays_trusted.ensures c.private_names_cleared.ensures trusted;
        keeps = distributed_always c.accesses_are_made.ensures c.accesses_in_sequence.ensures c.none_rejected.ensures.true_on t s l found (is_split t s l found valid none.0 are) trusted.unrejected;
      });
  keeps_on = λ t new keep data_bytes valid none m kind tidy new_tidy holds more free.
      subst (λ (u : ProgramTree). KeepsOn t u data_bytes) (sym m.3)
      (distributed_keeps c.accesses_are_made.ensures c.accesses_in_sequence.ensures t s m.0 m.1 (is_split t s m.0 m.1 valid none.0 m.2) data_bytes holds free);
}

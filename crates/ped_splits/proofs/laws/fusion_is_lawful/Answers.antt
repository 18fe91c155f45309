use Rattle.std.proofs.Common.{sym, subst}
use Rattle.ped_tree.specs.Tree.{ProgramTree}
use Rattle.ped_rules.specs.Lawful.{IsFaithful}
use Rattle.ped_rules.specs.ped_loop_runs.specs.Meaning.{KeepsOn}
use Rattle.ped_splits.proofs.Determined.{determined_fusion}
use Rattle.ped_splits.proofs.FusableFacts.{is_fusable}
use Rattle.ped_splits.proofs.FusedKeeps.{fused_always, fused_keeps}
use Rattle.ped_splits.proofs.FusedTidy.{stays_trusted_fused}
use Rattle.ped_splits.proofs.FuseOne.{one_to_one}
use Rattle.ped_splits.proofs.laws.fusion_is_lawful.Goals as goal

pub returns : goal.returns
returns c s = record {
  one_cause = (determined_fusion s).one_cause;
  one_made = (determined_fusion s).one_made;
  one_to_one = one_to_one s;
  some_made = (determined_fusion s).some_made;
  keeps = λ t new keep valid none m trusted.
      let fusable = is_fusable t s m.0 valid trusted.tidy none in
      subst (IsFaithful t) (sym m.1) (record {
        trusted = stays_trusted_fused t s m.0 fusable trusted.unrejected;
        keeps = fused_always c.accesses_are_made.ensures t s m.0 fusable trusted.unrejected;
      });
  keeps_on = λ t new keep data_bytes valid none m kind tidy new_tidy holds fused_holds free.
      subst (λ (u : ProgramTree). KeepsOn t u data_bytes) (sym m.1)
      (fused_keeps c.accesses_are_made.ensures t s m.0 (is_fusable t s m.0 valid tidy none) data_bytes fused_holds free);
}

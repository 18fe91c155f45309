-- What the step comes to is determined, whatever it keeps of the meaning.
use Rattle.std.proofs.Common.{ℕ, refl}
use Rattle.ped_rules.specs.ped_steps.specs.Causes.{none_forbids}
use Rattle.ped_rules.specs.ped_steps.proofs.OneCause.{one_cause}
use Rattle.ped_rules.specs.Lawful.{IsDetermined}
use Rattle.ped_splits.specs.Distributing.{distributed, StandsAgainstDistribution, distributing}
use Rattle.ped_splits.proofs.DistributeRules.{kept, one_made, chain, its_loop, is_valid}
use Rattle.ped_splits.proofs.Existence.Closures.{pi_blocks_exist}
use Rattle.ped_splits.specs.Neighbours.{fused, next_number, kept_without}
use Rattle.ped_splits.specs.Fusing.{fusing}
use Rattle.ped_splits.proofs.FusableFacts.{its_match, is_valid as fused_valid}
use Rattle.ped_splits.proofs.FuseOne as fuse

pub determined_distribution : (s : ℕ) → IsDetermined (distributing s)
determined_distribution s = record {
  one_cause = λ t c d p q. one_cause t (StandsAgainstDistribution s t) none_forbids (chain s t).one c d p q;
  one_made = one_made s;
  some_made = λ t valid none.
      let l = its_loop s t none.0 in
      let found = pi_blocks_exist t s l.head l.body in
      (distributed t s found.0, kept s t l.body found.0, (l, found.0, found.1, refl, refl), is_valid s t none.0 l found.0 found.1);
}

pub determined_fusion : (s : ℕ) → IsDetermined (fusing s)
determined_fusion s = record {
  one_cause = λ t. fuse.one_fusion_cause s t;
  one_made = fuse.one_made s;
  some_made = λ t valid none.
      let m = its_match t s none.0 in
      (fused m.neighbour, kept_without (next_number m.neighbour) t, (m, refl, refl), fused_valid t s none.0 m);
}

-- What `reduce` comes to is determined, whatever it keeps of the meaning.
use Rattle.std.proofs.Common.{ℕ, List, refl}
use Rattle.ped_auto.specs.ped_rules.specs.ped_steps.specs.Replacing.{all_kept}
use Rattle.ped_auto.specs.ped_rules.specs.ped_steps.proofs.OneCause.{one_cause}
use Rattle.ped_auto.specs.ped_rules.specs.Lawful.{IsDetermined}
use Rattle.ped_reduce.specs.Reducing.{with_reduction, carried_beside, StandsAgainstReducing, reducing}
use Rattle.ped_reduce.proofs.ReducingRules as rules

pub determined_reduction : (s : ℕ) (names : List (List ℕ)) → IsDetermined (reducing s names)
determined_reduction s names = record {
  one_cause = λ t c d p q. one_cause t (StandsAgainstReducing s names t) (carried_beside t s names) (rules.chain s names t).one c d p q;
  one_made = rules.one_made s names;
  some_made = λ t valid none. (with_reduction t s names, all_kept t, (refl, refl), rules.is_valid s names t none.0);
}

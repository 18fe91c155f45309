-- What each step comes to is determined, whatever it keeps of the meaning.
use Rattle.std.proofs.Common.{ℕ, ℤ, Bool, refl}
use Rattle.ped_rules.specs.ped_steps.specs.Causes.{none_forbids}
use Rattle.ped_rules.specs.ped_steps.specs.Replacing.{all_kept}
use Rattle.ped_rules.specs.ped_steps.proofs.OneCause.{one_cause}
use Rattle.ped_rules.specs.KeepMaps.{moved_by}
use Rattle.ped_rules.specs.Lawful.{IsDetermined}
use Rattle.ped_reindex.specs.Skewing.{skewed, StandsAgainstSkewing, skewing}
use Rattle.ped_reindex.specs.Stripping.{stripped, StandsAgainstStripping, stripping}
use Rattle.ped_reindex.specs.Peeling.{peeled, peel_kept, StandsAgainstPeeling, peeling}
use Rattle.ped_reindex.proofs.SkewRules as skew
use Rattle.ped_reindex.proofs.StripRules as strip
use Rattle.ped_reindex.proofs.PeelRules as peel

pub determined_skew : (s : ℕ) (f : ℤ) → IsDetermined (skewing s f)
determined_skew s f = record {
  one_cause = λ t c d p q. one_cause t (StandsAgainstSkewing s f t) none_forbids (skew.chain s f t).one c d p q;
  one_made = skew.one_made s f;
  some_made = λ t valid none. (skewed t s f, all_kept t, (refl, refl), skew.is_valid s f t none.0);
}

pub determined_strip : (s : ℕ) (k : ℤ) → IsDetermined (stripping s k)
determined_strip s k = record {
  one_cause = λ t c d p q. one_cause t (StandsAgainstStripping s k t) none_forbids (strip.chain s k t).one c d p q;
  one_made = strip.one_made s k;
  some_made = λ t valid none.
      let w = strip.its_variable s k t none.0 in
      (stripped t s k w.0, moved_by s 1 t, (w.0, w.1, refl, refl), strip.is_valid s k t none.0 w.0 w.1);
}

pub determined_peel : (s : ℕ) (last : Bool) → IsDetermined (peeling s last)
determined_peel s last = record {
  one_cause = λ t c d p q. one_cause t (StandsAgainstPeeling s last t) none_forbids (peel.chain s last t).one c d p q;
  one_made = peel.one_made s last;
  some_made = λ t valid none.
      let l = peel.its_loop s last t none.0 in
      let p = peel.its_iteration s last t none.0 l in
      (peeled t s last p.0, peel_kept t s last l.body, (l, p.0, p.1, refl, refl), peel.is_valid s last t none.0 l p.0 p.1);
}

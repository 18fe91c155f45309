-- What each step comes to is determined, whatever it keeps of the meaning.
use Rattle.std.proofs.Common.{ℕ, ◌+◌, List, true, false, refl}
use Rattle.ped_rules.specs.ped_steps.specs.Causes.{none_forbids}
use Rattle.ped_rules.specs.ped_steps.specs.Replacing.{all_kept}
use Rattle.ped_rules.specs.ped_steps.proofs.OneCause.{one_cause}
use Rattle.ped_rules.specs.Carried.{carried, crossing}
use Rattle.ped_rules.specs.KeepMaps.{all_but}
use Rattle.ped_rules.specs.Rules.{is_parallel, is_serial}
use Rattle.ped_rules.specs.Lawful.{IsDetermined}
use Rattle.ped_rules.specs.Flags.{flagged}
use Rattle.ped_rules.specs.Paralleling.{StandsAgainstParallel, paralleling}
use Rattle.ped_evidence.specs.Evidence.{Line}
use Rattle.ped_loops.specs.ByEvidence.{carried_open, crossing_open, paralleling_by, reversing_by, interchanging_by}
use Rattle.ped_loops.specs.Serialising.{StandsAgainstSerial, serialising}
use Rattle.ped_loops.specs.Reversing.{reversed, StandsAgainstReversal, reversing}
use Rattle.ped_loops.specs.Interchanging.{interchanged, StandsAgainstInterchange, interchanging}
use Rattle.ped_loops.specs.Rejecting.{rejecting}
use Rattle.ped_rules.proofs.HeadLaws.FlagRules as flags
use Rattle.ped_loops.proofs.ReverseRules as reversal
use Rattle.ped_loops.proofs.RejectRules as rejection
use Rattle.ped_loops.proofs.InterchangeRules as interchange

pub determined_parallel : (s : ℕ) → IsDetermined (paralleling s)
determined_parallel s = record {
  one_cause = λ t c d p q. one_cause t (StandsAgainstParallel s t) (carried t s) (flags.chain is_parallel true s t).one c d p q;
  one_made = flags.one_made is_parallel true s;
  some_made = λ t valid none. (flagged t s true, all_kept t, (refl, refl), flags.is_valid is_parallel true s t none.0);
}

pub determined_serial : (s : ℕ) → IsDetermined (serialising s)
determined_serial s = record {
  one_cause = λ t c d p q. one_cause t (StandsAgainstSerial s t) none_forbids (flags.chain is_serial false s t).one c d p q;
  one_made = flags.one_made is_serial false s;
  some_made = λ t valid none. (flagged t s false, all_kept t, (refl, refl), flags.is_valid is_serial false s t none.0);
}

pub determined_reversal : (s : ℕ) → IsDetermined (reversing s)
determined_reversal s = record {
  one_cause = λ t c d p q. one_cause t (StandsAgainstReversal s t) (carried t s) (reversal.chain s t).one c d p q;
  one_made = reversal.one_made s;
  some_made = λ t valid none. (reversed t s, all_kept t, (refl, refl), reversal.is_valid s t none.0);
}

pub determined_interchange : (s : ℕ) → IsDetermined (interchanging s)
determined_interchange s = record {
  one_cause = λ t c d p q. one_cause t (StandsAgainstInterchange s t) (crossing t s) (interchange.chain s t).one c d p q;
  one_made = interchange.one_made s;
  some_made = λ t valid none. (interchanged t s, all_but s (s + 1) t, (refl, refl), interchange.is_valid s t none.0);
}

-- with evidence the rules and what is made are the same
pub determined_parallel_by : (s : ℕ) (evidence : List Line) → IsDetermined (paralleling_by s evidence)
determined_parallel_by s evidence =
    let plain = determined_parallel s in
    record {
      one_cause = λ t c d p q. one_cause t (StandsAgainstParallel s t) (carried_open t s evidence) (flags.chain is_parallel true s t).one c d p q;
      one_made = plain.one_made;
      some_made = λ t valid none. (flagged t s true, all_kept t, (refl, refl), flags.is_valid is_parallel true s t none.0);
    }

pub determined_reversal_by : (s : ℕ) (evidence : List Line) → IsDetermined (reversing_by s evidence)
determined_reversal_by s evidence =
    let plain = determined_reversal s in
    record {
      one_cause = λ t c d p q. one_cause t (StandsAgainstReversal s t) (carried_open t s evidence) (reversal.chain s t).one c d p q;
      one_made = plain.one_made;
      some_made = λ t valid none. (reversed t s, all_kept t, (refl, refl), reversal.is_valid s t none.0);
    }

pub determined_interchange_by : (s : ℕ) (evidence : List Line) → IsDetermined (interchanging_by s evidence)
determined_interchange_by s evidence =
    let plain = determined_interchange s in
    record {
      one_cause = λ t c d p q. one_cause t (StandsAgainstInterchange s t) (crossing_open t s evidence) (interchange.chain s t).one c d p q;
      one_made = plain.one_made;
      some_made = λ t valid none. (interchanged t s, all_but s (s + 1) t, (refl, refl), interchange.is_valid s t none.0);
    }

pub determined_rejection : (s : ℕ) (x : List ℕ) → IsDetermined (rejecting s x)
determined_rejection s x =
    let lawful = rejection.lawful_rejection s x in
    record { one_cause = lawful.one_cause; one_made = lawful.one_made; some_made = lawful.some_made }

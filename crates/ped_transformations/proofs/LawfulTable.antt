-- Each step of the table is determined, and lawful.
use Rattle.std.proofs.Common.{ℕ, ℤ, List, Bool}
use Rattle.ped_script.specs.declared.kinds.WhichStep.{WhichStep}
use Rattle.ped_script.specs.declared.kinds.WhichStep.TheVariants.{Interchange, Reverse, Skew, Strip, Peel, Distribute, Fuse, Inline, Expand, Privatise, Reduce, Parallel, Serial, Reject, ParallelBy, ReverseBy, InterchangeBy}
use Rattle.ped_script.specs.declared.kinds.StepCommand.{StepCommand}
use Rattle.ped_auto.specs.ped_rules.specs.Steps.{StepAt}
use Rattle.ped_auto.specs.ped_rules.specs.Lawful.{IsDetermined, IsLawful}
use Rattle.ped_scalar.proofs.LawfulSteps.{lawful_privatising, lawful_expanding}
use Rattle.ped_loops.specs.Interchanging.{interchanging}
use Rattle.ped_loops.specs.Reversing.{reversing}
use Rattle.ped_auto.specs.ped_rules.specs.Paralleling.{paralleling}
use Rattle.ped_loops.specs.ped_evidence.specs.Evidence.{Line}
use Rattle.ped_loops.specs.ped_evidence.specs.Lines.{lines_of}
use Rattle.ped_loops.specs.ByEvidence.{paralleling_by, reversing_by, interchanging_by}
use Rattle.ped_loops.specs.Serialising.{serialising}
use Rattle.ped_loops.specs.Rejecting.{rejecting}
use Rattle.ped_reindex.specs.Skewing.{skewing}
use Rattle.ped_reindex.specs.Stripping.{stripping}
use Rattle.ped_reindex.specs.Peeling.{peeling}
use Rattle.ped_splits.specs.Distributing.{distributing}
use Rattle.ped_splits.specs.Fusing.{fusing}
use Rattle.ped_reduce.specs.Reducing.{reducing}
use Rattle.ped_loops.proofs.Determined.{determined_parallel, determined_serial, determined_reversal, determined_interchange, determined_rejection, determined_parallel_by, determined_reversal_by, determined_interchange_by}
use Rattle.ped_reindex.proofs.Determined.{determined_skew, determined_strip, determined_peel}
use Rattle.ped_splits.proofs.Determined.{determined_distribution, determined_fusion}
use Rattle.ped_inline.specs.Inlining as inlines
use Rattle.ped_inline.proofs.InlineLawful.{lawful_inline}
use Rattle.ped_transformations.proofs.DeterminedReduction.{determined_reduction}
use Rattle.ped_transformations.specs.Table.{step_at, step_of}

determined_by : (at : StepAt) → IsLawful at → IsDetermined at
determined_by at lawful = record { one_cause = lawful.one_cause; one_made = lawful.one_made; some_made = lawful.some_made }

-- what a step comes to is determined
pub determined_step : (number : ℕ) (step : WhichStep) → IsDetermined (step_at number step)
determined_step number (Expand name) = determined_by _ (lawful_expanding number name)
determined_step number (Privatise name) = determined_by _ (lawful_privatising number name)
determined_step number (Reduce names) = determined_reduction number names
determined_step number Interchange = determined_interchange number
determined_step number Reverse = determined_reversal number
determined_step number Parallel = determined_parallel number
determined_step number Serial = determined_serial number
determined_step number (Reject name) = determined_rejection number name
determined_step number (ParallelBy evidence) = determined_parallel_by number (lines_of evidence)
determined_step number (ReverseBy evidence) = determined_reversal_by number (lines_of evidence)
determined_step number (InterchangeBy evidence) = determined_interchange_by number (lines_of evidence)
determined_step number (Skew factor) = determined_skew number factor
determined_step number (Strip size) = determined_strip number size
determined_step number (Peel last) = determined_peel number last
determined_step number Distribute = determined_distribution number
determined_step number Fuse = determined_fusion number
determined_step number Inline = determined_by _ (lawful_inline number)

-- the steps on loops, reductions, and blocks of CALLs are lawful
pub record LoopsLawful : Type 0 where
  pub interchange : (s : ℕ) → IsLawful (interchanging s)
  pub reversal : (s : ℕ) → IsLawful (reversing s)
  pub parallel : (s : ℕ) → IsLawful (paralleling s)
  pub serial : (s : ℕ) → IsLawful (serialising s)
  pub rejection : (s : ℕ) (x : List ℕ) → IsLawful (rejecting s x)
  pub parallel_by : (s : ℕ) (evidence : List Line) → IsLawful (paralleling_by s evidence)
  pub reversal_by : (s : ℕ) (evidence : List Line) → IsLawful (reversing_by s evidence)
  pub interchange_by : (s : ℕ) (evidence : List Line) → IsLawful (interchanging_by s evidence)
  pub skew : (s : ℕ) (f : ℤ) → IsLawful (skewing s f)
  pub strip : (s : ℕ) (k : ℤ) → IsLawful (stripping s k)
  pub peel : (s : ℕ) (last : Bool) → IsLawful (peeling s last)
  pub distribution : (s : ℕ) → IsLawful (distributing s)
  pub fusion : (s : ℕ) → IsLawful (fusing s)
  pub reduction : (s : ℕ) (names : List (List ℕ)) → IsLawful (reducing s names)
  pub inlining : (s : ℕ) → IsLawful (inlines.inlining s)

lawful_at : LoopsLawful → (number : ℕ) (step : WhichStep) → IsLawful (step_at number step)
lawful_at loops number (Expand name) = lawful_expanding number name
lawful_at loops number (Privatise name) = lawful_privatising number name
lawful_at loops number (Reduce names) = loops.reduction number names
lawful_at loops number Interchange = loops.interchange number
lawful_at loops number Reverse = loops.reversal number
lawful_at loops number Parallel = loops.parallel number
lawful_at loops number Serial = loops.serial number
lawful_at loops number (Reject name) = loops.rejection number name
lawful_at loops number (ParallelBy evidence) = loops.parallel_by number (lines_of evidence)
lawful_at loops number (ReverseBy evidence) = loops.reversal_by number (lines_of evidence)
lawful_at loops number (InterchangeBy evidence) = loops.interchange_by number (lines_of evidence)
lawful_at loops number (Skew factor) = loops.skew number factor
lawful_at loops number (Strip size) = loops.strip number size
lawful_at loops number (Peel last) = loops.peel number last
lawful_at loops number Distribute = loops.distribution number
lawful_at loops number Fuse = loops.fusion number
lawful_at loops number Inline = loops.inlining number

-- each step of the table is lawful
abbrev pub AllLawful : Type 0
AllLawful = (command : StepCommand) → IsLawful (step_of command)

pub lawful_step : LoopsLawful → AllLawful
lawful_step loops command = lawful_at loops command.statement command.step

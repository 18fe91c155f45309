-- Each step has a first cause against it in a program, or none, and then it makes a program, which is valid.
use Rattle.std.proofs.Common.{◌⊎◌, ℕ, inl, inr, List, Option, Some, None}
use Rattle.ped_tree.specs.Tree.{ProgramTree}
use Rattle.ped_session.specs.ped_symbols.specs.NameRefusals.{IsValid}
use Rattle.ped_session.specs.ped_steps.specs.Causes.{Cause}
use Rattle.ped_script.specs.declared.kinds.WhichStep.{WhichStep}
use Rattle.ped_script.specs.declared.kinds.WhichStep.TheVariants.{Interchange, InterchangeBy, Reverse, ReverseBy, Skew, Strip, Peel, Distribute, Fuse, Inline, Expand, Privatise, Reduce, Parallel, ParallelBy, Serial, Reject}
use Rattle.ped_session.specs.ped_rules.specs.Carried.{carried, crossing}
use Rattle.ped_session.specs.ped_rules.specs.Steps.{StepAt}
use Rattle.ped_session.specs.ped_transformations.specs.ped_loops.specs.ByEvidence.{carried_open, crossing_open}
use Rattle.ped_session.specs.ped_transformations.specs.ped_evidence.specs.Lines.{lines_of}
use Rattle.ped_session.specs.ped_rules.specs.Lawful.{IsDetermined}
use Rattle.ped_session.specs.ped_transformations.specs.Table.{step_at}
use Rattle.ped_session.specs.ped_transformations.proofs.LawfulTable.{determined_step}
use Rattle.ped_answer.proofs.ExistenceLaws.ReindexCauses.{skew_cause, strip_cause, peel_cause}
use Rattle.ped_answer.proofs.ExistenceLaws.DistributeCauses.{distribute_cause}
use Rattle.ped_answer.proofs.ExistenceLaws.FuseCauses.{fuse_cause}
use Rattle.ped_answer.proofs.ExistenceLaws.InterchangeCauses.{interchange_cause}
use Rattle.ped_answer.proofs.ExistenceLaws.LoopCauses.{parallel_cause, serial_cause, reversal_cause, rejection_cause}
use Rattle.ped_answer.proofs.ExistenceLaws.ScalarCauses.{privatising_cause, expanding_cause}
use Rattle.ped_answer.proofs.ExistenceLaws.SumCauses.{reducing_cause}
use Rattle.ped_answer.proofs.ExistenceLaws.BlockCauses.{inlining_cause}

-- a step is forbidden by a first cause, or it makes a valid program
abbrev pub Goes : StepAt → ProgramTree → Type 0
Goes at t = ((c : Cause) × at.IsCause t (Some c)) ⊎ (at.IsCause t None × (new : ProgramTree) × (keep : List (ℕ × ℕ)) × at.Makes t new keep × IsValid new)

-- in each program a first cause is against a step, or none
abbrev pub HasCause : StepAt → Type 0
HasCause at = (t : ProgramTree) → (c : Option Cause) × at.IsCause t c

-- so a determined step goes
goes_by : (at : StepAt) → IsDetermined at → HasCause at → (t : ProgramTree) → IsValid t → Goes at t
goes_by at determined some t valid = by (some t)
  where
    by : (c : Option Cause) × at.IsCause t c → Goes at t
    by (Some c, is) = inl (c, is)
    by (None, none) = let made = determined.some_made t valid none in inr (none, made.0, made.1, made.2, made.3)

-- each step of the table has one
pub each_cause : (number : ℕ) (step : WhichStep) → HasCause (step_at number step)
each_cause number (Expand name) = λ t. expanding_cause t number name
each_cause number (Privatise name) = λ t. privatising_cause t number name
each_cause number Interchange = λ t. interchange_cause t number (crossing t number)
each_cause number (InterchangeBy evidence) = λ t. interchange_cause t number (crossing_open t number (lines_of evidence))
each_cause number Reverse = λ t. reversal_cause t number (carried t number)
each_cause number (ReverseBy evidence) = λ t. reversal_cause t number (carried_open t number (lines_of evidence))
each_cause number (Skew factor) = λ t. skew_cause t number factor
each_cause number (Strip size) = λ t. strip_cause t number size
each_cause number (Peel last) = λ t. peel_cause t number last
each_cause number Distribute = λ t. distribute_cause t number
each_cause number Fuse = λ t. fuse_cause t number
each_cause number Inline = λ t. inlining_cause t number
each_cause number (Reduce names) = λ t. reducing_cause t number names
each_cause number Parallel = λ t. parallel_cause t number (carried t number)
each_cause number (ParallelBy evidence) = λ t. parallel_cause t number (carried_open t number (lines_of evidence))
each_cause number Serial = λ t. serial_cause t number
each_cause number (Reject name) = λ t. rejection_cause t number name

pub each_goes : (number : ℕ) (step : WhichStep) (t : ProgramTree) → IsValid t → Goes (step_at number step) t
each_goes number step = goes_by (step_at number step) (determined_step number step) (each_cause number step)

-- The only table of the steps: what each is at a statement (ParaScope; this project).
use Rattle.std.specs.Prelude.{ℕ}
use Rattle.ped_script.specs.declared.kinds.WhichStep.{WhichStep}
use Rattle.ped_script.specs.declared.kinds.WhichStep.TheVariants.{Interchange, Reverse, Skew, Strip, Peel, Distribute, Fuse, Inline, Expand, Privatise, Reduce, Parallel, Serial, Reject, ParallelBy, ReverseBy, InterchangeBy}
use Rattle.ped_script.specs.declared.kinds.StepCommand.{StepCommand}
use Rattle.ped_auto.specs.ped_rules.specs.Steps.{StepAt}
use Rattle.ped_loops.specs.ped_evidence.specs.Lines.{lines_of}
use Rattle.ped_scalar.specs.Privatising.{privatising}
use Rattle.ped_scalar.specs.Expanding.{expanding}
use Rattle.ped_loops.specs.Interchanging.{interchanging}
use Rattle.ped_loops.specs.Reversing.{reversing}
use Rattle.ped_auto.specs.ped_rules.specs.Paralleling.{paralleling}
use Rattle.ped_loops.specs.ByEvidence.{paralleling_by, reversing_by, interchanging_by}
use Rattle.ped_loops.specs.Serialising.{serialising}
use Rattle.ped_loops.specs.Rejecting.{rejecting}
use Rattle.ped_reindex.specs.Skewing.{skewing}
use Rattle.ped_reindex.specs.Stripping.{stripping}
use Rattle.ped_reindex.specs.Peeling.{peeling}
use Rattle.ped_splits.specs.Distributing.{distributing}
use Rattle.ped_splits.specs.Fusing.{fusing}
use Rattle.ped_reduce.specs.Reducing.{reducing}
use Rattle.ped_inline.specs.Inlining.{inlining}

-- the step at the statement with this number
abbrev pub step_at : ℕ → WhichStep → StepAt
step_at number (Expand name) = expanding number name
step_at number (Privatise name) = privatising number name
step_at number (Reduce names) = reducing number names
step_at number Interchange = interchanging number
step_at number Reverse = reversing number
step_at number (Skew factor) = skewing number factor
step_at number (Strip size) = stripping number size
step_at number (Peel last) = peeling number last
step_at number Distribute = distributing number
step_at number Fuse = fusing number
step_at number Inline = inlining number
step_at number Parallel = paralleling number
step_at number Serial = serialising number
step_at number (Reject name) = rejecting number name
step_at number (ParallelBy evidence) = paralleling_by number (lines_of evidence)
step_at number (ReverseBy evidence) = reversing_by number (lines_of evidence)
step_at number (InterchangeBy evidence) = interchanging_by number (lines_of evidence)

-- the step that a command takes
abbrev pub step_of : StepCommand → StepAt
step_of command = step_at command.statement command.step

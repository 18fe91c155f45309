-- What steps answer (this project).
use Rattle.std.specs.Prelude.{Bool, true, false}
use Rattle.ped_machine.specs.declared.steps.Done.{Done}
use Rattle.ped_machine.specs.declared.steps.Done.TheVariants as done
use Rattle.ped_machine.specs.declared.steps.Step.{Step}
use Rattle.ped_machine.specs.declared.steps.Step.TheVariants as step

-- the run has ended by a step of what was left of it, so that nothing is left: a STOP or a fault
abbrev pub ends_run : Done → Bool
ends_run done.Went = false
ends_run done.Ended = false
ends_run done.Halted = true
ends_run (done.Fault number n) = true

-- the step of a run, by that of the rest: a STOP is an act as others are
abbrev pub step_by : Done → Step
step_by done.Went = step.Went
step_by done.Ended = step.Ended
step_by done.Halted = step.Went
step_by (done.Fault number n) = step.Fault number n

-- no step follows
abbrev pub is_last : Step → Bool
is_last step.Went = false
is_last step.Ended = true
is_last (step.Fault number n) = true

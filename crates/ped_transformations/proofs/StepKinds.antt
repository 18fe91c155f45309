-- Where each step of the table is taken, and of which kind it is.
use Rattle.std.proofs.Common.{◌≡◌, ℕ, refl}
use Rattle.std.specs.Prelude.{if◌then◌else◌}
use Rattle.ped_script.specs.declared.kinds.WhichStep.{WhichStep}
use Rattle.ped_script.specs.declared.kinds.WhichStep.TheVariants.{Interchange, Reverse, Skew, Strip, Peel, Distribute, Fuse, Inline, Expand, Privatise, Reduce, Parallel, Serial, Reject, ParallelBy, ReverseBy, InterchangeBy}
use Rattle.ped_script.specs.Kinds.{is_rejection}
use Rattle.ped_auto.specs.ped_rules.specs.Steps.{StepKind, transformation, rejection}
use Rattle.ped_transformations.specs.Table.{step_at}

-- it is taken at its statement; `reject` is a rejection, and every other step a transformation
pub kind_is : (number : ℕ) (step : WhichStep) → ((step_at number step).statement ≡ number) × ((step_at number step).kind ≡ (if is_rejection step then rejection else transformation))
kind_is number Interchange = (refl, refl)
kind_is number Reverse = (refl, refl)
kind_is number (Skew factor) = (refl, refl)
kind_is number (Strip size) = (refl, refl)
kind_is number (Peel last) = (refl, refl)
kind_is number Distribute = (refl, refl)
kind_is number Fuse = (refl, refl)
kind_is number Inline = (refl, refl)
kind_is number (Expand name) = (refl, refl)
kind_is number (Privatise name) = (refl, refl)
kind_is number (Reduce names) = (refl, refl)
kind_is number Parallel = (refl, refl)
kind_is number Serial = (refl, refl)
kind_is number (Reject name) = (refl, refl)
kind_is number (ParallelBy evidence) = (refl, refl)
kind_is number (ReverseBy evidence) = (refl, refl)
kind_is number (InterchangeBy evidence) = (refl, refl)

use Rattle.std.proofs.Common.{subst}
use Rattle.ped_transformations.specs.CodeAdvice.{IsTellable}
use Rattle.ped_transformations.proofs.advising.push_verdict.Goals as goal

pub push_cause-requires : goal.push_cause-requires
push_cause-requires c = subst IsTellable c.in-Some.is c.requires

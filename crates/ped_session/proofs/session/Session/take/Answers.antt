use Rattle.std.proofs.Common.{◌+◌, ◌≤◌, subst, sym}
use Rattle.ped_session.specs.Changing.{most_tests}
use Rattle.ped_session.proofs.session.Session.take.Goals as goal

pub returns-in-Ok-clause-most : goal.returns-in-Ok-clause-most
returns-in-Ok-clause-most g c old reads =
    subst (λ a. c.change.new.steps ≤ c.args.steps.now + most_tests a old) (sym c.in-Ok.is) (c.change.ensures.most old reads)

use Rattle.ped_bodies.proofs.BodyLaws.LikewiseActs.{likewise_append, likewise_stripped, likewise_renamed, likewise_same}
use Rattle.ped_bodies.proofs.BodyLaws.LikewisePlaces.{acts_outside}
use Rattle.ped_bodies.proofs.acts.likewise_acts.Goals as goal

pub returns-clause-renamed : goal.returns-clause-renamed
returns-clause-renamed c = likewise_renamed

pub returns-clause-stripped : goal.returns-clause-stripped
returns-clause-stripped c = λ name idle f turns others acts fresh kept. likewise_stripped name idle kept f turns others acts fresh

pub returns-clause-same : goal.returns-clause-same
returns-clause-same c = likewise_same

pub returns-clause-outside : goal.returns-clause-outside
returns-clause-outside c = acts_outside

pub returns-clause-joined : goal.returns-clause-joined
returns-clause-joined c = likewise_append

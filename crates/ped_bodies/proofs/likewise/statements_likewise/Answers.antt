use Rattle.ped_bodies.proofs.BodyLaws.LikewiseRuns.{do_likewise, go_likewise}
use Rattle.ped_bodies.proofs.likewise.statements_likewise.Goals as goal

pub returns-clause-rewritten : goal.returns-clause-rewritten
returns-clause-rewritten c = do_likewise

pub returns-clause-going_on : goal.returns-clause-going_on
returns-clause-going_on c = go_likewise

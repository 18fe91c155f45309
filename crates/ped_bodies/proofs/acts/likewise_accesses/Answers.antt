use Rattle.ped_bodies.proofs.BodyLaws.LikewiseAccesses.{likewise_accesses}
use Rattle.ped_bodies.proofs.acts.likewise_accesses.Goals as goal

pub returns : goal.returns
returns c = λ name idle f turns others acts fresh laws no_lines. likewise_accesses name idle laws no_lines f turns others acts fresh

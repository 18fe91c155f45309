use Rattle.ped_bodies.proofs.BodyLaws.Instances.{moved, put_in}
use Rattle.ped_bodies.proofs.likewise.bodies_likewise.Goals as goal

pub returns-clause-moved : goal.returns-clause-moved
returns-clause-moved c = λ f p q ts n m name idle scope other agree laws tell cells. moved f p q ts n m agree name idle scope other laws tell cells

pub returns-clause-substituted : goal.returns-clause-substituted
returns-clause-substituted c = λ f p q ts n m x by name idle scope other agree laws may gives cells. put_in f p q ts n m agree x by name idle scope other laws may gives cells

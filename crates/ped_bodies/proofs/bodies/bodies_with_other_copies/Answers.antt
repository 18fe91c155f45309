use Rattle.ped_bodies.proofs.BodyLaws.Instances.{with_other_copies, with_exchanged_cells}
use Rattle.ped_bodies.proofs.bodies.bodies_with_other_copies.Goals as goal

pub returns-clause-idle : goal.returns-clause-idle
returns-clause-idle c = λ p q ts n m apart scope other agree. with_other_copies p q ts n m agree apart scope other

pub returns-clause-exchanged : goal.returns-clause-exchanged
returns-clause-exchanged c = λ p q ts n m name scope other agree. with_exchanged_cells p q ts n m agree name scope other

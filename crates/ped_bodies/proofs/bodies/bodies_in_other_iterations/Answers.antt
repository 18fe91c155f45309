use Rattle.ped_bodies.proofs.BodyLaws.Instances.{reversed_body, distributed_body, stripped_body, unpeeled_body, interchanged_body}
use Rattle.ped_bodies.proofs.bodies.bodies_in_other_iterations.Goals as goal

pub returns-clause-reversed : goal.returns-clause-reversed
returns-clause-reversed c = λ p q ts n m scope l k r z agree. reversed_body p q ts n m agree scope l k r z

pub returns-clause-distributed : goal.returns-clause-distributed
returns-clause-distributed c = λ p q ts n m scope l k r z agree. distributed_body p q ts n m agree scope l k r z

pub returns-clause-stripped : goal.returns-clause-stripped
returns-clause-stripped c = λ p q ts n m scope l inner size r strip z agree. stripped_body p q ts n m agree scope l inner size r strip z

pub returns-clause-unpeeled : goal.returns-clause-unpeeled
returns-clause-unpeeled c = λ p q ts n m scope l k f r z agree. unpeeled_body p q ts n m agree scope l k f r z

pub returns-clause-interchanged : goal.returns-clause-interchanged
returns-clause-interchanged c = λ p q ts n m scope outer inner column row j i r z agree. interchanged_body p q ts n m agree scope outer inner column row j i r z

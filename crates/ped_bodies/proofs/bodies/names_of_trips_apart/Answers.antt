use Rattle.ped_bodies.proofs.BodyLaws.NamesApart.{reversed_apart, distributed_apart, stripped_apart, interchanged_apart, peeled_apart}
use Rattle.ped_bodies.proofs.bodies.names_of_trips_apart.Goals as goal

pub returns-clause-reversed : goal.returns-clause-reversed
returns-clause-reversed c = reversed_apart

pub returns-clause-in_another_loop : goal.returns-clause-in_another_loop
returns-clause-in_another_loop c = distributed_apart

pub returns-clause-stripped : goal.returns-clause-stripped
returns-clause-stripped c = stripped_apart

pub returns-clause-peeled : goal.returns-clause-peeled
returns-clause-peeled c = λ front l n k f one other. peeled_apart l n k f one other front

pub returns-clause-interchanged : goal.returns-clause-interchanged
returns-clause-interchanged c = λ front outer inner done column row tell. interchanged_apart outer inner done column row tell front

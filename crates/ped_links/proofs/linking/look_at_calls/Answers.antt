use Rattle.ped_links.proofs.LinkStages.{first_refused}
use Rattle.ped_links.proofs.linking.look_at_calls.Goals as goal

pub returns-in-Some-clause-refused : goal.returns-in-Some-clause-refused
returns-in-Some-clause-refused c us units = first_refused us c.in_ok-found.found c.in-Some.finding c.in-Some.is (c.in_ok-found.ensures us units)

use Rattle.ped_verdict.proofs.Possible.{some_list}
use Rattle.ped_verdict.proofs.listing.has_list.Goals as goal

pub returns-clause-few : goal.returns-clause-few
returns-clause-few c = c.requires.few

pub returns-clause-list : goal.returns-clause-list
returns-clause-list c = some_list c.args.view.now c.args.possible.now c.requires

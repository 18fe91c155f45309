use Rattle.ped_refs.specs.Groups.{group}
use Rattle.ped_refs.proofs.GroupEquality.{got_is}
use Rattle.ped_refs.proofs.counting.tally_of.Goals as goal

pub returns-in-Some : goal.returns-in-Some
returns-in-Some c = got_is c.args.groups.now (group c.args.name c.args.outer) _ c.in-Some.ensures.value

pub returns-in-None : goal.returns-in-None
returns-in-None c = got_is c.args.groups.now (group c.args.name c.args.outer) _ c.in-None.ensures.value

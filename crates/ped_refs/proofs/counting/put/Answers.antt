use Rattle.ped_refs.specs.Groups.{group}
use Rattle.ped_refs.proofs.GroupEquality.{put_is}
use Rattle.ped_refs.proofs.counting.put.Goals as goal

pub returns : goal.returns
returns c = put_is c.args.groups.now c.insert.new.self (group c.args.name c.args.outer) c.args.tally c.in_ok-insert.ensures.updates

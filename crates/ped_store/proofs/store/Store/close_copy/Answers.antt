use Rattle.std.proofs.Common.{None}
use Rattle.ped_store.proofs.SameCopies.{copy_known_is}
use Rattle.ped_store.proofs.store.Store.close_copy.Goals as goal

pub returns-in-Private : goal.returns-in-Private
returns-in-Private c =
    let copy = c.in-Private.copy in
    rw c.in-Private.is (copy_known_is copy.name copy.iterations None c.args.self.now c.drop_copy.new.self c.drop_copy.ensures)

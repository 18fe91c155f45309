use Rattle.ped_store.proofs.SameCopies.{copy_put_is}
use Rattle.ped_store.proofs.store.Store.replace.Goals as goal

pub returns-in-Private : goal.returns-in-Private
returns-in-Private c =
    let copy = c.in-Private.copy in
    rw c.in-Private.is (copy_put_is copy.name copy.iterations c.args.content c.args.self.now c.put_copy.new.self c.put_copy.ensures (rw c.in-Private.is at c.requires.stands))

pub returns-in-Scalar : goal.returns-in-Scalar
returns-in-Scalar c = rw c.in-Scalar.is c.put_scalar.ensures

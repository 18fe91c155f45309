use Rattle.std.proofs.Common.{Some, None}
use Rattle.std.proofs.lemmas.Result.{on_ok_weaker}
use Rattle.ped_store.proofs.SameCopies.{copy_known_is}
use Rattle.ped_store.proofs.store.Store.open_copy.Goals as goal

pub returns-in-Private-clause-ok : goal.returns-in-Private-clause-ok
returns-in-Private-clause-ok c =
    let copy = c.in-Private.copy in
    rw c.in-Private.is (on_ok_weaker c.add_copy.result (copy_known_is copy.name copy.iterations (Some None) c.args.self.now c.add_copy.new.self) c.add_copy.ensures.ok)

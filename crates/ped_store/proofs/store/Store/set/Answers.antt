use Rattle.std.proofs.Common.{sym, ap, ◌∙◌, Ok, Some}
use Rattle.std.specs.Int.{w128}
use Rattle.std.proofs.lemmas.Int.{to_z-of_z}
use Rattle.std.proofs.lemmas.Result.{on_ok_weaker}
use Rattle.ped_store.specs.Cells.{Private}
use Rattle.ped_store.specs.Keeping.{memory_of}
use Rattle.ped_store.proofs.Writes.{stored_number}
use Rattle.ped_store.proofs.SameCopies.{copy_put_is}
use Rattle.ped_store.proofs.store.Store.set.Goals as goal

pub returns-in-Element-clause-ok : goal.returns-in-Element-clause-ok
returns-in-Element-clause-ok c = rw c.in-Element.is (rw (to_z-of_z w128 c.args.value c.ranges.value) at c.set_element.ensures.ok)

pub returns-in-Private-clause-ok : goal.returns-in-Private-clause-ok
returns-in-Private-clause-ok c =
    let copy = c.in-Private.copy in
    let v = c.args.value in
    let before = c.args.self.now in
    rw c.in-Private.is (on_ok_weaker c.set_copy.result
    (λ p. stored_number (Private copy.name copy.iterations) v (memory_of before) p.0
    ∙ ap Ok (sym (copy_put_is copy.name copy.iterations (Some v) before c.set_copy.new.self p.1 (rw c.in-Private.is at c.requires.stands))))
    (rw (to_z-of_z w128 c.args.value c.ranges.value) at c.set_copy.ensures.ok))

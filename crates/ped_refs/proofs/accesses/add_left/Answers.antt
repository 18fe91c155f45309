use Rattle.std.proofs.lemmas.Result.{on_ok_weaker}
use Rattle.ped_refs.specs.Listing.{accesses_of, constants_round, indices_round}
use Rattle.ped_refs.proofs.Expressions.{element_written}
use Rattle.ped_refs.proofs.accesses.add_left.Goals as goal

pub returns-in_ok-add_exprs-in-Element : goal.returns-in_ok-add_exprs-in-Element
returns-in_ok-add_exprs-in-Element c =
    on_ok_weaker c.add_variable-in-Element.result
    (element_written (constants_round c.args.around.now) (indices_round c.args.around.now) c.args.left.now
    (accesses_of c.args.found.now.items) (accesses_of c.add_exprs.new.found.items) (accesses_of c.add_variable-in-Element.new.found.items)
    c.in-Element.array c.in-Element.subscripts c.deref.result.now c.deref-in-Element.result.now
    c.in-Element.is c.deref.ensures.value c.deref-in-Element.ensures.value c.in_ok-add_exprs-in-Element.ensures)
    c.add_variable-in-Element.ensures

use Rattle.std.proofs.lemmas.Result.{on_ok_weaker}
use Rattle.ped_refs.specs.Listing.{accesses_of, constants_round, indices_round}
use Rattle.ped_refs.proofs.Expressions.{element_read, operation_read}
use Rattle.ped_refs.proofs.accesses.+expressions.Goals as goal

pub add_expr-returns-in_ok-add_exprs-in-Element : goal.add_expr-returns-in_ok-add_exprs-in-Element
add_expr-returns-in_ok-add_exprs-in-Element n c =
    on_ok_weaker c.add_variable.result
    (element_read (constants_round c.args.around.now) (indices_round c.args.around.now) c.args.e.now
    (accesses_of c.args.found.now.items) (accesses_of c.add_exprs.new.found.items) (accesses_of c.add_variable.new.found.items)
    c.in-Element.name c.in-Element.subscripts c.deref.result.now c.deref-in-Element.result.now
    c.in-Element.is c.deref.ensures.value c.deref-in-Element.ensures.value c.in_ok-add_exprs-in-Element.ensures)
    c.add_variable.ensures

pub add_expr-returns-in_ok-add_expr-in-Add : goal.add_expr-returns-in_ok-add_expr-in-Add
add_expr-returns-in_ok-add_expr-in-Add n c =
    on_ok_weaker c.add_expr-in-Add-2.result
    (operation_read (constants_round c.args.around.now) (indices_round c.args.around.now) c.args.e.now
    (accesses_of c.args.found.now.items) (accesses_of c.add_expr-in-Add.new.found.items) (accesses_of c.add_expr-in-Add-2.new.found.items)
    c.in-Add.left c.in-Add.right c.deref-in-Add.result.now c.deref-in-Add-2.result.now
    c.in-Add.is c.deref-in-Add.ensures c.deref-in-Add-2.ensures c.in_ok-add_expr-in-Add.ensures)
    c.add_expr-in-Add-2.ensures

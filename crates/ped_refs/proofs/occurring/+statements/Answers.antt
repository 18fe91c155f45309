use Rattle.std.proofs.lemmas.Result.{on_ok_weaker}
use Rattle.ped_refs.specs.Occurrences.{references_of}
use Rattle.ped_refs.specs.Listing.{constants_round, nest_round}
use Rattle.ped_refs.proofs.StatementParts.{if_references, do_references}
use Rattle.ped_refs.proofs.occurring.+statements.Goals as goal

pub add_statement-returns-in_ok-add_statements-in-If-clause-found : goal.add_statement-returns-in_ok-add_statements-in-If-clause-found
add_statement-returns-in_ok-add_statements-in-If-clause-found t c =
    on_ok_weaker c.add_statements-in-If.result
    (if_references (constants_round c.args.around.now) (nest_round c.args.around.now) c.args.before.now c.args.statement.now
    c.in-If.condition c.in-If.then_part c.in-If.else_part c.deref.result.now c.deref-in-If.result.now c.add_own.new.before c.add_statements.new.before
    (references_of c.args.found.now.items) (references_of c.add_own.new.found.items) (references_of c.add_statements.new.found.items) (references_of c.add_statements-in-If.new.found.items)
    c.in-If.is c.deref.ensures.value c.deref-in-If.ensures.value c.in_ok-add_own-in-If.ensures.before c.in_ok-add_statements-in-If.ensures.before
    c.in_ok-add_own-in-If.ensures.found c.in_ok-add_statements-in-If.ensures.found)
    c.add_statements-in-If.ensures.found

pub add_statement-returns-in_ok-add_own-in-Do-clause-found : goal.add_statement-returns-in_ok-add_own-in-Do-clause-found
add_statement-returns-in_ok-add_own-in-Do-clause-found t c =
    on_ok_weaker c.add_body.result
    (do_references (constants_round c.args.around.now) (nest_round c.args.around.now) c.args.before.now c.args.statement.now c.in-Do.d c.add_own-in-Do.new.before
    (references_of c.args.found.now.items) (references_of c.add_own-in-Do.new.found.items) (references_of c.add_body.new.found.items)
    c.in-Do.is c.in_ok-add_own-in-Do.ensures.before c.in_ok-add_own-in-Do.ensures.found)
    c.add_body.ensures.found

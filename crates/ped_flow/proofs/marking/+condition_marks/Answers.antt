use Rattle.ped_flow.specs.RowMarks.{names_in, constants_in}
use Rattle.ped_flow.proofs.Marks.{relation_marked, and_marked, or_marked}
use Rattle.ped_flow.proofs.marking.+condition_marks.Goals as goal

pub returns-in-Rel : goal.returns-in-Rel
returns-in-Rel t c =
    relation_marked (names_in c.args.places.now) (constants_in c.args.places.now) c.args.row.now c.mark_expression.new.row c.mark_expression-in-Rel.new.row c.args.c.now
    c.in-Rel.field-0 c.in-Rel.a c.in-Rel.b c.in-Rel.is c.mark_expression.ensures c.mark_expression-in-Rel.ensures

pub returns-in-And : goal.returns-in-And
returns-in-And t c =
    and_marked (names_in c.args.places.now) (constants_in c.args.places.now) c.args.row.now c.mark_condition-in-And.new.row c.mark_condition-in-And-2.new.row c.args.c.now
    c.in-And.a c.in-And.b c.deref-in-And.result.now c.deref-in-And-2.result.now c.in-And.is c.deref-in-And.ensures c.deref-in-And-2.ensures c.mark_condition-in-And.ensures c.mark_condition-in-And-2.ensures

pub returns-in-Or : goal.returns-in-Or
returns-in-Or t c =
    or_marked (names_in c.args.places.now) (constants_in c.args.places.now) c.args.row.now c.mark_condition-in-Or.new.row c.mark_condition-in-Or-2.new.row c.args.c.now
    c.in-Or.a c.in-Or.b c.deref-in-Or.result.now c.deref-in-Or-2.result.now c.in-Or.is c.deref-in-Or.ensures c.deref-in-Or-2.ensures c.mark_condition-in-Or.ensures c.mark_condition-in-Or-2.ensures

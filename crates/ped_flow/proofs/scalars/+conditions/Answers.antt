use Rattle.ped_flow.specs.Kept.{name_of, constants_of}
use Rattle.ped_flow.proofs.ScalarSteps.{relation_read, and_read, or_read}
use Rattle.ped_flow.proofs.scalars.+conditions.Goals as goal

pub returns-in-Rel : goal.returns-in-Rel
returns-in-Rel t c =
    relation_read (name_of c.args.scalar.now) (constants_of c.args.scalar.now) c.args.number c.args.c.now
    c.expression.result c.expression-in-Rel.result c.then.result c.in-Rel.field-0 c.in-Rel.a c.in-Rel.b c.in-Rel.is c.expression.ensures c.expression-in-Rel.ensures c.then.ensures

pub returns-in-And : goal.returns-in-And
returns-in-And t c =
    and_read (name_of c.args.scalar.now) (constants_of c.args.scalar.now) c.args.number c.args.c.now
    c.condition-in-And.result c.condition-in-And-2.result c.then-in-And.result c.in-And.a c.in-And.b c.deref-in-And.result.now c.deref-in-And-2.result.now c.in-And.is c.deref-in-And.ensures c.deref-in-And-2.ensures c.condition-in-And.ensures c.condition-in-And-2.ensures c.then-in-And.ensures

pub returns-in-Or : goal.returns-in-Or
returns-in-Or t c =
    or_read (name_of c.args.scalar.now) (constants_of c.args.scalar.now) c.args.number c.args.c.now
    c.condition-in-Or.result c.condition-in-Or-2.result c.then-in-Or.result c.in-Or.a c.in-Or.b c.deref-in-Or.result.now c.deref-in-Or-2.result.now c.in-Or.is c.deref-in-Or.ensures c.deref-in-Or-2.ensures c.condition-in-Or.ensures c.condition-in-Or-2.ensures c.then-in-Or.ensures

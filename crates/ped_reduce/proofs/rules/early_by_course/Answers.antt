use Rattle.std.proofs.Common.{Some, is_none, ap, ◌∙◌, subst}
use Rattle.ped_tree.specs.Views.{program_tree, stmt_trees, head_of}
use Rattle.ped_rules.specs.ped_symbols.specs.Kinds.{table_of}
use Rattle.ped_rules.specs.Spans.{span_of, spans_far}
use Rattle.ped_rules.specs.CodeSpans.{IsCourse}
use Rattle.ped_rules.specs.Scalars.{of_span}
use Rattle.ped_rules.proofs.KnownSpans.{known_near}
use Rattle.ped_reduce.proofs.SummingRules as rules
use Rattle.ped_reduce.proofs.rules.early_by_course.Goals as goal

pub returns-in-Far : goal.returns-in-Far
returns-in-Far g c =
    let t = program_tree c.args.scene.now.tree.now in
    let h = head_of c.args.d.now in
    let course = subst (IsCourse (span_of (table_of t).constants h)) c.in-Far.is c.requires.course in
    rules.range_first c.args.number c.args.names.now t h (stmt_trees c.args.d.now.body.items) c.requires.is (ap (of_span spans_far) course.1 ∙ course.2)

pub early_by_names-requires : goal.early_by_names-requires
early_by_names-requires g c =
    let found = span_of (table_of (program_tree c.args.scene.now.tree.now)).constants (head_of c.args.d.now) in
    let course = subst (IsCourse found) c.in-Near.is c.requires.course in
    record {
      scene = c.requires.scene;
      is = c.requires.is;
      near = known_near found (Some c.in-Near._span) course;
      known = ap is_none course.0;
    }

pub early_by_names-requires-in-Unknown : goal.early_by_names-requires-in-Unknown
early_by_names-requires-in-Unknown g c =
    let found = span_of (table_of (program_tree c.args.scene.now.tree.now)).constants (head_of c.args.d.now) in
    let course = subst (IsCourse found) c.in-Unknown.is c.requires.course in
    record {
      scene = c.requires.scene;
      is = c.requires.is;
      near = ap (of_span spans_far) course;
      known = ap is_none course;
    }

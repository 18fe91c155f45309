use Rattle.std.proofs.Common.{ℕ, ℤ, List, IsTrue, sym, ap, ◌∙◌, subst}
use Rattle.ped_tree.specs.Views.{program_tree, stmt_trees}
use Rattle.ped_tree.specs.Views.{head_of}
use Rattle.ped_rules.specs.ped_symbols.specs.Kinds.{Table}
use Rattle.ped_rules.specs.ped_symbols.specs.RightUses.RightLoops.{step_is_right}
use Rattle.ped_rules.specs.ped_steps.specs.declared.rules.Rule.TheVariants.{ParallelState, Range}
use Rattle.ped_rules.specs.Spans.{span_of, spans_far}
use Rattle.ped_rules.specs.CodeSpans.{IsCourse}
use Rattle.ped_rules.specs.declared.spans.Course.TheVariants.{Far, Near, Unknown}
use Rattle.ped_rules.proofs.RightSteps.{right_step}
use Rattle.ped_rules.specs.Scalars.{of_span}
use Rattle.ped_scalar.proofs.ExpandRules as rules
use Rattle.ped_scalar.proofs.expanding.expand_in.Goals as goal

pub returns-then-d : goal.returns-then-d
returns-then-d g c =
    let t = program_tree c.args.scene.now.tree.now in
    let s = c.args.number in
    let x = c.args.name.now in
    let h = head_of c.args.d.now in
    let body = stmt_trees c.args.d.now.body.items in
    rules.refused s x t ParallelState s c.against.result c.against.ensures (rules.state_first s x t h body c.requires.is c.if-d.true)

pub course_of-requires : goal.course_of-requires
course_of-requires g c =
    let t = program_tree c.args.scene.now.tree.now in
    let s = c.args.number in
    let x = c.args.name.now in
    let h = head_of c.args.d.now in
    let body = stmt_trees c.args.d.now.body.items in
    let consts = c.consts.ensures ∙ ap (λ (table : Table). table.constants) c.requires.scene.symbols in
    subst (λ (cs : List (List ℕ × ℤ)). IsTrue (step_is_right cs h.step)) (sym consts) (right_step t s h body c.requires.scene.valid c.requires.is)

pub returns-in-Far : goal.returns-in-Far
returns-in-Far g c =
    let t = program_tree c.args.scene.now.tree.now in
    let s = c.args.number in
    let x = c.args.name.now in
    let h = head_of c.args.d.now in
    let body = stmt_trees c.args.d.now.body.items in
    let consts = c.consts.ensures ∙ ap (λ (table : Table). table.constants) c.requires.scene.symbols in
    let course = subst (λ (cs : List (List ℕ × ℤ)). IsCourse (span_of cs h) Far) consts c.in-Far.ensures in
    rules.refused s x t Range s c.against-in-Far.result c.against-in-Far.ensures
    (rules.range_first s x t h body c.requires.is c.if-d.false (ap (of_span spans_far) course.1 ∙ course.2))

pub expand_known-requires : goal.expand_known-requires
expand_known-requires g c =
    let h = head_of c.args.d.now in
    let consts = c.consts.ensures ∙ ap (λ (table : Table). table.constants) c.requires.scene.symbols in
    record {
      scene = c.requires.scene;
      is = c.requires.is;
      span = subst (λ (cs : List (List ℕ × ℤ)). IsCourse (span_of cs h) (Near c.in-Near.span)) consts c.in-Near.ensures;
      serial = c.if-d.false;
    }

pub expand_known-requires-in-Unknown : goal.expand_known-requires-in-Unknown
expand_known-requires-in-Unknown g c =
    let h = head_of c.args.d.now in
    let consts = c.consts.ensures ∙ ap (λ (table : Table). table.constants) c.requires.scene.symbols in
    record {
      scene = c.requires.scene;
      is = c.requires.is;
      span = subst (λ (cs : List (List ℕ × ℤ)). IsCourse (span_of cs h) Unknown) consts c.in-Unknown.ensures;
      serial = c.if-d.false;
    }

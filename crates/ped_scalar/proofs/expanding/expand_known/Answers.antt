use Rattle.std.proofs.Common.{◌≡◌, Option, None, is_none, sym, ap, ◌∙◌, subst}
use Rattle.ped_tree.specs.Views.{program_tree, stmt_trees}
use Rattle.ped_refs.specs.Loops.{nest_of}
use Rattle.ped_tree.specs.Views.{head_of}
use Rattle.ped_rules.specs.ped_symbols.specs.Kinds.{table_of}
use Rattle.ped_rules.specs.ped_steps.specs.declared.rules.Rule.TheVariants.{ExposedOrLive, NotScalar, NotConstant}
use Rattle.ped_rules.specs.ped_steps.proofs.Answering.{few_numbers}
use Rattle.ped_rules.specs.Spans.{span_of}
use Rattle.ped_rules.specs.CodeSpans.{IsKnown}
use Rattle.ped_rules.specs.declared.spans.Span.{Span as CodeSpan}
use Rattle.ped_scalar.proofs.ExpandRules as rules
use Rattle.ped_rules.proofs.KnownSpans.{known_near}
use Rattle.ped_scalar.proofs.expanding.expand_known.Goals as goal

pub returns-in-Some : goal.returns-in-Some
returns-in-Some g c =
    let t = program_tree c.args.scene.now.tree.now in
    let s = c.args.number in
    let x = c.args.name.now in
    let h = head_of c.args.d.now in
    let body = stmt_trees c.args.d.now.body.items in
    let literal = known_near (span_of (table_of t).constants h) c.args.span c.requires.span in
    rules.refused s x t ExposedOrLive c.in-Some.statement c.against.result c.against.ensures (rules.lost_first s x t h body c.requires.is c.requires.serial literal c.in-Some.statement c.in-Some.ensures)

pub loops_round-requires : goal.loops_round-requires
loops_round-requires g c = few_numbers (program_tree c.args.scene.now.tree.now) c.requires.scene.valid

pub returns-then-branch : goal.returns-then-branch
returns-then-branch g c =
    let t = program_tree c.args.scene.now.tree.now in
    let s = c.args.number in
    let x = c.args.name.now in
    let h = head_of c.args.d.now in
    let body = stmt_trees c.args.d.now.body.items in
    let literal = known_near (span_of (table_of t).constants h) c.args.span c.requires.span in
    rules.refused s x t NotScalar s c.against-then-branch.result c.against-then-branch.ensures
    (rules.unfit_first s x t h body c.requires.is c.requires.serial literal c.in_default.ensures (sym c.in_ok-is_unfit.ensures ∙ c.if-branch.true))

pub returns-in-None : goal.returns-in-None
returns-in-None g c =
    let t = program_tree c.args.scene.now.tree.now in
    let s = c.args.number in
    let x = c.args.name.now in
    let h = head_of c.args.d.now in
    let body = stmt_trees c.args.d.now.body.items in
    let literal = known_near (span_of (table_of t).constants h) c.args.span c.requires.span in
    let none : span_of (table_of t).constants h ≡ None = subst (λ (o : Option CodeSpan). IsKnown (span_of (table_of t).constants h) o) c.in-None.is c.requires.span in
    rules.refused s x t NotConstant s c.against-in-None.result c.against-in-None.ensures
    (rules.constant_first s x t h body c.requires.is c.requires.serial literal c.in_default.ensures (sym c.in_ok-is_unfit.ensures ∙ c.if-branch.false) (ap is_none none))

pub expand_over-requires : goal.expand_over-requires
expand_over-requires g c =
    let t = program_tree c.args.scene.now.tree.now in
    let h = head_of c.args.d.now in
    record {
      scene = c.requires.scene;
      is = c.requires.is;
      span = subst (λ (o : Option CodeSpan). IsKnown (span_of (table_of t).constants h) o) c.in-Some-span.is c.requires.span;
      round = ap nest_of c.deref-in-Some-span.ensures.value ∙ c.in_ok-round.ensures;
      serial = c.requires.serial;
      kept = c.in_default.ensures;
      fit = sym c.in_ok-is_unfit.ensures ∙ c.if-branch.false;
    }

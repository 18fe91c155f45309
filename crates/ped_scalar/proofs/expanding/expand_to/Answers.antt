use Rattle.std.proofs.Common.{ℕ, List, ◌||◌, Option, Some, is_none, MatchOption, sym, ap, ◌∙◌, subst}
use Rattle.std.specs.List.{list_any}
use Rattle.ped_base.specs.Lists.{is_among}
use Rattle.ped_tree.specs.Tree.{Do}
use Rattle.ped_tree.specs.Nests.{Loop}
use Rattle.ped_tree.specs.Views.{program_tree, stmt_trees}
use Rattle.ped_tree.specs.Views.{head_of}
use Rattle.ped_rules.specs.ped_symbols.specs.NameRefusals.{IsValid}
use Rattle.ped_rules.specs.ped_flow.proofs.Answering.{loop_fits}
use Rattle.ped_rules.specs.ped_steps.specs.declared.rules.Rule.TheVariants.{Limit, AlreadyPrivate}
use Rattle.ped_rules.specs.ped_steps.specs.declared.changes.Change.{Change}
use Rattle.ped_rules.specs.ped_steps.specs.Changes.{IsChange}
use Rattle.ped_rules.specs.ped_steps.proofs.Answering.{few_numbers}
use Rattle.ped_scalar.specs.Expanding.{IsExpanded}
use Rattle.ped_tree.specs.NamesIn.{private_names_in}
use Rattle.ped_rules.specs.ped_symbols.specs.Kinds.{table_of}
use Rattle.ped_rules.specs.CodeSpans.{span_in}
use Rattle.ped_rules.specs.Spans.{span_of}
use Rattle.ped_scalar.proofs.ExpandRules as rules
use Rattle.ped_rules.proofs.KnownSpans.{known_near}
use Rattle.ped_scalar.proofs.expanding.expand_to.Goals as goal

pub expand-requires : goal.expand-requires
expand-requires g c = record {
  few = few_numbers (program_tree c.args.scene.now.tree.now) c.requires.scene.valid;
  is = c.requires.is;
  near = c.requires.elements.known.1;
}

pub expand_kept-requires : goal.expand_kept-requires
expand_kept-requires g c = record {
  few = few_numbers (program_tree c.args.scene.now.tree.now) c.requires.scene.valid;
  inside = loop_fits (program_tree c.args.scene.now.tree.now) c.args.number (head_of c.args.d.now) (stmt_trees c.args.d.now.body.items) c.requires.is;
}

pub returns-then-is_private_near : goal.returns-then-is_private_near
returns-then-is_private_near g c =
    let t = program_tree c.args.scene.now.tree.now in
    let s = c.args.number in
    let e = c.args.elements.now in
    let x = e.scalar in
    let h = head_of c.args.d.now in
    let body = stmt_trees c.args.d.now.body.items in
    let u = program_tree c.in_ok-tree.tree in
    let made : IsExpanded t s x h u =
    record { array = e.array; fresh = c.requires.elements.fresh; span = span_in e.span; spans = c.requires.elements.known.0; live = e.live; says = c.requires.elements.says; made = c.in_ok-tree.ensures.tree } in
    let found : IsChange u c.in_ok-keep.keep c.in-Some.change =
    subst (λ (o : Option Change). MatchOption o (IsValid u → ⊥) (IsChange u c.in_ok-keep.keep)) c.in-Some.is c.in_ok-change.ensures in
    let test = c.is_private_near.ensures ∙ ap (λ (nest : List Loop). is_among x (private_names_in (Do h body)) || list_any (λ (l : Loop). is_among x l.head.private) nest) c.requires.round in
    let literal = known_near (span_of (table_of t).constants h) (Some e.span) c.requires.elements.known in
    rules.refused s x t AlreadyPrivate s c.against.result c.against.ensures
    (rules.private_first s x t h body c.requires.is c.requires.serial literal c.requires.kept c.requires.fit (ap is_none c.requires.elements.known.0) u made found.valid (sym test ∙ c.if-is_private_near.true))

pub returns-in-Some : goal.returns-in-Some
returns-in-Some g c =
    let t = program_tree c.args.scene.now.tree.now in
    let s = c.args.number in
    let e = c.args.elements.now in
    let x = e.scalar in
    let h = head_of c.args.d.now in
    let body = stmt_trees c.args.d.now.body.items in
    let u = program_tree c.in_ok-tree.tree in
    let made : IsExpanded t s x h u =
    record { array = e.array; fresh = c.requires.elements.fresh; span = span_in e.span; spans = c.requires.elements.known.0; live = e.live; says = c.requires.elements.says; made = c.in_ok-tree.ensures.tree } in
    let found : IsChange u c.in_ok-keep.keep c.in-Some.change =
    subst (λ (o : Option Change). MatchOption o (IsValid u → ⊥) (IsChange u c.in_ok-keep.keep)) c.in-Some.is c.in_ok-change.ensures in
    let test = c.is_private_near.ensures ∙ ap (λ (nest : List Loop). is_among x (private_names_in (Do h body)) || list_any (λ (l : Loop). is_among x l.head.private) nest) c.requires.round in
    let change = subst (λ (k : List (ℕ × ℕ)). IsChange u k c.in-Some.change) c.in_ok-keep.ensures found in
    let literal = known_near (span_of (table_of t).constants h) (Some e.span) c.requires.elements.known in
    rules.accepted s x t (record { head = h; body = body; is = c.requires.is }) u made c.in-Some.change
    (rules.nothing_stands s x t h body c.requires.is c.requires.serial literal c.requires.kept c.requires.fit (ap is_none c.requires.elements.known.0) u made found.valid (sym test ∙ c.if-is_private_near.false)) change

pub returns-in-None : goal.returns-in-None
returns-in-None g c =
    let t = program_tree c.args.scene.now.tree.now in
    let s = c.args.number in
    let e = c.args.elements.now in
    let x = e.scalar in
    let h = head_of c.args.d.now in
    let body = stmt_trees c.args.d.now.body.items in
    let u = program_tree c.in_ok-tree.tree in
    let made : IsExpanded t s x h u =
    record { array = e.array; fresh = c.requires.elements.fresh; span = span_in e.span; spans = c.requires.elements.known.0; live = e.live; says = c.requires.elements.says; made = c.in_ok-tree.ensures.tree } in
    let invalid : IsValid u → ⊥ = subst (λ (o : Option Change). MatchOption o (IsValid u → ⊥) (IsChange u c.in_ok-keep.keep)) c.in-None.is c.in_ok-change.ensures in
    let literal = known_near (span_of (table_of t).constants h) (Some e.span) c.requires.elements.known in
    rules.refused s x t Limit s c.against-in-None.result c.against-in-None.ensures
    (rules.limit_first s x t h body c.requires.is c.requires.serial literal c.requires.kept c.requires.fit (ap is_none c.requires.elements.known.0) u made invalid)

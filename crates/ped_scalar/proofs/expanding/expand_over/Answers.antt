use Rattle.std.proofs.Common.{Some, is_none, sym, ap, ◌∙◌}
use Rattle.ped_tree.specs.Views.{program_tree, stmt_trees}
use Rattle.ped_tree.specs.Views.{head_of}
use Rattle.ped_rules.specs.ped_steps.specs.declared.rules.Rule.TheVariants.{Limit}
use Rattle.ped_rules.specs.ped_symbols.specs.Kinds.{table_of}
use Rattle.ped_rules.specs.Spans.{span_of}
use Rattle.ped_scalar.proofs.ExpandRules as rules
use Rattle.ped_rules.proofs.KnownSpans.{known_near}
use Rattle.ped_scalar.proofs.expanding.expand_over.Goals as goal

pub fresh_name-requires : goal.fresh_name-requires
fresh_name-requires g c = c.requires.scene.symbols

pub returns-in-None : goal.returns-in-None
returns-in-None g c =
    let t = program_tree c.args.scene.now.tree.now in
    let s = c.args.number in
    let x = c.args.name.now in
    let h = head_of c.args.d.now in
    let body = stmt_trees c.args.d.now.body.items in
    let found = span_of (table_of t).constants h in
    let literal = known_near found (Some c.args.span) c.requires.span in
    rules.refused s x t Limit s c.against.result c.against.ensures
    (rules.name_first s x t h body c.requires.is c.requires.serial literal c.requires.kept c.requires.fit (ap is_none c.requires.span.0) (sym c.in_ok-array.ensures ∙ c.in-None.is))

pub expand_to-requires : goal.expand_to-requires
expand_to-requires g c = record {
  scene = c.requires.scene;
  is = c.requires.is;
  round = c.requires.round;
  elements = record { fresh = sym c.in_ok-array.ensures ∙ c.in-Some.is; known = c.requires.span; says = c.is_live.ensures };
  serial = c.requires.serial;
  kept = c.requires.kept;
  fit = c.requires.fit;
}

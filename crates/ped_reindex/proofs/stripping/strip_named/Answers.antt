use Rattle.std.proofs.Common.{sym, ◌∙◌, ℤ, ap, subst, MatchOption}
use Rattle.std.specs.Int.{w64}
use Rattle.std.proofs.lemmas.Int.{to_z-of_z}
use Rattle.ped_rules.specs.ped_symbols.specs.NameRefusals.{IsValid}
use Rattle.ped_rules.specs.ped_steps.specs.Changes.{IsChange}
use Rattle.ped_tree.specs.Views.{program_tree, stmt_trees, head_of}
use Rattle.ped_rules.specs.KeepMaps.{moved_by}
use Rattle.ped_rules.specs.ped_steps.specs.declared.rules.Rule.TheVariants.{Range, Limit}
use Rattle.ped_reindex.specs.Stripping.{strip_leaves, stripped}
use Rattle.ped_reindex.proofs.Answering.{some_made, none_made}
use Rattle.ped_reindex.proofs.StripRules as rules
use Rattle.ped_reindex.proofs.StripAnswers.{refused, accepted}
use Rattle.ped_reindex.proofs.stripping.strip_named.Goals as goal

pub returns-then-branch : goal.returns-then-branch
returns-then-branch g c =
    let t = program_tree c.args.scene.now.tree.now in
    let s = c.args.number in
    let k = c.args.size in
    let h = head_of c.args.d.now in
    let body = stmt_trees c.args.d.now.body.items in
    refused s k t Range s c.against.result c.against.ensures
    (rules.range_first s k t h body c.requires.is c.requires.serial c.requires.shared c.requires.contained c.requires.plain c.requires.unit c.requires.good (ap (λ (z : ℤ). strip_leaves t s z h body) (sym (to_z-of_z w64 k c.ranges.size)) ∙ sym c.in_ok-strip_leaves.ensures ∙ c.if-branch.true))

pub returns-in-Some : goal.returns-in-Some
returns-in-Some g c =
    let t = program_tree c.args.scene.now.tree.now in
    let s = c.args.number in
    let k = c.args.size in
    let h = head_of c.args.d.now in
    let body = stmt_trees c.args.d.now.body.items in
    let made = some_made (stripped t s k c.args.name) (moved_by s 1 t) c.in_ok-change.field-0 c.in-Some.change c.in-Some.is (subst (λ (z : ℤ). MatchOption c.in_ok-change.field-0 (IsValid (stripped t s z c.args.name) → ⊥) (IsChange (stripped t s z c.args.name) (moved_by s 1 t))) (to_z-of_z w64 k c.ranges.size) c.in_ok-change.ensures) in
    accepted s k t c.args.name c.in-Some.change c.requires.fresh
    (rules.nothing_stands s k t h body c.requires.is c.requires.serial c.requires.shared c.requires.contained c.requires.plain c.requires.unit c.requires.good (ap (λ (z : ℤ). strip_leaves t s z h body) (sym (to_z-of_z w64 k c.ranges.size)) ∙ sym c.in_ok-strip_leaves.ensures ∙ c.if-branch.false) c.args.name c.requires.fresh made.valid) made

pub returns-in-None : goal.returns-in-None
returns-in-None g c =
    let t = program_tree c.args.scene.now.tree.now in
    let s = c.args.number in
    let k = c.args.size in
    let h = head_of c.args.d.now in
    let body = stmt_trees c.args.d.now.body.items in
    refused s k t Limit s c.against-in-None.result c.against-in-None.ensures
    (rules.limit_first s k t h body c.requires.is c.requires.serial c.requires.shared c.requires.contained c.requires.plain c.requires.unit c.requires.good (ap (λ (z : ℤ). strip_leaves t s z h body) (sym (to_z-of_z w64 k c.ranges.size)) ∙ sym c.in_ok-strip_leaves.ensures ∙ c.if-branch.false) c.args.name c.requires.fresh
    (none_made (stripped t s k c.args.name) (moved_by s 1 t) c.in_ok-change.field-0 c.in-None.is (subst (λ (z : ℤ). MatchOption c.in_ok-change.field-0 (IsValid (stripped t s z c.args.name) → ⊥) (IsChange (stripped t s z c.args.name) (moved_by s 1 t))) (to_z-of_z w64 k c.ranges.size) c.in_ok-change.ensures)))

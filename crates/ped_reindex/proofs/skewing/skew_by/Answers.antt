use Rattle.std.proofs.Common.{ℤ, sym, ap, ◌∙◌, ◌||◌, Option, MatchOption, subst}
use Rattle.std.specs.Prelude.{is_none}
use Rattle.std.specs.Int.{w64}
use Rattle.std.proofs.lemmas.Int.{to_z-of_z}
use Rattle.ped_tree.specs.Tree.{Head, StmtTrees}
use Rattle.ped_tree.specs.Views.{program_tree, stmt_trees, head_of}
use Rattle.ped_rules.specs.OnlyLoops.{of_loop}
use Rattle.ped_rules.specs.Rules.{is_parallel}
use Rattle.ped_rules.specs.ped_steps.specs.declared.rules.Rule.TheVariants.{Range, Limit}
use Rattle.ped_rules.specs.ped_steps.specs.Replacing.{all_kept}
use Rattle.ped_rules.specs.ped_symbols.specs.NameRefusals.{IsValid}
use Rattle.ped_rules.specs.ped_steps.specs.Changes.{IsChange}
use Rattle.ped_reindex.specs.Skewing.{skew_leaves, skewed}
use Rattle.ped_reindex.proofs.Answering.{some_made, none_made}
use Rattle.ped_reindex.proofs.SkewRules as rules
use Rattle.ped_reindex.proofs.SkewAnswers.{refused, accepted}
use Rattle.ped_reindex.proofs.skewing.skew_by.Goals as goal

pub returns-then-branch : goal.returns-then-branch
returns-then-branch g c =
    let t = program_tree c.args.scene.now.tree.now in
    let s = c.args.number in
    let k = c.args.factor in
    let h = head_of c.args.d.now in
    let body = stmt_trees c.args.d.now.body.items in
    let serial = ap (λ (o : Option (Head × StmtTrees)). h.parallel || of_loop is_parallel o) c.requires.only ∙ c.requires.serial in
    refused s k t Range s c.against.result c.against.ensures
    (rules.range_first s k t h body c.requires.is (ap is_none c.requires.only) serial c.requires.contained c.requires.good (ap (λ (z : ℤ). skew_leaves t s z h body) (sym (to_z-of_z w64 k c.ranges.factor)) ∙ sym c.in_ok-skew_leaves.ensures ∙ c.if-branch.true))

pub skewed-requires-clause-perfect : goal.skewed-requires-clause-perfect
skewed-requires-clause-perfect g c = ap is_none c.requires.only

pub returns-in-Some : goal.returns-in-Some
returns-in-Some g c =
    let t = program_tree c.args.scene.now.tree.now in
    let s = c.args.number in
    let k = c.args.factor in
    let h = head_of c.args.d.now in
    let body = stmt_trees c.args.d.now.body.items in
    let serial = ap (λ (o : Option (Head × StmtTrees)). h.parallel || of_loop is_parallel o) c.requires.only ∙ c.requires.serial in
    let made = some_made (skewed t s k) (all_kept t) c.in_ok-change.field-0 c.in-Some.change c.in-Some.is (subst (λ (z : ℤ). MatchOption c.in_ok-change.field-0 (IsValid (skewed t s z) → ⊥) (IsChange (skewed t s z) (all_kept t))) (to_z-of_z w64 k c.ranges.factor) c.in_ok-change.ensures) in
    accepted s k t c.in-Some.change
    (rules.nothing_stands s k t h body c.requires.is (ap is_none c.requires.only) serial c.requires.contained c.requires.good (ap (λ (z : ℤ). skew_leaves t s z h body) (sym (to_z-of_z w64 k c.ranges.factor)) ∙ sym c.in_ok-skew_leaves.ensures ∙ c.if-branch.false) made.valid) made

pub returns-in-None : goal.returns-in-None
returns-in-None g c =
    let t = program_tree c.args.scene.now.tree.now in
    let s = c.args.number in
    let k = c.args.factor in
    let h = head_of c.args.d.now in
    let body = stmt_trees c.args.d.now.body.items in
    let serial = ap (λ (o : Option (Head × StmtTrees)). h.parallel || of_loop is_parallel o) c.requires.only ∙ c.requires.serial in
    refused s k t Limit s c.against-in-None.result c.against-in-None.ensures
    (rules.limit_first s k t h body c.requires.is (ap is_none c.requires.only) serial c.requires.contained c.requires.good (ap (λ (z : ℤ). skew_leaves t s z h body) (sym (to_z-of_z w64 k c.ranges.factor)) ∙ sym c.in_ok-skew_leaves.ensures ∙ c.if-branch.false)
    (none_made (skewed t s k) (all_kept t) c.in_ok-change.field-0 c.in-None.is (subst (λ (z : ℤ). MatchOption c.in_ok-change.field-0 (IsValid (skewed t s z) → ⊥) (IsChange (skewed t s z) (all_kept t))) (to_z-of_z w64 k c.ranges.factor) c.in_ok-change.ensures)))

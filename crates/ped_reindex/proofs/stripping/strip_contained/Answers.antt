use Rattle.std.proofs.Common.{◌≡◌, ℕ, ℤ, List, Bool, true, false, not, IsTrue, ◌↔◌, refl, sym, ap, ◌∙◌, subst}
use Rattle.std.specs.Int.{w64}
use Rattle.std.proofs.lemmas.Int.{to_z-of_z}
use Rattle.ped_tree.specs.Views.{program_tree, stmt_trees, head_of}
use Rattle.ped_rules.specs.Rules.{is_one, has_other_step}
use Rattle.ped_rules.specs.ped_symbols.specs.Kinds.{Table}
use Rattle.ped_rules.specs.ped_steps.specs.declared.rules.Rule.TheVariants.{BoundNotPlain, StepShape, BadFactor}
use Rattle.ped_reindex.specs.Stripping.{is_bad_size}
use Rattle.ped_reindex.proofs.StripRules as rules
use Rattle.ped_reindex.proofs.StripAnswers.{refused}
use Rattle.ped_reindex.proofs.stripping.strip_contained.Goals as goal

not_plain : {P : Type 0} (b : Bool) → b ≡ false → IsTrue b ↔ P → P → ⊥
not_plain true n is p = absurd cc
not_plain false n is p = let f : false ≡ true = is.1 p in absurd cc

so_plain : {P : Type 0} (b : Bool) → b ≡ true → IsTrue b ↔ P → P
so_plain b h is = is.0 h

other : (r b : Bool) → r ≡ not b → r ≡ false → b ≡ true
other r true e n = refl
other r false e n = let f : false ≡ true = sym n ∙ e in absurd cc

unit : (r b : Bool) → r ≡ not b → r ≡ true → b ≡ false
unit r false e h = refl
unit r true e h = let f : true ≡ false = sym h ∙ e in absurd cc

pub returns-then-not-branch : goal.returns-then-not-branch
returns-then-not-branch g c =
    let t = program_tree c.args.scene.now.tree.now in
    let s = c.args.number in
    let k = c.args.size in
    let h = head_of c.args.d.now in
    let body = stmt_trees c.args.d.now.body.items in
    refused s k t BoundNotPlain s c.against.result c.against.ensures
    (rules.plain_first s k t h body c.requires.is c.requires.serial c.requires.shared c.requires.contained (not_plain c.in_ok-is_plain.field-0 c.if-not-branch.true c.in_ok-is_plain.ensures))

pub returns-then-not-has_step_one : goal.returns-then-not-has_step_one
returns-then-not-has_step_one g c =
    let t = program_tree c.args.scene.now.tree.now in
    let s = c.args.number in
    let k = c.args.size in
    let h = head_of c.args.d.now in
    let body = stmt_trees c.args.d.now.body.items in
    let consts = c.consts.ensures ∙ ap (λ (table : Table). table.constants) c.requires.scene.symbols in
    let plain = so_plain c.in_ok-is_plain.field-0 c.if-not-branch.false c.in_ok-is_plain.ensures in
    let step = subst (λ (cs : List (List ℕ × ℤ)). has_other_step cs is_one h body ≡ true) consts (other c.has_step_one.result (has_other_step c.consts.result.now is_one h body) c.has_step_one.ensures c.if-not-has_step_one.true) in
    refused s k t StepShape s c.against-then-not-has_step_one.result c.against-then-not-has_step_one.ensures
    (rules.shape_first s k t h body c.requires.is c.requires.serial c.requires.shared c.requires.contained plain step)

pub returns-then-is_bad_size : goal.returns-then-is_bad_size
returns-then-is_bad_size g c =
    let t = program_tree c.args.scene.now.tree.now in
    let s = c.args.number in
    let k = c.args.size in
    let h = head_of c.args.d.now in
    let body = stmt_trees c.args.d.now.body.items in
    let consts = c.consts.ensures ∙ ap (λ (table : Table). table.constants) c.requires.scene.symbols in
    let plain = so_plain c.in_ok-is_plain.field-0 c.if-not-branch.false c.in_ok-is_plain.ensures in
    let step = subst (λ (cs : List (List ℕ × ℤ)). has_other_step cs is_one h body ≡ false) consts (unit c.has_step_one.result (has_other_step c.consts.result.now is_one h body) c.has_step_one.ensures c.if-not-has_step_one.false) in
    refused s k t BadFactor s c.against-then-is_bad_size.result c.against-then-is_bad_size.ensures
    (rules.size_first s k t h body c.requires.is c.requires.serial c.requires.shared c.requires.contained plain step (ap is_bad_size (sym (to_z-of_z w64 k c.ranges.size)) ∙ sym c.is_bad_size.ensures ∙ c.if-is_bad_size.true))

pub strip_by-requires-clause-plain : goal.strip_by-requires-clause-plain
strip_by-requires-clause-plain g c = so_plain c.in_ok-is_plain.field-0 c.if-not-branch.false c.in_ok-is_plain.ensures

pub strip_by-requires-clause-unit : goal.strip_by-requires-clause-unit
strip_by-requires-clause-unit g c =
    let h = head_of c.args.d.now in
    let body = stmt_trees c.args.d.now.body.items in
    let consts = c.consts.ensures ∙ ap (λ (table : Table). table.constants) c.requires.scene.symbols in
    subst (λ (cs : List (List ℕ × ℤ)). has_other_step cs is_one h body ≡ false) consts (unit c.has_step_one.result (has_other_step c.consts.result.now is_one h body) c.has_step_one.ensures c.if-not-has_step_one.false)

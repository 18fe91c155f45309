use Rattle.std.proofs.Common.{ℕ, ℤ, List, IsTrue, None, sym, ap, ◌∙◌, subst}
use Rattle.ped_tree.specs.Views.{program_tree, stmt_trees, head_of}
use Rattle.ped_rules.specs.ped_symbols.specs.Kinds.{Table, table_of}
use Rattle.ped_rules.specs.ped_symbols.specs.RightUses.RightLoops.{step_is_right}
use Rattle.ped_rules.specs.ped_steps.specs.declared.rules.Rule.TheVariants.{Range, NotConstant}
use Rattle.ped_rules.proofs.RightSteps.{right_step}
use Rattle.ped_reindex.specs.declared.iterations.Iteration.TheVariants.{Unknown, Far, Near}
use Rattle.ped_reindex.specs.CodePeeling.{IsFound}
use Rattle.ped_reindex.specs.Peeling.{peeled_of, has_far}
use Rattle.ped_reindex.proofs.PeelRules as rules
use Rattle.ped_reindex.proofs.PeelAnswers.{refused, known_by}
use Rattle.ped_reindex.proofs.peeling.peel_contained.Goals as goal

pub iteration_of-requires : goal.iteration_of-requires
iteration_of-requires g c =
    let t = program_tree c.args.scene.now.tree.now in
    let s = c.args.number in
    let k = c.args.last in
    let h = head_of c.args.d.now in
    let body = stmt_trees c.args.d.now.body.items in
    let consts = c.consts.ensures ∙ ap (λ (table : Table). table.constants) c.requires.scene.symbols in
    subst (λ (cs : List (List ℕ × ℤ)). IsTrue (step_is_right cs h.step)) (sym consts) (right_step t s h body c.requires.scene.valid c.requires.is)

pub returns-in-Far : goal.returns-in-Far
returns-in-Far g c =
    let t = program_tree c.args.scene.now.tree.now in
    let s = c.args.number in
    let k = c.args.last in
    let h = head_of c.args.d.now in
    let body = stmt_trees c.args.d.now.body.items in
    let consts = c.consts.ensures ∙ ap (λ (table : Table). table.constants) c.requires.scene.symbols in
    let far = subst (λ (cs : List (List ℕ × ℤ)). IsFound (peeled_of k cs h) Far) consts c.in-Far.ensures in
    refused s k t Range s c.against.result c.against.ensures
    (rules.range_first s k t h body c.requires.is c.requires.serial c.requires.shared c.requires.contained far)

pub returns-in-Unknown : goal.returns-in-Unknown
returns-in-Unknown g c =
    let t = program_tree c.args.scene.now.tree.now in
    let s = c.args.number in
    let k = c.args.last in
    let h = head_of c.args.d.now in
    let body = stmt_trees c.args.d.now.body.items in
    let consts = c.consts.ensures ∙ ap (λ (table : Table). table.constants) c.requires.scene.symbols in
    let none = subst (λ (cs : List (List ℕ × ℤ)). IsFound (peeled_of k cs h) Unknown) consts c.in-Unknown.ensures in
    refused s k t NotConstant s c.against-in-Unknown.result c.against-in-Unknown.ensures
    (rules.constant_first s k t h body c.requires.is c.requires.serial c.requires.shared c.requires.contained (ap has_far none) (known_by k (table_of t).constants h body None none))

pub peel_off-requires : goal.peel_off-requires
peel_off-requires g c =
    let t = program_tree c.args.scene.now.tree.now in
    let s = c.args.number in
    let k = c.args.last in
    let h = head_of c.args.d.now in
    let body = stmt_trees c.args.d.now.body.items in
    let consts = c.consts.ensures ∙ ap (λ (table : Table). table.constants) c.requires.scene.symbols in
    let found = subst (λ (cs : List (List ℕ × ℤ)). IsFound (peeled_of k cs h) (Near c.in-Near.taken)) consts c.in-Near.ensures in
    record {
      scene = c.requires.scene;
      is = c.requires.is;
      serial = c.requires.serial;
      shared = c.requires.shared;
      contained = c.requires.contained;
      taken = found.0;
      near = found.1;
    }

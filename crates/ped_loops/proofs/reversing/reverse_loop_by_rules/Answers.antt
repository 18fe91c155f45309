use Rattle.std.proofs.Common.{◌≡◌, ℕ, ℤ, List, true, Some, sym, ap, ◌∙◌, subst}
use Rattle.ped_tree.specs.Constants.ConstantExpressions.{constant_value}
use Rattle.ped_tree.specs.Views.{program_tree, stmt_trees, head_of}
use Rattle.ped_rules.specs.Rules.{is_unit, has_other_step}
use Rattle.ped_rules.specs.ped_symbols.specs.Kinds.{Table}
use Rattle.ped_rules.specs.ped_steps.specs.declared.rules.Rule.TheVariants.{ParallelState, IndexEscapes, StepShape}
use Rattle.ped_loops.proofs.ReverseRules as rules
use Rattle.ped_loops.proofs.ReverseAnswers.{refused, unit_passed}
use Rattle.ped_loops.proofs.reversing.reverse_loop_by_rules.Goals as goal

pub returns-then-d : goal.returns-then-d
returns-then-d g c =
    let t = program_tree c.args.scene.now.tree.now in
    let s = c.args.number in
    refused s t ParallelState s c.against.result c.against.ensures (rules.state_first s t (head_of c.args.d.now) (stmt_trees c.args.d.now.body.items) c.requires.is c.if-d.true)

pub returns-in-Some : goal.returns-in-Some
returns-in-Some g c =
    let t = program_tree c.args.scene.now.tree.now in
    let s = c.args.number in
    refused s t IndexEscapes c.in-Some.statement c.against-in-Some.result c.against-in-Some.ensures
    (rules.escape_first s t (head_of c.args.d.now) (stmt_trees c.args.d.now.body.items) c.requires.is c.if-d.false c.in-Some.statement c.in-Some.ensures)

pub unless_limited-requires-clause-step : goal.unless_limited-requires-clause-step
unless_limited-requires-clause-step g c =
    let consts = c.consts.ensures ∙ ap (λ (table : Table). table.constants) c.requires.scene.symbols in
    subst (λ (cs : List (List ℕ × ℤ)). constant_value cs (head_of c.args.d.now).step ≡ Some c.in-Some-unit_step.step) consts c.in-Some-unit_step.ensures.0 ∙ ap (λ (n : ℤ). Some n) (sym (unit_passed c.in-Some-unit_step.step c.in-Some-unit_step.ensures.1))

pub returns-in-None : goal.returns-in-None
returns-in-None g c =
    let t = program_tree c.args.scene.now.tree.now in
    let s = c.args.number in
    let h = head_of c.args.d.now in
    let body = stmt_trees c.args.d.now.body.items in
    let consts = c.consts.ensures ∙ ap (λ (table : Table). table.constants) c.requires.scene.symbols in
    let other = subst (λ (cs : List (List ℕ × ℤ)). has_other_step cs is_unit h body ≡ true) consts c.in-None.ensures in
    refused s t StepShape s c.against-in-None.result c.against-in-None.ensures
    (rules.shape_first s t h body c.requires.is c.if-d.false c.in_default.ensures other)

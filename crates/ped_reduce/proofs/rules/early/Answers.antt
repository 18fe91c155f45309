use Rattle.std.proofs.Common.{ℕ, ℤ, List, ◌||◌, IsTrue, sym, ap, ◌∙◌, subst}
use Rattle.std.specs.List.{list_any}
use Rattle.std.proofs.lemmas.Result.{IfOk-weaker}
use Rattle.ped_tree.specs.Nests.{Loop}
use Rattle.ped_tree.specs.Views.{program_tree, stmt_trees, head_of}
use Rattle.ped_refs.specs.Loops.{nest_of}
use Rattle.ped_rules.specs.ped_symbols.specs.Kinds.{Table}
use Rattle.ped_rules.specs.ped_symbols.specs.RightUses.RightLoops.{step_is_right}
use Rattle.ped_rules.specs.ped_steps.proofs.Answering.{few_numbers}
use Rattle.ped_rules.specs.CodeSpans.{IsCourse}
use Rattle.ped_rules.specs.Spans.{span_of}
use Rattle.ped_rules.proofs.RightSteps.{right_step}
use Rattle.ped_reduce.proofs.SummingRules as rules
use Rattle.ped_reduce.proofs.rules.early.Goals as goal

pub loops_round-requires : goal.loops_round-requires
loops_round-requires g c = few_numbers (program_tree c.args.scene.now.tree.now) c.requires.scene.valid

pub returns-then-is_in_parallel : goal.returns-then-is_in_parallel
returns-then-is_in_parallel g c =
    let t = program_tree c.args.scene.now.tree.now in
    let h = head_of c.args.d.now in
    let body = stmt_trees c.args.d.now.body.items in
    let nest = ap nest_of c.deref.ensures.value ∙ c.in_ok-round.ensures in
    let test = c.is_in_parallel.ensures ∙ ap (λ (loops : List Loop). h.parallel || list_any (λ (m : Loop). m.head.parallel) loops) nest in
    rules.state_first c.args.number c.args.names.now t h body c.requires.is (sym test ∙ c.if-is_in_parallel.true)

pub returns-in-Some : goal.returns-in-Some
returns-in-Some g c =
    let t = program_tree c.args.scene.now.tree.now in
    let h = head_of c.args.d.now in
    let body = stmt_trees c.args.d.now.body.items in
    let nest = ap nest_of c.deref.ensures.value ∙ c.in_ok-round.ensures in
    let test = c.is_in_parallel.ensures ∙ ap (λ (loops : List Loop). h.parallel || list_any (λ (m : Loop). m.head.parallel) loops) nest in
    rules.escape_first c.args.number c.args.names.now t h body c.requires.is (sym test ∙ c.if-is_in_parallel.false) c.in-Some.statement c.in-Some.ensures

pub course_of-requires : goal.course_of-requires
course_of-requires g c =
    let t = program_tree c.args.scene.now.tree.now in
    let h = head_of c.args.d.now in
    let body = stmt_trees c.args.d.now.body.items in
    let consts = c.consts.ensures ∙ ap (λ (table : Table). table.constants) c.requires.scene.symbols in
    subst (λ (cs : List (List ℕ × ℤ)). IsTrue (step_is_right cs h.step)) (sym consts) (right_step t c.args.number h body c.requires.scene.valid c.requires.is)

pub early_by_course-requires : goal.early_by_course-requires
early_by_course-requires g c =
    let h = head_of c.args.d.now in
    let consts = c.consts.ensures ∙ ap (λ (table : Table). table.constants) c.requires.scene.symbols in
    record {
      scene = c.requires.scene;
      is = c.requires.is;
      course = subst (λ (cs : List (List ℕ × ℤ)). IsCourse (span_of cs h) c.course_of.result) consts c.course_of.ensures;
    }

pub returns : goal.returns
returns g c =
    let t = program_tree c.args.scene.now.tree.now in
    let h = head_of c.args.d.now in
    let body = stmt_trees c.args.d.now.body.items in
    let nest = ap nest_of c.deref.ensures.value ∙ c.in_ok-round.ensures in
    let test = c.is_in_parallel.ensures ∙ ap (λ (loops : List Loop). h.parallel || list_any (λ (m : Loop). m.head.parallel) loops) nest in
    let serial = sym test ∙ c.if-is_in_parallel.false in
    IfOk-weaker c.early_by_course.result _ _ (rules.ranged c.args.number c.args.names.now t h body c.requires.is serial c.in_default.ensures) c.early_by_course.ensures

use Rattle.std.proofs.Common.{◌≡◌, ℕ, ℤ, ◌+◌, List, map, true, Option, Some, None, MatchOption, IsTrue, sym, ap, ◌∙◌, subst}
use Rattle.std.specs.Global.{Vec}
use Rattle.std.proofs.lemmas.List.{length-map}
use Rattle.ped_tree.specs.Views.{program_tree, stmt_trees, head_of}
use Rattle.ped_rules.specs.ped_symbols.specs.Kinds.{Table}
use Rattle.ped_rules.specs.ped_symbols.specs.RightUses.RightLoops.{step_is_right}
use Rattle.ped_rules.specs.CodeSpans.{IsCourse, span_in}
use Rattle.ped_rules.specs.Spans.{span_of}
use Rattle.ped_rules.specs.declared.spans.Course.TheVariants.{Near}
use Rattle.ped_rules.proofs.RightSteps.{right_step}
use Rattle.ped_reduce.specs.declared.partials.Partials.{Partials as CodePartials}
use Rattle.ped_reduce.specs.Lowering.{fresh_arrays, partials_of, lowered_with}
use Rattle.ped_reduce.specs.CodeLowering.{partials_view}
use Rattle.ped_reduce.specs.CodeLowered.{lowered_view}
use Rattle.ped_reduce.proofs.LoweringCode.{as_many}
use Rattle.ped_reduce.proofs.MadeAnswers.{with_tree, by_partials}
use Rattle.ped_reduce.proofs.lowering.made_with.Goals as goal

pub course_of-requires : goal.course_of-requires
course_of-requires c =
    let l = c.args.lowered.now in
    let h = head_of c.args.d.now in
    let consts = c.consts.ensures ∙ ap (λ (table : Table). table.constants) c.requires.kept.symbols in
    subst (λ (cs : List (List ℕ × ℤ)). IsTrue (step_is_right cs h.step)) (sym consts) (right_step (program_tree l.tree) (c.args.number + l.more) h (stmt_trees c.args.d.now.body.items) c.requires.kept.valid c.requires.is)

pub returns-in-Some : goal.returns-in-Some
returns-in-Some c =
    let l = c.args.lowered.now in
    let s = c.args.number in
    let names = c.args.names.now in
    let h = head_of c.args.d.now in
    let body = stmt_trees c.args.d.now.body.items in
    let span = c.in-Near.span in
    let xs = c.in-Some.partials.items in
    let ps = map partials_view xs in
    let fresh = fresh_arrays (program_tree l.tree) in
    let tree = program_tree c.in_ok-tree-in-Some.tree in
    let consts = c.consts.ensures ∙ ap (λ (table : Table). table.constants) c.requires.kept.symbols in
    let near = subst (λ (cs : List (List ℕ × ℤ)). IsCourse (span_of cs h) (Near span)) consts c.in-Near.ensures in
    let arrays = subst (λ (o : Option (Vec CodePartials)). MatchOption o (partials_of names fresh ≡ None) (λ all. partials_of names fresh ≡ Some (map partials_view all.items))) c.in-Some.is c.in_ok-partials.ensures in
    let made = c.in_ok-tree-in-Some.ensures.tree ∙ ap (λ (qs : List CodePartials). (lowered_with true (lowered_view l) s body (span_in span) (map partials_view qs)).tree) c.deref.ensures.value in
    let first = by_partials s names l h body span near (Some ps) arrays ∙ with_tree (lowered_with true (lowered_view l) s body (span_in span) ps) tree made in
    (first, sym (length-map xs partials_view) ∙ as_many names fresh ps arrays, c.in_ok-tree-in-Some.ensures.lines)

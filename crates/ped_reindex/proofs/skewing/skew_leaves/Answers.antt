use Rattle.std.proofs.Common.{◌≤◌, List, length, sym, ap, ◌∙◌, subst}
use Rattle.std.specs.Int.{w64}
use Rattle.std.proofs.lemmas.Int.{to_z-of_z}
use Rattle.ped_tree.specs.Views.{program_tree, stmt_trees, head_of}
use Rattle.ped_rules.specs.ped_affine.specs.PairViews.{heads_of}
use Rattle.ped_refs.specs.declared.loops.Loop.{Loop}
use Rattle.ped_refs.specs.Loops.{nest_of}
use Rattle.ped_rules.specs.ped_steps.proofs.Answering.{few_numbers}
use Rattle.ped_reindex.proofs.NestRooms.{pushed_short, heads_pushed}
use Rattle.ped_reindex.proofs.SkewAnswers.{leaves_is}
use Rattle.ped_reindex.proofs.skewing.skew_leaves.Goals as goal

pub loops_round-requires : goal.loops_round-requires
loops_round-requires g c = few_numbers (program_tree c.args.scene.now.tree.now) c.requires.scene.valid

pub bound_leaves-requires-clause-nest : goal.bound_leaves-requires-clause-nest
bound_leaves-requires-clause-nest g c =
    let x : Loop = record { number = c.args.number; statement = c.args.d } in
    subst (λ (xs : List Loop). length xs ≤ 6) (sym (c.deref.ensures.value ∙ c.in_ok-push.ensures.items))
    (pushed_short (program_tree c.args.scene.now.tree.now) c.args.number (head_of c.args.d.now) (stmt_trees c.args.d.now.body.items) c.requires.scene.valid c.requires.is c.in_ok-nest.nest.items x c.in_ok-nest.ensures)

pub bound_leaves-requires-2-clause-nest : goal.bound_leaves-requires-2-clause-nest
bound_leaves-requires-2-clause-nest g c =
    let x : Loop = record { number = c.args.number; statement = c.args.d } in
    subst (λ (xs : List Loop). length xs ≤ 6) (sym (c.deref-2.ensures.value ∙ c.in_ok-push.ensures.items))
    (pushed_short (program_tree c.args.scene.now.tree.now) c.args.number (head_of c.args.d.now) (stmt_trees c.args.d.now.body.items) c.requires.scene.valid c.requires.is c.in_ok-nest.nest.items x c.in_ok-nest.ensures)

pub returns : goal.returns
returns g c =
    let t = program_tree c.args.scene.now.tree.now in
    let s = c.args.number in
    let h = head_of c.args.d.now in
    let body = stmt_trees c.args.d.now.body.items in
    let x : Loop = record { number = c.args.number; statement = c.args.d } in
    let f = to_z-of_z w64 c.args.factor c.ranges.factor in
    let heads = heads_pushed t s h body c.requires.scene.valid c.requires.is c.in_ok-nest.nest.items x c.in_ok-nest.ensures in
    let one = ap (λ (xs : List Loop). heads_of (nest_of xs)) (c.deref.ensures.value ∙ c.in_ok-push.ensures.items) ∙ heads in
    let two = ap (λ (xs : List Loop). heads_of (nest_of xs)) (c.deref-2.ensures.value ∙ c.in_ok-push.ensures.items) ∙ heads in
    c.either.ensures
    ∙ leaves_is t s h body (head_of c.args.inner.now) (stmt_trees c.args.inner.now.body.items) c.requires.only c.args.factor f one two c.in_ok-first.first c.in_ok-last.last (c.in_ok-first.ensures s) (c.in_ok-last.ensures s)

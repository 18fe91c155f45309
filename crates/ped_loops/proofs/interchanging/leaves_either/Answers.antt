use Rattle.std.proofs.Common.{ℕ, ◌≤◌, List, length, Bool, None, ◌≡◌, ◌||◌, sym, ap, subst, ◌∙◌}
use Rattle.std.proofs.lemmas.Result.{IfOk-weaker}
use Rattle.ped_tree.specs.Tree.{Head}
use Rattle.ped_tree.specs.Views.{program_tree, stmt_trees, head_of}
use Rattle.ped_tree.specs.declared.statements.Stmt.{Stmt}
use Rattle.ped_rules.specs.OnlyLoops.{only_loop}
use Rattle.ped_rules.specs.Rules.{leaves, setting_at, heads_round}
use Rattle.ped_rules.specs.ped_steps.proofs.Answering.{few_numbers}
use Rattle.ped_rules.specs.ped_affine.specs.PairViews.{heads_of}
use Rattle.ped_refs.specs.Loops.{nest_of}
use Rattle.ped_refs.specs.declared.loops.Loop.{Loop}
use Rattle.ped_rules.proofs.NestDepths.{loops_short}
use Rattle.ped_loops.specs.Interchanging.{makes_far}
use Rattle.ped_loops.proofs.InterchangeAnswers.{far_outside, far_found, new_only, round_short, heads_pushed}
use Rattle.ped_loops.proofs.interchanging.leaves_either.Goals as goal

pub loops_round-requires : goal.loops_round-requires
loops_round-requires g c = few_numbers (program_tree c.args.scene.now.tree.now) c.requires.scene.valid

pub leaves_bound-requires-clause-short : goal.leaves_bound-requires-clause-short
leaves_bound-requires-clause-short g c =
    subst (λ (ls : List Loop). length ls ≤ 6) (sym c.deref.ensures.value) (loops_short (program_tree c.args.scene.now.tree.now) c.args.number c.in_ok-round.round.items c.requires.scene.valid c.in_ok-round.ensures)

pub returns-then-branch : goal.returns-then-branch
returns-then-branch g c =
    let t = program_tree c.args.scene.now.tree.now in
    let s = c.args.number in
    let outer = c.args.outer.now in
    let inner = c.args.inner.now in
    let new = c.args.new.now in
    let heads = ap (λ (ls : List Loop). heads_of (nest_of ls)) c.deref.ensures.value ∙ ap heads_of c.in_ok-round.ensures in
    far_outside t s (head_of outer) (stmt_trees outer.body.items) c.requires.is (head_of inner) (stmt_trees inner.body.items) c.requires.only (head_of new) (stmt_trees new.body.items) c.requires.new (setting_at t s) (heads_round t s)
    (ap (λ (hs : List Head). leaves (setting_at t s) hs (head_of new).first || leaves (setting_at t s) hs (head_of new).last) (sym heads) ∙ sym (c.in_ok-leaves_bound.ensures s) ∙ c.if-branch.true)

pub leaves_bound-requires-in-Some-clause-short : goal.leaves_bound-requires-in-Some-clause-short
leaves_bound-requires-in-Some-clause-short g c =
    let t = program_tree c.args.scene.now.tree.now in
    let s = c.args.number in
    let outer = c.args.outer.now in
    let inner = c.args.inner.now in
    round_short t s (head_of outer) (stmt_trees outer.body.items) c.requires.is (head_of inner) (stmt_trees inner.body.items) c.requires.only c.requires.scene.valid c.in_ok-round.round.items c.deref-in-Some.result.now _
    (c.deref-in-Some.ensures.value ∙ c.in_ok-push.ensures.items) c.in_ok-round.ensures

pub returns-in-Some : goal.returns-in-Some
returns-in-Some g c =
    let t = program_tree c.args.scene.now.tree.now in
    let s = c.args.number in
    let outer = c.args.outer.now in
    let inner = c.args.inner.now in
    let new = c.args.new.now in
    let k = head_of c.in-Some.inside.now in
    let z = stmt_trees c.in-Some.inside.now.body.items in
    let heads = ap (λ (ls : List Loop). heads_of (nest_of ls)) c.deref.ensures.value ∙ ap heads_of c.in_ok-round.ensures in
    let outside = ap (λ (hs : List Head). leaves (setting_at t s) hs (head_of new).first || leaves (setting_at t s) hs (head_of new).last) (sym heads) ∙ sym (c.in_ok-leaves_bound.ensures s) ∙ c.if-branch.false in
    let found = ap (λ (ss : List Stmt). only_loop (stmt_trees ss)) (sym c.deref-2.ensures.value) ∙ c.in-Some.ensures in
    let pushed = heads_pushed t s (head_of outer) (stmt_trees outer.body.items) c.requires.is (head_of inner) (stmt_trees inner.body.items) c.requires.only c.in_ok-round.round.items c.deref-in-Some.result.now _ (c.deref-in-Some.ensures.value ∙ c.in_ok-push.ensures.items) c.in_ok-round.ensures in
    IfOk-weaker c.leaves_bound-in-Some.result
    (λ (r : Bool). (n : ℕ) → r ≡ (leaves (setting_at t n) (heads_of (nest_of c.deref-in-Some.result.now)) k.first || leaves (setting_at t n) (heads_of (nest_of c.deref-in-Some.result.now)) k.last))
    (λ (r : Bool). r ≡ makes_far (setting_at t s) (heads_round t s) (head_of outer) (stmt_trees outer.body.items))
    (λ r e. far_found t s (head_of outer) (stmt_trees outer.body.items) c.requires.is (head_of inner) (stmt_trees inner.body.items) c.requires.only (head_of new) (stmt_trees new.body.items) c.requires.new (setting_at t s) (heads_round t s) outside k z found
    (heads_of (nest_of c.deref-in-Some.result.now)) pushed r (e s))
    c.leaves_bound-in-Some.ensures

pub returns-in-None : goal.returns-in-None
returns-in-None g c =
    let t = program_tree c.args.scene.now.tree.now in
    let s = c.args.number in
    let outer = c.args.outer.now in
    let inner = c.args.inner.now in
    let new = c.args.new.now in
    let none : only_loop (stmt_trees new.body.items) ≡ None = ap (λ (ss : List Stmt). only_loop (stmt_trees ss)) (sym c.deref-2.ensures.value) ∙ c.in-None.ensures in
    let some = new_only t s (head_of outer) (stmt_trees outer.body.items) c.requires.is (head_of inner) (stmt_trees inner.body.items) c.requires.only (head_of new) (stmt_trees new.body.items) c.requires.new in
    absurd cc

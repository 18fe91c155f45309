use Rattle.std.proofs.Common.{Bool, subst, ◌+◌, arith}
use Rattle.ped_tree.specs.Views.{program_tree, stmt_trees, head_of}
use Rattle.ped_rules.specs.Rules.{TellsPlain}
use Rattle.ped_rules.proofs.NestLaws.InnerPlaces.{inner_there}
use Rattle.ped_loops.proofs.InterchangeAnswers.{few_inner, outer_unplain, inner_unplain, both_plain}
use Rattle.ped_loops.proofs.interchanging.first_unplain.Goals as goal

pub overflow_add-number : goal.overflow_add-number
overflow_add-number g c =
    let t = program_tree c.args.scene.now.tree.now in
    let outer = c.args.outer.now in
    let inner = c.args.inner.now in
    let few = few_inner t c.args.number (head_of outer) (stmt_trees outer.body.items) c.requires.is (head_of inner) (stmt_trees inner.body.items) c.requires.only c.requires.scene.valid in
    omega (arith, few)

pub overflow_add-result : goal.overflow_add-result
overflow_add-result g c =
    let t = program_tree c.args.scene.now.tree.now in
    let outer = c.args.outer.now in
    let inner = c.args.inner.now in
    let few = few_inner t c.args.number (head_of outer) (stmt_trees outer.body.items) c.requires.is (head_of inner) (stmt_trees inner.body.items) c.requires.only c.requires.scene.valid in
    omega (arith, few)

pub are_plain-requires-2-clause-is : goal.are_plain-requires-2-clause-is
are_plain-requires-2-clause-is g c =
    inner_there (program_tree c.args.scene.now.tree.now) c.args.number (head_of c.args.outer.now) (stmt_trees c.args.outer.now.body.items) (head_of c.args.inner.now) (stmt_trees c.args.inner.now.body.items) c.requires.is c.requires.only

pub returns-then-not-branch : goal.returns-then-not-branch
returns-then-not-branch g c =
    let t = program_tree c.args.scene.now.tree.now in
    let s = c.args.number in
    let outer = c.args.outer.now in
    let inner = c.args.inner.now in
    outer_unplain t s (head_of outer) (stmt_trees outer.body.items) c.requires.is (head_of inner) (stmt_trees inner.body.items) c.requires.only
    (subst (λ (r : Bool). TellsPlain t s (head_of outer) r) c.if-not-branch.true c.in_ok-are_plain.ensures)

pub returns-then-not-branch-2 : goal.returns-then-not-branch-2
returns-then-not-branch-2 g c =
    let t = program_tree c.args.scene.now.tree.now in
    let s = c.args.number in
    let outer = c.args.outer.now in
    let inner = c.args.inner.now in
    inner_unplain t s (head_of outer) (stmt_trees outer.body.items) c.requires.is (head_of inner) (stmt_trees inner.body.items) c.requires.only
    (subst (λ (r : Bool). TellsPlain t s (head_of outer) r) c.if-not-branch.false c.in_ok-are_plain.ensures)
    (subst (λ (r : Bool). TellsPlain t (s + 1) (head_of inner) r) c.if-not-branch-2.true c.in_ok-are_plain-2.ensures)

pub returns : goal.returns
returns g c =
    let t = program_tree c.args.scene.now.tree.now in
    let s = c.args.number in
    let outer = c.args.outer.now in
    let inner = c.args.inner.now in
    both_plain t s (head_of outer) (stmt_trees outer.body.items) c.requires.is (head_of inner) (stmt_trees inner.body.items) c.requires.only
    (subst (λ (r : Bool). TellsPlain t s (head_of outer) r) c.if-not-branch.false c.in_ok-are_plain.ensures)
    (subst (λ (r : Bool). TellsPlain t (s + 1) (head_of inner) r) c.if-not-branch-2.false c.in_ok-are_plain-2.ensures)

use Rattle.std.proofs.Common.{sym, ◌∙◌}
use Rattle.ped_tree.specs.Views.{program_tree, stmt_trees, head_of}
use Rattle.ped_reduce.proofs.SummingRules as rules
use Rattle.ped_reduce.proofs.rules.late.Goals as goal

pub returns-then-branch : goal.returns-then-branch
returns-then-branch g c =
    rules.private_first c.args.number c.args.names.now (program_tree c.args.scene.now.tree.now) (head_of c.args.d.now) (stmt_trees c.args.d.now.body.items) c.requires.is (sym c.in_ok-has_private_or_twice.ensures ∙ c.if-branch.true)

pub returns-in-Some : goal.returns-in-Some
returns-in-Some g c =
    let h = head_of c.args.d.now in
    let body = stmt_trees c.args.d.now.body.items in
    rules.no_sum_first c.args.number c.args.names.now (program_tree c.args.scene.now.tree.now) h body c.requires.is (sym c.in_ok-has_private_or_twice.ensures ∙ c.if-branch.false)
    c.in-Some.statement (record { head = h; body = body; is = c.requires.is }, sym c.in_ok-statement.ensures ∙ c.in-Some.is)

pub returns-in-None : goal.returns-in-None
returns-in-None g c =
    let s = c.args.number in
    let names = c.args.names.now in
    let t = program_tree c.args.scene.now.tree.now in
    let h = head_of c.args.d.now in
    let body = stmt_trees c.args.d.now.body.items in
    rules.none_behind s names t h body c.requires.is (sym c.in_ok-has_private_or_twice.ensures ∙ c.if-branch.false)
    (rules.no_sum_nowhere s names t h body c.requires.is (sym c.in_ok-statement.ensures ∙ c.in-None.is))

use Rattle.std.proofs.Common.{sym, ◌∙◌}
use Rattle.ped_tree.specs.Views.{program_tree, stmt_trees, head_of}
use Rattle.ped_rules.specs.ped_steps.specs.declared.rules.Rule.TheVariants.{NothingToReject}
use Rattle.ped_loops.proofs.RejectRules as rules
use Rattle.ped_loops.proofs.RejectAnswers.{refused, accepted}
use Rattle.ped_loops.proofs.rejecting.reject_in.Goals as goal

pub returns-then-not-branch : goal.returns-then-not-branch
returns-then-not-branch g c =
    let t = program_tree c.args.scene.now.tree.now in
    let s = c.args.number in
    let x = c.args.name.now in
    let found = c.in_ok-has_pending.ensures in
    let none = rules.nothing_pending s x t found.0 found.1 (sym found.2 ∙ c.if-not-branch.true) in
    refused t s x NothingToReject s c.against.result c.against.ensures (rules.nothing_first s x t (head_of c.args.d.now) (stmt_trees c.args.d.now.body.items) c.requires.is none)

pub rejected-requires-clause-valid : goal.rejected-requires-clause-valid
rejected-requires-clause-valid g c =
    let t = program_tree c.args.scene.now.tree.now in
    let s = c.args.number in
    let x = c.args.name.now in
    let found = c.in_ok-has_pending.ensures in
    rules.pending_valid s x t c.requires.scene.valid (record { head = head_of c.args.d.now; body = stmt_trees c.args.d.now.body.items; is = c.requires.is }) found.0 found.1 (sym found.2 ∙ c.if-not-branch.false)

pub returns : goal.returns
returns g c =
    let t = program_tree c.args.scene.now.tree.now in
    let s = c.args.number in
    let x = c.args.name.now in
    let found = c.in_ok-has_pending.ensures in
    let some = rules.some_pending s x t found.0 found.1 (sym found.2 ∙ c.if-not-branch.false) in
    accepted t s x c.in_ok-change.change (rules.nothing_stands s x t (head_of c.args.d.now) (stmt_trees c.args.d.now.body.items) c.requires.is some) c.in_ok-change.ensures

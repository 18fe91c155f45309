use Rattle.std.proofs.Common.{not, sym, ap, ◌∙◌}
use Rattle.ped_tree.specs.Views.{program_tree, stmt_trees, head_of}
use Rattle.ped_reduce.proofs.SummingRules as rules
use Rattle.ped_reduce.proofs.rules.early_by_names.Goals as goal

pub returns-then-branch : goal.returns-then-branch
returns-then-branch g c =
    rules.scalar_first c.args.number c.args.names.now (program_tree c.args.scene.now.tree.now) (head_of c.args.d.now) (stmt_trees c.args.d.now.body.items) c.requires.is c.requires.near (sym c.in_ok-has_unsummable.ensures ∙ c.if-branch.true)

pub returns-then-known : goal.returns-then-known
returns-then-known g c =
    rules.clear c.args.number c.args.names.now (program_tree c.args.scene.now.tree.now) (head_of c.args.d.now) (stmt_trees c.args.d.now.body.items) c.requires.is c.requires.near (sym c.in_ok-has_unsummable.ensures ∙ c.if-branch.false) (c.requires.known ∙ ap not c.if-known.true)

pub returns : goal.returns
returns g c =
    rules.constant_first c.args.number c.args.names.now (program_tree c.args.scene.now.tree.now) (head_of c.args.d.now) (stmt_trees c.args.d.now.body.items) c.requires.is c.requires.near (sym c.in_ok-has_unsummable.ensures ∙ c.if-branch.false) (c.requires.known ∙ ap not c.if-known.false)

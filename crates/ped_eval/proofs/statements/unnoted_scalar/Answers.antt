use Rattle.std.proofs.Common.{◌≡◌, false, ap, subst, ◌∙◌, sym, IfSome}
use Rattle.ped_tree.specs.Views.{expr_tree}
use Rattle.ped_eval.proofs.Levels.{tree-Var}
use Rattle.ped_eval.proofs.Plain.{own_left}
use Rattle.ped_eval.proofs.statements.unnoted_scalar.Goals as goal

pub returns-in-Var : goal.returns-in-Var
returns-in-Var c = own_left c.args.left.now c.in-Var.name c.args.scope.now c.args.notes.now.kept c.own_scalar.result (ap expr_tree c.in-Var.is ∙ tree-Var c.in-Var.name) c.if-notes.false c.own_scalar.ensures

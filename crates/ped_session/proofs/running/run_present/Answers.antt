use Rattle.std.proofs.Common.{List, sym, ap, ◌∙◌}
use Rattle.std.proofs.lemmas.Result.{IfOk-weaker}
use Rattle.ped_tree.specs.declared.statements.Stmt.{Stmt}
use Rattle.ped_tree.specs.Views.{stmt_trees, program_tree}
use Rattle.ped_eval.specs.OutcomeViews.{outcome_view}
use Rattle.ped_transformations.specs.ped_reduce.specs.CodeLowered.{lowered_view}
use Rattle.ped_session.specs.Listing.{some_holds_list}
use Rattle.ped_session.proofs.ListedLoops.{has_no_list}
use Rattle.ped_session.proofs.OneRun.{runs_itself}
use Rattle.ped_session.proofs.RunsInOrder.{lowered_to_itself}
use Rattle.ped_session.proofs.running.run_present.Goals as goal

pub returns-then-branch : goal.returns-then-branch
returns-then-branch g c =
    IfOk-weaker c.run_lowered.result _ _ (λ o tells. record { lowered = lowered_view c.in_ok-lowered.lowered; lowers = c.in_ok-lowered.ensures.lowered; tells = tells }) c.run_lowered.ensures

pub returns : goal.returns
returns g c =
    let t = program_tree c.args.present.now.program.now in
    let same = ap (λ (body : List Stmt). some_holds_list (stmt_trees body)) (sym c.deref.ensures.value) in
    let none = has_no_list t (same ∙ sym c.in_ok-some_holds_list.ensures ∙ c.if-branch.false) in
    IfOk-weaker c.run_program.result _ _ (λ o is. runs_itself c.args.choices.now c.args.input.now t (outcome_view o) (lowered_to_itself t none) is) c.run_program.ensures

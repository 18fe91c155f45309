-- A whole run with choices that forgets copies.
use Rattle.std.proofs.Common.{[], sym, subst}
use Rattle.std.proofs.lemmas.Result.{IfOk-weaker}
use Rattle.ped_tree.specs.Tree.{ProgramTree}
use Rattle.ped_tree.specs.Views.{program_tree}
use Rattle.ped_interleavings.specs.ped_eval.specs.OutcomeViews.{outcome_view}
use Rattle.ped_interleavings.specs.Lefts.{finished}
use Rattle.ped_interleavings.specs.Interleavings.{Standing, IsInterleavedFrom, at_start}
use Rattle.ped_machine.specs.Naming.{IsApart}
use Rattle.ped_machine.specs.Roots.{held}
use Rattle.ped_machine.proofs.StayingApart.{apart_all}
use Rattle.ped_machine.proofs.machine.run_by_choices.Goals as goal

pub run_forgetting-requires-clause-apart : goal.run_forgetting-requires-clause-apart
run_forgetting-requires-clause-apart c =
    let t = program_tree c.args.program.now in
    let start = at_start t c.args.input.now [] in
    subst (λ (st : Standing). IsApart st.left) (sym (c.in_ok-machine.ensures.stands [])) (apart_all t.body 1 [] finished (λ path f h. h) tt)

pub returns : goal.returns
returns c =
    let t = program_tree c.args.program.now in
    let start = at_start t c.args.input.now c.args.choices.now in
    IfOk-weaker c.run_forgetting.result _ _ (λ o is.
    subst (λ (u : ProgramTree). IsInterleavedFrom u start (outcome_view o)) c.in_ok-machine.ensures.tree
    (subst (λ (st : Standing). IsInterleavedFrom (held c.in_ok-machine.machine).tree st (outcome_view o)) (c.in_ok-machine.ensures.stands c.args.choices.now) is)) c.run_forgetting.ensures

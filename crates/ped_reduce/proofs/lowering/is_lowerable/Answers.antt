use Rattle.std.proofs.Common.{Option, subst}
use Rattle.std.proofs.lemmas.Result.{IfOk-weaker}
use Rattle.ped_tree.specs.Views.{stmt_trees, head_of}
use Rattle.ped_reduce.specs.declared.lowering.Made.{Made}
use Rattle.ped_reduce.specs.CodeLowered.{IsMade}
use Rattle.ped_reduce.proofs.MadeAnswers.{lowerable_made}
use Rattle.ped_reduce.proofs.lowering.is_lowerable.Goals as goal

pub returns-in-Some-2 : goal.returns-in-Some-2
returns-in-Some-2 c =
    let s = c.args.number in
    let l = c.args.lowered.now in
    let names = c.args.names.now in
    let d = c.in-Some.d.now in
    let h = head_of d in
    let body = stmt_trees d.body.items in
    let makes = subst (λ (o : Option Made). IsMade s names l h body o) c.in-Some-2.is c.in_ok-made-in-Some.ensures in
    let both = lowerable_made s names l h body c.in-Some.ensures c.in-Some-2.made makes in
    IfOk-weaker c.is_valid.result _ _ (λ valid told. ((λ yes. both.1 (told.0 yes)), λ lowerable. told.1 (both.0 lowerable))) c.is_valid.ensures

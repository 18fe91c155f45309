use Rattle.std.proofs.Common.{Option, subst}
use Rattle.std.proofs.lemmas.Result.{IfOk-weaker}
use Rattle.ped_tree.specs.Views.{stmt_trees, head_of}
use Rattle.ped_reduce.specs.declared.lowering.Made.{Made}
use Rattle.ped_reduce.specs.CodeLowered.{IsMade}
use Rattle.ped_reduce.proofs.MadeAnswers.{no_next_made, next_made}
use Rattle.ped_reduce.proofs.lowering.lowered_loop_with.Goals as goal

pub returns-in-Some : goal.returns-in-Some
returns-in-Some c =
    let s = c.args.number in
    let l = c.args.lowered.now in
    let h = head_of c.args.d.now in
    let body = stmt_trees c.args.d.now.body.items in
    let makes = subst (λ (o : Option Made). IsMade s c.args.names.now l h body o) c.in-Some.is c.in_ok-made.ensures in
    IfOk-weaker c.if_valid.result _ _ (next_made s c.args.names.now l h body c.requires.is c.in-Some.made makes) c.if_valid.ensures

pub returns-in-None : goal.returns-in-None
returns-in-None c =
    let s = c.args.number in
    let l = c.args.lowered.now in
    let h = head_of c.args.d.now in
    let body = stmt_trees c.args.d.now.body.items in
    no_next_made s c.args.names.now l h body c.requires.is (subst (λ (o : Option Made). IsMade s c.args.names.now l h body o) c.in-None.is c.in_ok-made.ensures)

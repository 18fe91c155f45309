use Rattle.std.proofs.Common.{arith, subst}
use Rattle.std.proofs.lemmas.Result.{IfOk-weaker}
use Rattle.ped_script.specs.declared.kinds.CommandKind.{CommandKind}
use Rattle.ped_session.specs.Steps.{IsStepOf}
use Rattle.ped_session.proofs.Shown.{untested_answer}
use Rattle.ped_session.proofs.session.Session.apply_kind.Goals as goal

pub returns-in-Ask-clause-ticks : goal.returns-in-Ask-clause-ticks
returns-in-Ask-clause-ticks g c =
    let s = c.args.self.now in
    IfOk-weaker c.show.result _ _ (λ reply shows. let none = untested_answer c.in-Ask.query s s reply s shows in omega arith) c.show.ensures

pub returns-in-Step-clause-most : goal.returns-in-Step-clause-most
returns-in-Step-clause-most g c reply next h =
    c.transform.ensures.most reply next (subst (λ (k : CommandKind). IsStepOf k c.args.input.now c.args.self.now reply next) c.in-Step.is h)

use Rattle.std.proofs.Common.{sym, ◌∙◌, subst}
use Rattle.std.specs.Prelude.{IfOk}
use Rattle.ped_script.specs.declared.kinds.CommandKind.{CommandKind}
use Rattle.ped_script.specs.Kinds.{IsMove}
use Rattle.ped_script.proofs.OnlyAuto.{only_auto}
use Rattle.ped_session.specs.Steps.{IsStepOf}
use Rattle.ped_session.proofs.session.Session.apply.Goals as goal

pub apply_kind-reply-requires : goal.apply_kind-reply-requires
apply_kind-reply-requires g c = λ is. c.requires (only_auto c.args.command.now (sym c.in_ok-kind.ensures.kind ∙ is))

pub returns-clause-answers : goal.returns-clause-answers
returns-clause-answers g c =
    subst (λ (k : CommandKind). IfOk c.apply_kind-reply.result (λ reply. IsStepOf k c.args.input.now c.args.self.now reply c.apply_kind-reply.new.self)) c.in_ok-kind.ensures.kind c.apply_kind-reply.ensures.answers

pub returns-clause-most : goal.returns-clause-most
returns-clause-most g c reply next h =
    c.apply_kind-reply.ensures.most reply next (subst (λ (k : CommandKind). IsStepOf k c.args.input.now c.args.self.now reply next) (sym c.in_ok-kind.ensures.kind) h)

pub returns-clause-sure : goal.returns-clause-sure
returns-clause-sure g c h = c.apply_kind-reply.ensures.sure (subst IsMove (sym c.in_ok-kind.ensures.kind) h)

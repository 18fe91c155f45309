use Rattle.std.proofs.Common.{Bool, cond, ap, sym, ◌∙◌}
use Rattle.ped_transformations.specs.ped_rules.specs.Steps.{transformation, rejection}
use Rattle.ped_transformations.proofs.StepKinds.{kind_is}
use Rattle.ped_session.specs.Steps.{change_by}
use Rattle.ped_session.proofs.transforming.change_of.Goals as goal

pub returns-then-is_rejection : goal.returns-then-is_rejection
returns-then-is_rejection c =
    let is = kind_is c.args.command.now.statement c.args.command.now.step in
    ap change_by (sym (is.1 ∙ ap (λ (b : Bool). cond b rejection transformation) (sym c.is_rejection.ensures ∙ c.if-is_rejection.true)))

pub returns : goal.returns
returns c =
    let is = kind_is c.args.command.now.statement c.args.command.now.step in
    ap change_by (sym (is.1 ∙ ap (λ (b : Bool). cond b rejection transformation) (sym c.is_rejection.ensures ∙ c.if-is_rejection.false)))

use Rattle.std.proofs.Common.{Option, subst}
use Rattle.ped_loop_runs.specs.ped_flow.specs.Answers.{IsEscape}
use Rattle.ped_loop_runs.specs.ped_flow.specs.declared.flows.Reader.{Reader}
use Rattle.ped_rules.proofs.EscapeRule.{by_nothing}
use Rattle.ped_rules.proofs.escaping.named.Goals as goal

pub returns-in-None : goal.returns-in-None
returns-in-None c t e = by_nothing t c.args.number (subst (λ (r : Option Reader). IsEscape t c.args.number r) c.in-None.is e)

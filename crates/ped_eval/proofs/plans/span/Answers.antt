use Rattle.ped_eval.proofs.Spans.{span_is, span_is_small}
use Rattle.ped_eval.proofs.plans.span.Goals as goal

pub returns-clause-value : goal.returns-clause-value
returns-clause-value c = span_is c.args.limits.now.last c.args.limits.now.first c.args.step c.requires.last c.requires.first c.requires.small

pub returns-clause-small : goal.returns-clause-small
returns-clause-small c = rw (span_is c.args.limits.now.last c.args.limits.now.first c.args.step c.requires.last c.requires.first c.requires.small) (span_is_small c.args.limits.now.last c.args.limits.now.first c.args.step c.requires.last c.requires.first c.requires.small)

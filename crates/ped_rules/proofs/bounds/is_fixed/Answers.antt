use Rattle.ped_rules.proofs.HeadLaws.PlainAnswers.{fixed_is, not_fixed}
use Rattle.ped_rules.proofs.bounds.is_fixed.Goals as goal

pub returns-then-not-is_kept : goal.returns-then-not-is_kept
returns-then-not-is_kept c = not_fixed c.args.place.now c.requires c.args.name.now c.is_kept.result c.is_kept.ensures c.if-not-is_kept.true

pub returns : goal.returns
returns c = fixed_is c.args.place.now c.requires c.args.name.now c.is_kept.result c.assigned_before.result c.is_kept.ensures c.if-not-is_kept.false c.assigned_before.ensures

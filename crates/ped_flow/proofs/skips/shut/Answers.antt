use Rattle.std.proofs.Common.{sym, ◌∙◌}
use Rattle.ped_flow.specs.Kept.{name_of}
use Rattle.ped_flow.proofs.Skipping.{unread}
use Rattle.ped_flow.proofs.skips.shut.Goals as goal

pub returns-in-Some-known-clause-none : goal.returns-in-Some-known-clause-none
returns-in-Some-known-clause-none c =
    unread c.in-Some-known.entry.now.part.loose c.in-Some.place c.get.result _ c.get.ensures c.if-get.false
    (c.in-Some-known.ensures.part.loose (name_of c.args.scalar.now) c.in-Some.place (sym c.args.scalar.now.placed ∙ c.in-Some.is))

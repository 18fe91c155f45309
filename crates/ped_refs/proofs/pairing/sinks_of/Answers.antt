use Rattle.std.proofs.Common.{Some, None, ap, ◌∙◌}
use Rattle.ped_refs.specs.Grouping.{sinks_in, sinks_at}
use Rattle.ped_refs.proofs.GroupMembers.{members_got, no_sinks}
use Rattle.ped_refs.proofs.pairing.sinks_of.Goals as goal

pub returns-in-Some-get : goal.returns-in-Some-get
returns-in-Some-get c =
    c.sinks.ensures
    ∙ ap (sinks_in c.args.source.now.writes) (members_got c.args.groups.now c.in-Some.group (Some c.in-Some-get.members.now) c.in-Some-get.ensures.value)
    ∙ ap (sinks_at c.args.groups.now c.args.source.now.writes) c.in-Some.ensures

pub returns-in-None : goal.returns-in-None
returns-in-None c =
    no_sinks c.args.source.now.writes
    ∙ ap (sinks_in c.args.source.now.writes) (members_got c.args.groups.now c.in-Some.group None c.in-None.ensures.value)
    ∙ ap (sinks_at c.args.groups.now c.args.source.now.writes) c.in-Some.ensures

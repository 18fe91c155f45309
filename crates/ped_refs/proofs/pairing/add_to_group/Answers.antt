use Rattle.std.proofs.Common.{arith}
use Rattle.std.proofs.lemmas.Result.{on_ok_weaker}
use Rattle.indexmap.specs.Entry.{entry_value, map_with_value}
use Rattle.ped_refs.proofs.GroupMembers.{members_before, place_added}
use Rattle.ped_refs.proofs.pairing.add_to_group.Goals as goal

pub returns : goal.returns
returns c =
    let before = members_before c.args.groups.now c.args.group (entry_value c.in_ok-groups.field-0) c.or_insert-members.result.now c.new.result
    c.or_insert-members.ensures.value c.in_ok-groups.ensures.value c.new.ensures in
    on_ok_weaker c.add.result
    (λ h other.
    let added = place_added c.args.groups.now (map_with_value c.in_ok-groups.field-0 c.add.new.self) c.args.group c.or_insert-members.result.now c.add.new.self
    c.args.place c.args.writes (c.in_ok-groups.ensures.update.0 c.add.new.self) before h other in
    grind (arith, added))
    c.add.ensures

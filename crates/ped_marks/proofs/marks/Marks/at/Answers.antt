-- What the last entry at or before the place says.
use Rattle.std.proofs.Common.{sym, ◌∙◌}
use Rattle.std.specs.Ordering.{nat_cmp}
use Rattle.std.specs.BTreeMap.{get}
use Rattle.ped_marks.specs.Stretches.{mark_at}
use Rattle.ped_marks.proofs.Covering.{by_last}
use Rattle.ped_marks.proofs.Values.{value_is}
use Rattle.ped_marks.proofs.marks.Marks.at.Goals as goal

pub returns : goal.returns
returns c =
    let g = get nat_cmp c.self.inside.map in
    c.mark_by.ensures
    ∙ sym (by_last g c.args.place c.args.place c.last_up_to.result c.last_up_to.ensures)
    ∙ value_is (mark_at g) c.self.inside.count c.args.place c.args.self.now c.self.view_is c.requires

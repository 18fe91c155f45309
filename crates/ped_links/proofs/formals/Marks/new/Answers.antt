use Rattle.std.proofs.Common.{List, subst}
use Rattle.ped_links.specs.Arguments.{AreFormals}
use Rattle.ped_units.specs.Units as plain
use Rattle.ped_links.proofs.formals.Marks.new.Goals as goal

pub returns : goal.returns
returns c us scene =
    let formals = subst (λ (vs : List plain.ProgramUnit). AreFormals vs c.in_ok-formals.formals) scene.units c.in_ok-formals.ensures in
    let arrows = c.in_ok-passings.ensures.arrows us scene formals in
    record {
      formals = formals;
      assigned = c.in_ok-assigned.ensures us scene formals arrows;
      indexes = c.in_ok-indexes.ensures us scene formals arrows;
    }

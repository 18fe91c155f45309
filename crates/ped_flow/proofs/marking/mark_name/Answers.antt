use Rattle.std.proofs.Common.{List, Bool, ◌∷◌, [], sym, subst}
use Rattle.ped_flow.specs.RowPlaces.{AreMarked}
use Rattle.ped_flow.specs.RowMarks.{names_in}
use Rattle.ped_flow.proofs.Marks.{marked_name}
use Rattle.ped_flow.proofs.marking.mark_name.Goals as goal

pub returns-in-Some : goal.returns-in-Some
returns-in-Some c =
    subst (λ (r : List Bool). AreMarked (names_in c.args.places.now) c.args.row.now r (c.args.name.now ∷ [])) (sym c.set.ensures)
    (marked_name (names_in c.args.places.now) c.args.row.now c.args.name.now c.in-Some.place c.requires (sym c.in-Some.ensures))

use Rattle.ped_flow.specs.RowMarks.{names_in, constants_in}
use Rattle.ped_flow.proofs.Marks.{marked_variable}
use Rattle.ped_flow.proofs.marking.mark_variable.Goals as goal

pub returns : goal.returns
returns c = marked_variable (names_in c.args.places.now) (constants_in c.args.places.now) c.args.places.now.variables c.args.row.now c.mark_name.new.row c.args.name.now c.mark_name.ensures

use Rattle.ped_rows.proofs.ShapeLaws.SameDependences.{shapes_decide}
use Rattle.ped_rows.proofs.shapes.dependences_by_shapes.Goals as goal

pub returns : goal.returns
returns c = shapes_decide

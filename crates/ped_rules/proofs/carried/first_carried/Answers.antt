use Rattle.ped_tree.specs.Views.{program_tree}
use Rattle.ped_rules.specs.Carried.{carried}
use Rattle.ped_rules.proofs.CarriedEdges.{found_first}
use Rattle.ped_rules.proofs.carried.first_carried.Goals as goal

pub returns : goal.returns
returns g c =
    let t = program_tree c.args.scene.now.tree.now in
    found_first t (carried t c.args.number) c.in_ok-edges.edges.items c.first_of.result c.in_ok-edges.ensures c.first_of.ensures

use Rattle.std.proofs.Common.{◌≡◌, map, take}
use Rattle.ped_tree.specs.Views.{expr_tree}
use Rattle.ped_links.specs.Placing.{argument_name}
use Rattle.ped_links.proofs.placing.names_of.Given as goal

abbrev pub invariant-loop-e : goal.invariant-loop-e
invariant-loop-e l = l.names ≡ map argument_name (map expr_tree (take l.e-index l.exprs))

use Rattle.std.proofs.Common.{◌≡◌, map, drop}
use Rattle.std.specs.List.{list_all}
use Rattle.ped_tree.specs.Views.{expr_tree}
use Rattle.ped_refs.specs.Loops.{nest_of}
use Rattle.ped_affine.specs.Arguments.{setting_of}
use Rattle.ped_graph.specs.Sides.{is_alone}
use Rattle.ped_graph.proofs.sides.are_alone.Given as goal

-- those so far are alone
abbrev pub invariant-loop-e : goal.invariant-loop-e
invariant-loop-e l = list_all (is_alone (setting_of l.setting) (nest_of l.nest)) (map expr_tree (drop l.e-index l.subscripts)) ≡ list_all (is_alone (setting_of l.setting) (nest_of l.nest)) (map expr_tree l.subscripts)

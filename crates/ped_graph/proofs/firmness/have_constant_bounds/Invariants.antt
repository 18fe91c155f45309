use Rattle.std.proofs.Common.{◌≡◌, drop}
use Rattle.std.specs.List.{list_all}
use Rattle.ped_refs.specs.Loops.{nest_of}
use Rattle.ped_graph.specs.Marks.{has_constant_bounds}
use Rattle.ped_graph.proofs.firmness.have_constant_bounds.Given as goal

abbrev pub invariant-loop-l : goal.invariant-loop-l
invariant-loop-l l = list_all (has_constant_bounds l.consts) (nest_of (drop l.l-index l.nest)) ≡ list_all (has_constant_bounds l.consts) (nest_of l.nest)

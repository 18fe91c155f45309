use Rattle.std.proofs.Common.{◌≡◌, ◌++◌, drop}
use Rattle.ped_eval.specs.Live.{shapes_among}
use Rattle.ped_eval.proofs.shapes.shapes_among.Given as goal

abbrev pub invariant-loop-name : goal.invariant-loop-name
invariant-loop-name l = l.shapes.items ++ shapes_among l.symbols.kinds (drop l.name-index l.names) ≡ shapes_among l.symbols.kinds l.names

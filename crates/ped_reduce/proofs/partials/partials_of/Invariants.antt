use Rattle.std.proofs.Common.{◌≡◌, ◌++◌, map, drop}
use Rattle.std.specs.Prelude.{option_map}
use Rattle.ped_tree.specs.Views.{program_tree}
use Rattle.ped_reduce.specs.Lowering.{fresh_arrays, partials_of}
use Rattle.ped_reduce.specs.CodeLowering.{partials_view, fresh_from}
use Rattle.ped_reduce.proofs.partials.partials_of.Given as goal

abbrev pub invariant-loop-name : goal.invariant-loop-name
invariant-loop-name l =
    option_map (λ ps. map partials_view l.all.items ++ ps) (partials_of (drop l.name-index l.names) (fresh_from (program_tree l.program) l.next))
    ≡ partials_of l.names (fresh_arrays (program_tree l.program))

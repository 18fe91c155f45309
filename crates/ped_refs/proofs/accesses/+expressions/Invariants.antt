use Rattle.std.proofs.Common.{◌≡◌, ◌++◌, map, drop}
use Rattle.ped_tree.specs.Accesses.{exprs_reads}
use Rattle.ped_tree.specs.Views.{expr_tree, pack_exprs}
use Rattle.ped_refs.specs.Listing.{accesses_of, constants_round, indices_round}
use Rattle.ped_refs.proofs.accesses.+expressions.Given as goal

abbrev pub invariant-add_exprs-loop-e : goal.invariant-add_exprs-loop-e
invariant-add_exprs-loop-e l =
    accesses_of l.found.items ++ exprs_reads (constants_round l.around) (indices_round l.around) (pack_exprs (map expr_tree (drop l.e-index l.exprs)))
    ≡ accesses_of l.fn.found.items ++ exprs_reads (constants_round l.around) (indices_round l.around) (pack_exprs (map expr_tree l.exprs))

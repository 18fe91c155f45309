use Rattle.std.proofs.Common.{◌≡◌, ◌++◌, drop}
use Rattle.ped_tree.specs.Accesses.{private_writes}
use Rattle.ped_refs.specs.Listing.{accesses_of, constants_round}
use Rattle.ped_refs.proofs.accesses.add_private.Given as goal

abbrev pub invariant-loop-name : goal.invariant-loop-name
invariant-loop-name l =
    accesses_of l.found.items ++ private_writes (constants_round l.around) (drop l.name-index l.private) ≡ accesses_of l.fn.found.items ++ private_writes (constants_round l.around) l.private

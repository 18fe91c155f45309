use Rattle.std.proofs.Common.{◌+◌, length, ap, arith}
use Rattle.std.proofs.lemmas.List.{length-map}
use Rattle.ped_tree.specs.Accesses.{own_accesses}
use Rattle.ped_tree.specs.Views.{stmt_tree}
use Rattle.ped_refs.specs.Listing.{access_of, constants_round, indices_round, nest_round}
use Rattle.ped_refs.proofs.StatementParts.{length-numbered_accesses}
use Rattle.ped_refs.proofs.occurring.add_own.Goals as goal

pub add_numbered-requires : goal.add_numbered-requires
add_numbered-requires c =
    omega (
      arith,
      c.requires.references,
      ap length c.in_ok-accesses.ensures,
      ap length c.deref.ensures.value,
      length-map c.in_ok-accesses.accesses.items access_of,
      length-numbered_accesses (c.args.before.now + 1) 1 (nest_round c.args.around.now) (own_accesses (constants_round c.args.around.now) (indices_round c.args.around.now) (stmt_tree c.args.statement.now)),
    )

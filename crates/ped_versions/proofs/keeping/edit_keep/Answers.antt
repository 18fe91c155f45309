use Rattle.std.proofs.Common.{arith}
use Rattle.ped_tree.specs.Views.{program_tree}
use Rattle.ped_versions.proofs.KeptEnds.{few_begun}
use Rattle.ped_versions.proofs.keeping.edit_keep.Goals as goal

pub kept_ends-requires-clause-before : goal.kept_ends-requires-clause-before
kept_ends-requires-clause-before c =
    let few = few_begun (program_tree c.args.old.now) c.args.kept c.args.gone in
    omega (arith, few, c.in_ok-begun.ensures.back, c.min-back.ensures, c.count.ensures)

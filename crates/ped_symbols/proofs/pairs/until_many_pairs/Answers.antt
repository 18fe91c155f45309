use Rattle.ped_tree.specs.Views.{program_tree}
use Rattle.ped_refs.specs.References.{references}
use Rattle.ped_symbols.proofs.ManyPairs.{counts_to}
use Rattle.ped_symbols.proofs.pairs.until_many_pairs.Goals as goal

pub returns : goal.returns
returns c =
    let t = program_tree c.args.program.now in
    counts_to (references t) c.in_ok-first.first c.one_less.result (c.in_ok-first.ensures t c.in_ok-refs.ensures) c.one_less.ensures

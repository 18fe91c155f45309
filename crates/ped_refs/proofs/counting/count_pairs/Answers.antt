use Rattle.std.proofs.Common.{ap, ◌∙◌, arith}
use Rattle.ped_refs.specs.References.{references, pair_count}
use Rattle.ped_refs.proofs.ListedProgram.{program_listed, all_taken}
use Rattle.ped_refs.proofs.counting.count_pairs.Goals as goal

pub returns : goal.returns
returns c = λ tree are.
    (c.loop-i.invariant (references tree) (program_listed tree c.args.refs.now are)).pairs
    ∙ ap pair_count (all_taken tree c.args.refs.now c.loop-i.i are (omega (arith, c.loop-i-test.false, c.len-i-end.ensures)))

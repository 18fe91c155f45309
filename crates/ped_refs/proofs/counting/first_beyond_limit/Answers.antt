use Rattle.std.proofs.Common.{◌≡◌, ℕ, ◌+◌, ◌<◌, ◌≤◌, take, length, ap, sym, subst, arith}
use Rattle.ped_tree.specs.Numbering.{statements_count}
use Rattle.ped_refs.specs.References.{references, pair_count}
use Rattle.ped_refs.specs.PairLimit.{most_pairs, IsFirstBeyond}
use Rattle.ped_refs.proofs.CountingSteps.{no_reference}
use Rattle.ped_refs.proofs.FirstBeyond.{beyond_is}
use Rattle.ped_refs.proofs.ListedProgram.{program_listed, length-listed, all_taken, statement_at}
use Rattle.ped_refs.proofs.TextOrder.{references_between}
use Rattle.ped_refs.proofs.counting.first_beyond_limit.Goals as goal

pub returns-then-total-gt-MOST_PAIRS : goal.returns-then-total-gt-MOST_PAIRS
returns-then-total-gt-MOST_PAIRS c = λ tree known.
    let are = known.in_order in
    let listed = program_listed tree c.args.refs.now are in
    let within : c.loop-i.i < length (references tree) = omega (arith, length-listed tree c.args.refs.now are, c.loop-i-test.true, c.len-i-end.ensures) in
    let same = statement_at tree c.args.refs.now c.as_slice.result.now c.loop-i.i no_reference c.index-as_slice-i.result are c.as_slice.ensures within in
    let many : most_pairs < pair_count (take (c.loop-i.i + 1) (references tree)) = omega (arith, c.if-total-gt-MOST_PAIRS.true, (c.in_ok-total.ensures (references tree) listed).pairs) in
    let few : pair_count (take c.loop-i.i (references tree)) ≤ most_pairs = omega (arith, (c.loop-i.invariant.counted (references tree) listed).pairs, c.loop-i.invariant.few) in
    subst (λ (n : ℕ). IsFirstBeyond (references tree) n) (sym same)
    (beyond_is 1 (1 + statements_count tree.body) (references tree) c.loop-i.i no_reference (references_between tree) within many few)

pub returns : goal.returns
returns c = λ tree known.
    let are = known.in_order in
    let all : take c.loop-i.i (references tree) ≡ references tree = all_taken tree c.args.refs.now c.loop-i.i are (omega (arith, c.loop-i-test.false, c.len-i-end.ensures)) in
    omega (arith, ap pair_count all, (c.loop-i.invariant.counted (references tree) (program_listed tree c.args.refs.now are)).pairs, c.loop-i.invariant.few)

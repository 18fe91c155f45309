use Rattle.std.proofs.Common.{ℕ, ◌+◌, take, ap, arith}
use Rattle.std.proofs.lemmas.List.{length-take-le}
use Rattle.ped_refs.specs.References.{references}
use Rattle.ped_refs.proofs.CountingSteps.{outside_counted, tally_small, inside_counted, squares}
use Rattle.ped_refs.proofs.ListedProgram.{program_listed, length-listed}
use Rattle.ped_refs.proofs.counting.count_next.Goals as goal

pub returns-then-outer-eq0 : goal.returns-then-outer-eq0
returns-then-outer-eq0 c = λ listed are.
    outside_counted listed c.args.refs.now c.args.i c.as_slice.result.now c.as_slice-2.result.now are c.as_slice.ensures c.as_slice-2.ensures c.requires.within
    c.args.groups.now c.args.total c.if-outer-eq0.true (c.requires.counted listed are)

pub with_reference-requires-clause-references : goal.with_reference-requires-clause-references
with_reference-requires-clause-references c =
    let small = tally_small (references c.requires.listed.tree) c.args.refs.now c.args.i c.as_slice.result.now c.as_slice-2.result.now (program_listed c.requires.listed.tree c.args.refs.now c.requires.listed.are) c.as_slice.ensures c.as_slice-2.ensures c.requires.within
    c.index-as_slice-i.result c.args.groups.now c.args.total c.tally_of-tally.result c.index-as_slice-i.is c.if-outer-eq0.false c.tally_of-tally.ensures (c.requires.counted (references c.requires.listed.tree) (program_listed c.requires.listed.tree c.args.refs.now c.requires.listed.are)) in
    omega (arith, small.0, length-listed c.requires.listed.tree c.args.refs.now c.requires.listed.are, c.requires.listed.few, c.requires.within)

pub with_reference-requires-clause-writes : goal.with_reference-requires-clause-writes
with_reference-requires-clause-writes c =
    let small = tally_small (references c.requires.listed.tree) c.args.refs.now c.args.i c.as_slice.result.now c.as_slice-2.result.now (program_listed c.requires.listed.tree c.args.refs.now c.requires.listed.are) c.as_slice.ensures c.as_slice-2.ensures c.requires.within
    c.index-as_slice-i.result c.args.groups.now c.args.total c.tally_of-tally.result c.index-as_slice-i.is c.if-outer-eq0.false c.tally_of-tally.ensures (c.requires.counted (references c.requires.listed.tree) (program_listed c.requires.listed.tree c.args.refs.now c.requires.listed.are)) in
    omega (arith, small.1, length-listed c.requires.listed.tree c.args.refs.now c.requires.listed.are, c.requires.listed.few, c.requires.within)

pub pairs_with-requires-clause-references : goal.pairs_with-requires-clause-references
pairs_with-requires-clause-references c =
    let small = tally_small (references c.requires.listed.tree) c.args.refs.now c.args.i c.as_slice.result.now c.as_slice-2.result.now (program_listed c.requires.listed.tree c.args.refs.now c.requires.listed.are) c.as_slice.ensures c.as_slice-2.ensures c.requires.within
    c.index-as_slice-i.result c.args.groups.now c.args.total c.tally_of-tally.result c.index-as_slice-i.is c.if-outer-eq0.false c.tally_of-tally.ensures (c.requires.counted (references c.requires.listed.tree) (program_listed c.requires.listed.tree c.args.refs.now c.requires.listed.are)) in
    omega (arith, small.0, length-listed c.requires.listed.tree c.args.refs.now c.requires.listed.are, c.requires.listed.few, c.requires.within)

pub pairs_with-requires-clause-writes : goal.pairs_with-requires-clause-writes
pairs_with-requires-clause-writes c =
    let small = tally_small (references c.requires.listed.tree) c.args.refs.now c.args.i c.as_slice.result.now c.as_slice-2.result.now (program_listed c.requires.listed.tree c.args.refs.now c.requires.listed.are) c.as_slice.ensures c.as_slice-2.ensures c.requires.within
    c.index-as_slice-i.result c.args.groups.now c.args.total c.tally_of-tally.result c.index-as_slice-i.is c.if-outer-eq0.false c.tally_of-tally.ensures (c.requires.counted (references c.requires.listed.tree) (program_listed c.requires.listed.tree c.args.refs.now c.requires.listed.are)) in
    omega (arith, small.1, length-listed c.requires.listed.tree c.args.refs.now c.requires.listed.are, c.requires.listed.few, c.requires.within)

pub overflow_add-result : goal.overflow_add-result
overflow_add-result c =
    let counted = inside_counted (references c.requires.listed.tree) c.args.refs.now c.args.i c.as_slice.result.now c.as_slice-2.result.now (program_listed c.requires.listed.tree c.args.refs.now c.requires.listed.are) c.as_slice.ensures c.as_slice-2.ensures c.requires.within
    c.index-as_slice-i.result c.args.groups.now c.put.new.groups c.args.total (c.args.total + c.pairs_with.result) c.tally_of-tally.result c.with_reference.result c.index-as_slice-i.is c.if-outer-eq0.false c.tally_of-tally.ensures c.with_reference.ensures
    c.in_ok-put.ensures (ap (λ (n : ℕ). c.args.total + n) c.pairs_with.ensures) (c.requires.counted (references c.requires.listed.tree) (program_listed c.requires.listed.tree c.args.refs.now c.requires.listed.are)) in
    let fits = squares _ (take (c.args.i + 1) (references c.requires.listed.tree)) c.args.i counted.pairs (length-take-le (c.args.i + 1) (references c.requires.listed.tree) (omega (arith, length-listed c.requires.listed.tree c.args.refs.now c.requires.listed.are, c.requires.within))) (omega (arith, length-listed c.requires.listed.tree c.args.refs.now c.requires.listed.are, c.requires.listed.few, c.requires.within)) in
    omega (arith, fits)

pub returns : goal.returns
returns c = λ listed are.
    inside_counted listed c.args.refs.now c.args.i c.as_slice.result.now c.as_slice-2.result.now are c.as_slice.ensures c.as_slice-2.ensures c.requires.within
    c.index-as_slice-i.result c.args.groups.now c.put.new.groups c.args.total (c.args.total + c.pairs_with.result) c.tally_of-tally.result c.with_reference.result c.index-as_slice-i.is c.if-outer-eq0.false c.tally_of-tally.ensures c.with_reference.ensures
    c.in_ok-put.ensures (ap (λ (n : ℕ). c.args.total + n) c.pairs_with.ensures) (c.requires.counted listed are)

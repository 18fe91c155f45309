use Rattle.ped_refs.specs.References.{pairs}
use Rattle.ped_refs.specs.Occurrences.{references_of}
use Rattle.ped_refs.specs.Grouping.{pairs_from}
use Rattle.ped_refs.proofs.NextPairs.{all_within}
use Rattle.ped_refs.proofs.PairSteps.{place_paired, all_paired}
use Rattle.ped_refs.proofs.pairing.listed_pairs.Goals as goal

pub loop-source-preserved : goal.loop-source-preserved
loop-source-preserved c =
    place_paired c.args.found.now c.loop-source.source c.index-found-source.result c.loop-source-test.true c.index-found-source.is
    c.in_ok-groups.groups c.sinks_of.result.now c.loop-source.listed.items c.add_pairs.new.listed.items (pairs_from (references_of c.args.found.now) 0 (references_of c.args.found.now))
    c.in_ok-groups.ensures c.sinks_of.ensures c.in_ok-add_pairs.ensures c.loop-source.invariant

pub returns-clause-pairs : goal.returns-clause-pairs
returns-clause-pairs c = all_paired c.args.found.now c.loop-source.source c.loop-source.listed.items c.loop-source-test.false c.loop-source.invariant

pub returns-clause-within : goal.returns-clause-within
returns-clause-within c =
    all_within c.args.found.now c.loop-source.listed.items (pairs (references_of c.args.found.now))
    (all_paired c.args.found.now c.loop-source.source c.loop-source.listed.items c.loop-source-test.false c.loop-source.invariant)

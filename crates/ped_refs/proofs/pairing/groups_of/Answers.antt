use Rattle.ped_refs.proofs.PairSteps.{place_grouped, all_grouped}
use Rattle.ped_refs.proofs.pairing.groups_of.Goals as goal

pub loop-place-preserved : goal.loop-place-preserved
loop-place-preserved c =
    place_grouped c.args.found.now c.loop-place.place c.index-found-place.result c.loop-place-test.true c.index-found-place.is
    c.loop-place.groups c.add_place.new.groups c.loop-place.invariant c.in_ok-add_place.ensures

pub returns : goal.returns
returns c = all_grouped c.args.found.now c.loop-place.place c.loop-place.groups c.loop-place-test.false c.loop-place.invariant

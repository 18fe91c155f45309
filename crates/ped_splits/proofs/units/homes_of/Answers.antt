use Rattle.ped_splits.proofs.UnitSizes.{short_at}
use Rattle.ped_splits.proofs.units.homes_of.Goals as goal

pub count_statements-requires : goal.count_statements-requires
count_statements-requires c = short_at c.args.units.now c.loop-place.place c.index-units-place.result c.requires c.loop-place-test.true c.index-units-place.is

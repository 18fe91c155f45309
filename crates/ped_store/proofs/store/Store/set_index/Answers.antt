use Rattle.std.specs.Int.{w128}
use Rattle.std.proofs.lemmas.Int.{to_z-of_z}
use Rattle.ped_store.proofs.store.Store.set_index.Goals as goal

pub returns : goal.returns
returns c = rw (to_z-of_z w128 c.args.value c.ranges.value) at c.replace.ensures

use Rattle.ped_fits.proofs.Lists.{front_taken}
use Rattle.ped_fits.proofs.surroundings.with_variable.Goals as goal

pub returns : goal.returns
returns c = front_taken c.args.first c.args.rest.now c.copy_from_slice.new.self _ c.copy_from_slice.ensures.after

use Rattle.ped_refs.proofs.SizeLaws.Small.{small_program}
use Rattle.ped_refs.proofs.sizes.laws.small_where_it_fits.Goals as goal

pub returns : goal.returns
returns c = small_program

use Rattle.ped_views.proofs.Twos.{whole_twos}
use Rattle.ped_views.proofs.divisors.odd_part.Goals as goal

pub returns-clause-twos : goal.returns-clause-twos
returns-clause-twos c = (c.lowest_one.result, whole_twos c.lowest_one.result c.args.n c.lowest_one.ensures.zeros)

use Rattle.ped_session.proofs.KeptMeanings.{came_truly}
use Rattle.ped_session.proofs.laws.sources_keep_it_on_data.Goals as goal

pub returns : goal.returns
returns c = λ s d earlier t u kept comes from to free. came_truly d s.present s.past earlier t u kept.past comes from to free

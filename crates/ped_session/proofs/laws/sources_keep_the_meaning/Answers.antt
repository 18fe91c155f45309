use Rattle.ped_session.proofs.KeptMeanings.{came}
use Rattle.ped_session.proofs.laws.sources_keep_the_meaning.Goals as goal

pub returns : goal.returns
returns c = λ s earlier t u kept comes from to trusted. came s.present s.past earlier t u kept.past comes from to trusted

use Rattle.std.proofs.Common.{◌≡◌, true}
use Rattle.ped_weaves.proofs.WeaveLaws.RaceSources.{sources_free, pairs_free}
use Rattle.ped_weaves.proofs.sources.comes_free.Goals as goal

pub returns-clause-sources : goal.returns-clause-sources
returns-clause-sources c = λ comes. sources_free (λ b x. comes b x ≡ true)

pub returns-clause-pairs : goal.returns-clause-pairs
returns-clause-pairs c = pairs_free

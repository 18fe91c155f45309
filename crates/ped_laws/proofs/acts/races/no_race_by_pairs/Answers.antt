use Rattle.ped_laws.proofs.ActLaws.RaceFree.{no_race_before, no_race_from}
use Rattle.ped_laws.proofs.acts.races.no_race_by_pairs.Goals as goal

pub returns-clause-pairs : goal.returns-clause-pairs
returns-clause-pairs c = no_race_before

pub returns-clause-none : goal.returns-clause-none
returns-clause-none c = no_race_from

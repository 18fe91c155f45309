use Rattle.ped_loop_runs.proofs.PastingLaws.KeptMeaning.{exchange_keeps_on, exchange_keeps}
use Rattle.ped_loop_runs.proofs.meaning.exchanged_keeps.Goals as goal

pub returns-clause-on_data : goal.returns-clause-on_data
returns-clause-on_data c = λ gap old new t u data_bytes free exchange. exchange_keeps_on gap old new t u data_bytes free exchange

pub returns-clause-always : goal.returns-clause-always
returns-clause-always c = exchange_keeps

use Rattle.ped_laws.proofs.ActLaws.Exchanging.{exchange_stands}
use Rattle.ped_laws.proofs.acts.exchanges.exchange.Goals as goal

pub returns : goal.returns
returns c = exchange_stands

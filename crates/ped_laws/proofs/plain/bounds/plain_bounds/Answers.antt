use Rattle.ped_laws.proofs.PlainLaws.PlainValues.{plain_value}
use Rattle.ped_laws.proofs.plain.bounds.plain_bounds.Goals as goal

pub returns : goal.returns
returns c = λ constants t l e v plain fits range. plain_value constants t l v range e plain fits

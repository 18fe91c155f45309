use Rattle.ped_laws.proofs.PlainLaws.Standing.{value_during}
use Rattle.ped_laws.proofs.plain.bounds.bounds_in_executions.Goals as goal

pub returns : goal.returns
returns c = λ p t one unstopping named s small l front entry e plain fits told ranges. value_during p t one unstopping named s l front entry told small e plain fits ranges

use Rattle.ped_laws.proofs.CoveringLaws.Nesting.{one_deeper}
use Rattle.ped_laws.proofs.covering.nests.nests_in_ranges.Goals as goal

pub returns-clause-outside : goal.returns-clause-outside
returns-clause-outside c = λ s p. record { iterations = tt; variables = λ x. tt }

pub returns-clause-inside : goal.returns-clause-inside
returns-clause-inside c = one_deeper

use Rattle.ped_tree.proofs.GrammarLaws.First.{first_is_least, none_stands}
use Rattle.ped_tree.proofs.grammar.laws.first_finding_is_least.Goals as goal

pub returns-clause-least : goal.returns-clause-least
returns-clause-least c = first_is_least

pub returns-clause-none : goal.returns-clause-none
returns-clause-none c = none_stands

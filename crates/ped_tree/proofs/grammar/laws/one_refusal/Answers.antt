use Rattle.ped_tree.proofs.GrammarLaws.OneReading.{refused_once}
use Rattle.ped_tree.proofs.grammar.laws.one_refusal.Goals as goal

pub returns : goal.returns
returns c = refused_once

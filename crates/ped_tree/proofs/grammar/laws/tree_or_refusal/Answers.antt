use Rattle.ped_tree.proofs.GrammarLaws.OneReading.{not_both}
use Rattle.ped_tree.proofs.grammar.laws.tree_or_refusal.Goals as goal

pub returns : goal.returns
returns c = not_both

use Rattle.ped_tree.proofs.GrammarLaws.Former.{reads_now}
use Rattle.ped_tree.proofs.grammar.laws.former_texts_read.Goals as goal

pub returns : goal.returns
returns c = reads_now

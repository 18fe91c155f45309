use Rattle.ped_printed.proofs.StatementLaws.Statements.{words_print}
use Rattle.ped_printed.proofs.statements.laws.printed_words.Goals as goal

pub returns : goal.returns
returns c = words_print

use Rattle.ped_parse.proofs.PrintedHere.{printed_here}
use Rattle.ped_parse.proofs.reading.read.Goals as goal

-- src/reading.rt:43:5
pub returns-in-Ok-clause-printed : goal.returns-in-Ok-clause-printed
returns-in-Ok-clause-printed c = printed_here c.nested.result c.in-Ok.cut c.args.text.now c.nested.ensures.tree c.in-Ok.ensures.ok.0 c.in-Ok.ensures.ok.1

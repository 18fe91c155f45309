use Rattle.ped_expressions.proofs.Basics.{stripped}
use Rattle.ped_expressions.proofs.scanning.after.Goals as goal

pub returns-clause-is : goal.returns-clause-is
returns-clause-is c = stripped c.args.text.now c.args.prefix.now c.strip_prefix.result c.strip_prefix.ensures.cases

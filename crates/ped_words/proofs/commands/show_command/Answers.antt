use Rattle.std.proofs.Common.{codes, arith}
use Rattle.std.proofs.lemmas.Result.{IfOk-weaker}
use Rattle.ped_words.proofs.Chains.{only_value}
use Rattle.ped_words.proofs.commands.show_command.Goals as goal

pub returns-clause-program : goal.returns-clause-program
returns-clause-program c =
    IfOk-weaker c.arg.result _ _ (λ cmd added. only_value (codes "show") c.mode.result cmd c.needed-program.result _ _ c.mode.ensures added c.needed-program.ensures (λ e. omega (arith, e)) (λ e. omega (arith, e))) c.arg.ensures

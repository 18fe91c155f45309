use Rattle.std.proofs.Common.{codes, rules}
use Rattle.std.proofs.lemmas.Result.{IfOk-weaker}
use Rattle.clap.specs.Built.{AddsArg}
use Rattle.clap.specs.declared.builder.command.Command.{Command}
use Rattle.ped_words.specs.Parses.{HasValue}
use Rattle.ped_words.proofs.Chains.{session_values}
use Rattle.ped_words.proofs.commands.session_command.Goals as goal

both : (c : goal.After-arg-3) → (cmd : Command) → AddsArg c.in_ok-arg-2.field-0 c.long-data.result cmd → HasValue (codes "program") cmd × HasValue (codes "script") cmd
both c cmd third =
    session_values (codes "session") c.mode.result c.in_ok-arg.field-0 c.in_ok-arg-2.field-0 cmd c.needed-program.result c.needed-script.result c.long-data.result c.mode.ensures
    c.in_ok-arg.ensures c.in_ok-arg-2.ensures third c.needed-program.ensures c.needed-script.ensures (search rules) (search rules) (search rules)

pub returns-clause-program : goal.returns-clause-program
returns-clause-program c = IfOk-weaker c.arg-3.result _ _ (λ cmd third. (both c cmd third).0) c.arg-3.ensures

pub returns-clause-script : goal.returns-clause-script
returns-clause-script c = IfOk-weaker c.arg-3.result _ _ (λ cmd third. (both c cmd third).1) c.arg-3.ensures

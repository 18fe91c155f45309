use Rattle.std.proofs.Common.{ap, sym, ◌∙◌, Some, arith}
use Rattle.ped_expressions.proofs.Lists.{applied_call, applied_none}
use Rattle.ped_expressions.proofs.expressions.applied.Goals as goal

pub returns-then-takes : goal.returns-then-takes
returns-then-takes c = ap Some c.call.ensures ∙ sym (applied_call c.args.name c.args.arguments.items c.in-Some.function c.len.result (cc) (omega (arith, c.len.ensures, c.args.arguments.ok)) (cc))

pub returns-else-takes : goal.returns-else-takes
returns-else-takes c = sym (applied_none c.args.name c.args.arguments.items c.in-Some.function c.len.result (cc) (omega (arith, c.len.ensures, c.args.arguments.ok)) (cc))

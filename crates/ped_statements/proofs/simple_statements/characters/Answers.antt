use Rattle.std.proofs.Common.{sym, false, arith}
use Rattle.ped_statements.specs.StatementReading.{quoted_at}
use Rattle.ped_statements.proofs.SimpleSteps.{quoted_pair}
use Rattle.ped_statements.proofs.simple_statements.characters.Goals as goal

pub loop-behind-preserved-in-Some : goal.loop-behind-preserved-in-Some
loop-behind-preserved-in-Some c = record {
  rest = quoted_pair c.loop-behind.characters _ c.loop-behind.left.now c.in-Some.behind.now (quoted_at false c.args.text.now) c.loop-behind.invariant.rest (sym c.in-Some.ensures.is) c.in_ok-push.ensures.ok;
  shorter = omega (arith, c.in-Some.ensures.shorter, c.loop-behind.invariant.shorter);
}

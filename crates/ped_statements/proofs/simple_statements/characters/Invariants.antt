use Rattle.std.proofs.Common.{◌≡◌, length, ◌≤◌, false}
use Rattle.ped_statements.specs.StatementReading.{quoted_at}
use Rattle.ped_statements.proofs.Gathered.{ahead}
use Rattle.ped_statements.proofs.simple_statements.characters.Given as goal

abbrev pub invariant-loop-behind : goal.invariant-loop-behind
invariant-loop-behind l = record {
  rest : ahead l.characters (quoted_at false l.left) ≡ quoted_at false l.text;
  shorter : length l.left ≤ length l.text;
}

abbrev pub decreases-loop-behind : goal.decreases-loop-behind
decreases-loop-behind l = length l.left

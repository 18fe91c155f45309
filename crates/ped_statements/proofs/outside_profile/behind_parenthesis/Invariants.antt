use Rattle.std.proofs.Common.{◌≡◌, ◌+◌, ◌≤◌, false, drop}
use Rattle.ped_statements.specs.ProfileReading.{closing_at}
use Rattle.ped_statements.proofs.outside_profile.behind_parenthesis.Given as goal

abbrev pub invariant-loop-i : goal.invariant-loop-i
invariant-loop-i l = record {
  rest : closing_at l.quoted l.depth (drop l.i l.text) ≡ closing_at false 1 l.text;
  open_still : 1 ≤ l.depth;
  bounded : l.depth ≤ l.i + 1;
}

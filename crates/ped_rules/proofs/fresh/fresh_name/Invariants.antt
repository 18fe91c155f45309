use Rattle.std.proofs.Common.{◌≡◌, ◌-◌, ◌+◌, ◌≤◌}
use Rattle.ped_tree.specs.Views.{program_tree}
use Rattle.ped_rules.specs.Fresh.{fresh_name, first_free, numbered_names, most_numbered}
use Rattle.ped_rules.specs.CodeFresh.{letters_of}
use Rattle.ped_rules.proofs.fresh.fresh_name.Given as goal

abbrev pub invariant-loop-n : goal.invariant-loop-n
invariant-loop-n l = record {
  free : first_free (program_tree l.program) (numbered_names (letters_of l.kind) l.n (most_numbered + 1 - l.n)) ≡ fresh_name (letters_of l.kind) (program_tree l.program);
  within : l.n ≤ most_numbered + 1;
}

abbrev pub decreases-loop-n : goal.decreases-loop-n
decreases-loop-n l = most_numbered + 1 - l.n

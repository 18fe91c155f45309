use Rattle.std.proofs.Common.{◌≡◌, ℕ, ◌*◌, ◌<◌, ◌≤◌, bit_or}
use Rattle.ped_bits.specs.Words.{word}
use Rattle.ped_bits.proofs.words.or_groups.Given as goal

abbrev pub invariant-loop-group : goal.invariant-loop-group
invariant-loop-group l = record {
  done : (j : ℕ) → j < 8 * l.group → word l.target j ≡ bit_or (word l.initial.target j) (word l.source j);
  left : (j : ℕ) → 8 * l.group ≤ j → word l.target j ≡ word l.initial.target j;
}

use Rattle.std.proofs.Common.{◌≡◌, ℕ, ◌<◌, ◌≤◌, bit_or}
use Rattle.ped_bits.specs.Words.{word}
use Rattle.ped_bits.proofs.words.or_words.Given as goal

abbrev pub invariant-loop-k : goal.invariant-loop-k
invariant-loop-k l = record {
  done : (j : ℕ) → j < l.k → word l.target j ≡ bit_or (word l.fn.target j) (word l.source j);
  left : (j : ℕ) → l.k ≤ j → word l.target j ≡ word l.fn.target j;
}

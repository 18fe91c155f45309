use Rattle.std.proofs.Common.{◌≡◌, ℕ, ◌<◌, ◌≤◌, bit_and, w64}
use Rattle.std.specs.Int.{bit_not}
use Rattle.ped_bits.specs.Words.{word}
use Rattle.ped_bits.proofs.words.clear_words.Given as goal

abbrev pub invariant-loop-k : goal.invariant-loop-k
invariant-loop-k l = record {
  done : (j : ℕ) → j < l.k → word l.target j ≡ bit_and (word l.fn.target j) (bit_not w64 (word l.source j));
  left : (j : ℕ) → l.k ≤ j → word l.target j ≡ word l.fn.target j;
}

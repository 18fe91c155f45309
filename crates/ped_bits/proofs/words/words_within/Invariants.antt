use Rattle.std.proofs.Common.{◌≡◌, ℕ, ◌<◌, bit_and, w64}
use Rattle.std.specs.Int.{bit_not}
use Rattle.ped_bits.specs.Words.{word}
use Rattle.ped_bits.proofs.words.words_within.Given as goal

abbrev pub invariant-loop-k : goal.invariant-loop-k
invariant-loop-k l = (j : ℕ) → j < l.k → bit_and (word l.inner j) (bit_not w64 (word l.outer j)) ≡ 0

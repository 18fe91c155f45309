use Rattle.std.proofs.Common.{◌≡◌, ℕ, ◌<◌, bit_and}
use Rattle.ped_bits.specs.Words.{word}
use Rattle.ped_bits.proofs.words.words_meet.Given as goal

abbrev pub invariant-loop-k : goal.invariant-loop-k
invariant-loop-k l = (j : ℕ) → j < l.k → bit_and (word l.left j) (word l.right j) ≡ 0

use Rattle.std.proofs.Common.{◌≡◌, ℕ, ◌*◌, ◌<◌, bit_and, w64}
use Rattle.std.specs.Int.{bit_not}
use Rattle.ped_bits.specs.Words.{word}
use Rattle.ped_bits.proofs.words.groups_within.Given as goal

abbrev pub invariant-loop-group : goal.invariant-loop-group
invariant-loop-group l = (j : ℕ) → j < 8 * l.group → bit_and (word l.inner j) (bit_not w64 (word l.outer j)) ≡ 0

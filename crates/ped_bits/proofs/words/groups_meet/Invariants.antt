use Rattle.std.proofs.Common.{◌≡◌, ℕ, ◌*◌, ◌<◌, bit_and}
use Rattle.ped_bits.specs.Words.{word}
use Rattle.ped_bits.proofs.words.groups_meet.Given as goal

abbrev pub invariant-loop-group : goal.invariant-loop-group
invariant-loop-group l = (j : ℕ) → j < 8 * l.group → bit_and (word l.left j) (word l.right j) ≡ 0

use Rattle.std.proofs.Common.{◌≡◌, length}
use Rattle.ped_script.specs.Words.{words_of, number_of, numbers_of}
use Rattle.ped_script.proofs.Choices.{all_read}
use Rattle.ped_script.proofs.rows.run.Given as goal

abbrev pub invariant-loop-word : goal.invariant-loop-word
invariant-loop-word l = all_read (number_of 18) l.choices (words_of l.left) ≡ numbers_of 18 (words_of l.line)

abbrev pub decreases-loop-word : goal.decreases-loop-word
decreases-loop-word l = length l.left

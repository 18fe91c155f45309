use Rattle.std.proofs.Common.{◌≡◌, length}
use Rattle.ped_script.specs.Words.{words_of, name_of, names_of}
use Rattle.ped_script.proofs.Choices.{all_read}
use Rattle.ped_script.proofs.rows.names.Given as goal

abbrev pub invariant-loop-word : goal.invariant-loop-word
invariant-loop-word l = all_read name_of l.names (words_of l.left) ≡ names_of (words_of l.line)

abbrev pub decreases-loop-word : goal.decreases-loop-word
decreases-loop-word l = length l.left

use Rattle.std.proofs.Common.{◌≡◌, [], length}
use Rattle.ped_script.specs.Words.{words_of}
use Rattle.ped_script.specs.EvidenceLines.{after_words}
use Rattle.ped_script.proofs.steps.steps.Given as goal

-- what is read behind the words that are left is what is read behind all
abbrev pub invariant-loop-word : goal.invariant-loop-word
invariant-loop-word l = after_words (record { steps = l.steps; parts = l.parts }) (words_of l.left) ≡ after_words (record { steps = []; parts = [] }) (words_of l.line)

abbrev pub decreases-loop-word : goal.decreases-loop-word
decreases-loop-word l = length l.left

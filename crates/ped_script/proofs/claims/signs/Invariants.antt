use Rattle.std.proofs.Common.{◌≡◌, ◌++◌, option_map, length}
use Rattle.ped_script.specs.EvidenceLines.{signs_of}
use Rattle.ped_script.proofs.claims.signs.Given as goal

-- the signs so far, with those of what is left, are those of the text
abbrev pub invariant-loop-sign : goal.invariant-loop-sign
invariant-loop-sign l = option_map (λ more. l.signs ++ more) (signs_of l.left) ≡ signs_of l.text

abbrev pub decreases-loop-sign : goal.decreases-loop-sign
decreases-loop-sign l = length l.left

use Rattle.std.proofs.Common.{◌≡◌, take}
use Rattle.ped_certificates.proofs.copies.copy_evidence.Given as goal

-- the lines so far are copied
abbrev pub invariant-loop-line : goal.invariant-loop-line
invariant-loop-line l = l.copy ≡ take l.line-index l.lines

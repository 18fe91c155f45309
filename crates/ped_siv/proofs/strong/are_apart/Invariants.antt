use Rattle.std.proofs.Common.{take}
use Rattle.ped_siv.specs.Fits.{AreApart}
use Rattle.ped_siv.proofs.strong.are_apart.Given as goal

-- the rows so far are equal at the distance
abbrev pub invariant-loop-row : goal.invariant-loop-row
invariant-loop-row l = AreApart (take l.row-index l.rows) l.distance

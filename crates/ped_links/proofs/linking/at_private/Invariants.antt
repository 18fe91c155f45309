use Rattle.std.proofs.Common.{take}
use Rattle.ped_links.specs.FirstLinks.{IsFirstOf}
use Rattle.ped_links.specs.LinkPlaces.{StandsAtLines}
use Rattle.ped_links.proofs.linking.at_private.Given as goal

abbrev pub invariant-loop-line : goal.invariant-loop-line
invariant-loop-line l = IsFirstOf (StandsAtLines (take l.line-index l.lines)) l.found

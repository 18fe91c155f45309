use Rattle.ped_verdict.specs.Marked.{SingleExcludes, AreExcluded}
use Rattle.ped_verdict.specs.Sights.{AreSights}
use Rattle.ped_verdict.proofs.refining.excluded_vectors.Given as goal

-- what the positions so far exclude that have subscripts in one index at most, and the sights of the others
abbrev pub invariant-loop-position : goal.invariant-loop-position
invariant-loop-position l = record {
  excluded : AreExcluded l.view (SingleExcludes l.view) l.position l.excluded;
  sights : AreSights l.view l.position l.sights.items;
}

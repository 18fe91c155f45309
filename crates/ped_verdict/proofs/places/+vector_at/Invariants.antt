use Rattle.ped_verdict.proofs.places.+vector_at.Given as goal

abbrev pub decreases-vector_at : goal.decreases-vector_at
decreases-vector_at l = l.loops

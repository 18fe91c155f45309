use Rattle.ped_affine.proofs.forms.Terms.sum.Goals as goal

pub total-requires-clause-first : goal.total-requires-clause-first
total-requires-clause-first c = c.requires.first c.in-Some-Some.a c.in-Some-Some.is-0

pub total-requires-clause-second : goal.total-requires-clause-second
total-requires-clause-second c = c.requires.second c.in-Some-Some.b c.in-Some-Some.is-1

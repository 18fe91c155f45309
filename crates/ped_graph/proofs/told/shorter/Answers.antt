use Rattle.std.proofs.Common.{inl, inr}
use Rattle.ped_graph.proofs.told.shorter.Goals as goal

pub returns-then-first-second-clause-one : goal.returns-then-first-second-clause-one
returns-then-first-second-clause-one c = λ n h. inl h

pub returns-clause-one : goal.returns-clause-one
returns-clause-one c = λ n h. inr h

use Rattle.ped_bodies.proofs.BodyLaws.Rewritings.{unchanged_is, statements_unchanged, may_stay, substitution_is, statements_same, may_give_way}
use Rattle.ped_bodies.proofs.rewriting.rewritings.Goals as goal

pub returns-clause-unchanged : goal.returns-clause-unchanged
returns-clause-unchanged c = unchanged_is

pub returns-clause-stay : goal.returns-clause-stay
returns-clause-stay c = statements_unchanged

pub returns-clause-may_stay : goal.returns-clause-may_stay
returns-clause-may_stay c = may_stay

pub returns-clause-substitution : goal.returns-clause-substitution
returns-clause-substitution c = substitution_is

pub returns-clause-substituted : goal.returns-clause-substituted
returns-clause-substituted c = statements_same

pub returns-clause-may_give_way : goal.returns-clause-may_give_way
returns-clause-may_give_way c = λ constants x by ts none absent increments. may_give_way constants x none by ts absent increments

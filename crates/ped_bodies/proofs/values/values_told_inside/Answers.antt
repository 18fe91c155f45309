use Rattle.ped_bodies.proofs.BodyLaws.StandingPlaces.{number_told, literal_told, times_told, itself_told, variable_told, negative_told, sum_told, difference_told, product_told}
use Rattle.ped_bodies.proofs.values.values_told_inside.Goals as goal

pub returns-clause-number : goal.returns-clause-number
returns-clause-number c = number_told

pub returns-clause-itself : goal.returns-clause-itself
returns-clause-itself c = itself_told

pub returns-clause-another : goal.returns-clause-another
returns-clause-another c = variable_told

pub returns-clause-negation : goal.returns-clause-negation
returns-clause-negation c = negative_told

pub returns-clause-sum : goal.returns-clause-sum
returns-clause-sum c = sum_told

pub returns-clause-difference : goal.returns-clause-difference
returns-clause-difference c = difference_told

pub returns-clause-product : goal.returns-clause-product
returns-clause-product c = product_told

pub returns-clause-literal : goal.returns-clause-literal
returns-clause-literal c = literal_told

pub returns-clause-multiple : goal.returns-clause-multiple
returns-clause-multiple c = times_told

use Rattle.ped_bodies.proofs.BodyLaws.Instances.{peeled_body, skewed_body, renamed_body, fused_body}
use Rattle.ped_bodies.proofs.bodies.bodies_substituted.Goals as goal

pub returns-clause-peeled : goal.returns-clause-peeled
returns-clause-peeled c = λ f p q ts n m scope l k r by agree. peeled_body f p q ts n m agree scope l k r by

pub returns-clause-skewed : goal.returns-clause-skewed
returns-clause-skewed c = λ p q ts n m x by scope other agree. skewed_body p q ts n m agree x by scope other

pub returns-clause-fused : goal.returns-clause-fused
returns-clause-fused c = λ p q ts n m scope l k r z agree. fused_body p q ts n m agree scope l k r z

pub returns-clause-renamed : goal.returns-clause-renamed
returns-clause-renamed c = λ p q ts n m scope r z agree. renamed_body p q ts n m agree scope r z

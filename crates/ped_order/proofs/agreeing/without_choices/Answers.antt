use Rattle.std.proofs.Common.{[]}
use Rattle.ped_interleavings.specs.ped_eval.specs.Outcomes.{outcome}
use Rattle.ped_interleavings.specs.Interleavings.{at_start}
use Rattle.ped_order.proofs.InOrder.{in_order}
use Rattle.ped_order.proofs.agreeing.without_choices.Goals as goal

pub returns : goal.returns
returns c = λ t data_bytes o i. c.one_interleaving.ensures t (at_start t data_bytes []) o (outcome t data_bytes) i (in_order t data_bytes)

use Rattle.std.proofs.Common.{ℕ, List, ◌++◌, ap, ◌∙◌}
use Rattle.std.proofs.lemmas.List.{take_all}
use Rattle.ped_splits.specs.CodeUnits.{body_of}
use Rattle.ped_splits.specs.Distributing.{pi_block_sources}
use Rattle.ped_splits.proofs.Keepings.{next_unit}
use Rattle.ped_splits.proofs.keeping.add_pi_block.Goals as goal

pub loop-unit-init : goal.loop-unit-init
loop-unit-init c = c.in_ok-push.ensures.items

pub loop-unit-preserved : goal.loop-unit-preserved
loop-unit-preserved c =
    next_unit c.args.parted.now.number (body_of c.args.parted.now) c.args.head c.args.block.now c.loop-unit.unit-index 0 c.args.sources.now.items c.loop-unit.sources.items c.add_unit.new.sources.items c.loop-unit-test.true c.loop-unit.invariant c.in_ok-add_unit.ensures

pub returns : goal.returns
returns c =
    c.loop-unit.invariant ∙ ap (λ (ks : List ℕ). c.args.sources.now.items ++ pi_block_sources c.args.parted.now.number (body_of c.args.parted.now) c.args.head ks) (take_all c.loop-unit.unit-index c.args.block.now c.loop-unit-test.false)

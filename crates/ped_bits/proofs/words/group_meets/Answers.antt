use Rattle.ped_bits.proofs.LaneWords.{meets_to, meets_from}
use Rattle.ped_bits.proofs.words.group_meets.Goals as goal

pub returns : goal.returns
returns c = (
  λ t. meets_to c.args.at c.args.left.now c.args.right.now c.requires.left c.requires.right (c.meets_lanes.ensures.0 t),
  λ s. c.meets_lanes.ensures.1 (meets_from c.args.at c.args.left.now c.args.right.now c.requires.left c.requires.right s),
)

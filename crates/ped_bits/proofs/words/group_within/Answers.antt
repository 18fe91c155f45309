use Rattle.ped_bits.proofs.LaneWords.{within_to, within_from}
use Rattle.ped_bits.proofs.words.group_within.Goals as goal

pub returns : goal.returns
returns c = (
  λ t j from to. within_to c.args.at c.args.inner.now c.args.outer.now c.requires.inner c.requires.outer (c.is_subset_lanes.ensures.0 t) j from to,
  λ all. c.is_subset_lanes.ensures.1 (within_from c.args.at c.args.inner.now c.args.outer.now c.requires.inner c.requires.outer all),
)

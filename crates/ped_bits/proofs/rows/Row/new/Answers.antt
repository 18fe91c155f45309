use Rattle.std.proofs.Common.{◌/◌, ◌+◌}
use Rattle.ped_bits.proofs.Bits.{empty}
use Rattle.ped_bits.proofs.rows.Row.new.Goals as goal

pub returns : goal.returns
returns c = empty c.args.width (c.args.width / 64 + 1) c.in_ok-words.words.items (c.in_ok-words.ensures.items_if_clones_equal (λ y h. h))

use Rattle.std.proofs.Common.{bit_and, sym, ◌∙◌}
use Rattle.std.specs.Simd.Lanes.{zip2}
use Rattle.ped_bits.proofs.LaneWords.{word_and, some_decides}
use Rattle.ped_bits.proofs.lanes.meets_lanes.Goals as goal

pub returns : goal.returns
returns c =
    let a = c.args.a in
    let b = c.args.b in
    let h = some_decides (zip2 bit_and a b) in (
      λ t. let s = h.0 t in (s.0, λ e. s.1 (word_and a b s.0 ∙ e)),
      λ s. h.1 (s.0, λ e. s.1 (sym (word_and a b s.0) ∙ e)),
    )

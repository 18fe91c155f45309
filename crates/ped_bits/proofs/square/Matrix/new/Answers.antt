use Rattle.std.proofs.Common.{◌≡◌, ℕ, false, replicate, ap, ◌∙◌, arith}
use Rattle.ped_bits.proofs.Merging.{none_square}
use Rattle.ped_bits.proofs.square.Matrix.new.Goals as goal

pub invariant_of-result : goal.invariant_of-result
invariant_of-result c =
    let all : c.loop-place._place ≡ c.args.width = omega arith in
    none_square c.args.width c.loop-place.rows.items (c.loop-place.invariant ∙ ap (λ (n : ℕ). replicate n (replicate c.args.width false)) all)

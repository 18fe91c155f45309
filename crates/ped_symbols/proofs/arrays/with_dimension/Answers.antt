use Rattle.std.proofs.Common.{◌≡◌, length, take, arith, ap, sym, ◌∙◌}
use Rattle.std.proofs.lemmas.List.{length-take-le}
use Rattle.ped_base.specs.Dimensions.{Dimensions}
use Rattle.ped_symbols.proofs.Bounding.{wider_bounds}
use Rattle.ped_symbols.proofs.arrays.with_dimension.Goals as goal

pub invariant_of-wider : goal.invariant_of-wider
invariant_of-wider c =
    let b = c.bounds.inside in
    let n : length (take b.rank b.lower) ≡ b.rank = length-take-le b.rank b.lower (omega (arith, c.bounds.invariant.lower_long, c.bounds.invariant.few)) in
    let same : length c.args.bounds.lower ≡ b.rank = ap (λ (d : Dimensions). length d.lower) (sym c.bounds.view_is) ∙ n in
    wider_bounds b c.from.result c.from-2.result _ _ c.bounds.invariant (omega (arith, same, c.requires)) c.from.ensures c.from-2.ensures

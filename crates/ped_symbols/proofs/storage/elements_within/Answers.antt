use Rattle.std.proofs.Common.{◌≡◌, ◌+◌, ◌*◌, ◌<◌, drop, get_or, pos, arith, ap, sym, subst, ◌∙◌, rules, FitsSigned, w64}
use Rattle.std.proofs.lemmas.Int.{to_z-of_z}
use Rattle.ped_base.specs.Dimensions.{Dimensions}
use Rattle.ped_symbols.specs.StorageLimits.{size, sizes_product}
use Rattle.ped_symbols.specs.Passes.{capped}
use Rattle.ped_symbols.proofs.Capped.{capped_step}
use Rattle.ped_symbols.proofs.Sizes.{next_size}
use Rattle.ped_symbols.proofs.storage.elements_within.Goals as goal

pub loop-i-preserved : goal.loop-i-preserved
loop-i-preserved c =
    let i = c.loop-i.i in
    let p = c.loop-i.product in
    let b = c.bounds.inside in
    let d = c.args.bounds.now in
    let l = get_or b.lower i (pos 0) in
    let u = get_or b.upper i (pos 0) in
    let small_lower : FitsSigned w64 l = search rules in
    let small_upper : FitsSigned w64 u = search rules in
    let size_is = simp to_z-of_z at c.size.ensures in
    let within : i < b.rank = omega (arith, c.loop-i-test.true, c.from-i-end.ensures) in
    let rest = sizes_product (drop (i + 1) d.lower) (drop (i + 1) d.upper) in
    let next = subst (λ (d : Dimensions). sizes_product (drop i d.lower) (drop i d.upper) ≡ size l u * sizes_product (drop (i + 1) d.lower) (drop (i + 1) d.upper))
    c.bounds.view_is (next_size b i c.bounds.invariant within) in
    record {
      small = c.saturating_mul-product.type_inv;
      product = ap (λ r. capped (r * rest)) (c.saturating_mul-product.ensures ∙ ap (λ s. capped (p * s)) size_is)
          ∙ capped_step p (size l u) rest
          ∙ ap (λ x. capped (p * x)) (sym next)
          ∙ c.loop-i.invariant.product;
    }

use Rattle.std.proofs.Common.{◌≡◌, ◌<◌, ℤ, ◌-ℤ◌, int_rem, unsigned_abs, to_z, of_z, sym, ap, ◌∙◌, subst}
use Rattle.std.specs.Int.{w128}
use Rattle.std.proofs.lemmas.Int.{to_z-of_z, rem_below}
use Rattle.ped_rules.proofs.RightSteps.{step_parts, left_fits}
use Rattle.ped_rules.specs.ped_views.proofs.Products.{abs_some}
use Rattle.ped_reindex.specs.CodePeeling.{towards}
use Rattle.ped_reindex.proofs.Remainders.{towards_left}
use Rattle.ped_reindex.proofs.iterations.left.Goals as goal

pub returns-clause-value : goal.returns-clause-value
returns-clause-value c =
    let m1 = c.args.first in
    let m2 = c.args.end in
    let m3 = c.args.step in
    let f = to_z-of_z w128 m1 c.ranges.first in
    let l = to_z-of_z w128 m2 c.ranges.end in
    let d = to_z-of_z w128 m3 c.ranges.step in
    let over = c.remainder-over.result in
    let rest = c.remainder-rest.result in
    let r = to_z-of_z w128 rest (record { sfits = c.remainder-rest.type_inv }) in
    let g = to_z-of_z w128 c.towards.result (record { sfits = c.towards.type_inv }) in
    let over_is : over ≡ int_rem m1 m3 = c.remainder-over.ensures.value ∙ (λ i. int_rem (f i) (d i)) in
    let less = subst (λ (z : ℤ). unsigned_abs over < unsigned_abs z) d c.remainder-over.ensures.small in
    let fits = left_fits m2 over m3 c.requires.above c.requires.below less c.requires.step in
    let o = to_z-of_z w128 over fits.0 in
    let rest_is : rest ≡ int_rem (m2 -ℤ int_rem m1 m3) m3 =
    c.remainder-rest.ensures.value
    ∙ (λ i. int_rem (to_z w128 (of_z w128 (l i -ℤ o i))) (d i))
    ∙ ap (λ (z : ℤ). int_rem z m3) (to_z-of_z w128 (m2 -ℤ over) fits.1 ∙ ap (λ (z : ℤ). m2 -ℤ z) over_is) in
    g ∙ c.towards.ensures ∙ (λ i. towards (r i) (d i)) ∙ ap (λ (z : ℤ). towards z m3) rest_is ∙ towards_left m1 m2 m3 (step_parts m3 c.requires.step).0 c.requires.some

pub returns-clause-small : goal.returns-clause-small
returns-clause-small c =
    let m3 = c.args.step in
    subst (λ (z : ℤ). unsigned_abs z < unsigned_abs m3) (sym (returns-clause-value c)) (rem_below (c.args.end -ℤ c.args.first) m3 (abs_some m3 (step_parts m3 c.requires.step).0))

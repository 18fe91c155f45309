use Rattle.std.proofs.Common.{◌≡◌, ℤ, pos, ◌-ℤ◌, to_z, of_z, ap, ◌∙◌}
use Rattle.std.specs.Int.{w64}
use Rattle.std.proofs.lemmas.Int.{to_z-of_z}
use Rattle.std.proofs.lemmas.Result.{IfOk-weaker}
use Rattle.ped_symbolic.specs.Arithmetic.{literal, plus_of}
use Rattle.ped_reindex.proofs.Sizes.{end_fits}
use Rattle.ped_reindex.proofs.stripping.strip_end.Goals as goal

pub returns : goal.returns
returns c =
    let k = c.args.size in
    let f = to_z-of_z w64 k c.ranges.size in
    let less : to_z w64 (of_z w64 (to_z w64 (of_z w64 k) -ℤ pos 1)) ≡ k -ℤ pos 1 = (λ i. to_z w64 (of_z w64 (f i -ℤ pos 1))) ∙ to_z-of_z w64 (k -ℤ pos 1) (end_fits k c.requires) in
    let further = c.in_ok-further.ensures ∙ ap (λ (z : ℤ). literal z) less in
    IfOk-weaker c.plus-end.result _ _ (λ e said. said ∙ (λ i. plus_of (c.scalar-variable.ensures i) (further i))) c.plus-end.ensures

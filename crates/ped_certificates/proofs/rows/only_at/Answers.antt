use Rattle.std.proofs.Common.{◌++◌, ◌∷◌, [], ◌-◌, ◌∙◌, ap, replicate, pos, arith}
use Rattle.ped_certificates.proofs.Ones.{more_zeros}
use Rattle.ped_certificates.proofs.rows.only_at.Goals as goal

pub loop-place-preserved : goal.loop-place-preserved
loop-place-preserved c = record {
  begun = omega (arith, c.loop-place.invariant.begun);
  within = omega (arith, c.loop-place-test.true);
  so_far = c.in_ok-push-2.ensures.ok ∙ ap (λ xs. xs ++ pos 0 ∷ []) c.loop-place.invariant.so_far
      ∙ more_zeros (replicate (c.args.unknown - 1) (pos 0)) _ c.loop-place.place c.args.unknown c.loop-place.invariant.begun;
}

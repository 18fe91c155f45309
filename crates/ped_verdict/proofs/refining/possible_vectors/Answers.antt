use Rattle.std.proofs.Common.{◌≡◌, ◌^◌, ◌∙◌, ap, refl, length, arith}
use Rattle.std.proofs.lemmas.Grind.{common_steps}
use Rattle.std.proofs.lemmas.List.{length-replicate}
use Rattle.ped_views.specs.Views.{View}
use Rattle.ped_verdict.proofs.Added.{possible_rest}
use Rattle.ped_verdict.proofs.Answering.{few}
use Rattle.ped_verdict.proofs.refining.possible_vectors.Goals as goal

pub returns : goal.returns
returns c =
    let loops = ap (λ (v : View). length v.loops) c.view.view_is in
    let n : c.len-loops.result ≡ length c.args.view.now.loops = grind (arith, common_steps) in
    possible_rest c.args.view.now c.len-loops.result c.empty.result (length c.args.view.now.positions) c.in_ok-possible.possible c.mark_front.new.row c.in_ok-excluded.excluded c.and_not_into.new.target
    (few _ c.args.view.now c.view.view_is c.view.invariant) n c.empty.ensures refl (ap length c.in_ok-possible.ensures ∙ length-replicate _ _ ∙ c.vector_count.ensures ∙ ap (λ k. 3 ^ k) n)
    c.mark_front.ensures c.in_ok-excluded.ensures c.and_not_into.ensures

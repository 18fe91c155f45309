use Rattle.std.proofs.Common.{◌++◌, List, ℕ, ap, ◌∙◌}
use Rattle.std.proofs.lemmas.Result.{on_ok_weaker}
use Rattle.ped_edges.proofs.Joined.{six_signs}
use Rattle.ped_edges.proofs.vectors.push_six.Goals as goal

pub returns : goal.returns
returns c =
    let text = six_signs c.args.outer.0 c.args.outer.1 c.args.outer.2 c.args.inner.0 c.args.inner.1 c.args.inner.2
    c.sign.result c.sign-2.result c.sign-3.result c.sign-4.result c.sign-5.result c.sign-6.result
    c.sign.ensures c.sign-2.ensures c.sign-3.ensures c.sign-4.ensures c.sign-5.ensures c.sign-6.ensures in
    on_ok_weaker c.extend_from_slice.result (λ e. e ∙ ap (λ (t : List ℕ). c.args.out.now ++ t) text) c.extend_from_slice.ensures.ok

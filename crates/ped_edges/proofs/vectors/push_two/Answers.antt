use Rattle.std.proofs.Common.{◌++◌, List, ℕ, ap, ◌∙◌}
use Rattle.std.proofs.lemmas.Result.{on_ok_weaker}
use Rattle.ped_edges.proofs.Joined.{two_signs}
use Rattle.ped_edges.proofs.vectors.push_two.Goals as goal

pub returns : goal.returns
returns c =
    let text = two_signs c.args.outer c.args.inner
    c.sign.result c.sign-2.result
    c.sign.ensures c.sign-2.ensures in
    on_ok_weaker c.extend_from_slice.result (λ e. e ∙ ap (λ (t : List ℕ). c.args.out.now ++ t) text) c.extend_from_slice.ensures.ok

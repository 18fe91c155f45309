use Rattle.std.proofs.Common.{◌++◌, List, ℕ, sym, ap, ◌∙◌}
use Rattle.std.proofs.lemmas.Result.{on_ok_weaker}
use Rattle.ped_edges.proofs.SingleVectors.{text_of_one}
use Rattle.ped_edges.proofs.vectors.push_vectors.Goals as goal

pub returns-in-Some : goal.returns-in-Some
returns-in-Some c =
    let text = text_of_one c.args.loops c.args.vectors.now c.in-Some.vector.now c.in-Some.ensures in
    on_ok_weaker c.push_vector.result (λ e. e ∙ ap (λ (t : List ℕ). c.args.out.now ++ t) (sym text)) c.push_vector.ensures

use Rattle.std.proofs.Common.{◌++◌, List, ℕ, take, ap, ◌∙◌}
use Rattle.std.proofs.lemmas.Result.{on_ok_weaker}
use Rattle.ped_edges.proofs.Joined.{one_vector}
use Rattle.ped_edges.proofs.vectors.push_several.Goals as goal

pub returns-then-are_product : goal.returns-then-are_product
returns-then-are_product c =
    let text = one_vector c.args.loops c.args.vectors.now (take c.args.loops c.place_signs-signs.result) c.are_product.result c.place_signs-signs.ensures c.if-are_product.true c.are_product.ensures in
    on_ok_weaker c.push_list.result (λ e. e ∙ ap (λ (t : List ℕ). c.args.out.now ++ t) text) c.push_list.ensures

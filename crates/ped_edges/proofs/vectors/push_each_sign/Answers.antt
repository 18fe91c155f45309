use Rattle.std.proofs.Common.{◌++◌, List, ℕ, codes, sym, ap, ◌∙◌}
use Rattle.std.specs.List.{join_by}
use Rattle.std.proofs.lemmas.Result.{on_ok_weaker}
use Rattle.ped_views.specs.declared.directions.Direction.{Direction}
use Rattle.ped_edges.specs.Rows.{direction_text}
use Rattle.ped_edges.proofs.Joined.{single_vector}
use Rattle.ped_edges.proofs.vectors.push_each_sign.Goals as goal

pub returns : goal.returns
returns c =
    let text = ap (λ (v : List Direction). codes "(" ++ join_by direction_text (codes ",") v ++ codes ")") c.directions.ensures.value ∙ sym (single_vector c.args.vector.now) in
    on_ok_weaker c.push_list.result (λ e. e ∙ ap (λ (t : List ℕ). c.args.out.now ++ t) text) c.push_list.ensures

use Rattle.std.proofs.Common.{◌++◌, List, ℕ, ap, ◌∙◌}
use Rattle.std.proofs.lemmas.Result.{on_ok_weaker}
use Rattle.ped_edges.proofs.DigitByDigit.{one_digit_place}
use Rattle.ped_edges.proofs.places.push_one_digit.Goals as goal

pub returns : goal.returns
returns c =
    let text = one_digit_place c.args.statement c.args.number c.digit.result c.digit-2.result
    c.requires.few c.requires.number c.digit.ensures c.digit-2.ensures in
    on_ok_weaker c.extend_from_slice.result (λ e. e ∙ ap (λ (t : List ℕ). c.args.out.now ++ t) text) c.extend_from_slice.ensures.ok

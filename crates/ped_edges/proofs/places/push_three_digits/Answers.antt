use Rattle.std.proofs.Common.{◌++◌, List, ℕ, ap, ◌∙◌}
use Rattle.std.proofs.lemmas.Result.{on_ok_weaker}
use Rattle.ped_edges.proofs.DigitByDigit.{three_digits_place}
use Rattle.ped_edges.proofs.places.push_three_digits.Goals as goal

pub returns : goal.returns
returns c =
    let text = three_digits_place c.args.statement c.args.number c.digit.result c.digit-2.result c.digit-3.result c.digit-4.result
    c.requires.least c.requires.most c.requires.number c.digit.ensures c.digit-2.ensures c.digit-3.ensures c.digit-4.ensures in
    on_ok_weaker c.extend_from_slice.result (λ e. e ∙ ap (λ (t : List ℕ). c.args.out.now ++ t) text) c.extend_from_slice.ensures.ok

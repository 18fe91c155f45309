use Rattle.std.proofs.Common.{ℕ, get_or, set, ap, ◌∙◌, arith}
use Rattle.std.specs.Char.{to_ascii_uppercase}
use Rattle.std.proofs.lemmas.List.{get_or_default}
use Rattle.std.proofs.lemmas.List.Edits.{map_over_more}
use Rattle.ped_script.proofs.words.make_capital.Goals as goal

pub loop-c-preserved : goal.loop-c-preserved
loop-c-preserved c =
    let i : ℕ = c.loop-c.c-index in
    let text = c.loop-c.text in
    let x = get_or text i 0 in
    ap (set text i) c.to_ascii_uppercase.ensures.value
    ∙ map_over_more to_ascii_uppercase c.args.text.now text i x (omega arith) c.loop-c.invariant (get_or_default text i 0 x (omega arith))

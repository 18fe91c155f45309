use Rattle.std.proofs.Common.{◌≡◌, ℕ, List, ◌+◌, ◌-◌, ◌≤◌, take, drop, length, subst, arith, w64}
use Rattle.std.proofs.lemmas.Int.{to_z-of_z}
use Rattle.std.proofs.lemmas.List.{length-drop, take_all}
use Rattle.ped_store.specs.DataLines.{behind_blanks, behind_comma}
use Rattle.ped_store.specs.DataPlaces.{data_at}
use Rattle.ped_store.proofs.Taking.{taken_is, number_fits, left_of_line}
use Rattle.ped_store.proofs.data_lines.take_value.Goals as goal

pub returns-in-Ok-clause-ok : goal.returns-in-Ok-clause-ok
returns-in-Ok-clause-ok c =
    let p = c.args.place.now in
    let word = c.word_len-word.result in
    let rest = (data_at c.args.input.now p).rest in
    let short : word + c.separator_len.result ≤ p.to - p.from =
    omega (arith, c.separator_len.ensures.within, length-drop word rest, left_of_line c.args.input.now p.from p.to c.requires.1, c.word_len-word.ensures.within) in
    let passed = subst (λ (text : List ℕ). drop c.separator_len.result text ≡ behind_comma (behind_blanks text)) (take_all (length rest - word) (drop word rest) (omega (arith, length-drop word rest))) c.separator_len.ensures.behind in
    rw (to_z-of_z w64 c.in-Ok.value (number_fits (take word rest) c.in-Ok.value c.in-Ok.ensures))
    (taken_is c.args.input.now p word c.separator_len.result c.in-Ok.value c.requires short c.word_len-word.ensures.word c.word_len-word.ensures.behind passed c.in-Ok.ensures)

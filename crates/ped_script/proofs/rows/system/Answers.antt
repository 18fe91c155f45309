use Rattle.std.proofs.Common.{◌≡◌, List, ◌∷◌, option_and_then, sym, ap, ◌∙◌}
use Rattle.ped_certificates.specs.declared.claims.Sign.{Sign}
use Rattle.ped_script.specs.Words.{Text, words_of}
use Rattle.ped_script.specs.EvidenceLines.{first_pattern, pattern_of}
use Rattle.ped_script.proofs.Pairs.{no_first, not_first, is_first, no_source, no_sink, to_pattern, no_pattern, whole_pair}
use Rattle.ped_script.proofs.Split.{some_word, no_word}
use Rattle.ped_script.proofs.Table.{asked, too_many, system_row}
use Rattle.ped_script.proofs.rows.system.Goals as goal

pub returns-in_default : goal.returns-in_default
returns-in_default c =
    let words = words_of c.args.line.now in
    sym (system_row words ∙ no_source asked words c.in_default.ensures)

pub returns-in_default-first_place : goal.returns-in_default-first_place
returns-in_default-first_place c =
    let words = words_of c.args.line.now in
    sym (system_row words ∙ no_sink asked words c.in-Some.source (words_of c.in-Some.rest.now) c.in-Some.ensures c.in_default-first_place.ensures)

pub returns-in_default-first_word : goal.returns-in_default-first_word
returns-in_default-first_word c =
    let words = words_of c.args.line.now in
    let more = words_of c.in-Some.rest.now in
    let last = words_of c.in-Some-first_place.rest.now in
    sym (system_row words ∙ no_pattern asked words c.in-Some.source c.in-Some-first_place.sink more last c.in-Some.ensures c.in-Some-first_place.ensures (no_first last c.in_default-first_word.ensures.word))

pub returns-then-has_word : goal.returns-then-has_word
returns-then-has_word c =
    let words = words_of c.args.line.now in
    let more = words_of c.in-Some.rest.now in
    let last = words_of c.in-Some-first_place.rest.now in
    let a = c.in-Some.source in
    let b = c.in-Some-first_place.sink in
    let word = c.in-Some-first_word.word.now in
    let further = some_word (words_of c.in-Some-first_word.rest.now) (sym c.has_word.ensures ∙ c.if-has_word.true) in
    let all : last ≡ word ∷ further.0 ∷ further.1 = c.in-Some-first_word.ensures.word ∙ ap (λ (ws : List Text). word ∷ ws) further.2 in
    sym (system_row words ∙ to_pattern asked words a b more last c.in-Some.ensures c.in-Some-first_place.ensures
    ∙ ap (λ (ws : List Text). option_and_then (λ (p : List Sign × List Text). asked a b p.0 p.1) (first_pattern ws)) all
    ∙ too_many a b further.0 further.1 (pattern_of word))

pub returns-in_default-2 : goal.returns-in_default-2
returns-in_default-2 c =
    let words = words_of c.args.line.now in
    let more = words_of c.in-Some.rest.now in
    let last = words_of c.in-Some-first_place.rest.now in
    let rest = words_of c.in-Some-first_word.rest.now in
    let word = c.in-Some-first_word.word.now in
    sym (system_row words ∙ no_pattern asked words c.in-Some.source c.in-Some-first_place.sink more last c.in-Some.ensures c.in-Some-first_place.ensures
    (not_first last rest word c.in-Some-first_word.ensures.word (sym c.in_ok-pattern.ensures ∙ c.in_default-2.is)))

pub returns : goal.returns
returns c =
    let words = words_of c.args.line.now in
    let more = words_of c.in-Some.rest.now in
    let last = words_of c.in-Some-first_place.rest.now in
    let rest = words_of c.in-Some-first_word.rest.now in
    let word = c.in-Some-first_word.word.now in
    let none = no_word rest (sym c.has_word.ensures ∙ c.if-has_word.false) in
    sym (system_row words
    ∙ whole_pair asked words c.in-Some.source c.in-Some-first_place.sink c.in-Some-2.pattern more last rest c.in-Some.ensures c.in-Some-first_place.ensures
    (is_first last rest word c.in-Some-2.pattern c.in-Some-first_word.ensures.word (sym c.in_ok-pattern.ensures ∙ c.in-Some-2.is))
    ∙ ap (asked c.in-Some.source c.in-Some-first_place.sink c.in-Some-2.pattern) none)

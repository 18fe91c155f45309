use Rattle.std.proofs.Common.{◌≡◌, ◌∷◌, false, List, codes, sym, ap, ◌∙◌}
use Rattle.ped_base.specs.Lists.{is_same_text}
use Rattle.ped_script.specs.Words.{Text, words_of}
use Rattle.ped_script.specs.Rows.{command_of}
use Rattle.ped_script.proofs.Split.{some_word, no_word}
use Rattle.ped_script.proofs.Table.{one_word, two_words, no_number, three_words, four_words}
use Rattle.ped_script.proofs.rows.command.Goals as goal

pub returns-in_default : goal.returns-in_default
unfolding command_of
returns-in_default c = ap command_of (sym c.in_default.ensures.word)

pub returns-in_default-first_word : goal.returns-in_default-first_word
returns-in_default-first_word c =
    let w = c.in-Some.first.now in
    let other : is_same_text w (codes "run") ≡ false = sym c.is_word.ensures ∙ c.if-is_word.false in
    c.alone.ensures ∙ sym (one_word w other)
    ∙ ap (λ (ws : List Text). command_of (w ∷ ws)) (sym c.in_default-first_word.ensures.word)
    ∙ ap command_of (sym c.in-Some.ensures.word)

pub returns-in_default-number : goal.returns-in_default-number
returns-in_default-number c =
    let w = c.in-Some.first.now in
    let a = c.in-Some-first_word.second.now in
    let rest = words_of c.in-Some-first_word.rest.now in
    let other : is_same_text w (codes "run") ≡ false = sym c.is_word.ensures ∙ c.if-is_word.false in
    let further : is_same_text w (codes "system") ≡ false = sym c.is_word-3.ensures ∙ c.if-is_word-3.false in
    sym (no_number w a rest other further (sym c.number.ensures ∙ c.in_default-number.is))
    ∙ ap (λ (ws : List Text). command_of (w ∷ ws)) (sym c.in-Some-first_word.ensures.word)
    ∙ ap command_of (sym c.in-Some.ensures.word)

pub returns-in_default-first_word-2 : goal.returns-in_default-first_word-2
returns-in_default-first_word-2 c =
    let w = c.in-Some.first.now in
    let a = c.in-Some-first_word.second.now in
    let n = c.in-Some-number.n in
    let other : is_same_text w (codes "run") ≡ false = sym c.is_word.ensures ∙ c.if-is_word.false in
    let further : is_same_text w (codes "system") ≡ false = sym c.is_word-3.ensures ∙ c.if-is_word-3.false in
    c.with_number.ensures ∙ sym (two_words w a n other further (sym c.number.ensures ∙ c.in-Some-number.is))
    ∙ ap (λ (ws : List Text). command_of (w ∷ a ∷ ws)) (sym c.in_default-first_word-2.ensures.word)
    ∙ ap (λ (ws : List Text). command_of (w ∷ ws)) (sym c.in-Some-first_word.ensures.word)
    ∙ ap command_of (sym c.in-Some.ensures.word)

pub returns-then-has_word : goal.returns-then-has_word
returns-then-has_word c =
    let w = c.in-Some.first.now in
    let a = c.in-Some-first_word.second.now in
    let b = c.in-Some-first_word-2.third.now in
    let n = c.in-Some-number.n in
    let other : is_same_text w (codes "run") ≡ false = sym c.is_word.ensures ∙ c.if-is_word.false in
    let further : is_same_text w (codes "system") ≡ false = sym c.is_word-3.ensures ∙ c.if-is_word-3.false in
    let another : is_same_text w (codes "reduce") ≡ false = sym c.is_word-2.ensures ∙ c.if-is_word-2.false in
    let more = some_word (words_of c.in-Some-first_word-2.rest.now) (sym c.has_word.ensures ∙ c.if-has_word.true) in
    sym (four_words w a b more.0 more.1 n other another further (sym c.number.ensures ∙ c.in-Some-number.is))
    ∙ ap (λ (ws : List Text). command_of (w ∷ a ∷ b ∷ ws)) (sym more.2)
    ∙ ap (λ (ws : List Text). command_of (w ∷ a ∷ ws)) (sym c.in-Some-first_word-2.ensures.word)
    ∙ ap (λ (ws : List Text). command_of (w ∷ ws)) (sym c.in-Some-first_word.ensures.word)
    ∙ ap command_of (sym c.in-Some.ensures.word)

pub returns : goal.returns
returns c =
    let w = c.in-Some.first.now in
    let a = c.in-Some-first_word.second.now in
    let b = c.in-Some-first_word-2.third.now in
    let n = c.in-Some-number.n in
    let other : is_same_text w (codes "run") ≡ false = sym c.is_word.ensures ∙ c.if-is_word.false in
    let further : is_same_text w (codes "system") ≡ false = sym c.is_word-3.ensures ∙ c.if-is_word-3.false in
    let another : is_same_text w (codes "reduce") ≡ false = sym c.is_word-2.ensures ∙ c.if-is_word-2.false in
    let last = no_word (words_of c.in-Some-first_word-2.rest.now) (sym c.has_word.ensures ∙ c.if-has_word.false) in
    c.with_two.ensures ∙ sym (three_words w a b n other another further (sym c.number.ensures ∙ c.in-Some-number.is))
    ∙ ap (λ (ws : List Text). command_of (w ∷ a ∷ b ∷ ws)) (sym last)
    ∙ ap (λ (ws : List Text). command_of (w ∷ a ∷ ws)) (sym c.in-Some-first_word-2.ensures.word)
    ∙ ap (λ (ws : List Text). command_of (w ∷ ws)) (sym c.in-Some-first_word.ensures.word)
    ∙ ap command_of (sym c.in-Some.ensures.word)

use Rattle.std.proofs.Common.{ℕ, length, take, drop, ap, ◌∙◌, arith}
use Rattle.std.specs.Option.{unwrap_or}
use Rattle.ped_store.specs.DataLines.{ends_value}
use Rattle.ped_store.proofs.DataTexts.{first_or_end, first_within, word_is, word_behind}
use Rattle.ped_store.proofs.data_text.word_len.Goals as goal

pub returns-clause-word : goal.returns-clause-word
returns-clause-word c =
    let text = c.args.text.now in
    ap (λ (n : ℕ). take n text) (c.unwrap_or.ensures ∙ ap (λ o. unwrap_or o (length text)) c.first_behind_word.ensures ∙ first_or_end ends_value text) ∙ word_is text

pub returns-clause-behind : goal.returns-clause-behind
returns-clause-behind c =
    let text = c.args.text.now in
    ap (λ (n : ℕ). drop n text) (c.unwrap_or.ensures ∙ ap (λ o. unwrap_or o (length text)) c.first_behind_word.ensures ∙ first_or_end ends_value text) ∙ word_behind text

pub returns-clause-within : goal.returns-clause-within
returns-clause-within c =
    let text = c.args.text.now in
    omega (arith, c.unwrap_or.ensures ∙ ap (λ o. unwrap_or o (length text)) c.first_behind_word.ensures ∙ first_or_end ends_value text, first_within ends_value text)

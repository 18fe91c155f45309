use Rattle.std.proofs.Common.{ℕ, length, drop, not, ap, ◌∙◌, arith}
use Rattle.std.specs.Option.{unwrap_or}
use Rattle.ped_store.specs.DataLines.{is_data_blank}
use Rattle.ped_store.proofs.DataTexts.{first_or_end, first_within, blanks_are}
use Rattle.ped_store.proofs.data_text.blank_count.Goals as goal

pub returns-clause-behind : goal.returns-clause-behind
returns-clause-behind c =
    let text = c.args.text.now in
    ap (λ (n : ℕ). drop n text) (c.unwrap_or.ensures ∙ ap (λ o. unwrap_or o (length text)) c.first_of_value.ensures ∙ first_or_end (λ c. not (is_data_blank c)) text) ∙ blanks_are text

pub returns-clause-within : goal.returns-clause-within
returns-clause-within c =
    let text = c.args.text.now in
    omega (arith, c.unwrap_or.ensures ∙ ap (λ o. unwrap_or o (length text)) c.first_of_value.ensures ∙ first_or_end (λ c. not (is_data_blank c)) text, first_within (λ c. not (is_data_blank c)) text)

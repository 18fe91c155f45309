use Rattle.std.proofs.Common.{List, option_and_then, sym, ap, ◌∙◌}
use Rattle.std.proofs.lemmas.Result.{IfOk-weaker}
use Rattle.ped_script.specs.declared.items.Command.TheVariants.{Reduce}
use Rattle.ped_script.specs.Words.{Text, words_of}
use Rattle.ped_script.specs.Rows.{number, few_names}
use Rattle.ped_script.proofs.Table.{reduce_row}
use Rattle.ped_script.proofs.rows.reduce.Goals as goal

pub returns-in_default : goal.returns-in_default
returns-in_default c =
    ap (λ (ws : List Text). number (λ s. few_names (λ names. Reduce s names)) ws) (sym c.in_default.ensures.word)
    ∙ sym (reduce_row (words_of c.args.line.now))

pub returns-in_default-number : goal.returns-in_default-number
returns-in_default-number c =
    ap (λ o. option_and_then (λ s. few_names (λ names. Reduce s names) (words_of c.in-Some.rest.now)) o) (sym (sym c.number.ensures ∙ c.in_default-number.is))
    ∙ ap (λ (ws : List Text). number (λ s. few_names (λ names. Reduce s names)) ws) (sym c.in-Some.ensures.word)
    ∙ sym (reduce_row (words_of c.args.line.now))

pub returns : goal.returns
returns c =
    IfOk-weaker c.reduce_at.result _ _ (λ x h.
    h ∙ ap (λ o. option_and_then (λ s. few_names (λ names. Reduce s names) (words_of c.in-Some.rest.now)) o) (sym (sym c.number.ensures ∙ c.in-Some-number.is))
    ∙ ap (λ (ws : List Text). number (λ s. few_names (λ names. Reduce s names)) ws) (sym c.in-Some.ensures.word)
    ∙ sym (reduce_row (words_of c.args.line.now))) c.reduce_at.ensures

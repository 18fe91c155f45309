use Rattle.std.proofs.Common.{sym, subst, ◌∙◌, ◌<◌, ◌^◌, ℕ, Option, IfSome}
use Rattle.ped_script.proofs.Numbers.{number_is_text, parsed_is, parsed_small}
use Rattle.ped_script.proofs.words.number_within.Goals as goal

pub returns-in-Err : goal.returns-in-Err
returns-in-Err c =
    absurd (c.in-Err.ensures.cases.0 (number_is_text c.args.word.now (sym c.is_number.ensures ∙ c.if-not-is_number.false)))

pub returns-in-Ok-clause-value : goal.returns-in-Ok-clause-value
returns-in-Ok-clause-value c =
    c.ok.ensures.value
    ∙ parsed_is c.args.word.now c.in-Ok.digits.now c.args.most c.parse.result (sym c.is_number.ensures ∙ c.if-not-is_number.false) c.if-word-most.false c.requires c.in-Ok.ensures.cases.0 c.parse.ensures.value.0

pub returns-in-Ok-clause-small : goal.returns-in-Ok-clause-small
returns-in-Ok-clause-small c =
    subst (λ (o : Option ℕ). IfSome o (λ n. n < 10 ^ c.args.most)) (sym c.ok.ensures.value)
    (parsed_small c.args.word.now c.in-Ok.digits.now c.args.most c.parse.result (sym c.is_number.ensures ∙ c.if-not-is_number.false) c.if-word-most.false c.requires c.in-Ok.ensures.cases.0 c.parse.ensures.value.0)

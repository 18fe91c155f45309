use Rattle.std.proofs.Common.{sym, ap, option_map, ◌∙◌}
use Rattle.ped_script.specs.declared.items.Command.TheVariants.{Run}
use Rattle.ped_script.specs.Words.{words_of, number_of}
use Rattle.ped_script.proofs.Choices.{at_first, at_some, at_other, at_last}
use Rattle.ped_script.proofs.Table.{run_row}
use Rattle.ped_script.proofs.rows.run.Goals as goal

pub loop-word-init : goal.loop-word-init
loop-word-init c = at_first (number_of 18) c.new-choices.result (words_of c.args.line.now) c.new-choices.ensures

pub loop-word-preserved : goal.loop-word-preserved
loop-word-preserved c =
    at_some (number_of 18) c.loop-word.choices c.push.new.self c.in-Some-choice.number c.in-Some.word.now (words_of c.loop-word.left.now) (words_of c.in-Some.rest.now) c.in-Some.ensures.word (sym c.choice.ensures ∙ c.in-Some-choice.is) c.in_ok-push.ensures.ok
    ∙ c.loop-word.invariant

pub returns-in_default-choice : goal.returns-in_default-choice
returns-in_default-choice c =
    ap (option_map (λ cs. Run cs)) (sym (at_other (number_of 18) c.loop-word.choices c.in-Some.word.now (words_of c.loop-word.left.now) (words_of c.in-Some.rest.now) c.in-Some.ensures.word (sym c.choice.ensures ∙ c.in_default-choice.is)) ∙ c.loop-word.invariant)
    ∙ sym (run_row (words_of c.args.line.now))

pub returns : goal.returns
returns c =
    ap (option_map (λ cs. Run cs)) (sym (at_last (number_of 18) c.loop-word.choices (words_of c.loop-word.left.now) c.in_default.ensures.word) ∙ c.loop-word.invariant)
    ∙ sym (run_row (words_of c.args.line.now))

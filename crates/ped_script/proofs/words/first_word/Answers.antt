use Rattle.std.proofs.Common.{sym, ◌∙◌}
use Rattle.ped_script.proofs.Split.{blank_line, word_is, last_word_is, rest_shorter}
use Rattle.ped_script.proofs.words.first_word.Goals as goal

pub returns-in_default-clause-word : goal.returns-in_default-clause-word
returns-in_default-clause-word c = blank_line c.args.line.now (sym c.first_character.ensures ∙ c.in_default.is)

pub returns-in-Some-first_blank-clause-word : goal.returns-in-Some-first_blank-clause-word
returns-in-Some-first_blank-clause-word c =
    let cut = c.split_at-in-Some-first_blank in
    word_is c.args.line.now c.split_at.result.1.now cut.result.0.now cut.result.1.now c.in-Some.start c.in-Some-first_blank.end (sym c.first_character.ensures ∙ c.in-Some.is) c.split_at.ensures.back (sym c.first_blank.ensures ∙ c.in-Some-first_blank.is) cut.ensures.front cut.ensures.back

pub returns-in-Some-first_blank-clause-shorter : goal.returns-in-Some-first_blank-clause-shorter
returns-in-Some-first_blank-clause-shorter c =
    let cut = c.split_at-in-Some-first_blank in
    rest_shorter c.args.line.now c.split_at.result.1.now cut.result.1.now c.in-Some.start c.in-Some-first_blank.end (sym c.first_character.ensures ∙ c.in-Some.is) c.split_at.ensures.back (sym c.first_blank.ensures ∙ c.in-Some-first_blank.is) cut.ensures.back

pub returns-in-None-clause-word : goal.returns-in-None-clause-word
returns-in-None-clause-word c =
    let cut = c.split_at-in-None in
    last_word_is c.args.line.now c.split_at.result.1.now cut.result.0.now cut.result.1.now c.in-Some.start (sym c.first_character.ensures ∙ c.in-Some.is) c.split_at.ensures.back (sym c.first_blank.ensures ∙ c.in-None.is) cut.ensures.front cut.ensures.back

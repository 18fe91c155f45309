use Rattle.std.proofs.Common.{sym, ◌∙◌}
use Rattle.ped_script.specs.Words.{words_of, name_of}
use Rattle.ped_script.proofs.Choices.{at_first, at_some, at_other, at_last}
use Rattle.ped_script.proofs.rows.names.Goals as goal

pub loop-word-init : goal.loop-word-init
loop-word-init c = at_first name_of c.new-names.result (words_of c.args.line.now) c.new-names.ensures

pub loop-word-preserved : goal.loop-word-preserved
loop-word-preserved c =
    at_some name_of c.loop-word.names c.push.new.self c.in-Some-name.name c.in-Some.word.now (words_of c.loop-word.left.now) (words_of c.in-Some.rest.now) c.in-Some.ensures.word (sym c.name.ensures ∙ c.in-Some-name.is) c.in_ok-push.ensures.ok
    ∙ c.loop-word.invariant

pub returns-in_default-name : goal.returns-in_default-name
returns-in_default-name c =
    sym (at_other name_of c.loop-word.names c.in-Some.word.now (words_of c.loop-word.left.now) (words_of c.in-Some.rest.now) c.in-Some.ensures.word (sym c.name.ensures ∙ c.in_default-name.is)) ∙ c.loop-word.invariant

pub returns : goal.returns
returns c =
    sym (at_last name_of c.loop-word.names (words_of c.loop-word.left.now) c.in_default.ensures.word) ∙ c.loop-word.invariant

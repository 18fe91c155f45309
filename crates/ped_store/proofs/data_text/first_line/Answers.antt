use Rattle.std.proofs.Common.{sym, ◌∙◌, arith}
use Rattle.std.proofs.lemmas.Bool.{eqb-false}
use Rattle.ped_store.proofs.DataTexts.{first_line_is, last_line_is}
use Rattle.ped_store.proofs.data_text.first_line.Goals as goal

pub returns-in-Some-clause-line : goal.returns-in-Some-clause-line
returns-in-Some-clause-line c =
    first_line_is c.args.text.now c.in-Some.end c.len_without_carriage_return.result (sym c.line_feed.ensures ∙ c.in-Some.is) c.len_without_carriage_return.ensures.rest c.len_without_carriage_return.ensures.within

pub returns-in-None-clause-line : goal.returns-in-None-clause-line
returns-in-None-clause-line c =
    last_line_is c.args.text.now (sym c.line_feed.ensures ∙ c.in-None.is) (omega (arith, eqb-false _ _ (sym c.is_empty.ensures ∙ c.if-is_empty.false)))

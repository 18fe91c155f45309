use Rattle.std.proofs.Common.{sym, ◌∙◌, arith}
use Rattle.std.proofs.lemmas.Bool.{eqb-false}
use Rattle.ped_base.proofs.FirstLines.{first_line_is, only_line_is}
use Rattle.ped_lines.proofs.text_lines.first_line.Goals as goal

pub returns-in-Some-clause-line : goal.returns-in-Some-clause-line
returns-in-Some-clause-line c =
    first_line_is c.args.text.now c.without_carriage_return.result.now c.in-Some.end (sym c.line_feed.ensures ∙ c.in-Some.is) c.without_carriage_return.ensures

pub returns-in-None-clause-line : goal.returns-in-None-clause-line
returns-in-None-clause-line c =
    only_line_is c.args.text.now c.split_at.result.0.now c.split_at.result.1.now (sym c.line_feed.ensures ∙ c.in-None.is) (omega (arith, eqb-false _ _ (sym c.is_empty.ensures ∙ c.if-is_empty.false))) c.split_at.ensures.front c.split_at.ensures.back

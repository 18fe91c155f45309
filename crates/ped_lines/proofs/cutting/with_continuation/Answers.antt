use Rattle.std.proofs.Common.{[], refl}
use Rattle.ped_lines.specs.Quoting.{front_of}
use Rattle.ped_lines.proofs.Constants.{front_quoting}
use Rattle.ped_lines.proofs.OneLine.{first_text, orphan_line, continuation_line}
use Rattle.ped_lines.proofs.cutting.with_continuation.Goals as goal

pub returns-in_ok-orphan-in-None : goal.returns-in_ok-orphan-in-None
returns-in_ok-orphan-in-None c =
    let text = first_text c.in_ok-new-in-None.field-0 c.in_ok-orphan-in-None.orphan c.statement_columns.result c.args.line.now c.in_ok-new-in-None.ensures.text c.in_ok-new-in-None.ensures.quoting c.statement_columns.ensures c.in_ok-orphan-in-None.ensures in
    orphan_line c.args.cutting _ c.args.number c.args.line.now c.requires.comment c.requires.continues (record {
      was_none = c.in-None.is;
      is_none = refl;
      done = refl;
      found = c.at_line.ensures [] text.bad;
      no_comments = c.new-in-None.ensures.items;
      no_directives = c.new-in-None-2.ensures.items;
    })

pub returns-in_ok-continued-in-Some : goal.returns-in_ok-continued-in-Some
returns-in_ok-continued-in-Some c =
    let front = front_of c.in-Some.begun.text.quoting in
    continuation_line c.args.cutting _ c.in-Some.begun c.in_ok-continued-in-Some.continued c.args.number c.args.line.now c.requires.comment c.requires.continues (record {
      was = c.in-Some.is;
      is = refl;
      done = refl;
      found = c.at_line-in-Some.ensures front (c.in_ok-continued-in-Some.ensures.text.bad front (front_quoting c.in-Some.begun.text.quoting));
      line_is = c.in_ok-continued-in-Some.ensures.same.0;
      label = c.in_ok-continued-in-Some.ensures.same.1;
      left = c.in_ok-continued-in-Some.ensures.same.2;
      text = c.in_ok-continued-in-Some.ensures.text;
      comments = c.in_ok-continued-in-Some.ensures.comments;
      directives = c.in_ok-continued-in-Some.ensures.directives;
      no_comments = c.new-in-Some.ensures.items;
      no_directives = c.new-in-Some-2.ensures.items;
    })

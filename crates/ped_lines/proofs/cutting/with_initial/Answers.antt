use Rattle.std.proofs.Common.{[], refl, ap, ◌∙◌}
use Rattle.ped_tree.specs.Grammar.Refusal.{earliest}
use Rattle.ped_tree.specs.Grammar.LimitNumbers.{most_continuations}
use Rattle.ped_tree.specs.Grammar.LineRefusals.{Initial, at_line}
use Rattle.ped_lines.specs.declared.cutting.OpenStatement.{OpenStatement}
use Rattle.ped_lines.proofs.OneLine.{first_text, initial_line}
use Rattle.ped_lines.proofs.cutting.with_initial.Goals as goal

pub returns : goal.returns
returns c =
    let line = c.args.line.now in
    let text = first_text c.in_ok-new.field-0 c.in_ok-with_columns.field-0 c.statement_columns.result line c.in_ok-new.ensures.text c.in_ok-new.ensures.quoting c.statement_columns.ensures c.in_ok-with_columns.ensures in
    let begun : OpenStatement = record {
      line = c.args.number;
      label = c.label_of.result;
      left = most_continuations;
      text = c.in_ok-with_columns.field-0;
      comments = c.args.cutting.comments;
      directives = c.args.cutting.directives;
    } in
    initial_line c.args.cutting _ begun c.args.number line c.requires.comment c.requires.continues (record {
      is = refl;
      done = c.in_ok-completed.ensures;
      found = c.at_line.ensures [] text.bad ∙ ap (λ f. earliest f (at_line c.args.number Initial [] line)) c.at_end-found.ensures;
      line_is = refl;
      label = c.label_of.ensures;
      left = refl;
      text = text.text;
      quoting = text.quoting;
      comments = refl;
      directives = refl;
      no_comments = c.new-2.ensures.items;
      no_directives = c.new-3.ensures.items;
    })

use Rattle.std.proofs.Common.{◌++◌, map, codes, length, arith}
use Rattle.ped_tree.specs.Printing.{Line, plain_line, piece, piece_count, continuation_lines}
use Rattle.ped_print.specs.PrintedLines.{line_of}
use Rattle.ped_print.proofs.Pieces.{rounded_up, one_more}
use Rattle.ped_print.proofs.lines.push_continuations.Goals as goal

pub loop-number-preserved : goal.loop-number-preserved
loop-number-preserved c =
    let count = rounded_up (length c.args.text.now) in
    record {
      lines = one_more {X = Line} (λ k. plain_line (codes "     &" ++ piece c.args.text.now k)) c.loop-number.number (piece_count c.args.text.now) (map line_of c.loop-number.lines.items) (map line_of c.push_plain.new.lines.items) (map line_of c.args.lines.now.items ++ continuation_lines c.args.text.now) (omega (arith, count, c.div_ceil-number-end.ensures)) (cc (c.in_ok-push_plain.ensures.lines, c.in_ok-joined.ensures, c.piece.ensures)) c.loop-number.invariant.lines;
      longer = omega (arith, c.in_ok-push_plain.ensures.longer);
    }

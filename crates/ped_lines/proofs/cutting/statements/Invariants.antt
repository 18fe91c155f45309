use Rattle.std.proofs.Common.{◌≡◌, ◌+◌, ◌≤◌, length}
use Rattle.std.specs.Str.Lines.{lines}
use Rattle.ped_tree.specs.Grammar.Refusal.{earliest}
use Rattle.ped_tree.specs.Grammar.Grouping.{statements_of}
use Rattle.ped_tree.specs.Grammar.LineRefusals.{first_line_refusal}
use Rattle.ped_tree.specs.Grammar.RefusalViews.{found_of}
use Rattle.ped_lines.specs.Cutting.{refusals_left, cut_with}
use Rattle.ped_lines.proofs.cutting.statements.Given as goal

abbrev pub invariant-loop-line : goal.invariant-loop-line
invariant-loop-line l = record {
  first : earliest (found_of l.cutting.found) (refusals_left l.cutting.current (l.number + 1) (lines l.rest)) ≡ first_line_refusal l.text;
  cut : cut_with l.cutting (l.number + 1) (lines l.rest) (l.number + length (lines l.rest)) ≡ statements_of l.text;
  small : l.number + length l.rest ≤ length l.text;
}

abbrev pub decreases-loop-line : goal.decreases-loop-line
decreases-loop-line l = length l.rest

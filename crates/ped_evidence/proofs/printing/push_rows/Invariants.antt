use Rattle.std.proofs.Common.{◌≡◌, ◌+◌, ◌++◌, drop}
use Rattle.ped_evidence.specs.SystemTexts.{rows_text}
use Rattle.ped_evidence.proofs.printing.push_rows.Given as goal

abbrev pub invariant-loop-row : goal.invariant-loop-row
invariant-loop-row l = record {
  number : l.before ≡ l.row-index;
  text : l.text ++ rows_text l.names (l.row-index + 1) (drop l.row-index l.rows) ≡ l.fn.text ++ rows_text l.names 1 l.rows;
}

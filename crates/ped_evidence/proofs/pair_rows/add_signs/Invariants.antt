use Rattle.std.proofs.Common.{◌≡◌, ◌++◌, drop}
use Rattle.ped_evidence.specs.Kept.{columns_of, levels_kept, AreRows}
use Rattle.ped_evidence.specs.Systems.{sign_rows}
use Rattle.ped_evidence.proofs.pair_rows.add_signs.Given as goal

abbrev pub invariant-loop-i : goal.invariant-loop-i
invariant-loop-i l = record {
  rows : l.rows ++ sign_rows (columns_of l.columns) (levels_kept (drop l.i l.common)) (drop l.i l.pattern) ≡ l.fn.rows ++ sign_rows (columns_of l.columns) (levels_kept l.common) l.pattern;
  fits : AreRows l.columns l.rows;
}

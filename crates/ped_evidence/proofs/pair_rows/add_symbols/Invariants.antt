use Rattle.std.proofs.Common.{◌≡◌, ◌++◌, drop}
use Rattle.ped_evidence.specs.Kept.{layout_kept, AreRows}
use Rattle.ped_evidence.specs.Systems.{symbol_rows}
use Rattle.ped_evidence.proofs.pair_rows.add_symbols.Given as goal

abbrev pub invariant-loop-k : goal.invariant-loop-k
invariant-loop-k l = record {
  rows : l.rows ++ symbol_rows (layout_kept l.layout) l.k (drop l.k l.layout.symbols.now) ≡ l.fn.rows ++ symbol_rows (layout_kept l.layout) 0 l.layout.symbols.now;
  fits : AreRows l.layout.columns l.rows;
}

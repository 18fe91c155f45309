use Rattle.std.proofs.Common.{◌≡◌, ◌≤◌, ◌+◌, ◌++◌, length, filter, drop, All}
use Rattle.ped_evidence.specs.Kept.{layout_kept, levels_kept, AreRows, IsInside}
use Rattle.ped_evidence.specs.Layouts.{has_shared}
use Rattle.ped_evidence.specs.Systems.{shared_rows}
use Rattle.ped_evidence.proofs.pair_rows.add_shared.Given as goal

abbrev pub invariant-loop-level : goal.invariant-loop-level
invariant-loop-level l = record {
  rows : l.rows ++ shared_rows (layout_kept l.layout) l.quotient (levels_kept (drop l.level-index l.common)) ≡ l.fn.rows ++ shared_rows (layout_kept l.layout) l.first (levels_kept l.common);
  fits : AreRows l.layout.columns l.rows;
  source : All (IsInside l.layout.columns 0) (drop l.level-index l.common);
  sink : All (IsInside l.layout.columns l.layout.columns.source) (drop l.level-index l.common);
  quotients : l.quotient + length (filter (has_shared (layout_kept l.layout).setting l.layout.symbols.now) (levels_kept (drop l.level-index l.common))) ≤ l.layout.columns.quotients;
}

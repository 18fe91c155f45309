use Rattle.std.proofs.Common.{◌≡◌, ◌≤◌, ◌+◌, ◌++◌, length, filter, drop, All}
use Rattle.ped_evidence.specs.Kept.{layout_kept, levels_kept, AreRows, IsInside}
use Rattle.ped_evidence.specs.Layouts.{has_own}
use Rattle.ped_evidence.specs.Systems.{side_rows}
use Rattle.ped_evidence.proofs.side_rows.add_side.Given as goal

abbrev pub invariant-loop-level : goal.invariant-loop-level
invariant-loop-level l = record {
  rows : l.rows ++ side_rows (layout_kept l.layout) l.before l.quotient (levels_kept (drop l.level-index l.levels)) ≡ l.fn.rows ++ side_rows (layout_kept l.layout) l.before l.first (levels_kept l.levels);
  fits : AreRows l.layout.columns l.rows;
  inside : All (IsInside l.layout.columns l.before) (drop l.level-index l.levels);
  quotients : l.quotient + length (filter (has_own (layout_kept l.layout).setting l.layout.symbols.now) (levels_kept (drop l.level-index l.levels))) ≤ l.layout.columns.quotients;
}

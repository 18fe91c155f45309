-- Rows of bits that give for each of many scalars what a summary gives for one. Only contracts of private functions use these definitions.
use Rattle.std.specs.Prelude.{◌≡◌, ℕ, not, is_some}
use Rattle.ped_flow.specs.RowPlaces.{bit}
use Rattle.ped_flow.specs.declared.summaries.Summary.{Summary}
use Rattle.ped_flow.specs.declared.row_summaries.RowSummary.{RowSummary}

-- at a place the rows say what this summary does, but for which statement reads first
pub record Holds (r : RowSummary) (i : ℕ) (m : Summary) : Type 0 where
  pub reads : bit r.reads i ≡ is_some m.first
  pub overwritten : bit r.overwritten i ≡ not m.keeps
  pub ends : bit r.ends i ≡ m.ends
  pub blocked : bit r.blocked i ≡ not m.passes
  pub loses : bit r.loses i ≡ m.loses

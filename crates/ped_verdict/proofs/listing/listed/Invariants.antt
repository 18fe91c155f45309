use Rattle.std.proofs.Common.{◌≡◌, ◌≤◌, length}
use Rattle.ped_views.specs.Vectors.{IsPossible, all_vectors}
use Rattle.ped_verdict.specs.Marked.{place_of}
use Rattle.ped_verdict.proofs.Chosen.{AreAhead}
use Rattle.ped_verdict.proofs.listing.listed.Given as goal

-- the vectors found so far, and those ahead, are all; the last that was looked up is at its place
abbrev pub invariant-loop-place : goal.invariant-loop-place
invariant-loop-place l = record {
  found : AreAhead (IsPossible l.view) (all_vectors (length l.view.loops)) l.place l.vectors.items;
  long : length l.vector ≡ length l.view.loops;
  is : place_of l.vector ≡ l.at;
  order : l.at ≤ l.place;
}

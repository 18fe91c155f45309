use Rattle.std.proofs.Common.{◌≡◌, ◌≢◌, ◌-◌, ◌≤◌, ℕ, List, Some, length, take}
use Rattle.ped_io.specs.Outside.{Contents, content, AddsOnly, IsHeld}
use Rattle.ped_io.proofs.loading.load.Given as goal

abbrev pub invariant-loop-loaded : goal.invariant-loop-loaded
invariant-loop-loaded g l = record {
  at : l.at ≡ length l.loaded;
  within : l.at ≤ l.limit;
  room : length l.piece ≡ 4096;
  read : (files : Contents) → g.F.Shelf.may_hold l.shelf files →
      (bytes : List ℕ) → content files l.name ≡ Some bytes → l.loaded ≡ take l.at bytes;
  inside : (files : Contents) → g.F.Shelf.may_hold l.shelf files →
      (bytes : List ℕ) → content files l.name ≡ Some bytes → l.at ≤ length bytes;
  less : (files : Contents) → g.F.Shelf.may_hold l.shelf files → g.F.Shelf.may_hold l.initial.shelf files;
  counts : (m : List ℕ) → g.F.Shelf.count l.initial.shelf m ≤ g.F.Shelf.count l.shelf m;
  others : (files : Contents) → g.F.Shelf.told l.initial.shelf ≡ Some files →
      (m : List ℕ) → m ≢ l.name → IsHeld files m →
      g.F.Shelf.count l.shelf m ≡ g.F.Shelf.count l.initial.shelf m;
  same : g.F.Shelf.told l.shelf ≡ g.F.Shelf.told l.initial.shelf;
  names : AddsOnly (λ m. m ≡ l.name) (g.F.Shelf.read_names l.initial.shelf) (g.F.Shelf.read_names l.shelf);
}

abbrev pub decreases-loop-loaded : goal.decreases-loop-loaded
decreases-loop-loaded g l = l.limit - l.at

use Rattle.std.proofs.Common.{◌-◌, ◌≡◌, ◌<◌, ◌≤◌, ℕ, Some, map, length, slice_get}
use Rattle.ped_refs.specs.TextPlaces.{Key, IsKeyBefore}
use Rattle.ped_graph.specs.CodeFacts.{framed_of}
use Rattle.ped_graph.specs.Keys.{key_of, key_shown}
use Rattle.ped_graph.proofs.frames.count_before.Given as goal

-- the pairs below come before the key, and none of those above does
abbrev pub invariant-loop-low : goal.invariant-loop-low
invariant-loop-low l = record {
  ordered : l.low ≤ l.high;
  within : l.high ≤ length l.pairs;
  before : (n : ℕ) (k : Key) → slice_get (map (λ f. key_of (framed_of f)) l.pairs) n ≡ Some k → n < l.low → IsKeyBefore k (key_shown l.key);
  behind : (n : ℕ) (k : Key) → slice_get (map (λ f. key_of (framed_of f)) l.pairs) n ≡ Some k → l.high ≤ n → IsKeyBefore k (key_shown l.key) → ⊥;
}

abbrev pub decreases-loop-low : goal.decreases-loop-low
decreases-loop-low l = l.high - l.low

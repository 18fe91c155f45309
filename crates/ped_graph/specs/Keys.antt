-- The keys of the pairs that a graph holds: where their references are (this project).
use Rattle.std.specs.Prelude.{◌≡◌, ℕ, List, Some, slice_get, AllPairs}
use Rattle.ped_refs.specs.TextPlaces.{Key, IsKeyBefore}
use Rattle.ped_graph.specs.Held.{Framed}
use Rattle.ped_graph.specs.declared.frames.PairKey.{PairKey}

-- the places of the source and of the sink of a pair
abbrev pub key_of : Framed → Key
key_of f = (f.source, f.sink)

-- the key that the code has
abbrev pub key_shown : PairKey → Key
key_shown k = (k.source, k.sink)

-- pairs in the order of their sources and then of their sinks, no two with both at the same places
abbrev pub AreInOrder : List Framed → Type 0
AreInOrder pairs = AllPairs (λ p q. IsKeyBefore (key_of p) (key_of q)) pairs

-- a key is at this place and at no other
pub record IsOnlyAt (keys : List Key) (k : Key) (n : ℕ) : Type 0 where
  pub found : slice_get keys n ≡ Some k
  pub only : (m : ℕ) → slice_get keys m ≡ Some k → m ≡ n

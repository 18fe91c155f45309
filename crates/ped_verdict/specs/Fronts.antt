-- The common loops that occur in a position, and about which fronts it is asked. Only contracts of private functions use it.
use Rattle.std.specs.Prelude.{ℕ, zero, suc, pos, drop, Bool, true, not, ◌&&◌, slice_index_or}
use Rattle.std.specs.List.{list_all}
use Rattle.ped_views.specs.Whole.{is_zero}
use Rattle.ped_views.specs.Views.{SubscriptPair}

-- no common loop after the first m occurs in the position
abbrev pub is_done : ℕ → SubscriptPair → Bool
is_done m p = list_all is_zero (drop m p.source.common) && list_all is_zero (drop m p.sink.common)

-- the common loop at place k occurs in the position
abbrev pub occurs_at : SubscriptPair → ℕ → Bool
occurs_at p k = not (is_zero (slice_index_or p.source.common k (pos 0)) && is_zero (slice_index_or p.sink.common k (pos 0)))

-- the position is asked about fronts of n loops: the last of them occurs in it, or there are none
abbrev pub is_asked : SubscriptPair → ℕ → Bool
is_asked p zero = true
is_asked p (suc k) = occurs_at p k

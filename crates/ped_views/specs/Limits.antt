-- How large the numbers of a view may be, and that its parts fit together (this project).
use Rattle.std.specs.Prelude.{◌≡◌, ℕ, ◌+◌, ◌≤◌, ◌^◌, ℤ, pos, length, All, unsigned_abs}
use Rattle.ped_views.specs.Views.{Row, SubscriptPair, View}

-- an end of a range or a constant of a subscript: within 2^62 of zero
abbrev pub IsSmallConstant : ℤ → Type 0
IsSmallConstant x = unsigned_abs x ≤ 2 ^ 62

-- a coefficient of a subscript: within 2^31 of zero
abbrev pub IsSmallCoefficient : ℤ → Type 0
IsSmallCoefficient x = unsigned_abs x ≤ 2 ^ 31

-- the ends of a range and its step, which isn't 0 (ANSI X3.9-1978, section 11.10.3; this project)
pub record IsRange (lo hi step : ℤ) : Type 0 where
  pub lo_small : IsSmallConstant lo
  pub hi_small : IsSmallConstant hi
  pub step_small : unsigned_abs step ≤ 2147483647
  pub step_some : ¬ (step ≡ pos 0)

-- the numbers of a subscript
pub record IsRow (row : Row) : Type 0 where
  pub common : All IsSmallCoefficient row.common
  pub inner : All IsSmallCoefficient row.inner
  pub constant : IsSmallConstant row.constant

-- both sides speak of the same common loops (Allen and Kennedy, section 3.1)
abbrev pub IsPosition : SubscriptPair → Type 0
IsPosition p = length p.source.common ≡ length p.sink.common

-- each subscript has one coefficient for each loop around its side (Allen and Kennedy, section 3.1)
pub record FitsLoops (common at_source at_sink : ℕ) (p : SubscriptPair) : Type 0 where
  pub source_common : length p.source.common ≡ common
  pub sink_common : length p.sink.common ≡ common
  pub source_inner : length p.source.inner ≡ at_source
  pub sink_inner : length p.sink.inner ≡ at_sink

-- at most six loops enclose each side, and the positions fit them
pub record IsView (v : View) : Type 0 where
  pub source_depth : length v.loops + length v.source_inner ≤ 6
  pub sink_depth : length v.loops + length v.sink_inner ≤ 6
  pub positions : All (FitsLoops (length v.loops) (length v.source_inner) (length v.sink_inner)) v.positions

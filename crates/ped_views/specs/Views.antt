-- The view of an ordered pair of references: what the dependence tests look at, without names (Allen and Kennedy, section 3.1).
use Rattle.std.specs.Prelude.{ℤ, List, Bool}

-- the index values of a loop: the least, the greatest, the step, and whether all its entries begin at one value (ANSI X3.9-1978, section 11.10.3)
pub record Range : Type 0 where
  pub lo : ℤ
  pub hi : ℤ
  pub step : ℤ
  pub steady : Bool

-- the range of these numbers (ANSI X3.9-1978, section 11.10.3)
abbrev pub range : ℤ → ℤ → ℤ → Bool → Range
range lo hi step steady = record { lo = lo; hi = hi; step = step; steady = steady }

-- one subscript as an affine form: its coefficients of the common loops and of the further loops of its side, and its constant
pub record Row : Type 0 where
  pub common : List ℤ
  pub inner : List ℤ
  pub constant : ℤ

-- the two subscripts at one position, of the source and of the sink, and whether both are affine
pub record SubscriptPair : Type 0 where
  pub usable : Bool
  pub source : Row
  pub sink : Row

-- a pair of references: the ranges of its common loops, the outermost first, of the further loops of each side, and its positions (Allen and Kennedy, section 3.2)
pub record View : Type 0 where
  pub loops : List Range
  pub source_inner : List Range
  pub sink_inner : List Range
  pub positions : List SubscriptPair

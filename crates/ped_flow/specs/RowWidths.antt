-- How wide rows are. Only contracts of private functions use this definition.
use Rattle.std.specs.Prelude.{◌≡◌, ℕ, List, length, Bool}

-- each of five rows has this many places
pub record AreWide (width : ℕ) (a b c d e : List Bool) : Type 0 where
  pub reads : length a ≡ width
  pub overwritten : length b ≡ width
  pub ends : length c ≡ width
  pub blocked : length d ≡ width
  pub loses : length e ≡ width

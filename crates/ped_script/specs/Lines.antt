-- The lines of a text that are left (plain words).
use Rattle.std.specs.Prelude.{ℕ, List}
use Rattle.ped_script.specs.Words.{Text}

-- how many lines have been taken, and those that are left
pub record Left : Type 0 where
  pub read : ℕ
  pub lines : List Text

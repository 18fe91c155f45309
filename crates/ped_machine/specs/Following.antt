-- A run whose copies are forgotten follows the run itself (this project).
use Rattle.std.specs.Prelude.{ℕ, List}
use Rattle.ped_store.specs.Stores.{Store}
use Rattle.ped_interleavings.specs.ped_eval.specs.Scopes.{Setting}
use Rattle.ped_interleavings.specs.Interleavings.{Standing, IsReached}
use Rattle.ped_machine.specs.Machines.{Held}
use Rattle.ped_machine.specs.Naming.{AgreeOn, IsApart}

-- the run has come to what is left here, with these choices left, and with a store that agrees on all that can be named
pub record Follows (p : Setting) (first : Standing) (h : Held) (choices : List ℕ) : Type 0 where
  pub apart : IsApart h.left
  pub store : Store
  pub reached : IsReached p first (record { left = h.left; choices = choices; store = store })
  pub agrees : AgreeOn h.left h.store store

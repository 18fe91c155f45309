-- Dependences as the editor shows them (Allen and Kennedy, section 2.2; ParaScope).
use Rattle.std.specs.Prelude.{ℕ, ℤ, List, Bool, true, false, Option}
use Rattle.ped_views.specs.declared.directions.Direction.{Direction}

-- a write and then a read, a read and then a write, two writes (Allen and Kennedy, section 2.2.1)
pub data Kind : Type 0 where
  flow : Kind
  anti : Kind
  output : Kind

-- the tests leave no doubt, the tests don't decide, the user has said that it isn't there (ParaScope)
pub data Mark : Type 0 where
  proven : Mark
  pending : Mark
  rejected : Mark

-- the user has said that it isn't there (ParaScope)
abbrev pub is_rejected : Mark → Bool
is_rejected proven = false
is_rejected pending = false
is_rejected rejected = true

-- a dependence: its source and sink by statement and reference, the variable, the level of the loop that carries it, None where it is independent of loops (Allen and Kennedy, section 2.2; ParaScope)
pub record Edge : Type 0 where
  pub source : ℕ × ℕ
  pub sink : ℕ × ℕ
  pub name : List ℕ
  pub kind : Kind
  pub level : Option ℕ
  pub vectors : List (List Direction)
  pub distances : List (Option ℤ)
  pub mark : Mark

-- What the acts of a run touch: by references of the program, and by stores that a DO makes of itself (this project).
use Rattle.std.specs.Prelude.{◌≡◌, ◌<◌, ℕ, List, [], ◌∷◌, Bool, true, ◌==◌, ◌&&◌}
use Rattle.ped_flow.specs.ped_base.specs.Lists.{is_among}
use Rattle.ped_eval.specs.ped_store.specs.Cells.{Cell}
use Rattle.ped_eval.specs.ped_store.specs.Acts.{Touch, Act}
use Rattle.ped_eval.specs.ped_store.specs.Races.{is_write, Access, accesses_of, conflict}
use Rattle.ped_laws.specs.Acts.Orders.{IsIn}
use Rattle.ped_eval.specs.Scopes.{Scope}

-- a write that no reference makes: what a DO stores of itself when it is left, into its variable and into those of the DO loops in it (ANSI X3.9-1978, section 11.10.7; this project)
abbrev pub is_own_store : Touch → Bool
is_own_store t = is_write t.manner && (t.reference == 0)

-- the own stores of an act lie in the set (plain words)
abbrev pub StoresWithin : (Cell → Bool) → Act → Type 0
StoresWithin d a = (t : Touch) → IsIn t a.touches → is_own_store t ≡ true → d t.cell ≡ true

-- each iteration of a PARALLEL DO around the place has a copy of the name (ParaScope; this project)
abbrev pub HasCopies : Scope → List ℕ → Type 0
HasCopies [] x = Unit {0}
HasCopies (f ∷ fs) x = (f.turn.parallel ≡ true → is_among x f.private ≡ true) × HasCopies fs x

-- each of these names has such copies, as the variables of all DO loops in a PARALLEL DO have (ParaScope; this project)
abbrev pub HaveCopies : Scope → List (List ℕ) → Type 0
HaveCopies scope names = (x : List ℕ) → is_among x names ≡ true → HasCopies scope x

-- accesses of two acts that conflict, each made by a reference of the program (Allen and Kennedy, section 2.2.1; this project)
pub record Meeting (a b : Act) : Type 0 where
  pub first : Access
  pub second : Access
  pub of_first : IsIn first (accesses_of a)
  pub of_second : IsIn second (accesses_of b)
  pub conflicts : conflict first second ≡ true
  pub first_reference : 0 < first.reference
  pub second_reference : 0 < second.reference

-- Ways in which what is kept goes with the store of a run that equal writes leave as they are.
use Rattle.std.proofs.Common.{◌≡◌, inl, ℕ, List, refl}
use Rattle.ped_store.specs.Cells.{Cell, In}
use Rattle.ped_store.specs.Stores.{Content, Store, put}
use Rattle.ped_eval.specs.Scopes.{Setting, Scope, cell_of, names_in}
use Rattle.ped_eval.specs.Agreement.{before, IsSame, Agrees}
use Rattle.ped_eval.proofs.Agreements.{agrees_put, scalar_past}
use Rattle.ped_eval.proofs.Evaluations.{IsVariable, variable_past}

-- both hold the same where the place reaches, and equal writes into a variable or into the data keep the relation
pub record IsKeptByWrites (p : Setting) (scope : Scope) (R : Store → Store → Type 0) : Type 0 where
  pub same : (u s : Store) → R u s → IsSame scope u s
  pub variable : (c : Cell) (v : Content) (u s : Store) → IsVariable (names_in p scope) c → R u s → R (put c v u) (put c v s)
  pub input : (v : Content) (u s : Store) → R u s → R (put In v u) (put In v s)

-- equal writes into the scalars keep the relation
abbrev pub IsKeptByScalars : Scope → (Store → Store → Type 0) → Type 0
IsKeptByScalars scope R = (x : List ℕ) (v : Content) (u s : Store) → R u s → R (put (cell_of scope x) v u) (put (cell_of scope x) v s)

pub by_scalars : (p : Setting) (scope : Scope) (R : Store → Store → Type 0) → IsKeptByWrites p scope R → IsKeptByScalars scope R
by_scalars p scope R writes x v u s = writes.variable (cell_of scope x) v u s (inl (x, refl))

-- the agreement before a statement is such a relation
pub agrees_kept : (p : Setting) (scope : Scope) (n : ℕ) → IsKeptByWrites p scope (Agrees scope (before scope n))
agrees_kept p scope n = record {
  same = λ u s h. h.same;
  variable = λ c v u s is h. agrees_put scope (before scope n) c v u s (variable_past p scope n c is) h;
  input = λ v u s h. agrees_put scope (before scope n) In v u s refl h;
}

pub agrees_by_scalars : (scope : Scope) (n : ℕ) → IsKeptByScalars scope (Agrees scope (before scope n))
agrees_by_scalars scope n x v u s h = agrees_put scope (before scope n) (cell_of scope x) v u s (scalar_past scope x n) h

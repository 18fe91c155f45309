-- What the exit of a DO leaves of what is kept.
use Rattle.std.proofs.Common.{◌≡◌, ℕ, List, [], ◌∷◌, refl, sym, subst, ◌∙◌}
use Rattle.ped_store.specs.Stores.{Undefined, Store, put}
use Rattle.ped_store.specs.Memories.{Memory, with_content}
use Rattle.ped_store.specs.Acts.{store_behind}
use Rattle.ped_eval.specs.Scopes.{Scope, cell_of}
use Rattle.ped_eval.specs.Loops.{Entered, exit_touches, left_in_variable}
use Rattle.ped_eval.specs.Agreement.{before, Agrees}
use Rattle.ped_eval.specs.Turns.{undefined_in, undefined_cells, exited}
use Rattle.ped_eval.proofs.Endings.{exit_is}
use Rattle.ped_eval.proofs.KeptByWrites.{IsKeptByScalars, agrees_by_scalars}

pub undefined_stands : (scope : Scope) (xs : List (List ℕ)) (m : Memory) → (undefined_in scope xs m).stands ≡ m.stands
undefined_stands scope [] m = refl
undefined_stands scope (x ∷ xs) m = undefined_stands scope xs (with_content (cell_of scope x) Undefined m)

pub undefined_bounds : (scope : Scope) (xs : List (List ℕ)) (m : Memory) → (undefined_in scope xs m).bounds ≡ m.bounds
undefined_bounds scope [] m = refl
undefined_bounds scope (x ∷ xs) m = undefined_bounds scope xs (with_content (cell_of scope x) Undefined m)

module _ (scope : Scope) (R : Store → Store → Type 0) (writes : IsKeptByScalars scope R) where
  pub undefined_kept : (xs : List (List ℕ)) (m : Memory) (s : Store) → R m.cells s → R (undefined_in scope xs m).cells (undefined_cells scope xs s)
  undefined_kept [] m s h = h
  undefined_kept (x ∷ xs) m s h =
      undefined_kept xs (with_content (cell_of scope x) Undefined m) (put (cell_of scope x) Undefined s) (writes x Undefined m.cells s h)

  -- what is kept behind the exit of a DO goes with the store of the run there as it did before
  pub exit_kept : (e : Entered) (m : Memory) (s : Store) → R m.cells s → R (exited e scope m).cells (store_behind (exit_touches e scope) s)
  exit_kept e m s h =
      let v = with_content (cell_of scope e.head.variable) (left_in_variable e) m in
      let a = writes e.head.variable (left_in_variable e) m.cells s h in
      let b = undefined_kept e.head.private v (put (cell_of scope e.head.variable) (left_in_variable e) s) a in
      subst (λ (u : Store). R (exited e scope m).cells u) (sym (exit_is e scope s))
      (undefined_kept e.inner (undefined_in scope e.head.private v) (undefined_cells scope e.head.private (put (cell_of scope e.head.variable) (left_in_variable e) s)) b)

module _ (e : Entered) (scope : Scope) (m : Memory) where
  -- what is kept behind the exit of a DO agrees with the store of the run there
  pub exit_agrees : (n : ℕ) (s : Store) → Agrees scope (before scope n) m.cells s → Agrees scope (before scope n) (exited e scope m).cells (store_behind (exit_touches e scope) s)
  exit_agrees n s h = exit_kept scope (Agrees scope (before scope n)) (agrees_by_scalars scope n) e m s h

  pub exited_stands : (exited e scope m).stands ≡ m.stands
  exited_stands =
      let v = with_content (cell_of scope e.head.variable) (left_in_variable e) m in
      undefined_stands scope e.inner (undefined_in scope e.head.private v) ∙ undefined_stands scope e.head.private v

  pub exited_bounds : (exited e scope m).bounds ≡ m.bounds
  exited_bounds =
      let v = with_content (cell_of scope e.head.variable) (left_in_variable e) m in
      undefined_bounds scope e.inner (undefined_in scope e.head.private v) ∙ undefined_bounds scope e.head.private v

-- The iterations of a DO by their endings alone, and what they do to what the code keeps (ANSI X3.9-1978, section 11.10; this project).
use Rattle.std.specs.Prelude.{◌≡◌, ℕ, zero, suc, ◌+◌, List, [], ◌∷◌}
use Rattle.ped_tree.specs.Tree.{StmtTrees}
use Rattle.ped_store.specs.Stores.{Undefined, Store, put}
use Rattle.ped_store.specs.Memories.{Memory, with_content, with_copy, without_copy}
use Rattle.ped_store.specs.Acts.{store_behind}
use Rattle.ped_eval.specs.Scopes.{Frame, Scope, Setting, cell_of}
use Rattle.ped_eval.specs.ScopeViews.{outside}
use Rattle.ped_eval.specs.Loops.{Entered, frame, exit_touches, left_in_variable}
use Rattle.ped_eval.specs.Runs.{Ending, going, stopped, failed, Run, run_all}

-- an ending, and then, where it goes on, another from its store
abbrev pub after : Ending → (Store → Ending) → Ending
after (going s) next = next s
after (stopped s) next = stopped s
after (failed fault statement) next = failed fault statement

-- how n more iterations of a DO end, the first of them with number k, and its exit after them (ANSI X3.9-1978, sections 11.10.4 to 11.10.7)
abbrev pub turns_end : ℕ → ℕ → Entered → Scope → (Frame → Store → Run) → Store → Ending
turns_end zero k e scope body s = going (store_behind (exit_touches e scope) s)
turns_end (suc n) k e scope body s = after (body (frame e k) s).ending (turns_end n (k + 1) e scope body)

-- the run of the body of a DO with number n in each of its iterations
abbrev pub body_run : Setting → StmtTrees → ℕ → Scope → Frame → Store → Run
body_run p body n scope f = run_all p body (n + 1) (f ∷ scope)

-- the innermost iteration is one of this DO
abbrev pub IsInside : Entered → Scope → Type 0
IsInside e scope = (k : ℕ) × (scope ≡ frame e k ∷ outside scope)

-- with copies of these names
abbrev pub with_copies : Scope → List (List ℕ) → Memory → Memory
with_copies scope [] m = m
with_copies scope (x ∷ xs) m = with_copies scope xs (with_copy (cell_of scope x) m)

-- without copies of these names
abbrev pub without_copies : Scope → List (List ℕ) → Memory → Memory
without_copies scope [] m = m
without_copies scope (x ∷ xs) m = without_copies scope xs (without_copy (cell_of scope x) m)

-- these names are undefined
abbrev pub undefined_in : Scope → List (List ℕ) → Memory → Memory
undefined_in scope [] m = m
undefined_in scope (x ∷ xs) m = undefined_in scope xs (with_content (cell_of scope x) Undefined m)

-- the exit of a DO
abbrev pub exited : Entered → Scope → Memory → Memory
exited e scope m = undefined_in scope e.inner (undefined_in scope e.head.private (with_content (cell_of scope e.head.variable) (left_in_variable e) m))

-- a store in which these names are undefined
abbrev pub undefined_cells : Scope → List (List ℕ) → Store → Store
undefined_cells scope [] s = s
undefined_cells scope (x ∷ xs) s = undefined_cells scope xs (put (cell_of scope x) Undefined s)

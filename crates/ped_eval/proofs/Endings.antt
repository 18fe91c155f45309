-- How runs end, without their acts.
use Rattle.std.proofs.Common.{◌≡◌, ℕ, zero, suc, ◌+◌, List, [], ◌∷◌, ◌++◌, Bool, true, false, Some, None, Ok, Err, if◌then◌else◌, eqb, eqb-true, refl, sym, ap, ◌∙◌, arith}
use Rattle.ped_tree.specs.Tree.{ExprTree, ItemTree, CondTree, Head, StmtTrees}
use Rattle.ped_store.specs.Cells.{In}
use Rattle.ped_store.specs.Stores.{Undefined, Number, Lines, Store, put, with_line}
use Rattle.ped_store.specs.Acts.{Touch, Act, Place, store_behind, closed, ended_turn}
use Rattle.ped_eval.specs.Scopes.{Setting, Frame, Scope, Names, names_in, place_of, cell_of}
use Rattle.ped_eval.specs.Evaluation.{Seen, Evaluated, numbered, cell_seen, index_seen, number_behind}
use Rattle.ped_eval.specs.Values.{truth}
use Rattle.ped_eval.specs.Statements.{Stored, assigned, printed_line, write_touch, Taking}
use Rattle.ped_eval.specs.Loops.{Limits, limits, Entered, entered_with, frame, undefined_by, undefined_all, left_in_variable, exit_touches, exit_when_none}
use Rattle.ped_eval.specs.Runs.{Ending, going, stopped, failed, Run, followed_by, then_run, nothing_done, does, on, on_value, run_assignment, run_print, run_if, run_taking, turns, parallel_turns, run_entered, run_from_entry, run_do}
use Rattle.ped_eval.specs.Turns.{after, turns_end, undefined_cells}

pub ending_followed : (acts : List Act) (e : Ending) (next : Store → Run) → (followed_by acts e next).ending ≡ after e (λ s. (next s).ending)
ending_followed acts (going s) next = refl
ending_followed acts (stopped s) next = refl
ending_followed acts (failed fault statement) next = refl

pub ending_then : (r : Run) (next : Store → Run) → (then_run r next).ending ≡ after r.ending (λ s. (next s).ending)
ending_then r next = ending_followed r.acts r.ending next

after_after : (e : Ending) (f g : Store → Ending) → after (after e f) g ≡ after e (λ s. after (f s) g)
after_after (going s) f g = refl
after_after (stopped s) f g = refl
after_after (failed fault statement) f g = refl

pub on_ok : {A : Type 0} (at : Place) (e : Evaluated A) (next : List Seen → A → Run) (x : A) → e.result ≡ Ok x → (on at e next).ending ≡ (next e.seen x).ending
on_ok at e next x h = λ i. (on_value at e.seen (h i) next).ending

pub on_err : {A : Type 0} (at : Place) (e : Evaluated A) (next : List Seen → A → Run) (n : ℕ) → e.result ≡ Err n → (on at e next).ending ≡ failed n at.statement
on_err at e next n h = λ i. (on_value at e.seen (h i) next).ending

-- reads leave the store
pub reads_leave : (seen : List Seen) (n : ℕ) (ts : List Touch) (s : Store) → store_behind (numbered n seen ++ ts) s ≡ store_behind ts s
reads_leave [] n ts s = refl
reads_leave (cell_seen c content ∷ more) n ts s = reads_leave more (suc n) ts s
reads_leave (index_seen c value ∷ more) n ts s = reads_leave more n ts s

pub only_reads : (seen : List Seen) (n : ℕ) (s : Store) → store_behind (numbered n seen) s ≡ s
only_reads [] n s = refl
only_reads (cell_seen c content ∷ more) n s = only_reads more (suc n) s
only_reads (index_seen c value ∷ more) n s = only_reads more n s

pub assignment_goes : (g : Names) (at : Place) (left right : ExprTree) (s : Store) (w : Stored) → (assigned g left right s).result ≡ Ok w
    → (run_assignment g at left right s).ending ≡ going (put w.cell (Number w.number) s)
assignment_goes g at left right s w h =
    on_ok at (assigned g left right s) _ w h
    ∙ ap going (reads_leave (assigned g left right s).seen 1 (write_touch w.cell (Number w.number) (number_behind 1 (assigned g left right s).seen) ∷ []) s)

pub assignment_fails : (g : Names) (at : Place) (left right : ExprTree) (s : Store) (n : ℕ) → (assigned g left right s).result ≡ Err n
    → (run_assignment g at left right s).ending ≡ failed n at.statement
assignment_fails g at left right s n h = on_err at (assigned g left right s) _ n h

pub print_goes : (g : Names) (at : Place) (items : List ItemTree) (s : Store) (line : List ℕ) → (printed_line g items s).result ≡ Ok line
    → (run_print g at items s).ending ≡ going (with_line line s)
print_goes g at items s line h =
    on_ok at (printed_line g items s) _ line h
    ∙ ap going (reads_leave (printed_line g items s).seen 1 _ s)

pub print_fails : (g : Names) (at : Place) (items : List ItemTree) (s : Store) (n : ℕ) → (printed_line g items s).result ≡ Err n
    → (run_print g at items s).ending ≡ failed n at.statement
print_fails g at items s n h = on_err at (printed_line g items s) _ n h

pub if_goes : (g : Names) (at : Place) (condition : CondTree) (then_part else_part : Store → Run) (s : Store) (b : Bool) → (truth g condition s).result ≡ Ok b
    → (run_if g at condition then_part else_part s).ending ≡ ((if b then then_part else else_part) s).ending
if_goes g at condition then_part else_part s b h =
    on_ok at (truth g condition s) _ b h
    ∙ ap (λ (u : Store). ((if b then then_part else else_part) u).ending) (only_reads (truth g condition s).seen 1 s)

pub if_fails : (g : Names) (at : Place) (condition : CondTree) (then_part else_part : Store → Run) (s : Store) (n : ℕ) → (truth g condition s).result ≡ Err n
    → (run_if g at condition then_part else_part s).ending ≡ failed n at.statement
if_fails g at condition then_part else_part s n h = on_err at (truth g condition s) _ n h

suc_zero : (n : ℕ) → eqb (suc n) 0 ≡ false
suc_zero n = grind (arith, eqb-true)

-- no exit while an iteration is left
pub none_left : (n : ℕ) (e : Entered) (scope : Scope) → exit_when_none (suc n) e scope ≡ []
none_left n e scope = ap (λ (b : Bool). if b then exit_touches e scope else []) (suc_zero n)

module _ (e : Entered) (scope : Scope) (at : Place) (body : Frame → Store → Run) where
  turns_are : (n k : ℕ) (s : Store) → (turns n k e scope at body (store_behind (exit_when_none n e scope) s)).ending ≡ turns_end n k e scope body s
  turns_are zero k s = refl
  turns_are (suc n) k s =
      ap (λ (ts : List Touch). (turns (suc n) k e scope at body (store_behind ts s)).ending) (none_left n e scope)
      ∙ ending_then (body (frame e k) s) (does (ended_turn n) at (exit_when_none n e scope) (turns n (k + 1) e scope at body))
      ∙ (λ i. after (body (frame e k) s).ending (λ u. turns_are n (k + 1) u i))

  parallel_turns_are : (n k : ℕ) (s : Store) → (then_run (parallel_turns n k e body s) (does closed at (exit_touches e scope) nothing_done)).ending ≡ turns_end n k e scope body s
  parallel_turns_are zero k s = refl
  parallel_turns_are (suc n) k s =
      ending_then (then_run (body (frame e k) s) (parallel_turns n (k + 1) e body)) (does closed at (exit_touches e scope) nothing_done)
      ∙ ap (λ (x : Ending). after x (λ u. (does closed at (exit_touches e scope) nothing_done u).ending)) (ending_then (body (frame e k) s) (parallel_turns n (k + 1) e body))
      ∙ after_after (body (frame e k) s).ending (λ u. (parallel_turns n (k + 1) e body u).ending) (λ u. (does closed at (exit_touches e scope) nothing_done u).ending)
      ∙ (λ i. after (body (frame e k) s).ending (λ u. (sym (ending_then (parallel_turns n (k + 1) e body u) (does closed at (exit_touches e scope) nothing_done)) ∙ parallel_turns_are n (k + 1) u) i))

  entered_is : (parallel : Bool) (n : ℕ) (s : Store) → (run_entered parallel n e scope at body (store_behind (exit_when_none n e scope) s)).ending ≡ turns_end n 1 e scope body s
  entered_is false zero s = refl
  entered_is true zero s = refl
  entered_is false (suc n) s = turns_are (suc n) 1 s
  entered_is true (suc n) s =
      ap (λ (ts : List Touch). (run_entered true (suc n) e scope at body (store_behind ts s)).ending) (none_left n e scope)
      ∙ parallel_turns_are (suc n) 1 s

  -- a DO from its entry on ends as its iterations and its exit do
  pub from_entry_is : (seen : List Seen) (s : Store) → (run_from_entry seen e scope at body s).ending ≡ turns_end e.count 1 e scope body s
  from_entry_is seen s =
      ap (λ (u : Store). (run_entered e.head.parallel e.count e scope at body u).ending) (reads_leave seen 1 (exit_when_none e.count e scope) s)
      ∙ entered_is e.head.parallel e.count s

pub do_goes : (p : Setting) (n : ℕ) (scope : Scope) (h : Head) (statements : StmtTrees) (body : Frame → Store → Run) (s : Store) (l : Limits) → (limits (names_in p scope) h s).result ≡ Ok l
    → (run_do p n scope h statements body s).ending ≡ turns_end (entered_with p n h statements (limits (names_in p scope) h s).seen l).count 1 (entered_with p n h statements (limits (names_in p scope) h s).seen l) scope body s
do_goes p n scope h statements body s l e =
    on_ok (place_of p n scope) (limits (names_in p scope) h s) _ l e
    ∙ from_entry_is (entered_with p n h statements (limits (names_in p scope) h s).seen l) scope (place_of p n scope) body (limits (names_in p scope) h s).seen s

pub do_fails : (p : Setting) (n : ℕ) (scope : Scope) (h : Head) (statements : StmtTrees) (body : Frame → Store → Run) (s : Store) (k : ℕ) → (limits (names_in p scope) h s).result ≡ Err k
    → (run_do p n scope h statements body s).ending ≡ failed k (p.number n)
do_fails p n scope h statements body s k e = on_err (place_of p n scope) (limits (names_in p scope) h s) _ k e

undefined_by_is : (scope : Scope) (xs : List (List ℕ)) (n : ℕ) (ts : List Touch) (s : Store) → store_behind (undefined_by scope n xs ++ ts) s ≡ store_behind ts (undefined_cells scope xs s)
undefined_by_is scope [] n ts s = refl
undefined_by_is scope (x ∷ xs) n ts s = undefined_by_is scope xs (suc n) ts (put (cell_of scope x) Undefined s)

undefined_all_is : (scope : Scope) (xs : List (List ℕ)) (s : Store) → store_behind (undefined_all scope xs) s ≡ undefined_cells scope xs s
undefined_all_is scope [] s = refl
undefined_all_is scope (x ∷ xs) s = undefined_all_is scope xs (put (cell_of scope x) Undefined s)

-- the store behind the exit of a DO
pub exit_is : (e : Entered) (scope : Scope) (s : Store) → store_behind (exit_touches e scope) s ≡ undefined_cells scope e.inner (undefined_cells scope e.head.private (put (cell_of scope e.head.variable) (left_in_variable e) s))
exit_is e scope s =
    undefined_by_is scope e.head.private e.behind_bounds (undefined_all scope e.inner) (put (cell_of scope e.head.variable) (left_in_variable e) s)
    ∙ undefined_all_is scope e.inner (undefined_cells scope e.head.private (put (cell_of scope e.head.variable) (left_in_variable e) s))

pub read_fails : (g : Names) (at : Place) (t : Taking) (s : Store) (n : ℕ) → t.fault ≡ Some n → (run_taking at t t.fault s).ending ≡ failed n at.statement
read_fails g at t s n h = λ i. (run_taking at t (h i) s).ending

pub read_goes : (at : Place) (t : Taking) (s : Store) → t.fault ≡ None → (run_taking at t t.fault s).ending ≡ going (store_behind t.touches (put In (Lines t.left.lines) s))
read_goes at t s h = λ i. (run_taking at t (h i) s).ending

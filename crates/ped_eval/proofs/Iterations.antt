-- The iterations of a DO, one behind the other, and its exit.
use Rattle.std.proofs.Common.{◌≡◌, ℕ, zero, ◌+◌, ◌<◌, List, [], ◌∷◌, ◌++◌, Bool, true, false, ◌&&◌, Result, Ok, Err, refl, subst, ◌∙◌}
use Rattle.std.proofs.lemmas.Bool.{and_parts}
use Rattle.std.proofs.lemmas.List.Folds.{list_all-append}
use Rattle.std.specs.List.{list_all}
use Rattle.std.specs.Ordering.{nat_cmp}
use Rattle.std.specs.declared.cmp.Ordering.{Ordering}
use Rattle.std.specs.declared.cmp.Ordering.TheVariants.{Less, Equal, Greater}
use Rattle.std.specs.Cmp.Lexicographic.{slice_cmp}
use Rattle.ped_tree.specs.Tree.{Head, StmtTree, StmtTrees, Assign, If, Do, Print, Read, Stop, Comment, no_stmts, more_stmts}
use Rattle.ped_tree.specs.Views.{stmt_trees}
use Rattle.ped_tree.specs.Numbering.{statements_count}
use Rattle.ped_tree.specs.declared.statements.Stmt.{Stmt}
use Rattle.ped_symbols.specs.Kinds.{Table}
use Rattle.ped_store.specs.Cells.{Scalar, Element}
use Rattle.ped_store.specs.Stores.{Undefined, Store}
use Rattle.ped_store.specs.Memories.{Memory, with_content}
use Rattle.ped_eval.specs.Scopes.{Setting, Frame, Scope, cell_of}
use Rattle.ped_symbols.specs.RightUses.RightUses.{NameKinds, is_scalar, expr_is_right, cond_is_right, head_is_right, stmt_is_right, stmts_are_right}
use Rattle.ped_eval.specs.Readiness.{kinds_by, IsReady}
use Rattle.ped_eval.specs.Agreement.{before, before_turn}
use Rattle.ped_eval.specs.Loops.{Entered, left_in_variable, with_name_by, with_sorted, sorted_once, inner_variables}
use Rattle.ped_tree.specs.NamesIn.{loop_variables, all_loop_variables}
use Rattle.ped_eval.specs.Runs.{Ending, going, stopped, failed, Run, run_all}
use Rattle.ped_eval.specs.Turns.{turns_end, undefined_in, exited, with_copies, without_copies}
use Rattle.ped_eval.specs.Told.{Goes, Tells, TellsFrom, Ran}
use Rattle.ped_eval.specs.declared.states.Flow.{Flow}
use Rattle.ped_eval.specs.declared.states.Flow.TheVariants as flow
use Rattle.ped_eval.specs.declared.states.RunError.{RunError}
use Rattle.ped_eval.specs.declared.states.RunError.TheVariants as error
use Rattle.ped_eval.proofs.Moments.{behind_turns}
use Rattle.ped_eval.proofs.Agreements.{agrees_later}
use Rattle.ped_eval.proofs.Copies.{open_agrees, close_agrees, opened_bounds, closed_bounds, open_stand, close_stand, open_copies_stand, close_copies_stand}
use Rattle.ped_eval.proofs.Assignments.{cell_stands, ready_with}
use Rattle.ped_eval.proofs.Undefining.{exit_agrees}

-- the exit of a DO goes on
pub exit_tells : (e : Entered) (scope : Scope) (body : Frame → Store → Run) (n c k : ℕ) (m : Memory) → 0 < c
    → TellsFrom scope (before_turn scope n k) m.cells (before scope (n + c)) (Ok flow.Going) (exited e scope m).cells (turns_end zero k e scope body)
exit_tells e scope body n c k m h s a =
    exit_agrees e scope m (n + c) s (agrees_later scope (before_turn scope n k) (before scope (n + c)) m.cells s (behind_turns scope n k c h) a)

undefined_ready : (table : Table) (scope : Scope) (xs : List (List ℕ)) (round : Scope) (m : Memory) → IsReady table scope m → IsReady table scope (undefined_in round xs m)
undefined_ready table scope [] round m h = h
undefined_ready table scope (x ∷ xs) round m h = undefined_ready table scope xs round (with_content (cell_of round x) Undefined m) (ready_with table scope (cell_of round x) Undefined m h)

-- behind the exit of a DO all stands that can be written
pub exit_ready : (table : Table) (e : Entered) (scope : Scope) (m : Memory) → IsReady table scope m → IsReady table scope (exited e scope m)
exit_ready table e scope m h =
    undefined_ready table scope e.inner scope (undefined_in scope e.head.private (with_content (cell_of scope e.head.variable) (left_in_variable e) m))
    (undefined_ready table scope e.head.private scope (with_content (cell_of scope e.head.variable) (left_in_variable e) m) (ready_with table scope (cell_of scope e.head.variable) (left_in_variable e) m h))

-- the cells of scalars stand
pub scalars_stand : (table : Table) (scope : Scope) (m : Memory) (xs : List (List ℕ)) → IsReady table scope m → list_all (is_scalar (kinds_by table)) xs ≡ true → list_all (λ x. m.stands (cell_of scope x)) xs ≡ true
scalars_stand table scope m [] ready h = refl
scalars_stand table scope m (x ∷ xs) ready h =
    let p = and_parts (is_scalar (kinds_by table) x) (list_all (is_scalar (kinds_by table)) xs) h in
    λ i. cell_stands scope x m.stands (ready.scalars x p.0) ready.copies i && scalars_stand table scope m xs ready p.1 i

appended : (k : NameKinds) (xs ys : List (List ℕ)) → list_all (is_scalar k) xs ≡ true → list_all (is_scalar k) ys ≡ true → list_all (is_scalar k) (xs ++ ys) ≡ true
appended k xs ys h j = list_all-append (is_scalar k) xs ys ∙ (λ i. h i && j i)

module _ (k : NameKinds) (h : Head) (right : head_is_right k h ≡ true) where
  private_parts : ((is_scalar k h.variable && expr_is_right k h.first && expr_is_right k h.last && expr_is_right k h.step) ≡ true) × (list_all (is_scalar k) h.private ≡ true)
  private_parts = and_parts (is_scalar k h.variable && expr_is_right k h.first && expr_is_right k h.last && expr_is_right k h.step) (list_all (is_scalar k) h.private) right

  -- the variable of a DO and its PRIVATE names are scalars
  pub variable_scalar : is_scalar k h.variable ≡ true
  variable_scalar =
      let a = and_parts (is_scalar k h.variable && expr_is_right k h.first && expr_is_right k h.last) (expr_is_right k h.step) private_parts.0 in
      let b = and_parts (is_scalar k h.variable && expr_is_right k h.first) (expr_is_right k h.last) a.0 in
      (and_parts (is_scalar k h.variable) (expr_is_right k h.first) b.0).0

  pub private_scalars : list_all (is_scalar k) h.private ≡ true
  private_scalars = private_parts.1

mutual
  index_scalars : (k : NameKinds) (t : StmtTree) → stmt_is_right k t ≡ true → list_all (is_scalar k) (loop_variables t) ≡ true
  index_scalars k (Assign left right) h = refl
  index_scalars k (If condition a b) h =
      let p = and_parts (cond_is_right k condition && stmts_are_right k a) (stmts_are_right k b) h in
      let q = and_parts (cond_is_right k condition) (stmts_are_right k a) p.0 in
      appended k (all_loop_variables a) (all_loop_variables b) (all_index_scalars k a q.1) (all_index_scalars k b p.1)
  index_scalars k (Do head body) h =
      let p = and_parts (head_is_right k head) (stmts_are_right k body) h in
      λ i. variable_scalar k head p.0 i && all_index_scalars k body p.1 i
  index_scalars k (Print items) h = refl
  index_scalars k (Read items) h = refl
  index_scalars k Stop h = refl
  index_scalars k (Comment text) h = refl

  all_index_scalars : (k : NameKinds) (ts : StmtTrees) → stmts_are_right k ts ≡ true → list_all (is_scalar k) (all_loop_variables ts) ≡ true
  all_index_scalars k no_stmts h = refl
  all_index_scalars k (more_stmts t rest) h =
      let p = and_parts (stmt_is_right k t) (stmts_are_right k rest) h in
      appended k (loop_variables t) (all_loop_variables rest) (index_scalars k t p.0) (all_index_scalars k rest p.1)

name_by : (k : NameKinds) (o : Ordering) (x y : List ℕ) (rest further : List (List ℕ)) → is_scalar k x ≡ true → is_scalar k y ≡ true → list_all (is_scalar k) rest ≡ true → list_all (is_scalar k) further ≡ true
    → list_all (is_scalar k) (with_name_by o x y rest further) ≡ true
name_by k Less x y rest further h j r f = λ i. h i && (j i && r i)
name_by k Equal x y rest further h j r f = λ i. j i && r i
name_by k Greater x y rest further h j r f = λ i. j i && f i

sorted_one : (k : NameKinds) (x : List ℕ) (ys : List (List ℕ)) → is_scalar k x ≡ true → list_all (is_scalar k) ys ≡ true → list_all (is_scalar k) (with_sorted x ys) ≡ true
sorted_one k x [] h j = λ i. h i && true
sorted_one k x (y ∷ ys) h j =
    let p = and_parts (is_scalar k y) (list_all (is_scalar k) ys) j in
    name_by k (slice_cmp nat_cmp x y) x y ys (with_sorted x ys) h p.0 p.1 (sorted_one k x ys h p.1)

sorted_scalars : (k : NameKinds) (xs : List (List ℕ)) → list_all (is_scalar k) xs ≡ true → list_all (is_scalar k) (sorted_once xs) ≡ true
sorted_scalars k [] h = refl
sorted_scalars k (x ∷ xs) h =
    let p = and_parts (is_scalar k x) (list_all (is_scalar k) xs) h in
    sorted_one k x (sorted_once xs) p.0 (sorted_scalars k xs p.1)

-- the variables of the DO loops in a PARALLEL DO are scalars
pub inner_scalars : (k : NameKinds) (parallel : Bool) (body : StmtTrees) → stmts_are_right k body ≡ true → list_all (is_scalar k) (inner_variables parallel body) ≡ true
inner_scalars k true body h = sorted_scalars k (all_loop_variables body) (all_index_scalars k body h)
inner_scalars k false body h = refl

module _ (table : Table) (f : Frame) (fs : Scope) (m : Memory) where
  -- in an iteration whose copies are made all stands that can be written
  pub open_ready : IsReady table fs m → IsReady table (f ∷ fs) (with_copies (f ∷ fs) f.private m)
  open_ready h = record {
    bounds = opened_bounds (f ∷ fs) f.private m ∙ h.bounds;
    scalars = λ x e. open_stand f fs m (Scalar x) refl ∙ h.scalars x e;
    elements = λ x js e r. open_stand f fs m (Element x js) refl ∙ h.elements x js e r;
    copies = open_copies_stand f fs m h.copies;
  }

  -- and behind it, where they are dropped
  pub close_ready : IsReady table (f ∷ fs) m → IsReady table fs (without_copies (f ∷ fs) f.private m)
  close_ready h = record {
    bounds = closed_bounds (f ∷ fs) f.private m ∙ h.bounds;
    scalars = λ x e. close_stand f fs m (Scalar x) refl ∙ h.scalars x e;
    elements = λ x js e r. close_stand f fs m (Element x js) refl ∙ h.elements x js e r;
    copies = close_copies_stand f fs m h.copies;
  }

module _ (f : Frame) (fs : Scope) (n c : ℕ) (m : Memory) (ending : Store → Ending) where
  closed_by : (new : Memory) (e : Ending) → Goes (f ∷ fs) (before (f ∷ fs) c) new.cells e → Goes fs (before_turn fs f.turn.statement (f.turn.number + 1)) (without_copies (f ∷ fs) f.private new).cells e
  closed_by new (going s) h = close_agrees f fs new c s h
  closed_by new (stopped s) h = h
  closed_by new (failed fault k) h = h

  -- an iteration that goes on, with its copies made before it and dropped behind it
  pub turn_goes : (new : Memory) → TellsFrom (f ∷ fs) (before (f ∷ fs) n) (with_copies (f ∷ fs) f.private m).cells (before (f ∷ fs) c) (Ok flow.Going) new.cells ending
      → TellsFrom fs (before_turn fs f.turn.statement f.turn.number) m.cells (before_turn fs f.turn.statement (f.turn.number + 1)) (Ok flow.Going) (without_copies (f ∷ fs) f.private new).cells ending
  turn_goes new h s a = closed_by new (ending s) (h s (open_agrees f fs m n s a))

  pub turn_stops : (new : Memory) → TellsFrom (f ∷ fs) (before (f ∷ fs) n) (with_copies (f ∷ fs) f.private m).cells (before (f ∷ fs) c) (Ok flow.Stopped) new.cells ending
      → TellsFrom fs (before_turn fs f.turn.statement f.turn.number) m.cells (before_turn fs f.turn.statement (f.turn.number + 1)) (Ok flow.Stopped) new.cells ending
  turn_stops new h s a = h s (open_agrees f fs m n s a)

  failed_by : (x : RunError) (new : Memory) (e : Ending) → Tells (f ∷ fs) (before (f ∷ fs) c) (Err x) new.cells e → Tells fs (before_turn fs f.turn.statement (f.turn.number + 1)) (Err x) new.cells e
  failed_by (error.Fault number k) new e h = h
  failed_by error.NoMemory new e h = h

  pub turn_fails : (x : RunError) (new : Memory) → TellsFrom (f ∷ fs) (before (f ∷ fs) n) (with_copies (f ∷ fs) f.private m).cells (before (f ∷ fs) c) (Err x) new.cells ending
      → TellsFrom fs (before_turn fs f.turn.statement f.turn.number) m.cells (before_turn fs f.turn.statement (f.turn.number + 1)) (Err x) new.cells ending
  turn_fails x new h s a = failed_by x new (ending s) (h s (open_agrees f fs m n s a))

-- the run of the body of an iteration, from where its copies are made
pub turn_part : (p : Setting) (f : Frame) (fs : Scope) (n : ℕ) (scope : Scope) (ss items : List Stmt) (old mid new : Memory) (r : Result Flow RunError) → scope ≡ f ∷ fs → mid ≡ with_copies (f ∷ fs) f.private old → ss ≡ items
    → Ran scope (n + 1) mid (n + 1 + statements_count (stmt_trees ss)) r new (run_all p (stmt_trees ss) (n + 1) scope)
    → TellsFrom (f ∷ fs) (before (f ∷ fs) (n + 1)) (with_copies (f ∷ fs) f.private old).cells (before (f ∷ fs) (n + 1 + statements_count (stmt_trees items))) r new.cells (λ s. (run_all p (stmt_trees items) (n + 1) (f ∷ fs) s).ending)
turn_part p f fs n scope ss items old mid new r same memory is told =
    subst (λ (m : Memory). TellsFrom (f ∷ fs) (before (f ∷ fs) (n + 1)) m.cells (before (f ∷ fs) (n + 1 + statements_count (stmt_trees items))) r new.cells (λ s. (run_all p (stmt_trees items) (n + 1) (f ∷ fs) s).ending)) memory
    (subst (λ (xs : List Stmt). TellsFrom (f ∷ fs) (before (f ∷ fs) (n + 1)) mid.cells (before (f ∷ fs) (n + 1 + statements_count (stmt_trees xs))) r new.cells (λ s. (run_all p (stmt_trees xs) (n + 1) (f ∷ fs) s).ending)) is
    (subst (λ (o : Scope). TellsFrom o (before o (n + 1)) mid.cells (before o (n + 1 + statements_count (stmt_trees ss))) r new.cells (λ s. (run_all p (stmt_trees ss) (n + 1) o s).ending)) same told))

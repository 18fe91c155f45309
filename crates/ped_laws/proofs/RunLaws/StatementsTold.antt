-- The acts of each piece of a program's run tell it.
use Rattle.std.proofs.Common.{◌≡◌, ℕ, zero, suc, ◌+◌, List, [], ◌∷◌, ◌++◌, Bool, true, false, eqb, refl, ap, if◌then◌else◌}
use Rattle.ped_flow.specs.ped_tree.specs.Tree.{ExprTree, CondTree, ItemTree, Head, StmtTree, StmtTrees, Assign, If, Do, Print, Read, Stop, Comment, no_stmts, more_stmts}
use Rattle.ped_flow.specs.ped_tree.specs.Numbering.{statement_count, statements_count}
use Rattle.ped_eval.specs.ped_store.specs.Cells.{Private, Out}
use Rattle.ped_eval.specs.ped_store.specs.Stores.{Content, Store, lines_in, Lines}
use Rattle.ped_eval.specs.ped_store.specs.Acts.{Touch, Place, did, entered, ended_turn, closed, iterations_of}
use Rattle.ped_eval.specs.ped_store.specs.Races.{is_lines}
use Rattle.ped_flow.specs.ped_base.specs.Lists.{is_among}
use Rattle.ped_laws.specs.Acts.Fitting.{Find}
use Rattle.ped_eval.specs.Scopes.{Setting, Frame, Scope, Names, turns_of, cell_of, names_in, place_of}
use Rattle.ped_eval.specs.Evaluation.{Seen, numbered, number_behind}
use Rattle.ped_eval.specs.Values.{truth}
use Rattle.ped_eval.specs.Statements.{assigned, assignment_touches, printed_line, print_touches, read_touch, write_touch}
use Rattle.ped_eval.specs.Loops.{limits, Entered, entered_with, frame, undefined_by, undefined_all, exit_touches, exit_when_none, entry_touches}
use Rattle.ped_eval.specs.Runs.{Run, nothing_done, does, run_assignment, run_print, run_if, run_do, turns, parallel_turns, run_entered, run, run_all}
use Rattle.ped_laws.specs.Runs.Replaying.{IsToldByActs}
use Rattle.ped_laws.proofs.RunLaws.Sight.{truth_told, assigned_told, line_told, limits_told}
use Rattle.ped_laws.proofs.RunLaws.ReadsTold.{read_told}
use Rattle.ped_laws.proofs.RunLaws.Told.{reads_found, found_reads, reads_found_first, found_reads_first, found_behind_reads, nothing_told, stop_told, then_told, does_told, on_told}

-- a scalar's cell holds no lines
pub no_lines : (scope : Scope) (x : List ℕ) → is_lines (cell_of scope x) ≡ false
no_lines [] x = refl
no_lines (f ∷ fs) x = go (is_among x f.private) (no_lines fs x)
  where
    go : (b : Bool) → is_lines (cell_of fs x) ≡ false → is_lines (if b then Private x (iterations_of (turns_of (f ∷ fs))) else cell_of fs x) ≡ false
    go true h = refl
    go false h = h

-- writes alone fit each store
undefined_found : (scope : Scope) (n : ℕ) (xs : List (List ℕ)) (ts : List Touch) → ((s : Store) → Find ts s) → (s : Store) → Find (undefined_by scope n xs ++ ts) s
undefined_found scope n [] ts h s = h s
undefined_found scope n (x ∷ xs) ts h s = (tt, undefined_found scope (suc n) xs ts h _)

all_found : (scope : Scope) (xs : List (List ℕ)) (s : Store) → Find (undefined_all scope xs) s
all_found scope [] s = tt
all_found scope (x ∷ xs) s = (tt, all_found scope xs _)

pub exit_found : (e : Entered) (scope : Scope) (s : Store) → Find (exit_touches e scope) s
exit_found e scope s = (tt, undefined_found scope e.behind_bounds e.head.private (undefined_all scope e.inner) (all_found scope e.inner) _)

pub exit_when_found : (n : ℕ) (e : Entered) (scope : Scope) (s : Store) → Find (exit_when_none n e scope) s
exit_when_found zero e scope s = exit_found e scope s
exit_when_found (suc n) e scope s = go (eqb (suc n) 0)
  where
    go : (b : Bool) → Find (if b then exit_touches e scope else []) s
    go true = exit_found e scope s
    go false = tt

-- the turns of a DO
pub turns_told : (e : Entered) (scope : Scope) (at : Place) (body : Frame → Store → Run) → ((f : Frame) → IsToldByActs (body f)) → (n k : ℕ) → IsToldByActs (turns n k e scope at body)
turns_told e scope at body h zero k = nothing_told
turns_told e scope at body h (suc n) k =
    then_told (body (frame e k)) (does (ended_turn n) at (exit_when_none n e scope) (turns n (k + 1) e scope at body)) (h (frame e k))
    (does_told (ended_turn n) at (exit_when_none n e scope) (turns n (k + 1) e scope at body) (exit_when_found n e scope) (turns_told e scope at body h n (k + 1)))

pub parallel_told : (e : Entered) (body : Frame → Store → Run) → ((f : Frame) → IsToldByActs (body f)) → (n k : ℕ) → IsToldByActs (parallel_turns n k e body)
parallel_told e body h zero k = nothing_told
parallel_told e body h (suc n) k = then_told (body (frame e k)) (parallel_turns n (k + 1) e body) (h (frame e k)) (parallel_told e body h n (k + 1))

pub entered_told : (parallel : Bool) (n : ℕ) (e : Entered) (scope : Scope) (at : Place) (body : Frame → Store → Run) → ((f : Frame) → IsToldByActs (body f)) → IsToldByActs (run_entered parallel n e scope at body)
entered_told parallel zero e scope at body h = nothing_told
entered_told false (suc n) e scope at body h = turns_told e scope at body h (suc n) 1
entered_told true (suc n) e scope at body h =
    then_told (parallel_turns (suc n) 1 e body) (does closed at (exit_touches e scope) nothing_done) (parallel_told e body h (suc n) 1)
    (does_told closed at (exit_touches e scope) nothing_done (exit_found e scope) nothing_told)

pub do_told : (p : Setting) (n : ℕ) (scope : Scope) (h : Head) (statements : StmtTrees) (body : Frame → Store → Run) → ((f : Frame) → IsToldByActs (body f)) → IsToldByActs (run_do p n scope h statements body)
do_told p n scope h statements body told =
    on_told (place_of p n scope) (limits (names_in p scope) h) (limits_told (names_in p scope) h)
    (λ s seen l. entry_touches seen (entered_with p n h statements seen l) scope)
    (λ seen l. entered (entered_with p n h statements seen l).count)
    (λ seen l. run_entered h.parallel (entered_with p n h statements seen l).count (entered_with p n h statements seen l) scope (place_of p n scope) body)
    (λ seen l s holds. reads_found_first seen 1 _ s holds (exit_when_found (entered_with p n h statements seen l).count (entered_with p n h statements seen l) scope s))
    (λ seen l s u f. (found_reads_first seen 1 _ u f, refl))
    (λ seen l. entered_told h.parallel (entered_with p n h statements seen l).count (entered_with p n h statements seen l) scope (place_of p n scope) body told)

-- other statements
assignment_told : (g : Names) (at : Place) (left right : ExprTree) → IsToldByActs (run_assignment g at left right)
assignment_told g at left right =
    on_told at (assigned g left right) (assigned_told g left right)
    (λ s seen w. assignment_touches seen w) (λ seen w. did) (λ seen w. nothing_done)
    (λ seen w s holds. reads_found_first seen 1 _ s holds (tt, tt))
    (λ seen w s u f. (found_reads_first seen 1 _ u f, refl))
    (λ seen w. nothing_told)

print_told : (g : Names) (at : Place) (items : List ItemTree) → IsToldByActs (run_print g at items)
print_told g at items =
    on_told at (printed_line g items) (line_told g items)
    (λ s seen line. print_touches seen line s) (λ seen line. did) (λ seen line. nothing_done)
    (λ seen line s holds. reads_found_first seen 1 _ s holds (refl, (tt, tt)))
    (λ seen line s u f. (found_reads_first seen 1 _ u f, same seen line s u (found_behind_reads seen 1 _ u f).0))
    (λ seen line. nothing_told)
  where
    same : (seen : List Seen) (line : List ℕ) (s u : Store) → u Out ≡ s Out → print_touches seen line u ≡ print_touches seen line s
    same seen line s u e = ap (λ (v : Content). numbered 1 seen ++ read_touch Out v 0 ∷ write_touch Out (Lines (lines_in v ++ line ∷ [])) (number_behind 1 seen) ∷ []) e

one_told : (b : Bool) (f g : Store → Run) → IsToldByActs f → IsToldByActs g → IsToldByActs (if b then f else g)
one_told true f g h k = h
one_told false f g h k = k

if_told : (g : Names) (at : Place) (condition : CondTree) (then_part else_part : Store → Run) → IsToldByActs then_part → IsToldByActs else_part → IsToldByActs (run_if g at condition then_part else_part)
if_told g at condition then_part else_part h k =
    on_told at (truth g condition) (truth_told g condition)
    (λ s seen holds. numbered 1 seen) (λ seen holds. did) (λ seen holds. if holds then then_part else else_part)
    (λ seen holds s f. reads_found seen 1 s f)
    (λ seen holds s u f. (found_reads seen 1 u f, refl))
    (λ seen holds. one_told holds then_part else_part h k)

mutual
  pub run_told : (p : Setting) (t : StmtTree) (n : ℕ) (scope : Scope) → IsToldByActs (run p t n scope)
  run_told p (Assign left right) n scope = assignment_told (names_in p scope) (place_of p n scope) left right
  run_told p (If condition a b) n scope =
      if_told (names_in p scope) (place_of p n scope) condition (run_all p a (n + 1) scope) (run_all p b (n + 1 + statements_count a) scope) (all_told p a (n + 1) scope) (all_told p b (n + 1 + statements_count a) scope)
  run_told p (Do h body) n scope = do_told p n scope h body (λ f. run_all p body (n + 1) (f ∷ scope)) (λ f. all_told p body (n + 1) (f ∷ scope))
  run_told p (Print items) n scope = print_told (names_in p scope) (place_of p n scope) items
  run_told p (Read items) n scope = read_told (names_in p scope) (no_lines scope) (place_of p n scope) items
  run_told p Stop n scope = does_told did (place_of p n scope) [] _ (λ s. tt) stop_told
  run_told p (Comment text) n scope = nothing_told

  pub all_told : (p : Setting) (ts : StmtTrees) (n : ℕ) (scope : Scope) → IsToldByActs (run_all p ts n scope)
  all_told p no_stmts n scope = nothing_told
  all_told p (more_stmts t rest) n scope = then_told (run p t n scope) (run_all p rest (n + statement_count t) scope) (run_told p t n scope) (all_told p rest (n + statement_count t) scope)

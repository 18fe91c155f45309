-- The accesses of statements, by what they note.
use Rattle.std.proofs.Common.{◌≡◌, ℕ, zero, suc, ◌+◌, List, [], ◌∷◌, ◌++◌, Bool, true, false, map, Option, Some, None, Result, Ok, Err, if◌then◌else◌, refl, sym, ap, ◌∙◌, append_assoc}
use Rattle.std.proofs.lemmas.List.{append-nil, map-append}
use Rattle.ped_tree.specs.Tree.{ExprTree, ItemTree, CondTree, Head, StmtTrees}
use Rattle.ped_store.specs.Cells.{In, Out}
use Rattle.ped_store.specs.Stores.{Store, Lines, lines_in, Number}
use Rattle.ped_store.specs.Acts.{Touch, Place, Step, did, faulted, entered, closed, ended_turn, Act, store_behind}
use Rattle.ped_store.specs.Races.{Access, accesses}
use Rattle.ped_eval.specs.Scopes.{Setting, Frame, Scope, Names, names_in, place_of}
use Rattle.ped_eval.specs.Evaluation.{Seen, numbered, number_behind}
use Rattle.ped_eval.specs.Values.{truth}
use Rattle.ped_eval.specs.Statements.{Stored, assigned, assignment_touches, write_touch, read_touch, printed_line, print_touches, Taking, reading, reading_touches}
use Rattle.ped_eval.specs.Loops.{Limits, limits, Entered, entered_with, frame, exit_touches, exit_when_none}
use Rattle.ped_eval.specs.Runs.{Ending, going, stopped, failed, Run, nothing_done, followed_by, then_run, does, on_value, run_assignment, run_print, run_if, run_taking, run_read, turns, parallel_turns, run_entered, run_from_entry, run_do}
use Rattle.ped_eval.specs.Noting.{noted, access_at}
use Rattle.ped_eval.specs.StatementNotes.{reads_noted, done_noted, assignment_noted, print_noted}
use Rattle.ped_eval.specs.Watched.{turns_run}
use Rattle.ped_eval.proofs.Endings.{only_reads, none_left}
use Rattle.ped_eval.proofs.Notings.{noted-append}
use Rattle.ped_eval.proofs.Watching.{accesses-append, act_accesses}

pub assignment_accesses : (g : Names) (at : Place) (left right : ExprTree) (s : Store)
    → accesses (run_assignment g at left right s).acts ≡ map (access_at at) (assignment_noted 1 (assigned g left right s))
assignment_accesses g at left right s = go (assigned g left right s).seen (assigned g left right s).result
  where
    go : (seen : List Seen) (r : Result Stored ℕ) → accesses (on_value at seen r (λ seen w. does did at (assignment_touches seen w) nothing_done s)).acts ≡ map (access_at at) (done_noted 1 (λ w. w.cell) seen r)
    go seen (Ok w) = act_accesses did at (assignment_touches seen w) ∙ ap (map (access_at at)) (noted-append (numbered 1 seen) (write_touch w.cell (Number w.number) (number_behind 1 seen) ∷ []))
    go seen (Err fault) = act_accesses faulted at (numbered 1 seen)

pub print_accesses : (g : Names) (at : Place) (items : List ItemTree) (s : Store)
    → accesses (run_print g at items s).acts ≡ map (access_at at) (print_noted 1 (printed_line g items s))
print_accesses g at items s = go (printed_line g items s).seen (printed_line g items s).result
  where
    go : (seen : List Seen) (r : Result (List ℕ) ℕ) → accesses (on_value at seen r (λ seen line. does did at (print_touches seen line s) nothing_done s)).acts ≡ map (access_at at) (done_noted 1 (λ line. Out) seen r)
    go seen (Ok line) =
        act_accesses did at (print_touches seen line s)
        ∙ ap (map (access_at at)) (noted-append (numbered 1 seen) (read_touch Out (s Out) 0 ∷ write_touch Out (Lines (lines_in (s Out) ++ line ∷ [])) (number_behind 1 seen) ∷ []))
    go seen (Err fault) = act_accesses faulted at (numbered 1 seen)

-- the accesses of a condition, and then those of the part that it leads to
pub if_accesses : (g : Names) (at : Place) (condition : CondTree) (then_part else_part : Store → Run) (s : Store) (b : Bool) → (truth g condition s).result ≡ Ok b
    → accesses (run_if g at condition then_part else_part s).acts ≡ map (access_at at) (reads_noted (truth g condition s).seen) ++ accesses ((if b then then_part else else_part) s).acts
if_accesses g at condition then_part else_part s b h =
    let seen = (truth g condition s).seen in
    let next : Store → Run = if b then then_part else else_part in
    ap (λ (r : Result Bool ℕ). accesses (on_value at seen r (λ seen holds. does did at (numbered 1 seen) (if holds then then_part else else_part) s)).acts) h
    ∙ accesses-append (record { step = did; place = at; touches = numbered 1 seen } ∷ []) (next (store_behind (numbered 1 seen) s)).acts
    ∙ (λ i. act_accesses did at (numbered 1 seen) i ++ accesses (next (only_reads seen 1 s i)).acts)

pub if_fault_accesses : (g : Names) (at : Place) (condition : CondTree) (then_part else_part : Store → Run) (s : Store) (n : ℕ) → (truth g condition s).result ≡ Err n
    → accesses (run_if g at condition then_part else_part s).acts ≡ map (access_at at) (reads_noted (truth g condition s).seen)
if_fault_accesses g at condition then_part else_part s n h =
    let seen = (truth g condition s).seen in
    ap (λ (r : Result Bool ℕ). accesses (on_value at seen r (λ seen holds. does did at (numbered 1 seen) (if holds then then_part else else_part) s)).acts) h
    ∙ act_accesses faulted at (numbered 1 seen)

pub read_accesses : (g : Names) (at : Place) (items : List ExprTree) (s : Store)
    → accesses (run_read g at items s).acts ≡ map (access_at at) (record { cell = In; writes = true; reference = 1 } ∷ noted (reading g items s).touches)
read_accesses g at items s = go (reading g items s) (reading g items s).fault
  where
    go : (t : Taking) (fault : Option ℕ) → accesses (run_taking at t fault s).acts ≡ map (access_at at) (record { cell = In; writes = true; reference = 1 } ∷ noted t.touches)
    go t None = act_accesses did at (reading_touches t s)
    go t (Some fault) = act_accesses faulted at (reading_touches t s)

then_then : (r : Run) (f g : Store → Run) → accesses (then_run (then_run r f) g).acts ≡ accesses (then_run r (λ s. then_run (f s) g)).acts
then_then r f g = go r.acts r.ending
  where
    behind : (acts more : List Act) (e : Ending) → (followed_by (acts ++ more) e g).acts ≡ acts ++ (followed_by more e g).acts
    behind acts more (going s) = append_assoc acts more (g s).acts
    behind acts more (stopped s) = refl
    behind acts more (failed fault n) = refl

    go : (acts : List Act) (e : Ending) → accesses (then_run (followed_by acts e f) g).acts ≡ accesses (followed_by acts e (λ s. then_run (f s) g)).acts
    go acts (going s) = ap accesses (behind acts (f s).acts (f s).ending)
    go acts (stopped s) = refl
    go acts (failed fault n) = refl

-- a run is followed by runs with the same accesses
then_same : (r : Run) (f g : Store → Run) → ((s : Store) → accesses (f s).acts ≡ accesses (g s).acts) → accesses (then_run r f).acts ≡ accesses (then_run r g).acts
then_same r f g h = go r.acts r.ending
  where
    go : (acts : List Act) (e : Ending) → accesses (followed_by acts e f).acts ≡ accesses (followed_by acts e g).acts
    go acts (going s) = accesses-append acts (f s).acts ∙ ap (λ (xs : List Access). accesses acts ++ xs) (h s) ∙ sym (accesses-append acts (g s).acts)
    go acts (stopped s) = refl
    go acts (failed fault n) = refl

module _ (e : Entered) (scope : Scope) (at : Place) (body : Frame → Store → Run) where
  -- the end of an iteration and what is left of the DO, the last with the exit
  end_accesses : (n k : ℕ) (s : Store) → accesses (does (ended_turn n) at (exit_when_none n e scope) (turns n k e scope at body) s).acts ≡ accesses (turns_run n k e scope at body s).acts
  end_accesses zero k s = act_accesses (ended_turn 0) at (exit_touches e scope) ∙ sym (act_accesses closed at (exit_touches e scope))
  end_accesses (suc n) k s =
      ap (λ (ts : List Touch). accesses (does (ended_turn (suc n)) at ts (turns (suc n) k e scope at body) s).acts) (none_left n e scope)
      ∙ then_same (body (frame e k) s) (does (ended_turn n) at (exit_when_none n e scope) (turns n (k + 1) e scope at body)) (turns_run n (k + 1) e scope at body) (λ u. end_accesses n (k + 1) u)

  parallel_accesses : (n k : ℕ) (s : Store) → accesses (then_run (parallel_turns n k e body s) (does closed at (exit_touches e scope) nothing_done)).acts ≡ accesses (turns_run n k e scope at body s).acts
  parallel_accesses zero k s = refl
  parallel_accesses (suc n) k s =
      then_then (body (frame e k) s) (parallel_turns n (k + 1) e body) (does closed at (exit_touches e scope) nothing_done)
      ∙ then_same (body (frame e k) s) (λ u. then_run (parallel_turns n (k + 1) e body u) (does closed at (exit_touches e scope) nothing_done)) (turns_run n (k + 1) e scope at body) (λ u. parallel_accesses n (k + 1) u)

  entered_accesses : (parallel : Bool) (n : ℕ) (seen : List Seen) (s : Store)
      → accesses (does (entered n) at (numbered 1 seen ++ exit_when_none n e scope) (run_entered parallel n e scope at body) s).acts
      ≡ map (access_at at) (reads_noted seen) ++ accesses (turns_run n 1 e scope at body s).acts
  entered_accesses parallel zero seen s =
      by_none parallel
      ∙ act_accesses (entered 0) at (numbered 1 seen ++ exit_touches e scope)
      ∙ ap (map (access_at at)) (noted-append (numbered 1 seen) (exit_touches e scope))
      ∙ map-append (access_at at) (noted (numbered 1 seen)) (noted (exit_touches e scope))
      ∙ ap (λ (xs : List Access). map (access_at at) (reads_noted seen) ++ xs) (sym (act_accesses closed at (exit_touches e scope)))
    where
      by_none : (parallel : Bool) → accesses (does (entered 0) at (numbered 1 seen ++ exit_touches e scope) (run_entered parallel 0 e scope at body) s).acts ≡ accesses (record { step = entered 0; place = at; touches = numbered 1 seen ++ exit_touches e scope } ∷ [])
      by_none true = refl
      by_none false = refl
  entered_accesses parallel (suc n) seen s =
      let step : Step = entered (suc n) in
      ap (λ (ts : List Touch). accesses (does step at (numbered 1 seen ++ ts) (run_entered parallel (suc n) e scope at body) s).acts) (none_left n e scope)
      ∙ ap (λ (ts : List Touch). accesses (does step at ts (run_entered parallel (suc n) e scope at body) s).acts) (append-nil (numbered 1 seen))
      ∙ accesses-append (record { step = step; place = at; touches = numbered 1 seen } ∷ []) (run_entered parallel (suc n) e scope at body (store_behind (numbered 1 seen) s)).acts
      ∙ (λ i. act_accesses step at (numbered 1 seen) i ++ accesses (run_entered parallel (suc n) e scope at body (only_reads seen 1 s i)).acts)
      ∙ ap (λ (xs : List Access). map (access_at at) (reads_noted seen) ++ xs) (by_some parallel)
    where
      by_some : (parallel : Bool) → accesses (run_entered parallel (suc n) e scope at body s).acts ≡ accesses (turns_run (suc n) 1 e scope at body s).acts
      by_some true = parallel_accesses (suc n) 1 s
      by_some false = then_same (body (frame e 1) s) (does (ended_turn n) at (exit_when_none n e scope) (turns n 2 e scope at body)) (turns_run n 2 e scope at body) (λ u. end_accesses n 2 u)

-- the accesses of a DO: its bounds, and then its iterations and its exit
pub do_accesses : (p : Setting) (n : ℕ) (scope : Scope) (h : Head) (statements : StmtTrees) (body : Frame → Store → Run) (s : Store) (l : Limits) → (limits (names_in p scope) h s).result ≡ Ok l
    → accesses (run_do p n scope h statements body s).acts
    ≡ map (access_at (place_of p n scope)) (reads_noted (limits (names_in p scope) h s).seen)
    ++ accesses (turns_run (entered_with p n h statements (limits (names_in p scope) h s).seen l).count 1 (entered_with p n h statements (limits (names_in p scope) h s).seen l) scope (place_of p n scope) body s).acts
do_accesses p n scope h statements body s l k =
    let at = place_of p n scope in
    let seen = (limits (names_in p scope) h s).seen in
    let e = entered_with p n h statements seen l in
    ap (λ (r : Result Limits ℕ). accesses (on_value at seen r (λ seen l. run_from_entry seen (entered_with p n h statements seen l) scope at body s)).acts) k
    ∙ entered_accesses e scope at body h.parallel e.count seen s

pub do_fault_accesses : (p : Setting) (n : ℕ) (scope : Scope) (h : Head) (statements : StmtTrees) (body : Frame → Store → Run) (s : Store) (fault : ℕ) → (limits (names_in p scope) h s).result ≡ Err fault
    → accesses (run_do p n scope h statements body s).acts ≡ map (access_at (place_of p n scope)) (reads_noted (limits (names_in p scope) h s).seen)
do_fault_accesses p n scope h statements body s fault k =
    let at = place_of p n scope in
    let seen = (limits (names_in p scope) h s).seen in
    ap (λ (r : Result Limits ℕ). accesses (on_value at seen r (λ seen l. run_from_entry seen (entered_with p n h statements seen l) scope at body s)).acts) k
    ∙ act_accesses faulted at (numbered 1 seen)

-- Pieces of runs put together, and runs taken apart.
use Rattle.std.proofs.Common.{◌≡◌, ℕ, zero, suc, ◌+◌, List, [], ◌∷◌, ◌++◌, Bool, true, false, Ok, Err, refl, sym, ap, subst, ◌∙◌, append_assoc, if◌then◌else◌}
use Rattle.ped_flow.specs.ped_tree.specs.Tree.{ExprTree, CondTree, ItemTree, Head, StmtTree, StmtTrees, Assign, If, Do, Print, Stop, Comment, more_stmts}
use Rattle.ped_flow.specs.ped_tree.specs.Numbering.{statement_count, statements_count}
use Rattle.ped_eval.specs.ped_store.specs.Cells.{Out}
use Rattle.ped_eval.specs.ped_store.specs.Stores.{Content, Store, Lines, lines_in}
use Rattle.ped_eval.specs.ped_store.specs.Acts.{Place, Act, did, entered, ended_turn, closed, faulted, store_behind}
use Rattle.ped_laws.specs.Acts.Fitting.{Fits, store_after}
use Rattle.ped_laws.proofs.ActLaws.Stores.{after_append}
use Rattle.ped_eval.specs.Scopes.{Setting, Frame, Scope, names_in, place_of}
use Rattle.ped_eval.specs.Evaluation.{Seen, numbered, number_behind}
use Rattle.ped_eval.specs.Values.{truth}
use Rattle.ped_eval.specs.Statements.{Stored, assigned, assignment_touches, printed_line, print_touches, read_touch, write_touch}
use Rattle.ped_eval.specs.Loops.{Limits, limits, Entered, entered_with, frame, exit_touches, exit_when_none, entry_touches}
use Rattle.ped_eval.specs.Runs.{Ending, going, stopped, failed, Run, nothing_done, followed_by, then_run, does, fails, on_value, turns, parallel_turns, run_entered, run, run_all}
use Rattle.ped_eval.specs.Turns.{body_run}
use Rattle.ped_eval.proofs.Endings.{only_reads}
use Rattle.ped_laws.specs.Runs.Seeing.{ComesTo}
use Rattle.ped_laws.specs.Runs.Replaying.{Finish, goes_on, stops, faults, finish_of, ending_with, is_going, act, behind, Replays, IsToldByActs, IsEntered}
use Rattle.ped_laws.proofs.RunLaws.Told.{found_reads, found_reads_first, found_behind_reads, own_run, replays_behind, replays_stopped, replays_failed, replays_act, replays_fault, replays_on}
use Rattle.ped_laws.proofs.RunLaws.StatementsTold.{run_told, all_told, parallel_told}

-- a piece that doesn't go on is all that is done
pub replays_ended : (f g : Store → Run) (acts : List Act) (finish : Finish) → is_going finish ≡ false → Replays f acts finish → Replays (λ s. then_run (f s) g) acts finish
replays_ended f g acts goes_on e h = absurd cc
replays_ended f g acts stops e h = replays_stopped f g acts h
replays_ended f g acts (faults fault statement) e h = replays_failed f g acts fault statement h

pub replays_nothing : Replays nothing_done [] goes_on
replays_nothing s fit = refl

module _ (p : Setting) (t : StmtTree) (rest : StmtTrees) (n : ℕ) (scope : Scope) where
  pub statements_more : (acts others : List Act) (finish : Finish) → Replays (run p t n scope) acts goes_on → Replays (run_all p rest (n + statement_count t) scope) others finish → Replays (run_all p (more_stmts t rest) n scope) (acts ++ others) finish
  statements_more acts others finish = replays_behind (run p t n scope) (run_all p rest (n + statement_count t) scope) acts others finish

  pub statements_ended : (acts : List Act) (finish : Finish) → is_going finish ≡ false → Replays (run p t n scope) acts finish → Replays (run_all p (more_stmts t rest) n scope) acts finish
  statements_ended acts finish = replays_ended (run p t n scope) (run_all p rest (n + statement_count t) scope) acts finish

module _ (left k : ℕ) (e : Entered) (scope : Scope) (at : Place) (body : Frame → Store → Run) where
  pub turns_more : (acts others : List Act) (finish : Finish) → Replays (body (frame e k)) acts goes_on → Replays (turns left (k + 1) e scope at body) others finish
      → Replays (turns (suc left) k e scope at body) (acts ++ act (ended_turn left) at (exit_when_none left e scope) ∷ others) finish
  turns_more acts others finish h more =
      replays_behind (body (frame e k)) (does (ended_turn left) at (exit_when_none left e scope) (turns left (k + 1) e scope at body)) acts (act (ended_turn left) at (exit_when_none left e scope) ∷ others) finish h
      (replays_act (ended_turn left) at (exit_when_none left e scope) (turns left (k + 1) e scope at body) others finish more)

  pub turns_ended : (acts : List Act) (finish : Finish) → is_going finish ≡ false → Replays (body (frame e k)) acts finish → Replays (turns (suc left) k e scope at body) acts finish
  turns_ended acts finish = replays_ended (body (frame e k)) (does (ended_turn left) at (exit_when_none left e scope) (turns left (k + 1) e scope at body)) acts finish

module _ (left k : ℕ) (e : Entered) (body : Frame → Store → Run) where
  pub parallel_more : (acts others : List Act) (finish : Finish) → Replays (body (frame e k)) acts goes_on → Replays (parallel_turns left (k + 1) e body) others finish → Replays (parallel_turns (suc left) k e body) (acts ++ others) finish
  parallel_more acts others finish = replays_behind (body (frame e k)) (parallel_turns left (k + 1) e body) acts others finish

  pub parallel_ended : (acts : List Act) (finish : Finish) → is_going finish ≡ false → Replays (body (frame e k)) acts finish → Replays (parallel_turns (suc left) k e body) acts finish
  parallel_ended acts finish = replays_ended (body (frame e k)) (parallel_turns left (k + 1) e body) acts finish

-- from the entry on
entered_in_order : (b : Bool) (count : ℕ) (e : Entered) (scope : Scope) (at : Place) (body : Frame → Store → Run) (acts : List Act) (finish : Finish) → b ≡ false → Replays (turns count 1 e scope at body) acts finish → Replays (run_entered b count e scope at body) acts finish
entered_in_order b zero e scope at body acts finish q h = h
entered_in_order false (suc count) e scope at body acts finish q h = h
entered_in_order true (suc count) e scope at body acts finish q h = absurd cc

entered_empty : (b : Bool) (count : ℕ) (e : Entered) (scope : Scope) (at : Place) (body : Frame → Store → Run) → count ≡ 0 → Replays (run_entered b count e scope at body) [] goes_on
entered_empty b zero e scope at body q = replays_nothing
entered_empty b (suc count) e scope at body q = absurd cc

entered_closed : (b : Bool) (count more : ℕ) (e : Entered) (scope : Scope) (at : Place) (body : Frame → Store → Run) (acts : List Act) → b ≡ true → count ≡ suc more → Replays (parallel_turns count 1 e body) acts goes_on
    → Replays (run_entered b count e scope at body) (acts ++ act closed at (exit_touches e scope) ∷ []) goes_on
entered_closed b zero more e scope at body acts q r h = absurd cc
entered_closed false (suc count) more e scope at body acts q r h = absurd cc
entered_closed true (suc count) more e scope at body acts q r h =
    replays_behind (parallel_turns (suc count) 1 e body) (does closed at (exit_touches e scope) nothing_done) acts (act closed at (exit_touches e scope) ∷ []) goes_on h
    (replays_act closed at (exit_touches e scope) nothing_done [] goes_on replays_nothing)

entered_unclosed : (b : Bool) (count : ℕ) (e : Entered) (scope : Scope) (at : Place) (body : Frame → Store → Run) (acts : List Act) (finish : Finish) → b ≡ true → is_going finish ≡ false → Replays (parallel_turns count 1 e body) acts finish
    → Replays (run_entered b count e scope at body) acts finish
entered_unclosed b zero e scope at body acts finish q r h = h
entered_unclosed false (suc count) e scope at body acts finish q r h = absurd cc
entered_unclosed true (suc count) e scope at body acts finish q r h = replays_ended (parallel_turns (suc count) 1 e body) (does closed at (exit_touches e scope) nothing_done) acts finish r h

module _ (p : Setting) (h : Head) (body : StmtTrees) (n : ℕ) (scope : Scope) (seen : List Seen) where
  abbrev Looped : List Act → Finish → Entered → Type 0
  Looped acts finish e = Replays (run_entered h.parallel e.count e scope (place_of p n scope) (body_run p body n scope)) acts finish → Replays (run p (Do h body) n scope) (act (entered e.count) (place_of p n scope) (entry_touches seen e scope) ∷ acts) finish

  looped : (e : Entered) (acts : List Act) (finish : Finish) → IsEntered p n scope h body seen e → Looped acts finish e
  looped e acts finish (l, comes, same) = subst (Looped acts finish) (sym same) λ more.
      replays_on (place_of p n scope) (limits (names_in p scope) h) (entered (entered_with p n h body seen l).count)
      (λ s seen l. entry_touches seen (entered_with p n h body seen l) scope)
      (λ seen l. entered (entered_with p n h body seen l).count)
      (λ seen l. run_entered h.parallel (entered_with p n h body seen l).count (entered_with p n h body seen l) scope (place_of p n scope) (body_run p body n scope))
      seen l (entry_touches seen (entered_with p n h body seen l) scope) acts finish comes refl
      (λ s f. (found_reads_first seen 1 _ s f, refl)) more

  pub loop_in_order : (e : Entered) (acts : List Act) (finish : Finish) → IsEntered p n scope h body seen e → h.parallel ≡ false → Replays (turns e.count 1 e scope (place_of p n scope) (body_run p body n scope)) acts finish
      → Replays (run p (Do h body) n scope) (act (entered e.count) (place_of p n scope) (entry_touches seen e scope) ∷ acts) finish
  loop_in_order e acts finish i q more = looped e acts finish i (entered_in_order h.parallel e.count e scope (place_of p n scope) (body_run p body n scope) acts finish q more)

  pub loop_empty : (e : Entered) → IsEntered p n scope h body seen e → e.count ≡ 0 → Replays (run p (Do h body) n scope) (act (entered e.count) (place_of p n scope) (entry_touches seen e scope) ∷ []) goes_on
  loop_empty e i q = looped e [] goes_on i (entered_empty h.parallel e.count e scope (place_of p n scope) (body_run p body n scope) q)

  pub loop_closed : (more : ℕ) (e : Entered) (acts : List Act) → IsEntered p n scope h body seen e → h.parallel ≡ true → e.count ≡ suc more → Replays (parallel_turns e.count 1 e (body_run p body n scope)) acts goes_on
      → Replays (run p (Do h body) n scope) (act (entered e.count) (place_of p n scope) (entry_touches seen e scope) ∷ (acts ++ act closed (place_of p n scope) (exit_touches e scope) ∷ [])) goes_on
  loop_closed more e acts i q r k =
      looped e (acts ++ act closed (place_of p n scope) (exit_touches e scope) ∷ []) goes_on i (entered_closed h.parallel e.count more e scope (place_of p n scope) (body_run p body n scope) acts q r k)

  pub loop_unclosed : (e : Entered) (acts : List Act) (finish : Finish) → IsEntered p n scope h body seen e → h.parallel ≡ true → is_going finish ≡ false → Replays (parallel_turns e.count 1 e (body_run p body n scope)) acts finish
      → Replays (run p (Do h body) n scope) (act (entered e.count) (place_of p n scope) (entry_touches seen e scope) ∷ acts) finish
  loop_unclosed e acts finish i q r k = looped e acts finish i (entered_unclosed h.parallel e.count e scope (place_of p n scope) (body_run p body n scope) acts finish q r k)

  pub loop_fault : (fault : ℕ) → ComesTo (limits (names_in p scope) h) seen (Err fault) → Replays (run p (Do h body) n scope) (act faulted (place_of p n scope) (numbered 1 seen) ∷ []) (faults fault (p.number n))
  loop_fault fault comes = replays_fault (place_of p n scope) (limits (names_in p scope) h) _ seen fault comes

module _ (p : Setting) (c : CondTree) (then_part else_part : StmtTrees) (n : ℕ) (scope : Scope) (seen : List Seen) where
  pub condition_part : (holds : Bool) (acts : List Act) (finish : Finish) → ComesTo (truth (names_in p scope) c) seen (Ok holds) → Replays (if holds then run_all p then_part (n + 1) scope else run_all p else_part (n + 1 + statements_count then_part) scope) acts finish
      → Replays (run p (If c then_part else_part) n scope) (act did (place_of p n scope) (numbered 1 seen) ∷ acts) finish
  condition_part holds acts finish comes more =
      replays_on (place_of p n scope) (truth (names_in p scope) c) did (λ s seen holds. numbered 1 seen) (λ seen holds. did)
      (λ seen holds. if holds then run_all p then_part (n + 1) scope else run_all p else_part (n + 1 + statements_count then_part) scope)
      seen holds (numbered 1 seen) acts finish comes refl (λ s f. (found_reads seen 1 s f, refl)) more

  pub condition_fault : (fault : ℕ) → ComesTo (truth (names_in p scope) c) seen (Err fault) → Replays (run p (If c then_part else_part) n scope) (act faulted (place_of p n scope) (numbered 1 seen) ∷ []) (faults fault (p.number n))
  condition_fault fault comes = replays_fault (place_of p n scope) (truth (names_in p scope) c) _ seen fault comes

pub assignment_does : (p : Setting) (left right : ExprTree) (n : ℕ) (scope : Scope) (seen : List Seen) (w : Stored) → ComesTo (assigned (names_in p scope) left right) seen (Ok w) → Replays (run p (Assign left right) n scope) (act did (place_of p n scope) (assignment_touches seen w) ∷ []) goes_on
assignment_does p left right n scope seen w comes =
    replays_on (place_of p n scope) (assigned (names_in p scope) left right) did (λ s seen w. assignment_touches seen w) (λ seen w. did) (λ seen w. nothing_done)
    seen w (assignment_touches seen w) [] goes_on comes refl (λ s f. (found_reads_first seen 1 _ s f, refl)) replays_nothing

pub assignment_fault : (p : Setting) (left right : ExprTree) (n : ℕ) (scope : Scope) (seen : List Seen) (fault : ℕ) → ComesTo (assigned (names_in p scope) left right) seen (Err fault) → Replays (run p (Assign left right) n scope) (act faulted (place_of p n scope) (numbered 1 seen) ∷ []) (faults fault (p.number n))
assignment_fault p left right n scope seen fault comes = replays_fault (place_of p n scope) (assigned (names_in p scope) left right) _ seen fault comes

pub print_does : (p : Setting) (items : List ItemTree) (n : ℕ) (scope : Scope) (seen : List Seen) (line : List ℕ) (u : Store) → ComesTo (printed_line (names_in p scope) items) seen (Ok line) → Replays (run p (Print items) n scope) (act did (place_of p n scope) (print_touches seen line u) ∷ []) goes_on
print_does p items n scope seen line u comes =
    replays_on (place_of p n scope) (printed_line (names_in p scope) items) did (λ s seen line. print_touches seen line s) (λ seen line. did) (λ seen line. nothing_done)
    seen line (print_touches seen line u) [] goes_on comes refl
    (λ s f. (found_reads_first seen 1 _ s f, ap (λ (v : Content). numbered 1 seen ++ read_touch Out v 0 ∷ write_touch Out (Lines (lines_in v ++ line ∷ [])) (number_behind 1 seen) ∷ []) (found_behind_reads seen 1 _ s f).0))
    replays_nothing

pub print_fault : (p : Setting) (items : List ItemTree) (n : ℕ) (scope : Scope) (seen : List Seen) (fault : ℕ) → ComesTo (printed_line (names_in p scope) items) seen (Err fault) → Replays (run p (Print items) n scope) (act faulted (place_of p n scope) (numbered 1 seen) ∷ []) (faults fault (p.number n))
print_fault p items n scope seen fault comes = replays_fault (place_of p n scope) (printed_line (names_in p scope) items) _ seen fault comes

pub stop_does : (p : Setting) (n : ℕ) (scope : Scope) → Replays (run p Stop n scope) (act did (place_of p n scope) [] ∷ []) stops
stop_does p n scope s fit = refl

pub comment_does : (p : Setting) (text : List ℕ) (n : ℕ) (scope : Scope) → Replays (run p (Comment text) n scope) [] goes_on
comment_does p text n scope = replays_nothing

-- one store, one run
pub acts_are : (piece : Store → Run) (acts others : List Act) (finish other : Finish) (s : Store) → Replays piece acts finish → Replays piece others other → Fits acts s → Fits others s → acts ≡ others
acts_are piece acts others finish other s h k f g = ap (λ (r : Run). r.acts) (sym (h s f) ∙ k s g)

finish_back : (finish : Finish) (s : Store) → finish_of (ending_with finish s) ≡ finish
finish_back goes_on s = refl
finish_back stops s = refl
finish_back (faults fault statement) s = refl

pub finish_is : (piece : Store → Run) (acts others : List Act) (finish other : Finish) (s : Store) → Replays piece acts finish → Replays piece others other → Fits acts s → Fits others s → finish ≡ other
finish_is piece acts others finish other s h k f g =
    sym (finish_back finish (store_after acts s)) ∙ ap (λ (r : Run). finish_of r.ending) (sym (h s f) ∙ k s g) ∙ finish_back other (store_after others s)

-- a run that is taken apart
module _ (f g : Store → Run) (told : IsToldByActs f) (s : Store) where
  pub parted_more : finish_of (f s).ending ≡ goes_on → then_run (f s) g ≡ behind (f s).acts (g (store_after (f s).acts s))
  parted_more e =
      ap (λ (r : Run). then_run r g) (own_run f told s)
      ∙ ap (λ (finish : Finish). followed_by (f s).acts (ending_with finish (store_after (f s).acts s)) g) e

ended_is : (acts : List Act) (e : Ending) (g : Store → Run) → is_going (finish_of e) ≡ false → followed_by acts e g ≡ record { acts = acts; ending = e }
ended_is acts (going u) g h = absurd cc
ended_is acts (stopped u) g h = refl
ended_is acts (failed fault statement) g h = refl

pub parted_ended : (r : Run) (g : Store → Run) → is_going (finish_of r.ending) ≡ false → then_run r g ≡ r
parted_ended r g h = ended_is r.acts r.ending g h

-- acts, an act, and then a run
behind_act : (acts : List Act) (a : Act) (g : Store → Run) (s : Store) → behind acts (behind (a ∷ []) (g (store_behind a.touches (store_after acts s)))) ≡ behind (acts ++ a ∷ []) (g (store_after (acts ++ a ∷ []) s))
behind_act acts a g s =
    (λ i. record { acts = sym (append_assoc acts (a ∷ []) (g (store_behind a.touches (store_after acts s))).acts) i; ending = (g (store_behind a.touches (store_after acts s))).ending })
    ∙ ap (λ (u : Store). behind (acts ++ a ∷ []) (g u)) (sym (after_append acts (a ∷ []) s))

module _ (p : Setting) (t : StmtTree) (rest : StmtTrees) (n : ℕ) (scope : Scope) (s : Store) where
  pub statements_apart : finish_of (run p t n scope s).ending ≡ goes_on → run_all p (more_stmts t rest) n scope s ≡ behind (run p t n scope s).acts (run_all p rest (n + statement_count t) scope (store_after (run p t n scope s).acts s))
  statements_apart = parted_more (run p t n scope) (run_all p rest (n + statement_count t) scope) (run_told p t n scope) s

  pub statements_alone : is_going (finish_of (run p t n scope s).ending) ≡ false → run_all p (more_stmts t rest) n scope s ≡ run p t n scope s
  statements_alone = parted_ended (run p t n scope s) (run_all p rest (n + statement_count t) scope)

module _ (p : Setting) (body : StmtTrees) (n left k : ℕ) (scope : Scope) (e : Entered) where
  pub turns_apart : (at : Place) (s : Store) → finish_of (body_run p body n scope (frame e k) s).ending ≡ goes_on
      → let ended = (body_run p body n scope (frame e k) s).acts ++ act (ended_turn left) at (exit_when_none left e scope) ∷ [] in turns (suc left) k e scope at (body_run p body n scope) s ≡ behind ended (turns left (k + 1) e scope at (body_run p body n scope) (store_after ended s))
  turns_apart at s h =
      parted_more (body_run p body n scope (frame e k)) (does (ended_turn left) at (exit_when_none left e scope) (turns left (k + 1) e scope at (body_run p body n scope))) (all_told p body (n + 1) (frame e k ∷ scope)) s h
      ∙ behind_act (body_run p body n scope (frame e k) s).acts (act (ended_turn left) at (exit_when_none left e scope)) (turns left (k + 1) e scope at (body_run p body n scope)) s

  pub turns_alone : (at : Place) (s : Store) → is_going (finish_of (body_run p body n scope (frame e k) s).ending) ≡ false → turns (suc left) k e scope at (body_run p body n scope) s ≡ body_run p body n scope (frame e k) s
  turns_alone at s = parted_ended (body_run p body n scope (frame e k) s) (does (ended_turn left) at (exit_when_none left e scope) (turns left (k + 1) e scope at (body_run p body n scope)))

  pub parallel_apart : (s : Store) → finish_of (body_run p body n scope (frame e k) s).ending ≡ goes_on
      → parallel_turns (suc left) k e (body_run p body n scope) s ≡ behind (body_run p body n scope (frame e k) s).acts (parallel_turns left (k + 1) e (body_run p body n scope) (store_after (body_run p body n scope (frame e k) s).acts s))
  parallel_apart s = parted_more (body_run p body n scope (frame e k)) (parallel_turns left (k + 1) e (body_run p body n scope)) (all_told p body (n + 1) (frame e k ∷ scope)) s

  pub parallel_alone : (s : Store) → is_going (finish_of (body_run p body n scope (frame e k) s).ending) ≡ false → parallel_turns (suc left) k e (body_run p body n scope) s ≡ body_run p body n scope (frame e k) s
  parallel_alone s = parted_ended (body_run p body n scope (frame e k) s) (parallel_turns left (k + 1) e (body_run p body n scope))

pub entry_apart : (p : Setting) (h : Head) (body : StmtTrees) (n : ℕ) (scope : Scope) (s : Store) (l : Limits) → (limits (names_in p scope) h s).result ≡ Ok l
    → let e = entered_with p n h body (limits (names_in p scope) h s).seen l in let entry = act (entered e.count) (place_of p n scope) (entry_touches (limits (names_in p scope) h s).seen e scope) in run p (Do h body) n scope s ≡ behind (entry ∷ []) (run_entered h.parallel e.count e scope (place_of p n scope) (body_run p body n scope) (store_after (entry ∷ []) s))
entry_apart p h body n scope s l q = λ i. on_value (place_of p n scope) (limits (names_in p scope) h s).seen (q i) λ seen l.
    does (entered (entered_with p n h body seen l).count) (place_of p n scope) (entry_touches seen (entered_with p n h body seen l) scope) (run_entered h.parallel (entered_with p n h body seen l).count (entered_with p n h body seen l) scope (place_of p n scope) (body_run p body n scope)) s

pub entry_fails : (p : Setting) (h : Head) (body : StmtTrees) (n : ℕ) (scope : Scope) (s : Store) (fault : ℕ) → (limits (names_in p scope) h s).result ≡ Err fault → run p (Do h body) n scope s ≡ fails (place_of p n scope) (numbered 1 (limits (names_in p scope) h s).seen) fault
entry_fails p h body n scope s fault q = λ i. on_value (place_of p n scope) (limits (names_in p scope) h s).seen (q i) λ seen l.
    does (entered (entered_with p n h body seen l).count) (place_of p n scope) (entry_touches seen (entered_with p n h body seen l) scope) (run_entered h.parallel (entered_with p n h body seen l).count (entered_with p n h body seen l) scope (place_of p n scope) (body_run p body n scope)) s

in_order_by : (count : ℕ) (e : Entered) (scope : Scope) (at : Place) (body : Frame → Store → Run) (s : Store) → run_entered false count e scope at body s ≡ turns count 1 e scope at body s
in_order_by zero e scope at body s = refl
in_order_by (suc count) e scope at body s = refl

pub in_order_is : (p : Setting) (body : StmtTrees) (n : ℕ) (scope : Scope) (e : Entered) (at : Place) (s : Store) → run_entered false e.count e scope at (body_run p body n scope) s ≡ turns e.count 1 e scope at (body_run p body n scope) s
in_order_is p body n scope e at s = in_order_by e.count e scope at (body_run p body n scope) s

module _ (p : Setting) (body : StmtTrees) (n more : ℕ) (scope : Scope) (e : Entered) (at : Place) (s : Store) where
  pub close_apart : finish_of (parallel_turns (suc more) 1 e (body_run p body n scope) s).ending ≡ goes_on
      → let acts = (parallel_turns (suc more) 1 e (body_run p body n scope) s).acts in run_entered true (suc more) e scope at (body_run p body n scope) s ≡ behind acts (does closed at (exit_touches e scope) nothing_done (store_after acts s))
  close_apart = parted_more (parallel_turns (suc more) 1 e (body_run p body n scope)) (does closed at (exit_touches e scope) nothing_done) (parallel_told e (body_run p body n scope) (λ f. all_told p body (n + 1) (f ∷ scope)) (suc more) 1) s

  pub close_missing : is_going (finish_of (parallel_turns (suc more) 1 e (body_run p body n scope) s).ending) ≡ false → run_entered true (suc more) e scope at (body_run p body n scope) s ≡ parallel_turns (suc more) 1 e (body_run p body n scope) s
  close_missing = parted_ended (parallel_turns (suc more) 1 e (body_run p body n scope) s) (does closed at (exit_touches e scope) nothing_done)

module _ (p : Setting) (c : CondTree) (then_part else_part : StmtTrees) (n : ℕ) (scope : Scope) (s : Store) where
  pub part_apart : (holds : Bool) → (truth (names_in p scope) c s).result ≡ Ok holds → run p (If c then_part else_part) n scope s ≡ behind (act did (place_of p n scope) (numbered 1 (truth (names_in p scope) c s).seen) ∷ []) ((if holds then run_all p then_part (n + 1) scope else run_all p else_part (n + 1 + statements_count then_part) scope) s)
  part_apart holds q =
      (λ i. on_value (place_of p n scope) (truth (names_in p scope) c s).seen (q i) λ seen holds. does did (place_of p n scope) (numbered 1 seen) (if holds then run_all p then_part (n + 1) scope else run_all p else_part (n + 1 + statements_count then_part) scope) s)
      ∙ ap (λ (u : Store). behind (act did (place_of p n scope) (numbered 1 (truth (names_in p scope) c s).seen) ∷ []) ((if holds then run_all p then_part (n + 1) scope else run_all p else_part (n + 1 + statements_count then_part) scope) u)) (only_reads (truth (names_in p scope) c s).seen 1 s)

  pub part_fails : (fault : ℕ) → (truth (names_in p scope) c s).result ≡ Err fault → run p (If c then_part else_part) n scope s ≡ fails (place_of p n scope) (numbered 1 (truth (names_in p scope) c s).seen) fault
  part_fails fault q = λ i. on_value (place_of p n scope) (truth (names_in p scope) c s).seen (q i) λ seen holds. does did (place_of p n scope) (numbered 1 seen) (if holds then run_all p then_part (n + 1) scope else run_all p else_part (n + 1 + statements_count then_part) scope) s

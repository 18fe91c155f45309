-- Statements by themselves that end as others do, but for a fault in an undefined variable of a CALL's own.
use Rattle.std.proofs.Common.{◌≡◌, ℕ, zero, suc, ◌+◌, List, [], ◌∷◌, ◌++◌, Bool, true, false, Result, Ok, Err, refl, sym, ap, ◌∙◌, subst, ◌⊎◌, inl, inr, append_assoc, if◌then◌else◌}
use Rattle.ped_tree.specs.Tree.{ExprTree, ItemTree, CondTree, Head, StmtTrees}
use Rattle.ped_steps.specs.ped_store.specs.Cells.{Cell, Out, same_cell}
use Rattle.ped_steps.specs.ped_store.specs.Stores.{Undefined, Number, Lines, Store, put, lines_in, with_line}
use Rattle.ped_steps.specs.ped_store.specs.Acts.{Touch, reads, is_told, Place, Step, did, entered, ended_turn, closed, faulted, Act, store_behind}
use Rattle.ped_steps.specs.ped_eval.specs.Scopes.{Setting, Frame, Scope, Names, names_in, place_of}
use Rattle.ped_steps.specs.ped_eval.specs.Evaluation.{Seen, cell_seen, index_seen, Evaluated, numbered, number_behind}
use Rattle.ped_steps.specs.ped_eval.specs.Values.{truth}
use Rattle.ped_steps.specs.ped_eval.specs.Statements.{Stored, assigned, printed_line}
use Rattle.ped_steps.specs.ped_eval.specs.Loops.{Limits, limits, Entered, entered_with, frame, exit_touches, exit_when_none, entry_touches}
use Rattle.ped_steps.specs.ped_eval.specs.Runs.{Ending, going, stopped, failed, Run, followed_by, then_run, nothing_done, does, fails, on, on_value, run_assignment, run_print, run_if, turns, parallel_turns, run_entered, run_from_entry, run_do}
use Rattle.ped_steps.specs.ped_eval.specs.Turns.{after, turns_end}
use Rattle.ped_steps.specs.ped_eval.proofs.Endings.{ending_then, on_err, reads_leave, only_reads, none_left, assignment_goes, assignment_fails, print_goes, print_fails, if_goes, if_fails, do_goes, do_fails}
use Rattle.ped_call_runs.specs.UnitFaults.{ReadsOwnLast, FaultsInOwn}
use Rattle.ped_call_runs.proofs.FollowingValues.{itself, SeesOwn, Follows, follows_ok, follows_err, ComesTo, stored_as}
use Rattle.ped_call_runs.proofs.FollowingStores.{Bond, tight, Agrees, IsBelow, is_bound, put_below}

-- where the first ending is no fault, the second is of its kind, and their stores are so; where it is one, the second is the same
abbrev pub EndsAlike : (Store → Store → Type 0) → Ending → Ending → Type 0
EndsAlike R (going s) e = (w : Store) × (e ≡ going w) × R s w
EndsAlike R (stopped s) e = (w : Store) × (e ≡ stopped w) × R s w
EndsAlike R (failed fault statement) e = e ≡ failed fault statement

-- a run ends so, or faults in an undefined variable of a CALL's own
abbrev pub RunAlike : (Store → Store → Type 0) → Run → Ending → Type 0
RunAlike R r e = EndsAlike R r.ending e ⊎ FaultsInOwn r

-- a kind of pieces of runs: from stores that are so, they end alike
abbrev pub RunsAlike : (Store → Store → Type 0) → (Store → Run) → (Store → Run) → Type 0
RunsAlike R f g = (s w : Store) → R s w → RunAlike R (f s) (g w).ending

-- acts before a run that faults so
own_behind : (acts : List Act) (r : Run) → FaultsInOwn r → FaultsInOwn (record { acts = acts ++ r.acts; ending = r.ending })
own_behind acts r h = record {
  statement = h.statement;
  ending = h.ending;
  before = acts ++ h.before;
  act = h.act;
  last = ap (λ (xs : List Act). acts ++ xs) h.last ∙ sym (append_assoc acts h.before (h.act ∷ []));
  touches = h.touches;
}

-- nothing follows a run that faults so
pub own_then : (r : Run) (f : Store → Run) → FaultsInOwn r → FaultsInOwn (then_run r f)
own_then r f h =
    subst (λ (e : Ending). FaultsInOwn (followed_by r.acts e f)) (sym h.ending)
    (record { statement = h.statement; ending = refl; before = h.before; act = h.act; last = h.last; touches = h.touches })

-- reads one behind the other, by references with numbers that go on
numbered_both : (k : ℕ) (xs ys : List Seen) → numbered k (xs ++ ys) ≡ numbered k xs ++ numbered (number_behind k xs) ys
numbered_both k [] ys = refl
numbered_both k (cell_seen c content ∷ xs) ys = ap (λ (ts : List Touch). record { cell = c; manner = reads; content = content; reference = k } ∷ ts) (numbered_both (suc k) xs ys)
numbered_both k (index_seen c value ∷ xs) ys = ap (λ (ts : List Touch). record { cell = c; manner = is_told; content = Number value; reference = 0 } ∷ ts) (numbered_both k xs ys)

-- the touches of an evaluation that faults so
pub touches_own : (k n : ℕ) (seen : List Seen) → SeesOwn n seen → ReadsOwnLast (numbered k seen)
touches_own k n seen h = record {
  before = numbered k h.front;
  touch = record { cell = h.cell; manner = reads; content = Undefined; reference = number_behind k h.front };
  last = ap (numbered k) h.last ∙ numbered_both k h.front (cell_seen h.cell Undefined ∷ []);
  manner = refl;
  content = refl;
  call = h.call;
  own = h.own;
}

own_fails : (at : Place) (n : ℕ) (seen : List Seen) → SeesOwn n seen → FaultsInOwn (fails at (numbered 1 seen) n)
own_fails at n seen h = record {
  statement = at.statement;
  ending = ap (λ (z : ℕ). failed z at.statement) h.fault;
  before = [];
  act = record { step = faulted; place = at; touches = numbered 1 seen };
  last = refl;
  touches = touches_own 1 n seen h;
}

pub on_own : {A : Type 0} (at : Place) (a : Evaluated A) (next : List Seen → A → Run) (n : ℕ) → a.result ≡ Err n → SeesOwn n a.seen → FaultsInOwn (on at a next)
on_own {A} at a next n e own = subst (λ (r : Result A ℕ). FaultsInOwn (on_value at a.seen r next)) (sym e) (own_fails at n a.seen own)

-- one run behind another, and a third behind both
pub then_then : (r : Run) (f g : Store → Run) → then_run (then_run r f) g ≡ then_run r (λ s. then_run (f s) g)
then_then r f g = go r.ending
  where
    behind : (more : List Act) (d : Ending) → followed_by (r.acts ++ more) d g ≡ (record { acts = r.acts ++ (followed_by more d g).acts; ending = (followed_by more d g).ending })
    behind more (going s) = λ i. record { acts = append_assoc r.acts more (g s).acts i; ending = (g s).ending }
    behind more (stopped s) = refl
    behind more (failed fault statement) = refl

    go : (e : Ending) → then_run (followed_by r.acts e f) g ≡ followed_by r.acts e (λ s. then_run (f s) g)
    go (going s) = behind (f s).acts (f s).ending
    go (stopped s) = refl
    go (failed fault statement) = refl

module _ (R : Store → Store → Type 0) where
  pub goes_alike : (r : Run) (other : Ending) (s w : Store) → r.ending ≡ going s → other ≡ going w → R s w → RunAlike R r other
  goes_alike r other s w p q h = inl (subst (λ (z : Ending). EndsAlike R z other) (sym p) (w, q, h))

  pub fault_alike : (r : Run) (other : Ending) (fault statement : ℕ) → r.ending ≡ failed fault statement → other ≡ failed fault statement → RunAlike R r other
  fault_alike r other fault statement p q = inl (subst (λ (z : Ending). EndsAlike R z other) (sym p) q)

  -- a fault in an evaluation
  pub value_fails : {A X : Type 0} (at : Place) (a : Evaluated A) (next : List Seen → A → Run) (b : Evaluated X) (other : Ending) (n : ℕ) → a.result ≡ Err n
      → SeesOwn n a.seen ⊎ (b.result ≡ Err n) → (b.result ≡ Err n → other ≡ failed n at.statement) → RunAlike R (on at a next) other
  value_fails at a next b other n e (inl own) there = inr (on_own at a next n e own)
  value_fails at a next b other n e (inr d) there = fault_alike (on at a next) other n at.statement (on_err at a next n e) (there d)

  pub same_other : (r : Run) (e d : Ending) → e ≡ d → RunAlike R r d → RunAlike R r e
  same_other r e d p h = subst (λ (z : Ending). RunAlike R r z) (sym p) h

  pub with_acts : (acts : List Act) (r : Run) (e : Ending) → RunAlike R r e → RunAlike R (record { acts = acts ++ r.acts; ending = r.ending }) e
  with_acts acts r e (inl h) = inl h
  with_acts acts r e (inr own) = inr (own_behind acts r own)

  does_alike : (step : Step) (at : Place) (touches : List Touch) (next : Store → Run) (s : Store) (e : Ending) → RunAlike R (next (store_behind touches s)) e → RunAlike R (does step at touches next s) e
  does_alike step at touches next s e h = with_acts (record { step = step; place = at; touches = touches } ∷ []) (next (store_behind touches s)) e h

  followed_alike : (acts : List Act) (d other : Ending) (f : Store → Run) (g : Store → Ending) → EndsAlike R d other → ((s w : Store) → R s w → RunAlike R (f s) (g w)) → RunAlike R (followed_by acts d f) (after other g)
  followed_alike acts (going s) other f g h more =
      subst (λ (z : Ending). RunAlike R (followed_by acts (going s) f) (after z g)) (sym h.1) (with_acts acts (f s) (g h.0) (more s h.0 h.2))
  followed_alike acts (stopped s) other f g h more = inl (subst (λ (z : Ending). EndsAlike R (stopped s) (after z g)) (sym h.1) (h.0, refl, h.2))
  followed_alike acts (failed fault statement) other f g h more = inl (subst (λ (z : Ending). EndsAlike R (failed fault statement) (after z g)) (sym h) refl)

  pub after_alike : (r : Run) (other : Ending) (f : Store → Run) (g : Store → Ending) → RunAlike R r other → ((s w : Store) → R s w → RunAlike R (f s) (g w)) → RunAlike R (then_run r f) (after other g)
  after_alike r other f g (inl h) more = followed_alike r.acts r.ending other f g h more
  after_alike r other f g (inr own) more = inr (own_then r f own)

  pub then_alike : (r t : Run) (f g : Store → Run) → RunAlike R r t.ending → RunsAlike R f g → RunAlike R (then_run r f) (then_run t g).ending
  then_alike r t f g h more =
      same_other (then_run r f) (then_run t g).ending (after t.ending (λ s. (g s).ending)) (ending_then t g) (after_alike r t.ending f (λ s. (g s).ending) h more)

  if_alike : (b : Bool) (f g f_other g_other : Store → Run) → RunsAlike R f f_other → RunsAlike R g g_other → RunsAlike R (if b then f else g) (if b then f_other else g_other)
  if_alike true f g f_other g_other h k = h
  if_alike false f g f_other g_other h k = k

  pub run_if_alike : (g other : Names) (at place : Place) (c d : CondTree) (f h f_other h_other : Store → Run) (s w : Store) → place.statement ≡ at.statement → R s w → Follows itself (truth g c s) (truth other d w)
      → RunsAlike R f f_other → RunsAlike R h h_other → RunAlike R (run_if g at c f h s) (run_if other place d f_other h_other w).ending
  run_if_alike g other at place c d f h f_other h_other s w number r same p q = go (truth g c s).result refl
    where
      part : List Seen → Bool → Run
      part seen b = does did at (numbered 1 seen) (if b then f else h) s

      there : Ending
      there = (run_if other place d f_other h_other w).ending

      go : (t : Result Bool ℕ) → (truth g c s).result ≡ t → RunAlike R (on at (truth g c s) part) there
      go (Ok b) e =
          let seen : List Seen = (truth g c s).seen in
          let last : Ending = ((if b then f_other else h_other) w).ending in
          subst (λ (t : Result Bool ℕ). RunAlike R (on_value at seen t part) there) (sym e)
          (same_other (part seen b) there last (if_goes other place d f_other h_other w b (follows_ok itself (truth g c s) (truth other d w) same b e))
          (does_alike did at (numbered 1 seen) (if b then f else h) s last
          (subst (λ (u : Store). RunAlike R ((if b then f else h) u) last) (sym (only_reads seen 1 s)) (if_alike b f h f_other h_other p q s w r))))
      go (Err n) e =
          value_fails at (truth g c s) part (truth other d w) there n e (follows_err itself (truth g c s) (truth other d w) same n e)
          (λ z. if_fails other place d f_other h_other w n z ∙ ap (failed n) number)

  module _ (e d : Entered) (scope other : Scope) (at : Place) (body body_other : Frame → Store → Run) (more : (k : ℕ) → RunsAlike R (body (frame e k)) (body_other (frame d k)))
      (exit : (s w : Store) → R s w → R (store_behind (exit_touches e scope) s) (store_behind (exit_touches d other) w)) where
    left_alike : (s w : Store) → R s w → RunAlike R (nothing_done (store_behind (exit_touches e scope) s)) (turns_end zero 1 d other body_other w)
    left_alike s w r = inl (store_behind (exit_touches d other) w, refl, exit s w r)

    turns_alike : (n k : ℕ) (s w : Store) → R s w → RunAlike R (turns n k e scope at body (store_behind (exit_when_none n e scope) s)) (turns_end n k d other body_other w)
    turns_alike zero k s w r = left_alike s w r
    turns_alike (suc n) k s w r =
        subst (λ (ts : List Touch). RunAlike R (turns (suc n) k e scope at body (store_behind ts s)) (turns_end (suc n) k d other body_other w)) (sym (none_left n e scope))
        (after_alike (body (frame e k) s) (body_other (frame d k) w).ending (does (ended_turn n) at (exit_when_none n e scope) (turns n (k + 1) e scope at body)) (turns_end n (k + 1) d other body_other)
        (more k s w r)
        (λ u v t. does_alike (ended_turn n) at (exit_when_none n e scope) (turns n (k + 1) e scope at body) u (turns_end n (k + 1) d other body_other v) (turns_alike n (k + 1) u v t)))

    parallel_alike : (n k : ℕ) (s w : Store) → R s w → RunAlike R (then_run (parallel_turns n k e body s) (does closed at (exit_touches e scope) nothing_done)) (turns_end n k d other body_other w)
    parallel_alike zero k s w r = inl (store_behind (exit_touches d other) w, refl, exit s w r)
    parallel_alike (suc n) k s w r =
        let closing : (Store → Run) = does closed at (exit_touches e scope) nothing_done in
        subst (λ (z : Run). RunAlike R z (turns_end (suc n) k d other body_other w)) (sym (then_then (body (frame e k) s) (parallel_turns n (k + 1) e body) closing))
        (after_alike (body (frame e k) s) (body_other (frame d k) w).ending (λ u. then_run (parallel_turns n (k + 1) e body u) closing) (turns_end n (k + 1) d other body_other)
        (more k s w r) (λ u v t. parallel_alike n (k + 1) u v t))

    entered_alike : (parallel : Bool) (n : ℕ) (s w : Store) → R s w → RunAlike R (run_entered parallel n e scope at body (store_behind (exit_when_none n e scope) s)) (turns_end n 1 d other body_other w)
    entered_alike false zero s w r = left_alike s w r
    entered_alike true zero s w r = left_alike s w r
    entered_alike false (suc n) s w r = turns_alike (suc n) 1 s w r
    entered_alike true (suc n) s w r =
        subst (λ (ts : List Touch). RunAlike R (run_entered true (suc n) e scope at body (store_behind ts s)) (turns_end (suc n) 1 d other body_other w)) (sym (none_left n e scope))
        (parallel_alike (suc n) 1 s w r)

    -- a DO from its entry on
    from_entry_alike : (seen : List Seen) (s w : Store) → R s w → RunAlike R (run_from_entry seen e scope at body s) (turns_end e.count 1 d other body_other w)
    from_entry_alike seen s w r =
        does_alike (entered e.count) at (entry_touches seen e scope) (run_entered e.head.parallel e.count e scope at body) s (turns_end e.count 1 d other body_other w)
        (subst (λ (u : Store). RunAlike R (run_entered e.head.parallel e.count e scope at body u) (turns_end e.count 1 d other body_other w)) (sym (reads_leave seen 1 (exit_when_none e.count e scope) s))
        (entered_alike e.head.parallel e.count s w r))

  -- a DO, where both have the same number, the same limits and the same iteration count
  pub run_do_alike : (p q : Setting) (n i : ℕ) (scope other : Scope) (h j : Head) (ss ts : StmtTrees) (body body_other : Frame → Store → Run) (s w : Store) → q.number i ≡ p.number n → R s w
      → Follows itself (limits (names_in p scope) h s) (limits (names_in q other) j w)
      → ((l : Limits) → (entered_with q i j ts (limits (names_in q other) j w).seen l).count ≡ (entered_with p n h ss (limits (names_in p scope) h s).seen l).count)
      → ((l : Limits) (k : ℕ) → RunsAlike R (body (frame (entered_with p n h ss (limits (names_in p scope) h s).seen l) k)) (body_other (frame (entered_with q i j ts (limits (names_in q other) j w).seen l) k)))
      → ((l : Limits) (u v : Store) → R u v → R (store_behind (exit_touches (entered_with p n h ss (limits (names_in p scope) h s).seen l) scope) u) (store_behind (exit_touches (entered_with q i j ts (limits (names_in q other) j w).seen l) other) v))
      → RunAlike R (run_do p n scope h ss body s) (run_do q i other j ts body_other w).ending
  run_do_alike p q n i scope other h j ss ts body body_other s w number r same count more exit = go (limits (names_in p scope) h s).result refl
    where
      here : Evaluated Limits
      here = limits (names_in p scope) h s

      yonder : Evaluated Limits
      yonder = limits (names_in q other) j w

      part : List Seen → Limits → Run
      part seen l = run_from_entry seen (entered_with p n h ss seen l) scope (place_of p n scope) body s

      there : Ending
      there = (run_do q i other j ts body_other w).ending

      go : (t : Result Limits ℕ) → here.result ≡ t → RunAlike R (on (place_of p n scope) here part) there
      go (Ok l) e =
          let a : Entered = entered_with p n h ss here.seen l in
          let b : Entered = entered_with q i j ts yonder.seen l in
          subst (λ (t : Result Limits ℕ). RunAlike R (on_value (place_of p n scope) here.seen t part) there) (sym e)
          (same_other (part here.seen l) there (turns_end a.count 1 b other body_other w)
          (do_goes q i other j ts body_other w l (follows_ok itself here yonder same l e) ∙ ap (λ (z : ℕ). turns_end z 1 b other body_other w) (count l))
          (from_entry_alike a b scope other (place_of p n scope) body body_other (more l) (exit l) here.seen s w r))
      go (Err k) e =
          value_fails (place_of p n scope) here part yonder there k e (follows_err itself here yonder same k e)
          (λ z. do_fails q i other j ts body_other w k z ∙ ap (failed k) number)

module _ (bond : Cell → Bond) (name : Cell → Cell) (same_test : (c d : Cell) → same_cell (name c) (name d) ≡ same_cell c d) where
  abbrev pub Below : Store → Store → Type 0
  Below s w = IsBelow bond name s w

  pub assignment_alike : (g other : Names) (at place : Place) (left right other_left other_right : ExprTree) (s w : Store) → place.statement ≡ at.statement → Below s w
      → Follows (stored_as name) (assigned g left right s) (assigned other other_left other_right w) → ComesTo (λ r. is_bound (bond r.cell) ≡ true) (assigned g left right s)
      → RunAlike Below (run_assignment g at left right s) (run_assignment other place other_left other_right w).ending
  assignment_alike g other at place left right other_left other_right s w number below same may = go (assigned g left right s).result refl
    where
      here : Evaluated Stored
      here = assigned g left right s

      yonder : Evaluated Stored
      yonder = assigned other other_left other_right w

      there : Ending
      there = (run_assignment other place other_left other_right w).ending

      go : (r : Result Stored ℕ) → here.result ≡ r → RunAlike Below (run_assignment g at left right s) there
      go (Ok x) e =
          goes_alike Below (run_assignment g at left right s) there (put x.cell (Number x.number) s) (put (name x.cell) (Number x.number) w)
          (assignment_goes g at left right s x e) (assignment_goes other place other_left other_right w (stored_as name x) (follows_ok (stored_as name) here yonder same x e))
          (put_below bond name same_test x.cell (Number x.number) s w (may x e) below)
      go (Err n) e =
          value_fails Below at here _ yonder there n e (follows_err (stored_as name) here yonder same n e)
          (λ z. assignment_fails other place other_left other_right w n z ∙ ap (failed n) number)

  module _ (out : name Out ≡ Out) (out_tight : bond Out ≡ tight) where
    pub line_below : (line : List ℕ) (s w : Store) → Below s w → Below (with_line line s) (with_line line w)
    line_below line s w below =
        let same : w Out ≡ s Out = subst (λ (c : Cell). w c ≡ s Out) out (subst (λ (b : Bond). Agrees Out b (s Out) (w (name Out))) out_tight (below Out)) in
        subst (λ (c : Cell). Below (with_line line s) (put c (Lines (lines_in (w Out) ++ line ∷ [])) w)) out
        (subst (λ (ls : List (List ℕ)). Below (with_line line s) (put (name Out) (Lines (ls ++ line ∷ [])) w)) (ap lines_in (sym same))
        (put_below bond name same_test Out (Lines (lines_in (s Out) ++ line ∷ [])) s w (ap is_bound out_tight) below))

    pub print_alike : (g other : Names) (at place : Place) (items others : List ItemTree) (s w : Store) → place.statement ≡ at.statement → Below s w → Follows itself (printed_line g items s) (printed_line other others w)
        → RunAlike Below (run_print g at items s) (run_print other place others w).ending
    print_alike g other at place items others s w number below same = go (printed_line g items s).result refl
      where
        here : Evaluated (List ℕ)
        here = printed_line g items s

        yonder : Evaluated (List ℕ)
        yonder = printed_line other others w

        there : Ending
        there = (run_print other place others w).ending

        go : (r : Result (List ℕ) ℕ) → here.result ≡ r → RunAlike Below (run_print g at items s) there
        go (Ok x) e =
            goes_alike Below (run_print g at items s) there (with_line x s) (with_line x w)
            (print_goes g at items s x e) (print_goes other place others w x (follows_ok itself here yonder same x e)) (line_below x s w below)
        go (Err n) e =
            value_fails Below at here _ yonder there n e (follows_err itself here yonder same n e)
            (λ z. print_fails other place others w n z ∙ ap (failed n) number)

-- DO loops: a path of a DO covers its acts, where paths of its body cover those of each iteration.
use Rattle.std.proofs.Common.{◌≡◌, ℕ, zero, suc, ◌+◌, List, [], ◌∷◌, ◌++◌, Bool, true, false, ◌&&◌, ◌||◌, ◌==◌, if◌then◌else◌, refl, sym, ap, subst, ◌∙◌, inl, inr, append_assoc, arith}
use Rattle.std.proofs.lemmas.List.{append-nil}
use Rattle.std.proofs.lemmas.Bool.{or_right}
use Rattle.ped_flow.specs.ped_base.specs.Lists.{is_same_text, is_among}
use Rattle.ped_flow.specs.ped_tree.specs.Tree.{Head, StmtTrees}
use Rattle.ped_eval.specs.ped_store.specs.Cells.{Cell, Private}
use Rattle.ped_eval.specs.ped_store.specs.Stores.{Store}
use Rattle.ped_eval.specs.ped_store.specs.Acts.{Touch, Place, Step, entered, ended_turn, closed, Act, store_behind, iterations_of}
use Rattle.ped_laws.specs.Acts.Fitting.{touches_of}
use Rattle.ped_laws.specs.Acts.Sets.{written_by, needed_by}
use Rattle.ped_eval.specs.Scopes.{turns_of, Frame, Scope, cell_of}
use Rattle.ped_eval.specs.Evaluation.{Seen, numbered}
use Rattle.ped_eval.specs.Loops.{Entered, inner_variables, frame, exit_touches, exit_when_none, entry_touches}
use Rattle.ped_eval.specs.Runs.{Ending, going, stopped, failed, Run, followed_by, does, nothing_done, turns, parallel_turns, run_entered, run_from_entry}
use Rattle.ped_flow.specs.Events as events
use Rattle.ped_flow.specs.Events.{Event, event, reads_of, copied, start_events, exit_events, overwrites, has_value}
use Rattle.ped_flow.specs.PathSets.{Kind, Just, InTurn, Times, AnyTimes, Paths}
use Rattle.ped_flow.proofs.Truths.{untrue, or_none}
use Rattle.ped_flow.proofs.EventLaws.{has_value-append, reads_first-front}
use Rattle.ped_laws.proofs.ActLaws.Reorderings.{touches_append}
use Rattle.ped_laws.specs.FlowRuns.Covering.{holds_number, IsReadOn, Covers, AreCovered}
use Rattle.ped_laws.proofs.FlowRunLaws.Seeing.{is_seen}
use Rattle.ped_laws.proofs.FlowRunLaws.Coverings.{covers_nothing, covers_append, covers_at_end, covers_others, covers_elsewhere, covers_reads, needed_parts, written_parts, holds_append, not_so}
use Rattle.ped_laws.proofs.FlowRunLaws.Names.{cleared, copied_among}
use Rattle.ped_laws.proofs.FlowRunLaws.Reading.{exit_unread}
use Rattle.ped_laws.proofs.FlowRunLaws.Leavings.{unread_unneeded, exit_writes, cleared_lost, cleared_elsewhere, IsLeft, left_behind, exit_leaves}
use Rattle.ped_laws.proofs.FlowRunLaws.Unstopped.{IsUnstopped}

-- touches of a run that doesn't stop have a path, where the run goes on
abbrev pub Goes : (List Event → List Touch → Type 0) → List Touch → Ending → Type 0
Goes R ts (going s) = (path : List Event) × R path ts
Goes R ts (stopped s) = ⊥
Goes R ts (failed fault n) = Unit {0}

pub goes_then : (P Q R : List Event → List Touch → Type 0) (acts : List Act) (e : Ending) (next : Store → Run) → ((p q : List Event) (xs ys : List Touch) → P p xs → Q q ys → R (p ++ q) (xs ++ ys))
    → Goes P (touches_of acts) e → ((u : Store) → Goes Q (touches_of (next u).acts) (next u).ending) → Goes R (touches_of (followed_by acts e next).acts) (followed_by acts e next).ending
goes_then P Q R acts (going s) next both h k = further (next s).ending (k s)
  where
    further : (e : Ending) → Goes Q (touches_of (next s).acts) e → Goes R (touches_of (acts ++ (next s).acts)) e
    further (going u) g = (h.0 ++ g.0, subst (R (h.0 ++ g.0)) (sym (touches_append acts (next s).acts)) (both h.0 g.0 (touches_of acts) (touches_of (next s).acts) h.1 g.1))
    further (stopped u) g = g
    further (failed fault n) g = tt
goes_then P Q R acts (stopped s) next both h k = h
goes_then P Q R acts (failed fault n) next both h k = tt

pub goes_act : (Q R : List Event → List Touch → Type 0) (step : Step) (at : Place) (ts : List Touch) (next : Store → Run) (s : Store) → ((q : List Event) (ys : List Touch) → Q q ys → R q (ts ++ ys))
    → Goes Q (touches_of (next (store_behind ts s)).acts) (next (store_behind ts s)).ending → Goes R (touches_of (does step at ts next s).acts) (does step at ts next s).ending
goes_act Q R step at ts next s one h = further (next (store_behind ts s)).ending h
  where
    further : (e : Ending) → Goes Q (touches_of (next (store_behind ts s)).acts) e → Goes R (ts ++ touches_of (next (store_behind ts s)).acts) e
    further (going u) g = (g.0, one g.0 (touches_of (next (store_behind ts s)).acts) g.1)
    further (stopped u) g = g
    further (failed fault n) g = tt

goes_map : (P R : List Event → List Touch → Type 0) (f : List Event → List Event) (ts : List Touch) (e : Ending) → ((q : List Event) → P q ts → R (f q) ts) → Goes P ts e → Goes R ts e
goes_map P R f ts (going s) into g = (f g.0, into g.0 g.1)
goes_map P R f ts (stopped s) into g = g
goes_map P R f ts (failed fault n) into g = tt

not_last : (m : ℕ) → (suc m == 0) ≡ false
not_last m = grind arith

-- no iteration but the last leaves the DO
pub no_exit : (m : ℕ) (e : Entered) (S : Scope) → exit_when_none (suc m) e S ≡ []
no_exit m e S = ap (λ (z : Bool). if z then exit_touches e S else []) (not_last m)

module _ (x : List ℕ) (S : Scope) (at : Place) (n : ℕ) (h : Head) (b : StmtTrees) (A : Paths) (e : Entered) (head : e.head ≡ h) (inner : e.inner ≡ inner_variables h.parallel b)
    (body : Frame → Store → Run) (unstopped : (f : Frame) (u : Store) → IsUnstopped (body f u).ending) (covered : (f : Frame) (u : Store) → AreCovered A x (cell_of (f ∷ S) x) (touches_of (body f u).acts) (body f u).ending) where
  -- the paths of the DO, where its bounds read these names
  abbrev pub OfLoop : List (List ℕ) → List Event → List Touch → Type 0
  OfLoop names path ts =
      InTurn (Just (reads_of n names ++ event n events.assigns h.variable ∷ [])) (InTurn (AnyTimes (InTurn (Just (start_events n h b)) A.onward)) (Just (exit_events n h b))) path × Covers x (cell_of S x) path ts

  -- the paths of an iteration
  abbrev pub OneTrip : Kind
  OneTrip = InTurn (Just (start_events n h b)) A.onward

  body_goes : (d : Cell) (ts : List Touch) (ending : Ending) → IsUnstopped ending → AreCovered A x d ts ending → Goes (λ q ys. A.onward q × Covers x d q ys) ts ending
  body_goes d ts (going s) u c = (c.0, (c.1, c.2))
  body_goes d ts (stopped s) u c = absurd u
  body_goes d ts (failed fault k) u c = tt

  -- first a scalar that the DO doesn't leave otherwise than its iterations do
  module _ (away : (is_same_text x h.variable || is_among x (copied h b)) ≡ false) where
    other_variable : is_same_text x h.variable ≡ false
    other_variable = (or_none (is_same_text x h.variable) (is_among x (copied h b)) away).0

    uncopied : is_among x (copied h b) ≡ false
    uncopied = (or_none (is_same_text x h.variable) (is_among x (copied h b)) away).1

    uncleared : is_among x (cleared h b) ≡ false
    uncleared = by h.parallel
      where
        by : (parallel : Bool) → is_among x ((if parallel then h.variable ∷ [] else []) ++ copied h b) ≡ false
        by true = away
        by false = uncopied

    pub same_copy : (j : ℕ) → cell_of (frame e j ∷ S) x ≡ cell_of S x
    same_copy j = ap (λ (z : Bool). if z then Private x (iterations_of (turns_of (frame e j ∷ S))) else cell_of S x) (copied_among x h b e head inner ∙ uncleared)

    start_away : overwrites x (start_events n h b) ≡ false
    start_away = cleared_elsewhere x n (copied h b) uncopied

    pub exit_away : Covers x (cell_of S x) (exit_events n h b) []
    exit_away = covers_elsewhere x (cell_of S x) (exit_events n h b) (cleared_elsewhere x n (cleared h b) uncleared)

    pub exit_others : Covers x (cell_of S x) [] (exit_touches e S)
    exit_others = covers_others x (cell_of S x) (exit_touches e S) (unread_unneeded (cell_of S x) (exit_touches e S) (exit_unread (cell_of S x) e S)) (exit_writes S x h b e head inner ∙ away)

    pub maybe_exit_others : (m : ℕ) → Covers x (cell_of S x) [] (exit_when_none m e S)
    maybe_exit_others m = by (m == 0)
      where
        by : (z : Bool) → Covers x (cell_of S x) [] (if z then exit_touches e S else [])
        by true = exit_others
        by false = covers_nothing x (cell_of S x)

    -- touches with a path of this kind that covers them
    abbrev Covering : Kind → List Event → List Touch → Type 0
    Covering K path ts = K path × Covers x (cell_of S x) path ts

    trip_goes : (j : ℕ) (u : Store) → Goes (Covering OneTrip) (touches_of (body (frame e j) u).acts) (body (frame e j) u).ending
    trip_goes j u =
        goes_map (λ q ys. A.onward q × Covers x (cell_of (frame e j ∷ S) x) q ys) (Covering OneTrip) (λ q. start_events n h b ++ q) (touches_of (body (frame e j) u).acts) (body (frame e j) u).ending trip
        (body_goes (cell_of (frame e j ∷ S) x) (touches_of (body (frame e j) u).acts) (body (frame e j) u).ending (unstopped (frame e j) u) (covered (frame e j) u))
      where
        trip : (q : List Event) → A.onward q × Covers x (cell_of (frame e j ∷ S) x) q (touches_of (body (frame e j) u).acts) → Covering OneTrip (start_events n h b ++ q) (touches_of (body (frame e j) u).acts)
        trip q g = (
          (start_events n h b, q, refl, refl, g.0),
          covers_append x (cell_of S x) (start_events n h b) q [] (touches_of (body (frame e j) u).acts) (covers_elsewhere x (cell_of S x) (start_events n h b) start_away)
              (subst (λ (c : Cell). Covers x c q (touches_of (body (frame e j) u).acts)) (same_copy j) g.1),
        )

    one_more : (m : ℕ) (p q : List Event) (xs ys : List Touch) → Covering OneTrip p xs → Covering (Times m OneTrip) q ys → Covering (Times (suc m) OneTrip) (p ++ q) (xs ++ ys)
    one_more m p q xs ys g k = ((p, q, refl, g.0, k.0), covers_append x (cell_of S x) p q xs ys g.1 k.1)

    behind_others : (K : Kind) (ts : List Touch) → Covers x (cell_of S x) [] ts → (q : List Event) (ys : List Touch) → Covering K q ys → Covering K q (ts ++ ys)
    behind_others K ts g q ys k = (k.0, covers_append x (cell_of S x) [] q ts ys g k.1)

    pub turns_go : (m k : ℕ) (s : Store) → Goes (Covering (Times m OneTrip)) (touches_of (turns m k e S at body s).acts) (turns m k e S at body s).ending
    turns_go zero k s = ([], (refl, covers_nothing x (cell_of S x)))
    turns_go (suc m) k s =
        goes_then (Covering OneTrip) (Covering (Times m OneTrip)) (Covering (Times (suc m) OneTrip)) (body (frame e k) s).acts (body (frame e k) s).ending (does (ended_turn m) at (exit_when_none m e S) (turns m (k + 1) e S at body)) (one_more m) (trip_goes k s)
        (λ u. goes_act (Covering (Times m OneTrip)) (Covering (Times m OneTrip)) (ended_turn m) at (exit_when_none m e S) (turns m (k + 1) e S at body) u (behind_others (Times m OneTrip) (exit_when_none m e S) (maybe_exit_others m))
        (turns_go m (k + 1) (store_behind (exit_when_none m e S) u)))

    pub parallel_go : (m k : ℕ) (s : Store) → Goes (Covering (Times m OneTrip)) (touches_of (parallel_turns m k e body s).acts) (parallel_turns m k e body s).ending
    parallel_go zero k s = ([], (refl, covers_nothing x (cell_of S x)))
    parallel_go (suc m) k s =
        goes_then (Covering OneTrip) (Covering (Times m OneTrip)) (Covering (Times (suc m) OneTrip)) (body (frame e k) s).acts (body (frame e k) s).ending (parallel_turns m (k + 1) e body) (one_more m) (trip_goes k s)
        (λ u. parallel_go m (k + 1) u)

    any_times : (m : ℕ) (q : List Event) (ts : List Touch) → Covering (Times m OneTrip) q ts → Covering (AnyTimes OneTrip) q ts
    any_times m q ts k = ((m, k.0), k.1)

    pub closing : (m : ℕ) (p q : List Event) (xs ys : List Touch) → Covering (Times m OneTrip) p xs → Covering (Just []) q ys → Covering (AnyTimes OneTrip) (p ++ q) (xs ++ ys)
    closing m p q xs ys g k =
        let same : p ++ q ≡ p = ap (λ (z : List Event). p ++ z) k.0 ∙ append-nil p in
        ((m, subst (Times m OneTrip) (sym same) g.0), covers_append x (cell_of S x) p q xs ys g.1 k.1)

    entered_go : (parallel : Bool) (m : ℕ) (s : Store) → Goes (Covering (AnyTimes OneTrip)) (touches_of (run_entered parallel m e S at body s).acts) (run_entered parallel m e S at body s).ending
    entered_go true zero s = ([], ((0, refl), covers_nothing x (cell_of S x)))
    entered_go false zero s = ([], ((0, refl), covers_nothing x (cell_of S x)))
    entered_go false (suc m) s =
        goes_map (Covering (Times (suc m) OneTrip)) (Covering (AnyTimes OneTrip)) (λ q. q) (touches_of (turns (suc m) 1 e S at body s).acts) (turns (suc m) 1 e S at body s).ending (λ q. any_times (suc m) q (touches_of (turns (suc m) 1 e S at body s).acts)) (turns_go (suc m) 1 s)
    entered_go true (suc m) s =
        goes_then (Covering (Times (suc m) OneTrip)) (Covering (Just [])) (Covering (AnyTimes OneTrip)) (parallel_turns (suc m) 1 e body s).acts (parallel_turns (suc m) 1 e body s).ending (does closed at (exit_touches e S) nothing_done) (closing (suc m)) (parallel_go (suc m) 1 s)
        (λ u. ([], (refl, covers_at_end x (cell_of S x) [] (exit_touches e S) exit_others)))

    whole_away : (seen : List Seen) (names : List (List ℕ)) → (is_seen (cell_of S x) seen ≡ true → is_among x names ≡ true) → (q : List Event) (ys : List Touch) → Covering (AnyTimes OneTrip) q ys
        → AnyTimes OneTrip q × Covers x (cell_of S x) ((reads_of n names ++ event n events.assigns h.variable ∷ []) ++ (q ++ exit_events n h b)) (entry_touches seen e S ++ ys)
    whole_away seen names saw q ys k = (
      k.0,
      covers_append x (cell_of S x) (reads_of n names ++ event n events.assigns h.variable ∷ []) (q ++ exit_events n h b) (entry_touches seen e S) ys
          (covers_append x (cell_of S x) (reads_of n names) (event n events.assigns h.variable ∷ []) (numbered 1 seen) (exit_when_none e.count e S)
          (covers_reads x (cell_of S x) n 1 names seen saw)
          (covers_append x (cell_of S x) (event n events.assigns h.variable ∷ []) [] [] (exit_when_none e.count e S)
          (covers_elsewhere x (cell_of S x) (event n events.assigns h.variable ∷ []) (ap (λ (z : Bool). (z && true) || false) other_variable)) (maybe_exit_others e.count)))
          (subst (λ (z : List Touch). Covers x (cell_of S x) (q ++ exit_events n h b) z) (append-nil ys) (covers_append x (cell_of S x) q (exit_events n h b) ys [] k.1 exit_away)),
    )

    pub loop_away : (seen : List Seen) (names : List (List ℕ)) → (is_seen (cell_of S x) seen ≡ true → is_among x names ≡ true) → (s : Store)
        → Goes (OfLoop names) (touches_of (run_from_entry seen e S at body s).acts) (run_from_entry seen e S at body s).ending
    loop_away seen names saw s =
        goes_map (λ q ts. AnyTimes OneTrip q × Covers x (cell_of S x) ((reads_of n names ++ event n events.assigns h.variable ∷ []) ++ (q ++ exit_events n h b)) ts) (OfLoop names)
        (λ q. (reads_of n names ++ event n events.assigns h.variable ∷ []) ++ (q ++ exit_events n h b)) (touches_of (run_from_entry seen e S at body s).acts) (run_from_entry seen e S at body s).ending
        (λ q k. ((reads_of n names ++ event n events.assigns h.variable ∷ [], q ++ exit_events n h b, refl, refl, (q, exit_events n h b, refl, k.0, refl)), k.1))
        (goes_act (Covering (AnyTimes OneTrip)) (λ q ts. AnyTimes OneTrip q × Covers x (cell_of S x) ((reads_of n names ++ event n events.assigns h.variable ∷ []) ++ (q ++ exit_events n h b)) ts) (entered e.count) at (entry_touches seen e S) (run_entered e.head.parallel e.count e S at body) s (whole_away seen names saw)
        (entered_go e.head.parallel e.count (store_behind (entry_touches seen e S) s)))

  -- and then one that it leaves: its variable, or a name of which its iterations have copies
  module _ (leaves : (is_same_text x h.variable || is_among x (copied h b)) ≡ true) (unneeded : (j : ℕ) (u : Store) → needed_by (touches_of (body (frame e j) u).acts) (cell_of S x) ≡ false) where
    abbrev Unneeded : Kind → List Event → List Touch → Type 0
    Unneeded K path ts = K path × (needed_by ts (cell_of S x) ≡ false)

    abbrev Leaving : Kind → List Event → List Touch → Type 0
    Leaving K path ts = K path × IsLeft x (cell_of S x) h b ts

    trip_unneeded : (j : ℕ) (u : Store) → Goes (Unneeded OneTrip) (touches_of (body (frame e j) u).acts) (body (frame e j) u).ending
    trip_unneeded j u =
        goes_map (λ q ys. A.onward q × Covers x (cell_of (frame e j ∷ S) x) q ys) (Unneeded OneTrip) (λ q. start_events n h b ++ q) (touches_of (body (frame e j) u).acts) (body (frame e j) u).ending
        (λ q g. ((start_events n h b, q, refl, refl, g.0), unneeded j u))
        (body_goes (cell_of (frame e j ∷ S) x) (touches_of (body (frame e j) u).acts) (body (frame e j) u).ending (unstopped (frame e j) u) (covered (frame e j) u))

    pub exit_is_left : IsLeft x (cell_of S x) h b (exit_touches e S ++ [])
    exit_is_left = subst (IsLeft x (cell_of S x) h b) (sym (append-nil (exit_touches e S))) (exit_leaves S x h b e head inner leaves)

    one_more_left : (m : ℕ) (p q : List Event) (xs ys : List Touch) → Unneeded OneTrip p xs → Leaving (Times m OneTrip) q ys → Leaving (Times (suc m) OneTrip) (p ++ q) (xs ++ ys)
    one_more_left m p q xs ys g k = ((p, q, refl, g.0, k.0), left_behind x (cell_of S x) h b xs ys g.1 k.1)

    pub turns_left : (m k : ℕ) (s : Store) → Goes (Leaving (Times (suc m) OneTrip)) (touches_of (turns (suc m) k e S at body s).acts) (turns (suc m) k e S at body s).ending
    turns_left zero k s =
        goes_then (Unneeded OneTrip) (Leaving (Times 0 OneTrip)) (Leaving (Times 1 OneTrip)) (body (frame e k) s).acts (body (frame e k) s).ending (does (ended_turn 0) at (exit_when_none 0 e S) (turns 0 (k + 1) e S at body)) (one_more_left 0) (trip_unneeded k s)
        (λ u. ([], (refl, exit_is_left)))
    turns_left (suc m) k s =
        goes_then (Unneeded OneTrip) (Leaving (Times (suc m) OneTrip)) (Leaving (Times (suc (suc m)) OneTrip)) (body (frame e k) s).acts (body (frame e k) s).ending (does (ended_turn (suc m)) at (exit_when_none (suc m) e S) (turns (suc m) (k + 1) e S at body)) (one_more_left (suc m)) (trip_unneeded k s)
        (λ u. subst (λ (z : List Touch). Goes (Leaving (Times (suc m) OneTrip)) (touches_of (does (ended_turn (suc m)) at z (turns (suc m) (k + 1) e S at body) u).acts) (does (ended_turn (suc m)) at z (turns (suc m) (k + 1) e S at body) u).ending) (sym (no_exit m e S))
        (goes_act (Leaving (Times (suc m) OneTrip)) (Leaving (Times (suc m) OneTrip)) (ended_turn (suc m)) at [] (turns (suc m) (k + 1) e S at body) u (λ q ys g. g) (turns_left m (k + 1) u)))

    pub parallel_unneeded : (m k : ℕ) (s : Store) → Goes (Unneeded (Times m OneTrip)) (touches_of (parallel_turns m k e body s).acts) (parallel_turns m k e body s).ending
    parallel_unneeded zero k s = ([], (refl, refl))
    parallel_unneeded (suc m) k s =
        goes_then (Unneeded OneTrip) (Unneeded (Times m OneTrip)) (Unneeded (Times (suc m) OneTrip)) (body (frame e k) s).acts (body (frame e k) s).ending (parallel_turns m (k + 1) e body)
        (λ p q xs ys g l. ((p, q, refl, g.0, l.0), neither xs ys g.1 l.1)) (trip_unneeded k s) (λ u. parallel_unneeded m (k + 1) u)
      where
        neither : (xs ys : List Touch) → needed_by xs (cell_of S x) ≡ false → needed_by ys (cell_of S x) ≡ false → needed_by (xs ++ ys) (cell_of S x) ≡ false
        neither xs ys g l = not_so (needed_by (xs ++ ys) (cell_of S x)) (λ o. elim (needed_parts xs ys (cell_of S x) o) [ inl i ↦ (let z : false ≡ true = sym g ∙ i in untrue z) | inr i ↦ (let z : false ≡ true = sym l ∙ i.1 in untrue z) ])

    pub closing_left : (m : ℕ) (p q : List Event) (xs ys : List Touch) → Unneeded (Times m OneTrip) p xs → Leaving (Just []) q ys → Leaving (AnyTimes OneTrip) (p ++ q) (xs ++ ys)
    closing_left m p q xs ys g k =
        let same : p ++ q ≡ p = ap (λ (z : List Event). p ++ z) k.0 ∙ append-nil p in
        ((m, subst (Times m OneTrip) (sym same) g.0), left_behind x (cell_of S x) h b xs ys g.1 k.1)

    -- what comes behind the reads of the bounds
    abbrev BehindBounds : List Seen → List Event → List Touch → Type 0
    BehindBounds seen q ts = AnyTimes OneTrip q × ((rest : List Touch) × (ts ≡ numbered 1 seen ++ rest) × IsLeft x (cell_of S x) h b rest)

    abbrev EnteredLeft : List Seen → Run → Type 0
    EnteredLeft seen r = Goes (BehindBounds seen) (touches_of r.acts) r.ending

    entered_left : (parallel : Bool) (m : ℕ) (seen : List Seen) (s : Store) → EnteredLeft seen (does (entered m) at (numbered 1 seen ++ exit_when_none m e S) (run_entered parallel m e S at body) s)
    entered_left true zero seen s = ([], ((0, refl), (exit_touches e S ++ [], append_assoc (numbered 1 seen) (exit_touches e S) [], exit_is_left)))
    entered_left false zero seen s = ([], ((0, refl), (exit_touches e S ++ [], append_assoc (numbered 1 seen) (exit_touches e S) [], exit_is_left)))
    entered_left false (suc m) seen s =
        subst (λ (z : List Touch). EnteredLeft seen (does (entered (suc m)) at (numbered 1 seen ++ z) (run_entered false (suc m) e S at body) s)) (sym (no_exit m e S))
        (goes_act (Leaving (Times (suc m) OneTrip)) (BehindBounds seen) (entered (suc m)) at (numbered 1 seen ++ []) (run_entered false (suc m) e S at body) s (λ q ys g. ((suc m, g.0), (ys, append_assoc (numbered 1 seen) [] ys, g.1))) (turns_left m 1 (store_behind (numbered 1 seen ++ []) s)))
    entered_left true (suc m) seen s =
        subst (λ (z : List Touch). EnteredLeft seen (does (entered (suc m)) at (numbered 1 seen ++ z) (run_entered true (suc m) e S at body) s)) (sym (no_exit m e S))
        (goes_act (Leaving (AnyTimes OneTrip)) (BehindBounds seen) (entered (suc m)) at (numbered 1 seen ++ []) (run_entered true (suc m) e S at body) s (λ q ys g. (g.0, (ys, append_assoc (numbered 1 seen) [] ys, g.1)))
        (goes_then (Unneeded (Times (suc m) OneTrip)) (Leaving (Just [])) (Leaving (AnyTimes OneTrip)) _ _ (does closed at (exit_touches e S) nothing_done) (closing_left (suc m)) (parallel_unneeded (suc m) 1 (store_behind (numbered 1 seen ++ []) s))
        (λ u. ([], (refl, exit_is_left)))))

    whole_left : (seen : List Seen) (names : List (List ℕ)) → (is_seen (cell_of S x) seen ≡ true → is_among x names ≡ true) → (q : List Event) (rest : List Touch) → IsLeft x (cell_of S x) h b rest
        → Covers x (cell_of S x) ((reads_of n names ++ event n events.assigns h.variable ∷ []) ++ (q ++ exit_events n h b)) (numbered 1 seen ++ rest)
    whole_left seen names saw q rest l = record { read = read; written = λ o. written_parts (numbered 1 seen) rest (cell_of S x) ∙ or_right _ (written_by rest (cell_of S x)) l.written; valued = valued }
      where
        front : Covers x (cell_of S x) (reads_of n names) (numbered 1 seen)
        front = covers_reads x (cell_of S x) n 1 names seen saw

        read : needed_by (numbered 1 seen ++ rest) (cell_of S x) ≡ true → IsReadOn x ((reads_of n names ++ event n events.assigns h.variable ∷ []) ++ (q ++ exit_events n h b))
        read o = elim (needed_parts (numbered 1 seen) rest (cell_of S x) o) [
          | inl i ↦ (let r = front.read i in (r.0, reads_first-front x r.0 (reads_of n names ++ event n events.assigns h.variable ∷ []) (q ++ exit_events n h b) (reads_first-front x r.0 (reads_of n names) (event n events.assigns h.variable ∷ []) r.1)))
          | inr i ↦ (let z : false ≡ true = sym l.unneeded ∙ i.1 in untrue z)
        ]

        lost : (before : Bool) → has_value x before ((reads_of n names ++ event n events.assigns h.variable ∷ []) ++ (q ++ exit_events n h b)) ≡ true → is_among x (cleared h b) ≡ true → ⊥
        lost before v k =
            let e1 = has_value-append x before (reads_of n names ++ event n events.assigns h.variable ∷ []) (q ++ exit_events n h b) in
            let e2 = has_value-append x (has_value x before (reads_of n names ++ event n events.assigns h.variable ∷ [])) q (exit_events n h b) in
            let z : false ≡ true = sym (cleared_lost x n (has_value x (has_value x before (reads_of n names ++ event n events.assigns h.variable ∷ [])) q) (cleared h b) k) ∙ (sym e2 ∙ (sym e1 ∙ v)) in
            untrue z

        valued : (before : Bool) → has_value x before ((reads_of n names ++ event n events.assigns h.variable ∷ []) ++ (q ++ exit_events n h b)) ≡ true → holds_number (cell_of S x) before (numbered 1 seen ++ rest) ≡ true
        valued before v = holds_append (cell_of S x) before (numbered 1 seen) rest ∙ l.valued (not_so (is_among x (cleared h b)) (lost before v)) (holds_number (cell_of S x) before (numbered 1 seen))

    pub loop_left : (seen : List Seen) (names : List (List ℕ)) → (is_seen (cell_of S x) seen ≡ true → is_among x names ≡ true) → (s : Store)
        → Goes (OfLoop names) (touches_of (run_from_entry seen e S at body s).acts) (run_from_entry seen e S at body s).ending
    loop_left seen names saw s =
        goes_map (BehindBounds seen) (OfLoop names)
        (λ q. (reads_of n names ++ event n events.assigns h.variable ∷ []) ++ (q ++ exit_events n h b)) (touches_of (run_from_entry seen e S at body s).acts) (run_from_entry seen e S at body s).ending
        (λ q k. (
          (reads_of n names ++ event n events.assigns h.variable ∷ [], q ++ exit_events n h b, refl, refl, (q, exit_events n h b, refl, k.0, refl)),
          subst (λ (z : List Touch). Covers x (cell_of S x) ((reads_of n names ++ event n events.assigns h.variable ∷ []) ++ (q ++ exit_events n h b)) z) (sym k.1.1) (whole_left seen names saw q k.1.0 k.1.2),
        ))
        (entered_left e.head.parallel e.count seen s)

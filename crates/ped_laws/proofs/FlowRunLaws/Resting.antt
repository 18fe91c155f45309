-- What is left of a DO behind one of its iterations.
use Rattle.std.proofs.Common.{◌≡◌, ℕ, zero, suc, ◌+◌, ◌≤◌, ◌<◌, List, [], ◌∷◌, ◌++◌, Bool, true, false, ◌||◌, Some, None, if◌then◌else◌, refl, sym, ap, subst, ◌∙◌, ◌⊎◌, inl, inr, append_assoc, arith}
use Rattle.std.proofs.lemmas.List.{append-nil}
use Rattle.ped_flow.specs.ped_base.specs.Lists.{is_same_text, is_among}
use Rattle.ped_flow.specs.ped_tree.specs.Tree.{Head, StmtTrees}
use Rattle.ped_flow.specs.ped_tree.specs.Numbering.{statements_count}
use Rattle.ped_eval.specs.ped_store.specs.Cells.{Cell}
use Rattle.ped_eval.specs.ped_store.specs.Stores.{Store}
use Rattle.ped_eval.specs.ped_store.specs.Acts.{Touch, Place, ended_turn, closed, Act, store_behind}
use Rattle.ped_laws.specs.Acts.Fitting.{touches_of}
use Rattle.ped_laws.specs.Acts.Sets.{written_by, needed_by}
use Rattle.ped_eval.specs.Scopes.{Frame, Scope, Setting, place_of, cell_of, index_value}
use Rattle.ped_eval.specs.Evaluation.{Seen}
use Rattle.ped_eval.specs.Loops.{Limits, Entered, entered_with, inner_variables, copied_names, frame, exit_touches, exit_when_none}
use Rattle.ped_eval.specs.Runs.{Ending, going, stopped, failed, Run, followed_by, then_run, does, nothing_done, turns, parallel_turns, run_entered, run_all}
use Rattle.ped_flow.specs.Events.{Event, copied, exit_events, start_events}
use Rattle.ped_flow.specs.PathSets.{Kind, Just, InTurn, Times, AnyTimes, Paths}
use Rattle.ped_flow.specs.Paths.{all_paths}
use Rattle.ped_flow.specs.Questions.{all_reads_outside}
use Rattle.ped_flow.proofs.Truths.{untrue}
use Rattle.ped_laws.specs.FlowRuns.Covering.{is_cell_of, Covers, AreCovered, some_stop}
use Rattle.ped_laws.specs.FlowRuns.Exits.{Follows}
use Rattle.ped_laws.proofs.FlowRunLaws.Coverings.{covers_at_end, covers_append, not_so}
use Rattle.ped_laws.proofs.FlowRunLaws.Names.{copied_among}
use Rattle.ped_laws.proofs.FlowRunLaws.Leavings.{IsLeft}
use Rattle.ped_laws.proofs.FlowRunLaws.Reading.{reads_cell, needed_read, then_read, act_read, maybe_exit_unread, exit_unread, ReadIn, turns_read, parallel_read}
use Rattle.ped_laws.proofs.FlowRunLaws.Unstopped.{IsUnstopped, all_unstopped}
use Rattle.ped_laws.proofs.FlowRunLaws.Located.{IsLocated, IsDeeper, all_located}
use Rattle.ped_laws.proofs.FlowRunLaws.Apart.{IsInTrip, one_trip, trip_not_own, deeper_in_trip, inside_trip}
use Rattle.ped_laws.proofs.FlowRunLaws.Covered.{or_true, iteration_unneeded}
use Rattle.ped_laws.proofs.FlowRunLaws.Looping.{Goes, goes_then, goes_act, no_exit}
use Rattle.ped_laws.proofs.FlowRunLaws.Looping as loop

-- what is left: so many iterations from this one on, and the exit
abbrev pub rest_run : Bool → Entered → Scope → Place → (Frame → Store → Run) → ℕ → ℕ → Store → Run
rest_run false e S at body m k u = does (ended_turn m) at (exit_when_none m e S) (turns m k e S at body) u
rest_run true e S at body m k u = then_run (parallel_turns m k e body u) (does closed at (exit_touches e S) nothing_done)

pub rest_read : (c : Cell) (parallel : Bool) (e : Entered) (S : Scope) (at : Place) (body : Frame → Store → Run) (m k : ℕ) (u : Store) → reads_cell c (touches_of (rest_run parallel e S at body m k u).acts) ≡ true → ReadIn c (λ j. body (frame e j)) k m
rest_read c false e S at body m k u h = elim (act_read c (ended_turn m) at (exit_when_none m e S) (turns m k e S at body) u h) [
  | inl g ↦ (let z : false ≡ true = sym (maybe_exit_unread c m e S) ∙ g in untrue z)
  | inr g ↦ turns_read c m k e S at body (store_behind (exit_when_none m e S) u) g
]
rest_read c true e S at body m k u h = elim (then_read c (parallel_turns m k e body u).acts (parallel_turns m k e body u).ending (does closed at (exit_touches e S) nothing_done) h) [
  | inl g ↦ parallel_read c m k e body u g
  | inr g ↦ elim (act_read c closed at (exit_touches e S) nothing_done g.0 g.1) [ inl i ↦ (let z : false ≡ true = sym (exit_unread c e S) ∙ i in untrue z) | inr i ↦ untrue i ]
]

-- one run, another, and a third
then_assoc : (acts : List Act) (e : Ending) (next third : Store → Run) → followed_by (followed_by acts e next).acts (followed_by acts e next).ending third ≡ followed_by acts e (λ u. then_run (next u) third)
then_assoc acts (going u) next third = by (next u).ending
  where
    by : (e : Ending) → followed_by (acts ++ (next u).acts) e third ≡ (record { acts = acts ++ (followed_by (next u).acts e third).acts; ending = (followed_by (next u).acts e third).ending })
    by (going w) = ap (λ (z : List Act). record { acts = z; ending = (third w).ending }) (append_assoc acts (next u).acts (third w).acts)
    by (stopped w) = refl
    by (failed fault n) = refl
then_assoc acts (stopped u) next third = refl
then_assoc acts (failed fault n) next third = refl

-- an iteration, and what is left behind it
pub more_rest : (e : Entered) (S : Scope) (at : Place) (body : Frame → Store → Run) (m k : ℕ) (u : Store) → rest_run true e S at body (suc m) k u ≡ then_run (body (frame e k) u) (rest_run true e S at body m (k + 1))
more_rest e S at body m k u = then_assoc (body (frame e k) u).acts (body (frame e k) u).ending (parallel_turns m (k + 1) e body) (does closed at (exit_touches e S) nothing_done)

pub entered_rest : (parallel : Bool) (e : Entered) (S : Scope) (at : Place) (body : Frame → Store → Run) (m : ℕ) (u : Store) → run_entered parallel (suc m) e S at body u ≡ then_run (body (frame e 1) u) (rest_run parallel e S at body m 2)
entered_rest false e S at body m u = refl
entered_rest true e S at body m u = more_rest e S at body m 1 u

module _ (x : List ℕ) (S : Scope) (at : Place) (n : ℕ) (h : Head) (b : StmtTrees) (A : Paths) (e : Entered) (head : e.head ≡ h) (inner : e.inner ≡ inner_variables h.parallel b)
    (body : Frame → Store → Run) (unstopped : (f : Frame) (u : Store) → IsUnstopped (body f u).ending) (covered : (f : Frame) (u : Store) → AreCovered A x (cell_of (f ∷ S) x) (touches_of (body f u).acts) (body f u).ending) where
  abbrev Trip : Kind
  Trip = InTurn (Just (start_events n h b)) A.onward

  pub rest_away : (is_same_text x h.variable || is_among x (copied h b)) ≡ false → (parallel : Bool) (m k : ℕ) (u : Store)
      → Goes (λ q ts. AnyTimes Trip q × Covers x (cell_of S x) q ts) (touches_of (rest_run parallel e S at body m k u).acts) (rest_run parallel e S at body m k u).ending
  rest_away away false m k u =
      goes_act (λ q ts. Times m Trip q × Covers x (cell_of S x) q ts) (λ q ts. AnyTimes Trip q × Covers x (cell_of S x) q ts) (ended_turn m) at (exit_when_none m e S) (turns m k e S at body) u
      (λ q ys g. ((m, g.0), covers_append x (cell_of S x) [] q (exit_when_none m e S) ys (loop.maybe_exit_others x S at n h b A e head inner body unstopped covered away m) g.1))
      (loop.turns_go x S at n h b A e head inner body unstopped covered away m k (store_behind (exit_when_none m e S) u))
  rest_away away true m k u =
      goes_then (λ q ts. Times m Trip q × Covers x (cell_of S x) q ts) (λ q ts. Just [] q × Covers x (cell_of S x) q ts) (λ q ts. AnyTimes Trip q × Covers x (cell_of S x) q ts) (parallel_turns m k e body u).acts (parallel_turns m k e body u).ending (does closed at (exit_touches e S) nothing_done)
      (loop.closing x S at n h b A e head inner body unstopped covered away m)
      (loop.parallel_go x S at n h b A e head inner body unstopped covered away m k u)
      (λ w. ([], (refl, covers_at_end x (cell_of S x) [] (exit_touches e S) (loop.exit_others x S at n h b A e head inner body unstopped covered away))))

  pub rest_left : (is_same_text x h.variable || is_among x (copied h b)) ≡ true → ((j : ℕ) (u : Store) → needed_by (touches_of (body (frame e j) u).acts) (cell_of S x) ≡ false) → (parallel : Bool) (m k : ℕ) (u : Store)
      → Goes (λ q ts. AnyTimes Trip q × IsLeft x (cell_of S x) h b ts) (touches_of (rest_run parallel e S at body m k u).acts) (rest_run parallel e S at body m k u).ending
  rest_left leaves unneeded false zero k u = ([], ((0, refl), loop.exit_is_left x S at n h b A e head inner body unstopped covered leaves unneeded))
  rest_left leaves unneeded false (suc m) k u =
      subst (λ (z : List Touch). Goes (λ q ts. AnyTimes Trip q × IsLeft x (cell_of S x) h b ts) (touches_of (does (ended_turn (suc m)) at z (turns (suc m) k e S at body) u).acts) (does (ended_turn (suc m)) at z (turns (suc m) k e S at body) u).ending) (sym (no_exit m e S))
      (goes_act (λ q ts. Times (suc m) Trip q × IsLeft x (cell_of S x) h b ts) (λ q ts. AnyTimes Trip q × IsLeft x (cell_of S x) h b ts) (ended_turn (suc m)) at [] (turns (suc m) k e S at body) u (λ q ys g. ((suc m, g.0), g.1))
      (loop.turns_left x S at n h b A e head inner body unstopped covered leaves unneeded m k u))
  rest_left leaves unneeded true m k u =
      goes_then (λ q ts. Times m Trip q × (needed_by ts (cell_of S x) ≡ false)) (λ q ts. Just [] q × IsLeft x (cell_of S x) h b ts) (λ q ts. AnyTimes Trip q × IsLeft x (cell_of S x) h b ts) (parallel_turns m k e body u).acts (parallel_turns m k e body u).ending (does closed at (exit_touches e S) nothing_done)
      (loop.closing_left x S at n h b A e head inner body unstopped covered leaves unneeded m)
      (loop.parallel_unneeded x S at n h b A e head inner body unstopped covered leaves unneeded m k u)
      (λ w. ([], (refl, loop.exit_is_left x S at n h b A e head inner body unstopped covered leaves unneeded)))

-- what is left of a DO behind an iteration: a path follows it, as to a cell that the scalar stands for in the iteration
pub record RestFollows (x : List ℕ) (own within c : Cell) (path : List Event) (ts : List Touch) : Type 0 where
  pub follows : Follows x own c path ts
  pub need : (c ≡ within) ⊎ (needed_by ts c ≡ false)
  pub write : c ≡ own → (c ≡ within) ⊎ (written_by ts c ≡ true)

goes_into : (P R : List Event → List Touch → Type 0) (ts : List Touch) (e : Ending) → ((q : List Event) → P q ts → R q ts) → Goes P ts e → Goes R ts e
goes_into P R ts (going s) into g = (g.0, into g.0 g.1)
goes_into P R ts (stopped s) into g = g
goes_into P R ts (failed fault n) into g = tt

module _ (p : Setting) (constants : List (List ℕ)) (x : List ℕ) (other : is_among x constants ≡ false) (S : Scope) (n : ℕ) (h : Head) (b : StmtTrees) (seen : List Seen) (l : Limits) (unstopping : some_stop b ≡ false) where
  abbrev E : Entered
  E = entered_with p n h b seen l

  abbrev Body : Frame → Store → Run
  Body f = run_all p b (n + 1) (f ∷ S)

  untold_copied : (i : ℕ) → (is_same_text x h.variable || is_among x (copied h b)) ≡ true → index_value (frame E i ∷ S) x ≡ None → is_among x (copied_names E) ≡ true
  untold_copied i leaves u = copied_among x h b E refl refl ∙ by (is_same_text x h.variable) refl u
    where
      into : (parallel : Bool) → is_among x (copied h b) ≡ true → is_among x ((if parallel then h.variable ∷ [] else []) ++ copied h b) ≡ true
      into true g = (λ i. is_same_text x h.variable || g i) ∙ or_true (is_same_text x h.variable)
      into false g = g

      by : (same : Bool) → is_same_text x h.variable ≡ same → (if is_same_text x h.variable then Some (frame E i).turn.value else index_value S x) ≡ None → is_among x ((if h.parallel then h.variable ∷ [] else []) ++ copied h b) ≡ true
      by true k g = let z : (if is_same_text x h.variable then Some (frame E i).turn.value else index_value S x) ≡ Some (frame E i).turn.value = ap (λ (q : Bool). if q then Some (frame E i).turn.value else index_value S x) k in absurd cc
      by false k g = into h.parallel (sym (ap (λ (q : Bool). q || is_among x (copied h b)) k) ∙ leaves)

  module _ (c : Cell) (named : is_cell_of x c ≡ true) (m k j : ℕ) (before : j < k) where
    abbrev Within : ℕ → Type 0
    Within i = (c ≡ cell_of (frame E i ∷ S) x) ⊎ IsDeeper p x c (frame E i ∷ S) (n + 1) (statements_count b)

    not_both : (i : ℕ) → k ≤ i → IsInTrip p x c S n i → IsInTrip p x c S n j → ⊥
    not_both i from g t = let e = one_trip p x c S n i j g t in omega (arith, e, from, before)

    -- no iteration from k on needs the cell, where the DO leaves the scalar
    left_unneeded : (parallel : Bool) (u : Store) → (is_same_text x h.variable || is_among x (copied h b)) ≡ true → Within j → needed_by (touches_of (rest_run parallel E S (place_of p n S) Body m k u).acts) c ≡ false
    left_unneeded parallel u leaves cell = not_so _ (λ o. later (rest_read c parallel E S (place_of p n S) Body m k u (needed_read c _ o)))
      where
        by : (i : ℕ) → k ≤ i → IsLocated p x c (frame E i ∷ S) (n + 1) (statements_count b) (λ r. all_reads_outside constants x r b (n + 1)) → ⊥
        by i from g =
            let names = untold_copied i leaves g.untold in
            not_both i from (inside_trip p x c S n b E refl i (n + 1) (statements_count b) names g.cell) (inside_trip p x c S n b E refl j (n + 1) (statements_count b) names cell)

        later : ReadIn c (λ i. Body (frame E i)) k m → ⊥
        later r = by r.0 r.2 (all_located p constants x c named other b (n + 1) (frame E r.0 ∷ S) r.1 r.4)

    -- nor where the cell belongs to an iteration of a DO in an earlier one
    deeper_unneeded : (parallel : Bool) (u : Store) → ((i : ℕ) → cell_of (frame E i ∷ S) x ≡ cell_of S x) → IsDeeper p x c (frame E j ∷ S) (n + 1) (statements_count b)
        → needed_by (touches_of (rest_run parallel E S (place_of p n S) Body m k u).acts) c ≡ false
    deeper_unneeded parallel u own cell = not_so _ (λ o. later (rest_read c parallel E S (place_of p n S) Body m k u (needed_read c _ o)))
      where
        by : (i : ℕ) → k ≤ i → Within i → ⊥
        by i from (inl e) = trip_not_own p x c S n j (deeper_in_trip p x c S n b E refl j (n + 1) (statements_count b) cell) (e ∙ own i)
        by i from (inr d) = not_both i from (deeper_in_trip p x c S n b E refl i (n + 1) (statements_count b) d) (deeper_in_trip p x c S n b E refl j (n + 1) (statements_count b) cell)

        later : ReadIn c (λ i. Body (frame E i)) k m → ⊥
        later r = by r.0 r.2 (all_located p constants x c named other b (n + 1) (frame E r.0 ∷ S) r.1 r.4).cell

    module _ (of_body : (f : Frame) (u : Store) → AreCovered (all_paths constants b (n + 1)) x (cell_of (f ∷ S) x) (touches_of (Body f u).acts) (Body f u).ending) where
      abbrev Rest : List Event → List Touch → Type 0
      Rest path ts = AnyTimes (InTurn (Just (start_events n h b)) (all_paths constants b (n + 1)).onward) path × RestFollows x (cell_of S x) (cell_of (frame E j ∷ S) x) c (path ++ exit_events n h b) ts

      followed_left : (parallel : Bool) (u : Store) → (is_same_text x h.variable || is_among x (copied h b)) ≡ true → Within j
          → Goes Rest (touches_of (rest_run parallel E S (place_of p n S) Body m k u).acts) (rest_run parallel E S (place_of p n S) Body m k u).ending
      followed_left parallel u leaves cell =
          goes_into (λ q ts. AnyTimes (InTurn (Just (start_events n h b)) (all_paths constants b (n + 1)).onward) q × IsLeft x (cell_of S x) h b ts) Rest (touches_of (rest_run parallel E S (place_of p n S) Body m k u).acts) (rest_run parallel E S (place_of p n S) Body m k u).ending
          (λ q g. (
            g.0,
            record {
              follows = record { read = λ o. (let z : false ≡ true = sym (left_unneeded parallel u leaves cell) ∙ o in untrue z); written = λ e o. written e g.1 };
              need = inr (left_unneeded parallel u leaves cell);
              write = λ e. inr (written e g.1);
            },
          ))
          (rest_left x S (place_of p n S) n h b (all_paths constants b (n + 1)) E refl refl Body (λ f w. all_unstopped p b (n + 1) (f ∷ S) w unstopping) of_body leaves (iteration_unneeded p constants x other S n h b seen l leaves) parallel m k u)
        where
          written : c ≡ cell_of S x → IsLeft x (cell_of S x) h b (touches_of (rest_run parallel E S (place_of p n S) Body m k u).acts) → written_by (touches_of (rest_run parallel E S (place_of p n S) Body m k u).acts) c ≡ true
          written e g = ap (λ (d : Cell). written_by (touches_of (rest_run parallel E S (place_of p n S) Body m k u).acts) d) e ∙ g.written

      followed_away : (parallel : Bool) (u : Store) → (is_same_text x h.variable || is_among x (copied h b)) ≡ false → Within j
          → Goes Rest (touches_of (rest_run parallel E S (place_of p n S) Body m k u).acts) (rest_run parallel E S (place_of p n S) Body m k u).ending
      followed_away parallel u away cell =
          goes_into (λ q ts. AnyTimes (InTurn (Just (start_events n h b)) (all_paths constants b (n + 1)).onward) q × Covers x (cell_of S x) q ts) Rest (touches_of (rest_run parallel E S (place_of p n S) Body m k u).acts) (rest_run parallel E S (place_of p n S) Body m k u).ending
          (λ q g. (g.0, follows cell q (with_exit q g.1)))
          (rest_away x S (place_of p n S) n h b (all_paths constants b (n + 1)) E refl refl Body (λ f w. all_unstopped p b (n + 1) (f ∷ S) w unstopping) of_body away parallel m k u)
        where
          own : (i : ℕ) → cell_of (frame E i ∷ S) x ≡ cell_of S x
          own i = loop.same_copy x S (place_of p n S) n h b (all_paths constants b (n + 1)) E refl refl Body (λ f w. all_unstopped p b (n + 1) (f ∷ S) w unstopping) of_body away i

          with_exit : (q : List Event) → Covers x (cell_of S x) q (touches_of (rest_run parallel E S (place_of p n S) Body m k u).acts) → Covers x (cell_of S x) (q ++ exit_events n h b) (touches_of (rest_run parallel E S (place_of p n S) Body m k u).acts)
          with_exit q g = subst (λ (z : List Touch). Covers x (cell_of S x) (q ++ exit_events n h b) z) (append-nil (touches_of (rest_run parallel E S (place_of p n S) Body m k u).acts))
              (covers_append x (cell_of S x) q (exit_events n h b) (touches_of (rest_run parallel E S (place_of p n S) Body m k u).acts) [] g (loop.exit_away x S (place_of p n S) n h b (all_paths constants b (n + 1)) E refl refl Body (λ f w. all_unstopped p b (n + 1) (f ∷ S) w unstopping) of_body away))

          follows : Within j → (q : List Event) → Covers x (cell_of S x) (q ++ exit_events n h b) (touches_of (rest_run parallel E S (place_of p n S) Body m k u).acts)
              → RestFollows x (cell_of S x) (cell_of (frame E j ∷ S) x) c (q ++ exit_events n h b) (touches_of (rest_run parallel E S (place_of p n S) Body m k u).acts)
          follows (inl e) q g =
              let all = subst (λ (d : Cell). Covers x d (q ++ exit_events n h b) (touches_of (rest_run parallel E S (place_of p n S) Body m k u).acts)) (sym (e ∙ own j)) g in
              record { follows = record { read = all.read; written = λ i o. all.written o }; need = inl e; write = λ i. inl e }
          follows (inr d) q g = record {
            follows = record {
              read = λ o. (let z : false ≡ true = sym (deeper_unneeded parallel u own d) ∙ o in untrue z);
              written = λ i o. absurd (trip_not_own p x c S n j (deeper_in_trip p x c S n b E refl j (n + 1) (statements_count b) d) i);
            };
            need = inr (deeper_unneeded parallel u own d);
            write = λ i. absurd (trip_not_own p x c S n j (deeper_in_trip p x c S n b E refl j (n + 1) (statements_count b) d) i);
          }

      -- a path follows what is left
      pub rest_followed : (parallel : Bool) (u : Store) → Within j → Goes Rest (touches_of (rest_run parallel E S (place_of p n S) Body m k u).acts) (rest_run parallel E S (place_of p n S) Body m k u).ending
      rest_followed parallel u cell = by (is_same_text x h.variable || is_among x (copied h b)) refl
        where
          by : (handled : Bool) → (is_same_text x h.variable || is_among x (copied h b)) ≡ handled → Goes Rest (touches_of (rest_run parallel E S (place_of p n S) Body m k u).acts) (rest_run parallel E S (place_of p n S) Body m k u).ending
          by true e = followed_left parallel u e cell
          by false e = followed_away parallel u e cell

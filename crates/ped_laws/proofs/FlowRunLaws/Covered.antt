-- A path of statements covers their acts.
use Rattle.std.proofs.Common.{◌≡◌, ℕ, ◌+◌, List, [], ◌∷◌, ◌++◌, Bool, true, false, ◌||◌, Result, Ok, Err, if◌then◌else◌, refl, sym, ap, subst, ◌∙◌, inl, inr, append_assoc}
use Rattle.ped_flow.specs.ped_base.specs.Lists.{is_same_text, is_among}
use Rattle.ped_flow.specs.ped_tree.specs.Tree.{CondTree, Head, StmtTree, StmtTrees, Assign, If, Do, Print, Read, Stop, Comment, no_stmts, more_stmts}
use Rattle.ped_flow.specs.ped_tree.specs.Numbering.{statement_count, statements_count}
use Rattle.ped_eval.specs.ped_store.specs.Cells.{Cell, Private, Iteration}
use Rattle.ped_eval.specs.ped_store.specs.Stores.{Store}
use Rattle.ped_eval.specs.ped_store.specs.Acts.{Touch, did, Act, store_behind, iterations_of}
use Rattle.ped_laws.specs.Acts.Fitting.{touches_of}
use Rattle.ped_laws.specs.Acts.Sets.{needed_by}
use Rattle.ped_eval.specs.Scopes.{Frame, Scope, Setting, names_in, place_of, turns_of, cell_of}
use Rattle.ped_eval.specs.Evaluation.{Seen, numbered}
use Rattle.ped_eval.specs.Values.{truth}
use Rattle.ped_eval.specs.Loops.{Limits, limits, entered_with, copied_names, frame}
use Rattle.ped_eval.specs.Runs.{Ending, going, stopped, failed, Run, followed_by, on_value, does, run_if, run_from_entry, run, run_all}
use Rattle.ped_flow.specs.Events.{Event, scalars_in, scalars_in_cond, own_events, copied}
use Rattle.ped_flow.specs.PathSets as paths
use Rattle.ped_flow.specs.PathSets.{Paths, in_turn, either}
use Rattle.ped_flow.specs.Paths.{paths, all_paths}
use Rattle.ped_flow.specs.Questions.{all_reads_outside}
use Rattle.ped_flow.proofs.Truths.{or_none}
use Rattle.ped_laws.proofs.ActLaws.Reorderings.{touches_append}
use Rattle.ped_laws.specs.FlowRuns.Covering.{Covers, AreCovered, has_stop, some_stop, stops_in_loop, some_stops_in_loop}
use Rattle.ped_laws.proofs.FlowRunLaws.Cells.{cell_named}
use Rattle.ped_laws.proofs.FlowRunLaws.Seeing.{is_seen, truth_seen, limits_seen}
use Rattle.ped_laws.proofs.FlowRunLaws.Coverings.{covers_nothing, covers_append, covers_reads, not_so}
use Rattle.ped_laws.proofs.FlowRunLaws.Leaves.{assignment_covered, print_covered, read_covered}
use Rattle.ped_laws.proofs.FlowRunLaws.Names.{copied_among, no_copy_within}
use Rattle.ped_laws.proofs.FlowRunLaws.Reading.{needed_read}
use Rattle.ped_laws.proofs.FlowRunLaws.Located.{IsLocated, IsDeeper, turn_of, untold_round, copies, all_located}
use Rattle.ped_laws.proofs.FlowRunLaws.Unstopped.{all_unstopped}
use Rattle.ped_laws.proofs.FlowRunLaws.Looping.{Goes, loop_away, loop_left}

-- statements without a STOP have none in a DO
mutual
  pub no_stop_in_loop : (t : StmtTree) → has_stop t ≡ false → stops_in_loop t ≡ false
  no_stop_in_loop (Assign left right) h = refl
  no_stop_in_loop (If condition a b) h =
      let k = or_none (some_stop a) (some_stop b) h in
      λ i. none_in_loops a k.0 i || none_in_loops b k.1 i
  no_stop_in_loop (Do h b) k = k
  no_stop_in_loop (Print items) h = refl
  no_stop_in_loop (Read items) h = refl
  no_stop_in_loop Stop h = refl
  no_stop_in_loop (Comment text) h = refl

  pub none_in_loops : (ts : StmtTrees) → some_stop ts ≡ false → some_stops_in_loop ts ≡ false
  none_in_loops no_stmts h = refl
  none_in_loops (more_stmts t rest) h =
      let k = or_none (has_stop t) (some_stop rest) h in
      λ i. no_stop_in_loop t k.0 i || none_in_loops rest k.1 i

pub or_true : (b : Bool) → (b || true) ≡ true
or_true true = refl
or_true false = refl

module _ (x : List ℕ) (c : Cell) where
  -- a run and then another
  pub covered_then : (A B : Paths) (acts : List Act) (e : Ending) (next : Store → Run) → AreCovered A x c (touches_of acts) e → ((u : Store) → AreCovered B x c (touches_of (next u).acts) (next u).ending)
      → AreCovered (in_turn A B) x c (touches_of (followed_by acts e next).acts) (followed_by acts e next).ending
  covered_then A B acts (going s) next h k = further (next s).ending (k s)
    where
      both : (q : List Event) → Covers x c q (touches_of (next s).acts) → Covers x c (h.0 ++ q) (touches_of (acts ++ (next s).acts))
      both q g = subst (λ (z : List Touch). Covers x c (h.0 ++ q) z) (sym (touches_append acts (next s).acts)) (covers_append x c h.0 q (touches_of acts) (touches_of (next s).acts) h.2 g)

      further : (e : Ending) → AreCovered B x c (touches_of (next s).acts) e → AreCovered (in_turn A B) x c (touches_of (acts ++ (next s).acts)) e
      further (going u) g = (h.0 ++ g.0, (h.0, g.0, refl, h.1, g.1), both g.0 g.2)
      further (stopped u) g = (h.0 ++ g.0, inr (h.0, g.0, refl, h.1, g.1), both g.0 g.2)
      further (failed fault n) g = tt
  covered_then A B acts (stopped s) next h k = (h.0, inl h.1, h.2)
  covered_then A B acts (failed fault n) next h k = tt

  -- either of two parts
  pub covered_first : (A B : Paths) (ts : List Touch) (e : Ending) → AreCovered A x c ts e → AreCovered (either A B) x c ts e
  covered_first A B ts (going s) h = (h.0, inl h.1, h.2)
  covered_first A B ts (stopped s) h = (h.0, inl h.1, h.2)
  covered_first A B ts (failed fault n) h = tt

  pub covered_second : (A B : Paths) (ts : List Touch) (e : Ending) → AreCovered B x c ts e → AreCovered (either A B) x c ts e
  covered_second A B ts (going s) h = (h.0, inr h.1, h.2)
  covered_second A B ts (stopped s) h = (h.0, inr h.1, h.2)
  covered_second A B ts (failed fault n) h = tt

  -- touches and then what comes behind them
  pub covered_behind : (own : List Event) (B : Paths) (xs ys : List Touch) (e : Ending) → Covers x c own xs → AreCovered B x c ys e → AreCovered (in_turn (paths.going own) B) x c (xs ++ ys) e
  covered_behind own B xs ys (going s) h g = (own ++ g.0, (own, g.0, refl, refl, g.1), covers_append x c own g.0 xs ys h g.2)
  covered_behind own B xs ys (stopped s) h g = (own ++ g.0, inr (own, g.0, refl, refl, g.1), covers_append x c own g.0 xs ys h g.2)
  covered_behind own B xs ys (failed fault n) h g = tt

  pub part_covered : (A B : Paths) (holds : Bool) (a b : Store → Run) (s : Store) → AreCovered A x c (touches_of (a s).acts) (a s).ending → AreCovered B x c (touches_of (b s).acts) (b s).ending
      → AreCovered (either A B) x c (touches_of ((if holds then a else b) s).acts) ((if holds then a else b) s).ending
  part_covered A B true a b s h k = covered_first A B (touches_of (a s).acts) (a s).ending h
  part_covered A B false a b s h k = covered_second A B (touches_of (b s).acts) (b s).ending k

module _ (p : Setting) (constants : List (List ℕ)) (x : List ℕ) (other : is_among x constants ≡ false) where
  if_covered : (S : Scope) (n : ℕ) (condition : CondTree) (a b : StmtTrees) (A B : Paths) (run_a run_b : Store → Run) (s : Store)
      → ((u : Store) → AreCovered A x (cell_of S x) (touches_of (run_a u).acts) (run_a u).ending) → ((u : Store) → AreCovered B x (cell_of S x) (touches_of (run_b u).acts) (run_b u).ending)
      → AreCovered (in_turn (paths.going (own_events constants n (If condition a b))) (either A B)) x (cell_of S x)
      (touches_of (run_if (names_in p S) (place_of p n S) condition run_a run_b s).acts) (run_if (names_in p S) (place_of p n S) condition run_a run_b s).ending
  if_covered S n condition a b A B run_a run_b s h k = go (truth (names_in p S) condition s).seen (truth (names_in p S) condition s).result (λ g. (truth_seen p S constants x (cell_of S x) (cell_named S x) other s condition g).among)
    where
      go : (seen : List Seen) (r : Result Bool ℕ) → (is_seen (cell_of S x) seen ≡ true → is_among x (scalars_in_cond constants condition) ≡ true)
          → AreCovered (in_turn (paths.going (own_events constants n (If condition a b))) (either A B)) x (cell_of S x)
          (touches_of (on_value (place_of p n S) seen r (λ seen holds. does did (place_of p n S) (numbered 1 seen) (if holds then run_a else run_b) s)).acts)
          (on_value (place_of p n S) seen r (λ seen holds. does did (place_of p n S) (numbered 1 seen) (if holds then run_a else run_b) s)).ending
      go seen (Ok holds) saw =
          covered_behind x (cell_of S x) (own_events constants n (If condition a b)) (either A B) (numbered 1 seen) (touches_of ((if holds then run_a else run_b) (store_behind (numbered 1 seen) s)).acts) ((if holds then run_a else run_b) (store_behind (numbered 1 seen) s)).ending
          (covers_reads x (cell_of S x) n 1 (scalars_in_cond constants condition) seen saw)
          (part_covered x (cell_of S x) A B holds run_a run_b (store_behind (numbered 1 seen) s) (h (store_behind (numbered 1 seen) s)) (k (store_behind (numbered 1 seen) s)))
      go seen (Err f) saw = tt

  -- no iteration needs the cell of a scalar that the DO leaves
  pub iteration_unneeded : (S : Scope) (n : ℕ) (h : Head) (b : StmtTrees) (seen : List Seen) (l : Limits) → (is_same_text x h.variable || is_among x (copied h b)) ≡ true → (j : ℕ) (u : Store)
      → needed_by (touches_of (run_all p b (n + 1) (frame (entered_with p n h b seen l) j ∷ S) u).acts) (cell_of S x) ≡ false
  iteration_unneeded S n h b seen l leaves j u = not_so _ (λ k. reads (all_located p constants x (cell_of S x) (cell_named S x) other b (n + 1) (frame (entered_with p n h b seen l) j ∷ S) u (needed_read (cell_of S x) _ k)))
    where
      longer : iterations_of (turns_of (frame (entered_with p n h b seen l) j ∷ S)) ≡ iterations_of (turns_of S) ++ turn_of p n j ∷ []
      longer = copies p constants x (cell_of S x) (cell_named S x) other S n h b (entered_with p n h b seen l) refl refl j

      names : is_same_text x h.variable ≡ false → is_among x (copied_names (entered_with p n h b seen l)) ≡ true
      names k = copied_among x h b (entered_with p n h b seen l) refl refl ∙ by h.parallel (sym (ap (λ (z : Bool). z || is_among x (copied h b)) k) ∙ leaves)
        where
          by : (parallel : Bool) → is_among x (copied h b) ≡ true → is_among x ((if parallel then h.variable ∷ [] else []) ++ copied h b) ≡ true
          by true g = (λ i. is_same_text x h.variable || g i) ∙ or_true (is_same_text x h.variable)
          by false g = g

      own : is_same_text x h.variable ≡ false → cell_of S x ≡ cell_of (frame (entered_with p n h b seen l) j ∷ S) x → ⊥
      own k g = no_copy_within S x x (turn_of p n j) [] (g ∙ ap (λ (z : Bool). if z then Private x (iterations_of (turns_of (frame (entered_with p n h b seen l) j ∷ S))) else cell_of S x) (names k) ∙ ap (Private x) longer)

      deeper : IsDeeper p x (cell_of S x) (frame (entered_with p n h b seen l) j ∷ S) (n + 1) (statements_count b) → ⊥
      deeper d = no_copy_within S x x (turn_of p n j) (turn_of p d.statement d.number ∷ d.rest)
          (d.is ∙ ap (Private x) (ap (λ (z : List Iteration). z ++ turn_of p d.statement d.number ∷ d.rest) longer ∙ append_assoc (iterations_of (turns_of S)) (turn_of p n j ∷ []) (turn_of p d.statement d.number ∷ d.rest)))

      reads : IsLocated p x (cell_of S x) (frame (entered_with p n h b seen l) j ∷ S) (n + 1) (statements_count b) (λ k. all_reads_outside constants x k b (n + 1)) → ⊥
      reads g = elim g.cell [
        | inl k ↦ own (untold_round p constants x (cell_of S x) (cell_named S x) other S n h b (entered_with p n h b seen l) refl refl j (is_same_text x h.variable) refl g.untold).0 k
        | inr d ↦ deeper d
      ]

  do_covered : (S : Scope) (n : ℕ) (h : Head) (b : StmtTrees) (s : Store) → some_stop b ≡ false
      → ((f : Frame) (u : Store) → AreCovered (all_paths constants b (n + 1)) x (cell_of (f ∷ S) x) (touches_of (run_all p b (n + 1) (f ∷ S) u).acts) (run_all p b (n + 1) (f ∷ S) u).ending)
      → AreCovered (paths constants (Do h b) n) x (cell_of S x) (touches_of (run p (Do h b) n S s).acts) (run p (Do h b) n S s).ending
  do_covered S n h b s unstopping of_body = go (limits (names_in p S) h s).seen (limits (names_in p S) h s).result (λ g. (limits_seen p S constants x (cell_of S x) (cell_named S x) other s h g).among)
    where
      goes_on : (ts : List Touch) (ending : Ending) → Goes (λ path ys. (paths constants (Do h b) n).onward path × Covers x (cell_of S x) path ys) ts ending → AreCovered (paths constants (Do h b) n) x (cell_of S x) ts ending
      goes_on ts (going u) g = (g.0, g.1.0, g.1.1)
      goes_on ts (stopped u) g = absurd g
      goes_on ts (failed fault k) g = tt

      loop : (seen : List Seen) (l : Limits) (handled : Bool) → (is_same_text x h.variable || is_among x (copied h b)) ≡ handled → (is_seen (cell_of S x) seen ≡ true → is_among x (scalars_in constants h.first ++ scalars_in constants h.last) ≡ true)
          → AreCovered (paths constants (Do h b) n) x (cell_of S x)
          (touches_of (run_from_entry seen (entered_with p n h b seen l) S (place_of p n S) (λ f. run_all p b (n + 1) (f ∷ S)) s).acts) (run_from_entry seen (entered_with p n h b seen l) S (place_of p n S) (λ f. run_all p b (n + 1) (f ∷ S)) s).ending
      loop seen l true k saw =
          goes_on _ _ (loop_left x S (place_of p n S) n h b (all_paths constants b (n + 1)) (entered_with p n h b seen l) refl refl (λ f. run_all p b (n + 1) (f ∷ S)) (λ f u. all_unstopped p b (n + 1) (f ∷ S) u unstopping) of_body
          k (iteration_unneeded S n h b seen l k) seen (scalars_in constants h.first ++ scalars_in constants h.last) saw s)
      loop seen l false k saw =
          goes_on _ _ (loop_away x S (place_of p n S) n h b (all_paths constants b (n + 1)) (entered_with p n h b seen l) refl refl (λ f. run_all p b (n + 1) (f ∷ S)) (λ f u. all_unstopped p b (n + 1) (f ∷ S) u unstopping) of_body
          k seen (scalars_in constants h.first ++ scalars_in constants h.last) saw s)

      go : (seen : List Seen) (r : Result Limits ℕ) → (is_seen (cell_of S x) seen ≡ true → is_among x (scalars_in constants h.first ++ scalars_in constants h.last) ≡ true)
          → AreCovered (paths constants (Do h b) n) x (cell_of S x)
          (touches_of (on_value (place_of p n S) seen r (λ seen l. run_from_entry seen (entered_with p n h b seen l) S (place_of p n S) (λ f. run_all p b (n + 1) (f ∷ S)) s)).acts)
          (on_value (place_of p n S) seen r (λ seen l. run_from_entry seen (entered_with p n h b seen l) S (place_of p n S) (λ f. run_all p b (n + 1) (f ∷ S)) s)).ending
      go seen (Ok l) saw = loop seen l (is_same_text x h.variable || is_among x (copied h b)) refl saw
      go seen (Err f) saw = tt

  mutual
    pub covered : (t : StmtTree) (n : ℕ) (S : Scope) (s : Store) → stops_in_loop t ≡ false → AreCovered (paths constants t n) x (cell_of S x) (touches_of (run p t n S s).acts) (run p t n S s).ending
    covered (Assign left right) n S s h = assignment_covered p S constants x other (place_of p n S) n left right s
    covered (If condition a b) n S s h =
        if_covered S n condition a b (all_paths constants a (n + 1)) (all_paths constants b (n + 1 + statements_count a)) (run_all p a (n + 1) S) (run_all p b (n + 1 + statements_count a) S) s
        (λ u. all_covered a (n + 1) S u (or_none (some_stops_in_loop a) (some_stops_in_loop b) h).0) (λ u. all_covered b (n + 1 + statements_count a) S u (or_none (some_stops_in_loop a) (some_stops_in_loop b) h).1)
    covered (Do h b) n S s k = do_covered S n h b s k (λ f u. all_covered b (n + 1) (f ∷ S) u (none_in_loops b k))
    covered (Print items) n S s h = print_covered p S constants x other (place_of p n S) n items s
    covered (Read items) n S s h = read_covered p S constants x other (place_of p n S) n items s
    covered Stop n S s h = ([], refl, covers_nothing x (cell_of S x))
    covered (Comment text) n S s h = ([], refl, covers_nothing x (cell_of S x))

    pub all_covered : (ts : StmtTrees) (n : ℕ) (S : Scope) (s : Store) → some_stops_in_loop ts ≡ false → AreCovered (all_paths constants ts n) x (cell_of S x) (touches_of (run_all p ts n S s).acts) (run_all p ts n S s).ending
    all_covered no_stmts n S s h = ([], refl, covers_nothing x (cell_of S x))
    all_covered (more_stmts t rest) n S s h =
        covered_then x (cell_of S x) (paths constants t n) (all_paths constants rest (n + statement_count t)) (run p t n S s).acts (run p t n S s).ending (run_all p rest (n + statement_count t) S)
        (covered t n S s (or_none (stops_in_loop t) (some_stops_in_loop rest) h).0) (λ u. all_covered rest (n + statement_count t) S u (or_none (stops_in_loop t) (some_stops_in_loop rest) h).1)

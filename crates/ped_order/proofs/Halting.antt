-- A run that a STOP ends did a trace and then the STOP, which stands in no DO.
use Rattle.std.proofs.Common.{◌≡◌, ℕ, ◌+◌, List, [], ◌∷◌, ◌++◌, ◌||◌, Bool, true, false, Result, Ok, Err, refl, sym, ap, subst, ◌∙◌, append_assoc, if◌then◌else◌}
use Rattle.ped_interleavings.specs.ped_tree.specs.Tree.{CondTree, StmtTree, StmtTrees, Assign, If, Do, Print, Read, Stop, Comment, no_stmts, more_stmts}
use Rattle.ped_interleavings.specs.ped_tree.specs.Numbering.{statement_count, statements_count}
use Rattle.ped_interleavings.specs.ped_eval.specs.ped_store.specs.Stores.{Store}
use Rattle.ped_interleavings.specs.ped_eval.specs.ped_store.specs.Acts.{Act, Place, did, store_behind}
use Rattle.ped_interleavings.specs.ped_eval.specs.Scopes.{Setting, Scope, names_in, place_of}
use Rattle.ped_interleavings.specs.ped_eval.specs.Evaluation.{Seen, Evaluated, numbered}
use Rattle.ped_interleavings.specs.ped_eval.specs.Values.{truth}
use Rattle.ped_interleavings.specs.ped_eval.specs.Runs.{Ending, going, stopped, failed, Run, followed_by, does, on_value, run, run_all}
use Rattle.ped_interleavings.specs.Lefts.{Left, begins, left_of, left_of_all, is_finished}
use Rattle.ped_interleavings.specs.Steps.{Next, went, act_of, seen_next, step}
use Rattle.ped_laws.specs.Acts.Fitting.{Find}
use Rattle.ped_laws.specs.FlowRuns.Covering.{stops_in_loop, some_stops_in_loop}
use Rattle.ped_laws.proofs.ActLaws.Lists.{before_left, before_right}
use Rattle.ped_laws.proofs.FlowRunLaws.Unstopped.{IsUnstopped, unstopped}
use Rattle.ped_laws.proofs.RunLaws.Told.{found_reads}
use Rattle.ped_laws.proofs.RunLaws.Sight.{truth_told}
use Rattle.ped_order.proofs.Traces.{Trace, nothing, one, flat, join, AreFree, flat-join, free_join}
use Rattle.ped_order.proofs.Doing.{by_stop, Does}
use Rattle.ped_order.proofs.Tracing.{IsGoing, NoneConflict, Traced, traced}

-- a STOP has ended the run
abbrev pub IsStopped : Ending → Type 0
IsStopped (going s) = ⊥
IsStopped (stopped s) = Unit {0}
IsStopped (failed fault statement) = ⊥

or_none : (a b : Bool) → a || b ≡ false → (a ≡ false) × (b ≡ false)
or_none true b h = absurd cc
or_none false b h = (refl, h)

not_stopped : (e : Ending) → IsUnstopped e → IsStopped e → ⊥
not_stopped (going s) h k = k
not_stopped (stopped s) h k = h
not_stopped (failed fault statement) h k = k

value_stops : {A : Type 0} (at : Place) (seen : List Seen) (r : Result A ℕ) (next : List Seen → A → Run) → IsStopped (on_value at seen r next).ending → (x : A) × (r ≡ Ok x) × IsStopped (next seen x).ending
value_stops at seen (Ok x) next h = (x, refl, h)
value_stops at seen (Err fault) next h = absurd h

module _ (p : Setting) where
  pub record Halted (acts : List Act) (k : Left → Left) : Type 0 where
    pub trace : Trace
    pub last : Act
    pub same : acts ≡ flat trace ++ last ∷ []
    pub does_so : (rest : Left) → Does p (by_stop last) trace (k rest)
    pub free : NoneConflict acts → AreFree trace

  abbrev Halts : (Store → Run) → (Left → Left) → Type 0
  Halts f k = (s : Store) → IsStopped (f s).ending → Halted (f s).acts k

  -- what goes on, and then what a STOP ends
  both_halt : (xs ys : List Act) (k l : Left → Left) (scope : Scope) → Traced p xs k scope → Halted ys l → Halted (xs ++ ys) (λ z. k (l z))
  both_halt xs ys k l scope r q = record {
    trace = join r.trace q.trace;
    last = q.last;
    same =
        ap (λ (z : List Act). z ++ ys) r.same ∙ ap (λ (z : List Act). flat r.trace ++ z) q.same ∙ sym (append_assoc (flat r.trace) (flat q.trace) (q.last ∷ []))
        ∙ ap (λ (z : List Act). z ++ q.last ∷ []) (sym (flat-join r.trace q.trace));
    does_so = λ rest. r.does_so (by_stop q.last) (l rest) q.trace (q.does_so rest);
    free = λ f. free_join r.trace q.trace (r.free (λ a b h. f a b (before_left a b xs ys h))) (q.free (λ a b h. f a b (before_right a b xs ys h)));
  }

  then_halt : (acts : List Act) (e : Ending) (next : Store → Run) (k l : Left → Left) (scope : Scope) → IsStopped (followed_by acts e next).ending → (IsStopped e → Halted acts k) → (IsGoing e → Traced p acts k scope) → Halts next l → Halted (followed_by acts e next).acts (λ z. k (l z))
  then_halt acts (going s) next k l scope h r q more = both_halt acts (next s).acts k l scope (q tt) (more s h)
  then_halt acts (stopped s) next k l scope h r q more = let x = r tt in record { trace = x.trace; last = x.last; same = x.same; does_so = λ rest. x.does_so (l rest); free = x.free }
  then_halt acts (failed fault statement) next k l scope h r q more = absurd h

  -- an act, and then what a STOP ends
  act_halts : (a : Act) (acts : List Act) (k l : Left → Left) → ((rest : Left) → is_finished (k rest) ≡ false) → ((rest : Left) (c : ℕ) (s : Store) → Find a.touches s → step p (k rest) c s ≡ went a (l rest)) → Halted acts l → Halted (a ∷ acts) k
  act_halts a acts k l more st r = record {
    trace = one a r.trace;
    last = r.last;
    same = ap (λ (z : List Act). a ∷ z) r.same;
    does_so = λ rest. (more rest, l rest, (λ c s f. st rest c s f), r.does_so rest);
    free = λ f. r.free (λ x y h. f x y (before_right x y (a ∷ []) acts h));
  }

  part_halts : (holds : Bool) (f g : Store → Run) (k l : Left → Left) → Halts f k → Halts g l → Halts (if holds then f else g) (λ z. if holds then k z else l z)
  part_halts true f g k l r q = r
  part_halts false f g k l r q = q

  if_halts : (n : ℕ) (scope : Scope) (s : Store) (c : CondTree) (a b : StmtTrees) → Halts (run_all p a (n + 1) scope) (left_of_all a (n + 1) scope) → Halts (run_all p b (n + 1 + statements_count a) scope) (left_of_all b (n + 1 + statements_count a) scope)
      → IsStopped (run p (If c a b) n scope s).ending → Halted (run p (If c a b) n scope s).acts (begins (If c a b) n scope)
  if_halts n scope s c a b r q h =
      let at = place_of p n scope in
      let e = truth (names_in p scope) c s in
      let f = run_all p a (n + 1) scope in
      let g = run_all p b (n + 1 + statements_count a) scope in
      let k = left_of_all a (n + 1) scope in
      let l = left_of_all b (n + 1 + statements_count a) scope in
      let next : List Seen → Bool → Run = λ seen holds. does did at (numbered 1 seen) (if holds then f else g) s in
      let o = value_stops at e.seen e.result next h in
      let u = store_behind (numbered 1 e.seen) s in
      let x = part_halts o.0 f g k l r q u o.2 in
      subst (λ (z : Run). Halted z.acts (begins (If c a b) n scope)) (sym (ap (λ (z : Result Bool ℕ). on_value at e.seen z next) o.1))
      (act_halts (act_of did at (numbered 1 e.seen)) ((if o.0 then f else g) u).acts (begins (If c a b) n scope) (λ z. if o.0 then k z else l z) (λ rest. refl)
      (λ rest d v find.
      let leads : List Seen → Bool → Next = λ seen holds. went (act_of did at (numbered 1 seen)) (if holds then k rest else l rest) in
      ap (λ (z : Evaluated Bool). seen_next at z.seen z.result leads) ((truth_told (names_in p scope) c).comes s v (found_reads e.seen 1 v find))
      ∙ ap (λ (z : Result Bool ℕ). seen_next at e.seen z leads) o.1)
      x)

  mutual
    pub halted : (t : StmtTree) (n : ℕ) (scope : Scope) → stops_in_loop t ≡ false → Halts (run p t n scope) (left_of t n scope)
    halted (Assign left right) n scope none s h = absurd (not_stopped (run p (Assign left right) n scope s).ending (unstopped p (Assign left right) n scope s refl) h)
    halted (If c a b) n scope none s h =
        let parts = or_none (some_stops_in_loop a) (some_stops_in_loop b) none in
        if_halts n scope s c a b (λ u g. halted_all a (n + 1) scope parts.0 u g) (λ u g. halted_all b (n + 1 + statements_count a) scope parts.1 u g) h
    halted (Do x body) n scope none s h = absurd (not_stopped (run p (Do x body) n scope s).ending (unstopped p (Do x body) n scope s none) h)
    halted (Print items) n scope none s h = absurd (not_stopped (run p (Print items) n scope s).ending (unstopped p (Print items) n scope s refl) h)
    halted (Read items) n scope none s h = absurd (not_stopped (run p (Read items) n scope s).ending (unstopped p (Read items) n scope s refl) h)
    halted Stop n scope none s h = record { trace = nothing; last = act_of did (place_of p n scope) []; same = refl; does_so = λ rest c u. refl; free = λ f. tt }
    halted (Comment text) n scope none s h = absurd h

    pub halted_all : (ts : StmtTrees) (n : ℕ) (scope : Scope) → some_stops_in_loop ts ≡ false → Halts (run_all p ts n scope) (left_of_all ts n scope)
    halted_all no_stmts n scope none s h = absurd h
    halted_all (more_stmts t ts) n scope none s h =
        let parts = or_none (stops_in_loop t) (some_stops_in_loop ts) none in
        let x = run p t n scope s in
        then_halt x.acts x.ending (run_all p ts (n + statement_count t) scope) (left_of t n scope) (left_of_all ts (n + statement_count t) scope) scope h
        (λ g. halted t n scope parts.0 s g) (λ g. traced p t n scope s g) (λ m g. halted_all ts (n + statement_count t) scope parts.1 m g)

-- What a run in order did is a trace of what was left before it.
use Rattle.std.proofs.Common.{◌≡◌, ℕ, zero, suc, ◌+◌, ◌≤◌, ◌<◌, List, [], ◌∷◌, ◌++◌, Bool, true, false, eqb, eqb-true, Option, Some, None, Result, Ok, Err, refl, sym, ap, subst, ◌∙◌, arith, append_assoc, inl, inr, if◌then◌else◌}
use Rattle.std.proofs.lemmas.List.{append-nil}
use Rattle.ped_interleavings.specs.ped_tree.specs.Tree.{CondTree, Head, StmtTree, StmtTrees, Assign, If, Do, Print, Read, Stop, Comment, no_stmts, more_stmts}
use Rattle.ped_interleavings.specs.ped_tree.specs.Numbering.{statement_count, statements_count}
use Rattle.ped_interleavings.specs.ped_eval.specs.ped_store.specs.Stores.{Store}
use Rattle.ped_interleavings.specs.ped_eval.specs.ped_store.specs.Acts.{Touch, Turn, Place, Act, did, entered, ended_turn, closed, store_behind}
use Rattle.ped_interleavings.specs.ped_eval.specs.ped_store.specs.Races.{are_apart}
use Rattle.ped_interleavings.specs.ped_eval.specs.Scopes.{Setting, Frame, Scope, turns_of, names_in, place_of}
use Rattle.ped_interleavings.specs.ped_eval.specs.Evaluation.{Seen, Evaluated, numbered}
use Rattle.ped_interleavings.specs.ped_eval.specs.Values.{truth}
use Rattle.ped_interleavings.specs.ped_eval.specs.Statements.{Taking, assigned, assignment_touches, printed_line, print_touches, reading}
use Rattle.ped_interleavings.specs.ped_eval.specs.Loops.{Limits, limits, Entered, entered_with, frame, exit_touches, exit_when_none, entry_touches}
use Rattle.ped_interleavings.specs.ped_eval.specs.Runs.{Ending, going, stopped, failed, Run, nothing_done, followed_by, then_run, does, on_value, run_taking, turns, parallel_turns, run_entered, run, run_all}
use Rattle.ped_interleavings.specs.ped_eval.specs.Turns.{body_run}
use Rattle.ped_interleavings.specs.Lefts.{Left, finished, begins, ends_turn, open_loop, left_of, left_of_all, body_left, turns_left, lefts_by, entered_left, Lefts, more_lefts, is_finished}
use Rattle.ped_interleavings.specs.Steps.{Next, went, act_of, by_run, simple_step, seen_next, step}
use Rattle.ped_laws.specs.Acts.Fitting.{Find, Fits, store_after}
use Rattle.ped_laws.specs.Acts.Conflicts.{acts_conflict}
use Rattle.ped_laws.specs.Acts.Orders.{IsIn, StandsBefore}
use Rattle.ped_laws.specs.Runs.Replaying.{Finish, goes_on, finish_of, ending_with}
use Rattle.ped_laws.proofs.ActLaws.Lists.{in_parts, before_left, before_right, before_across}
use Rattle.ped_laws.proofs.RunLaws.Told.{found_reads, found_reads_first}
use Rattle.ped_laws.proofs.RunLaws.Sight.{truth_told, limits_told}
use Rattle.ped_laws.proofs.RunLaws.StatementsTold.{run_told}
use Rattle.ped_order.proofs.Traces.{Trace, nothing, one, fork, Traces, no_traces, more_traces, flat, flats, join, Apart, AllApart, AreFree, AllFree, flat-join, join_assoc, join-nothing, free_join}
use Rattle.ped_order.proofs.Doing.{End, all_done, Does, DoesEach}

-- the run goes on
abbrev pub IsGoing : Ending → Type 0
IsGoing (going s) = Unit {0}
IsGoing (stopped s) = ⊥
IsGoing (failed fault statement) = ⊥

pub finish_goes : (e : Ending) → IsGoing e → finish_of e ≡ goes_on
finish_goes (going s) h = refl
finish_goes (stopped s) h = absurd h
finish_goes (failed fault statement) h = absurd h

-- a run that goes on did so in its parts
followed_goes : (acts : List Act) (e : Ending) (next : Store → Run) → IsGoing (followed_by acts e next).ending → (m : Store) × IsGoing e × IsGoing (next m).ending × ((followed_by acts e next).acts ≡ acts ++ (next m).acts)
followed_goes acts (going s) next h = (s, tt, h, refl)
followed_goes acts (stopped s) next h = absurd h
followed_goes acts (failed fault statement) next h = absurd h

value_goes : {A : Type 0} (at : Place) (seen : List Seen) (r : Result A ℕ) (next : List Seen → A → Run) → IsGoing (on_value at seen r next).ending → (x : A) × (r ≡ Ok x) × IsGoing (next seen x).ending
value_goes at seen (Ok x) next h = (x, refl, h)
value_goes at seen (Err fault) next h = absurd h

-- no act conflicts with a later one of another iteration of a PARALLEL DO
abbrev pub NoneConflict : List Act → Type 0
NoneConflict acts = (a b : Act) → StandsBefore a b acts → are_apart a.place.turns b.place.turns ≡ true → acts_conflict a b ≡ false

none_first : (xs ys : List Act) → NoneConflict (xs ++ ys) → NoneConflict xs
none_first xs ys f a b h = f a b (before_left a b xs ys h)

none_second : (xs ys : List Act) → NoneConflict (xs ++ ys) → NoneConflict ys
none_second xs ys f a b h = f a b (before_right a b xs ys h)

-- iterations that stand in these, and further ones in them
abbrev Under : Scope → List Turn → Type 0
Under scope ts = (more : List Turn) × (ts ≡ turns_of scope ++ more)

under_itself : (scope : Scope) → Under scope (turns_of scope)
under_itself scope = ([], sym (append-nil (turns_of scope)))

under_less : (f : Frame) (scope : Scope) (ts : List Turn) → Under (f ∷ scope) ts → Under scope ts
under_less f scope ts (more, e) = (f.turn ∷ more, e ∙ append_assoc (turns_of scope) (f.turn ∷ []) more)

number_itself : (n : ℕ) → eqb n n ≡ true
number_itself n = grind (arith, eqb-true)

numbers_differ : (i j : ℕ) → i < j → eqb i j ≡ false
numbers_differ i j h = go (eqb i j) refl
  where
    go : (b : Bool) → eqb i j ≡ b → eqb i j ≡ false
    go false e = e
    go true e = let q = eqb-true i j e in absurd (omega (arith, h, q))

parted : (pre : List Turn) (t u : Turn) (xs ys : List Turn) → t.statement ≡ u.statement → t.number < u.number → t.parallel ≡ true → are_apart (pre ++ t ∷ xs) (pre ++ u ∷ ys) ≡ true
parted [] t u xs ys same less par = rw (sym same, number_itself t.statement, numbers_differ t.number u.number less) par
parted (v ∷ pre) t u xs ys same less par = rw (number_itself v.statement, number_itself v.number) (parted pre t u xs ys same less par)

iterations_part : (e : Entered) (i j : ℕ) (scope : Scope) (ts us : List Turn) → e.head.parallel ≡ true → i < j → Under (frame e i ∷ scope) ts → Under (frame e j ∷ scope) us → are_apart ts us ≡ true
iterations_part e i j scope ts us par less (more, x) (others, y) =
    ap (λ (z : List Turn). are_apart z us) (x ∙ append_assoc (turns_of scope) ((frame e i).turn ∷ []) more)
    ∙ ap (λ (z : List Turn). are_apart (turns_of scope ++ (frame e i).turn ∷ more) z) (y ∙ append_assoc (turns_of scope) ((frame e j).turn ∷ []) others)
    ∙ parted (turns_of scope) (frame e i).turn (frame e j).turn more others refl less par

-- one act and no other
abbrev IsOne : Place → List Act → Type 0
IsOne at acts = (a : Act) × (acts ≡ a ∷ []) × (a.place ≡ at)

value_one : {A : Type 0} (at : Place) (seen : List Seen) (r : Result A ℕ) (touches : List Seen → A → List Touch) (s : Store) → IsGoing (on_value at seen r (λ seen x. does did at (touches seen x) nothing_done s)).ending → IsOne at (on_value at seen r (λ seen x. does did at (touches seen x) nothing_done s)).acts
value_one at seen (Ok x) touches s h = (record { step = did; place = at; touches = touches seen x }, refl, refl)
value_one at seen (Err fault) touches s h = absurd h

taking_one : (at : Place) (t : Taking) (fault : Option ℕ) (s : Store) → IsGoing (run_taking at t fault s).ending → IsOne at (run_taking at t fault s).acts
taking_one at t None s h = (_, refl, refl)
taking_one at t (Some fault) s h = absurd h

module _ (p : Setting) where
  -- acts that what is left may do before the rest
  pub record Traced (acts : List Act) (k : Left → Left) (scope : Scope) : Type 0 where
    pub trace : Trace
    pub same : acts ≡ flat trace
    pub does_so : (end : End) (rest : Left) (u : Trace) → Does p end u rest → Does p end (join trace u) (k rest)
    pub free : NoneConflict acts → AreFree trace
    pub under : (a : Act) → IsIn a acts → Under scope a.place.turns

  abbrev Body : (Store → Run) → (Left → Left) → Scope → Type 0
  Body f k scope = (s : Store) → IsGoing (f s).ending → Traced (f s).acts k scope

  pub idle : (scope : Scope) → Traced [] (λ l. l) scope
  idle scope = record { trace = nothing; same = refl; does_so = λ end rest u d. d; free = λ f. tt; under = λ a i. absurd i }

  -- an act, and then the rest
  pub acted : (a : Act) (acts : List Act) (k l : Left → Left) (scope : Scope) → a.place.turns ≡ turns_of scope → ((rest : Left) → is_finished (k rest) ≡ false)
      → ((rest : Left) (c : ℕ) (s : Store) → Find a.touches s → step p (k rest) c s ≡ went a (l rest)) → Traced acts l scope → Traced (a ∷ acts) k scope
  acted a acts k l scope at more st r = record {
    trace = one a r.trace;
    same = ap (λ (z : List Act). a ∷ z) r.same;
    does_so = λ end rest u d. (more rest, l rest, (λ c s f. st rest c s f), r.does_so end rest u d);
    free = λ f. r.free (none_second (a ∷ []) acts f);
    under = λ b i. elim i [ inl e ↦ subst (Under scope) (sym (ap (λ (z : Act). z.place.turns) e ∙ at)) (under_itself scope) | inr j ↦ r.under b j ];
  }

  pub both : (xs ys : List Act) (k l : Left → Left) (scope : Scope) → Traced xs k scope → Traced ys l scope → Traced (xs ++ ys) (λ z. k (l z)) scope
  both xs ys k l scope r q = record {
    trace = join r.trace q.trace;
    same = ap (λ (z : List Act). z ++ ys) r.same ∙ ap (λ (z : List Act). flat r.trace ++ z) q.same ∙ sym (flat-join r.trace q.trace);
    does_so = λ end rest u d. subst (λ (z : Trace). Does p end z (k (l rest))) (sym (join_assoc r.trace q.trace u)) (r.does_so end (l rest) (join q.trace u) (q.does_so end rest u d));
    free = λ f. free_join r.trace q.trace (r.free (none_first xs ys f)) (q.free (none_second xs ys f));
    under = λ a i. elim (in_parts a xs ys i) [ inl j ↦ r.under a j | inr j ↦ q.under a j ];
  }

  pub then_both : (x : Run) (next : Store → Run) (k l : Left → Left) (scope : Scope) → IsGoing (then_run x next).ending → (IsGoing x.ending → Traced x.acts k scope) → ((m : Store) → IsGoing (next m).ending → Traced (next m).acts l scope) → Traced (then_run x next).acts (λ z. k (l z)) scope
  then_both x next k l scope h r q =
      let e = followed_goes x.acts x.ending next h in
      subst (λ (z : List Act). Traced z (λ y. k (l y)) scope) (sym e.3) (both x.acts (next e.0).acts k l scope (r e.1) (q e.0 e.2))

  wider : (acts : List Act) (k : Left → Left) (f : Frame) (scope : Scope) → Traced acts k (f ∷ scope) → Traced acts k scope
  wider acts k f scope r = record { trace = r.trace; same = r.same; does_so = r.does_so; free = r.free; under = λ a i. under_less f scope a.place.turns (r.under a i) }

  -- statements of one act
  simple : (t : StmtTree) (n : ℕ) (scope : Scope) (s : Store) → ((rest : Left) (c : ℕ) (u : Store) → step p (begins t n scope rest) c u ≡ simple_step (run p t n scope u) rest)
      → IsGoing (run p t n scope s).ending → IsOne (place_of p n scope) (run p t n scope s).acts → Traced (run p t n scope s).acts (begins t n scope) scope
  simple t n scope s by h (a, e, at) =
      subst (λ (z : List Act). Traced z (begins t n scope) scope) (sym e)
      (acted a [] (begins t n scope) (λ l. l) scope (ap (λ (z : Place). z.turns) at) (λ rest. refl) (λ rest c u f.
      let r = run p t n scope s in
      let end = ending_with (finish_of r.ending) (store_after r.acts u) in
      by rest c u
      ∙ ap (λ (z : Run). simple_step z rest) ((run_told p t n scope).replays s u (subst (λ (z : List Act). Fits z u) (sym e) (f, tt)))
      ∙ ap (λ (z : List Act). by_run z end rest) e
      ∙ ap (λ (z : Finish). by_run (a ∷ []) (ending_with z (store_after r.acts u)) rest) (finish_goes r.ending h))
      (idle scope))

  -- the turns of a DO
  module _ (e : Entered) (body : StmtTrees) (n : ℕ) (scope : Scope) (f : Frame → Store → Run) (bodies : (k : ℕ) → Body (f (frame e k)) (body_left e body n scope k) (frame e k ∷ scope)) where
    turns_traced : (more k : ℕ) → Body (turns more k e scope (place_of p n scope) f) (turns_left more k e body n scope) scope
    turns_traced zero k s h = idle scope
    turns_traced (suc more) k s h =
        then_both (f (frame e k) s) (does (ended_turn more) (place_of p n scope) (exit_when_none more e scope) (turns more (k + 1) e scope (place_of p n scope) f)) (body_left e body n scope k) (ends_turn e body n scope k more) scope h
        (λ g. wider (f (frame e k) s).acts (body_left e body n scope k) (frame e k) scope (bodies k s g))
        (λ m g. acted (act_of (ended_turn more) (place_of p n scope) (exit_when_none more e scope)) (turns more (k + 1) e scope (place_of p n scope) f (store_behind (exit_when_none more e scope) m)).acts (ends_turn e body n scope k more) (turns_left more (k + 1) e body n scope) scope
        refl (λ rest. refl) (λ rest c u find. refl)
        (turns_traced more (k + 1) (store_behind (exit_when_none more e scope) m) g))

    -- the iterations of a PARALLEL DO, from this one on
    record EachTraced (acts : List Act) (i : ℕ) (ls : Lefts) : Type 0 where
      ts : Traces
      same : acts ≡ flats ts
      does_so : DoesEach p ts ls
      free : e.head.parallel ≡ true → NoneConflict acts → AllApart ts × AllFree ts
      under : (a : Act) → IsIn a acts → (j : ℕ) × (i ≤ j) × Under (frame e j ∷ scope) a.place.turns

    each_both : (xs ys : List Act) (k : ℕ) (ls : Lefts) → Traced xs (body_left e body n scope k) (frame e k ∷ scope) → EachTraced ys (k + 1) ls → EachTraced (xs ++ ys) k (more_lefts (body_left e body n scope k finished) ls)
    each_both xs ys k ls r q = record {
      ts = more_traces r.trace q.ts;
      same = ap (λ (z : List Act). z ++ ys) r.same ∙ ap (λ (z : List Act). flat r.trace ++ z) q.same;
      does_so = (body_left e body n scope k finished, ls, refl, subst (λ (z : Trace). Does p all_done z (body_left e body n scope k finished)) (join-nothing r.trace) (r.does_so all_done finished nothing refl), q.does_so);
      free = λ par none.
          let later = q.free par (none_second xs ys none) in
          let across : Apart (flat r.trace) (flats q.ts) = λ x y i j.
          let a = subst (IsIn x) (sym r.same) i in
          let b = subst (IsIn y) (sym q.same) j in
          let at = q.under y b in
          let less = at.1 in
          none x y (before_across x y xs ys a b) (iterations_part e k at.0 scope x.place.turns y.place.turns par (omega (arith, less)) (r.under x a) at.2) in
          ((across, later.0), (r.free (none_first xs ys none), later.1));
      under = λ a i. elim (in_parts a xs ys i) [ inl j ↦ (k, omega arith, r.under a j) | inr j ↦ (let u = q.under a j in let less = u.1 in (u.0, omega (arith, less), u.2)) ];
    }

    each_traced : (more k : ℕ) (s : Store) → IsGoing (parallel_turns more k e f s).ending → EachTraced (parallel_turns more k e f s).acts k (lefts_by more k (λ k. body_left e body n scope k finished))
    each_traced zero k s h = record { ts = no_traces; same = refl; does_so = refl; free = λ par none. (tt, tt); under = λ a i. absurd i }
    each_traced (suc more) k s h =
        let x = f (frame e k) s in
        let o = followed_goes x.acts x.ending (parallel_turns more (k + 1) e f) h in
        subst (λ (z : List Act). EachTraced z k (lefts_by (suc more) k (λ k. body_left e body n scope k finished))) (sym o.3)
        (each_both x.acts (parallel_turns more (k + 1) e f o.0).acts k (lefts_by more (k + 1) (λ k. body_left e body n scope k finished)) (bodies k s o.1) (each_traced more (k + 1) o.0 o.2))

    abbrev closing : Act
    closing = act_of closed (place_of p n scope) (exit_touches e scope)

    open_traced : (xs : List Act) (ls : Lefts) → e.head.parallel ≡ true → EachTraced xs 1 ls → Traced (xs ++ closing ∷ []) (open_loop e n scope ls) scope
    open_traced xs ls par q = record {
      trace = fork q.ts closing nothing;
      same = ap (λ (z : List Act). z ++ closing ∷ []) q.same;
      does_so = λ end rest u d. (e, n, scope, ls, rest, refl, refl, q.does_so, d);
      free = λ none. let z = q.free par (none_first xs (closing ∷ []) none) in (z.0, z.1, tt);
      under = λ a i. elim (in_parts a xs (closing ∷ []) i) [
        | inl j ↦ (let u = q.under a j in under_less (frame e u.0) scope a.place.turns u.2)
        | inr j ↦ elim j [ inl same ↦ subst (Under scope) (sym (ap (λ (z : Act). z.place.turns) same)) (under_itself scope) | inr k ↦ absurd k ]
      ];
    }

    entered_traced : (b : Bool) (count : ℕ) → e.head.parallel ≡ b → Body (run_entered b count e scope (place_of p n scope) f) (entered_left b count e body n scope) scope
    entered_traced b zero par s h = idle scope
    entered_traced false (suc count) par s h = turns_traced (suc count) 1 s h
    entered_traced true (suc count) par s h =
        let x = parallel_turns (suc count) 1 e f s in
        let o = followed_goes x.acts x.ending (does closed (place_of p n scope) (exit_touches e scope) nothing_done) h in
        subst (λ (z : List Act). Traced z (open_loop e n scope (lefts_by (suc count) 1 (λ k. body_left e body n scope k finished))) scope) (sym o.3)
        (open_traced x.acts (lefts_by (suc count) 1 (λ k. body_left e body n scope k finished)) par (each_traced (suc count) 1 s o.1))

  -- an IF
  part_traced : (holds : Bool) (f g : Store → Run) (k l : Left → Left) (scope : Scope) → Body f k scope → Body g l scope → Body (if holds then f else g) (λ z. if holds then k z else l z) scope
  part_traced true f g k l scope r q = r
  part_traced false f g k l scope r q = q

  module _ (n : ℕ) (scope : Scope) (s : Store) where
    if_traced : (c : CondTree) (a b : StmtTrees) → Body (run_all p a (n + 1) scope) (left_of_all a (n + 1) scope) scope → Body (run_all p b (n + 1 + statements_count a) scope) (left_of_all b (n + 1 + statements_count a) scope) scope
        → IsGoing (run p (If c a b) n scope s).ending → Traced (run p (If c a b) n scope s).acts (begins (If c a b) n scope) scope
    if_traced c a b r q h =
        let at = place_of p n scope in
        let e = truth (names_in p scope) c s in
        let f = run_all p a (n + 1) scope in
        let g = run_all p b (n + 1 + statements_count a) scope in
        let k = left_of_all a (n + 1) scope in
        let l = left_of_all b (n + 1 + statements_count a) scope in
        let next : List Seen → Bool → Run = λ seen holds. does did at (numbered 1 seen) (if holds then f else g) s in
        let o = value_goes at e.seen e.result next h in
        let u = store_behind (numbered 1 e.seen) s in
        subst (λ (z : Run). Traced z.acts (begins (If c a b) n scope) scope) (sym (ap (λ (z : Result Bool ℕ). on_value at e.seen z next) o.1))
        (acted (act_of did at (numbered 1 e.seen)) ((if o.0 then f else g) u).acts (begins (If c a b) n scope) (λ z. if o.0 then k z else l z) scope refl (λ rest. refl)
        (λ rest d v find.
        let leads : List Seen → Bool → Next = λ seen holds. went (act_of did at (numbered 1 seen)) (if holds then k rest else l rest) in
        ap (λ (z : Evaluated Bool). seen_next at z.seen z.result leads) ((truth_told (names_in p scope) c).comes s v (found_reads e.seen 1 v find))
        ∙ ap (λ (z : Result Bool ℕ). seen_next at e.seen z leads) o.1)
        (part_traced o.0 f g k l scope r q u o.2))

    do_traced : (x : Head) (body : StmtTrees) → ((e : Entered) (k : ℕ) → Body (run_all p body (n + 1) (frame e k ∷ scope)) (body_left e body n scope k) (frame e k ∷ scope))
        → IsGoing (run p (Do x body) n scope s).ending → Traced (run p (Do x body) n scope s).acts (begins (Do x body) n scope) scope
    do_traced x body r h =
        let at = place_of p n scope in
        let e = limits (names_in p scope) x s in
        let f = body_run p body n scope in
        let next : List Seen → Limits → Run = λ seen l.
        let d = entered_with p n x body seen l in does (entered d.count) at (entry_touches seen d scope) (run_entered x.parallel d.count d scope at f) s in
        let o = value_goes at e.seen e.result next h in
        let d = entered_with p n x body e.seen o.0 in
        let u = store_behind (entry_touches e.seen d scope) s in
        subst (λ (z : Run). Traced z.acts (begins (Do x body) n scope) scope) (sym (ap (λ (z : Result Limits ℕ). on_value at e.seen z next) o.1))
        (acted (act_of (entered d.count) at (entry_touches e.seen d scope)) (run_entered x.parallel d.count d scope at f u).acts (begins (Do x body) n scope) (entered_left x.parallel d.count d body n scope) scope refl (λ rest. refl)
        (λ rest c v find.
        let leads : List Seen → Limits → Next = λ seen l.
        let d = entered_with p n x body seen l in went (act_of (entered d.count) at (entry_touches seen d scope)) (entered_left x.parallel d.count d body n scope rest) in
        ap (λ (z : Evaluated Limits). seen_next at z.seen z.result leads) ((limits_told (names_in p scope) x).comes s v (found_reads_first e.seen 1 _ v find))
        ∙ ap (λ (z : Result Limits ℕ). seen_next at e.seen z leads) o.1)
        (entered_traced d body n scope f (λ k. r d k) x.parallel d.count refl u o.2))

  mutual
    pub traced : (t : StmtTree) (n : ℕ) (scope : Scope) → Body (run p t n scope) (left_of t n scope) scope
    traced (Assign left right) n scope s h =
        simple (Assign left right) n scope s (λ rest c u. refl) h
        (value_one (place_of p n scope) (assigned (names_in p scope) left right s).seen (assigned (names_in p scope) left right s).result assignment_touches s h)
    traced (If c a b) n scope s h = if_traced n scope s c a b (λ u g. traced_all a (n + 1) scope u g) (λ u g. traced_all b (n + 1 + statements_count a) scope u g) h
    traced (Do x body) n scope s h = do_traced n scope s x body (λ e k u g. traced_all body (n + 1) (frame e k ∷ scope) u g) h
    traced (Print items) n scope s h =
        simple (Print items) n scope s (λ rest c u. refl) h
        (value_one (place_of p n scope) (printed_line (names_in p scope) items s).seen (printed_line (names_in p scope) items s).result (λ seen line. print_touches seen line s) s h)
    traced (Read items) n scope s h =
        simple (Read items) n scope s (λ rest c u. refl) h
        (taking_one (place_of p n scope) (reading (names_in p scope) items s) (reading (names_in p scope) items s).fault s h)
    traced Stop n scope s h = absurd h
    traced (Comment text) n scope s h = idle scope

    pub traced_all : (ts : StmtTrees) (n : ℕ) (scope : Scope) → Body (run_all p ts n scope) (left_of_all ts n scope) scope
    traced_all no_stmts n scope s h = idle scope
    traced_all (more_stmts t ts) n scope s h =
        then_both (run p t n scope s) (run_all p ts (n + statement_count t) scope) (left_of t n scope) (left_of_all ts (n + statement_count t) scope) scope h
        (λ g. traced t n scope s g) (λ m g. traced_all ts (n + statement_count t) scope m g)

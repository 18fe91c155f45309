-- A step does an act of the trace with which no act before it conflicts.
use Rattle.std.proofs.Common.{◌≡◌, ℕ, zero, suc, ◌/◌, List, [], ◌∷◌, ◌++◌, length, true, false, Option, Some, None, refl, sym, ap, subst, ◌∙◌, arith, append_assoc, length-append, inl, inr}
use Rattle.std.specs.Prelude.{option_and_then}
use Rattle.ped_interleavings.specs.ped_eval.specs.ped_store.specs.Stores.{Store}
use Rattle.ped_interleavings.specs.ped_eval.specs.ped_store.specs.Acts.{Act, closed, store_behind}
use Rattle.ped_interleavings.specs.ped_eval.specs.Scopes.{Setting, place_of}
use Rattle.ped_interleavings.specs.ped_eval.specs.Loops.{exit_touches}
use Rattle.ped_interleavings.specs.Lefts.{Left, open_loop, Lefts, more_lefts, is_finished, many, pick, with_left}
use Rattle.ped_interleavings.specs.Steps.{Next, went, act_of, inside, opened_step, step, step_at}
use Rattle.ped_interleavings.specs.Interleavings.{Standing, choice, behind_act, standing_by, after_steps, IsReached}
use Rattle.ped_laws.specs.Acts.Fitting.{Fits, store_after}
use Rattle.ped_laws.specs.Acts.Conflicts.{acts_conflict}
use Rattle.ped_laws.specs.Acts.Orders.{IsIn}
use Rattle.ped_laws.proofs.ActLaws.Lists.{in_parts, in_more, in_middle}
use Rattle.ped_laws.proofs.ActLaws.Stores.{fits_first}
use Rattle.ped_laws.proofs.ActLaws.Reorderings.{front_fits, front_leaves}
use Rattle.ped_order.proofs.Traces.{Trace, nothing, one, fork, Traces, no_traces, more_traces, flat, flats, is_nothing, AllApart, AreFree, AllFree, fits_apart}
use Rattle.ped_order.proofs.Doing.{End, all_done, IsAtEnd, Does, DoesEach}
use Rattle.ped_order.proofs.Picks.{IsOpenAt, AllFinished, pick_open, pick_none}

still_in : (x a : Act) (before behind all less : List Act) → all ≡ before ++ a ∷ behind → less ≡ before ++ behind → IsIn x less → IsIn x all
still_in x a before behind all less was is i = subst (IsIn x) (sym was) (in_more x a before behind (subst (IsIn x) is i))

was_in : (a : Act) (before behind all : List Act) → all ≡ before ++ a ∷ behind → IsIn a all
was_in a before behind all was = subst (IsIn a) (sym was) (in_middle a a before behind refl)

module _ (p : Setting) where
  -- a step of what does this trace
  pub record Stepped (end : End) (t : Trace) (l : Left) (c : ℕ) (s : Store) : Type 0 where
    pub a : Act
    pub rest : Left
    pub u : Trace
    pub before : List Act
    pub behind : List Act
    pub steps_so : step p l c s ≡ went a rest
    pub does : Does p end u rest
    pub free : AreFree u
    pub was : flat t ≡ before ++ a ∷ behind
    pub is : flat u ≡ before ++ behind
    pub passes : (x : Act) → IsIn x before → acts_conflict x a ≡ false

  record EachStepped (ts : Traces) (ls : Lefts) (j c : ℕ) (s : Store) : Type 0 where
    a : Act
    rest : Left
    us : Traces
    before : List Act
    behind : List Act
    steps_so : step_at p ls j c s ≡ went a rest
    does : DoesEach p us (with_left j rest ls)
    apart : AllApart us
    free : AllFree us
    was : flats ts ≡ before ++ a ∷ behind
    is : flats us ≡ before ++ behind
    passes : (x : Act) → IsIn x before → acts_conflict x a ≡ false

  -- what has finished does nothing
  finished_flat : (t : Trace) (l : Left) → Does p all_done t l → is_finished l ≡ true → flat t ≡ []
  finished_flat nothing l d h = refl
  finished_flat (one a t) l d h = let e = d.0 in absurd cc
  finished_flat (fork ts a t) l d h = let e : is_finished l ≡ false = ap is_finished d.5 in absurd cc

  all_flat : (ts : Traces) (ls : Lefts) → DoesEach p ts ls → AllFinished ls → flats ts ≡ []
  all_flat no_traces ls d h = refl
  all_flat (more_traces t ts) ls d h =
      let k : AllFinished (more_lefts d.0 d.1) = subst AllFinished d.2 h in
      ap (λ (z : List Act). z ++ flats ts) (finished_flat t d.0 d.3 k.0) ∙ all_flat ts d.1 d.4 k.1

  -- what hasn't has something to do
  unfinished_is : (t : Trace) (l : Left) → Does p all_done t l → is_finished l ≡ false → is_nothing t ≡ false
  unfinished_is nothing l d h = let e : is_finished l ≡ true = ap is_finished d in absurd cc
  unfinished_is (one a t) l d h = refl
  unfinished_is (fork ts a t) l d h = refl

  -- the step of an open loop, by what is picked
  forked : (end : End) (ts : Traces) (a : Act) (t : Trace) (l : Left) (c : ℕ) (s : Store) (d : Does p end (fork ts a t) l) → AreFree (fork ts a t) → (o : Option ℕ) → pick c d.3 ≡ o → ((j : ℕ) → IsOpenAt j d.3 → EachStepped ts d.3 j (c / many d.3) s) → Stepped end (fork ts a t) l c s
  forked end ts a t l c s d r None q each =
      let next : Option ℕ → Next = λ o. opened_step o (λ j. inside (step_at p d.3 j (c / many d.3) s) (λ m. open_loop d.0 d.1 d.2 (with_left j m d.3) d.4)) (went (act_of closed (place_of p d.1 d.2) (exit_touches d.0 d.2)) d.4) in
      record {
        a = a;
        rest = d.4;
        u = t;
        before = [];
        behind = flat t;
        steps_so = ap (λ (z : Left). step p z c s) d.5 ∙ ap next q ∙ ap (λ (z : Act). went z d.4) (sym d.6);
        does = d.8;
        free = r.2;
        was = ap (λ (z : List Act). z ++ a ∷ flat t) (all_flat ts d.3 d.7 (pick_none c d.3 q));
        is = refl;
        passes = λ x i. absurd i;
      }
  forked end ts a t l c s d r (Some j) q each =
      let next : Option ℕ → Next = λ o. opened_step o (λ j. inside (step_at p d.3 j (c / many d.3) s) (λ m. open_loop d.0 d.1 d.2 (with_left j m d.3) d.4)) (went (act_of closed (place_of p d.1 d.2) (exit_touches d.0 d.2)) d.4) in
      let m = each j (pick_open c d.3 j q) in
      record {
        a = m.a;
        rest = open_loop d.0 d.1 d.2 (with_left j m.rest d.3) d.4;
        u = fork m.us a t;
        before = m.before;
        behind = m.behind ++ a ∷ flat t;
        steps_so = ap (λ (z : Left). step p z c s) d.5 ∙ ap next q ∙ ap (λ (z : Next). inside z (λ m. open_loop d.0 d.1 d.2 (with_left j m d.3) d.4)) m.steps_so;
        does = (d.0, d.1, d.2, with_left j m.rest d.3, d.4, refl, d.6, m.does, d.8);
        free = (m.apart, m.free, r.2);
        was = ap (λ (z : List Act). z ++ a ∷ flat t) m.was ∙ append_assoc m.before (m.a ∷ m.behind) (a ∷ flat t);
        is = ap (λ (z : List Act). z ++ a ∷ flat t) m.is ∙ append_assoc m.before m.behind (a ∷ flat t);
        passes = m.passes;
      }

  mutual
    pub stepped : (end : End) (t : Trace) (l : Left) (c : ℕ) (s : Store) → Does p end t l → AreFree t → Fits (flat t) s → is_nothing t ≡ false → Stepped end t l c s
    stepped end nothing l c s d r f h = absurd cc
    stepped end (one a t) l c s d r f h = record { a = a; rest = d.1; u = t; before = []; behind = flat t; steps_so = d.2 c s f.0; does = d.3; free = r; was = refl; is = refl; passes = λ x i. absurd i }
    stepped end (fork ts a t) l c s d r f h =
        forked end ts a t l c s d r (pick c d.3) refl (λ j o. each_stepped ts d.3 j (c / many d.3) s d.7 r.0 r.1 (fits_first (flats ts) (a ∷ flat t) s f) o)

    each_stepped : (ts : Traces) (ls : Lefts) (j c : ℕ) (s : Store) → DoesEach p ts ls → AllApart ts → AllFree ts → Fits (flats ts) s → IsOpenAt j ls → EachStepped ts ls j c s
    each_stepped no_traces ls j c s d q r f o = absurd (subst (IsOpenAt j) d o)
    each_stepped (more_traces t ts) ls zero c s d q r f o =
        let still : is_finished d.0 ≡ false = subst (IsOpenAt zero) d.2 o in
        let m = stepped all_done t d.0 c s d.3 r.0 (fits_first (flat t) (flats ts) s f) (unfinished_is t d.0 d.3 still) in
        record {
          a = m.a;
          rest = m.rest;
          us = more_traces m.u ts;
          before = m.before;
          behind = m.behind ++ flats ts;
          steps_so = ap (λ (z : Lefts). step_at p z zero c s) d.2 ∙ m.steps_so;
          does = (m.rest, d.1, ap (with_left zero m.rest) d.2, m.does, d.4);
          apart = ((λ x y i h. q.0 x y (still_in x m.a m.before m.behind (flat t) (flat m.u) m.was m.is i) h), q.1);
          free = (m.free, r.1);
          was = ap (λ (z : List Act). z ++ flats ts) m.was ∙ append_assoc m.before (m.a ∷ m.behind) (flats ts);
          is = ap (λ (z : List Act). z ++ flats ts) m.is ∙ append_assoc m.before m.behind (flats ts);
          passes = m.passes;
        }
    each_stepped (more_traces t ts) ls (suc j) c s d q r f o =
        let still : IsOpenAt j d.1 = subst (IsOpenAt (suc j)) d.2 o in
        let m = each_stepped ts d.1 j c s d.4 q.1 r.1 (fits_apart (flat t) (flats ts) s q.0 f) still in
        record {
          a = m.a;
          rest = m.rest;
          us = more_traces t m.us;
          before = flat t ++ m.before;
          behind = m.behind;
          steps_so = ap (λ (z : Lefts). step_at p z (suc j) c s) d.2 ∙ m.steps_so;
          does = (d.0, with_left j m.rest d.1, ap (with_left (suc j) m.rest) d.2, d.3, m.does);
          apart = ((λ x y i h. q.0 x y i (still_in y m.a m.before m.behind (flats ts) (flats m.us) m.was m.is h)), m.apart);
          free = (r.0, m.free);
          was = ap (λ (z : List Act). flat t ++ z) m.was ∙ sym (append_assoc (flat t) m.before (m.a ∷ m.behind));
          is = ap (λ (z : List Act). flat t ++ z) m.is ∙ sym (append_assoc (flat t) m.before m.behind);
          passes = λ x i. elim (in_parts x (flat t) m.before i) [ inl h ↦ q.0 x m.a h (was_in m.a m.before m.behind (flats ts) m.was) | inr h ↦ m.passes x h ];
        }

  -- all steps of a trace
  pub record AllDone (end : End) (t : Trace) (st : Standing) : Type 0 where
    pub last : Standing
    pub reached : IsReached p st last
    pub at_end : IsAtEnd p end last.left
    pub store : last.store ≡ store_after (flat t) st.store

  nothing_more : (end : End) (t : Trace) (st : Standing) → is_nothing t ≡ true → Does p end t st.left → AllDone end t st
  nothing_more end nothing st h d = record { last = st; reached = (0, refl); at_end = d; store = refl }
  nothing_more end (one a t) st h d = absurd cc
  nothing_more end (fork ts a t) st h d = absurd cc

  one_less : (n : ℕ) (a : Act) (before behind all less : List Act) → all ≡ before ++ a ∷ behind → less ≡ before ++ behind → length all ≡ suc n → length less ≡ n
  one_less n a before behind all less was is h =
      let k = ap (length {A = Act}) was in
      let i = ap (length {A = Act}) is in
      omega (arith, h, k, i, length-append before (a ∷ behind), length-append before behind)

  after_one : (end : End) (t : Trace) (st : Standing) (m : Stepped end t st.left (choice st.choices) st.store) → Fits (flat t) st.store → AllDone end m.u (behind_act m.a m.rest st) → AllDone end t st
  after_one end t st m f x = record {
    last = x.last;
    reached = (suc x.reached.0, ap (λ (z : Next). option_and_then (after_steps p x.reached.0) (standing_by z st)) m.steps_so ∙ x.reached.1);
    at_end = x.at_end;
    store =
        x.store ∙ ap (λ (z : List Act). store_after z (store_behind m.a.touches st.store)) m.is
        ∙ front_leaves m.before m.behind m.a st.store m.passes
        ∙ ap (λ (z : List Act). store_after z st.store) (sym m.was);
  }

  all_steps_by : (n : ℕ) (end : End) (t : Trace) (st : Standing) → length (flat t) ≡ suc n → AreFree t → Fits (flat t) st.store → Stepped end t st.left (choice st.choices) st.store
      → ((u : Trace) (new : Standing) → length (flat u) ≡ n → Does p end u new.left → AreFree u → Fits (flat u) new.store → AllDone end u new) → AllDone end t st
  all_steps_by n end t st q r f m more =
      let fit = front_fits m.before m.behind m.a st.store m.passes (subst (λ (z : List Act). Fits z st.store) m.was f) in
      after_one end t st m f
      (more m.u (behind_act m.a m.rest st) (one_less n m.a m.before m.behind (flat t) (flat m.u) m.was m.is q) m.does m.free (subst (λ (z : List Act). Fits z (store_behind m.a.touches st.store)) (sym m.is) fit.1))

  pub all_steps : (n : ℕ) (end : End) (t : Trace) (st : Standing) → length (flat t) ≡ n → Does p end t st.left → AreFree t → Fits (flat t) st.store → AllDone end t st
  all_steps n end nothing st q d r f = nothing_more end nothing st refl d
  all_steps zero end (one a t) st q d r f = absurd (omega (arith, q))
  all_steps (suc n) end (one a t) st q d r f = all_steps_by n end (one a t) st q r f (stepped end (one a t) st.left (choice st.choices) st.store d r f refl) (λ u w k e g h. all_steps n end u w k e g h)
  all_steps zero end (fork ts a t) st q d r f = absurd (omega (arith, q, length-append (flats ts) (a ∷ flat t)))
  all_steps (suc n) end (fork ts a t) st q d r f = all_steps_by n end (fork ts a t) st q r f (stepped end (fork ts a t) st.left (choice st.choices) st.store d r f refl) (λ u w k e g h. all_steps n end u w k e g h)

-- The execution of an outermost DO in a run of the program.
use Rattle.std.proofs.Common.{◌≡◌, ℕ, ◌+◌, ◌≤◌, ◌<◌, List, [], ◌∷◌, ◌++◌, Bool, true, false, not, ◌&&◌, ◌||◌, Option, Some, None, Result, Ok, Err, if◌then◌else◌, refl, sym, ap, subst, ◌∙◌, ◌⊎◌, inl, inr, arith, nat_le}
use Rattle.std.specs.Prelude.{nat_lt}
use Rattle.std.specs.List.{list_any}
use Rattle.std.proofs.lemmas.Bool.{ltb-true, ltb-false, leb-true, le-leb}
use Rattle.std.proofs.lemmas.List.{append-nil, append_assoc}
use Rattle.std.proofs.lemmas.List.Folds.{list_any-append}
use Rattle.ped_flow.specs.ped_base.specs.Lists.{has_some}
use Rattle.ped_flow.specs.ped_tree.specs.Tree.{CondTree, Head, StmtTree, StmtTrees, Assign, If, Do, Print, Read, Stop, Comment, no_stmts, more_stmts, ProgramTree}
use Rattle.ped_flow.specs.ped_tree.specs.Nests.{Loop}
use Rattle.ped_flow.specs.ped_tree.specs.Numbering.{numbered, all_numbered, statement_with, statement_count, statements_count}
use Rattle.ped_eval.specs.ped_store.specs.Stores.{Store}
use Rattle.ped_eval.specs.ped_store.specs.Acts.{Place, Step, did, entered, ended_turn, closed, faulted, Act, store_behind}
use Rattle.ped_laws.specs.Acts.Fitting.{store_after}
use Rattle.ped_laws.proofs.ActLaws.Stores.{after_append}
use Rattle.ped_eval.specs.Scopes.{Setting, names_in, place_of}
use Rattle.ped_eval.specs.Evaluation as evaluation
use Rattle.ped_eval.specs.Evaluation.{Seen}
use Rattle.ped_eval.specs.Values.{truth}
use Rattle.ped_eval.specs.Statements.{assigned, assignment_touches, printed_line, print_touches, Taking, reading}
use Rattle.ped_eval.specs.Loops.{Limits, limits, entered_with, entry_touches}
use Rattle.ped_eval.specs.Runs.{Ending, going, stopped, failed, Run, followed_by, on_value, does, nothing_done, run_taking, run_entered, run_from_entry, run, run_all}
use Rattle.ped_laws.specs.Runs.Replaying.{finish_of, ending_with}
use Rattle.ped_laws.proofs.RunLaws.Told.{own_run}
use Rattle.ped_laws.proofs.RunLaws.StatementsTold.{run_told}
use Rattle.ped_flow.specs.Questions.{LoopOf}
use Rattle.ped_flow.specs.PlainBounds.{loops_round, all_loops_round, nest_round, outermost_or}
use Rattle.ped_flow.proofs.Truths.{untrue}
use Rattle.ped_laws.specs.FlowRuns.Exits.{IsOneToOne}
use Rattle.ped_laws.specs.FlowRuns.Entries.{IsEntry}
use Rattle.ped_laws.proofs.FlowRunLaws.Entering.{entered_none, all_inner_none}
use Rattle.ped_laws.proofs.FlowRunLaws.Standing.{Stand, whole_stands, first_stands, rest_stands, inner_stands, else_stands, is_there}
use Rattle.ped_laws.specs.Plain.Executions.{IsExecution}

-- DO loops round a statement stand only in statements that have it
module _ (l : ℕ) where
  both_none : (xs ys : List Loop) → xs ≡ [] → ys ≡ [] → xs ++ ys ≡ []
  both_none xs ys h k = λ i. h i ++ k i

  mutual
    early : (t : StmtTree) (n : ℕ) → l < n → loops_round l t n ≡ []
    early (Assign left right) n h = refl
    early (If condition a b) n h = both_none (all_loops_round l a (n + 1)) (all_loops_round l b (n + 1 + statements_count a)) (all_early a (n + 1) (omega (arith, h))) (all_early b (n + 1 + statements_count a) (omega (arith, h)))
    early (Do hd b) n h = go (nat_lt n l) refl
      where
        go : (c : Bool) → nat_lt n l ≡ c → (if c && nat_le l (n + statements_count b) then (record { number = n; head = hd }) ∷ all_loops_round l b (n + 1) else []) ≡ []
        go true e = let k = ltb-true n l e in absurd (omega (arith, h, k))
        go false e = refl
    early (Print items) n h = refl
    early (Read items) n h = refl
    early Stop n h = refl
    early (Comment text) n h = refl

    all_early : (ts : StmtTrees) (n : ℕ) → l < n → all_loops_round l ts n ≡ []
    all_early no_stmts n h = refl
    all_early (more_stmts t rest) n h = both_none (loops_round l t n) (all_loops_round l rest (n + statement_count t)) (early t n h) (all_early rest (n + statement_count t) (omega (arith, h)))

  mutual
    late : (t : StmtTree) (n : ℕ) → n + statement_count t ≤ l → loops_round l t n ≡ []
    late (Assign left right) n h = refl
    late (If condition a b) n h = both_none (all_loops_round l a (n + 1)) (all_loops_round l b (n + 1 + statements_count a)) (all_late a (n + 1) (omega (arith, h))) (all_late b (n + 1 + statements_count a) (omega (arith, h)))
    late (Do hd b) n h = go (nat_lt n l) (nat_le l (n + statements_count b)) refl
      where
        go : (a c : Bool) → nat_le l (n + statements_count b) ≡ c → (if a && c then (record { number = n; head = hd }) ∷ all_loops_round l b (n + 1) else []) ≡ []
        go true true e = let k = leb-true l (n + statements_count b) e in absurd (omega (arith, h, k))
        go true false e = refl
        go false c e = refl
    late (Print items) n h = refl
    late (Read items) n h = refl
    late Stop n h = refl
    late (Comment text) n h = refl

    all_late : (ts : StmtTrees) (n : ℕ) → n + statements_count ts ≤ l → all_loops_round l ts n ≡ []
    all_late no_stmts n h = refl
    all_late (more_stmts t rest) n h = both_none (loops_round l t n) (all_loops_round l rest (n + statement_count t)) (late t n (omega (arith, h))) (all_late rest (n + statement_count t) (omega (arith, h)))

  at_do : (hd : Head) (b : StmtTrees) (n : ℕ) → n ≤ l → l ≤ n + statements_count b → outermost_or l (loops_round l (Do hd b) n) ≡ n
  at_do hd b n from to = go (nat_lt n l) refl
    where
      go : (c : Bool) → nat_lt n l ≡ c → outermost_or l (if c && nat_le l (n + statements_count b) then (record { number = n; head = hd }) ∷ all_loops_round l b (n + 1) else []) ≡ n
      go true e = ap (λ (d : Bool). outermost_or l (if d then (record { number = n; head = hd }) ∷ all_loops_round l b (n + 1) else [])) (le-leb l (n + statements_count b) to)
      go false e = let k = ltb-false n l e in omega (arith, from, k)

  in_first : (o : ℕ) (xs ys : List Loop) → ys ≡ [] → outermost_or l xs ≡ o → outermost_or l (xs ++ ys) ≡ o
  in_first o xs ys h k = ap (λ (z : List Loop). outermost_or l (xs ++ z)) h ∙ ap (outermost_or l) (append-nil xs) ∙ k

  in_second : (o : ℕ) (xs ys : List Loop) → xs ≡ [] → outermost_or l ys ≡ o → outermost_or l (xs ++ ys) ≡ o
  in_second o xs ys h k = ap (λ (z : List Loop). outermost_or l (z ++ ys)) h ∙ k

-- an act enters a DO that no DO is round
abbrev is_entry_step : Step → Bool
is_entry_step did = false
is_entry_step (entered n) = true
is_entry_step (ended_turn n) = false
is_entry_step closed = false
is_entry_step faulted = false

abbrev enters : Act → Bool
enters a = is_entry_step a.step && not (has_some a.place.turns)

or_true : (a b c : Bool) → b ≡ true → (a || (b || c)) ≡ true
or_true true b c h = refl
or_true false b c h = ap (λ (z : Bool). z || c) h

-- an act in one of two lists, with what stands before it and behind it
split : (xs ys front : List Act) (a : Act) (behind : List Act) → xs ++ ys ≡ front ++ a ∷ behind
    → ((mid : List Act) × (xs ≡ front ++ a ∷ mid) × (behind ≡ mid ++ ys)) ⊎ ((rest : List Act) × (front ≡ xs ++ rest) × (ys ≡ rest ++ a ∷ behind))
split [] ys front a behind h = inr (front, refl, h)
split (x ∷ xs) ys [] a behind h =
    let first : x ≡ a = cc in
    let others : xs ++ ys ≡ behind = cc in
    inl (xs, ap (λ (z : Act). z ∷ xs) first, sym others)
split (x ∷ xs) ys (f ∷ fs) a behind h =
    let first : x ≡ f = cc in
    let others : xs ++ ys ≡ fs ++ a ∷ behind = cc in
    elim (split xs ys fs a behind others) [
      | inl r ↦ inl (r.0, (λ i. first i ∷ r.1 i), r.2)
      | inr r ↦ inr (r.0, (λ i. sym first i ∷ r.1 i), r.2)
    ]

on_none : {A : Type 0} (at : Place) (seen : List Seen) (r : Result A ℕ) (next : List Seen → A → Run) → ((a : A) → list_any enters (next seen a).acts ≡ false) → list_any enters (on_value at seen r next).acts ≡ false
on_none at seen (Ok a) next h = h a
on_none at seen (Err f) next h = refl

taking_none : (at : Place) (t : Taking) (o : Option ℕ) (s : Store) → list_any enters (run_taking at t o s).acts ≡ false
taking_none at t None s = refl
taking_none at t (Some f) s = refl

-- a statement that goes on does so with the store that its acts leave
goes_with : (p : Setting) (u : StmtTree) (n : ℕ) (s w : Store) → (run p u n [] s).ending ≡ going w → w ≡ store_after (run p u n [] s).acts s
goes_with p u n s w e =
    let own : (run p u n [] s).ending ≡ ending_with (finish_of (run p u n [] s).ending) (store_after (run p u n [] s).acts s) = ap (λ (r : Run). r.ending) (own_run (run p u n []) (run_told p u n []) s) in
    let same : going w ≡ going (store_after (run p u n [] s).acts s) = sym e ∙ own ∙ ap (λ (z : Ending). ending_with (finish_of z) (store_after (run p u n [] s).acts s)) e in
    cc

module _ (p : Setting) (one : IsOneToOne p.number) (t : ProgramTree) (l : ℕ) (a : Act) (k : ℕ) (step : a.step ≡ entered k) (outermost : a.place.turns ≡ []) (o : ℕ) (loop : LoopOf t o) (is : a.place.statement ≡ p.number o)
    (from : o ≤ l) (to : l ≤ o + statements_count loop.body) where
  -- the act and what is behind it begin with the run of the DO
  record Begins (lo hi : ℕ) (loops : List Loop) (s : Store) (front behind : List Act) : Type 0 where
    after : List Act
    acts : a ∷ behind ≡ (run p (Do loop.head loop.body) o [] (store_after front s)).acts ++ after
    least : lo ≤ o
    most : o + statements_count loop.body < hi
    nest : outermost_or l loops ≡ o

  this_enters : enters a ≡ true
  this_enters = λ i. is_entry_step (step i) && not (has_some (outermost i))

  simple : (acts front behind : List Act) {A : Type 0} → list_any enters acts ≡ false → acts ≡ front ++ a ∷ behind → A
  simple acts front behind none e =
      let z : false ≡ true = sym none ∙ (ap (list_any enters) e ∙ list_any-append enters front (a ∷ behind) ∙ or_true (list_any enters front) (enters a) (list_any enters behind) this_enters) in
      untrue z

  place_is : (h : Head) (b : StmtTrees) (n : ℕ) (s : Store) (behind : List Act) (seen : List Seen) (r : Result Limits ℕ)
      → (on_value (place_of p n []) seen r (λ seen m. run_from_entry seen (entered_with p n h b seen m) [] (place_of p n []) (λ f. run_all p b (n + 1) (f ∷ [])) s)).acts ≡ a ∷ behind → a.place.statement ≡ p.number n
  place_is h b n s behind seen (Ok m) e =
      let act : Act = record { step = entered (entered_with p n h b seen m).count; place = place_of p n []; touches = entry_touches seen (entered_with p n h b seen m) [] } in
      let first : act ≡ a = cc in
      ap (λ (z : Act). z.place.statement) (sym first)
  place_is h b n s behind seen (Err f) e =
      let act : Act = record { step = faulted; place = place_of p n []; touches = evaluation.numbered 1 seen } in
      let first : act ≡ a = cc in
      ap (λ (z : Act). z.place.statement) (sym first)

  do_begins : (h : Head) (b : StmtTrees) (n : ℕ) → statement_with n t ≡ Some (Do h b) → (s : Store) (front behind : List Act) → (run p (Do h b) n [] s).acts ≡ front ++ a ∷ behind → Begins n (n + statement_count (Do h b)) (loops_round l (Do h b) n) s front behind
  do_begins h b n there s [] behind e =
      let same : o ≡ n = one o n (sym is ∙ place_is h b n s behind (limits (names_in p []) h s).seen (limits (names_in p []) h s).result e) in
      let both : Some (Do loop.head loop.body) ≡ Some (Do h b) = sym loop.is ∙ (ap (λ (m : ℕ). statement_with m t) same ∙ there) in
      let its : Do loop.head loop.body ≡ Do h b = cc in
      let body : loop.body ≡ b = cc in
      let count : statements_count loop.body ≡ statements_count b = ap statements_count body in
      record {
        after = [];
        acts = sym e ∙ ((λ i. (run p (sym its i) (sym same i) [] s).acts) ∙ sym (append-nil (run p (Do loop.head loop.body) o [] s).acts));
        least = omega (arith, same);
        most = omega (arith, same, count);
        nest = at_do l h b n (omega (arith, from, same)) (omega (arith, to, same, count)) ∙ sym same;
      }
  do_begins h b n there s (f ∷ fs) behind e = go (limits (names_in p []) h s).seen (limits (names_in p []) h s).result e
    where
      go : {A : Type 0} (seen : List Seen) (r : Result Limits ℕ) → (on_value (place_of p n []) seen r (λ seen m. run_from_entry seen (entered_with p n h b seen m) [] (place_of p n []) (λ f. run_all p b (n + 1) (f ∷ [])) s)).acts ≡ f ∷ (fs ++ a ∷ behind) → A
      go seen (Err i) e = simple _ (f ∷ fs) behind refl e
      go seen (Ok m) e =
          let others : (run_entered h.parallel (entered_with p n h b seen m).count (entered_with p n h b seen m) [] (place_of p n []) (λ f. run_all p b (n + 1) (f ∷ [])) (store_behind (entry_touches seen (entered_with p n h b seen m) []) s)).acts ≡ fs ++ a ∷ behind = cc in
          simple _ fs behind (entered_none (entered_with p n h b seen m) [] (place_of p n []) (λ f. run_all p b (n + 1) (f ∷ [])) (λ f u. all_inner_none p b (n + 1) f [] u) h.parallel (entered_with p n h b seen m).count (store_behind (entry_touches seen (entered_with p n h b seen m) []) s)) others

  if_begins : (n lo hi : ℕ) (condition : CondTree) (loops : List Loop) (run_a run_b : Store → Run) (s : Store) (front behind : List Act)
      → ((u : Store) (fs : List Act) → (run_a u).acts ≡ fs ++ a ∷ behind → Begins lo hi loops u fs behind) → ((u : Store) (fs : List Act) → (run_b u).acts ≡ fs ++ a ∷ behind → Begins lo hi loops u fs behind)
      → (on_value (place_of p n []) (truth (names_in p []) condition s).seen (truth (names_in p []) condition s).result (λ seen holds. does did (place_of p n []) (evaluation.numbered 1 seen) (if holds then run_a else run_b) s)).acts ≡ front ++ a ∷ behind
      → Begins lo hi loops s front behind
  if_begins n lo hi condition loops run_a run_b s front behind of_a of_b e = go (truth (names_in p []) condition s).seen (truth (names_in p []) condition s).result front e
    where
      part : (holds : Bool) (u : Store) (fs : List Act) → ((if holds then run_a else run_b) u).acts ≡ fs ++ a ∷ behind → Begins lo hi loops u fs behind
      part true u fs e = of_a u fs e
      part false u fs e = of_b u fs e

      go : (seen : List Seen) (r : Result Bool ℕ) (front : List Act) → (on_value (place_of p n []) seen r (λ seen holds. does did (place_of p n []) (evaluation.numbered 1 seen) (if holds then run_a else run_b) s)).acts ≡ front ++ a ∷ behind → Begins lo hi loops s front behind
      go seen (Err f) front e = simple _ front behind refl e
      go seen (Ok holds) [] e =
          let act : Act = record { step = did; place = place_of p n []; touches = evaluation.numbered 1 seen } in
          let first : act ≡ a = cc in
          let z : false ≡ true = ap enters first ∙ this_enters in
          untrue z
      go seen (Ok holds) (f ∷ fs) e =
          let act : Act = record { step = did; place = place_of p n []; touches = evaluation.numbered 1 seen } in
          let first : act ≡ f = cc in
          let others : ((if holds then run_a else run_b) (store_behind (evaluation.numbered 1 seen) s)).acts ≡ fs ++ a ∷ behind = cc in
          let r = part holds (store_behind (evaluation.numbered 1 seen) s) fs others in
          subst (λ (z : Act). Begins lo hi loops s (z ∷ fs) behind) first (record { after = r.after; acts = r.acts; least = r.least; most = r.most; nest = r.nest })

  alone : (lo mi hi : ℕ) (xs ys : List Loop) (s : Store) (front behind : List Act) → mi ≤ hi → (l < mi → ys ≡ []) → Begins lo mi xs s front behind → Begins lo hi (xs ++ ys) s front behind
  alone lo mi hi xs ys s front behind over second_none f =
      let f_most = f.most in
      record { after = f.after; acts = f.acts; least = f.least; most = omega (arith, f_most, over); nest = in_first l o xs ys (second_none (omega (arith, f_most, to))) f.nest }

  list_begins : (lo mi hi : ℕ) (xs ys : List Loop) (acts : List Act) (e : Ending) (next : Store → Run) (s : Store) (front behind : List Act)
      → lo ≤ mi → mi ≤ hi → (l < mi → ys ≡ []) → (mi ≤ l → xs ≡ [])
      → ((mid : List Act) → acts ≡ front ++ a ∷ mid → Begins lo mi xs s front mid) → ((u : Store) (rest : List Act) → (next u).acts ≡ rest ++ a ∷ behind → Begins mi hi ys u rest behind)
      → ((u : Store) → e ≡ going u → u ≡ store_after acts s)
      → (followed_by acts e next).acts ≡ front ++ a ∷ behind → Begins lo hi (xs ++ ys) s front behind
  list_begins lo mi hi xs ys acts (going u) next s front behind under over second_none first_none first second done eq = elim (split acts (next u).acts front a behind eq) [
    | inl r ↦ (
        let f = first r.0 r.1 in
        let f_most = f.most in
        let f_least = f.least in
        record {
          after = f.after ++ (next u).acts;
          acts = ap (λ (z : List Act). a ∷ z) r.2 ∙ (ap (λ (z : List Act). z ++ (next u).acts) f.acts ∙ append_assoc (run p (Do loop.head loop.body) o [] (store_after front s)).acts f.after (next u).acts);
          least = f_least;
          most = omega (arith, f_most, over);
          nest = in_first l o xs ys (second_none (omega (arith, f_most, to))) f.nest;
        }
        )
    | inr r ↦ (
        let f = second u r.0 r.2 in
        let f_most = f.most in
        let f_least = f.least in
        let store : store_after r.0 u ≡ store_after front s = ap (store_after r.0) (done u refl) ∙ (sym (after_append acts r.0 s) ∙ ap (λ (z : List Act). store_after z s) (sym r.1)) in
        record {
          after = f.after;
          acts = f.acts ∙ ap (λ (w : Store). (run p (Do loop.head loop.body) o [] w).acts ++ f.after) store;
          least = omega (arith, f_least, under);
          most = f_most;
          nest = in_second l o xs ys (first_none (omega (arith, f_least, from))) f.nest;
        }
        )
  ]
  list_begins lo mi hi xs ys acts (stopped u) next s front behind under over second_none first_none first second done eq = alone lo mi hi xs ys s front behind over second_none (first behind eq)
  list_begins lo mi hi xs ys acts (failed i n) next s front behind under over second_none first_none first second done eq = alone lo mi hi xs ys s front behind over second_none (first behind eq)

  widened : (lo hi lo' hi' : ℕ) (loops loops' : List Loop) (s : Store) (front behind : List Act) → lo' ≤ lo → hi ≤ hi' → outermost_or l loops' ≡ o → Begins lo hi loops s front behind → Begins lo' hi' loops' s front behind
  widened lo hi lo' hi' loops loops' s front behind h k nest r =
      let r_most = r.most in
      let r_least = r.least in
      record { after = r.after; acts = r.acts; least = omega (arith, r_least, h); most = omega (arith, r_most, k); nest = nest }

  mutual
    begins : (u : StmtTree) (n : ℕ) → Stand t n (numbered u) → (s : Store) (front behind : List Act) → (run p u n [] s).acts ≡ front ++ a ∷ behind → Begins n (n + statement_count u) (loops_round l u n) s front behind
    begins (Assign left right) n stands s front behind eq =
        simple _ front behind (on_none (place_of p n []) (assigned (names_in p []) left right s).seen (assigned (names_in p []) left right s).result (λ seen w. does did (place_of p n []) (assignment_touches seen w) nothing_done s) (λ w. refl)) eq
    begins (If condition ca cb) n stands s front behind eq =
        let parts = inner_stands t (If condition ca cb) (all_numbered ca ++ all_numbered cb) n stands in
        let xs : List Loop = all_loops_round l ca (n + 1) in
        let ys : List Loop = all_loops_round l cb (n + 1 + statements_count ca) in
        if_begins n n (n + statement_count (If condition ca cb)) condition (xs ++ ys) (run_all p ca (n + 1) []) (run_all p cb (n + 1 + statements_count ca) []) s front behind
        (λ u fs e. (
        let r = all_begins ca (n + 1) (first_stands t (n + 1) (all_numbered ca) (all_numbered cb) parts) u fs behind e in
        let most = r.most in
        widened (n + 1) (n + 1 + statements_count ca) n (n + statement_count (If condition ca cb)) xs (xs ++ ys) u fs behind (omega arith) (omega arith) (in_first l o xs ys (all_early l cb (n + 1 + statements_count ca) (omega (arith, most, to))) r.nest) r
        ))
        (λ u fs e. (
        let r = all_begins cb (n + 1 + statements_count ca) (else_stands t ca cb (n + 1) parts) u fs behind e in
        let least = r.least in
        widened (n + 1 + statements_count ca) (n + 1 + statements_count ca + statements_count cb) n (n + statement_count (If condition ca cb)) ys (xs ++ ys) u fs behind (omega arith) (omega arith) (in_second l o xs ys (all_late l ca (n + 1) (omega (arith, least, from))) r.nest) r
        )) eq
    begins (Do hd b) n stands s front behind eq = do_begins hd b n (is_there t (Do hd b) (all_numbered b) n stands) s front behind eq
    begins (Print items) n stands s front behind eq =
        simple _ front behind (on_none (place_of p n []) (printed_line (names_in p []) items s).seen (printed_line (names_in p []) items s).result (λ seen line. does did (place_of p n []) (print_touches seen line s) nothing_done s) (λ w. refl)) eq
    begins (Read items) n stands s front behind eq = simple _ front behind (taking_none (place_of p n []) (reading (names_in p []) items s) (reading (names_in p []) items s).fault s) eq
    begins Stop n stands s front behind eq = simple _ front behind refl eq
    begins (Comment text) n stands s front behind eq = simple _ front behind refl eq

    all_begins : (us : StmtTrees) (n : ℕ) → Stand t n (all_numbered us) → (s : Store) (front behind : List Act) → (run_all p us n [] s).acts ≡ front ++ a ∷ behind → Begins n (n + statements_count us) (all_loops_round l us n) s front behind
    all_begins no_stmts n stands s front behind eq = simple _ front behind refl eq
    all_begins (more_stmts u rest) n stands s front behind eq =
        list_begins n (n + statement_count u) (n + statements_count (more_stmts u rest)) (loops_round l u n) (all_loops_round l rest (n + statement_count u)) (run p u n [] s).acts (run p u n [] s).ending (run_all p rest (n + statement_count u) []) s front behind
        (omega arith) (omega arith) (all_early l rest (n + statement_count u)) (late l u n)
        (λ mid e. begins u n (first_stands t n (numbered u) (all_numbered rest) stands) s front mid e)
        (λ w fs e. (
        let r = all_begins rest (n + statement_count u) (rest_stands t u rest n stands) w fs behind e in
        widened (n + statement_count u) (n + statement_count u + statements_count rest) (n + statement_count u) (n + statements_count (more_stmts u rest)) (all_loops_round l rest (n + statement_count u)) (all_loops_round l rest (n + statement_count u)) w fs behind (omega arith) (omega arith) r.nest r
        ))
        (goes_with p u n s) eq

  pub whole_begins : (s : Store) (front behind : List Act) → (run_all p t.body 1 [] s).acts ≡ front ++ a ∷ behind → IsExecution p t l s front (a ∷ behind)
  whole_begins s front behind eq =
      let r = all_begins t.body 1 (whole_stands t) s front behind eq in
      let number : o ≡ outermost_or l (nest_round t l) = sym r.nest in
      record {
        loop = record { head = loop.head; body = loop.body; is = ap (λ (m : ℕ). statement_with m t) (sym number) ∙ loop.is };
        left = r.after;
        begins = r.acts ∙ ap (λ (m : ℕ). (run p (Do loop.head loop.body) m [] (store_after front s)).acts ++ r.after) number;
      }

-- what comes with the entry of an outermost DO and behind it begins with a run of this DO
pub entry_begins : (p : Setting) → IsOneToOne p.number → (t : ProgramTree) (s : Store) (l : ℕ) (front : List Act) → (e : IsEntry p t s l front) → IsExecution p t l s front (e.act ∷ e.behind)
entry_begins p one t s l front e = whole_begins p one t l e.act e.count e.enters e.outermost e.number e.loop e.is e.from e.to s front e.behind e.whole

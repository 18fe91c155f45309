-- The way down to statements that are exchanged: where acts are done on it, and a DO with the gap in its body.
use Rattle.std.proofs.Common.{◌⊎◌, ◌≡◌, ℕ, zero, suc, ◌+◌, ◌≤◌, List, [], ◌∷◌, ◌++◌, Bool, true, false, ◌||◌, Some, Ok, inl, inr, refl, sym, ap, subst, ◌∙◌, arith}
use Rattle.std.specs.List.{list_any}
use Rattle.std.proofs.lemmas.List.{append-nil, append_assoc}
use Rattle.std.proofs.lemmas.List.Folds.{list_any-append}
use Rattle.std.proofs.lemmas.Bool.{or_right}
use Rattle.ped_bodies.specs.ped_flow.specs.ped_tree.specs.Tree.{Head, StmtTree, StmtTrees, Do, no_stmts, more_stmts, ProgramTree}
use Rattle.ped_bodies.specs.ped_flow.specs.ped_tree.specs.Nests.{Loop}
use Rattle.ped_bodies.specs.ped_flow.specs.ped_tree.specs.Numbering.{all_numbered, statement_with, statement_count, statements_count}
use Rattle.ped_bodies.specs.ped_store.specs.Stores.{Store}
use Rattle.ped_bodies.specs.ped_store.specs.Acts.{Act, Touch, Turn, entered, ended_turn, closed, store_behind}
use Rattle.ped_bodies.specs.ped_laws.specs.Acts.Fitting.{store_after}
use Rattle.ped_bodies.specs.ped_laws.proofs.ActLaws.Stores.{after_append}
use Rattle.ped_bodies.specs.ped_eval.specs.Scopes.{Setting, Frame, Scope, turns_of, names_in, place_of}
use Rattle.ped_bodies.specs.ped_eval.specs.Evaluation.{Seen}
use Rattle.ped_bodies.specs.ped_eval.specs.Loops.{Limits, limits, Entered, entered_with, frame, exit_touches, exit_when_none, entry_touches}
use Rattle.ped_bodies.specs.ped_eval.specs.Runs.{Ending, going, stopped, failed, Run, nothing_done, followed_by, then_run, does, turns, parallel_turns, run_entered, run, run_all}
use Rattle.ped_bodies.specs.ped_eval.specs.Outcomes.{Ends}
use Rattle.ped_bodies.specs.ped_laws.specs.Runs.Replaying.{goes_on, finish_of, act}
use Rattle.ped_bodies.specs.ped_laws.proofs.RunLaws.Touches.{Each}
use Rattle.ped_bodies.specs.ped_laws.proofs.RunLaws.StatementsTold.{parallel_told, all_told}
use Rattle.ped_bodies.specs.ped_flow.specs.PlainBounds.{nest_round, outermost_or}
use Rattle.ped_bodies.specs.ped_laws.specs.FlowRuns.Exits.{IsOneToOne, AreIterationsOf}
use Rattle.ped_bodies.specs.ped_laws.proofs.FlowRunLaws.Unstopped.{IsUnstopped}
use Rattle.ped_bodies.specs.ped_laws.proofs.FlowRunLaws.Standing.{Stand, inner_stands, is_there}
use Rattle.ped_bodies.specs.ped_steps.specs.Replacing.{followed}
use Rattle.ped_bodies.specs.ped_steps.specs.Runs.Pasting.{AreTurnsOf, IsPlaceOf, IsPartOf, IsInExecution, IsInOutermost, is_in_parallel}
use Rattle.ped_bodies.specs.ped_laws.specs.Acts.Orders.{IsIn}
use Rattle.ped_bodies.specs.ped_laws.proofs.ActLaws.Lists.{in_right}
use Rattle.ped_loop_runs.specs.Executions.{IsEntered, AreEntered, AreEnteredIn}
use Rattle.ped_loop_runs.proofs.PastingLaws.JoinedParts.{AreJoined, joined_nothing, joined_then, joined_act, joined_changed}
use Rattle.ped_loop_runs.proofs.PastingLaws.LeftPlaces.{LeaveAll, left_narrow, left_inward, left_append, left_body, left_end, left_turns, left_parallel}
use Rattle.ped_loop_runs.proofs.PastingLaws.LeftCopies.{IsOwn, entry_own, exit_own, exit_when_own}

-- statements behind statements
module _ (acts : List Act) (g : Store → Run) where
  behind_then : (more : List Act) (e : Ending) → record { acts = acts ++ (followed_by more e g).acts; ending = (followed_by more e g).ending } ≡ followed_by (acts ++ more) e g
  behind_then more (going v) = λ i. record { acts = sym (append_assoc acts more (g v).acts) i; ending = (g v).ending }
  behind_then more (stopped v) = refl
  behind_then more (failed fault n) = refl

  then_then : (e : Ending) (f : Store → Run) → followed_by acts e (λ v. then_run (f v) g) ≡ then_run (followed_by acts e f) g
  then_then (going v) f = behind_then (f v).acts (f v).ending
  then_then (stopped v) f = refl
  then_then (failed fault n) f = refl

pub run_followed : (q : Setting) (xs ys : StmtTrees) (n : ℕ) (scope : Scope) → run_all q (followed xs ys) n scope ≡ (λ u. then_run (run_all q xs n scope u) (run_all q ys (n + statements_count xs) scope))
run_followed q no_stmts ys n scope = ap (λ (m : ℕ). run_all q ys m scope) (omega arith)
run_followed q (more_stmts x xs) ys n scope =
    (λ i u. then_run (run q x n scope u) (run_followed q xs ys (n + statement_count x) scope i))
    ∙ ((λ i u. then_then (run q x n scope u).acts (run_all q ys (n + statement_count x + statements_count xs) scope) (run q x n scope u).ending (run_all q xs (n + statement_count x) scope) i)
    ∙ ap (λ (m : ℕ). λ u. then_run (run_all q (more_stmts x xs) n scope u) (run_all q ys m scope)) (omega arith))

-- the way down to the gap has come to these statements, with numbers from n on, in iterations of the loops round them; these loops are left
pub record IsReached (p : Setting) (t : ProgramTree) (l : ℕ) (scope : Scope) (n : ℕ) (xs : List StmtTree) (loops : List Loop) : Type 0 where
  pub stand : Stand t n xs
  pub iterations : AreIterationsOf p t scope
  pub front : List Loop
  pub nest : nest_round t l ≡ front ++ loops
  pub turns : AreTurnsOf p.number front (turns_of scope)

turns_more : (number : ℕ → ℕ) (ls : List Loop) (ts : List Turn) (l : Loop) (t : Turn) → AreTurnsOf number ls ts → t.statement ≡ number l.number → t.parallel ≡ l.head.parallel → AreTurnsOf number (ls ++ l ∷ []) (ts ++ t ∷ [])
turns_more number [] [] l t h e f = (e, f, tt)
turns_more number [] (x ∷ ts) l t h e f = absurd h
turns_more number (k ∷ ls) [] l t h e f = absurd h
turns_more number (k ∷ ls) (x ∷ ts) l t h e f = (h.0, h.1, turns_more number ls ts l t h.2 e f)

module _ (p : Setting) (t : ProgramTree) (l : ℕ) (scope : Scope) where
  pub reached_with : (n m : ℕ) (xs ys : List StmtTree) (loops rest : List Loop) → (Stand t n xs → Stand t m ys) → loops ≡ rest → IsReached p t l scope n xs loops → IsReached p t l scope m ys rest
  reached_with n m xs ys loops rest f e h = record { stand = f h.stand; iterations = h.iterations; front = h.front; nest = h.nest ∙ ap (λ (z : List Loop). h.front ++ z) e; turns = h.turns }

  pub reached_place : (n : ℕ) (xs : List StmtTree) (loops : List Loop) → loops ≡ [] → IsReached p t l scope n xs loops → IsPlaceOf p t l scope
  reached_place n xs loops e h = record {
    iterations = h.iterations;
    turns = subst (λ (z : List Loop). AreTurnsOf p.number z (turns_of scope)) (sym (h.nest ∙ (ap (λ (z : List Loop). h.front ++ z) e ∙ append-nil h.front))) h.turns;
  }

  pub parallel_round : (n : ℕ) (h : Head) (xs : List StmtTree) (loops rest : List Loop) → loops ≡ (record { number = n; head = h }) ∷ rest → h.parallel ≡ true → IsReached p t l scope n xs loops → is_in_parallel t l ≡ true
  parallel_round n h xs loops rest e parallel r =
      ap (list_any (λ (m : Loop). m.head.parallel)) (r.nest ∙ ap (λ (z : List Loop). r.front ++ z) e)
      ∙ (list_any-append (λ (m : Loop). m.head.parallel) r.front ((record { number = n; head = h }) ∷ rest)
      ∙ (ap (λ (b : Bool). list_any (λ (m : Loop). m.head.parallel) r.front || (b || list_any (λ (m : Loop). m.head.parallel) rest)) parallel
      ∙ or_right (list_any (λ (m : Loop). m.head.parallel) r.front) true refl))

  pub reached_body : (n k : ℕ) (h : Head) (b : StmtTrees) (seen : List Seen) (m : Limits) (loops rest : List Loop) → loops ≡ (record { number = n; head = h }) ∷ rest → IsReached p t l scope n (Do h b ∷ all_numbered b) loops
      → IsReached p t l (frame (entered_with p n h b seen m) k ∷ scope) (n + 1) (all_numbered b) rest
  reached_body n k h b seen m loops rest e r = record {
    stand = inner_stands t (Do h b) (all_numbered b) n r.stand;
    iterations = (record { number = n; loop = record { head = h; body = b; is = is_there t (Do h b) (all_numbered b) n r.stand }; turn = refl; variable = refl; private = refl }, r.iterations);
    front = r.front ++ (record { number = n; head = h }) ∷ [];
    nest = r.nest ∙ (ap (λ (z : List Loop). r.front ++ z) e ∙ sym (append_assoc r.front ((record { number = n; head = h }) ∷ []) rest));
    turns = turns_more p.number r.front (turns_of scope) (record { number = n; head = h }) (frame (entered_with p n h b seen m) k).turn r.turns refl refl;
  }

pub none_left : (xs ys : List Loop) → ys ≡ [] → xs ++ ys ≡ xs
none_left xs ys h = ap (λ (z : List Loop). xs ++ z) h ∙ append-nil xs

pub none_first : (xs ys : List Loop) → xs ≡ [] → xs ++ ys ≡ ys
none_first xs ys h = ap (λ (z : List Loop). z ++ ys) h

pub must_go : (e : Ending) → Ends e → IsUnstopped e → finish_of e ≡ goes_on
must_go (going v) h k = refl
must_go (stopped v) h k = absurd k
must_go (failed fault n) h k = absurd h

-- where acts of a run are done
part_first : (whole : List Act) (start : Store) (acts others : List Act) (u : Store) → IsPartOf whole start (acts ++ others) u → IsPartOf whole start acts u
part_first whole start acts others u d = record { front = d.front; behind = others ++ d.behind; is = d.is ∙ ap (λ (z : List Act). d.front ++ z) (append_assoc acts others d.behind); from = d.from }

part_rest : (whole : List Act) (start : Store) (acts others : List Act) (u : Store) → IsPartOf whole start (acts ++ others) u → IsPartOf whole start others (store_after acts u)
part_rest whole start acts others u d = record {
  front = d.front ++ acts;
  behind = d.behind;
  is = d.is ∙ (ap (λ (z : List Act). d.front ++ z) (append_assoc acts others d.behind) ∙ sym (append_assoc d.front acts (others ++ d.behind)));
  from = ap (store_after acts) d.from ∙ sym (after_append d.front acts start);
}

part_itself : (acts : List Act) (u : Store) → IsPartOf acts u acts u
part_itself acts u = record { front = []; behind = []; is = sym (append-nil acts); from = refl }

module _ (p : Setting) (t : ProgramTree) (start : Store) (l : ℕ) where
  abbrev pub Whole : List Act
  Whole = (run_all p t.body 1 [] start).acts

  abbrev inner_first : (acts others : List Act) (u : Store) → IsInExecution p t start l (acts ++ others) u → IsInExecution p t start l acts u
  inner_first acts others u x = record { loop = x.loop; from = x.from; to = x.to; first = x.first; execution = x.execution; ends = x.ends; part = part_first _ x.first acts others u x.part }

  abbrev inner_rest : (acts others : List Act) (u : Store) → IsInExecution p t start l (acts ++ others) u → IsInExecution p t start l others (store_after acts u)
  inner_rest acts others u x = record { loop = x.loop; from = x.from; to = x.to; first = x.first; execution = x.execution; ends = x.ends; part = part_rest _ x.first acts others u x.part }

  -- the acts of the execution of the outermost DO
  abbrev pub outer_acts : {acts : List Act} {u : Store} → IsInExecution p t start l acts u → List Act
  outer_acts x = (run p (Do x.loop.head x.loop.body) (outermost_or l (nest_round t l)) [] x.first).acts

  abbrev pub Inside : Scope → List Act → Store → Type 0
  Inside [] acts u = Unit {0}
  Inside (f ∷ fs) acts u = (x : IsInExecution p t start l acts u) × AreEntered p t (outer_acts x) x.first (f ∷ fs)

  inside_first : (S : Scope) (acts others : List Act) (u : Store) → Inside S (acts ++ others) u → Inside S acts u
  inside_first [] acts others u d = tt
  inside_first (f ∷ fs) acts others u d = (inner_first acts others u d.0, d.1)

  inside_rest : (S : Scope) (acts others : List Act) (u : Store) → Inside S (acts ++ others) u → Inside S others (store_after acts u)
  inside_rest [] acts others u d = tt
  inside_rest (f ∷ fs) acts others u d = (inner_rest acts others u d.0, d.1)

  pub inside_outer : (S : Scope) (acts : List Act) (u : Store) → Inside S acts u → (x : IsInOutermost p t start l S acts u) × AreEnteredIn p t start l S acts u x
  inside_outer [] acts u d = (tt, tt)
  inside_outer (f ∷ fs) acts u d = d

  -- the first of acts that are done is one of the whole
  pub in_whole : (front : List Act) (a : Act) (behind : List Act) → Whole ≡ front ++ a ∷ behind → IsIn a Whole
  in_whole front a behind e = subst (IsIn a) (sym e) (in_right a front (a ∷ behind) (inl refl))

  -- acts of statements with these numbers are done in these iterations, behind the front
  pub record IsHere (S : Scope) (n count : ℕ) (front acts behind : List Act) (u : Store) : Type 0 where
    pub whole : Whole ≡ front ++ (acts ++ behind)
    pub from : u ≡ store_after front start
    pub inside : Inside S acts u
    pub before : LeaveAll p S n count front
    pub after : LeaveAll p S n count behind

  pub whole_first : (front acts others behind : List Act) → Whole ≡ front ++ ((acts ++ others) ++ behind) → Whole ≡ front ++ (acts ++ (others ++ behind))
  whole_first front acts others behind e = e ∙ ap (λ (z : List Act). front ++ z) (append_assoc acts others behind)

  pub whole_rest : (front acts others behind : List Act) → Whole ≡ front ++ ((acts ++ others) ++ behind) → Whole ≡ (front ++ acts) ++ (others ++ behind)
  whole_rest front acts others behind e = whole_first front acts others behind e ∙ sym (append_assoc front acts (others ++ behind))

  pub from_rest : (front acts : List Act) (u : Store) → u ≡ store_after front start → store_after acts u ≡ store_after (front ++ acts) start
  from_rest front acts u e = ap (store_after acts) e ∙ sym (after_append front acts start)

  pub here_first : (S : Scope) (n count lo more : ℕ) (front acts others behind : List Act) (u : Store) → n ≤ lo → lo + more ≤ n + count → LeaveAll p S lo more others → IsHere S n count front (acts ++ others) behind u → IsHere S lo more front acts (others ++ behind) u
  here_first S n count lo more front acts others behind u below above leave d = record {
    whole = whole_first front acts others behind d.whole;
    from = d.from;
    inside = inside_first S acts others u d.inside;
    before = left_narrow p S n count lo more front below above d.before;
    after = left_append p S lo more others behind leave (left_narrow p S n count lo more behind below above d.after);
  }

  pub here_only : (S : Scope) (n count lo more : ℕ) (front acts behind : List Act) (u : Store) → n ≤ lo → lo + more ≤ n + count → IsHere S n count front acts behind u → IsHere S lo more front acts behind u
  here_only S n count lo more front acts behind u below above d = record {
    whole = d.whole;
    from = d.from;
    inside = d.inside;
    before = left_narrow p S n count lo more front below above d.before;
    after = left_narrow p S n count lo more behind below above d.after;
  }

  pub here_rest : (S : Scope) (n count lo more : ℕ) (front acts others behind : List Act) (u : Store) → n ≤ lo → lo + more ≤ n + count → LeaveAll p S lo more acts → IsHere S n count front (acts ++ others) behind u → IsHere S lo more (front ++ acts) others behind (store_after acts u)
  here_rest S n count lo more front acts others behind u below above leave d = record {
    whole = whole_rest front acts others behind d.whole;
    from = from_rest front acts u d.from;
    inside = inside_rest S acts others u d.inside;
    before = left_append p S lo more front acts (left_narrow p S n count lo more front below above d.before) leave;
    after = left_narrow p S n count lo more behind below above d.after;
  }

  -- into a DO
  pub outermost_is : (scope : Scope) (n : ℕ) (h : Head) (xs : List StmtTree) (loops rest : List Loop) → turns_of scope ≡ [] → loops ≡ (record { number = n; head = h }) ∷ rest → IsReached p t l scope n xs loops → n ≡ outermost_or l (nest_round t l)
  outermost_is scope n h xs loops rest none e r = by r.front r.nest r.turns
    where
      by : (front : List Loop) → nest_round t l ≡ front ++ loops → AreTurnsOf p.number front (turns_of scope) → n ≡ outermost_or l (nest_round t l)
      by [] nest turns = sym (ap (outermost_or l) (nest ∙ e))
      by (m ∷ ms) nest turns = absurd (subst (AreTurnsOf p.number (m ∷ ms)) none turns)

  -- a DO whose bounds have seen this and come to these limits, and its iterations
  module _ (S : Scope) (n : ℕ) (h : Head) (b : StmtTrees) (seen : List Seen) (m : Limits) where
    abbrev pub E : Entered
    E = entered_with p n h b seen m

    abbrev pub Body : Frame → Store → Run
    Body f = run_all p b (n + 1) (f ∷ S)

    abbrev pub Entry : Act
    Entry = act (entered E.count) (place_of p n S) (entry_touches seen E S)

    -- each iteration is one of those that are entered
    abbrev pub Entering : List Act → Store → Type 0
    Entering acts u = (x : IsInExecution p t start l acts u) × ((j : ℕ) → 1 ≤ j → j ≤ E.count → AreEntered p t (outer_acts x) x.first (frame E j ∷ S))

    -- acts of iterations from k on
    pub record IsInLoop (k : ℕ) (front acts behind : List Act) (u : Store) : Type 0 where
      pub whole : Whole ≡ front ++ (acts ++ behind)
      pub from : u ≡ store_after front start
      pub entering : Entering acts u
      pub before : (j : ℕ) → k ≤ j → LeaveAll p (frame E j ∷ S) (n + 1) (statements_count b) front
      pub after : (j : ℕ) → k ≤ j → LeaveAll p (frame E j ∷ S) (n + 1) (statements_count b) behind

    one_entered : (acts : List Act) (first : Store) (u : Store) (front behind : List Act) → statement_with n t ≡ Some (Do h b) → acts ≡ front ++ behind → u ≡ store_after front first → limits (names_in p S) h u ≡ record { seen = seen; result = Ok m }
        → (j : ℕ) → 1 ≤ j → j ≤ E.count → IsEntered p t acts first S (frame E j)
    one_entered acts first u front behind there whole left come j from to = record {
      number = n;
      loop = record { head = h; body = b; is = there };
      front = front;
      behind = behind;
      whole = whole;
      store = u;
      left = left;
      seen = seen;
      bounds = m;
      come = come;
      turn = j;
      from = from;
      to = to;
      is = refl;
    }

    module _ (more : List Act) (u : Store) (there : statement_with n t ≡ Some (Do h b)) (come : limits (names_in p S) h u ≡ record { seen = seen; result = Ok m }) where
      -- the execution of the outermost DO, which this is or which is round it
      pub executing : (run p (Do h b) n S u).acts ≡ Entry ∷ more → (S ≡ [] → n ≡ outermost_or l (nest_round t l)) → n ≤ l → l ≤ n + statements_count b → Ends (run p (Do h b) n S u).ending → IsPartOf Whole start (Entry ∷ more) u → Inside S (Entry ∷ more) u → Entering (Entry ∷ more) u
      executing acts is from to ends part inside = by S refl
        where
          by : (T : Scope) → S ≡ T → Entering (Entry ∷ more) u
          by [] none = outside
            where
              itself : n ≡ outermost_or l (nest_round t l)
              itself = is none

              run_is : run p (Do h b) n S u ≡ run p (Do h b) (outermost_or l (nest_round t l)) [] u
              run_is = ap (λ (T : Scope). run p (Do h b) n T u) none ∙ ap (λ (k : ℕ). run p (Do h b) k [] u) itself

              acts_are : (run p (Do h b) (outermost_or l (nest_round t l)) [] u).acts ≡ Entry ∷ more
              acts_are = ap (λ (r : Run). r.acts) (sym run_is) ∙ acts

              outside : Entering (Entry ∷ more) u
              outside = (
                record {
                  loop = record { head = h; body = b; is = subst (λ (k : ℕ). statement_with k t ≡ Some (Do h b)) itself there };
                  from = subst (λ (k : ℕ). k ≤ l) itself from;
                  to = subst (λ (k : ℕ). l ≤ k + statements_count b) itself to;
                  first = u;
                  execution = subst (λ (z : List Act). IsPartOf Whole start z u) (sym acts_are) part;
                  ends = subst (λ (r : Run). Ends r.ending) run_is ends;
                  part = subst (λ (z : List Act). IsPartOf z u (Entry ∷ more) u) (sym acts_are) (part_itself (Entry ∷ more) u);
                },
                λ j lo hi. (
                  one_entered (run p (Do h b) (outermost_or l (nest_round t l)) [] u).acts u u [] (run p (Do h b) (outermost_or l (nest_round t l)) [] u).acts there refl refl come j lo hi,
                  subst (AreEntered p t (run p (Do h b) (outermost_or l (nest_round t l)) [] u).acts u) (sym none) tt,
                ),
              )
          by (f ∷ fs) some = within
            where
              d : Inside (f ∷ fs) (Entry ∷ more) u
              d = subst (λ (T : Scope). Inside T (Entry ∷ more) u) some inside

              within : Entering (Entry ∷ more) u
              within = (
                d.0,
                λ j lo hi. (
                  one_entered (outer_acts d.0) d.0.first u d.0.part.front ((Entry ∷ more) ++ d.0.part.behind) there d.0.part.is d.0.part.from come j lo hi,
                  subst (AreEntered p t (outer_acts d.0) d.0.first) (sym some) d.1,
                ),
              )

    -- behind the entry
    pub enter : IsOneToOne p.number → (count : ℕ) (front more behind : List Act) (u : Store) → count ≡ statements_count b + 1 → Entering (Entry ∷ more) u → limits (names_in p S) h u ≡ record { seen = seen; result = Ok m } → IsHere S n count front (Entry ∷ more) behind u
        → IsInLoop 1 (front ++ Entry ∷ []) more behind (store_after (Entry ∷ []) u)
    enter one count front more behind u size x come d = record {
      whole = whole_rest front (Entry ∷ []) more behind d.whole;
      from = from_rest front (Entry ∷ []) u d.from;
      entering = (inner_rest (Entry ∷ []) more u x.0, x.1);
      before = λ j k. left_append p (frame E j ∷ S) (n + 1) (statements_count b) front (Entry ∷ [])
          (left_inward p n h b seen m S j n count (n + 1) (statements_count b) front (omega arith) (omega (arith, size)) (omega arith) (omega (arith, size)) d.before)
          (left_end p one n h b seen m S j (n + 1) (statements_count b) (entered E.count) (entry_touches seen E S) (omega arith)
          (subst (λ (z : List Seen). Each (λ (w : Touch). IsOwn p S w.cell) (entry_touches z E S)) (ap (λ r. r.seen) come) (entry_own p S h u E)));
      after = λ j k. left_inward p n h b seen m S j n count (n + 1) (statements_count b) behind (omega arith) (omega (arith, size)) (omega arith) (omega (arith, size)) d.after;
    }

    in_trip : (k : ℕ) (front acts others behind : List Act) (u : Store) → 1 ≤ k → k ≤ E.count → LeaveAll p (frame E k ∷ S) (n + 1) (statements_count b) others → IsInLoop k front (acts ++ others) behind u
        → IsHere (frame E k ∷ S) (n + 1) (statements_count b) front acts (others ++ behind) u
    in_trip k front acts others behind u lo hi leave d = record {
      whole = whole_first front acts others behind d.whole;
      from = d.from;
      inside = (inner_first acts others u d.entering.0, d.entering.1 k lo hi);
      before = d.before k (omega arith);
      after = left_append p (frame E k ∷ S) (n + 1) (statements_count b) others behind leave (d.after k (omega arith));
    }

    in_last_trip : (k : ℕ) (front acts behind : List Act) (u : Store) → 1 ≤ k → k ≤ E.count → IsInLoop k front acts behind u → IsHere (frame E k ∷ S) (n + 1) (statements_count b) front acts behind u
    in_last_trip k front acts behind u lo hi d = record { whole = d.whole; from = d.from; inside = (d.entering.0, d.entering.1 k lo hi); before = d.before k (omega arith); after = d.after k (omega arith) }

    further_on : (k j : ℕ) (front acts others behind : List Act) (u : Store) → k ≤ j → ((i : ℕ) → j ≤ i → LeaveAll p (frame E i ∷ S) (n + 1) (statements_count b) acts) → IsInLoop k front (acts ++ others) behind u
        → IsInLoop j (front ++ acts) others behind (store_after acts u)
    further_on k j front acts others behind u later leave d = record {
      whole = whole_rest front acts others behind d.whole;
      from = from_rest front acts u d.from;
      entering = (inner_rest acts others u d.entering.0, d.entering.1);
      before = λ i e. left_append p (frame E i ∷ S) (n + 1) (statements_count b) front acts (d.before i (omega (arith, later, e))) (leave i e);
      after = λ i e. d.after i (omega (arith, later, e));
    }

    before_last : (k : ℕ) (front acts others behind : List Act) (u : Store) → ((i : ℕ) → k ≤ i → LeaveAll p (frame E i ∷ S) (n + 1) (statements_count b) others) → IsInLoop k front (acts ++ others) behind u → IsInLoop k front acts (others ++ behind) u
    before_last k front acts others behind u leave d = record {
      whole = whole_first front acts others behind d.whole;
      from = d.from;
      entering = (inner_first acts others u d.entering.0, d.entering.1);
      before = d.before;
      after = λ i e. left_append p (frame E i ∷ S) (n + 1) (statements_count b) others behind (leave i e) (d.after i e);
    }

    module _ (one : IsOneToOne p.number) (By : List Act → List Act → Store → List Act → List Act → Type 0) (T : Scope) (F : Entered) (other : Frame → Store → Run)
        (comes : (k : ℕ) → 1 ≤ k → k ≤ E.count → AreJoined By (IsHere (frame E k ∷ S) (n + 1) (statements_count b)) (Body (frame E k)) (other (frame F k))) where
      abbrev Ended : ℕ → Act
      Ended left = act (ended_turn left) (place_of p n S) (exit_when_none left E S)

      abbrev Closing : Act
      Closing = act closed (place_of p n S) (exit_touches E S)

      -- the ends of iterations stay
      abbrev EndsStay : Type 0
      EndsStay = (left : ℕ) → IsIn (Ended left) Whole → exit_when_none left F T ≡ exit_when_none left E S

      turns_come : EndsStay → (left k : ℕ) → 1 ≤ k → k + left ≡ E.count + 1 → AreJoined By (IsInLoop k) (turns left k E S (place_of p n S) Body) (turns left k F T (place_of p n S) other)
      turns_come stay zero k lo whole = joined_nothing By (IsInLoop k)
      turns_come stay (suc left) k lo whole =
          let ending : (i : ℕ) → LeaveAll p (frame E i ∷ S) (n + 1) (statements_count b) (Ended left ∷ []) =
          λ i. left_end p one n h b seen m S i (n + 1) (statements_count b) (ended_turn left) (exit_when_none left E S) (omega arith) (exit_when_own p S left E) in
          let hi : k ≤ E.count = omega (arith, whole) in
          joined_then By (IsInLoop k) (IsHere (frame E k ∷ S) (n + 1) (statements_count b)) (IsInLoop (k + 1)) (Body (frame E k))
          (does (ended_turn left) (place_of p n S) (exit_when_none left E S) (turns left (k + 1) E S (place_of p n S) Body)) (other (frame F k))
          (does (ended_turn left) (place_of p n S) (exit_when_none left F T) (turns left (k + 1) F T (place_of p n S) other)) (all_told p b (n + 1) (frame E k ∷ S))
          (λ front behind u v d. in_trip k front (Body (frame E k) u).acts (Ended left ∷ (turns left (k + 1) E S (place_of p n S) Body (store_behind (exit_when_none left E S) v)).acts) behind u lo hi
          (left_append p (frame E k ∷ S) (n + 1) (statements_count b) (Ended left ∷ []) (turns left (k + 1) E S (place_of p n S) Body (store_behind (exit_when_none left E S) v)).acts (ending k)
          (left_turns p one n h b seen m S left (k + 1) (store_behind (exit_when_none left E S) v) k (n + 1) (statements_count b) (omega arith) (omega arith))) d)
          (λ front behind u d. in_last_trip k front (Body (frame E k) u).acts behind u lo hi d)
          (λ front behind u d.
          let v = store_after (Body (frame E k) u).acts u in
          further_on k (k + 1) front (Body (frame E k) u).acts (Ended left ∷ (turns left (k + 1) E S (place_of p n S) Body (store_behind (exit_when_none left E S) v)).acts) behind u (omega arith)
          (λ i e. left_body p one n h b seen m S i k u (n + 1) (statements_count b) (λ same. omega (arith, e, same))) d)
          (comes k lo hi)
          (λ front behind u d e. joined_act By (ended_turn left) (place_of p n S) (exit_when_none left E S) (exit_when_none left F T) (turns left (k + 1) E S (place_of p n S) Body) (turns left (k + 1) F T (place_of p n S) other) front behind u
          (stay left (in_whole front (Ended left) ((turns left (k + 1) E S (place_of p n S) Body (store_behind (exit_when_none left E S) u)).acts ++ behind) d.whole))
          (turns_come stay left (k + 1) (omega arith) (omega (arith, whole)) (front ++ Ended left ∷ []) behind (store_behind (exit_when_none left E S) u)
          (further_on (k + 1) (k + 1) front (Ended left ∷ []) (turns left (k + 1) E S (place_of p n S) Body (store_behind (exit_when_none left E S) u)).acts behind u (omega arith) (λ i q. ending i) d) e))

      parallel_come : (left k : ℕ) → 1 ≤ k → k + left ≡ E.count + 1 → AreJoined By (IsInLoop k) (parallel_turns left k E Body) (parallel_turns left k F other)
      parallel_come zero k lo whole = joined_nothing By (IsInLoop k)
      parallel_come (suc left) k lo whole =
          let hi : k ≤ E.count = omega (arith, whole) in
          joined_then By (IsInLoop k) (IsHere (frame E k ∷ S) (n + 1) (statements_count b)) (IsInLoop (k + 1)) (Body (frame E k)) (parallel_turns left (k + 1) E Body) (other (frame F k)) (parallel_turns left (k + 1) F other)
          (all_told p b (n + 1) (frame E k ∷ S))
          (λ front behind u v d. in_trip k front (Body (frame E k) u).acts (parallel_turns left (k + 1) E Body v).acts behind u lo hi (left_parallel p one n h b seen m S left (k + 1) v k (n + 1) (statements_count b) (omega arith)) d)
          (λ front behind u d. in_last_trip k front (Body (frame E k) u).acts behind u lo hi d)
          (λ front behind u d. further_on k (k + 1) front (Body (frame E k) u).acts (parallel_turns left (k + 1) E Body (store_after (Body (frame E k) u).acts u)).acts behind u (omega arith)
          (λ i e. left_body p one n h b seen m S i k u (n + 1) (statements_count b) (λ same. omega (arith, e, same))) d)
          (comes k lo hi) (parallel_come left (k + 1) (omega arith) (omega (arith, whole)))

      -- the close of a PARALLEL DO stays, or is changed
      abbrev IsDoneAt : List Act → List Act → List Act → Store → Type 0
      IsDoneAt front acts behind u = (Whole ≡ front ++ (acts ++ behind)) × (u ≡ store_after front start)

      abbrev Closes : Type 0
      Closes = (front behind : List Act) (u : Store) → IsDoneAt front (Closing ∷ []) behind u → (exit_touches F T ≡ exit_touches E S) ⊎ By front behind u (Closing ∷ []) (act closed (place_of p n S) (exit_touches F T) ∷ [])

      close_comes : Closes → AreJoined By IsDoneAt (does closed (place_of p n S) (exit_touches E S) nothing_done) (does closed (place_of p n S) (exit_touches F T) nothing_done)
      close_comes closes front behind u d ends =
          let rest = joined_nothing By (λ front acts behind u. Unit {0}) (front ++ Closing ∷ []) behind (store_behind (exit_touches E S) u) tt tt in
          elim (closes front behind u d) [
            | inl stays ↦ joined_act By closed (place_of p n S) (exit_touches E S) (exit_touches F T) nothing_done nothing_done front behind u stays rest
            | inr by ↦ joined_changed By closed (place_of p n S) (exit_touches E S) (exit_touches F T) nothing_done nothing_done front behind u by rest
          ]

      pub entered_come : (parallel : Bool) → (parallel ≡ false → EndsStay) → (parallel ≡ true → Closes) → (so_many : ℕ) → so_many ≡ E.count → AreJoined By (IsInLoop 1) (run_entered parallel so_many E S (place_of p n S) Body) (run_entered parallel so_many F T (place_of p n S) other)
      entered_come parallel stay closes zero e = joined_nothing By (IsInLoop 1)
      entered_come false stay closes (suc more) e = turns_come (stay refl) (suc more) 1 (omega arith) (omega (arith, e))
      entered_come true stay closes (suc more) e =
          joined_then By (IsInLoop 1) (IsInLoop 1) IsDoneAt (parallel_turns (suc more) 1 E Body) (does closed (place_of p n S) (exit_touches E S) nothing_done) (parallel_turns (suc more) 1 F other) (does closed (place_of p n S) (exit_touches F T) nothing_done)
          (parallel_told E Body (λ f. all_told p b (n + 1) (f ∷ S)) (suc more) 1)
          (λ front behind u v d. before_last 1 front (parallel_turns (suc more) 1 E Body u).acts (Closing ∷ []) behind u
          (λ i q. left_end p one n h b seen m S i (n + 1) (statements_count b) closed (exit_touches E S) (omega arith) (exit_own p S E)) d)
          (λ front behind u d. d)
          (λ front behind u d. (whole_rest front (parallel_turns (suc more) 1 E Body u).acts (Closing ∷ []) behind d.whole, from_rest front (parallel_turns (suc more) 1 E Body u).acts u d.from))
          (parallel_come (suc more) 1 (omega arith) (omega (arith, e))) (close_comes (closes refl))

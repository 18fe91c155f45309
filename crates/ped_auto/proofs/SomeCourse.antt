-- The strategy comes to an end, whatever the editor, where each command that it tries is accepted or refused.
use Rattle.std.proofs.Common.{◌≡◌, ◌⊎◌, inl, inr, ℕ, zero, suc, ◌+◌, ◌≤◌, ◌<◌, List, [], ◌∷◌, ◌++◌, map, filter, length, Bool, true, false, cond, MatchBool, Some, refl, sym, subst, ap, ◌∙◌, arith, length-append}
use Rattle.std.specs.List.{AllByRecursion, range_with_len}
use Rattle.ped_script.specs.declared.items.Command.{Command}
use Rattle.ped_script.specs.declared.items.Command.TheVariants.{Parallel, Privatise, Reduce, Distribute}
use Rattle.ped_rules.specs.ped_flow.specs.ped_tree.specs.Tree.{ProgramTree}
use Rattle.ped_rules.specs.ped_steps.specs.Causes.{Cause}
use Rattle.ped_auto.specs.SerialLoops.{is_serial_loop, count_of, IsNumber, serial_loops}
use Rattle.ped_auto.specs.CarriedNames.{AreCarried, are_scalars, are_few_scalars}
use Rattle.ped_auto.specs.Editing.{Editing, IsOfStrategy, IsEditing, transformed_by, IsAt}
use Rattle.ped_auto.specs.Strategy.{Stage, Takes, Tries, TriesEach, WithNames, TriesPrivate, Privatises, Reduces, OrElse, Attempts, Divides, Visits, VisitsAgain, Meets, RoundFrom, Round, AcceptsNothing, FurtherRounds, Report, starting, AreLeft, IsAuto}
use Rattle.ped_auto.specs.CodeStages.{Leads}
use Rattle.ped_auto.proofs.Leading.{leads_again, leads_round, leads_round_from}
use Rattle.ped_auto.proofs.Falling.{Falls, falls_round}

-- a command of the strategy is accepted in a state, and so is what holds there; or it is refused
abbrev pub IsSettled : {S : Type 0} → Editing S → (S → Type 0) → S → Command → Type 0
IsSettled {S} e Good s c = ((next : S) × (tests : ℕ) × e.Accepts s c next tests × Good next) ⊎ ((why : Cause) × e.Refuses s c why)

-- each state of which something holds has a present program, and each command of the strategy at a statement of it is settled; each DO carries some names
pub record IsDecided {S : Type 0} (e : Editing S) (Good : S → Type 0) : Type 0 where
  pub program : (s : S) → Good s → (t : ProgramTree) × e.Reads s t
  pub settled : (s : S) (c : Command) (t : ProgramTree) → Good s → IsOfStrategy c → e.Reads s t → IsAt t (transformed_by c) → IsSettled e Good s c
  pub names : (t : ProgramTree) (number : ℕ) → (names : List (List ℕ)) × AreCarried t number names

-- a stage with a program that has a statement with this number
pub record Stands {S : Type 0} (e : Editing S) (Good : S → Type 0) (number : ℕ) (p : Stage S) : Type 0 where
  pub good : Good p.now
  pub program : ProgramTree
  pub reads : e.Reads p.now program
  pub there : IsNumber program number

-- what is done has an outcome
pub record Outcome {S : Type 0} (e : Editing S) (Good : S → Type 0) (number : ℕ) (Does : Bool → Stage S → Type 0) : Type 0 where
  pub done : Bool
  pub stage : Stage S
  pub does : Does done stage
  pub stands : Stands e Good number stage

-- what is done comes to a stage
pub record Comes {S : Type 0} (e : Editing S) (Good : S → Type 0) (number : ℕ) (Does : Stage S → Type 0) : Type 0 where
  pub stage : Stage S
  pub does : Does stage
  pub stands : Stands e Good number stage

-- one of two numbers is at most the other, or greater
more_or_not : (m n : ℕ) → (m ≤ n) ⊎ (n < m)
more_or_not zero n = inl (omega arith)
more_or_not (suc m) zero = inr (omega arith)
more_or_not (suc m) (suc n) = by (more_or_not m n)
  where
    by : (m ≤ n) ⊎ (n < m) → (suc m ≤ suc n) ⊎ (suc n < suc m)
    by (inl h) = inl (omega (arith, h))
    by (inr h) = inr (omega (arith, h))

module _ {S : Type 0} (e : Editing S) (Good : S → Type 0) (laws : IsEditing e) (decided : IsDecided e Good) where
  -- a command at this statement
  tries : (c : Command) (number : ℕ) → IsOfStrategy c → transformed_by c ≡ Some number → (p : Stage S) → Stands e Good number p → Outcome e Good number (Tries e c p)
  tries c number ok place p st = by (decided.settled p.now c st.program st.good ok st.reads (subst (IsAt st.program) (sym place) st.there))
    where
      by : IsSettled e Good p.now c → Outcome e Good number (Tries e c p)
      by (inl h) =
          let grown = laws.grows p.now c h.0 h.1 st.program ok h.2 st.reads in
          let first : 1 ≤ number = st.there.0 in
          let within : number ≤ count_of st.program = st.there.1 in
          let more : count_of st.program ≤ count_of grown.0 = grown.2 in
          record {
            done = true;
            stage = record { now = h.0; accepted = p.accepted ++ c ∷ []; tests = p.tests + h.1 };
            does = record { tests = h.1; accepts = h.2; behind = refl; counted = refl };
            stands = record { good = h.3; program = grown.0; reads = grown.1; there = (first, omega (arith, within, more)) };
          }
      by (inr h) = record { done = false; stage = p; does = (h, refl); stands = st }

  tries_parallel : (number : ℕ) (p : Stage S) → Stands e Good number p → Outcome e Good number (Tries e (Parallel number) p)
  tries_parallel number p st = tries (Parallel number) number tt refl p st

  tries_each : (number : ℕ) (names : List (List ℕ)) (p : Stage S) → Stands e Good number p → Comes e Good number (TriesEach e number names p)
  tries_each number [] p st = record { stage = p; does = refl; stands = st }
  tries_each number (name ∷ names) p st =
      let a = tries (Privatise number name) number tt refl p st in
      let b = tries_each number names a.stage a.stands in
      record { stage = b.stage; does = (a.done, a.stage, a.does, b.does); stands = b.stands }

  tries_private : (number : ℕ) (names : List (List ℕ)) (p : Stage S) → Stands e Good number p → Outcome e Good number (TriesPrivate e number names p)
  tries_private number names p st =
      let a = tries_each number names p st in
      let b = tries_parallel number a.stage a.stands in
      record { done = b.done; stage = b.stage; does = (a.stage, a.does, b.does); stands = b.stands }

  -- one of two by a test
  by_either : (number : ℕ) (b : Bool) (P Q : Bool → Stage S → Type 0) → Outcome e Good number P → Outcome e Good number Q → Outcome e Good number (λ done q. MatchBool b (P done q) (Q done q))
  by_either number true P Q h k = record { done = h.done; stage = h.stage; does = h.does; stands = h.stands }
  by_either number false P Q h k = record { done = k.done; stage = k.stage; does = k.does; stands = k.stands }

  with_names : (number : ℕ) (passes : ProgramTree → List (List ℕ) → Bool) (Tried : List (List ℕ) → Stage S → Bool → Stage S → Type 0) (p : Stage S)
      → ((names : List (List ℕ)) → Outcome e Good number (Tried names p)) → Stands e Good number p → Outcome e Good number (WithNames e number passes Tried p)
  with_names number passes Tried p some st =
      let found = decided.names st.program number in
      let o = by_either number (passes st.program found.0) (Tried found.0 p) (λ done q. (done ≡ false) × (q ≡ p)) (some found.0) (record { done = false; stage = p; does = (refl, refl); stands = st }) in
      record {
        done = o.done;
        stage = o.stage;
        does = record { program = st.program; reads = st.reads; names = found.0; carried = found.1; tried = o.does };
        stands = o.stands;
      }

  or_else : (number : ℕ) (First Second : Stage S → Bool → Stage S → Type 0) (p : Stage S) → Outcome e Good number (First p) → ((r : Stage S) → Stands e Good number r → Outcome e Good number (Second r))
      → Outcome e Good number (OrElse First Second p)
  or_else number First Second p a second = by a.done a.stage a.does a.stands
    where
      by : (done : Bool) (q : Stage S) → First p done q → Stands e Good number q → Outcome e Good number (OrElse First Second p)
      by true q h st = record { done = true; stage = q; does = inl (h, refl); stands = st }
      by false q h st = let o = second q st in record { done = o.done; stage = o.stage; does = inr (q, h, o.does); stands = o.stands }

  attempts : (number : ℕ) (p : Stage S) → Stands e Good number p → Outcome e Good number (Attempts e number p)
  attempts number p st =
      or_else number (Tries e (Parallel number)) (OrElse (Privatises e number) (Reduces e number)) p (tries_parallel number p st)
      (λ q there. or_else number (Privatises e number) (Reduces e number) q
      (with_names number are_scalars (TriesPrivate e number) q (λ names. tries_private number names q there) there)
      (λ r here. with_names number are_few_scalars (λ names. Tries e (Reduce number names)) r (λ names. tries (Reduce number names) number tt refl r here) here))

  divides : (number : ℕ) (p : Stage S) → Stands e Good number p → Comes e Good number (Divides e number p)
  divides number p st = let a = tries (Distribute number) number tt refl p st in by a.done a.stage a.does a.stands
    where
      by : (done : Bool) (q : Stage S) → Tries e (Distribute number) p done q → Stands e Good number q → Comes e Good number (Divides e number p)
      by true q h there = let o = attempts number q there in record { stage = o.stage; does = inr (q, o.done, h, o.does); stands = o.stands }
      by false q h there = record { stage = q; does = inl h; stands = there }

  visits : (number : ℕ) (p : Stage S) → Stands e Good number p → Comes e Good number (Visits e number p)
  visits number p st = let a = attempts number p st in by a.done a.stage a.does a.stands
    where
      by : (done : Bool) (q : Stage S) → Attempts e number p done q → Stands e Good number q → Comes e Good number (Visits e number p)
      by true q h there = record { stage = q; does = inl h; stands = there }
      by false q h there = let o = divides number q there in record { stage = o.stage; does = inr (q, h, o.does); stands = o.stands }

  visits_again : (number : ℕ) (p : Stage S) → Stands e Good number p → Comes e Good number (VisitsAgain e number p)
  visits_again number p st = let a = tries_parallel number p st in record { stage = a.stage; does = (a.done, a.does); stands = a.stands }

  -- what is done at a DO comes to a stage, whichever the DO
  abbrev VisitComes : (ℕ → Stage S → Stage S → Type 0) → Type 0
  VisitComes Visit = (number : ℕ) (p : Stage S) → Stands e Good number p → Comes e Good number (Visit number p)

  meets : (Visit : ℕ → Stage S → Stage S → Type 0) → VisitComes Visit → (number : ℕ) (p : Stage S) → Stands e Good number p → Comes e Good number (Meets e Visit number p)
  meets Visit visit number p st = by (is_serial_loop st.program number) refl
    where
      by : (b : Bool) → is_serial_loop st.program number ≡ b → Comes e Good number (Meets e Visit number p)
      by true is =
          let o = visit number p st in
          record {
            stage = o.stage;
            does = record { program = st.program; reads = st.reads; within = st.there.1; met = subst (λ b. MatchBool b (Visit number p o.stage) (o.stage ≡ p)) (sym is) o.does };
            stands = o.stands;
          }
      by false is = record {
        stage = p;
        does = record { program = st.program; reads = st.reads; within = st.there.1; met = subst (λ b. MatchBool b (Visit number p p) (p ≡ p)) (sym is) refl };
        stands = st;
      }

  -- a round over the remaining statements, of which there are no more than this
  round_from : (Visit : ℕ → Stage S → Stage S → Type 0) → VisitComes Visit → (fuel number : ℕ) → 1 ≤ number → 4000 < number + fuel → (p : Stage S) → Good p.now
      → (n : ℕ) × (q : Stage S) × RoundFrom e Visit n number p q × Good q.now
  round_from Visit visit zero number first enough p good =
      let t = decided.program p.now good in
      let small : count_of t.0 ≤ 4000 = laws.small p.now t.0 t.1 in
      (0, p, ((t.0, t.1, omega (arith, small, enough)), refl), good)
  round_from Visit visit (suc fuel) number first enough p good =
      let t = decided.program p.now good in
      on t.0 t.1 (λ q fine. round_from Visit visit fuel (number + 1) (omega (arith, first)) (omega (arith, enough)) q fine) (more_or_not number (count_of t.0))
    where
      on : (t : ProgramTree) → e.Reads p.now t → ((q : Stage S) → Good q.now → (n : ℕ) × (r : Stage S) × RoundFrom e Visit n (number + 1) q r × Good r.now) → (number ≤ count_of t) ⊎ (count_of t < number)
          → (n : ℕ) × (q : Stage S) × RoundFrom e Visit n number p q × Good q.now
      on t reads on_from (inl within) =
          let m = meets Visit visit number p (record { good = good; program = t; reads = reads; there = (first, within) }) in
          let rest = on_from m.stage m.stands.good in
          (suc rest.0, rest.1, (m.stage, m.does, rest.2), rest.3)
      on t reads on_from (inr past) = (0, p, ((t, reads, past), refl), good)

  -- a round has an end
  some_round : (Visit : ℕ → Stage S → Stage S → Type 0) → VisitComes Visit → (p : Stage S) → Good p.now → (q : Stage S) × Round e Visit p q × Good q.now
  some_round Visit visit p good =
      let r = round_from Visit visit 4000 1 (omega arith) (omega arith) p good in
      (r.1, (r.0, r.2), r.3)

  -- what a round that accepts nothing leaves: the DOs from this number on, each refused
  record Remains (t : ProgramTree) (number n : ℕ) (p q : Stage S) : Type 0 where
    all : count_of t + 1 ≡ number + n
    same : q.now ≡ p.now
    left : List (ℕ × Cause)
    loops : map (λ l. l.0) left ≡ filter (is_serial_loop t) (range_with_len number n)
    causes : AllByRecursion (λ l. e.Refuses p.now (Parallel l.0) l.1) left

  -- what was accepted between stages stays accepted
  none_between : (n number : ℕ) (p r q : Stage S) → Takes e (Parallel number) p r → RoundFrom e (VisitsAgain e) n (number + 1) r q → length q.accepted ≡ length p.accepted → ⊥
  none_between n number p r q takes round none =
      let lead = leads_round_from e (VisitsAgain e) (leads_again e laws) n (number + 1) r q round in
      let first : length r.accepted ≡ length p.accepted + 1 = ap length takes.behind ∙ length-append p.accepted (Parallel number ∷ []) in
      let second : length q.accepted ≡ length r.accepted + length lead.commands = ap length lead.behind ∙ length-append r.accepted lead.commands in
      omega (arith, first, second, none)

  remains : (t : ProgramTree) (n number : ℕ) (p q : Stage S) → e.Reads p.now t → number ≤ count_of t + 1 → RoundFrom e (VisitsAgain e) n number p q → length q.accepted ≡ length p.accepted → Remains t number n p q
  remains t zero number p q reads within h none =
      let past : count_of t < number = subst (λ u. count_of u < number) (laws.one_program p.now h.0.0 t h.0.1 reads) h.0.2 in
      record { all = omega (arith, past, within); same = ap (λ (x : Stage S). x.now) h.1; left = []; loops = refl; causes = tt }
  remains t (suc n) number p q reads within h none =
      let program : h.1.program ≡ t = laws.one_program p.now h.1.program t h.1.reads reads in
      let here : number ≤ count_of t = subst (λ u. number ≤ count_of u) program h.1.within in
      by (λ same. remains t n (number + 1) p q reads (omega (arith, here)) (subst (λ (x : Stage S). RoundFrom e (VisitsAgain e) n (number + 1) x q) same h.2) none)
      (subst (λ u. MatchBool (is_serial_loop u number) (VisitsAgain e number p h.0) (h.0 ≡ p)) program h.1.met) (is_serial_loop t number) refl
    where
      filtered : (b : Bool) → is_serial_loop t number ≡ b → filter (is_serial_loop t) (range_with_len number (suc n)) ≡ cond b (number ∷ filter (is_serial_loop t) (range_with_len (number + 1) n)) (filter (is_serial_loop t) (range_with_len (number + 1) n))
      filtered b is = ap (λ x. cond x (number ∷ filter (is_serial_loop t) (range_with_len (number + 1) n)) (filter (is_serial_loop t) (range_with_len (number + 1) n))) is

      refused : (h.0 ≡ p → Remains t (number + 1) n p q) → (done : Bool) → Tries e (Parallel number) p done h.0 → is_serial_loop t number ≡ true → Remains t number (suc n) p q
      refused rest true takes is = absurd (none_between n number p h.0 q takes h.2 none)
      refused rest false leaves is =
          let r = rest leaves.1 in
          let all : count_of t + 1 ≡ number + 1 + n = r.all in
          record {
            all = omega (arith, all);
            same = r.same;
            left = (number, leaves.0.0) ∷ r.left;
            loops = ap (λ ns. number ∷ ns) r.loops ∙ sym (filtered true is);
            causes = (leaves.0.1, r.causes);
          }

      by : (h.0 ≡ p → Remains t (number + 1) n p q) → MatchBool (is_serial_loop t number) (VisitsAgain e number p h.0) (h.0 ≡ p) → (b : Bool) → is_serial_loop t number ≡ b → Remains t number (suc n) p q
      by rest met true is = let v : VisitsAgain e number p h.0 = subst (λ b. MatchBool b (VisitsAgain e number p h.0) (h.0 ≡ p)) is met in refused rest v.0 v.1 is
      by rest met false is =
          let passed : h.0 ≡ p = subst (λ b. MatchBool b (VisitsAgain e number p h.0) (h.0 ≡ p)) is met in
          let r = rest passed in
          let all : count_of t + 1 ≡ number + 1 + n = r.all in
          record { all = omega (arith, all); same = r.same; left = r.left; loops = r.loops ∙ sym (filtered false is); causes = r.causes }

  -- behind a round that accepts nothing each DO that is left has its cause
  left_behind : (p q : Stage S) → Good p.now → Round e (VisitsAgain e) p q → AcceptsNothing p q → (left : List (ℕ × Cause)) × AreLeft e q.now left
  left_behind p q good round none =
      let t = decided.program p.now good in
      let r = remains t.0 round.0 1 p q t.1 (omega arith) round.1 none in
      let all : count_of t.0 + 1 ≡ 1 + round.0 = r.all in
      let size : round.0 ≡ count_of t.0 = omega (arith, all) in (
        r.left,
        subst (λ (s : S). AreLeft e s r.left) (sym r.same) (record {
          program = t.0;
          reads = t.1;
          loops = r.loops ∙ ap (λ n. filter (is_serial_loop t.0) (range_with_len 1 n)) size;
          causes = r.causes;
        }),
      )

  -- further rounds have an end
  record Ended (p : Stage S) : Type 0 where
    rounds : ℕ
    stage : Stage S
    further : FurtherRounds e rounds p stage
    left : List (ℕ × Cause)
    are_left : AreLeft e stage.now left
    good : Good stage.now

  -- whether a round accepts nothing, which else leaves fewer DOs
  nothing_or_fewer : (p q : Stage S) (t u : ProgramTree) → e.Reads p.now t → e.Reads q.now u → Round e (VisitsAgain e) p q
      → AcceptsNothing p q ⊎ ((AcceptsNothing p q → ⊥) × (length (serial_loops u) < length (serial_loops t)))
  nothing_or_fewer p q t u before behind round = by (more_or_not (length q.accepted) (length p.accepted))
    where
      f : Falls e p q
      f = falls_round e laws p q round

      lead : Leads e p q
      lead = leads_round e (VisitsAgain e) (leads_again e laws) p q round

      longer : length q.accepted ≡ length p.accepted + length lead.commands
      longer = ap length lead.behind ∙ length-append p.accepted lead.commands

      fewer : length q.accepted + length (serial_loops u) ≤ length p.accepted + length (serial_loops t)
      fewer =
          subst (λ v. length q.accepted + length (serial_loops v) ≤ length p.accepted + length (serial_loops t)) (laws.one_program q.now f.behind u f.reads_behind behind)
          (subst (λ v. length q.accepted + length (serial_loops f.behind) ≤ length p.accepted + length (serial_loops v)) (laws.one_program p.now f.before t f.reads_before before) f.fewer)

      by : (length q.accepted ≤ length p.accepted) ⊎ (length p.accepted < length q.accepted) → AcceptsNothing p q ⊎ ((AcceptsNothing p q → ⊥) × (length (serial_loops u) < length (serial_loops t)))
      by (inl h) = inl (omega (arith, h, longer))
      by (inr h) = inr ((λ same. omega (arith, h, same)), omega (arith, h, fewer))

  further : (fuel : ℕ) (p : Stage S) (t : ProgramTree) → Good p.now → e.Reads p.now t → length (serial_loops t) < fuel → Ended p
  further zero p t good reads enough = absurd (omega (arith, enough))
  further (suc fuel) p t good reads enough =
      let r = some_round (VisitsAgain e) visits_again p good in
      let u = decided.program r.0.now r.2 in
      by r.0 u.0 r.1 r.2 (λ fewer. further fuel r.0 u.0 r.2 u.1 (omega (arith, fewer, enough))) (nothing_or_fewer p r.0 t u.0 reads u.1 r.1)
    where
      by : (q : Stage S) (u : ProgramTree) → Round e (VisitsAgain e) p q → Good q.now → (length (serial_loops u) < length (serial_loops t) → Ended q)
          → AcceptsNothing p q ⊎ ((AcceptsNothing p q → ⊥) × (length (serial_loops u) < length (serial_loops t))) → Ended p
      by q u round fine on (inl none) =
          let l = left_behind p q good round none in
          record { rounds = 0; stage = q; further = (round, none); left = l.0; are_left = l.1; good = fine }
      by q u round fine on (inr (some, fewer)) =
          let o = on fewer in
          record { rounds = suc o.rounds; stage = o.stage; further = (q, round, some, o.further); left = o.left; are_left = o.are_left; good = o.good }

  -- so `auto` has an end, from each state of which that holds
  pub some_auto : (s : S) → Good s → (report : Report) × (last : S) × (tests : ℕ) × IsAuto e s report last tests × Good last
  some_auto s good =
      let first = some_round (Visits e) visits (starting s) good in
      let t = decided.program first.0.now first.2 in
      let o = further (suc (length (serial_loops t.0))) first.0 t.0 first.2 t.1 (omega arith) in (
        record { accepted = o.stage.accepted; left = o.left },
        o.stage.now,
        o.stage.tests,
        record { between = first.0; first = first.1; rounds = o.rounds; further = o.further; left = o.are_left },
        o.good,
      )

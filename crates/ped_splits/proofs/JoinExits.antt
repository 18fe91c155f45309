-- Behind two DO loops nobody wants a variable of a DO in them: none is live after the second one, which the run leaves there.
use Rattle.std.proofs.Common.{Bool, List, [], ap, append-nil, append_assoc, arith, eq-eqb, false, refl, subst, suc, sym, true, zero, ℕ, ◌&&◌, ◌++◌, ◌+◌, ◌==◌, ◌∙◌, ◌∷◌, ◌≡◌}
use Rattle.std.specs.List.{flat_map, range_with_len}
use Rattle.std.specs.Str.Lines.{lines}
use Rattle.ped_base.specs.Lists.{is_among}
use Rattle.ped_tree.specs.Accesses.{constant_names}
use Rattle.ped_tree.specs.Numbering.{statements_count}
use Rattle.ped_tree.specs.Tree.{DeclTree, Do, ProgramTree}
use Rattle.ped_rules.specs.ped_loop_runs.specs.Executions.{IsExecuted}
use Rattle.ped_rules.specs.ped_bodies.proofs.BodyLaws.TripLists.{close_in_order, end_in_order}
use Rattle.ped_rules.specs.ped_bodies.specs.Trips.{loop_acts, loop_entry, trip_end, trips}
use Rattle.ped_rules.specs.ped_steps.proofs.RunLaws.ScalarNames.{shown_scalar}
use Rattle.ped_rules.specs.ped_laws.proofs.FlowRunLaws.DeadExits.{unwanted_behind}
use Rattle.ped_rules.specs.ped_laws.specs.Acts.Fitting.{store_after}
use Rattle.ped_rules.specs.ped_laws.specs.Acts.Sets.{wants}
use Rattle.ped_rules.specs.ped_laws.specs.FlowRuns.Exits.{IsExit, is_exit}
use Rattle.ped_rules.specs.ped_laws.specs.Runs.Replaying.{act, finish_of, goes_on}
use Rattle.ped_rules.specs.ped_laws.specs.Runs.Showing.{shown_at_end}
use Rattle.ped_rules.specs.ped_eval.specs.Evaluation.{Seen}
use Rattle.ped_rules.specs.ped_eval.specs.Loops.{Entered, exit_when_none}
use Rattle.ped_rules.specs.ped_eval.specs.Outcomes.{Ends, run_of, setting_of}
use Rattle.ped_rules.specs.ped_eval.specs.Runs.{run, run_all}
use Rattle.ped_rules.specs.ped_eval.specs.Scopes.{Scope, Setting, cell_of, place_of}
use Rattle.ped_rules.specs.ped_store.specs.Acts.{Act, Place, ended_turn}
use Rattle.ped_rules.specs.ped_store.specs.Stores.{Store, store_at_start}
use Rattle.ped_splits.proofs.JoinDead.{dead}
use Rattle.ped_splits.proofs.JoinFacts.{AreJoined, both_loops, variables_of}
use Rattle.ped_splits.proofs.JoinParts.{pair_acts}
use Rattle.ped_splits.proofs.JoinUnread.{unnamed}
use Rattle.ped_splits.proofs.JoinRuns as runs

-- the last of some rows
last_row : {X : Type 0} (f : ℕ → List X) (a n : ℕ) → flat_map f (range_with_len a (suc n)) ≡ flat_map f (range_with_len a n) ++ f (a + n)
last_row f a zero = append-nil (f a) ∙ ap f (let e : a ≡ a + 0 = omega arith in e)
last_row f a (suc n) =
    ap (λ rows. f a ++ rows) (last_row f (a + 1) n ∙ ap (λ (m : ℕ). flat_map f (range_with_len (a + 1) n) ++ f m) (let e : a + 1 + n ≡ a + suc n = omega arith in e))
    ∙ sym (append_assoc (f a) (flat_map f (range_with_len (a + 1) n)) (f (a + suc n)))

-- the last act of a DO leaves it
pub record IsLeft (at : Place) (acts : List Act) : Type 0 where
  pub more : List Act
  pub last : Act
  pub is : acts ≡ more ++ last ∷ []
  pub exits : is_exit last.step ≡ true
  pub place : last.place ≡ at

pub loop_left : (e : Entered) (scope : Scope) (at : Place) (seen : List Seen) (trip : ℕ → List Act) → e.head.parallel ≡ false → IsLeft at (loop_acts seen e scope at trip)
loop_left e scope at seen trip serial = by e.count refl
  where
    entry : Act
    entry = loop_entry seen e scope at

    no_close : (m : ℕ) → e.count ≡ m → loop_acts seen e scope at trip ≡ entry ∷ trips e scope at trip 1 m
    no_close m is = ap (λ (acts : List Act). entry ∷ acts) ((λ i. trips e scope at trip 1 (is i) ++ close_in_order e scope at serial i) ∙ append-nil (trips e scope at trip 1 m))

    by : (m : ℕ) → e.count ≡ m → IsLeft at (loop_acts seen e scope at trip)
    by zero none = record { more = []; last = entry; is = no_close 0 none; exits = ap (λ (n : ℕ). n == 0) none; place = refl }
    by (suc n) is =
        let end : trip_end e scope at (1 + n) ≡ act (ended_turn 0) at (exit_when_none 0 e scope) ∷ [] = end_in_order e scope at (1 + n) 0 serial (omega (arith, is)) in
        record {
          more = entry ∷ (trips e scope at trip 1 n ++ trip (1 + n));
          last = act (ended_turn 0) at (exit_when_none 0 e scope);
          is = no_close (suc n) is
              ∙ ap (λ (acts : List Act). entry ∷ acts) (last_row (λ j. trip j ++ trip_end e scope at j) 1 n ∙ ap (λ (acts : List Act). trips e scope at trip 1 n ++ (trip (1 + n) ++ acts)) end
              ∙ sym (append_assoc (trips e scope at trip 1 n) (trip (1 + n)) (act (ended_turn 0) at (exit_when_none 0 e scope) ∷ [])));
          exits = refl;
          place = refl;
        }

module _ (t u : ProgramTree) (s : ℕ) (x : AreJoined t u s) (data_bytes : List ℕ) (ends : Ends (run_of t data_bytes).ending) (scope : Scope) (front behind : List Act) (v : Store)
    (executed : IsExecuted (setting_of t) t (store_at_start (lines data_bytes)) s (statements_count (both_loops x)) scope front (run_all (setting_of t) (both_loops x) s scope v).acts behind v)
    (goes : finish_of (run_all (setting_of t) (both_loops x) s scope v).ending ≡ goes_on) where
  abbrev p : Setting
  p = setting_of t

  abbrev start : Store
  start = store_at_start (lines data_bytes)

  abbrev m : ℕ
  m = s + 1 + statements_count x.own_body

  abbrev first_acts : List Act
  first_acts = (run (setting_of t) (Do x.own x.own_body) s scope v).acts

  abbrev second_acts : List Act
  second_acts = (run (setting_of t) (Do x.next x.next_body) (s + 1 + statements_count x.own_body) scope (store_after (run (setting_of t) (Do x.own x.own_body) s scope v).acts v)).acts

  left : IsLeft (place_of p m scope) second_acts
  left = subst (IsLeft (place_of p m scope)) (sym (runs.other t u s x data_bytes scope front behind v executed goes).acts)
      (loop_left (runs.e2 t u s x data_bytes scope front behind v executed goes) scope (place_of p m scope) _ (runs.other t u s x data_bytes scope front behind v executed goes).trip x.next_serial)

  exit : IsExit p t start m scope behind
  exit = record {
    ends = ends;
    front = front ++ (first_acts ++ left.more);
    act = left.last;
    whole = executed.whole
        ∙ ap (λ (acts : List Act). front ++ (acts ++ behind)) (pair_acts t u s x scope v goes ∙ ap (λ (acts : List Act). first_acts ++ acts) left.is)
        ∙ around front first_acts left.more left.last behind;
    leaves = (λ i. ((left.place i).statement == m) && left.exits i) ∙ ap (λ (b : Bool). b && true) (eq-eqb m m refl);
    iterations = executed.place.iterations;
    place = left.place;
  }
    where
      around : (a b c : List Act) (d : Act) (e : List Act) → a ++ ((b ++ (c ++ d ∷ [])) ++ e) ≡ (a ++ (b ++ c)) ++ d ∷ e
      around a b c d e =
          ap (λ (acts : List Act). a ++ acts) (ap (λ (acts : List Act). acts ++ e) (sym (append_assoc b c (d ∷ []))) ∙ append_assoc (b ++ c) (d ∷ []) e)
          ∙ sym (append_assoc a (b ++ c) (d ∷ e))

  -- nobody wants behind them what a variable stands for at their place
  pub dead_behind : (y : List ℕ) → is_among y (variables_of x) ≡ true → wants (shown_at_end t) behind (cell_of scope y) ≡ false
  dead_behind y among =
      unwanted_behind p (λ a b same. same) t y (ap (λ (ds : List DeclTree). is_among y (constant_names ds)) (sym x.decls) ∙ unnamed t u s x y among) x.unstopped start m scope behind exit (dead t u s x y among) (shown_at_end t) (shown_scalar t y scope)

-- An execution of two DO loops, one behind the other: what the first one does, and then the second one; both by their iterations.
use Rattle.std.proofs.Common.{Some, [], ap, arith, refl, subst, sym, ℕ, ◌++◌, ◌+◌, ◌∙◌, ◌≡◌}
use Rattle.ped_tree.specs.Numbering.{all_numbered, numbered, statement_count, statement_with, statements_count}
use Rattle.ped_tree.specs.Tree.{Assign, Comment, Do, If, Print, ProgramTree, Read, StmtTrees, Stop, more_stmts, no_stmts}
use Rattle.ped_rules.specs.ped_loop_runs.proofs.LoopLaws.OneForOneStands.{run_alone}
use Rattle.ped_rules.specs.ped_loop_runs.proofs.TidyLaws.TidyPathsGaps.{followed_count}
use Rattle.ped_rules.specs.ped_bodies.proofs.BodyLaws.TripLists.{loop_apart}
use Rattle.ped_rules.specs.ped_bodies.specs.Trips.{IsMadeOfTrips}
use Rattle.ped_rules.specs.ped_steps.specs.Replacing.{alone, followed}
use Rattle.ped_rules.specs.ped_flow.specs.Questions.{LoopOf}
use Rattle.ped_rules.specs.ped_laws.proofs.FlowRunLaws.Standing.{Stand, else_stands, first_stands, is_there, rest_stands, whole_stands}
use Rattle.ped_rules.specs.ped_laws.proofs.RunLaws.Joined.{statements_apart}
use Rattle.ped_rules.specs.ped_laws.specs.Acts.Fitting.{store_after}
use Rattle.ped_rules.specs.ped_laws.specs.Runs.Replaying.{behind, finish_of, goes_on}
use Rattle.ped_rules.specs.ped_eval.specs.Outcomes.{setting_of}
use Rattle.ped_rules.specs.ped_eval.specs.Runs.{Run, run, run_all}
use Rattle.ped_rules.specs.ped_eval.specs.Scopes.{Scope, Setting}
use Rattle.ped_rules.specs.ped_store.specs.Stores.{Store}
use Rattle.ped_splits.proofs.CoverGaps.{followed_numbered}
use Rattle.ped_splits.proofs.JoinFacts.{AreJoined, both_loops, next_at, one_loop}
use Rattle.ped_splits.proofs.SplitPieces.{gap_stands}
use Rattle.ped_splits.proofs.SplitRuns.{then_goes}

-- comments in front of statements do nothing
pub quiet_first : (p : Setting) (ts us : StmtTrees) → statements_count ts ≡ 0 → (n : ℕ) (scope : Scope) → run_all p (followed ts us) n scope ≡ run_all p us n scope
quiet_first p no_stmts us none n scope = refl
quiet_first p (more_stmts (Comment text) rest) us none n scope = quiet_first p rest us (omega (arith, none)) (n + 0) scope ∙ ap (λ (m : ℕ). run_all p us m scope) (let e : n + 0 ≡ n = omega arith in e)
quiet_first p (more_stmts (Assign left right) rest) us none n scope = absurd (omega (arith, none))
quiet_first p (more_stmts (If c a b) rest) us none n scope = absurd (omega (arith, none))
quiet_first p (more_stmts (Do h b) rest) us none n scope = absurd (omega (arith, none))
quiet_first p (more_stmts (Print items) rest) us none n scope = absurd (omega (arith, none))
quiet_first p (more_stmts (Read items) rest) us none n scope = absurd (omega (arith, none))
quiet_first p (more_stmts Stop rest) us none n scope = absurd (omega (arith, none))

-- nor do they count
pub quiet_count : (ts us : StmtTrees) → statements_count ts ≡ 0 → statements_count (followed ts us) ≡ statements_count us
quiet_count ts us none = let k = followed_count ts us in omega (arith, k, none)

-- where both loops and the one stand
module _ (t u : ProgramTree) (s : ℕ) (x : AreJoined t u s) where
  pair_stands : Stand t s (all_numbered (both_loops x))
  pair_stands = subst (λ (n : ℕ). Stand t n (all_numbered (both_loops x))) x.numbered (gap_stands t x.gap (both_loops x) 1 (subst (λ (ts : StmtTrees). Stand t 1 (all_numbered ts)) x.stands (whole_stands t)))

  pub first_is : statement_with s t ≡ Some (Do x.own x.own_body)
  first_is = is_there t (Do x.own x.own_body) (all_numbered x.own_body) s (first_stands t s (numbered (Do x.own x.own_body)) (all_numbered (followed x.between (alone (Do x.next x.next_body)))) pair_stands)

  abbrev pub first_loop : LoopOf t s
  first_loop = record { head = x.own; body = x.own_body; is = first_is }

  second_stands_there : Stand t (next_at x) (all_numbered (alone (Do x.next x.next_body)))
  second_stands_there =
      subst (λ (n : ℕ). Stand t n (all_numbered (alone (Do x.next x.next_body)))) (let none = x.comments in let e : s + statement_count (Do x.own x.own_body) + statements_count x.between ≡ next_at x = omega (arith, none) in e)
      (else_stands t x.between (alone (Do x.next x.next_body)) (s + statement_count (Do x.own x.own_body))
      (subst (Stand t (s + statement_count (Do x.own x.own_body))) (followed_numbered x.between (alone (Do x.next x.next_body)))
      (rest_stands t (Do x.own x.own_body) (followed x.between (alone (Do x.next x.next_body))) s pair_stands)))

  pub second_is : statement_with (s + 1 + statements_count x.own_body) t ≡ Some (Do x.next x.next_body)
  second_is = is_there t (Do x.next x.next_body) (all_numbered x.next_body) (next_at x) (first_stands t (next_at x) (numbered (Do x.next x.next_body)) [] second_stands_there)

  abbrev pub second_loop : LoopOf t (s + 1 + statements_count x.own_body)
  second_loop = record { head = x.next; body = x.next_body; is = second_is }

  one_stands : Stand u s (all_numbered (one_loop x))
  one_stands = subst (λ (n : ℕ). Stand u n (all_numbered (one_loop x))) x.numbered (gap_stands u x.gap (one_loop x) 1 (subst (λ (ts : StmtTrees). Stand u 1 (all_numbered ts)) x.new_stands (whole_stands u)))

  pub one_is : statement_with s u ≡ Some (Do (record x.own { rejected = x.rejected }) (followed x.own_body (followed x.between x.next_body)))
  one_is = is_there u (Do (record x.own { rejected = x.rejected }) (followed x.own_body (followed x.between x.next_body))) (all_numbered (followed x.own_body (followed x.between x.next_body))) s (first_stands u s (numbered (Do (record x.own { rejected = x.rejected }) (followed x.own_body (followed x.between x.next_body)))) [] one_stands)

  abbrev pub one_loop_there : LoopOf u s
  one_loop_there = record { head = record x.own { rejected = x.rejected }; body = followed x.own_body (followed x.between x.next_body); is = one_is }

-- what they do in an execution
module _ (t u : ProgramTree) (s : ℕ) (x : AreJoined t u s) (scope : Scope) (v : Store) (goes : finish_of (run_all (setting_of t) (both_loops x) s scope v).ending ≡ goes_on) where
  abbrev p : Setting
  p = setting_of t

  abbrev first_run : Store → Run
  first_run = run (setting_of t) (Do x.own x.own_body) s scope

  abbrev rest_run : Store → Run
  rest_run = run_all (setting_of t) (followed x.between (alone (Do x.next x.next_body))) (s + statement_count (Do x.own x.own_body)) scope

  -- the store between the two
  abbrev pub store_between : Store
  store_between = store_after (run (setting_of t) (Do x.own x.own_body) s scope v).acts v

  pub first_goes : finish_of (run (setting_of t) (Do x.own x.own_body) s scope v).ending ≡ goes_on
  first_goes = then_goes (first_run v).acts (first_run v).ending rest_run goes

  rest_is : (w : Store) → rest_run w ≡ run (setting_of t) (Do x.next x.next_body) (next_at x) scope w
  rest_is w =
      (λ i. quiet_first p x.between (alone (Do x.next x.next_body)) x.comments (s + statement_count (Do x.own x.own_body)) scope i w)
      ∙ run_alone p (Do x.next x.next_body) (s + statement_count (Do x.own x.own_body)) scope w
      ∙ ap (λ (n : ℕ). run p (Do x.next x.next_body) n scope w) (let e : s + statement_count (Do x.own x.own_body) ≡ next_at x = omega arith in e)

  pair_is : run_all (setting_of t) (both_loops x) s scope v ≡ behind (first_run v).acts (run (setting_of t) (Do x.next x.next_body) (next_at x) scope store_between)
  pair_is = statements_apart p (Do x.own x.own_body) (followed x.between (alone (Do x.next x.next_body))) s scope v first_goes ∙ ap (behind (first_run v).acts) (rest_is store_between)

  pub second_goes : finish_of (run (setting_of t) (Do x.next x.next_body) (s + 1 + statements_count x.own_body) scope (store_after (run (setting_of t) (Do x.own x.own_body) s scope v).acts v)).ending ≡ goes_on
  second_goes = ap (λ (r : Run). finish_of r.ending) (sym pair_is) ∙ goes

  pub pair_acts : (run_all (setting_of t) (both_loops x) s scope v).acts ≡ (run (setting_of t) (Do x.own x.own_body) s scope v).acts ++ (run (setting_of t) (Do x.next x.next_body) (s + 1 + statements_count x.own_body) scope (store_after (run (setting_of t) (Do x.own x.own_body) s scope v).acts v)).acts
  pair_acts = ap (λ (r : Run). r.acts) pair_is

  -- by their iterations
  pub first_trips : IsMadeOfTrips (setting_of t) x.own x.own_body s scope v
  first_trips = loop_apart p x.own x.own_body s scope v first_goes

  pub second_trips : IsMadeOfTrips (setting_of t) x.next x.next_body (s + 1 + statements_count x.own_body) scope (store_after (run (setting_of t) (Do x.own x.own_body) s scope v).acts v)
  second_trips = loop_apart p x.next x.next_body (next_at x) scope store_between second_goes

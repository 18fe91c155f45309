-- What the paths of statements do to a scalar.
use Rattle.std.proofs.Common.{◌≡◌, ℕ, ◌+◌, ◌≤◌, Bool, true, false, ◌&&◌, ◌==◌, nat_le, List, [], inr, refl, sym, ap, ◌∙◌, arith}
use Rattle.ped_tree.specs.Tree.{Head, StmtTree, StmtTrees, Assign, If, Do, Print, Read, Stop, Comment, no_stmts, more_stmts}
use Rattle.ped_tree.specs.Numbering.{statement_count, statements_count}
use Rattle.ped_flow.specs.Events.{Event, own_events, start_events, exit_events, has_value}
use Rattle.ped_flow.specs.PathSets.{Just, Either, InTurn, Paths, going, in_turn, either, trips, Whole}
use Rattle.ped_flow.specs.Paths.{iteration, paths, all_paths, at_once, paths_behind, all_paths_behind, ToEntry, paths_before, all_paths_before}
use Rattle.ped_flow.specs.Summaries.{AreOnward, AreSummed, unreached, summary_in_turn, summary_either, summary_trips, summary_events, summary_loop, summary_of, summary_of_all, summary_at_once, summary_behind, summary_behind_all, summary_before, summary_before_all}
use Rattle.ped_flow.specs.declared.summaries.Summary.{Summary}
use Rattle.ped_flow.proofs.Truths.{untrue}
use Rattle.ped_flow.proofs.PathSummaries.{Passes, in_turn-onward, either-onward, in_turn-summed, either-summed, trips-summed, going-summed, going-none, nowhere-summed, nowhere-onward, stopping-summed, in_turn-some, either-some, trips-some, going-some}

-- a path leads through statements, or ends in them
mutual
  pub some_path : (cs : List (List ℕ)) (s : StmtTree) (n : ℕ) → Passes (Whole (paths cs s n))
  some_path cs (Assign left right) n = going-some (own_events cs n (Assign left right))
  some_path cs (If c a b) n =
      in_turn-some (going (own_events cs n (If c a b))) (either (all_paths cs a (n + 1)) (all_paths cs b (n + 1 + statements_count a)))
      (going-some (own_events cs n (If c a b))) (either-some (all_paths cs a (n + 1)) (all_paths cs b (n + 1 + statements_count a)) (some_path_of_all cs a (n + 1)))
  some_path cs (Do h body) n =
      in_turn-some (going (own_events cs n (Do h body))) (in_turn (trips (iteration n h body (all_paths cs body (n + 1)))) (going (exit_events n h body)))
      (going-some (own_events cs n (Do h body)))
      (in_turn-some (trips (iteration n h body (all_paths cs body (n + 1)))) (going (exit_events n h body)) (trips-some (iteration n h body (all_paths cs body (n + 1)))) (going-some (exit_events n h body)))
  some_path cs (Print items) n = going-some (own_events cs n (Print items))
  some_path cs (Read items) n = going-some (own_events cs n (Read items))
  some_path cs Stop n = ([], inr refl)
  some_path cs (Comment text) n = going-some []

  pub some_path_of_all : (cs : List (List ℕ)) (ss : StmtTrees) (n : ℕ) → Passes (Whole (all_paths cs ss n))
  some_path_of_all cs no_stmts n = going-some []
  some_path_of_all cs (more_stmts s rest) n = in_turn-some (paths cs s n) (all_paths cs rest (n + statement_count s)) (some_path cs s n) (some_path_of_all cs rest (n + statement_count s))

-- an iteration of a DO
pub iteration-summed : (x : List ℕ) (n : ℕ) (h : Head) (body : StmtTrees) (A : Paths) (a : Summary) → Passes (Whole A) → AreSummed A x a → AreSummed (iteration n h body A) x (summary_in_turn (summary_events x (start_events n h body)) a)
iteration-summed x n h body A a some k = in_turn-summed (going (start_events n h body)) A x (summary_events x (start_events n h body)) a some (going-summed x (start_events n h body)) k

-- the trips of a DO and its exit
loop-summed : (x : List ℕ) (n : ℕ) (h : Head) (body : StmtTrees) (A : Paths) (a : Summary) → Passes (Whole A) → AreSummed A x a → AreSummed (in_turn (trips (iteration n h body A)) (going (exit_events n h body))) x (summary_loop x n h body a)
loop-summed x n h body A a some k =
    in_turn-summed (trips (iteration n h body A)) (going (exit_events n h body)) x (summary_trips (summary_in_turn (summary_events x (start_events n h body)) a)) (summary_events x (exit_events n h body))
    (going-some (exit_events n h body))
    (trips-summed (iteration n h body A) x (summary_in_turn (summary_events x (start_events n h body)) a) (iteration-summed x n h body A a some k))
    (going-summed x (exit_events n h body))

loop-some : (n : ℕ) (h : Head) (body : StmtTrees) (A : Paths) → Passes (Whole (in_turn (trips (iteration n h body A)) (going (exit_events n h body))))
loop-some n h body A = in_turn-some (trips (iteration n h body A)) (going (exit_events n h body)) (trips-some (iteration n h body A)) (going-some (exit_events n h body))

mutual
  pub summed : (cs : List (List ℕ)) (x : List ℕ) (s : StmtTree) (n : ℕ) → AreSummed (paths cs s n) x (summary_of cs x s n)
  summed cs x (Assign left right) n = going-summed x (own_events cs n (Assign left right))
  summed cs x (If c a b) n =
      in_turn-summed (going (own_events cs n (If c a b))) (either (all_paths cs a (n + 1)) (all_paths cs b (n + 1 + statements_count a))) x
      (summary_events x (own_events cs n (If c a b))) (summary_either (summary_of_all cs x a (n + 1)) (summary_of_all cs x b (n + 1 + statements_count a)))
      (either-some (all_paths cs a (n + 1)) (all_paths cs b (n + 1 + statements_count a)) (some_path_of_all cs a (n + 1)))
      (going-summed x (own_events cs n (If c a b)))
      (either-summed (all_paths cs a (n + 1)) (all_paths cs b (n + 1 + statements_count a)) x (summary_of_all cs x a (n + 1)) (summary_of_all cs x b (n + 1 + statements_count a))
      (all_summed cs x a (n + 1)) (all_summed cs x b (n + 1 + statements_count a)))
  summed cs x (Do h body) n =
      in_turn-summed (going (own_events cs n (Do h body))) (in_turn (trips (iteration n h body (all_paths cs body (n + 1)))) (going (exit_events n h body))) x
      (summary_events x (own_events cs n (Do h body))) (summary_loop x n h body (summary_of_all cs x body (n + 1)))
      (loop-some n h body (all_paths cs body (n + 1)))
      (going-summed x (own_events cs n (Do h body)))
      (loop-summed x n h body (all_paths cs body (n + 1)) (summary_of_all cs x body (n + 1)) (some_path_of_all cs body (n + 1)) (all_summed cs x body (n + 1)))
  summed cs x (Print items) n = going-summed x (own_events cs n (Print items))
  summed cs x (Read items) n = going-summed x (own_events cs n (Read items))
  summed cs x Stop n = stopping-summed x
  summed cs x (Comment text) n = going-none x

  pub all_summed : (cs : List (List ℕ)) (x : List ℕ) (ss : StmtTrees) (n : ℕ) → AreSummed (all_paths cs ss n) x (summary_of_all cs x ss n)
  all_summed cs x no_stmts n = going-none x
  all_summed cs x (more_stmts s rest) n =
      in_turn-summed (paths cs s n) (all_paths cs rest (n + statement_count s)) x (summary_of cs x s n) (summary_of_all cs x rest (n + statement_count s))
      (some_path_of_all cs rest (n + statement_count s)) (summed cs x s n) (all_summed cs x rest (n + statement_count s))

at_once-summed : (x : List ℕ) (b : Bool) → AreSummed (at_once b) x (summary_at_once b)
at_once-summed x true = going-none x
at_once-summed x false = nowhere-summed x

mutual
  pub behind-summed : (cs : List (List ℕ)) (x : List ℕ) (l : ℕ) (s : StmtTree) (n : ℕ) → AreSummed (paths_behind cs l s n) x (summary_behind cs x l s n)
  behind-summed cs x l (Assign left right) n = nowhere-summed x
  behind-summed cs x l (If c a b) n =
      either-summed (all_paths_behind cs l a (n + 1)) (all_paths_behind cs l b (n + 1 + statements_count a)) x (summary_behind_all cs x l a (n + 1)) (summary_behind_all cs x l b (n + 1 + statements_count a))
      (all_behind-summed cs x l a (n + 1)) (all_behind-summed cs x l b (n + 1 + statements_count a))
  behind-summed cs x l (Do h body) n =
      either-summed (at_once (l == n)) (in_turn (all_paths_behind cs l body (n + 1)) (in_turn (trips (iteration n h body (all_paths cs body (n + 1)))) (going (exit_events n h body)))) x
      (summary_at_once (l == n)) (summary_in_turn (summary_behind_all cs x l body (n + 1)) (summary_loop x n h body (summary_of_all cs x body (n + 1))))
      (at_once-summed x (l == n))
      (in_turn-summed (all_paths_behind cs l body (n + 1)) (in_turn (trips (iteration n h body (all_paths cs body (n + 1)))) (going (exit_events n h body))) x
      (summary_behind_all cs x l body (n + 1)) (summary_loop x n h body (summary_of_all cs x body (n + 1)))
      (loop-some n h body (all_paths cs body (n + 1)))
      (all_behind-summed cs x l body (n + 1))
      (loop-summed x n h body (all_paths cs body (n + 1)) (summary_of_all cs x body (n + 1)) (some_path_of_all cs body (n + 1)) (all_summed cs x body (n + 1))))
  behind-summed cs x l (Print items) n = nowhere-summed x
  behind-summed cs x l (Read items) n = nowhere-summed x
  behind-summed cs x l Stop n = nowhere-summed x
  behind-summed cs x l (Comment text) n = nowhere-summed x

  pub all_behind-summed : (cs : List (List ℕ)) (x : List ℕ) (l : ℕ) (ss : StmtTrees) (n : ℕ) → AreSummed (all_paths_behind cs l ss n) x (summary_behind_all cs x l ss n)
  all_behind-summed cs x l no_stmts n = nowhere-summed x
  all_behind-summed cs x l (more_stmts s rest) n =
      either-summed (in_turn (paths_behind cs l s n) (all_paths cs rest (n + statement_count s))) (all_paths_behind cs l rest (n + statement_count s)) x
      (summary_in_turn (summary_behind cs x l s n) (summary_of_all cs x rest (n + statement_count s))) (summary_behind_all cs x l rest (n + statement_count s))
      (in_turn-summed (paths_behind cs l s n) (all_paths cs rest (n + statement_count s)) x (summary_behind cs x l s n) (summary_of_all cs x rest (n + statement_count s))
      (some_path_of_all cs rest (n + statement_count s)) (behind-summed cs x l s n) (all_summed cs x rest (n + statement_count s)))
      (all_behind-summed cs x l rest (n + statement_count s))

-- the path to a DO from where it stands
entry-onward : (x : List ℕ) (l n k : ℕ) → AreOnward (ToEntry l n k) x (summary_at_once (nat_le n l && nat_le l (n + k)))
entry-onward x l n k = by (nat_le n l) (nat_le l (n + k)) refl refl
  where
    outside : ((path : List Event) → ToEntry l n k path → ⊥) → AreOnward (ToEntry l n k) x unreached
    outside none = record { keeps = (λ t. untrue t, λ s. absurd (none s.0 s.1)); passes = (λ t. untrue t, λ s. absurd (none s.0 s.1)); loses = (λ t. untrue t, λ s. absurd (none s.0 s.1)) }

    by : (a b : Bool) → nat_le n l ≡ a → nat_le l (n + k) ≡ b → AreOnward (ToEntry l n k) x (summary_at_once (a && b))
    by true true e f =
        let from : n ≤ l = grind arith in
        let to : l ≤ n + k = grind arith in
        record { keeps = (λ t. ([], (from, to, refl), refl), λ s. refl); passes = (λ t. ([], (from, to, refl)), λ s. refl); loses = (λ t. untrue t, λ s. untrue (sym (ap (has_value x true) (sym s.1.2) ∙ s.2))) }
    by true false e f = outside (λ path s. let h = s.1 in absurd (grind arith))
    by false b e f = outside (λ path s. let h = s.0 in absurd (grind arith))

mutual
  pub before-summed : (cs : List (List ℕ)) (x : List ℕ) (l : ℕ) (s : StmtTree) (n : ℕ) → AreOnward (paths_before cs l s n) x (summary_before cs x l s n)
  before-summed cs x l (Assign left right) n = nowhere-onward x
  before-summed cs x l (If c a b) n =
      in_turn-onward (Just (own_events cs n (If c a b))) (Either (all_paths_before cs l a (n + 1)) (all_paths_before cs l b (n + 1 + statements_count a))) x
      (summary_events x (own_events cs n (If c a b))) (summary_either (summary_before_all cs x l a (n + 1)) (summary_before_all cs x l b (n + 1 + statements_count a)))
      (going-summed x (own_events cs n (If c a b))).onward
      (either-onward (all_paths_before cs l a (n + 1)) (all_paths_before cs l b (n + 1 + statements_count a)) x (summary_before_all cs x l a (n + 1)) (summary_before_all cs x l b (n + 1 + statements_count a))
      (all_before-summed cs x l a (n + 1)) (all_before-summed cs x l b (n + 1 + statements_count a)))
  before-summed cs x l (Do h body) n = entry-onward x l n (statements_count body)
  before-summed cs x l (Print items) n = nowhere-onward x
  before-summed cs x l (Read items) n = nowhere-onward x
  before-summed cs x l Stop n = nowhere-onward x
  before-summed cs x l (Comment text) n = nowhere-onward x

  pub all_before-summed : (cs : List (List ℕ)) (x : List ℕ) (l : ℕ) (ss : StmtTrees) (n : ℕ) → AreOnward (all_paths_before cs l ss n) x (summary_before_all cs x l ss n)
  all_before-summed cs x l no_stmts n = nowhere-onward x
  all_before-summed cs x l (more_stmts s rest) n =
      either-onward (paths_before cs l s n) (InTurn (paths cs s n).onward (all_paths_before cs l rest (n + statement_count s))) x
      (summary_before cs x l s n) (summary_in_turn (summary_of cs x s n) (summary_before_all cs x l rest (n + statement_count s)))
      (before-summed cs x l s n)
      (in_turn-onward (paths cs s n).onward (all_paths_before cs l rest (n + statement_count s)) x (summary_of cs x s n) (summary_before_all cs x l rest (n + statement_count s))
      (summed cs x s n).onward (all_before-summed cs x l rest (n + statement_count s)))

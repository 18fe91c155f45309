-- Statements without a STOP end no path.
use Rattle.std.proofs.Common.{◌≡◌, ℕ, ◌+◌, ◌==◌, List, Bool, true, false, sym}
use Rattle.ped_bodies.specs.ped_flow.specs.ped_tree.specs.Tree.{Head, StmtTree, StmtTrees, Assign, If, Do, Print, Read, Stop, Comment, no_stmts, more_stmts}
use Rattle.ped_bodies.specs.ped_flow.specs.ped_tree.specs.Numbering.{statement_count, statements_count}
use Rattle.ped_bodies.specs.ped_flow.specs.Events.{own_events, start_events, exit_events}
use Rattle.ped_bodies.specs.ped_flow.specs.Summaries.{passing, summary_in_turn, summary_either, summary_trips, summary_events, summary_loop, summary_of, summary_of_all, summary_at_once, summary_behind, summary_behind_all}
use Rattle.ped_bodies.specs.ped_flow.proofs.Truths.{untrue, or_none}
use Rattle.ped_bodies.specs.ped_laws.specs.FlowRuns.Covering.{has_stop, some_stop}
use Rattle.ped_loop_runs.proofs.TidyLaws.TidyPathsSums.{Summary, IsNoMore, no_more, unreached_more, in_turn_more, either_more, trips_more, events_pass}

module _ (cs : List (List ℕ)) (w : List ℕ) where
  mutual
    pub unstopped : (t : StmtTree) (n : ℕ) → has_stop t ≡ false → IsNoMore (summary_of cs w t n) passing
    unstopped (Assign left right) n h = events_pass w (own_events cs n (Assign left right))
    unstopped (If c a b) n h =
        let k = or_none (some_stop a) (some_stop b) h in
        in_turn_more (summary_events w (own_events cs n (If c a b))) (summary_either (summary_of_all cs w a (n + 1)) (summary_of_all cs w b (n + 1 + statements_count a))) passing passing
        (events_pass w (own_events cs n (If c a b)))
        (either_more (summary_of_all cs w a (n + 1)) (summary_of_all cs w b (n + 1 + statements_count a)) passing passing (all_unstopped a (n + 1) k.0) (all_unstopped b (n + 1 + statements_count a) k.1))
    unstopped (Do h body) n k =
        let start = summary_events w (start_events n h body) in
        let inner = summary_of_all cs w body (n + 1) in
        in_turn_more (summary_events w (own_events cs n (Do h body))) (summary_loop w n h body inner) passing passing (events_pass w (own_events cs n (Do h body)))
        (in_turn_more (summary_trips (summary_in_turn start inner)) (summary_events w (exit_events n h body)) passing passing
        (trips_more (summary_in_turn start inner) passing (in_turn_more start inner passing passing (events_pass w (start_events n h body)) (all_unstopped body (n + 1) k)))
        (events_pass w (exit_events n h body)))
    unstopped (Print items) n h = events_pass w (own_events cs n (Print items))
    unstopped (Read items) n h = events_pass w (own_events cs n (Read items))
    unstopped Stop n h = untrue (sym h)
    unstopped (Comment text) n h = no_more passing

    pub all_unstopped : (ts : StmtTrees) (n : ℕ) → some_stop ts ≡ false → IsNoMore (summary_of_all cs w ts n) passing
    all_unstopped no_stmts n h = no_more passing
    all_unstopped (more_stmts t rest) n h =
        let k = or_none (has_stop t) (some_stop rest) h in
        in_turn_more (summary_of cs w t n) (summary_of_all cs w rest (n + statement_count t)) passing passing (unstopped t n k.0) (all_unstopped rest (n + statement_count t) k.1)

  loop_unstopped : (h : Head) (body : StmtTrees) (n : ℕ) (inner : Summary) → IsNoMore inner passing → IsNoMore (summary_loop w n h body inner) passing
  loop_unstopped h body n inner k =
      let start = summary_events w (start_events n h body) in
      in_turn_more (summary_trips (summary_in_turn start inner)) (summary_events w (exit_events n h body)) passing passing
      (trips_more (summary_in_turn start inner) passing (in_turn_more start inner passing passing (events_pass w (start_events n h body)) k)) (events_pass w (exit_events n h body))

  once_unstopped : (b : Bool) → IsNoMore (summary_at_once b) passing
  once_unstopped true = no_more passing
  once_unstopped false = unreached_more passing

  -- and neither do they behind a DO in them
  mutual
    pub behind_unstopped : (t : StmtTree) (k n : ℕ) → has_stop t ≡ false → IsNoMore (summary_behind cs w k t n) passing
    behind_unstopped (Assign left right) k n h = unreached_more passing
    behind_unstopped (If c a b) k n h =
        let p = or_none (some_stop a) (some_stop b) h in
        either_more (summary_behind_all cs w k a (n + 1)) (summary_behind_all cs w k b (n + 1 + statements_count a)) passing passing (all_behind_unstopped a k (n + 1) p.0) (all_behind_unstopped b k (n + 1 + statements_count a) p.1)
    behind_unstopped (Do h body) k n e =
        let inner = summary_of_all cs w body (n + 1) in
        either_more (summary_at_once (k == n)) (summary_in_turn (summary_behind_all cs w k body (n + 1)) (summary_loop w n h body inner)) passing passing (once_unstopped (k == n))
        (in_turn_more (summary_behind_all cs w k body (n + 1)) (summary_loop w n h body inner) passing passing (all_behind_unstopped body k (n + 1) e) (loop_unstopped h body n inner (all_unstopped body (n + 1) e)))
    behind_unstopped (Print items) k n h = unreached_more passing
    behind_unstopped (Read items) k n h = unreached_more passing
    behind_unstopped Stop k n h = unreached_more passing
    behind_unstopped (Comment text) k n h = unreached_more passing

    pub all_behind_unstopped : (ts : StmtTrees) (k n : ℕ) → some_stop ts ≡ false → IsNoMore (summary_behind_all cs w k ts n) passing
    all_behind_unstopped no_stmts k n h = unreached_more passing
    all_behind_unstopped (more_stmts t rest) k n h =
        let p = or_none (has_stop t) (some_stop rest) h in
        let i : ℕ = n + statement_count t in
        either_more (summary_in_turn (summary_behind cs w k t n) (summary_of_all cs w rest i)) (summary_behind_all cs w k rest i) passing passing
        (in_turn_more (summary_behind cs w k t n) (summary_of_all cs w rest i) passing passing (behind_unstopped t k n p.0) (all_unstopped rest i p.1)) (all_behind_unstopped rest k i p.1)

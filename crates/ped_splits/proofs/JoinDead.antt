-- No variable of a DO in two DO loops is live behind the second one, since none is behind the one DO, which is contained.
use Rattle.std.proofs.Common.{Bool, List, [], ap, arith, eq-eqb, eqb-true, false, if◌then◌else◌, is_some, map, not, refl, subst, sym, true, ℕ, ◌&&◌, ◌++◌, ◌+◌, ◌<◌, ◌==◌, ◌||◌, ◌∙◌, ◌∷◌, ◌≡◌}
use Rattle.std.proofs.lemmas.Bool.{and_parts, both_ways}
use Rattle.std.specs.List.{flat_map, list_any}
use Rattle.ped_base.specs.Lists.{is_among, is_same_text}
use Rattle.ped_tree.specs.Accesses.{constant_names}
use Rattle.ped_tree.specs.NamesIn.{all_loop_variables}
use Rattle.ped_tree.specs.Numbering.{statement_count, statements_count}
use Rattle.ped_tree.specs.Tree.{Add, Assign, Call, Comment, DeclTree, Div, Do, Element, ExprTree, Head, If, Int, Mul, Neg, Pow, Print, ProgramTree, Read, StmtTree, StmtTrees, Stop, Sub, Var, more_stmts, no_stmts}
use Rattle.ped_rules.specs.ped_loop_runs.proofs.LoopLaws.OneForOneStands.{false_unless}
use Rattle.ped_rules.specs.ped_loop_runs.proofs.TidyLaws.TidyPathsStops.{all_unstopped}
use Rattle.ped_rules.specs.ped_loop_runs.proofs.TidyLaws.TidyPathsSums.{Summary, events_keep, own_overwrites}
use Rattle.ped_rules.specs.ped_steps.specs.Replacing.{alone, followed}
use Rattle.ped_rules.specs.ped_steps.specs.Runs.Gaps.{filled}
use Rattle.ped_rules.specs.ped_flow.proofs.Truths.{or_none}
use Rattle.ped_rules.specs.ped_flow.specs.Events.{Event, all_scalars_in, assigns, clears, copied, event, exit_events, is_overwriting, is_read_by, left_events, own_events, reads_of, scalars_in, scalars_in_cond, scalars_in_item, start_events, unless_constant}
use Rattle.ped_rules.specs.ped_flow.specs.Questions.{IsLiveAfter, all_reads_outside, reads_outside}
use Rattle.ped_rules.specs.ped_flow.specs.Summaries.{of_manner, passing, summary_at_once, summary_behind, summary_behind_all, summary_either, summary_event, summary_events, summary_in_turn, summary_loop, summary_of, summary_of_all, summary_trips, unreached, when}
use Rattle.ped_splits.proofs.JoinFacts.{AreJoined, both_loops, one_body, one_head, one_loop, variables_of}
use Rattle.ped_splits.proofs.JoinLive.{IsNoLess, clears_read_none, either_less, either_none_less, events_less, further, head_alike, is_least, is_when, itself, none_less, numbers_less, turn_less, turn_none}
use Rattle.ped_splits.proofs.JoinLiveGaps.{gap_behind_less, live_alike}
use Rattle.ped_splits.proofs.JoinNumbers.{one_count, pair_count}
use Rattle.ped_splits.proofs.JoinParts.{one_loop_there}
use Rattle.ped_splits.proofs.JoinSame.{none_stops, same_indices}
use Rattle.ped_splits.proofs.JoinUnread.{loose_first, loose_second}
use Rattle.ped_rules.specs.ped_flow.specs.Events as events

-- statements that read a scalar nowhere outside its DO loops read it first on no path
module _ (cs : List (List ℕ)) (w : List ℕ) where
  turn_unread : (a b : Summary) → is_some a.first ≡ false → (a.keeps ≡ true → is_some b.first ≡ false) → is_some (summary_in_turn a b).first ≡ false
  turn_unread a b h k = is_least a.first (when a.keeps b.first) ∙ (λ i. h i || is_when a.keeps b.first i) ∙ by a.keeps refl
    where
      by : (r : Bool) → a.keeps ≡ r → a.keeps && is_some b.first ≡ false
      by true e = (λ i. e i && is_some b.first) ∙ k e
      by false e = λ i. e i && is_some b.first

  either_unread : (a b : Summary) → is_some a.first ≡ false → is_some b.first ≡ false → is_some (summary_either a b).first ≡ false
  either_unread a b h k = is_least a.first b.first ∙ (λ i. h i || k i)

  -- events of a statement with this number
  event_unread : (n : ℕ) (e : Event) → e.statement ≡ n → is_read_by w n e ≡ false → is_some (summary_event w e).first ≡ false
  event_unread n e own h = by (is_same_text w e.scalar) e.manner h
    where
      itself_there : (e.statement == n) ≡ true
      itself_there = eq-eqb e.statement n own

      by : (b : Bool) (m : events.Manner) → b && not (is_overwriting m) && e.statement == n ≡ false → is_some (if b then of_manner m e.statement else passing).first ≡ false
      by true events.reads h = absurd (both_ways (e.statement == n) h itself_there)
      by true assigns h = refl
      by true clears h = refl
      by false m h = refl

  abbrev AreOf : ℕ → List Event → Type 0
  AreOf n [] = Unit {0}
  AreOf n (e ∷ es) = (e.statement ≡ n) × AreOf n es

  events_unread : (n : ℕ) (es : List Event) → AreOf n es → list_any (is_read_by w n) es ≡ false → is_some (summary_events w es).first ≡ false
  events_unread n [] own h = refl
  events_unread n (e ∷ es) own h =
      let parts = or_none (is_read_by w n e) (list_any (is_read_by w n) es) h in
      turn_unread (summary_event w e) (summary_events w es) (event_unread n e own.0 parts.0) (λ k. events_unread n es own.1 parts.1)

  of_mapped : (n : ℕ) (manner : events.Manner) (names : List (List ℕ)) → AreOf n (map (event n manner) names)
  of_mapped n manner [] = tt
  of_mapped n manner (y ∷ ys) = (refl, of_mapped n manner ys)

  of_both : (n : ℕ) (es fs : List Event) → AreOf n es → AreOf n fs → AreOf n (es ++ fs)
  of_both n [] fs h k = k
  of_both n (e ∷ es) fs h k = (h.0, of_both n es fs h.1 k)

  of_left : (n : ℕ) (z : ExprTree) → AreOf n (left_events cs n z)
  of_left n (Var y) = of_mapped n assigns (unless_constant cs y)
  of_left n (Element y es) = of_mapped n events.reads (all_scalars_in cs es)
  of_left n (Int k) = tt
  of_left n (Neg a) = tt
  of_left n (Add a b) = tt
  of_left n (Sub a b) = tt
  of_left n (Mul a b) = tt
  of_left n (Div a b) = tt
  of_left n (Pow a b) = tt
  of_left n (Call f es) = tt

  of_lefts : (n : ℕ) (zs : List ExprTree) → AreOf n (flat_map (left_events cs n) zs)
  of_lefts n [] = tt
  of_lefts n (z ∷ zs) = of_both n (left_events cs n z) (flat_map (left_events cs n) zs) (of_left n z) (of_lefts n zs)

  of_own : (n : ℕ) (z : StmtTree) → AreOf n (own_events cs n z)
  of_own n (Assign left right) = of_both n (reads_of n (scalars_in cs right)) (left_events cs n left) (of_mapped n events.reads (scalars_in cs right)) (of_left n left)
  of_own n (If c a b) = of_mapped n events.reads (scalars_in_cond cs c)
  of_own n (Do h body) = of_both n (reads_of n (scalars_in cs h.first ++ scalars_in cs h.last)) (event n assigns h.variable ∷ []) (of_mapped n events.reads (scalars_in cs h.first ++ scalars_in cs h.last)) (refl, tt)
  of_own n (Print items) = of_mapped n events.reads (flat_map (scalars_in_item cs) items)
  of_own n (Read items) = of_lefts n items
  of_own n Stop = tt
  of_own n (Comment text) = tt

  -- a DO keeps no scalar that is its variable
  own_variable : (n : ℕ) (h : Head) (body : StmtTrees) → is_same_text w h.variable ≡ true → (summary_events w (own_events cs n (Do h body))).keeps ≡ false
  own_variable n h body same = events_keep w (own_events cs n (Do h body)) ∙ ap not (own_overwrites cs w (Do h body) n ∙ ap (λ (b : Bool). b || false) same)

  loop_unread : (n : ℕ) (h : Head) (body : StmtTrees) → is_some (summary_of_all cs w body (n + 1)).first ≡ false → is_some (summary_loop w n h body (summary_of_all cs w body (n + 1))).first ≡ false
  loop_unread n h body none =
      turn_unread (summary_trips (summary_in_turn (summary_events w (start_events n h body)) (summary_of_all cs w body (n + 1)))) (summary_events w (exit_events n h body))
      (turn_unread (summary_events w (start_events n h body)) (summary_of_all cs w body (n + 1)) (clears_read_none cs w n (copied h body)) (λ k. none))
      (λ k. clears_read_none cs w n ((if h.parallel then h.variable ∷ [] else []) ++ copied h body))

  mutual
    loose_unread : (z : StmtTree) (n : ℕ) → ((k : ℕ) → reads_outside cs w k z n ≡ false) → is_some (summary_of cs w z n).first ≡ false
    loose_unread (Assign left right) n h = events_unread n (own_events cs n (Assign left right)) (of_own n (Assign left right)) (h n)
    loose_unread (If c a b) n h =
        let own = λ (k : ℕ). or_none (list_any (is_read_by w k) (own_events cs n (If c a b))) (all_reads_outside cs w k a (n + 1) || all_reads_outside cs w k b (n + 1 + statements_count a)) (h k) in
        let inner = λ (k : ℕ). or_none (all_reads_outside cs w k a (n + 1)) (all_reads_outside cs w k b (n + 1 + statements_count a)) (own k).1 in
        turn_unread (summary_events w (own_events cs n (If c a b))) (summary_either (summary_of_all cs w a (n + 1)) (summary_of_all cs w b (n + 1 + statements_count a)))
        (events_unread n (own_events cs n (If c a b)) (of_own n (If c a b)) (own n).0)
        (λ k. either_unread (summary_of_all cs w a (n + 1)) (summary_of_all cs w b (n + 1 + statements_count a)) (all_loose_unread a (n + 1) (λ i. (inner i).0)) (all_loose_unread b (n + 1 + statements_count a) (λ i. (inner i).1)))
    loose_unread (Do g body) n h =
        let own = λ (k : ℕ). or_none (list_any (is_read_by w k) (own_events cs n (Do g body))) (not (is_same_text w g.variable) && all_reads_outside cs w k body (n + 1)) (h k) in
        turn_unread (summary_events w (own_events cs n (Do g body))) (summary_loop w n g body (summary_of_all cs w body (n + 1)))
        (events_unread n (own_events cs n (Do g body)) (of_own n (Do g body)) (own n).0)
        (by (λ quiet. all_loose_unread body (n + 1) quiet) (λ k. (own k).1) (is_same_text w g.variable) refl)
      where
        by : (((k : ℕ) → all_reads_outside cs w k body (n + 1) ≡ false) → is_some (summary_of_all cs w body (n + 1)).first ≡ false) → ((k : ℕ) → not (is_same_text w g.variable) && all_reads_outside cs w k body (n + 1) ≡ false) → (b : Bool) → is_same_text w g.variable ≡ b → (summary_events w (own_events cs n (Do g body))).keeps ≡ true → is_some (summary_loop w n g body (summary_of_all cs w body (n + 1))).first ≡ false
        by deeper inner true same keeps = absurd (both_ways (summary_events w (own_events cs n (Do g body))).keeps (own_variable n g body same) keeps)
        by deeper inner false other keeps = loop_unread n g body (deeper (λ k. (λ i. not (sym other i) && all_reads_outside cs w k body (n + 1)) ∙ inner k))
    loose_unread (Print items) n h = events_unread n (own_events cs n (Print items)) (of_own n (Print items)) (h n)
    loose_unread (Read items) n h = events_unread n (own_events cs n (Read items)) (of_own n (Read items)) (h n)
    loose_unread Stop n h = refl
    loose_unread (Comment text) n h = refl

    all_loose_unread : (zs : StmtTrees) (n : ℕ) → ((k : ℕ) → all_reads_outside cs w k zs n ≡ false) → is_some (summary_of_all cs w zs n).first ≡ false
    all_loose_unread no_stmts n h = refl
    all_loose_unread (more_stmts z rest) n h =
        let parts = λ (k : ℕ). or_none (reads_outside cs w k z n) (all_reads_outside cs w k rest (n + statement_count z)) (h k) in
        turn_unread (summary_of cs w z n) (summary_of_all cs w rest (n + statement_count z)) (loose_unread z n (λ k. (parts k).0)) (λ k. all_loose_unread rest (n + statement_count z) (λ i. (parts i).1))

  -- statements in which a DO doesn't stand have no path from its exit
  mutual
    none_behind : (z : StmtTree) (k n : ℕ) → ((i : ℕ) → i < statement_count z → (k == n + i) ≡ false) → IsNoLess (summary_behind cs w k z n) unreached
    none_behind (Assign left right) k n p = itself unreached
    none_behind (If c a b) k n p =
        either_none_less (summary_behind_all cs w k a (n + 1)) (summary_behind_all cs w k b (n + 1 + statements_count a))
        (all_none_behind a k (n + 1) (λ i less. ap (λ (j : ℕ). k == j) (let e : n + 1 + i ≡ n + (1 + i) = omega arith in e) ∙ p (1 + i) (omega (arith, less))))
        (all_none_behind b k (n + 1 + statements_count a) (λ i less. ap (λ (j : ℕ). k == j) (let e : n + 1 + statements_count a + i ≡ n + (1 + statements_count a + i) = omega arith in e) ∙ p (1 + statements_count a + i) (omega (arith, less))))
    none_behind (Do h body) k n p =
        either_none_less (summary_at_once (k == n)) (summary_in_turn (summary_behind_all cs w k body (n + 1)) (summary_loop w n h body (summary_of_all cs w body (n + 1))))
        (subst (λ (b : Bool). IsNoLess (summary_at_once b) unreached) (sym (ap (λ (j : ℕ). k == j) (let e : n ≡ n + 0 = omega arith in e) ∙ p 0 (omega arith))) (itself unreached))
        (turn_none (summary_behind_all cs w k body (n + 1)) (summary_loop w n h body (summary_of_all cs w body (n + 1)))
        (all_none_behind body k (n + 1) (λ i less. ap (λ (j : ℕ). k == j) (let e : n + 1 + i ≡ n + (1 + i) = omega arith in e) ∙ p (1 + i) (omega (arith, less)))))
    none_behind (Print items) k n p = itself unreached
    none_behind (Read items) k n p = itself unreached
    none_behind Stop k n p = itself unreached
    none_behind (Comment text) k n p = itself unreached

    all_none_behind : (zs : StmtTrees) (k n : ℕ) → ((i : ℕ) → i < statements_count zs → (k == n + i) ≡ false) → IsNoLess (summary_behind_all cs w k zs n) unreached
    all_none_behind no_stmts k n p = itself unreached
    all_none_behind (more_stmts z rest) k n p =
        either_none_less (summary_in_turn (summary_behind cs w k z n) (summary_of_all cs w rest (n + statement_count z))) (summary_behind_all cs w k rest (n + statement_count z))
        (turn_none (summary_behind cs w k z n) (summary_of_all cs w rest (n + statement_count z)) (none_behind z k n (λ i less. p i (omega (arith, less)))))
        (all_none_behind rest k (n + statement_count z) (λ i less. ap (λ (j : ℕ). k == j) (let e : n + statement_count z + i ≡ n + (statement_count z + i) = omega arith in e) ∙ p (statement_count z + i) (omega (arith, less))))

  -- comments neither read nor end a path
  quiet_unread : (c us : StmtTrees) (n : ℕ) → statements_count c ≡ 0 → ((m : ℕ) → is_some (summary_of_all cs w us m).first ≡ false) → is_some (summary_of_all cs w (followed c us) n).first ≡ false
  quiet_unread no_stmts us n none h = h n
  quiet_unread (more_stmts (Comment text) rest) us n none h = turn_unread passing (summary_of_all cs w (followed rest us) (n + 0)) refl (λ k. quiet_unread rest us (n + 0) (omega (arith, none)) h)
  quiet_unread (more_stmts (Assign left right) rest) us n none h = absurd (omega (arith, none))
  quiet_unread (more_stmts (If a d b) rest) us n none h = absurd (omega (arith, none))
  quiet_unread (more_stmts (Do g b) rest) us n none h = absurd (omega (arith, none))
  quiet_unread (more_stmts (Print items) rest) us n none h = absurd (omega (arith, none))
  quiet_unread (more_stmts (Read items) rest) us n none h = absurd (omega (arith, none))
  quiet_unread (more_stmts Stop rest) us n none h = absurd (omega (arith, none))

  turn_passing : (a b : Summary) → IsNoLess a passing → IsNoLess b passing → IsNoLess (summary_in_turn a b) passing
  turn_passing a b h k = turn_less a b passing passing h k

  quiet_passes : (c us : StmtTrees) (k n : ℕ) → statements_count c ≡ 0 → ((m : ℕ) → m ≡ n → IsNoLess (summary_behind_all cs w k us m) passing) → IsNoLess (summary_behind_all cs w k (followed c us) n) passing
  quiet_passes no_stmts us k n none h = h n refl
  quiet_passes (more_stmts (Comment text) rest) us k n none h =
      either_less (summary_in_turn unreached (summary_of_all cs w (followed rest us) (n + 0))) (summary_behind_all cs w k (followed rest us) (n + 0)) unreached passing
      (turn_none unreached (summary_of_all cs w (followed rest us) (n + 0)) (itself unreached))
      (quiet_passes rest us k (n + 0) (omega (arith, none)) (λ m e. h m (omega (arith, e))))
  quiet_passes (more_stmts (Assign left right) rest) us k n none h = absurd (omega (arith, none))
  quiet_passes (more_stmts (If a d b) rest) us k n none h = absurd (omega (arith, none))
  quiet_passes (more_stmts (Do g b) rest) us k n none h = absurd (omega (arith, none))
  quiet_passes (more_stmts (Print items) rest) us k n none h = absurd (omega (arith, none))
  quiet_passes (more_stmts (Read items) rest) us k n none h = absurd (omega (arith, none))
  quiet_passes (more_stmts Stop rest) us k n none h = absurd (omega (arith, none))

  -- a DO that isn't parallel and has no PRIVATE names clears nothing
  exit_none : (n : ℕ) (h : Head) (body : StmtTrees) → h.parallel ≡ false → h.private ≡ [] → exit_events n h body ≡ []
  exit_none n h body serial private = λ i. map (event n clears) ((if serial i then h.variable ∷ [] else []) ++ (private i ++ (if serial i then all_loop_variables body else [])))

  do_keeps : (n : ℕ) (h : Head) (body : StmtTrees) → h.parallel ≡ false → h.private ≡ [] → (summary_events w (own_events cs n (Do h body))).keeps ≡ true → (summary_of cs w (Do h body) n).keeps ≡ true
  do_keeps n h body serial private keeps = λ i. keeps i && (true && (summary_events w (exit_none n h body serial private i)).keeps)

-- so none of the variables is live behind the second DO
module _ (t u : ProgramTree) (s : ℕ) (x : AreJoined t u s) (w : List ℕ) (among : is_among w (variables_of x) ≡ true) where
  abbrev m : ℕ
  m = s + 1 + statements_count x.own_body

  abbrev cs : List (List ℕ)
  cs = constant_names u.decls

  abbrev one_do : StmtTree
  one_do = Do (one_head x) (one_body x)

  -- nothing in the bodies reads it outside its DO loops
  whole_quiet : is_same_text w x.own.variable ≡ false → (k : ℕ) → all_reads_outside cs w k (one_body x) (s + 1) ≡ false
  whole_quiet apart k = false_unless (all_reads_outside cs w k (one_body x) (s + 1)) (λ h. (x.contained w (record { loop = one_loop_there t u s x; among = among })).0 k (record { loop = one_loop_there t u s x; other = apart; reads = h }))

  first_quiet : is_same_text w x.own.variable ≡ false → (k : ℕ) → all_reads_outside cs w k x.own_body (s + 1) ≡ false
  first_quiet apart k = false_unless (all_reads_outside cs w k x.own_body (s + 1)) (λ h. both_ways (all_reads_outside cs w k (one_body x) (s + 1)) (whole_quiet apart k) (loose_first cs w x.own_body (followed x.between x.next_body) k (s + 1) h))

  second_quiet : is_same_text w x.own.variable ≡ false → (k : ℕ) → all_reads_outside cs w k x.next_body m ≡ false
  second_quiet apart k = false_unless (all_reads_outside cs w k x.next_body m) (λ h.
      let none = x.comments in
      both_ways (all_reads_outside cs w k (one_body x) (s + 1)) (whole_quiet apart k)
      (loose_second cs w x.own_body (followed x.between x.next_body) k (s + 1)
      (loose_second cs w x.between x.next_body k m (ap (all_reads_outside cs w k x.next_body) (let e : m + statements_count x.between ≡ m = omega (arith, none) in e) ∙ h))))

  -- under each number
  unread_at : (zs : StmtTrees) (j n : ℕ) → is_some (summary_of_all cs w zs j).first ≡ false → is_some (summary_of_all cs w zs n).first ≡ false
  unread_at zs j n h = false_unless (is_some (summary_of_all cs w zs n).first) (λ k. both_ways (is_some (summary_of_all cs w zs j).first) h ((numbers_less cs w zs n j).reads k))

  -- a DO of the two reads it in its bounds alone
  do_unread : (n : ℕ) (h : Head) (body : StmtTrees) (j : ℕ) → h.variable ≡ x.own.variable → (is_same_text w x.own.variable ≡ false → is_some (summary_of_all cs w body j).first ≡ false) → is_some (summary_events w (own_events cs n (Do h body))).first ≡ false → is_some (summary_of cs w (Do h body) n).first ≡ false
  do_unread n h body j same inner none = turn_unread cs w (summary_events w (own_events cs n (Do h body))) (summary_loop w n h body (summary_of_all cs w body (n + 1))) none (by (is_same_text w x.own.variable) refl)
    where
      by : (b : Bool) → is_same_text w x.own.variable ≡ b → (summary_events w (own_events cs n (Do h body))).keeps ≡ true → is_some (summary_loop w n h body (summary_of_all cs w body (n + 1))).first ≡ false
      by true e keeps = absurd (both_ways (summary_events w (own_events cs n (Do h body))).keeps (own_variable cs w n h body (ap (is_same_text w) same ∙ e)) keeps)
      by false e keeps = loop_unread cs w n h body (unread_at body j (n + 1) (inner e))

  abbrev head_sum : ℕ → Head → StmtTrees → Summary
  head_sum n h body = summary_events w (own_events cs n (Do h body))

  first_head : (n k : ℕ) → IsNoLess (head_sum n x.own x.own_body) (head_sum k (one_head x) (one_body x))
  first_head n k = events_less cs w (own_events cs n (Do x.own x.own_body)) (own_events cs k one_do) (head_alike cs w n k x.own (one_head x) x.own_body (one_body x) refl refl refl)

  second_head : (n k : ℕ) → IsNoLess (head_sum n x.next x.next_body) (head_sum k (one_head x) (one_body x))
  second_head n k = events_less cs w (own_events cs n (Do x.next x.next_body)) (own_events cs k one_do) (head_alike cs w n k x.next (one_head x) x.next_body (one_body x) x.first x.last x.variable)

  summed : (n k : ℕ) → IsNoLess (summary_of_all cs w (both_loops x) n) (summary_of_all cs w (one_loop x) k)
  summed n k = record {
    more = record {
      keeps = λ h.
          let of_first = (and_parts (summary_of cs w (Do x.own x.own_body) n).keeps (summary_of_all cs w (followed x.between (alone (Do x.next x.next_body))) (n + statement_count (Do x.own x.own_body))).keeps h).0 in
          let of_head = (and_parts (head_sum n x.own x.own_body).keeps (summary_loop w n x.own x.own_body (summary_of_all cs w x.own_body (n + 1))).keeps of_first).0 in
          λ i. do_keeps cs w k (one_head x) (one_body x) x.serial x.private ((first_head n k).more.keeps of_head) i && true;
      ends = λ h. absurd (both_ways passing.ends refl ((all_unstopped cs w (both_loops x) n (none_stops t u s x)).ends h));
    };
    reads = λ h. by (is_some (head_sum k (one_head x) (one_body x)).first) refl h;
  }
    where
      rest_unread : (j : ℕ) → is_some (head_sum k (one_head x) (one_body x)).first ≡ false → is_some (summary_of_all cs w (alone (Do x.next x.next_body)) j).first ≡ false
      rest_unread j none = turn_unread cs w (summary_of cs w (Do x.next x.next_body) j) passing
          (do_unread j x.next x.next_body m x.variable (λ apart. all_loose_unread cs w x.next_body m (second_quiet apart)) (false_unless (is_some (head_sum j x.next x.next_body).first) (λ r. both_ways (is_some (head_sum k (one_head x) (one_body x)).first) none ((second_head j k).reads r))))
          (λ keeps. refl)

      by : (b : Bool) → is_some (head_sum k (one_head x) (one_body x)).first ≡ b → is_some (summary_of_all cs w (both_loops x) n).first ≡ true → is_some (summary_of_all cs w (one_loop x) k).first ≡ true
      by true e h =
          let one = is_least (head_sum k (one_head x) (one_body x)).first (when (head_sum k (one_head x) (one_body x)).keeps (summary_loop w k (one_head x) (one_body x) (summary_of_all cs w (one_body x) (k + 1))).first) in
          is_least (summary_of cs w one_do k).first (when (summary_of cs w one_do k).keeps passing.first)
          ∙ (λ i. one i || is_some (when (summary_of cs w one_do k).keeps passing.first))
          ∙ (λ i. (e i || is_some (when (head_sum k (one_head x) (one_body x)).keeps (summary_loop w k (one_head x) (one_body x) (summary_of_all cs w (one_body x) (k + 1))).first)) || is_some (when (summary_of cs w one_do k).keeps passing.first))
      by false e h =
          absurd (both_ways (is_some (summary_of_all cs w (both_loops x) n).first)
          (turn_unread cs w (summary_of cs w (Do x.own x.own_body) n) (summary_of_all cs w (followed x.between (alone (Do x.next x.next_body))) (n + statement_count (Do x.own x.own_body)))
          (do_unread n x.own x.own_body (s + 1) refl (λ apart. all_loose_unread cs w x.own_body (s + 1) (first_quiet apart)) (false_unless (is_some (head_sum n x.own x.own_body).first) (λ r. both_ways (is_some (head_sum k (one_head x) (one_body x)).first) e ((first_head n k).reads r))))
          (λ keeps. quiet_unread cs w x.between (alone (Do x.next x.next_body)) (n + statement_count (Do x.own x.own_body)) x.comments (λ j. rest_unread j e))) h)

  unequal : (a b : ℕ) → (a ≡ b → ⊥) → (a == b) ≡ false
  unequal a b apart = false_unless (a == b) (λ h. apart (eqb-true a b h))

  -- behind the second DO nothing has happened yet, and so it is behind the one
  second_passes : (j : ℕ) → j ≡ m → IsNoLess (summary_behind_all cs w m (alone (Do x.next x.next_body)) j) passing
  second_passes j e =
      either_less (summary_in_turn (summary_behind cs w m (Do x.next x.next_body) j) passing) unreached passing unreached
      (turn_passing cs w (summary_behind cs w m (Do x.next x.next_body) j) passing
      (either_less (summary_at_once (m == j)) (summary_in_turn (summary_behind_all cs w m x.next_body (j + 1)) (summary_loop w j x.next x.next_body (summary_of_all cs w x.next_body (j + 1)))) passing unreached
      (at_once (m == j))
      (turn_none (summary_behind_all cs w m x.next_body (j + 1)) (summary_loop w j x.next x.next_body (summary_of_all cs w x.next_body (j + 1))) (all_none_behind cs w x.next_body m (j + 1) (λ i less. unequal m (j + 1 + i) (λ same. omega (arith, e, same))))))
      (itself passing))
      (itself unreached)
    where
      at_once : (b : Bool) → IsNoLess (summary_at_once b) passing
      at_once true = itself passing
      at_once false = none_less passing

  both_pass : IsNoLess (summary_behind_all cs w m (both_loops x) s) passing
  both_pass =
      either_less (summary_in_turn (summary_behind cs w m (Do x.own x.own_body) s) (summary_of_all cs w (followed x.between (alone (Do x.next x.next_body))) (s + statement_count (Do x.own x.own_body)))) (summary_behind_all cs w m (followed x.between (alone (Do x.next x.next_body))) (s + statement_count (Do x.own x.own_body))) unreached passing
      (turn_none (summary_behind cs w m (Do x.own x.own_body) s) (summary_of_all cs w (followed x.between (alone (Do x.next x.next_body))) (s + statement_count (Do x.own x.own_body)))
      (none_behind cs w (Do x.own x.own_body) m s (λ i less. unequal m (s + i) (λ same. omega (arith, less, same)))))
      (quiet_passes cs w x.between (alone (Do x.next x.next_body)) m (s + statement_count (Do x.own x.own_body)) x.comments (λ j e. second_passes j (omega (arith, e))))

  one_passes : IsNoLess passing (summary_behind_all cs w s (one_loop x) s)
  one_passes = record {
    more = record { keeps = λ h. here; ends = λ h. absurd cc };
    reads = λ h. absurd cc;
  }
    where
      here : (summary_behind_all cs w s (one_loop x) s).keeps ≡ true
      here = λ i. (((summary_at_once (eq-eqb s s refl i)).keeps || (summary_in_turn (summary_behind_all cs w s (one_body x) (s + 1)) (summary_loop w s (one_head x) (one_body x) (summary_of_all cs w (one_body x) (s + 1)))).keeps) && true) || false

  less : IsNoLess (summary_behind_all cs w m (filled x.gap (both_loops x)) 1) (summary_behind_all cs w s (filled x.gap (one_loop x)) 1)
  less =
      let two = pair_count t u s x in
      let one = one_count t u s x in
      gap_behind_less cs w (both_loops x) (one_loop x) summed (λ h. sym (same_indices t u s x w) ∙ h) s m s
      (λ i low. unequal m i (λ same. omega (arith, low, same)) ∙ sym (unequal s i (λ same. omega (arith, low, same))))
      (λ i. unequal m (s + statements_count (both_loops x) + i) (λ same. omega (arith, same, two)) ∙ sym (unequal s (s + statements_count (one_loop x) + i) (λ same. omega (arith, same, one))))
      (further (summary_behind_all cs w m (both_loops x) s) passing (summary_behind_all cs w s (one_loop x) s) both_pass one_passes) x.gap 1 x.numbered

  pub dead : IsLiveAfter t (s + 1 + statements_count x.own_body) w → ⊥
  dead live =
      (x.contained w (record { loop = one_loop_there t u s x; among = among })).1
      (live_alike t u w m s x.decls
      (subst (λ (ds : List (List ℕ)). IsNoLess (summary_behind_all ds w m t.body 1) (summary_behind_all cs w s u.body 1)) (ap (λ (ds : List DeclTree). constant_names ds) x.decls)
      (subst (λ (ts : StmtTrees). IsNoLess (summary_behind_all cs w m ts 1) (summary_behind_all cs w s u.body 1)) (sym x.stands)
      (subst (λ (ts : StmtTrees). IsNoLess (summary_behind_all cs w m (filled x.gap (both_loops x)) 1) (summary_behind_all cs w s ts 1)) (sym x.new_stands) less))) live)

-- The paths from the exit of a DO in what comes of a program by lowering say no more than those in the program.
use Rattle.std.proofs.Common.{◌≡◌, ℕ, ◌+◌, ◌<◌, ◌==◌, Bool, true, false, ◌||◌, List, [], ◌∷◌, ◌++◌, Option, Some, None, refl, sym, ap, subst, ◌∙◌, if◌then◌else◌, inl, inr, arith, eqb-true, append-nil, append_assoc}
use Rattle.std.proofs.lemmas.Bool.{or_left, or_right}
use Rattle.ped_base.specs.Lists.{is_same_text, is_among}
use Rattle.ped_tree.proofs.NameLaws.Collected.{among_append}
use Rattle.ped_tree.specs.Tree.{CondTree, Head, StmtTree, StmtTrees, Assign, If, Do, Print, Read, Stop, Comment, no_stmts, more_stmts, ProgramTree}
use Rattle.ped_tree.specs.Numbering.{statement_count, statements_count}
use Rattle.ped_tree.specs.NamesIn.{loop_variables, all_loop_variables}
use Rattle.ped_rules.specs.ped_flow.specs.Events.{own_events, copied}
use Rattle.ped_rules.specs.ped_flow.specs.Summaries.{passing, unreached, summary_in_turn, summary_either, summary_events, summary_loop, summary_of, summary_of_all, summary_at_once, summary_behind, summary_behind_all}
use Rattle.ped_rules.specs.ped_flow.proofs.Truths.{untrue}
use Rattle.ped_rules.specs.ped_flow.proofs.SumLaws.{in_turn-assoc}
use Rattle.ped_rules.specs.ped_steps.specs.Replacing.{followed, alone}
use Rattle.ped_rules.specs.ped_steps.specs.Runs.Gaps.{Gap, at_front, past, in_then, in_else, in_body, filled, number_at}
use Rattle.ped_rules.specs.ped_steps.proofs.RunLaws.FilledGaps.{number_from, number_room}
use Rattle.ped_rules.specs.ped_steps.proofs.RunLaws.ReplacedTrees.{IsElsewhere, part_elsewhere}
use Rattle.ped_rules.specs.ped_loop_runs.proofs.TidyLaws.TidyPathsSums.{Summary, AreNoMore, own_exit, append_more}
use Rattle.ped_rules.specs.ped_loop_runs.proofs.TidyLaws.TidyPathsGaps.{followed_sum, followed_behind}
use Rattle.ped_reduce.specs.Lists.{listed_name, unless_named, without_list}
use Rattle.ped_reduce.specs.Lowering.{Partials, zeros, all_summed, exits, bare, lowered_loop}
use Rattle.ped_reduce.proofs.Resembling.{scalars_of, IsSummable, Becomes, AllBecome, GapBecomes, pasts, filled_pasts, number_pasts}
use Rattle.ped_reduce.proofs.LesserPaths.{IsLess, less_itself, less_by, in_turn_less, either_less, unreached_less, behind_less, own_less, loop_less, same_less, all_same_less}
use Rattle.ped_reduce.proofs.LoweredPaths.{all_same_loops, loops_followed, lowered_less, adding_first, adding_ends}

-- the DO loops of statements without their list
unless_loops : (o : Option (List ℕ)) (text : List ℕ) (rest : StmtTrees) → all_loop_variables (without_list rest) ≡ all_loop_variables rest → all_loop_variables (unless_named o (more_stmts (Comment text) rest) (without_list rest)) ≡ all_loop_variables rest
unless_loops None text rest e = refl
unless_loops (Some x) text rest e = e

pub without_loops : (ts : StmtTrees) → all_loop_variables (without_list ts) ≡ all_loop_variables ts
without_loops no_stmts = refl
without_loops (more_stmts (Comment text) rest) = unless_loops (listed_name text) text rest (without_loops rest)
without_loops (more_stmts (Assign left right) rest) = refl
without_loops (more_stmts (If c a b) rest) = refl
without_loops (more_stmts (Do h body) rest) = refl
without_loops (more_stmts (Print items) rest) = refl
without_loops (more_stmts (Read items) rest) = refl
without_loops (more_stmts Stop rest) = refl

module _ (cs : List (List ℕ)) (w : List ℕ) where
  one_less : (s : StmtTree) (b : Summary) (m : ℕ) → IsLess (summary_of cs w s m) b → IsLess (summary_of_all cs w (alone s) m) b
  one_less s b m h = behind_less (summary_of cs w s m) b passing h (λ e. refl) refl

  followed_less : (a b : StmtTrees) (m : ℕ) (c d : Summary) → IsLess (summary_of_all cs w a m) c → IsLess (summary_of_all cs w b (m + statements_count a)) d → IsLess (summary_of_all cs w (followed a b) m) (summary_in_turn c d)
  followed_less a b m c d h k = subst (λ (z : Summary). IsLess z (summary_in_turn c d)) (sym (followed_sum cs w a b m)) (in_turn_less (summary_of_all cs w a m) (summary_of_all cs w b (m + statements_count a)) c d h k)

  -- an IF with lesser parts
  if_less : (c : CondTree) (a b x y : StmtTrees) (n m : ℕ) → IsLess (summary_of_all cs w x (m + 1)) (summary_of_all cs w a (n + 1)) → IsLess (summary_of_all cs w y (m + 1 + statements_count x)) (summary_of_all cs w b (n + 1 + statements_count a))
      → IsLess (summary_of cs w (If c x y) m) (summary_of cs w (If c a b) n)
  if_less c a b x y n m h k =
      in_turn_less (summary_events w (own_events cs m (If c a b))) (summary_either (summary_of_all cs w x (m + 1)) (summary_of_all cs w y (m + 1 + statements_count x)))
      (summary_events w (own_events cs n (If c a b))) (summary_either (summary_of_all cs w a (n + 1)) (summary_of_all cs w b (n + 1 + statements_count a)))
      (own_less w cs (If c a b) m n)
      (either_less (summary_of_all cs w x (m + 1)) (summary_of_all cs w y (m + 1 + statements_count x)) (summary_of_all cs w a (n + 1)) (summary_of_all cs w b (n + 1 + statements_count a)) h k)

  when_more : (p : Bool) (xs ys : List (List ℕ)) → AreNoMore w xs ys → AreNoMore w (if p then xs else []) (if p then ys else [])
  when_more true xs ys h = h
  when_more false xs ys h = λ e. e

  copies : (h : Head) (body x : StmtTrees) → AreNoMore w (all_loop_variables body) (all_loop_variables x) → AreNoMore w (copied h body) (copied h x)
  copies h body x more =
      append_more w h.private (if h.parallel then all_loop_variables body else []) h.private (if h.parallel then all_loop_variables x else []) (λ e. e) (when_more h.parallel (all_loop_variables body) (all_loop_variables x) more)

  -- the trips of a DO with a lesser body
  trips_less : (h : Head) (body x : StmtTrees) (n m : ℕ) → AreNoMore w (all_loop_variables body) (all_loop_variables x) → IsLess (summary_of_all cs w x (m + 1)) (summary_of_all cs w body (n + 1))
      → IsLess (summary_loop w m h x (summary_of_all cs w x (m + 1))) (summary_loop w n h body (summary_of_all cs w body (n + 1)))
  trips_less h body x n m more less =
      loop_less w cs h h x body m n (summary_of_all cs w x (m + 1)) (summary_of_all cs w body (n + 1)) (copies h body x more)
      (append_more w (own_exit h) (copied h body) (own_exit h) (copied h x) (λ e. e) (copies h body x more)) less

  do_less : (h : Head) (body x : StmtTrees) (n m : ℕ) → AreNoMore w (all_loop_variables body) (all_loop_variables x) → IsLess (summary_of_all cs w x (m + 1)) (summary_of_all cs w body (n + 1)) → IsLess (summary_of cs w (Do h x) m) (summary_of cs w (Do h body) n)
  do_less h body x n m more less =
      in_turn_less (summary_events w (own_events cs m (Do h body))) (summary_loop w m h x (summary_of_all cs w x (m + 1))) (summary_events w (own_events cs n (Do h body))) (summary_loop w n h body (summary_of_all cs w body (n + 1)))
      (own_less w cs (Do h body) m n) (trips_less h body x n m more less)

  -- no path comes from the exit of a DO that stands elsewhere
  in_turn_none : (a b : Summary) → IsLess a unreached → IsLess (summary_in_turn a b) unreached
  in_turn_none a b h = in_turn_less a b unreached b h (less_itself b)

  either_none : (a b : Summary) → IsLess a unreached → IsLess b unreached → IsLess (summary_either a b) unreached
  either_none a b h k = either_less a b unreached unreached h k

  not_here : (k n count : ℕ) → 0 < count → IsElsewhere k n count → (k == n) ≡ false
  not_here k n count some (inl g) = grind (arith, eqb-true, g)
  not_here k n count some (inr g) = grind (arith, eqb-true, g, some)

  at_once_none : (b : Bool) → b ≡ false → IsLess (summary_at_once b) unreached
  at_once_none false e = less_itself unreached
  at_once_none true e = untrue (sym e)

  mutual
    behind_none : (s : StmtTree) (k n : ℕ) → IsElsewhere k n (statement_count s) → IsLess (summary_behind cs w k s n) unreached
    behind_none (Assign left right) k n p = less_itself unreached
    behind_none (If c a b) k n p =
        let count = statements_count a + statements_count b + 1 in
        either_none (summary_behind_all cs w k a (n + 1)) (summary_behind_all cs w k b (n + 1 + statements_count a))
        (all_behind_none a k (n + 1) (part_elsewhere k n count (n + 1) (statements_count a) (omega arith) (omega arith) p))
        (all_behind_none b k (n + 1 + statements_count a) (part_elsewhere k n count (n + 1 + statements_count a) (statements_count b) (omega arith) (omega arith) p))
    behind_none (Do h body) k n p =
        let count = statements_count body + 1 in
        either_none (summary_at_once (k == n)) (summary_in_turn (summary_behind_all cs w k body (n + 1)) (summary_loop w n h body (summary_of_all cs w body (n + 1))))
        (at_once_none (k == n) (not_here k n count (omega arith) p))
        (in_turn_none (summary_behind_all cs w k body (n + 1)) (summary_loop w n h body (summary_of_all cs w body (n + 1))) (all_behind_none body k (n + 1) (part_elsewhere k n count (n + 1) (statements_count body) (omega arith) (omega arith) p)))
    behind_none (Print items) k n p = less_itself unreached
    behind_none (Read items) k n p = less_itself unreached
    behind_none Stop k n p = less_itself unreached
    behind_none (Comment text) k n p = less_itself unreached

    all_behind_none : (ss : StmtTrees) (k n : ℕ) → IsElsewhere k n (statements_count ss) → IsLess (summary_behind_all cs w k ss n) unreached
    all_behind_none no_stmts k n p = less_itself unreached
    all_behind_none (more_stmts s rest) k n p =
        let count = statement_count s + statements_count rest in
        either_none (summary_in_turn (summary_behind cs w k s n) (summary_of_all cs w rest (n + statement_count s))) (summary_behind_all cs w k rest (n + statement_count s))
        (in_turn_none (summary_behind cs w k s n) (summary_of_all cs w rest (n + statement_count s)) (behind_none s k n (part_elsewhere k n count n (statement_count s) (omega arith) (omega arith) p)))
        (all_behind_none rest k (n + statement_count s) (part_elsewhere k n count (n + statement_count s) (statements_count rest) (omega arith) (omega arith) p))

  nothing_less : (a b : Summary) → IsLess a unreached → IsLess a b
  nothing_less a b h = less_by a unreached b h (unreached_less b)

  -- the DO loops of a lowered DO
  module _ (ps : List Partials) (unsummed : is_among w (scalars_of ps) ≡ false) (parallel : Bool) (h : Head) (body : StmtTrees) where
    has_left : (xs ys : List (List ℕ)) → is_among w xs ≡ true → is_among w (xs ++ ys) ≡ true
    has_left xs ys e = among_append w xs ys ∙ or_left (is_among w xs) (is_among w ys) e

    has_right : (xs ys : List (List ℕ)) → is_among w ys ≡ true → is_among w (xs ++ ys) ≡ true
    has_right xs ys e = among_append w xs ys ∙ or_right (is_among w xs) (is_among w ys) e

    abbrev mine : StmtTrees
    mine = followed (zeros h.variable ps) (all_summed h.variable ps (without_list body))

    loops_there : (b : Bool) → is_same_text w h.variable ≡ b → (b || is_among w (all_loop_variables body)) ≡ true → (b || is_among w (all_loop_variables mine)) ≡ true
    loops_there true e k = refl
    loops_there false e k =
        ap (is_among w) (loops_followed h.variable ps (zeros h.variable ps) (all_summed h.variable ps (without_list body)))
        ∙ has_right (all_loop_variables (zeros h.variable ps)) (all_loop_variables (all_summed h.variable ps (without_list body)))
        (ap (is_among w) (all_same_loops h.variable ps (without_list body) ∙ without_loops body) ∙ k)

    pub lowered_loops : AreNoMore w (loop_variables (Do h body)) (all_loop_variables (lowered_loop parallel ps h body))
    lowered_loops k =
        has_left (h.variable ∷ all_loop_variables mine) (all_loop_variables (alone (Do (bare h) (exits h.variable ps)))) (loops_there (is_same_text w h.variable) refl k)

-- what holds of each DO that is lowered: nothing is added to the scalar, and it is no PARALLEL DO
module _ (t : ProgramTree) (live : List ℕ) (cs : List (List ℕ)) (w : List ℕ) (fits : (n : ℕ) (ps : List Partials) (h : Head) (body : StmtTrees) → IsSummable t n ps h body → (is_among w (scalars_of ps) ≡ false) × (h.parallel ≡ false)) where
  by_is : (xs ws : StmtTrees) (names : List (List ℕ)) → ws ≡ xs → AreNoMore w names (all_loop_variables xs) → AreNoMore w names (all_loop_variables ws)
  by_is xs ws names e h = subst (λ (ts : StmtTrees). AreNoMore w names (all_loop_variables ts)) (sym e) h

  followed_loops_more : (a b : StmtTrees) (xs ys : List (List ℕ)) → AreNoMore w xs (all_loop_variables a) → AreNoMore w ys (all_loop_variables b) → AreNoMore w (xs ++ ys) (all_loop_variables (followed a b))
  followed_loops_more a b xs ys h k = subst (λ (z : List (List ℕ)). AreNoMore w (xs ++ ys) z) (sym (loops_of a b)) (append_more w xs ys (all_loop_variables a) (all_loop_variables b) h k)
    where
      loops_of : (a b : StmtTrees) → all_loop_variables (followed a b) ≡ all_loop_variables a ++ all_loop_variables b
      loops_of no_stmts b = refl
      loops_of (more_stmts s a) b = ap (λ (z : List (List ℕ)). loop_variables s ++ z) (loops_of a b) ∙ sym (append_assoc (loop_variables s) (all_loop_variables a) (all_loop_variables b))

  alone_loops : (s : StmtTree) (names : List (List ℕ)) → AreNoMore w names (loop_variables s) → AreNoMore w names (all_loop_variables (alone s))
  alone_loops s names h e = ap (is_among w) (append-nil (loop_variables s)) ∙ h e

  -- the variables of the DO loops stay
  mutual
    become_loops : (s : StmtTree) (n : ℕ) (ws : StmtTrees) → Becomes t live s n ws → AreNoMore w (loop_variables s) (all_loop_variables ws)
    become_loops (Assign left right) n ws is = λ e. untrue e
    become_loops (If c a b) n ws (x, y, p, q, is) =
        by_is (alone (If c x y)) ws (loop_variables (If c a b)) is
        (alone_loops (If c x y) (loop_variables (If c a b)) (append_more w (all_loop_variables a) (all_loop_variables b) (all_loop_variables x) (all_loop_variables y) (all_become_loops a (n + 1) x p) (all_become_loops b (n + 1 + statements_count a) y q)))
    become_loops (Do h body) n ws (inl (x, p, is)) =
        by_is (alone (Do h x)) ws (loop_variables (Do h body)) is
        (alone_loops (Do h x) (loop_variables (Do h body)) (append_more w (h.variable ∷ []) (all_loop_variables body) (h.variable ∷ []) (all_loop_variables x) (λ e. e) (all_become_loops body (n + 1) x p)))
    become_loops (Do h body) n ws (inr (ps, there, m, is)) = by_is (lowered_loop true ps h body) ws (loop_variables (Do h body)) is (lowered_loops cs w ps (fits n ps h body m).0 true h body)
    become_loops (Print items) n ws is = λ e. untrue e
    become_loops (Read items) n ws is = λ e. untrue e
    become_loops Stop n ws is = λ e. untrue e
    become_loops (Comment text) n ws is = λ e. untrue e

    all_become_loops : (ss : StmtTrees) (n : ℕ) (ws : StmtTrees) → AllBecome t live ss n ws → AreNoMore w (all_loop_variables ss) (all_loop_variables ws)
    all_become_loops no_stmts n ws is = λ e. untrue e
    all_become_loops (more_stmts s rest) n ws (x, y, p, q, is) =
        by_is (followed x y) ws (all_loop_variables (more_stmts s rest)) is (followed_loops_more x y (loop_variables s) (all_loop_variables rest) (become_loops s n x p) (all_become_loops rest (n + statement_count s) y q))

  by_less : (xs ws : StmtTrees) (m : ℕ) (b : Summary) → ws ≡ xs → IsLess (summary_of_all cs w xs m) b → IsLess (summary_of_all cs w ws m) b
  by_less xs ws m b e h = subst (λ (ts : StmtTrees). IsLess (summary_of_all cs w ts m) b) (sym e) h

  -- what statements become says no more
  mutual
    become_less : (s : StmtTree) (n m : ℕ) (ws : StmtTrees) → Becomes t live s n ws → IsLess (summary_of_all cs w ws m) (summary_of cs w s n)
    become_less (Assign left right) n m ws is = by_less (alone (Assign left right)) ws m (summary_of cs w (Assign left right) n) is (one_less cs w (Assign left right) (summary_of cs w (Assign left right) n) m (own_less w cs (Assign left right) m n))
    become_less (If c a b) n m ws (x, y, p, q, is) =
        by_less (alone (If c x y)) ws m (summary_of cs w (If c a b) n) is
        (one_less cs w (If c x y) (summary_of cs w (If c a b) n) m (if_less cs w c a b x y n m (all_become_less a (n + 1) (m + 1) x p) (all_become_less b (n + 1 + statements_count a) (m + 1 + statements_count x) y q)))
    become_less (Do h body) n m ws (inl (x, p, is)) =
        by_less (alone (Do h x)) ws m (summary_of cs w (Do h body) n) is
        (one_less cs w (Do h x) (summary_of cs w (Do h body) n) m (do_less cs w h body x n m (all_become_loops body (n + 1) x p) (all_become_less body (n + 1) (m + 1) x p)))
    become_less (Do h body) n m ws (inr (ps, there, f, is)) = by_less (lowered_loop true ps h body) ws m (summary_of cs w (Do h body) n) is (lowered_less cs w ps (fits n ps h body f).0 true h body (fits n ps h body f).1 n m)
    become_less (Print items) n m ws is = by_less (alone (Print items)) ws m (summary_of cs w (Print items) n) is (one_less cs w (Print items) (summary_of cs w (Print items) n) m (own_less w cs (Print items) m n))
    become_less (Read items) n m ws is = by_less (alone (Read items)) ws m (summary_of cs w (Read items) n) is (one_less cs w (Read items) (summary_of cs w (Read items) n) m (own_less w cs (Read items) m n))
    become_less Stop n m ws is = by_less (alone Stop) ws m (summary_of cs w Stop n) is (one_less cs w Stop (summary_of cs w Stop n) m (less_itself (summary_of cs w Stop n)))
    become_less (Comment text) n m ws is = by_less (alone (Comment text)) ws m passing is (one_less cs w (Comment text) passing m (less_itself passing))

    all_become_less : (ss : StmtTrees) (n m : ℕ) (ws : StmtTrees) → AllBecome t live ss n ws → IsLess (summary_of_all cs w ws m) (summary_of_all cs w ss n)
    all_become_less no_stmts n m ws is = by_less no_stmts ws m passing is (less_itself passing)
    all_become_less (more_stmts s rest) n m ws (x, y, p, q, is) =
        by_less (followed x y) ws m (summary_of_all cs w (more_stmts s rest) n) is
        (followed_less cs w x y m (summary_of cs w s n) (summary_of_all cs w rest (n + statement_count s)) (become_less s n m x p) (all_become_less rest (n + statement_count s) (m + statements_count x) y q))

  at_once_same : (a b : Bool) → b ≡ true → IsLess (summary_at_once a) (summary_at_once b)
  at_once_same a false e = untrue e
  at_once_same true true e = less_itself passing
  at_once_same false true e = unreached_less passing

  not_equal : (k m : ℕ) → m < k → (k == m) ≡ false
  not_equal k m e = grind (arith, eqb-true, e)

  is_at : (k n : ℕ) → n ≡ k → (k == n) ≡ true
  is_at k n e = grind (arith, eqb-true, e)

  -- a statement with what stands behind it, of which the DO isn't one
  rest_less : (s k : ℕ) (a b : Summary) (rest : StmtTrees) (n m : ℕ) → k < m → IsLess a b → IsLess (summary_either (summary_in_turn a (summary_of_all cs w rest m)) (summary_behind_all cs w k rest m)) (summary_either (summary_in_turn b (summary_of_all cs w rest n)) (summary_behind_all cs w s rest n))
  rest_less s k a b rest n m behind h =
      either_less (summary_in_turn a (summary_of_all cs w rest m)) (summary_behind_all cs w k rest m) (summary_in_turn b (summary_of_all cs w rest n)) (summary_behind_all cs w s rest n)
      (in_turn_less a (summary_of_all cs w rest m) b (summary_of_all cs w rest n) h (all_same_less w cs rest m n))
      (nothing_less cs w (summary_behind_all cs w k rest m) (summary_behind_all cs w s rest n) (all_behind_none cs w rest k m (inl behind)))

  -- from the exit of a DO itself, which may have another flag, or another body
  own_behind : (s k : ℕ) (h head : Head) (body new_body : StmtTrees) (n m : ℕ) → n ≡ s → m ≡ k → IsLess (summary_behind cs w k (Do head new_body) m) (summary_behind cs w s (Do h body) n)
  own_behind s k h head body new_body n m e f =
      either_less (summary_at_once (k == m)) (summary_in_turn (summary_behind_all cs w k new_body (m + 1)) (summary_loop w m head new_body (summary_of_all cs w new_body (m + 1))))
      (summary_at_once (s == n)) (summary_in_turn (summary_behind_all cs w s body (n + 1)) (summary_loop w n h body (summary_of_all cs w body (n + 1))))
      (at_once_same (k == m) (s == n) (is_at s n e))
      (nothing_less cs w (summary_in_turn (summary_behind_all cs w k new_body (m + 1)) (summary_loop w m head new_body (summary_of_all cs w new_body (m + 1)))) (summary_in_turn (summary_behind_all cs w s body (n + 1)) (summary_loop w n h body (summary_of_all cs w body (n + 1))))
      (in_turn_none cs w (summary_behind_all cs w k new_body (m + 1)) (summary_loop w m head new_body (summary_of_all cs w new_body (m + 1))) (all_behind_none cs w new_body k (m + 1) (inl (omega (arith, f))))))

  -- the DO in the gap, with these statements in its place, which have its variables and whose paths say no more
  module _ (h : Head) (body new : StmtTrees) (some : 0 < statements_count new) (new_loops : AreNoMore w (loop_variables (Do h body)) (all_loop_variables new)) (new_less : (n m : ℕ) → IsLess (summary_of_all cs w new m) (summary_of cs w (Do h body) n)) where
    abbrev it : StmtTrees
    it = alone (Do h body)

    gap_loops_more : (gap : Gap) (n : ℕ) (other : Gap) → GapBecomes t live gap n other → AreNoMore w (all_loop_variables (filled gap it)) (all_loop_variables (filled other new))
    gap_loops_more (at_front rest) n other is =
        subst (λ (g : Gap). AreNoMore w (all_loop_variables (more_stmts (Do h body) rest)) (all_loop_variables (filled g new))) (sym is)
        (followed_loops_more new rest (loop_variables (Do h body)) (all_loop_variables rest) new_loops (λ e. e))
    gap_loops_more (past z gap) n other (x, g, p, q, is) =
        subst (λ (o : Gap). AreNoMore w (all_loop_variables (more_stmts z (filled gap it))) (all_loop_variables (filled o new))) (sym is)
        (subst (λ (ts : StmtTrees). AreNoMore w (all_loop_variables (more_stmts z (filled gap it))) (all_loop_variables ts)) (sym (filled_pasts x g new))
        (followed_loops_more x (filled g new) (loop_variables z) (all_loop_variables (filled gap it)) (become_loops z n x p) (gap_loops_more gap (n + statement_count z) g q)))
    gap_loops_more (in_then c gap b rest) n other (g, q, is) =
        let a = filled gap it in
        subst (λ (o : Gap). AreNoMore w (all_loop_variables (more_stmts (If c a b) rest)) (all_loop_variables (filled o new))) (sym is)
        (append_more w (all_loop_variables a ++ all_loop_variables b) (all_loop_variables rest) (all_loop_variables (filled g new) ++ all_loop_variables b) (all_loop_variables rest)
        (append_more w (all_loop_variables a) (all_loop_variables b) (all_loop_variables (filled g new)) (all_loop_variables b) (gap_loops_more gap (n + 1) g q) (λ e. e)) (λ e. e))
    gap_loops_more (in_else c b gap rest) n other (x, g, p, q, is) =
        let a = filled gap it in
        subst (λ (o : Gap). AreNoMore w (all_loop_variables (more_stmts (If c b a) rest)) (all_loop_variables (filled o new))) (sym is)
        (append_more w (all_loop_variables b ++ all_loop_variables a) (all_loop_variables rest) (all_loop_variables x ++ all_loop_variables (filled g new)) (all_loop_variables rest)
        (append_more w (all_loop_variables b) (all_loop_variables a) (all_loop_variables x) (all_loop_variables (filled g new)) (all_become_loops b (n + 1) x p) (gap_loops_more gap (n + 1 + statements_count b) g q)) (λ e. e))
    gap_loops_more (in_body d gap rest) n other (g, q, is) =
        let a = filled gap it in
        subst (λ (o : Gap). AreNoMore w (all_loop_variables (more_stmts (Do d a) rest)) (all_loop_variables (filled o new))) (sym is)
        (append_more w (d.variable ∷ all_loop_variables a) (all_loop_variables rest) (d.variable ∷ all_loop_variables (filled g new)) (all_loop_variables rest)
        (append_more w (d.variable ∷ []) (all_loop_variables a) (d.variable ∷ []) (all_loop_variables (filled g new)) (λ e. e) (gap_loops_more gap (n + 1) g q)) (λ e. e))

    gap_less : (gap : Gap) (n m : ℕ) (other : Gap) → GapBecomes t live gap n other → IsLess (summary_of_all cs w (filled other new) m) (summary_of_all cs w (filled gap it) n)
    gap_less (at_front rest) n m other is =
        subst (λ (g : Gap). IsLess (summary_of_all cs w (filled g new) m) (summary_of_all cs w (more_stmts (Do h body) rest) n)) (sym is)
        (followed_less cs w new rest m (summary_of cs w (Do h body) n) (summary_of_all cs w rest (n + statement_count (Do h body))) (new_less n m)
        (all_same_less w cs rest (m + statements_count new) (n + statement_count (Do h body))))
    gap_less (past z gap) n m other (x, g, p, q, is) =
        subst (λ (o : Gap). IsLess (summary_of_all cs w (filled o new) m) (summary_of_all cs w (more_stmts z (filled gap it)) n)) (sym is)
        (by_less (followed x (filled g new)) (filled (pasts x g) new) m (summary_of_all cs w (more_stmts z (filled gap it)) n) (filled_pasts x g new)
        (followed_less cs w x (filled g new) m (summary_of cs w z n) (summary_of_all cs w (filled gap it) (n + statement_count z)) (become_less z n m x p) (gap_less gap (n + statement_count z) (m + statements_count x) g q)))
    gap_less (in_then c gap b rest) n m other (g, q, is) =
        let a = filled gap it in
        let x = filled g new in
        subst (λ (o : Gap). IsLess (summary_of_all cs w (filled o new) m) (summary_of_all cs w (more_stmts (If c a b) rest) n)) (sym is)
        (in_turn_less (summary_of cs w (If c x b) m) (summary_of_all cs w rest (m + statement_count (If c x b))) (summary_of cs w (If c a b) n) (summary_of_all cs w rest (n + statement_count (If c a b)))
        (if_less cs w c a b x b n m (gap_less gap (n + 1) (m + 1) g q) (all_same_less w cs b (m + 1 + statements_count x) (n + 1 + statements_count a)))
        (all_same_less w cs rest (m + statement_count (If c x b)) (n + statement_count (If c a b))))
    gap_less (in_else c b gap rest) n m other (y, g, p, q, is) =
        let a = filled gap it in
        let x = filled g new in
        subst (λ (o : Gap). IsLess (summary_of_all cs w (filled o new) m) (summary_of_all cs w (more_stmts (If c b a) rest) n)) (sym is)
        (in_turn_less (summary_of cs w (If c y x) m) (summary_of_all cs w rest (m + statement_count (If c y x))) (summary_of cs w (If c b a) n) (summary_of_all cs w rest (n + statement_count (If c b a)))
        (if_less cs w c b a y x n m (all_become_less b (n + 1) (m + 1) y p) (gap_less gap (n + 1 + statements_count b) (m + 1 + statements_count y) g q))
        (all_same_less w cs rest (m + statement_count (If c y x)) (n + statement_count (If c b a))))
    gap_less (in_body d gap rest) n m other (g, q, is) =
        let a = filled gap it in
        let x = filled g new in
        subst (λ (o : Gap). IsLess (summary_of_all cs w (filled o new) m) (summary_of_all cs w (more_stmts (Do d a) rest) n)) (sym is)
        (in_turn_less (summary_of cs w (Do d x) m) (summary_of_all cs w rest (m + statement_count (Do d x))) (summary_of cs w (Do d a) n) (summary_of_all cs w rest (n + statement_count (Do d a)))
        (do_less cs w d a x n m (gap_loops_more gap (n + 1) g q) (gap_less gap (n + 1) (m + 1) g q))
        (all_same_less w cs rest (m + statement_count (Do d x)) (n + statement_count (Do d a))))

    module _ (s k : ℕ) (new_behind : (rest : StmtTrees) (n m : ℕ) → n ≡ s → m ≡ k → IsLess (summary_behind_all cs w k (followed new rest) m) (summary_behind_all cs w s (more_stmts (Do h body) rest) n)) where
      -- the paths from its exit say no more
      pub gap_behind_by : (gap : Gap) (n m : ℕ) (other : Gap) → GapBecomes t live gap n other → number_at gap n ≡ s → number_at other m ≡ k → IsLess (summary_behind_all cs w k (filled other new) m) (summary_behind_all cs w s (filled gap it) n)
      gap_behind_by (at_front rest) n m other is e f =
          subst (λ (g : Gap). IsLess (summary_behind_all cs w k (filled g new) m) (summary_behind_all cs w s (more_stmts (Do h body) rest) n)) (sym is)
          (new_behind rest n m e (ap (λ (g : Gap). number_at g m) (sym is) ∙ f))
      gap_behind_by (past z gap) n m other (x, g, p, q, is) e f =
          let m1 = m + statements_count x in
          let at : number_at g m1 ≡ k = sym (number_pasts x g m) ∙ (ap (λ (o : Gap). number_at o m) (sym is) ∙ f) in
          let from = number_from g m1 in
          let inner = gap_behind_by gap (n + statement_count z) m1 g q e at in
          let before = summary_in_turn (summary_behind_all cs w k x m) (summary_of_all cs w (filled g new) m1) in
          let old = summary_in_turn (summary_behind cs w s z n) (summary_of_all cs w (filled gap it) (n + statement_count z)) in
          subst (λ (o : Gap). IsLess (summary_behind_all cs w k (filled o new) m) (summary_behind_all cs w s (more_stmts z (filled gap it)) n)) (sym is)
          (subst (λ (ts : StmtTrees). IsLess (summary_behind_all cs w k ts m) (summary_behind_all cs w s (more_stmts z (filled gap it)) n)) (sym (filled_pasts x g new))
          (subst (λ (y : Summary). IsLess y (summary_behind_all cs w s (more_stmts z (filled gap it)) n)) (sym (followed_behind cs w k x (filled g new) m))
          (either_less before (summary_behind_all cs w k (filled g new) m1) old (summary_behind_all cs w s (filled gap it) (n + statement_count z))
          (nothing_less cs w before old (in_turn_none cs w (summary_behind_all cs w k x m) (summary_of_all cs w (filled g new) m1) (all_behind_none cs w x k m (inr (omega (arith, from, at)))))) inner)))
      gap_behind_by (in_then c gap b rest) n m other (g, q, is) e f =
          let a = filled gap it in
          let x = filled g new in
          let at : number_at g (m + 1) ≡ k = ap (λ (o : Gap). number_at o m) (sym is) ∙ f in
          let room = number_room g new (m + 1) in
          let inner = gap_behind_by gap (n + 1) (m + 1) g q e at in
          subst (λ (o : Gap). IsLess (summary_behind_all cs w k (filled o new) m) (summary_behind_all cs w s (more_stmts (If c a b) rest) n)) (sym is)
          (rest_less s k (summary_either (summary_behind_all cs w k x (m + 1)) (summary_behind_all cs w k b (m + 1 + statements_count x))) (summary_either (summary_behind_all cs w s a (n + 1)) (summary_behind_all cs w s b (n + 1 + statements_count a))) rest
          (n + statement_count (If c a b)) (m + statement_count (If c x b)) (omega (arith, room, at, some))
          (either_less (summary_behind_all cs w k x (m + 1)) (summary_behind_all cs w k b (m + 1 + statements_count x)) (summary_behind_all cs w s a (n + 1)) (summary_behind_all cs w s b (n + 1 + statements_count a)) inner
          (nothing_less cs w (summary_behind_all cs w k b (m + 1 + statements_count x)) (summary_behind_all cs w s b (n + 1 + statements_count a)) (all_behind_none cs w b k (m + 1 + statements_count x) (inl (omega (arith, room, at, some)))))))
      gap_behind_by (in_else c b gap rest) n m other (y, g, p, q, is) e f =
          let a = filled gap it in
          let x = filled g new in
          let m1 = m + 1 + statements_count y in
          let at : number_at g m1 ≡ k = ap (λ (o : Gap). number_at o m) (sym is) ∙ f in
          let room = number_room g new m1 in
          let from = number_from g m1 in
          let inner = gap_behind_by gap (n + 1 + statements_count b) m1 g q e at in
          subst (λ (o : Gap). IsLess (summary_behind_all cs w k (filled o new) m) (summary_behind_all cs w s (more_stmts (If c b a) rest) n)) (sym is)
          (rest_less s k (summary_either (summary_behind_all cs w k y (m + 1)) (summary_behind_all cs w k x m1)) (summary_either (summary_behind_all cs w s b (n + 1)) (summary_behind_all cs w s a (n + 1 + statements_count b))) rest
          (n + statement_count (If c b a)) (m + statement_count (If c y x)) (omega (arith, room, at, some))
          (either_less (summary_behind_all cs w k y (m + 1)) (summary_behind_all cs w k x m1) (summary_behind_all cs w s b (n + 1)) (summary_behind_all cs w s a (n + 1 + statements_count b))
          (nothing_less cs w (summary_behind_all cs w k y (m + 1)) (summary_behind_all cs w s b (n + 1)) (all_behind_none cs w y k (m + 1) (inr (omega (arith, from, at))))) inner))
      gap_behind_by (in_body d gap rest) n m other (g, q, is) e f =
          let a = filled gap it in
          let x = filled g new in
          let at : number_at g (m + 1) ≡ k = ap (λ (o : Gap). number_at o m) (sym is) ∙ f in
          let room = number_room g new (m + 1) in
          let from = number_from g (m + 1) in
          let inner = gap_behind_by gap (n + 1) (m + 1) g q e at in
          let trips = summary_loop w m d x (summary_of_all cs w x (m + 1)) in
          let others = summary_loop w n d a (summary_of_all cs w a (n + 1)) in
          subst (λ (o : Gap). IsLess (summary_behind_all cs w k (filled o new) m) (summary_behind_all cs w s (more_stmts (Do d a) rest) n)) (sym is)
          (rest_less s k (summary_either (summary_at_once (k == m)) (summary_in_turn (summary_behind_all cs w k x (m + 1)) trips)) (summary_either (summary_at_once (s == n)) (summary_in_turn (summary_behind_all cs w s a (n + 1)) others)) rest
          (n + statement_count (Do d a)) (m + statement_count (Do d x)) (omega (arith, room, at, some))
          (either_less (summary_at_once (k == m)) (summary_in_turn (summary_behind_all cs w k x (m + 1)) trips) (summary_at_once (s == n)) (summary_in_turn (summary_behind_all cs w s a (n + 1)) others)
          (nothing_less cs w (summary_at_once (k == m)) (summary_at_once (s == n)) (at_once_none cs w (k == m) (not_equal k m (omega (arith, from, at)))))
          (in_turn_less (summary_behind_all cs w k x (m + 1)) trips (summary_behind_all cs w s a (n + 1)) others inner (trips_less cs w d a x n m (gap_loops_more gap (n + 1) g q) (gap_less gap (n + 1) (m + 1) g q)))))

  -- the DO in the gap, lowered but not yet parallel
  module _ (ps : List Partials) (h : Head) (body : StmtTrees) (unsummed : is_among w (scalars_of ps) ≡ false) (serial : h.parallel ≡ false) where
    abbrev new : StmtTrees
    new = lowered_loop false ps h body

    abbrev head : Head
    head = record h { parallel = false }

    abbrev new_body : StmtTrees
    new_body = followed (zeros h.variable ps) (all_summed h.variable ps (without_list body))

    abbrev adding : StmtTree
    adding = Do (bare h) (exits h.variable ps)

    module _ (quiet : (j : ℕ) → (summary_events w (own_events cs j (Do h body))).first ≡ None) (s k : ℕ) where
      lowered_behind : (rest : StmtTrees) (n m : ℕ) → n ≡ s → m ≡ k → IsLess (summary_behind_all cs w k (followed new rest) m) (summary_behind_all cs w s (more_stmts (Do h body) rest) n)
      lowered_behind rest n m e at =
          let m1 = m + statement_count (Do head new_body) in
          let m2 = m1 + statement_count adding in
          let b = summary_behind cs w k (Do head new_body) m in
          let r = summary_of_all cs w rest m2 in
          let x = summary_of cs w adding m1 in
          let old = summary_behind cs w s (Do h body) n in
          let n2 = n + statement_count (Do h body) in
          let first : IsLess (summary_in_turn b (summary_in_turn x r)) (summary_in_turn old (summary_of_all cs w rest n2)) =
          subst (λ (z : Summary). IsLess z (summary_in_turn old (summary_of_all cs w rest n2))) (in_turn-assoc b x r)
          (in_turn_less (summary_in_turn b x) r old (summary_of_all cs w rest n2) (behind_less b old x (own_behind s k h head body new_body n m e at) (λ z. adding_first cs w ps unsummed false h body serial m1 (quiet m1)) (adding_ends cs w ps unsummed false h body serial m1)) (all_same_less w cs rest m2 n2)) in
          let second = either_none cs w (summary_in_turn (summary_behind cs w k adding m1) r) (summary_behind_all cs w k rest m2)
          (in_turn_none cs w (summary_behind cs w k adding m1) r (behind_none cs w adding k m1 (inl (omega (arith, at))))) (all_behind_none cs w rest k m2 (inl (omega (arith, at)))) in
          either_less (summary_in_turn b (summary_in_turn x r)) (summary_either (summary_in_turn (summary_behind cs w k adding m1) r) (summary_behind_all cs w k rest m2)) (summary_in_turn old (summary_of_all cs w rest n2)) (summary_behind_all cs w s rest n2)
          first (nothing_less cs w (summary_either (summary_in_turn (summary_behind cs w k adding m1) r) (summary_behind_all cs w k rest m2)) (summary_behind_all cs w s rest n2) second)

      -- the paths from the exit say no more
      pub gap_behind : (gap : Gap) (n m : ℕ) (other : Gap) → GapBecomes t live gap n other → number_at gap n ≡ s → number_at other m ≡ k → IsLess (summary_behind_all cs w k (filled other (lowered_loop false ps h body)) m) (summary_behind_all cs w s (filled gap (alone (Do h body))) n)
      gap_behind = gap_behind_by h body (lowered_loop false ps h body) (omega arith) (lowered_loops cs w ps unsummed false h body) (lowered_less cs w ps unsummed false h body serial) s k lowered_behind

  -- the DO in the gap, as it is
  module _ (h : Head) (body : StmtTrees) (s k : ℕ) where
    same_behind : (rest : StmtTrees) (n m : ℕ) → n ≡ s → m ≡ k → IsLess (summary_behind_all cs w k (more_stmts (Do h body) rest) m) (summary_behind_all cs w s (more_stmts (Do h body) rest) n)
    same_behind rest n m e at =
        rest_less s k (summary_behind cs w k (Do h body) m) (summary_behind cs w s (Do h body) n) rest (n + statement_count (Do h body)) (m + statement_count (Do h body)) (omega (arith, at)) (own_behind s k h h body body n m e at)

    same_variables : AreNoMore w (loop_variables (Do h body)) (all_loop_variables (alone (Do h body)))
    same_variables = alone_loops (Do h body) (loop_variables (Do h body)) (λ e. e)

    pub same_gap_behind : (gap : Gap) (n m : ℕ) (other : Gap) → GapBecomes t live gap n other → number_at gap n ≡ s → number_at other m ≡ k → IsLess (summary_behind_all cs w k (filled other (alone (Do h body))) m) (summary_behind_all cs w s (filled gap (alone (Do h body))) n)
    same_gap_behind = gap_behind_by h body (alone (Do h body)) (omega arith) same_variables (λ n m. one_less cs w (Do h body) (summary_of cs w (Do h body) n) m (same_less w cs (Do h body) m n)) s k same_behind

-- What paths leave of a scalar, in programs that differ in one gap with no PARALLEL DO round it, where the old statements end with a DO: a path that passes the gap ends behind it, so behind that DO, too. The DO loops in the gap may have other variables than they had.
use Rattle.std.proofs.Common.{◌≡◌, ℕ, ◌+◌, ◌<◌, ◌≤◌, ◌==◌, List, [], ◌∷◌, ◌++◌, map, Bool, true, false, if◌then◌else◌, refl, sym, ap, subst, ◌∙◌, arith}
use Rattle.std.specs.Prelude.{⊤}
use Rattle.ped_tree.specs.Tree.{CondTree, Head, StmtTree, StmtTrees, If, Do}
use Rattle.ped_tree.specs.Numbering.{statement_count, statements_count}
use Rattle.ped_tree.specs.NamesIn.{all_loop_variables}
use Rattle.ped_rules.specs.ped_flow.specs.Events.{event, clears, own_events, copied}
use Rattle.ped_rules.specs.ped_flow.specs.Summaries.{summary_in_turn, summary_either, summary_events, summary_trips, summary_loop, summary_of, summary_of_all, summary_at_once, summary_behind, summary_behind_all}
use Rattle.ped_rules.specs.ped_flow.proofs.Truths.{untrue}
use Rattle.ped_rules.specs.ped_laws.specs.FlowRuns.Covering.{some_stop}
use Rattle.ped_rules.specs.ped_steps.specs.Replacing.{followed}
use Rattle.ped_rules.specs.ped_steps.specs.Runs.Gaps.{Gap, at_front, past, in_then, in_else, in_body, filled, number_at}
use Rattle.ped_rules.specs.ped_loop_runs.proofs.TidyLaws.TidyPathsSums.{Summary, IsNoMore, no_more_by, in_turn_more, same_head_clears, own_more, any_number, any_numbers}
use Rattle.ped_rules.specs.ped_loop_runs.proofs.TidyLaws.TidyPathsStops.{all_unstopped, all_behind_unstopped}
use Rattle.ped_rules.specs.ped_loop_runs.proofs.TidyLaws.TidyPathsGaps.{IsPlaced, at_once_more, gap_count, gap_from, behind_gap, followed_sum, followed_behind, behind_placed, all_behind_placed}
use Rattle.ped_rules.specs.ped_loop_runs.proofs.TidyLaws.TidyPathsBut.{IsNoMoreBut, either_first, either_second, no_but, passed_but, but_more, either_but, in_turn_but, but_in_turn, ending, ending_more, loop_but, but_trips}

-- no PARALLEL DO is round the gap
abbrev pub IsSerial : Gap → Type 0
IsSerial (at_front rest) = ⊤
IsSerial (past t g) = IsSerial g
IsSerial (in_then c g b rest) = IsSerial g
IsSerial (in_else c a g rest) = IsSerial g
IsSerial (in_body h g rest) = (h.parallel ≡ false) × IsSerial g

-- a DO that isn't parallel clears the same whatever is in its body
serial_copied : (h : Head) (body other : StmtTrees) → h.parallel ≡ false → copied h body ≡ copied h other
serial_copied h body other e = ap (λ (names : List (List ℕ)). h.private ++ names) (by h.parallel e)
  where
    by : (b : Bool) → b ≡ false → (if b then all_loop_variables body else []) ≡ (if b then all_loop_variables other else [])
    by true f = untrue (sym f)
    by false f = refl

module _ (cs : List (List ℕ)) (w : List ℕ) (new old : StmtTrees) (s l : ℕ) (unstopped : some_stop new ≡ false) (left : (summary_behind_all cs w l old s).keeps ≡ true) where
  serial_loop : (h : Head) → h.parallel ≡ false → (body other : StmtTrees) (n : ℕ) (a : Summary) → summary_loop w n h body a ≡ summary_loop w n h other a
  serial_loop h e body other n a =
      ap (λ (names : List (List ℕ)). summary_in_turn (summary_trips (summary_in_turn (summary_events w (map (event n clears) names)) a)) (summary_events w (map (event n clears) ((if h.parallel then h.variable ∷ [] else []) ++ names))))
      (serial_copied h body other e)

  serial_but : (h : Head) → h.parallel ≡ false → (body other : StmtTrees) (n m : ℕ) (a b c : Summary) → IsNoMoreBut a b c → IsNoMoreBut (summary_loop w n h body a) (summary_loop w m h other b) (ending c)
  serial_but h e body other n m a b c k =
      subst (λ (z : Summary). IsNoMoreBut z (summary_loop w m h other b) (ending c)) (sym (serial_loop h e body other n a))
      (loop_but cs w h h other other n m a b c (same_head_clears cs w h other other (λ f. f)) k)

  -- the paths from the exit of the DO in old statements
  abbrev left_in : StmtTrees → ℕ → Summary
  left_in ts n = summary_behind_all cs w l ts n

  -- a statement with more to it, and what stands behind it
  with_rest : (a b : StmtTree) (rest : StmtTrees) (i j n i2 j2 n2 : ℕ) (c : Summary) → IsNoMoreBut (summary_of cs w a i) (summary_of cs w b j) c → IsNoMore c (summary_behind cs w l b n)
      → IsNoMoreBut (summary_in_turn (summary_of cs w a i) (summary_of_all cs w rest i2)) (summary_in_turn (summary_of cs w b j) (summary_of_all cs w rest j2)) (summary_either (summary_in_turn (summary_behind cs w l b n) (summary_of_all cs w rest n2)) (summary_behind_all cs w l rest n2))
  with_rest a b rest i j n i2 j2 n2 c h k =
      let one : Summary = summary_in_turn (summary_of cs w a i) (summary_of_all cs w rest i2) in
      let other : Summary = summary_in_turn (summary_of cs w b j) (summary_of_all cs w rest j2) in
      let behind : Summary = summary_in_turn (summary_behind cs w l b n) (summary_of_all cs w rest n2) in
      but_more one other (summary_in_turn c (summary_of_all cs w rest j2)) (summary_either behind (summary_behind_all cs w l rest n2))
      (but_in_turn (summary_of cs w a i) (summary_of_all cs w rest i2) (summary_of cs w b j) (summary_of_all cs w rest j2) c h (any_numbers cs w rest i2 j2))
      (no_more_by (summary_in_turn c (summary_of_all cs w rest j2)) behind (summary_either behind (summary_behind_all cs w l rest n2))
      (in_turn_more c (summary_of_all cs w rest j2) (summary_behind cs w l b n) (summary_of_all cs w rest n2) k (any_numbers cs w rest j2 n2)) (either_first behind (summary_behind_all cs w l rest n2)))

  -- a path through the new statements may end behind the DO
  new_left : (i n : ℕ) → n ≡ s → IsNoMore (summary_of_all cs w new i) (left_in old n)
  new_left i n e = record {
    keeps = λ f. ap (λ (z : ℕ). (left_in old z).keeps) e ∙ left;
    ends = λ f. untrue ((all_unstopped cs w new i unstopped).ends f);
  }

  if_but : (c : CondTree) (a b a2 b2 : StmtTrees) (i j : ℕ) (e : Summary)
      → IsNoMoreBut (summary_of_all cs w a (i + 1)) (summary_of_all cs w a2 (j + 1)) e → IsNoMoreBut (summary_of_all cs w b (i + 1 + statements_count a)) (summary_of_all cs w b2 (j + 1 + statements_count a2)) e
      → IsNoMoreBut (summary_of cs w (If c a b) i) (summary_of cs w (If c a2 b2) j) e
  if_but c a b a2 b2 i j e h k =
      in_turn_but (summary_events w (own_events cs i (If c a b))) (summary_either (summary_of_all cs w a (i + 1)) (summary_of_all cs w b (i + 1 + statements_count a)))
      (summary_events w (own_events cs j (If c a2 b2))) (summary_either (summary_of_all cs w a2 (j + 1)) (summary_of_all cs w b2 (j + 1 + statements_count a2))) e
      (own_more cs w (If c a b) (If c a2 b2) i j (λ f. f))
      (either_but (summary_of_all cs w a (i + 1)) (summary_of_all cs w b (i + 1 + statements_count a)) (summary_of_all cs w a2 (j + 1)) (summary_of_all cs w b2 (j + 1 + statements_count a2)) e h k)

  -- paths through statements with the gap
  pub gap_passed : (g : Gap) (n i j : ℕ) → IsSerial g → number_at g n ≡ s → IsNoMoreBut (summary_of_all cs w (filled g new) i) (summary_of_all cs w (filled g old) j) (left_in (filled g old) n)
  gap_passed (at_front rest) n i j ser e =
      let through : Summary = summary_of_all cs w (followed new rest) i in
      let behind : Summary = summary_in_turn (left_in old n) (summary_of_all cs w rest (n + statements_count old)) in
      passed_but through (summary_of_all cs w (followed old rest) j) (left_in (followed old rest) n)
      (subst (λ (z : Summary). IsNoMore z (left_in (followed old rest) n)) (sym (followed_sum cs w new rest i))
      (subst (IsNoMore (summary_in_turn (summary_of_all cs w new i) (summary_of_all cs w rest (i + statements_count new)))) (sym (followed_behind cs w l old rest n))
      (no_more_by (summary_in_turn (summary_of_all cs w new i) (summary_of_all cs w rest (i + statements_count new))) behind (summary_either behind (left_in rest (n + statements_count old)))
      (in_turn_more (summary_of_all cs w new i) (summary_of_all cs w rest (i + statements_count new)) (left_in old n) (summary_of_all cs w rest (n + statements_count old))
      (new_left i n e) (any_numbers cs w rest (i + statements_count new) (n + statements_count old)))
      (either_first behind (left_in rest (n + statements_count old))))))
  gap_passed (past t g) n i j ser e =
      let m : ℕ = n + statement_count t in
      let ones : Summary = summary_in_turn (summary_of cs w t i) (summary_of_all cs w (filled g new) (i + statement_count t)) in
      let others : Summary = summary_in_turn (summary_of cs w t j) (summary_of_all cs w (filled g old) (j + statement_count t)) in
      let first : Summary = summary_in_turn (summary_behind cs w l t n) (summary_of_all cs w (filled g old) m) in
      but_more ones others (left_in (filled g old) m) (summary_either first (left_in (filled g old) m))
      (in_turn_but (summary_of cs w t i) (summary_of_all cs w (filled g new) (i + statement_count t)) (summary_of cs w t j) (summary_of_all cs w (filled g old) (j + statement_count t)) (left_in (filled g old) m)
      (any_number cs w t i j) (gap_passed g m (i + statement_count t) (j + statement_count t) ser e))
      (either_second first (left_in (filled g old) m))
  gap_passed (in_then c g b rest) n i j ser e =
      let t = If c (filled g new) b in
      let u = If c (filled g old) b in
      let inner : Summary = left_in (filled g old) (n + 1) in
      with_rest t u rest i j n (i + statement_count t) (j + statement_count u) (n + statement_count u) inner
      (if_but c (filled g new) b (filled g old) b i j inner (gap_passed g (n + 1) (i + 1) (j + 1) ser e)
      (no_but (summary_of_all cs w b (i + 1 + statements_count (filled g new))) (summary_of_all cs w b (j + 1 + statements_count (filled g old))) inner (any_numbers cs w b (i + 1 + statements_count (filled g new)) (j + 1 + statements_count (filled g old)))))
      (either_first inner (left_in b (n + 1 + statements_count (filled g old))))
  gap_passed (in_else c a g rest) n i j ser e =
      let t = If c a (filled g new) in
      let u = If c a (filled g old) in
      let m : ℕ = n + 1 + statements_count a in
      let inner : Summary = left_in (filled g old) m in
      with_rest t u rest i j n (i + statement_count t) (j + statement_count u) (n + statement_count u) inner
      (if_but c a (filled g new) a (filled g old) i j inner
      (no_but (summary_of_all cs w a (i + 1)) (summary_of_all cs w a (j + 1)) inner (any_numbers cs w a (i + 1) (j + 1)))
      (gap_passed g m (i + 1 + statements_count a) (j + 1 + statements_count a) ser e))
      (either_second (left_in a (n + 1)) inner)
  gap_passed (in_body h g rest) n i j ser e =
      let t = Do h (filled g new) in
      let u = Do h (filled g old) in
      let inner : Summary = left_in (filled g old) (n + 1) in
      let trips : Summary = summary_loop w n h (filled g old) (summary_of_all cs w (filled g old) (n + 1)) in
      with_rest t u rest i j n (i + statement_count t) (j + statement_count u) (n + statement_count u) (ending inner)
      (in_turn_but (summary_events w (own_events cs i t)) (summary_loop w i h (filled g new) (summary_of_all cs w (filled g new) (i + 1))) (summary_events w (own_events cs j u)) (summary_loop w j h (filled g old) (summary_of_all cs w (filled g old) (j + 1))) (ending inner)
      (own_more cs w t u i j (λ f. f))
      (serial_but h ser.0 (filled g new) (filled g old) i j (summary_of_all cs w (filled g new) (i + 1)) (summary_of_all cs w (filled g old) (j + 1)) inner (gap_passed g (n + 1) (i + 1) (j + 1) ser.1 e)))
      (no_more_by (ending inner) (summary_in_turn inner trips) (summary_either (summary_at_once (l == n)) (summary_in_turn inner trips)) (ending_more inner trips) (either_second (summary_at_once (l == n)) (summary_in_turn inner trips)))

  -- a DO with number m in the new program and one with number k in the old one stand alike to what stands before and behind the gap
  module _ (k m : ℕ) (before : (i : ℕ) → 1 ≤ i → i < s → (m == i) ≡ (k == i)) (behind : (i : ℕ) → (m == s + statements_count new + i) ≡ (k == s + statements_count old + i)) where
    placed_before : (n count : ℕ) → 1 ≤ n → n + count ≤ s → IsPlaced m n k n count
    placed_before n count p h i e = before (n + i) (omega (arith, p)) (omega (arith, h, e))

    placed_behind : (n o count from : ℕ) → n ≡ s + statements_count new + from → o ≡ s + statements_count old + from → IsPlaced m n k o count
    placed_behind n o count from e f i h =
        let a : n + i ≡ s + statements_count new + (from + i) = omega (arith, e) in
        let b : o + i ≡ s + statements_count old + (from + i) = omega (arith, f) in
        ap (λ (z : ℕ). m == z) a ∙ behind (from + i) ∙ ap (λ (z : ℕ). k == z) (sym b)

    -- what stands behind a statement with more to it
    rest_left : (a b : StmtTree) (rest : StmtTrees) (n i j : ℕ) → IsNoMoreBut (summary_behind cs w m a n) (summary_behind cs w k b n) (summary_behind cs w l b n) → IsNoMore (summary_behind_all cs w m rest i) (summary_behind_all cs w k rest j)
        → IsNoMoreBut (summary_either (summary_in_turn (summary_behind cs w m a n) (summary_of_all cs w rest i)) (summary_behind_all cs w m rest i)) (summary_either (summary_in_turn (summary_behind cs w k b n) (summary_of_all cs w rest j)) (summary_behind_all cs w k rest j))
        (summary_either (summary_in_turn (summary_behind cs w l b n) (summary_of_all cs w rest j)) (summary_behind_all cs w l rest j))
    rest_left a b rest n i j h k2 =
        let first : Summary = summary_in_turn (summary_behind cs w m a n) (summary_of_all cs w rest i) in
        let second : Summary = summary_in_turn (summary_behind cs w k b n) (summary_of_all cs w rest j) in
        let third : Summary = summary_in_turn (summary_behind cs w l b n) (summary_of_all cs w rest j) in
        let all : Summary = summary_either third (summary_behind_all cs w l rest j) in
        either_but first (summary_behind_all cs w m rest i) second (summary_behind_all cs w k rest j) all
        (but_more first second third all (but_in_turn (summary_behind cs w m a n) (summary_of_all cs w rest i) (summary_behind cs w k b n) (summary_of_all cs w rest j) (summary_behind cs w l b n) h (any_numbers cs w rest i j)) (either_first third (summary_behind_all cs w l rest j)))
        (no_but (summary_behind_all cs w m rest i) (summary_behind_all cs w k rest j) all k2)

    -- the paths from their exits
    pub gap_left_behind : (g : Gap) (n : ℕ) → 1 ≤ n → IsSerial g → number_at g n ≡ s → IsNoMoreBut (summary_behind_all cs w m (filled g new) n) (summary_behind_all cs w k (filled g old) n) (left_in (filled g old) n)
    gap_left_behind (at_front rest) n p ser e =
        let i : ℕ = n + statements_count new in
        let j : ℕ = n + statements_count old in
        let first : Summary = summary_in_turn (summary_behind_all cs w m new n) (summary_of_all cs w rest i) in
        let second : Summary = summary_in_turn (summary_behind_all cs w k old n) (summary_of_all cs w rest j) in
        let third : Summary = summary_in_turn (left_in old n) (summary_of_all cs w rest j) in
        let all : Summary = summary_either third (left_in rest j) in
        subst (λ (z : Summary). IsNoMoreBut z (summary_behind_all cs w k (followed old rest) n) (left_in (followed old rest) n)) (sym (followed_behind cs w m new rest n))
        (subst (λ (z : Summary). IsNoMoreBut (summary_either first (summary_behind_all cs w m rest i)) z (left_in (followed old rest) n)) (sym (followed_behind cs w k old rest n))
        (subst (λ (z : Summary). IsNoMoreBut (summary_either first (summary_behind_all cs w m rest i)) (summary_either second (summary_behind_all cs w k rest j)) z) (sym (followed_behind cs w l old rest n))
        (either_but first (summary_behind_all cs w m rest i) second (summary_behind_all cs w k rest j) all
        (passed_but first second all (no_more_by first third all
        (in_turn_more (summary_behind_all cs w m new n) (summary_of_all cs w rest i) (left_in old n) (summary_of_all cs w rest j) (record {
          keeps = λ f. ap (λ (z : ℕ). (left_in old z).keeps) e ∙ left;
          ends = λ f. untrue ((all_behind_unstopped cs w new m n unstopped).ends f);
        }) (any_numbers cs w rest i j)) (either_first third (left_in rest j))))
        (no_but (summary_behind_all cs w m rest i) (summary_behind_all cs w k rest j) all
        (all_behind_placed cs w rest m i k j (placed_behind i j (statements_count rest) 0 (omega (arith, e)) (omega (arith, e))))))))
    gap_left_behind (past t g) n p ser e =
        let from = gap_from g (n + statement_count t) in
        let i : ℕ = n + statement_count t in
        let first : Summary = summary_in_turn (summary_behind cs w m t n) (summary_of_all cs w (filled g new) i) in
        let second : Summary = summary_in_turn (summary_behind cs w k t n) (summary_of_all cs w (filled g old) i) in
        let third : Summary = summary_in_turn (summary_behind cs w l t n) (summary_of_all cs w (filled g old) i) in
        let inner : Summary = left_in (filled g old) i in
        but_more (summary_either first (summary_behind_all cs w m (filled g new) i)) (summary_either second (summary_behind_all cs w k (filled g old) i)) inner (summary_either third inner)
        (either_but first (summary_behind_all cs w m (filled g new) i) second (summary_behind_all cs w k (filled g old) i) inner
        (in_turn_but (summary_behind cs w m t n) (summary_of_all cs w (filled g new) i) (summary_behind cs w k t n) (summary_of_all cs w (filled g old) i) inner
        (behind_placed cs w t m n k n (placed_before n (statement_count t) p (omega (arith, from, e)))) (gap_passed g i i i ser e))
        (gap_left_behind g i (omega (arith, p)) ser e))
        (either_second third inner)
    gap_left_behind (in_then c g b rest) n p ser e =
        let t = If c (filled g new) b in
        let u = If c (filled g old) b in
        let i : ℕ = n + 1 + statements_count (filled g new) in
        let j : ℕ = n + 1 + statements_count (filled g old) in
        let one = gap_count g (n + 1) new in
        let two = gap_count g (n + 1) old in
        let inner : Summary = left_in (filled g old) (n + 1) in
        let all : Summary = summary_either inner (left_in b j) in
        rest_left t u rest n (n + statement_count t) (n + statement_count u)
        (either_but (summary_behind_all cs w m (filled g new) (n + 1)) (summary_behind_all cs w m b i) (summary_behind_all cs w k (filled g old) (n + 1)) (summary_behind_all cs w k b j) all
        (but_more (summary_behind_all cs w m (filled g new) (n + 1)) (summary_behind_all cs w k (filled g old) (n + 1)) inner all (gap_left_behind g (n + 1) (omega arith) ser e) (either_first inner (left_in b j)))
        (no_but (summary_behind_all cs w m b i) (summary_behind_all cs w k b j) all
        (all_behind_placed cs w b m i k j (placed_behind i j (statements_count b) (behind_gap g) (omega (arith, one, e)) (omega (arith, two, e))))))
        (all_behind_placed cs w rest m (n + statement_count t) k (n + statement_count u)
        (placed_behind (n + statement_count t) (n + statement_count u) (statements_count rest) (behind_gap g + statements_count b) (omega (arith, one, e)) (omega (arith, two, e))))
    gap_left_behind (in_else c a g rest) n p ser e =
        let t = If c a (filled g new) in
        let u = If c a (filled g old) in
        let i : ℕ = n + 1 + statements_count a in
        let one = gap_count g i new in
        let two = gap_count g i old in
        let from = gap_from g i in
        let inner : Summary = left_in (filled g old) i in
        let all : Summary = summary_either (left_in a (n + 1)) inner in
        rest_left t u rest n (n + statement_count t) (n + statement_count u)
        (either_but (summary_behind_all cs w m a (n + 1)) (summary_behind_all cs w m (filled g new) i) (summary_behind_all cs w k a (n + 1)) (summary_behind_all cs w k (filled g old) i) all
        (no_but (summary_behind_all cs w m a (n + 1)) (summary_behind_all cs w k a (n + 1)) all
        (all_behind_placed cs w a m (n + 1) k (n + 1) (placed_before (n + 1) (statements_count a) (omega arith) (omega (arith, from, e)))))
        (but_more (summary_behind_all cs w m (filled g new) i) (summary_behind_all cs w k (filled g old) i) inner all (gap_left_behind g i (omega arith) ser e) (either_second (left_in a (n + 1)) inner)))
        (all_behind_placed cs w rest m (n + statement_count t) k (n + statement_count u)
        (placed_behind (n + statement_count t) (n + statement_count u) (statements_count rest) (behind_gap g) (omega (arith, one, e)) (omega (arith, two, e))))
    gap_left_behind (in_body h g rest) n p ser e =
        let t = Do h (filled g new) in
        let u = Do h (filled g old) in
        let one = gap_count g (n + 1) new in
        let two = gap_count g (n + 1) old in
        let from = gap_from g (n + 1) in
        let inner : Summary = left_in (filled g old) (n + 1) in
        let trips : Summary = summary_loop w n h (filled g new) (summary_of_all cs w (filled g new) (n + 1)) in
        let others : Summary = summary_loop w n h (filled g old) (summary_of_all cs w (filled g old) (n + 1)) in
        let all : Summary = summary_either (summary_at_once (l == n)) (summary_in_turn inner others) in
        let first : Summary = summary_in_turn (summary_behind_all cs w m (filled g new) (n + 1)) trips in
        let second : Summary = summary_in_turn (summary_behind_all cs w k (filled g old) (n + 1)) others in
        rest_left t u rest n (n + statement_count t) (n + statement_count u)
        (either_but (summary_at_once (m == n)) first (summary_at_once (k == n)) second all
        (no_but (summary_at_once (m == n)) (summary_at_once (k == n)) all (at_once_more m n k n (before n p (omega (arith, from, e)))))
        (but_more first second (summary_in_turn inner others) all
        (but_trips (summary_behind_all cs w m (filled g new) (n + 1)) trips (summary_behind_all cs w k (filled g old) (n + 1)) others inner (gap_left_behind g (n + 1) (omega arith) ser.1 e)
        (serial_but h ser.0 (filled g new) (filled g old) n n (summary_of_all cs w (filled g new) (n + 1)) (summary_of_all cs w (filled g old) (n + 1)) inner (gap_passed g (n + 1) (n + 1) (n + 1) ser.1 e)))
        (either_second (summary_at_once (l == n)) (summary_in_turn inner others))))
        (all_behind_placed cs w rest m (n + statement_count t) k (n + statement_count u)
        (placed_behind (n + statement_count t) (n + statement_count u) (statements_count rest) (behind_gap g) (omega (arith, one, e)) (omega (arith, two, e))))

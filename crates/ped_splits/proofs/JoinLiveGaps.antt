-- Programs that differ in a gap: what is live behind a DO in the first one is live behind one in the second, where the statements in the gap leave and read the scalar alike.
use Rattle.std.proofs.Common.{List, None, Option, Some, ap, arith, inl, inr, is_some, refl, subst, sym, true, ℕ, ◌+◌, ◌<◌, ◌==◌, ◌∙◌, ◌≡◌, ◌≤◌}
use Rattle.std.specs.List.{flat_map}
use Rattle.ped_tree.specs.Accesses.{constant_names}
use Rattle.ped_tree.specs.NamesIn.{all_loop_variables, saved_in}
use Rattle.ped_tree.specs.Numbering.{statement_count, statements_count}
use Rattle.ped_tree.specs.Tree.{DeclTree, Do, If, ProgramTree, StmtTrees, no_stmts}
use Rattle.ped_rules.specs.ped_loop_runs.proofs.TidyLaws.TidyPathsGaps.{IsPlaced, behind_gap, followed_behind, followed_sum, gap_count, gap_from, gap_variables}
use Rattle.ped_rules.specs.ped_loop_runs.proofs.TidyLaws.TidyPathsShown.{shown_by}
use Rattle.ped_rules.specs.ped_loop_runs.proofs.TidyLaws.TidyPathsSums.{AreNoMore, Summary}
use Rattle.ped_rules.specs.ped_steps.specs.Replacing.{followed}
use Rattle.ped_rules.specs.ped_steps.specs.Runs.Gaps.{Gap, at_front, filled, in_body, in_else, in_then, number_at, past}
use Rattle.ped_rules.specs.ped_flow.proofs.TreeSummaries.{all_behind-summed}
use Rattle.ped_rules.specs.ped_flow.specs.Events.{own_events}
use Rattle.ped_rules.specs.ped_flow.specs.Paths.{paths_from_exit}
use Rattle.ped_rules.specs.ped_flow.specs.Questions.{IsFirst, IsLiveAfter, IsReadBehind}
use Rattle.ped_rules.specs.ped_flow.specs.Summaries.{AreSummed, IsReadOn, summary_behind_all, summary_either, summary_events, summary_in_turn, summary_loop, summary_of, summary_of_all}
use Rattle.ped_splits.proofs.JoinLive.{IsNoLess, all_behind_less, behind_less, do_behind_less, either_less, loop_less, number_less, numbers_less, own_less, rest_less, turn_less}

module _ (cs : List (List ℕ)) (w : List ℕ) (new old : StmtTrees) (summed : (n m : ℕ) → IsNoLess (summary_of_all cs w new n) (summary_of_all cs w old m)) (loops : AreNoMore w (all_loop_variables old) (all_loop_variables new)) where
  inner_loops : (g : Gap) → AreNoMore w (all_loop_variables (filled g old)) (all_loop_variables (filled g new))
  inner_loops g = gap_variables w new old loops g

  gap_less : (g : Gap) (n m : ℕ) → IsNoLess (summary_of_all cs w (filled g new) n) (summary_of_all cs w (filled g old) m)
  gap_less (at_front rest) n m =
      subst (λ (z : Summary). IsNoLess z (summary_of_all cs w (followed old rest) m)) (sym (followed_sum cs w new rest n))
      (subst (IsNoLess (summary_in_turn (summary_of_all cs w new n) (summary_of_all cs w rest (n + statements_count new)))) (sym (followed_sum cs w old rest m))
      (turn_less (summary_of_all cs w new n) (summary_of_all cs w rest (n + statements_count new)) (summary_of_all cs w old m) (summary_of_all cs w rest (m + statements_count old)) (summed n m) (numbers_less cs w rest (n + statements_count new) (m + statements_count old))))
  gap_less (past z g) n m =
      turn_less (summary_of cs w z n) (summary_of_all cs w (filled g new) (n + statement_count z)) (summary_of cs w z m) (summary_of_all cs w (filled g old) (m + statement_count z)) (number_less cs w z n m) (gap_less g (n + statement_count z) (m + statement_count z))
  gap_less (in_then c g b rest) n m =
      let a = filled g new in
      let d = filled g old in
      turn_less (summary_of cs w (If c a b) n) (summary_of_all cs w rest (n + statement_count (If c a b))) (summary_of cs w (If c d b) m) (summary_of_all cs w rest (m + statement_count (If c d b)))
      (turn_less (summary_events w (own_events cs n (If c a b))) (summary_either (summary_of_all cs w a (n + 1)) (summary_of_all cs w b (n + 1 + statements_count a))) (summary_events w (own_events cs m (If c d b))) (summary_either (summary_of_all cs w d (m + 1)) (summary_of_all cs w b (m + 1 + statements_count d)))
      (own_less cs w (If c b b) n m)
      (either_less (summary_of_all cs w a (n + 1)) (summary_of_all cs w b (n + 1 + statements_count a)) (summary_of_all cs w d (m + 1)) (summary_of_all cs w b (m + 1 + statements_count d)) (gap_less g (n + 1) (m + 1)) (numbers_less cs w b (n + 1 + statements_count a) (m + 1 + statements_count d))))
      (numbers_less cs w rest (n + statement_count (If c a b)) (m + statement_count (If c d b)))
  gap_less (in_else c a g rest) n m =
      let b = filled g new in
      let d = filled g old in
      turn_less (summary_of cs w (If c a b) n) (summary_of_all cs w rest (n + statement_count (If c a b))) (summary_of cs w (If c a d) m) (summary_of_all cs w rest (m + statement_count (If c a d)))
      (turn_less (summary_events w (own_events cs n (If c a b))) (summary_either (summary_of_all cs w a (n + 1)) (summary_of_all cs w b (n + 1 + statements_count a))) (summary_events w (own_events cs m (If c a d))) (summary_either (summary_of_all cs w a (m + 1)) (summary_of_all cs w d (m + 1 + statements_count a)))
      (own_less cs w (If c a a) n m)
      (either_less (summary_of_all cs w a (n + 1)) (summary_of_all cs w b (n + 1 + statements_count a)) (summary_of_all cs w a (m + 1)) (summary_of_all cs w d (m + 1 + statements_count a)) (numbers_less cs w a (n + 1) (m + 1)) (gap_less g (n + 1 + statements_count a) (m + 1 + statements_count a))))
      (numbers_less cs w rest (n + statement_count (If c a b)) (m + statement_count (If c a d)))
  gap_less (in_body h g rest) n m =
      let a = filled g new in
      let d = filled g old in
      turn_less (summary_of cs w (Do h a) n) (summary_of_all cs w rest (n + statement_count (Do h a))) (summary_of cs w (Do h d) m) (summary_of_all cs w rest (m + statement_count (Do h d)))
      (turn_less (summary_events w (own_events cs n (Do h a))) (summary_loop w n h a (summary_of_all cs w a (n + 1))) (summary_events w (own_events cs m (Do h d))) (summary_loop w m h d (summary_of_all cs w d (m + 1)))
      (own_less cs w (Do h no_stmts) n m) (loop_less cs w h a d n m (summary_of_all cs w a (n + 1)) (summary_of_all cs w d (m + 1)) (inner_loops g) (gap_less g (n + 1) (m + 1))))
      (numbers_less cs w rest (n + statement_count (Do h a)) (m + statement_count (Do h d)))

  -- from two numbers that stand alike to what stands before and behind the gap
  module _ (s k l : ℕ) (before : (i : ℕ) → i < s → (k == i) ≡ (l == i)) (behind : (i : ℕ) → (k == s + statements_count new + i) ≡ (l == s + statements_count old + i)) (here : IsNoLess (summary_behind_all cs w k new s) (summary_behind_all cs w l old s)) where
    placed_before : (n count : ℕ) → n + count ≤ s → IsPlaced k n l n count
    placed_before n count h i e = before (n + i) (omega (arith, h, e))

    placed_behind : (n m count from : ℕ) → n ≡ s + statements_count new + from → m ≡ s + statements_count old + from → IsPlaced k n l m count
    placed_behind n m count from e f i h =
        let a : n + i ≡ s + statements_count new + (from + i) = omega (arith, e) in
        let b : m + i ≡ s + statements_count old + (from + i) = omega (arith, f) in
        ap (λ (z : ℕ). k == z) a ∙ behind (from + i) ∙ ap (λ (z : ℕ). l == z) (sym b)

    pub gap_behind_less : (g : Gap) (n : ℕ) → number_at g n ≡ s → IsNoLess (summary_behind_all cs w k (filled g new) n) (summary_behind_all cs w l (filled g old) n)
    gap_behind_less (at_front rest) n e =
        subst (λ (z : ℕ). IsNoLess (summary_behind_all cs w k (followed new rest) z) (summary_behind_all cs w l (followed old rest) z)) (sym e)
        (let i : ℕ = s + statements_count new in
        let j : ℕ = s + statements_count old in
        let first : Summary = summary_either (summary_in_turn (summary_behind_all cs w k new s) (summary_of_all cs w rest i)) (summary_behind_all cs w k rest i) in
        subst (λ (z : Summary). IsNoLess z (summary_behind_all cs w l (followed old rest) s)) (sym (followed_behind cs w k new rest s))
        (subst (IsNoLess first) (sym (followed_behind cs w l old rest s))
        (either_less (summary_in_turn (summary_behind_all cs w k new s) (summary_of_all cs w rest i)) (summary_behind_all cs w k rest i) (summary_in_turn (summary_behind_all cs w l old s) (summary_of_all cs w rest j)) (summary_behind_all cs w l rest j)
        (turn_less (summary_behind_all cs w k new s) (summary_of_all cs w rest i) (summary_behind_all cs w l old s) (summary_of_all cs w rest j) here (numbers_less cs w rest i j))
        (all_behind_less cs w rest k i l j (placed_behind i j (statements_count rest) 0 (omega arith) (omega arith))))))
    gap_behind_less (past z g) n e =
        let from = gap_from g (n + statement_count z) in
        rest_less cs w z z (filled g new) (filled g old) k n l n (n + statement_count z) (n + statement_count z)
        (behind_less cs w z k n l n (placed_before n (statement_count z) (omega (arith, from, e))))
        (gap_less g (n + statement_count z) (n + statement_count z)) (gap_behind_less g (n + statement_count z) e)
    gap_behind_less (in_then c g b rest) n e =
        let a = filled g new in
        let d = filled g old in
        let i : ℕ = n + 1 + statements_count (filled g new) in
        let j : ℕ = n + 1 + statements_count (filled g old) in
        let first = gap_count g (n + 1) new in
        let second = gap_count g (n + 1) old in
        rest_less cs w (If c a b) (If c d b) rest rest k n l n (n + statement_count (If c a b)) (n + statement_count (If c d b))
        (either_less (summary_behind_all cs w k a (n + 1)) (summary_behind_all cs w k b i) (summary_behind_all cs w l d (n + 1)) (summary_behind_all cs w l b j)
        (gap_behind_less g (n + 1) e)
        (all_behind_less cs w b k i l j (placed_behind i j (statements_count b) (behind_gap g) (omega (arith, first, e)) (omega (arith, second, e)))))
        (numbers_less cs w rest (n + statement_count (If c a b)) (n + statement_count (If c d b)))
        (all_behind_less cs w rest k (n + statement_count (If c a b)) l (n + statement_count (If c d b))
        (placed_behind (n + statement_count (If c a b)) (n + statement_count (If c d b)) (statements_count rest) (behind_gap g + statements_count b) (omega (arith, first, e)) (omega (arith, second, e))))
    gap_behind_less (in_else c a g rest) n e =
        let b = filled g new in
        let d = filled g old in
        let i : ℕ = n + 1 + statements_count a in
        let first = gap_count g i new in
        let second = gap_count g i old in
        let from = gap_from g i in
        rest_less cs w (If c a b) (If c a d) rest rest k n l n (n + statement_count (If c a b)) (n + statement_count (If c a d))
        (either_less (summary_behind_all cs w k a (n + 1)) (summary_behind_all cs w k b i) (summary_behind_all cs w l a (n + 1)) (summary_behind_all cs w l d i)
        (all_behind_less cs w a k (n + 1) l (n + 1) (placed_before (n + 1) (statements_count a) (omega (arith, from, e))))
        (gap_behind_less g i e))
        (numbers_less cs w rest (n + statement_count (If c a b)) (n + statement_count (If c a d)))
        (all_behind_less cs w rest k (n + statement_count (If c a b)) l (n + statement_count (If c a d))
        (placed_behind (n + statement_count (If c a b)) (n + statement_count (If c a d)) (statements_count rest) (behind_gap g) (omega (arith, first, e)) (omega (arith, second, e))))
    gap_behind_less (in_body h g rest) n e =
        let a = filled g new in
        let d = filled g old in
        let first = gap_count g (n + 1) new in
        let second = gap_count g (n + 1) old in
        let from = gap_from g (n + 1) in
        rest_less cs w (Do h a) (Do h d) rest rest k n l n (n + statement_count (Do h a)) (n + statement_count (Do h d))
        (do_behind_less cs w h a d k n l n (before n (omega (arith, from, e))) (inner_loops g) (gap_behind_less g (n + 1) e) (gap_less g (n + 1) (n + 1)))
        (numbers_less cs w rest (n + statement_count (Do h a)) (n + statement_count (Do h d)))
        (all_behind_less cs w rest k (n + statement_count (Do h a)) l (n + statement_count (Do h d))
        (placed_behind (n + statement_count (Do h a)) (n + statement_count (Do h d)) (statements_count rest) (behind_gap g) (omega (arith, first, e)) (omega (arith, second, e))))

-- a scalar is live behind a DO of the one program only where it is behind one of the other
pub live_alike : (t u : ProgramTree) (w : List ℕ) (k l : ℕ) → u.decls ≡ t.decls → IsNoLess (summary_behind_all (constant_names t.decls) w k t.body 1) (summary_behind_all (constant_names u.decls) w l u.body 1) → IsLiveAfter t k w → IsLiveAfter u l w
live_alike t u w k l decls less (inl read) = inl (by (summary_behind_all (constant_names t.decls) w k t.body 1).first (summary_behind_all (constant_names u.decls) w l u.body 1).first first.first second.first less.reads)
  where
    first : AreSummed (paths_from_exit t k) w (summary_behind_all (constant_names t.decls) w k t.body 1)
    first = all_behind-summed (constant_names t.decls) w k t.body 1

    second : AreSummed (paths_from_exit u l) w (summary_behind_all (constant_names u.decls) w l u.body 1)
    second = all_behind-summed (constant_names u.decls) w l u.body 1

    by : (a b : Option ℕ) → IsFirst (IsReadOn (paths_from_exit t k) w) a → IsFirst (IsReadOn (paths_from_exit u l) w) b → (is_some a ≡ true → is_some b ≡ true) → (n : ℕ) × IsReadBehind u l w n
    by None b h g some = absurd (h read.0 (read.1.path, read.1.leads, read.1.reads))
    by (Some i) None h g some = let wrong = some refl in absurd cc
    by (Some i) (Some j) h g some = (j, record { path = g.0.0; leads = g.0.1; reads = g.0.2 })
live_alike t u w k l decls less (inr shown) = inr (shown_by t u w k l (ap (λ (ds : List DeclTree). flat_map saved_in ds) (sym decls)) less.more shown)

-- What the paths from the exit of a DO leave of a scalar, in programs that differ in one gap.
use Rattle.std.proofs.Common.{◌≡◌, ℕ, ◌+◌, ◌<◌, ◌≤◌, false, ◌==◌, List, ◌++◌, refl, sym, ap, subst, ◌∙◌, arith}
use Rattle.std.proofs.lemmas.List.{append_assoc}
use Rattle.ped_bodies.specs.ped_flow.specs.ped_base.specs.Lists.{is_same_text, is_among}
use Rattle.ped_bodies.specs.ped_flow.specs.ped_tree.specs.Tree.{Head, StmtTree, StmtTrees, Assign, If, Do, Print, Read, Stop, Comment, no_stmts, more_stmts}
use Rattle.ped_bodies.specs.ped_flow.specs.ped_tree.specs.Numbering.{statement_count, statements_count}
use Rattle.ped_bodies.specs.ped_flow.specs.ped_tree.specs.NamesIn.{loop_variables, all_loop_variables}
use Rattle.ped_bodies.specs.ped_flow.specs.Summaries.{unreached, summary_in_turn, summary_either, summary_loop, summary_of, summary_of_all, summary_at_once, summary_behind, summary_behind_all}
use Rattle.ped_bodies.specs.ped_flow.proofs.SumLaws.{in_turn-assoc, either-in_turn, either-assoc}
use Rattle.ped_bodies.specs.ped_steps.specs.Replacing.{followed}
use Rattle.ped_bodies.specs.ped_steps.specs.Runs.Gaps.{Gap, at_front, past, in_then, in_else, in_body, filled, number_at}
use Rattle.ped_loop_runs.proofs.TidyLaws.TidyPathsSums.{Summary, IsNoMore, AreNoMore, or_more, append_more, no_more, same_no_more, in_turn_more, either_more, same_head_clears, loop_more, do_more, if_more, more_more, any_number, any_numbers}

-- two numbers stand alike to statements of which the first has the one number before and the other behind
abbrev pub IsPlaced : ℕ → ℕ → ℕ → ℕ → ℕ → Type 0
IsPlaced k n l m count = (i : ℕ) → i < count → (k == n + i) ≡ (l == m + i)

pub part_placed : (k n l m count start part i j : ℕ) → start + part ≤ count → i ≡ n + start → j ≡ m + start → IsPlaced k n l m count → IsPlaced k i l j part
part_placed k n l m count start part i j h e f p o less =
    let a : i + o ≡ n + (start + o) = omega (arith, e) in
    let b : j + o ≡ m + (start + o) = omega (arith, f) in
    ap (λ (z : ℕ). k == z) a ∙ p (start + o) (omega (arith, h, less)) ∙ ap (λ (z : ℕ). l == z) (sym b)

first_placed : (k n l m count : ℕ) → 0 < count → IsPlaced k n l m count → (k == n) ≡ (l == m)
first_placed k n l m count h p =
    let a : n ≡ n + 0 = omega arith in
    let b : m ≡ m + 0 = omega arith in
    ap (λ (z : ℕ). k == z) a ∙ p 0 h ∙ ap (λ (z : ℕ). l == z) (sym b)

pub at_once_more : (k n l m : ℕ) → (k == n) ≡ (l == m) → IsNoMore (summary_at_once (k == n)) (summary_at_once (l == m))
at_once_more k n l m e = same_no_more (summary_at_once (k == n)) (summary_at_once (l == m)) (ap summary_at_once e)

-- what comes behind nothing, and either of two nothings, is nothing
pub in_turn_none : (a b : Summary) → IsNoMore a unreached → IsNoMore (summary_in_turn a b) unreached
in_turn_none a b h = in_turn_more a b unreached b h (no_more b)

pub either_none : (a b : Summary) → IsNoMore a unreached → IsNoMore b unreached → IsNoMore (summary_either a b) unreached
either_none a b h k = either_more a b unreached unreached h k

pub followed_count : (ts us : StmtTrees) → statements_count (followed ts us) ≡ statements_count ts + statements_count us
followed_count no_stmts us = omega arith
followed_count (more_stmts t rest) us = let k = followed_count rest us in omega (arith, k)

followed_loops : (ts us : StmtTrees) → all_loop_variables (followed ts us) ≡ all_loop_variables ts ++ all_loop_variables us
followed_loops no_stmts us = refl
followed_loops (more_stmts t rest) us = ap (λ (z : List (List ℕ)). loop_variables t ++ z) (followed_loops rest us) ∙ sym (append_assoc (loop_variables t) (all_loop_variables rest) (all_loop_variables us))

-- a number outside those of statements is that of no DO in them
abbrev pub IsOutside : ℕ → ℕ → ℕ → Type 0
IsOutside k n count = (i : ℕ) → i < count → (k == n + i) ≡ false

part_outside : (k n count start part i : ℕ) → start + part ≤ count → i ≡ n + start → IsOutside k n count → IsOutside k i part
part_outside k n count start part i h e p o less = let a : i + o ≡ n + (start + o) = omega (arith, e) in ap (λ (z : ℕ). k == z) a ∙ p (start + o) (omega (arith, h, less))

module _ (cs : List (List ℕ)) (w : List ℕ) where
  pub followed_sum : (ts us : StmtTrees) (n : ℕ) → summary_of_all cs w (followed ts us) n ≡ summary_in_turn (summary_of_all cs w ts n) (summary_of_all cs w us (n + statements_count ts))
  followed_sum no_stmts us n = let e : n ≡ n + 0 = omega arith in ap (summary_of_all cs w us) e
  followed_sum (more_stmts t rest) us n =
      let e : n + statement_count t + statements_count rest ≡ n + (statement_count t + statements_count rest) = omega arith in
      ap (summary_in_turn (summary_of cs w t n)) (followed_sum rest us (n + statement_count t) ∙ ap (λ (i : ℕ). summary_in_turn (summary_of_all cs w rest (n + statement_count t)) (summary_of_all cs w us i)) e)
      ∙ sym (in_turn-assoc (summary_of cs w t n) (summary_of_all cs w rest (n + statement_count t)) (summary_of_all cs w us (n + (statement_count t + statements_count rest))))

  pub followed_behind : (k : ℕ) (ts us : StmtTrees) (n : ℕ)
      → summary_behind_all cs w k (followed ts us) n ≡ summary_either (summary_in_turn (summary_behind_all cs w k ts n) (summary_of_all cs w us (n + statements_count ts))) (summary_behind_all cs w k us (n + statements_count ts))
  followed_behind k no_stmts us n = let e : n ≡ n + 0 = omega arith in ap (summary_behind_all cs w k us) e
  followed_behind k (more_stmts t rest) us n =
      let e : n + statement_count t + statements_count rest ≡ n + (statement_count t + statements_count rest) = omega arith in
      let i : ℕ = n + statement_count t in
      let j : ℕ = n + (statement_count t + statements_count rest) in
      let first : Summary = summary_in_turn (summary_behind cs w k t n) (summary_of_all cs w rest i) in
      let second : Summary = summary_behind_all cs w k rest i in
      let others : Summary = summary_of_all cs w us j in
      ap (summary_either (summary_in_turn (summary_behind cs w k t n) (summary_of_all cs w (followed rest us) i)))
      (followed_behind k rest us i ∙ ap (λ (z : ℕ). summary_either (summary_in_turn second (summary_of_all cs w us z)) (summary_behind_all cs w k us z)) e)
      ∙ ap (λ (z : Summary). summary_either (summary_in_turn (summary_behind cs w k t n) z) (summary_either (summary_in_turn second others) (summary_behind_all cs w k us j)))
      (followed_sum rest us i ∙ ap (λ (z : ℕ). summary_in_turn (summary_of_all cs w rest i) (summary_of_all cs w us z)) e)
      ∙ ap (λ (z : Summary). summary_either z (summary_either (summary_in_turn second others) (summary_behind_all cs w k us j))) (sym (in_turn-assoc (summary_behind cs w k t n) (summary_of_all cs w rest i) others))
      ∙ sym (either-assoc (summary_in_turn first others) (summary_in_turn second others) (summary_behind_all cs w k us j))
      ∙ ap (λ (z : Summary). summary_either z (summary_behind_all cs w k us j)) (sym (either-in_turn first second others))

  -- the rest of the trips of a DO and its exit, behind the exit of a DO in it
  pub loop_behind_more : (h g : Head) (body other : StmtTrees) (k n l m : ℕ) → (k == n) ≡ (l == m) → IsNoMore (summary_behind_all cs w k body (n + 1)) (summary_behind_all cs w l other (m + 1))
      → IsNoMore (summary_loop w n h body (summary_of_all cs w body (n + 1))) (summary_loop w m g other (summary_of_all cs w other (m + 1))) → IsNoMore (summary_behind cs w k (Do h body) n) (summary_behind cs w l (Do g other) m)
  loop_behind_more h g body other k n l m e inner around =
      let trips : Summary = summary_loop w n h body (summary_of_all cs w body (n + 1)) in
      let others : Summary = summary_loop w m g other (summary_of_all cs w other (m + 1)) in
      either_more (summary_at_once (k == n)) (summary_in_turn (summary_behind_all cs w k body (n + 1)) trips) (summary_at_once (l == m)) (summary_in_turn (summary_behind_all cs w l other (m + 1)) others)
      (at_once_more k n l m e) (in_turn_more (summary_behind_all cs w k body (n + 1)) trips (summary_behind_all cs w l other (m + 1)) others inner around)

  -- the rest of statements behind one of them
  pub rest_behind_more : (t u : StmtTree) (rest others : StmtTrees) (k n l m i j : ℕ) → IsNoMore (summary_behind cs w k t n) (summary_behind cs w l u m) → IsNoMore (summary_of_all cs w rest i) (summary_of_all cs w others j)
      → IsNoMore (summary_behind_all cs w k rest i) (summary_behind_all cs w l others j)
      → IsNoMore (summary_either (summary_in_turn (summary_behind cs w k t n) (summary_of_all cs w rest i)) (summary_behind_all cs w k rest i)) (summary_either (summary_in_turn (summary_behind cs w l u m) (summary_of_all cs w others j)) (summary_behind_all cs w l others j))
  rest_behind_more t u rest others k n l m i j first on behind =
      either_more (summary_in_turn (summary_behind cs w k t n) (summary_of_all cs w rest i)) (summary_behind_all cs w k rest i) (summary_in_turn (summary_behind cs w l u m) (summary_of_all cs w others j)) (summary_behind_all cs w l others j)
      (in_turn_more (summary_behind cs w k t n) (summary_of_all cs w rest i) (summary_behind cs w l u m) (summary_of_all cs w others j) first on) behind

  -- the same statements under other numbers
  mutual
    pub behind_placed : (t : StmtTree) (k n l m : ℕ) → IsPlaced k n l m (statement_count t) → IsNoMore (summary_behind cs w k t n) (summary_behind cs w l t m)
    behind_placed (Assign left right) k n l m p = no_more unreached
    behind_placed (If c a b) k n l m p =
        let count = statements_count a + statements_count b + 1 in
        either_more (summary_behind_all cs w k a (n + 1)) (summary_behind_all cs w k b (n + 1 + statements_count a)) (summary_behind_all cs w l a (m + 1)) (summary_behind_all cs w l b (m + 1 + statements_count a))
        (all_behind_placed a k (n + 1) l (m + 1) (part_placed k n l m count 1 (statements_count a) (n + 1) (m + 1) (omega arith) refl refl p))
        (all_behind_placed b k (n + 1 + statements_count a) l (m + 1 + statements_count a)
        (part_placed k n l m count (1 + statements_count a) (statements_count b) (n + 1 + statements_count a) (m + 1 + statements_count a) (omega arith) (omega arith) (omega arith) p))
    behind_placed (Do h body) k n l m p =
        loop_behind_more h h body body k n l m (first_placed k n l m (statements_count body + 1) (omega arith) p)
        (all_behind_placed body k (n + 1) l (m + 1) (part_placed k n l m (statements_count body + 1) 1 (statements_count body) (n + 1) (m + 1) (omega arith) refl refl p))
        (loop_more cs w h h body body n m (summary_of_all cs w body (n + 1)) (summary_of_all cs w body (m + 1)) (same_head_clears cs w h body body (λ e. e)) (any_numbers cs w body (n + 1) (m + 1)))
    behind_placed (Print items) k n l m p = no_more unreached
    behind_placed (Read items) k n l m p = no_more unreached
    behind_placed Stop k n l m p = no_more unreached
    behind_placed (Comment text) k n l m p = no_more unreached

    pub all_behind_placed : (ts : StmtTrees) (k n l m : ℕ) → IsPlaced k n l m (statements_count ts) → IsNoMore (summary_behind_all cs w k ts n) (summary_behind_all cs w l ts m)
    all_behind_placed no_stmts k n l m p = no_more unreached
    all_behind_placed (more_stmts t rest) k n l m p =
        let count = statement_count t + statements_count rest in
        let i : ℕ = n + statement_count t in
        let j : ℕ = m + statement_count t in
        rest_behind_more t t rest rest k n l m i j
        (behind_placed t k n l m (part_placed k n l m count 0 (statement_count t) n m (omega arith) (omega arith) (omega arith) p))
        (any_numbers cs w rest i j)
        (all_behind_placed rest k i l j (part_placed k n l m count (statement_count t) (statements_count rest) i j (omega arith) refl refl p))

  -- there are no paths from the exit of a DO that doesn't stand in statements
  mutual
    pub behind_none : (t : StmtTree) (k n : ℕ) → IsOutside k n (statement_count t) → IsNoMore (summary_behind cs w k t n) unreached
    behind_none (Assign left right) k n p = no_more unreached
    behind_none (If c a b) k n p =
        let count = statements_count a + statements_count b + 1 in
        either_none (summary_behind_all cs w k a (n + 1)) (summary_behind_all cs w k b (n + 1 + statements_count a))
        (all_behind_none a k (n + 1) (part_outside k n count 1 (statements_count a) (n + 1) (omega arith) refl p))
        (all_behind_none b k (n + 1 + statements_count a) (part_outside k n count (1 + statements_count a) (statements_count b) (n + 1 + statements_count a) (omega arith) (omega arith) p))
    behind_none (Do h body) k n p =
        let here : (k == n) ≡ false = (let a : n ≡ n + 0 = omega arith in ap (λ (z : ℕ). k == z) a ∙ p 0 (omega arith)) in
        either_none (summary_at_once (k == n)) (summary_in_turn (summary_behind_all cs w k body (n + 1)) (summary_loop w n h body (summary_of_all cs w body (n + 1))))
        (same_no_more (summary_at_once (k == n)) unreached (ap summary_at_once here))
        (in_turn_none (summary_behind_all cs w k body (n + 1)) (summary_loop w n h body (summary_of_all cs w body (n + 1)))
        (all_behind_none body k (n + 1) (part_outside k n (statements_count body + 1) 1 (statements_count body) (n + 1) (omega arith) refl p)))
    behind_none (Print items) k n p = no_more unreached
    behind_none (Read items) k n p = no_more unreached
    behind_none Stop k n p = no_more unreached
    behind_none (Comment text) k n p = no_more unreached

    pub all_behind_none : (ts : StmtTrees) (k n : ℕ) → IsOutside k n (statements_count ts) → IsNoMore (summary_behind_all cs w k ts n) unreached
    all_behind_none no_stmts k n p = no_more unreached
    all_behind_none (more_stmts t rest) k n p =
        let count = statement_count t + statements_count rest in
        either_none (summary_in_turn (summary_behind cs w k t n) (summary_of_all cs w rest (n + statement_count t))) (summary_behind_all cs w k rest (n + statement_count t))
        (in_turn_none (summary_behind cs w k t n) (summary_of_all cs w rest (n + statement_count t)) (behind_none t k n (part_outside k n count 0 (statement_count t) n (omega arith) (omega arith) p)))
        (all_behind_none rest k (n + statement_count t) (part_outside k n count (statement_count t) (statements_count rest) (n + statement_count t) (omega arith) refl p))

-- how many statements stand behind a gap
abbrev pub behind_gap : Gap → ℕ
behind_gap (at_front rest) = statements_count rest
behind_gap (past t gap) = behind_gap gap
behind_gap (in_then condition gap else_part rest) = behind_gap gap + statements_count else_part + statements_count rest
behind_gap (in_else condition then_part gap rest) = behind_gap gap + statements_count rest
behind_gap (in_body h gap rest) = behind_gap gap + statements_count rest

pub gap_count : (g : Gap) (n : ℕ) (ts : StmtTrees) → n + statements_count (filled g ts) ≡ number_at g n + statements_count ts + behind_gap g
gap_count (at_front rest) n ts = omega (arith, followed_count ts rest)
gap_count (past t g) n ts = let k = gap_count g (n + statement_count t) ts in omega (arith, k)
gap_count (in_then c g b rest) n ts = let k = gap_count g (n + 1) ts in omega (arith, k)
gap_count (in_else c a g rest) n ts = let k = gap_count g (n + 1 + statements_count a) ts in omega (arith, k)
gap_count (in_body h g rest) n ts = let k = gap_count g (n + 1) ts in omega (arith, k)

-- the gap comes behind where the statements begin
pub gap_from : (g : Gap) (n : ℕ) → n ≤ number_at g n
gap_from (at_front rest) n = omega arith
gap_from (past t g) n = let k = gap_from g (n + statement_count t) in omega (arith, k)
gap_from (in_then c g b rest) n = let k = gap_from g (n + 1) in omega (arith, k)
gap_from (in_else c a g rest) n = let k = gap_from g (n + 1 + statements_count a) in omega (arith, k)
gap_from (in_body h g rest) n = let k = gap_from g (n + 1) in omega (arith, k)

-- statements that leave no more of the scalar than others, and clear it wherever those do
pub record LeaveNoMore (cs : List (List ℕ)) (w : List ℕ) (new old : StmtTrees) : Type 0 where
  pub summed : (n m : ℕ) → IsNoMore (summary_of_all cs w new n) (summary_of_all cs w old m)
  pub loops : AreNoMore w (all_loop_variables old) (all_loop_variables new)

-- where the new statements' DO loops have the variable, so have the DO loops of statements with the gap
module _ (w : List ℕ) (new old : StmtTrees) (more : AreNoMore w (all_loop_variables old) (all_loop_variables new)) where
  pub gap_variables : (g : Gap) → AreNoMore w (all_loop_variables (filled g old)) (all_loop_variables (filled g new))
  gap_variables (at_front rest) = λ e.
      ap (is_among w) (followed_loops new rest)
      ∙ append_more w (all_loop_variables old) (all_loop_variables rest) (all_loop_variables new) (all_loop_variables rest) more (λ f. f) (sym (ap (is_among w) (followed_loops old rest)) ∙ e)
  gap_variables (past t g) = append_more w (loop_variables t) (all_loop_variables (filled g old)) (loop_variables t) (all_loop_variables (filled g new)) (λ e. e) (gap_variables g)
  gap_variables (in_then c g b rest) =
      append_more w (all_loop_variables (filled g old) ++ all_loop_variables b) (all_loop_variables rest) (all_loop_variables (filled g new) ++ all_loop_variables b) (all_loop_variables rest)
      (append_more w (all_loop_variables (filled g old)) (all_loop_variables b) (all_loop_variables (filled g new)) (all_loop_variables b) (gap_variables g) (λ e. e)) (λ e. e)
  gap_variables (in_else c a g rest) =
      append_more w (all_loop_variables a ++ all_loop_variables (filled g old)) (all_loop_variables rest) (all_loop_variables a ++ all_loop_variables (filled g new)) (all_loop_variables rest)
      (append_more w (all_loop_variables a) (all_loop_variables (filled g old)) (all_loop_variables a) (all_loop_variables (filled g new)) (λ e. e) (gap_variables g)) (λ e. e)
  gap_variables (in_body h g rest) =
      or_more (is_same_text w h.variable) (is_among w (all_loop_variables (filled g old) ++ all_loop_variables rest)) (is_same_text w h.variable) (is_among w (all_loop_variables (filled g new) ++ all_loop_variables rest)) (λ e. e)
      (append_more w (all_loop_variables (filled g old)) (all_loop_variables rest) (all_loop_variables (filled g new)) (all_loop_variables rest) (gap_variables g) (λ e. e))

module _ (cs : List (List ℕ)) (w : List ℕ) (new old : StmtTrees) (less : LeaveNoMore cs w new old) where
  gap_loops : (g : Gap) → AreNoMore w (all_loop_variables (filled g old)) (all_loop_variables (filled g new))
  gap_loops g = gap_variables w new old less.loops g

  -- programs that differ in a gap
  pub gap_sum : (g : Gap) (n m : ℕ) → IsNoMore (summary_of_all cs w (filled g new) n) (summary_of_all cs w (filled g old) m)
  gap_sum (at_front rest) n m =
      subst (λ (z : Summary). IsNoMore z (summary_of_all cs w (followed old rest) m)) (sym (followed_sum cs w new rest n))
      (subst (IsNoMore (summary_in_turn (summary_of_all cs w new n) (summary_of_all cs w rest (n + statements_count new)))) (sym (followed_sum cs w old rest m))
      (in_turn_more (summary_of_all cs w new n) (summary_of_all cs w rest (n + statements_count new)) (summary_of_all cs w old m) (summary_of_all cs w rest (m + statements_count old))
      (less.summed n m) (any_numbers cs w rest (n + statements_count new) (m + statements_count old))))
  gap_sum (past t g) n m =
      more_more cs w t t (filled g new) (filled g old) n m (n + statement_count t) (m + statement_count t) (any_number cs w t n m) (gap_sum g (n + statement_count t) (m + statement_count t))
  gap_sum (in_then c g b rest) n m =
      let t = If c (filled g new) b in
      let u = If c (filled g old) b in
      more_more cs w t u rest rest n m (n + statement_count t) (m + statement_count u)
      (if_more cs w (filled g new) b (filled g old) b t u n m (n + 1) (n + 1 + statements_count (filled g new)) (m + 1) (m + 1 + statements_count (filled g old)) (λ e. e)
      (gap_sum g (n + 1) (m + 1)) (any_numbers cs w b (n + 1 + statements_count (filled g new)) (m + 1 + statements_count (filled g old))))
      (any_numbers cs w rest (n + statement_count t) (m + statement_count u))
  gap_sum (in_else c a g rest) n m =
      let t = If c a (filled g new) in
      let u = If c a (filled g old) in
      more_more cs w t u rest rest n m (n + statement_count t) (m + statement_count u)
      (if_more cs w a (filled g new) a (filled g old) t u n m (n + 1) (n + 1 + statements_count a) (m + 1) (m + 1 + statements_count a) (λ e. e)
      (any_numbers cs w a (n + 1) (m + 1)) (gap_sum g (n + 1 + statements_count a) (m + 1 + statements_count a)))
      (any_numbers cs w rest (n + statement_count t) (m + statement_count u))
  gap_sum (in_body h g rest) n m =
      let t = Do h (filled g new) in
      let u = Do h (filled g old) in
      more_more cs w t u rest rest n m (n + statement_count t) (m + statement_count u)
      (do_more cs w h h (filled g new) (filled g old) n m (same_head_clears cs w h (filled g new) (filled g old) (gap_loops g)) (gap_sum g (n + 1) (m + 1)))
      (any_numbers cs w rest (n + statement_count t) (m + statement_count u))

  -- two numbers stand alike to what stands before and behind the gap, which has this number
  module _ (s k l : ℕ) (before : (i : ℕ) → i < s → (k == i) ≡ (l == i)) (behind : (i : ℕ) → (k == s + statements_count new + i) ≡ (l == s + statements_count old + i))
      (here : IsNoMore (summary_behind_all cs w k new s) (summary_behind_all cs w l old s)) where
    placed_before : (n count : ℕ) → n + count ≤ s → IsPlaced k n l n count
    placed_before n count h i e = before (n + i) (omega (arith, h, e))

    placed_behind : (n m count from : ℕ) → n ≡ s + statements_count new + from → m ≡ s + statements_count old + from → IsPlaced k n l m count
    placed_behind n m count from e f i h =
        let a : n + i ≡ s + statements_count new + (from + i) = omega (arith, e) in
        let b : m + i ≡ s + statements_count old + (from + i) = omega (arith, f) in
        ap (λ (z : ℕ). k == z) a ∙ behind (from + i) ∙ ap (λ (z : ℕ). l == z) (sym b)

    pub gap_behind : (g : Gap) (n : ℕ) → number_at g n ≡ s → IsNoMore (summary_behind_all cs w k (filled g new) n) (summary_behind_all cs w l (filled g old) n)
    gap_behind (at_front rest) n e =
        subst (λ (z : ℕ). IsNoMore (summary_behind_all cs w k (followed new rest) z) (summary_behind_all cs w l (followed old rest) z)) (sym e)
        (let i : ℕ = s + statements_count new in
        let j : ℕ = s + statements_count old in
        let first : Summary = summary_either (summary_in_turn (summary_behind_all cs w k new s) (summary_of_all cs w rest i)) (summary_behind_all cs w k rest i) in
        subst (λ (z : Summary). IsNoMore z (summary_behind_all cs w l (followed old rest) s)) (sym (followed_behind cs w k new rest s))
        (subst (IsNoMore first) (sym (followed_behind cs w l old rest s))
        (either_more (summary_in_turn (summary_behind_all cs w k new s) (summary_of_all cs w rest i)) (summary_behind_all cs w k rest i)
        (summary_in_turn (summary_behind_all cs w l old s) (summary_of_all cs w rest j)) (summary_behind_all cs w l rest j)
        (in_turn_more (summary_behind_all cs w k new s) (summary_of_all cs w rest i) (summary_behind_all cs w l old s) (summary_of_all cs w rest j) here (any_numbers cs w rest i j))
        (all_behind_placed cs w rest k i l j (placed_behind i j (statements_count rest) 0 (omega arith) (omega arith))))))
    gap_behind (past t g) n e =
        let from = gap_from g (n + statement_count t) in
        rest_behind_more cs w t t (filled g new) (filled g old) k n l n (n + statement_count t) (n + statement_count t)
        (behind_placed cs w t k n l n (placed_before n (statement_count t) (omega (arith, from, e))))
        (gap_sum g (n + statement_count t) (n + statement_count t)) (gap_behind g (n + statement_count t) e)
    gap_behind (in_then c g b rest) n e =
        let t = If c (filled g new) b in
        let u = If c (filled g old) b in
        let i : ℕ = n + 1 + statements_count (filled g new) in
        let j : ℕ = n + 1 + statements_count (filled g old) in
        let first = gap_count g (n + 1) new in
        let second = gap_count g (n + 1) old in
        rest_behind_more cs w t u rest rest k n l n (n + statement_count t) (n + statement_count u)
        (either_more (summary_behind_all cs w k (filled g new) (n + 1)) (summary_behind_all cs w k b i) (summary_behind_all cs w l (filled g old) (n + 1)) (summary_behind_all cs w l b j)
        (gap_behind g (n + 1) e)
        (all_behind_placed cs w b k i l j (placed_behind i j (statements_count b) (behind_gap g) (omega (arith, first, e)) (omega (arith, second, e)))))
        (any_numbers cs w rest (n + statement_count t) (n + statement_count u))
        (all_behind_placed cs w rest k (n + statement_count t) l (n + statement_count u)
        (placed_behind (n + statement_count t) (n + statement_count u) (statements_count rest) (behind_gap g + statements_count b) (omega (arith, first, e)) (omega (arith, second, e))))
    gap_behind (in_else c a g rest) n e =
        let t = If c a (filled g new) in
        let u = If c a (filled g old) in
        let i : ℕ = n + 1 + statements_count a in
        let first = gap_count g i new in
        let second = gap_count g i old in
        let from = gap_from g i in
        rest_behind_more cs w t u rest rest k n l n (n + statement_count t) (n + statement_count u)
        (either_more (summary_behind_all cs w k a (n + 1)) (summary_behind_all cs w k (filled g new) i) (summary_behind_all cs w l a (n + 1)) (summary_behind_all cs w l (filled g old) i)
        (all_behind_placed cs w a k (n + 1) l (n + 1) (placed_before (n + 1) (statements_count a) (omega (arith, from, e))))
        (gap_behind g i e))
        (any_numbers cs w rest (n + statement_count t) (n + statement_count u))
        (all_behind_placed cs w rest k (n + statement_count t) l (n + statement_count u)
        (placed_behind (n + statement_count t) (n + statement_count u) (statements_count rest) (behind_gap g) (omega (arith, first, e)) (omega (arith, second, e))))
    gap_behind (in_body h g rest) n e =
        let t = Do h (filled g new) in
        let u = Do h (filled g old) in
        let first = gap_count g (n + 1) new in
        let second = gap_count g (n + 1) old in
        let from = gap_from g (n + 1) in
        rest_behind_more cs w t u rest rest k n l n (n + statement_count t) (n + statement_count u)
        (loop_behind_more cs w h h (filled g new) (filled g old) k n l n (before n (omega (arith, from, e))) (gap_behind g (n + 1) e)
        (loop_more cs w h h (filled g new) (filled g old) n n (summary_of_all cs w (filled g new) (n + 1)) (summary_of_all cs w (filled g old) (n + 1)) (same_head_clears cs w h (filled g new) (filled g old) (gap_loops g)) (gap_sum g (n + 1) (n + 1))))
        (any_numbers cs w rest (n + statement_count t) (n + statement_count u))
        (all_behind_placed cs w rest k (n + statement_count t) l (n + statement_count u)
        (placed_behind (n + statement_count t) (n + statement_count u) (statements_count rest) (behind_gap g) (omega (arith, first, e)) (omega (arith, second, e))))

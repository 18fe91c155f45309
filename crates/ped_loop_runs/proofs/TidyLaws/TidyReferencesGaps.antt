-- The DO loops of statements with a gap, into which others have been put: those in which the gap is, and those which only have other numbers now.
use Rattle.std.proofs.Common.{◌≡◌, ℕ, zero, suc, ◌+◌, ◌-◌, ◌<◌, ◌≤◌, ◌==◌, List, ◌∷◌, ◌++◌, Bool, true, false, Some, None, refl, sym, ap, subst, ◌∙◌, inl, inr, arith, eqb-true, if◌then◌else◌}
use Rattle.ped_bodies.specs.ped_flow.specs.ped_tree.specs.Tree.{Head, StmtTree, StmtTrees, Assign, If, Do, Print, Read, Stop, Comment, no_stmts, more_stmts, ProgramTree}
use Rattle.ped_bodies.specs.ped_flow.specs.ped_tree.specs.Numbering.{numbered, all_numbered, at_place, statement_with, statement_count, statements_count}
use Rattle.ped_bodies.specs.ped_flow.specs.ped_tree.specs.Nests.{Loop}
use Rattle.ped_bodies.specs.ped_flow.specs.ped_tree.proofs.Numbers.{at_place-front, numbered-back, all_numbered-back}
use Rattle.ped_bodies.specs.ped_laws.specs.Acts.Orders.{IsIn}
use Rattle.ped_bodies.specs.ped_laws.proofs.ActLaws.Lists.{in_left, in_right}
use Rattle.ped_bodies.specs.ped_flow.specs.PlainBounds.{loops_round, all_loops_round}
use Rattle.ped_bodies.specs.ped_flow.specs.Questions.{LoopOf}
use Rattle.ped_bodies.specs.ped_steps.specs.Replacing.{followed}
use Rattle.ped_bodies.specs.ped_steps.specs.Runs.Gaps.{Gap, at_front, past, in_then, in_else, in_body, filled, number_at}
use Rattle.ped_bodies.specs.ped_steps.proofs.RunLaws.FilledGaps.{number_from, number_room, count_filled}
use Rattle.ped_bodies.specs.ped_steps.proofs.RunLaws.LoopsRound.{one_more}
use Rattle.ped_bodies.specs.ped_steps.proofs.RunLaws.ReplacedTrees.{in_if, in_more, itself, next_place, no_later}
use Rattle.ped_bodies.specs.ped_steps.proofs.RunLaws.RunCells.{EachDo, EachDos}

-- what holds of each DO in statements holds of each that stands there
module _ (P : ℕ → Head → StmtTrees → Type 0) (h : Head) (body : StmtTrees) where
  first_of : (s : StmtTree) (n m : ℕ) → m ≡ n → s ≡ Do h body → EachDo P s n → P m h body
  first_of s n m e q all = subst (λ (k : ℕ). P k h body) (sym e) (subst (λ (x : StmtTree). EachDo P x n) q all).0

  mutual
    pub one_at : (s : StmtTree) (n i m : ℕ) → m ≡ n + i → at_place (numbered s) i ≡ Some (Do h body) → EachDo P s n → P m h body
    one_at s n zero m e p all = first_of s n m (omega (arith, e)) (itself s (Do h body) p) all
    one_at (Assign left right) n (suc i) m e p all = no_later (Assign left right) i (Do h body) p
    one_at (If c a b) n (suc i) m e p all = elim (in_if a b (If c a b) i (Do h body) p) [
      | inl g ↦ all_at a (n + 1) i m (omega (arith, e)) g all.0
      | inr g ↦ (let f = g.1 in all_at b (n + 1 + statements_count a) g.0 m (omega (arith, e, f)) g.2 all.1)
    ]
    one_at (Do head inner) n (suc i) m e p all = all_at inner (n + 1) i m (omega (arith, e)) (next_place (Do head inner) (all_numbered inner) i (Do h body) p) all.1
    one_at (Print items) n (suc i) m e p all = no_later (Print items) i (Do h body) p
    one_at (Read items) n (suc i) m e p all = no_later (Read items) i (Do h body) p
    one_at Stop n (suc i) m e p all = no_later Stop i (Do h body) p
    one_at (Comment text) n (suc i) m e p all = absurd cc

    pub all_at : (ss : StmtTrees) (n i m : ℕ) → m ≡ n + i → at_place (all_numbered ss) i ≡ Some (Do h body) → EachDos P ss n → P m h body
    all_at no_stmts n i m e p all = absurd cc
    all_at (more_stmts s rest) n i m e p all = elim (in_more s rest i (Do h body) p) [
      | inl g ↦ one_at s n i m e g all.0
      | inr g ↦ (let f = g.1 in all_at rest (n + statement_count s) g.0 m (omega (arith, e, f)) g.2 all.1)
    ]

-- and of each DO of a program
pub each_of_program : (P : ℕ → Head → StmtTrees → Type 0) (t : ProgramTree) → EachDos P t.body 1 → (l : ℕ) (loop : LoopOf t l) → P l loop.head loop.body
each_of_program P t all l loop = by_number (l == 0) refl loop.is
  where
    by_number : (b : Bool) → (l == 0) ≡ b → (if b then None else at_place (all_numbered t.body) (l - 1)) ≡ Some (Do loop.head loop.body) → P l loop.head loop.body
    by_number true e h = absurd cc
    by_number false e h = let more : l ≡ 1 + (l - 1) = grind (arith, eqb-true, e) in all_at P loop.head loop.body t.body 1 (l - 1) l more h all

-- statements with numbers from low up to high, of which each counts by so much up and down now
module _ (P Q : ℕ → Head → StmtTrees → Type 0) (up down low high : ℕ) (moves : (k j : ℕ) (h : Head) (b : StmtTrees) → low ≤ k → k < high → j + down ≡ k + up → P k h b → Q j h b) where
  mutual
    pub one_goes : (s : StmtTree) (k j : ℕ) → low ≤ k → k + statement_count s ≤ high → j + down ≡ k + up → EachDo P s k → EachDo Q s j
    one_goes (Assign left right) k j from to e all = tt
    one_goes (If c a b) k j from to e all = (
      all_go a (k + 1) (j + 1) (omega (arith, from)) (omega (arith, to)) (omega (arith, e)) all.0,
      all_go b (k + 1 + statements_count a) (j + 1 + statements_count a) (omega (arith, from)) (omega (arith, to)) (omega (arith, e)) all.1,
    )
    one_goes (Do h b) k j from to e all = (moves k j h b from (omega (arith, to)) e all.0, all_go b (k + 1) (j + 1) (omega (arith, from)) (omega (arith, to)) (omega (arith, e)) all.1)
    one_goes (Print items) k j from to e all = tt
    one_goes (Read items) k j from to e all = tt
    one_goes Stop k j from to e all = tt
    one_goes (Comment text) k j from to e all = tt

    pub all_go : (ss : StmtTrees) (k j : ℕ) → low ≤ k → k + statements_count ss ≤ high → j + down ≡ k + up → EachDos P ss k → EachDos Q ss j
    all_go no_stmts k j from to e all = tt
    all_go (more_stmts s rest) k j from to e all = (
      one_goes s k j from (omega (arith, to)) e all.0,
      all_go rest (k + statement_count s) (j + statement_count s) (omega (arith, from)) (omega (arith, to)) (omega (arith, e)) all.1,
    )

-- the same where each is so much greater
pub all_move : (P Q : ℕ → Head → StmtTrees → Type 0) (shift low high : ℕ) (moves : (k j : ℕ) (h : Head) (b : StmtTrees) → low ≤ k → k < high → j ≡ k + shift → P k h b → Q j h b)
    (ss : StmtTrees) (k j : ℕ) → low ≤ k → k + statements_count ss ≤ high → j ≡ k + shift → EachDos P ss k → EachDos Q ss j
all_move P Q shift low high moves ss k j from to e = all_go P Q shift 0 low high (λ n m h b a c f. moves n m h b a c (omega (arith, f))) ss k j from to (omega (arith, e))

module _ (P : ℕ → Head → StmtTrees → Type 0) where
  -- the first of statements that follow each other, and the others
  pub of_first : (xs ys : StmtTrees) (n : ℕ) → EachDos P (followed xs ys) n → EachDos P xs n
  of_first no_stmts ys n all = tt
  of_first (more_stmts x xs) ys n all = (all.0, of_first xs ys (n + statement_count x) all.1)

  pub of_rest : (xs ys : StmtTrees) (n m : ℕ) → m ≡ n + statements_count xs → EachDos P (followed xs ys) n → EachDos P ys m
  of_rest no_stmts ys n m e all = subst (λ (k : ℕ). EachDos P ys k) (omega (arith, e)) all
  of_rest (more_stmts x xs) ys n m e all = of_rest xs ys (n + statement_count x) m (omega (arith, e)) all.1

  pub of_both : (xs ys : StmtTrees) (n m : ℕ) → m ≡ n + statements_count xs → EachDos P xs n → EachDos P ys m → EachDos P (followed xs ys) n
  of_both no_stmts ys n m e first rest = subst (λ (k : ℕ). EachDos P ys k) (omega (arith, e)) rest
  of_both (more_stmts x xs) ys n m e first rest = (first.0, of_both xs ys (n + statement_count x) m (omega (arith, e)) first.1 rest)

-- Statements with number l are exchanged for others, so that what stands behind them counts by so much up and down. The DO loops before them stay, and those behind them move; those round them are told by the gap.
module _ (P Q : ℕ → Head → StmtTrees → Type 0) (old new : StmtTrees) (up down l : ℕ) (nest : List Loop) (some : 0 < statements_count old) (more : statements_count new + down ≡ statements_count old + up)
    (stays : (k j : ℕ) (h : Head) (b : StmtTrees) → k < l → j ≡ k → P k h b → Q j h b) (moves : (k j : ℕ) (h : Head) (b : StmtTrees) → l + statements_count old ≤ k → j + down ≡ k + up → P k h b → Q j h b)
    (round : (n : ℕ) (h : Head) (gap : Gap) → n < l → IsIn (record { number = n; head = h }) nest → P n h (filled gap old) → Q n h (filled gap new)) (inside : EachDos P old l → EachDos Q new l) where
  abbrev Within : List Loop → Type 0
  Within loops = (m : Loop) → IsIn m loops → IsIn m nest

  -- what stands before the statements
  before_one : (s : StmtTree) (n : ℕ) → n + statement_count s ≤ l → EachDo P s n → EachDo Q s n
  before_one s n to all = one_goes P Q 0 0 0 l (λ k j h b from below e. stays k j h b below (omega (arith, e))) s n n (omega arith) to (omega arith) all

  before : (ss : StmtTrees) (n : ℕ) → n + statements_count ss ≤ l → EachDos P ss n → EachDos Q ss n
  before ss n to all = all_go P Q 0 0 0 l (λ k j h b from below e. stays k j h b below (omega (arith, e))) ss n n (omega arith) to (omega arith) all

  -- and behind them
  further : (rest : StmtTrees) (n m : ℕ) → l + statements_count old ≤ n → m + down ≡ n + up → EachDos P rest n → EachDos Q rest m
  further rest n m from e all = all_go P Q up down (l + statements_count old) (n + statements_count rest) (λ k j h b above below. moves k j h b above) rest n m from (omega arith) e all

  -- what stands behind a part with the gap, which begins at a number
  behind : (gap : Gap) (rest : StmtTrees) (start k n m : ℕ) → number_at gap start ≡ l → start ≤ k → n ≡ k + statements_count (filled gap old) → m ≡ k + statements_count (filled gap new) → EachDos P rest n → EachDos Q rest m
  behind gap rest start k n m at from e f all =
      let g = count_filled old new gap in
      let room = number_room gap old start in
      further rest n m (omega (arith, at, from, e, room)) (omega (arith, e, f, g, more)) all

  here : (gap : Gap) (h : Head) (n : ℕ) → number_at gap (n + 1) ≡ l → loops_round l (Do h (filled gap old)) n ≡ (record { number = n; head = h }) ∷ all_loops_round l (filled gap old) (n + 1)
  here gap h n e =
      let low = number_from gap (n + 1) in
      let high = number_room gap old (n + 1) in
      one_more l h (filled gap old) n (omega (arith, e, low)) (omega (arith, e, high, some))

  pub each_exchanged : (gap : Gap) (n : ℕ) → number_at gap n ≡ l → Within (all_loops_round l (filled gap old) n) → EachDos P (filled gap old) n → EachDos Q (filled gap new) n
  each_exchanged (at_front rest) n e within all =
      subst (λ (k : ℕ). EachDos Q (followed new rest) k) (sym e)
      (of_both Q new rest l (l + statements_count new) refl
      (inside (of_first P old rest l (subst (λ (k : ℕ). EachDos P (followed old rest) k) e all)))
      (further rest (l + statements_count old) (l + statements_count new) (omega arith) (omega (arith, more)) (of_rest P old rest n (l + statements_count old) (omega (arith, e)) all)))
  each_exchanged (past s gap) n e within all =
      let low = number_from gap (n + statement_count s) in (
        before_one s n (omega (arith, e, low)) all.0,
        each_exchanged gap (n + statement_count s) e (λ m i. within m (in_right m (loops_round l s n) (all_loops_round l (filled gap old) (n + statement_count s)) i)) all.1,
      )
  each_exchanged (in_then c gap b rest) n e within all = (
    (
      each_exchanged gap (n + 1) e
          (λ m i. within m (in_left m (loops_round l (If c (filled gap old) b) n) (all_loops_round l rest (n + statement_count (If c (filled gap old) b)))
          (in_left m (all_loops_round l (filled gap old) (n + 1)) (all_loops_round l b (n + 1 + statements_count (filled gap old))) i))) all.0.0,
      behind gap b (n + 1) (n + 1) (n + 1 + statements_count (filled gap old)) (n + 1 + statements_count (filled gap new)) e (omega arith) refl refl all.0.1,
    ),
    behind gap rest (n + 1) (n + 1 + statements_count b) (n + statement_count (If c (filled gap old) b)) (n + statement_count (If c (filled gap new) b)) e (omega arith) (omega arith) (omega arith) all.1,
  )
  each_exchanged (in_else c a gap rest) n e within all =
      let start : ℕ = n + 1 + statements_count a in
      let low = number_from gap start in (
        (
          before a (n + 1) (omega (arith, e, low)) all.0.0,
          each_exchanged gap start e
              (λ m i. within m (in_left m (loops_round l (If c a (filled gap old)) n) (all_loops_round l rest (n + statement_count (If c a (filled gap old))))
              (in_right m (all_loops_round l a (n + 1)) (all_loops_round l (filled gap old) start) i))) all.0.1,
        ),
        behind gap rest start start (n + statement_count (If c a (filled gap old))) (n + statement_count (If c a (filled gap new))) e (omega arith) (omega arith) (omega arith) all.1,
      )
  each_exchanged (in_body h gap rest) n e within all =
      let outer : Within (loops_round l (Do h (filled gap old)) n) = λ m i. within m (in_left m (loops_round l (Do h (filled gap old)) n) (all_loops_round l rest (n + statement_count (Do h (filled gap old)))) i) in
      let told : Within ((record { number = n; head = h }) ∷ all_loops_round l (filled gap old) (n + 1)) = subst Within (here gap h n e) outer in
      let low = number_from gap (n + 1) in (
        (round n h gap (omega (arith, e, low)) (told (record { number = n; head = h }) (inl refl)) all.0.0, each_exchanged gap (n + 1) e (λ m i. told m (inr i)) all.0.1),
        behind gap rest (n + 1) (n + 1) (n + statement_count (Do h (filled gap old))) (n + statement_count (Do h (filled gap new))) e (omega arith) (omega arith) (omega arith) all.1,
      )

-- the same where the others are so many more
module _ (P Q : ℕ → Head → StmtTrees → Type 0) (old new : StmtTrees) (shift l : ℕ) (nest : List Loop) (some : 0 < statements_count old) (more : statements_count new ≡ statements_count old + shift)
    (stays : (k j : ℕ) (h : Head) (b : StmtTrees) → k < l → j ≡ k + 0 → P k h b → Q j h b) (moves : (k j : ℕ) (h : Head) (b : StmtTrees) → l + statements_count old ≤ k → j ≡ k + shift → P k h b → Q j h b)
    (round : (n : ℕ) (h : Head) (gap : Gap) → n < l → IsIn (record { number = n; head = h }) nest → P n h (filled gap old) → Q n h (filled gap new)) (inside : EachDos P old l → EachDos Q new l) where
  pub exchanged_each : (gap : Gap) (n : ℕ) → number_at gap n ≡ l → ((m : Loop) → IsIn m (all_loops_round l (filled gap old) n) → IsIn m nest) → EachDos P (filled gap old) n → EachDos Q (filled gap new) n
  exchanged_each =
      each_exchanged P Q old new shift 0 l nest some (omega (arith, more)) (λ k j h b below e. stays k j h b below (omega (arith, e)))
      (λ k j h b above e. moves k j h b above (omega (arith, e))) round inside

-- the DO stands in the program under this number
abbrev pub Stands : ProgramTree → ℕ → Head → StmtTrees → Type 0
Stands t k h b = statement_with k t ≡ Some (Do h b)

module _ (t : ProgramTree) where
  -- the statements at these places are those with the numbers from n on
  abbrev Listed : ℕ → List StmtTree → Type 0
  Listed n xs = (i m : ℕ) (x : StmtTree) → m ≡ n + i → at_place xs i ≡ Some x → statement_with m t ≡ Some x

  inner : (s : StmtTree) (xs : List StmtTree) (n : ℕ) → Listed n (s ∷ xs) → Listed (n + 1) xs
  inner s xs n all i m x e p = all (suc i) m x (omega (arith, e)) (grind (arith, eqb-true, p))

  first_listed : (n : ℕ) (xs ys : List StmtTree) → Listed n (xs ++ ys) → Listed n xs
  first_listed n xs ys all i m x e p = all i m x e (at_place-front xs ys i x p)

  behind_listed : (n k : ℕ) (ss : StmtTrees) (ys : List StmtTree) → k ≡ n + statements_count ss → Listed n (all_numbered ss ++ ys) → Listed k ys
  behind_listed n k ss ys q all i m x e p = all (statements_count ss + i) m x (omega (arith, e, q)) (all_numbered-back ss ys (statements_count ss + i) i (omega arith) ∙ p)

  rest_listed : (n : ℕ) (s : StmtTree) (ys : List StmtTree) → Listed n (numbered s ++ ys) → Listed (n + statement_count s) ys
  rest_listed n s ys all i m x e p = all (statement_count s + i) m x (omega (arith, e)) (numbered-back s ys (statement_count s + i) i (omega arith) ∙ p)

  mutual
    one_stands : (s : StmtTree) (n : ℕ) → Listed n (numbered s) → EachDo (Stands t) s n
    one_stands (Assign left right) n all = tt
    one_stands (If c a b) n all =
        let parts = inner (If c a b) (all_numbered a ++ all_numbered b) n all in (
          all_stand a (n + 1) (first_listed (n + 1) (all_numbered a) (all_numbered b) parts),
          all_stand b (n + 1 + statements_count a) (behind_listed (n + 1) (n + 1 + statements_count a) a (all_numbered b) refl parts),
        )
    one_stands (Do h body) n all = (all 0 n (Do h body) (omega arith) refl, all_stand body (n + 1) (inner (Do h body) (all_numbered body) n all))
    one_stands (Print items) n all = tt
    one_stands (Read items) n all = tt
    one_stands Stop n all = tt
    one_stands (Comment text) n all = tt

    all_stand : (ss : StmtTrees) (n : ℕ) → Listed n (all_numbered ss) → EachDos (Stands t) ss n
    all_stand no_stmts n all = tt
    all_stand (more_stmts s rest) n all = (one_stands s n (first_listed n (numbered s) (all_numbered rest) all), all_stand rest (n + statement_count s) (rest_listed n s (all_numbered rest) all))

  -- each DO of a program stands there
  pub each_stands : EachDos (Stands t) t.body 1
  each_stands = all_stand t.body 1 (λ i m x e p. whole i m x e p)
    where
      whole : (i m : ℕ) (x : StmtTree) → m ≡ 1 + i → at_place (all_numbered t.body) i ≡ Some x → statement_with m t ≡ Some x
      whole i m x e p =
          let some : (m == 0) ≡ false = grind (arith, eqb-true, e) in
          let place : m - 1 ≡ i = omega (arith, e) in
          ap (λ (b : Bool). if b then None else at_place (all_numbered t.body) (m - 1)) some ∙ (ap (at_place (all_numbered t.body)) place ∙ p)

-- A program in which one statement has been exchanged for others fills the gap of the statement with them.
use Rattle.std.proofs.Common.{◌≡◌, ℕ, zero, suc, ◌+◌, ◌-◌, ◌≤◌, ◌<◌, ◌==◌, List, [], ◌∷◌, ◌++◌, length, Bool, true, false, Some, None, if◌then◌else◌, refl, sym, ap, subst, ◌∙◌, ◌⊎◌, inl, inr, arith, eqb-true}
use Rattle.ped_tree.specs.Tree.{CondTree, Head, StmtTree, StmtTrees, Assign, If, Do, Print, Read, Stop, Comment, no_stmts, more_stmts, ProgramTree}
use Rattle.ped_tree.specs.Numbering.{numbered, all_numbered, at_place, statement_with, statement_count, statements_count}
use Rattle.ped_tree.proofs.Numbers.{length-numbered, length-all_numbered, at_place-past, all_numbered-past}
use Rattle.ped_steps.specs.Replacing.{followed, alone, replaced, all_replaced, program_with}
use Rattle.ped_steps.specs.Runs.Gaps.{Gap, at_front, past, in_then, in_else, in_body, filled, number_at}

-- where a statement of two lists stands
pub in_either : (xs ys : List StmtTree) (count i : ℕ) (s : StmtTree) → count ≡ length xs → at_place (xs ++ ys) i ≡ Some s
    → (at_place xs i ≡ Some s) ⊎ ((k : ℕ) × (i ≡ count + k) × (at_place ys k ≡ Some s))
in_either [] ys count i s e h = inr (i, omega (arith, e), h)
in_either (x ∷ xs) ys count zero s e h = inl h
in_either (x ∷ xs) ys count (suc i) s e h = by (in_either xs ys (length xs) i s refl (next (xs ++ ys) h))
  where
    next : (zs : List StmtTree) → at_place (x ∷ zs) (suc i) ≡ Some s → at_place zs i ≡ Some s
    next zs g = grind (arith, eqb-true, g)

    by : (at_place xs i ≡ Some s) ⊎ ((k : ℕ) × (i ≡ length xs + k) × (at_place ys k ≡ Some s)) → (at_place (x ∷ xs) (suc i) ≡ Some s) ⊎ ((k : ℕ) × (suc i ≡ count + k) × (at_place ys k ≡ Some s))
    by (inl g) = inl (grind (arith, eqb-true, g))
    by (inr g) = inr (g.0, omega (arith, e, g.1), g.2)

pub next_place : (x : StmtTree) (zs : List StmtTree) (i : ℕ) (s : StmtTree) → at_place (x ∷ zs) (suc i) ≡ Some s → at_place zs i ≡ Some s
next_place x zs i s h = grind (arith, eqb-true, h)

pub no_later : {A : Type 0} (x : StmtTree) (i : ℕ) (s : StmtTree) → at_place (x ∷ []) (suc i) ≡ Some s → A
no_later x i s h = let g : at_place [] i ≡ Some s = next_place x [] i s h in absurd cc

pub in_if : (a b : StmtTrees) (x : StmtTree) (i : ℕ) (s : StmtTree) → at_place (x ∷ (all_numbered a ++ all_numbered b)) (suc i) ≡ Some s
    → (at_place (all_numbered a) i ≡ Some s) ⊎ ((k : ℕ) × (i ≡ statements_count a + k) × (at_place (all_numbered b) k ≡ Some s))
in_if a b x i s h = in_either (all_numbered a) (all_numbered b) (statements_count a) i s (sym (length-all_numbered a)) (next_place x (all_numbered a ++ all_numbered b) i s h)

pub in_more : (x : StmtTree) (rest : StmtTrees) (i : ℕ) (s : StmtTree) → at_place (numbered x ++ all_numbered rest) i ≡ Some s
    → (at_place (numbered x) i ≡ Some s) ⊎ ((k : ℕ) × (i ≡ statement_count x + k) × (at_place (all_numbered rest) k ≡ Some s))
in_more x rest i s h = in_either (numbered x) (all_numbered rest) (statement_count x) i s (sym (length-numbered x)) h

-- the first of the numbered statements is the statement itself
pub itself : (x s : StmtTree) → at_place (numbered x) 0 ≡ Some s → x ≡ s
itself (Assign left right) s h = cc
itself (If c a b) s h = cc
itself (Do h b) s k = cc
itself (Print items) s h = cc
itself (Read items) s h = cc
itself Stop s h = cc
itself (Comment text) s h = absurd cc

-- there are so many places
pub inside : (x : StmtTree) (i : ℕ) (s : StmtTree) → at_place (numbered x) i ≡ Some s → i < statement_count x
inside x i s h = let past = at_place-past (numbered x) i in let long = length-numbered x in grind (arith, past, long, h)

pub all_inside : (ts : StmtTrees) (i : ℕ) (s : StmtTree) → at_place (all_numbered ts) i ≡ Some s → i < statements_count ts
all_inside ts i s h = let past = all_numbered-past ts i in grind (arith, past, h)

-- the number l lies before these numbers or behind them
abbrev pub IsElsewhere : ℕ → ℕ → ℕ → Type 0
IsElsewhere l n count = (l < n) ⊎ (n + count ≤ l)

pub part_elsewhere : (l n count m part : ℕ) → n ≤ m → m + part ≤ n + count → IsElsewhere l n count → IsElsewhere l m part
part_elsewhere l n count m part h k (inl g) = inl (omega (arith, h, g))
part_elsewhere l n count m part h k (inr g) = inr (omega (arith, k, g))

module _ (by : StmtTree → StmtTrees) (l : ℕ) where
  not_here : (n count : ℕ) → 0 < count → IsElsewhere l n count → (n == l) ≡ false
  not_here n count h (inl g) = grind (arith, eqb-true, g)
  not_here n count h (inr g) = grind (arith, eqb-true, g, h)

  chosen : (b : Bool) (xs ys : StmtTrees) → b ≡ false → (if b then xs else ys) ≡ ys
  chosen true xs ys h = absurd cc
  chosen false xs ys h = refl

  taken : (b : Bool) (xs ys : StmtTrees) → b ≡ true → (if b then xs else ys) ≡ xs
  taken true xs ys h = refl
  taken false xs ys h = absurd cc

  -- statements that don't have the number stay
  mutual
    pub stays : (x : StmtTree) (n : ℕ) → IsElsewhere l n (statement_count x) → replaced by l x n ≡ alone x
    stays (Assign left right) n h = chosen (n == l) (by (Assign left right)) (alone (Assign left right)) (not_here n 1 (omega arith) h)
    stays (If c a b) n h =
        let count = statements_count a + statements_count b + 1 in
        let first = all_stay a (n + 1) (part_elsewhere l n count (n + 1) (statements_count a) (omega arith) (omega arith) h) in
        let second = all_stay b (n + 1 + statements_count a) (part_elsewhere l n count (n + 1 + statements_count a) (statements_count b) (omega arith) (omega arith) h) in
        chosen (n == l) (by (If c a b)) (alone (If c (all_replaced by l a (n + 1)) (all_replaced by l b (n + 1 + statements_count a)))) (not_here n count (omega arith) h)
        ∙ (λ i. alone (If c (first i) (second i)))
    stays (Do h b) n k =
        let count = statements_count b + 1 in
        let body = all_stay b (n + 1) (part_elsewhere l n count (n + 1) (statements_count b) (omega arith) (omega arith) k) in
        chosen (n == l) (by (Do h b)) (alone (Do h (all_replaced by l b (n + 1)))) (not_here n count (omega arith) k) ∙ (λ i. alone (Do h (body i)))
    stays (Print items) n h = chosen (n == l) (by (Print items)) (alone (Print items)) (not_here n 1 (omega arith) h)
    stays (Read items) n h = chosen (n == l) (by (Read items)) (alone (Read items)) (not_here n 1 (omega arith) h)
    stays Stop n h = chosen (n == l) (by Stop) (alone Stop) (not_here n 1 (omega arith) h)
    stays (Comment text) n h = refl

    pub all_stay : (ts : StmtTrees) (n : ℕ) → IsElsewhere l n (statements_count ts) → all_replaced by l ts n ≡ ts
    all_stay no_stmts n h = refl
    all_stay (more_stmts x rest) n h =
        let count = statement_count x + statements_count rest in
        let first = stays x n (part_elsewhere l n count n (statement_count x) (omega arith) (omega arith) h) in
        let second = all_stay rest (n + statement_count x) (part_elsewhere l n count (n + statement_count x) (statements_count rest) (omega arith) (omega arith) h) in
        λ i. followed (first i) (second i)

  -- the statement with the number goes
  pub goes : (x s : StmtTree) (n : ℕ) → l ≡ n → at_place (numbered x) 0 ≡ Some s → replaced by l x n ≡ by s
  goes x s n e h = at x n e h ∙ ap by (itself x s h)
    where
      here : (n : ℕ) → l ≡ n → (n == l) ≡ true
      here n e = grind (arith, eqb-true, e)

      at : (x : StmtTree) (n : ℕ) → l ≡ n → at_place (numbered x) 0 ≡ Some s → replaced by l x n ≡ by x
      at (Assign left right) n e h = taken (n == l) (by (Assign left right)) (alone (Assign left right)) (here n e)
      at (If c a b) n e h = taken (n == l) (by (If c a b)) (alone (If c (all_replaced by l a (n + 1)) (all_replaced by l b (n + 1 + statements_count a)))) (here n e)
      at (Do h b) n e k = taken (n == l) (by (Do h b)) (alone (Do h (all_replaced by l b (n + 1)))) (here n e)
      at (Print items) n e h = taken (n == l) (by (Print items)) (alone (Print items)) (here n e)
      at (Read items) n e h = taken (n == l) (by (Read items)) (alone (Read items)) (here n e)
      at Stop n e h = taken (n == l) (by Stop) (alone Stop) (here n e)
      at (Comment text) n e h = absurd cc

  -- a statement round it stays with other parts
  not_itself : (n i : ℕ) → l ≡ n + suc i → (n == l) ≡ false
  not_itself n i e = grind (arith, eqb-true, e)

  pub if_stays : (c : CondTree) (a b : StmtTrees) (n i : ℕ) → l ≡ n + suc i → replaced by l (If c a b) n ≡ alone (If c (all_replaced by l a (n + 1)) (all_replaced by l b (n + 1 + statements_count a)))
  if_stays c a b n i e = chosen (n == l) (by (If c a b)) (alone (If c (all_replaced by l a (n + 1)) (all_replaced by l b (n + 1 + statements_count a)))) (not_itself n i e)

  pub do_stays : (h : Head) (b : StmtTrees) (n i : ℕ) → l ≡ n + suc i → replaced by l (Do h b) n ≡ alone (Do h (all_replaced by l b (n + 1)))
  do_stays h b n i e = chosen (n == l) (by (Do h b)) (alone (Do h (all_replaced by l b (n + 1)))) (not_itself n i e)

  -- what stands behind a part that has it, or before one, stays
  pub else_stays : (a b : StmtTrees) (n i : ℕ) (s : StmtTree) → l ≡ n + suc i → at_place (all_numbered a) i ≡ Some s → all_replaced by l b (n + 1 + statements_count a) ≡ b
  else_stays a b n i s e h = let r = all_inside a i s h in all_stay b (n + 1 + statements_count a) (inl (omega (arith, e, r)))

  pub then_stays : (a : StmtTrees) (n i k : ℕ) → l ≡ n + suc i → i ≡ statements_count a + k → all_replaced by l a (n + 1) ≡ a
  then_stays a n i k e f = all_stay a (n + 1) (inr (omega (arith, e, f)))

  pub rest_stays : (x : StmtTree) (rest : StmtTrees) (n i : ℕ) (s : StmtTree) → l ≡ n + i → at_place (numbered x) i ≡ Some s → all_replaced by l rest (n + statement_count x) ≡ rest
  rest_stays x rest n i s e h = let r = inside x i s h in all_stay rest (n + statement_count x) (inl (omega (arith, e, r)))

  pub first_stays : (x : StmtTree) (n i k : ℕ) → l ≡ n + i → i ≡ statement_count x + k → replaced by l x n ≡ alone x
  first_stays x n i k e f = stays x n (inr (omega (arith, e, f)))

  -- the gap of a statement
  module _ (s : StmtTree) where
    pub record HasGap (n : ℕ) (old new : StmtTrees) : Type 0 where
      pub gap : Gap
      pub number : number_at gap n ≡ l
      pub old_is : old ≡ filled gap (alone s)
      pub new_is : new ≡ filled gap (by s)
      pub some : 0 < statement_count s

    counts : (x : StmtTree) → at_place (numbered x) 0 ≡ Some s → 0 < statement_count x
    counts (Assign left right) h = omega arith
    counts (If c a b) h = omega arith
    counts (Do h b) k = omega arith
    counts (Print items) h = omega arith
    counts (Read items) h = omega arith
    counts Stop h = omega arith
    counts (Comment text) h = absurd cc

    past_gap : (x : StmtTree) (n : ℕ) (old new : StmtTrees) → HasGap (n + statement_count x) old new → HasGap n (more_stmts x old) (more_stmts x new)
    past_gap x n old new g = record { gap = past x g.gap; number = g.number; old_is = ap (more_stmts x) g.old_is; new_is = ap (more_stmts x) g.new_is; some = g.some }

    mutual
      one_gap : (x : StmtTree) (rest : StmtTrees) (n i : ℕ) → l ≡ n + i → at_place (numbered x) i ≡ Some s → HasGap n (more_stmts x rest) (followed (replaced by l x n) rest)
      one_gap x rest n zero e h = record {
        gap = at_front rest;
        number = omega (arith, e);
        old_is = ap (λ (y : StmtTree). more_stmts y rest) (itself x s h);
        new_is = ap (λ (ts : StmtTrees). followed ts rest) (goes x s n (omega (arith, e)) h);
        some = subst (λ (y : StmtTree). 0 < statement_count y) (itself x s h) (counts x h);
      }
      one_gap (Assign left right) rest n (suc i) e h = no_later (Assign left right) i s h
      one_gap (If c a b) rest n (suc i) e h = elim (in_if a b (If c a b) i s h) [
        | inl g ↦ (
            let r = all_gap a (n + 1) i (omega (arith, e)) g in
            record {
              gap = in_then c r.gap b rest;
              number = r.number;
              old_is = ap (λ (ts : StmtTrees). more_stmts (If c ts b) rest) r.old_is;
              new_is = ap (λ (ts : StmtTrees). followed ts rest) (if_stays c a b n i e) ∙ (λ j. more_stmts (If c (r.new_is j) (else_stays a b n i s e g j)) rest);
              some = r.some;
            }
            )
        | inr g ↦ (
            let r = all_gap b (n + 1 + statements_count a) g.0 (omega (arith, e, g.1)) g.2 in
            record {
              gap = in_else c a r.gap rest;
              number = r.number;
              old_is = ap (λ (ts : StmtTrees). more_stmts (If c a ts) rest) r.old_is;
              new_is = ap (λ (ts : StmtTrees). followed ts rest) (if_stays c a b n i e) ∙ (λ j. more_stmts (If c (then_stays a n i g.0 e g.1 j) (r.new_is j)) rest);
              some = r.some;
            }
            )
      ]
      one_gap (Do h b) rest n (suc i) e k =
          let r = all_gap b (n + 1) i (omega (arith, e)) (next_place (Do h b) (all_numbered b) i s k) in
          record {
            gap = in_body h r.gap rest;
            number = r.number;
            old_is = ap (λ (ts : StmtTrees). more_stmts (Do h ts) rest) r.old_is;
            new_is = ap (λ (ts : StmtTrees). followed ts rest) (do_stays h b n i e) ∙ ap (λ (ts : StmtTrees). more_stmts (Do h ts) rest) r.new_is;
            some = r.some;
          }
      one_gap (Print items) rest n (suc i) e h = no_later (Print items) i s h
      one_gap (Read items) rest n (suc i) e h = no_later (Read items) i s h
      one_gap Stop rest n (suc i) e h = no_later Stop i s h
      one_gap (Comment text) rest n (suc i) e h = absurd cc

      all_gap : (ts : StmtTrees) (n i : ℕ) → l ≡ n + i → at_place (all_numbered ts) i ≡ Some s → HasGap n ts (all_replaced by l ts n)
      all_gap no_stmts n i e h = absurd cc
      all_gap (more_stmts x rest) n i e h = elim (in_more x rest i s h) [
        | inl g ↦ subst (λ (ts : StmtTrees). HasGap n (more_stmts x rest) (followed (replaced by l x n) ts)) (sym (rest_stays x rest n i s e g)) (one_gap x rest n i e g)
        | inr g ↦ subst (λ (ts : StmtTrees). HasGap n (more_stmts x rest) (followed ts (all_replaced by l rest (n + statement_count x)))) (sym (first_stays x n i g.0 e g.1))
            (past_gap x n rest (all_replaced by l rest (n + statement_count x)) (all_gap rest (n + statement_count x) g.0 (omega (arith, e, g.1)) g.2))
      ]

    pub program_gap : (t : ProgramTree) → statement_with l t ≡ Some s → HasGap 1 t.body (program_with by l t).body
    program_gap t found = by_number (l == 0) refl found
      where
        by_number : (b : Bool) → (l == 0) ≡ b → (if b then None else at_place (all_numbered t.body) (l - 1)) ≡ Some s → HasGap 1 t.body (all_replaced by l t.body 1)
        by_number true e h = absurd cc
        by_number false e h = let more : l ≡ 1 + (l - 1) = grind (arith, eqb-true, e) in all_gap t.body 1 (l - 1) more h

-- The outermost DO that is a DO or is round it is a DO of the program.
use Rattle.std.proofs.Common.{◌≡◌, ℕ, ◌+◌, ◌-◌, ◌==◌, Bool, true, false, ◌&&◌, List, [], ◌∷◌, ◌++◌, length, Some, None, refl, ap, ◌∙◌, subst, arith, eqb-true, nat_le, if◌then◌else◌}
use Rattle.std.specs.Prelude.{nat_lt}
use Rattle.ped_tree.specs.Tree.{Head, StmtTree, StmtTrees, Assign, If, Do, Print, Read, Stop, Comment, no_stmts, more_stmts, ProgramTree}
use Rattle.ped_tree.specs.Nests.{Loop}
use Rattle.ped_tree.specs.Numbering.{numbered, all_numbered, at_place, statement_count, statements_count}
use Rattle.ped_tree.proofs.Numbers.{at_place-front, at_place-back, length-numbered, length-all_numbered}
use Rattle.ped_loop_runs.specs.ped_flow.specs.PlainBounds.{loops_round, all_loops_round, nest_round, outermost_or}
use Rattle.ped_loop_runs.specs.ped_flow.specs.Questions.{LoopOf}

-- the loop is a DO among these statements, of which the first has number n
pub record IsAt (xs : List StmtTree) (n : ℕ) (m : Loop) : Type 0 where
  pub place : ℕ
  pub body : StmtTrees
  pub number : m.number ≡ n + place
  pub there : at_place xs place ≡ Some (Do m.head body)

in_front : (xs ys : List StmtTree) (n : ℕ) (m : Loop) → IsAt xs n m → IsAt (xs ++ ys) n m
in_front xs ys n m at = record { place = at.place; body = at.body; number = at.number; there = at_place-front xs ys at.place (Do m.head at.body) at.there }

behind : (xs ys : List StmtTree) (n k : ℕ) (m : Loop) → length xs ≡ k → IsAt ys (n + k) m → IsAt (xs ++ ys) n m
behind xs ys n k m long at = record {
  place = at.place + k;
  body = at.body;
  number = let e = at.number in omega (arith, e);
  there = at_place-back xs ys (at.place + k) at.place (ap (λ (j : ℕ). at.place + j) long) ∙ at.there;
}

next_place : (x : StmtTree) (xs : List StmtTree) (k : ℕ) → at_place (x ∷ xs) (k + 1) ≡ at_place xs k
next_place x xs k = grind (arith, eqb-true)

one_further : (x : StmtTree) (xs : List StmtTree) (n : ℕ) (m : Loop) → IsAt xs (n + 1) m → IsAt (x ∷ xs) n m
one_further x xs n m at = record {
  place = at.place + 1;
  body = at.body;
  number = let e = at.number in omega (arith, e);
  there = next_place x xs at.place ∙ at.there;
}

first_is : (x y : Loop) (xs ys : List Loop) → x ∷ xs ≡ y ∷ ys → x ≡ y
first_is x y xs ys e = cc

none_first : (y : Loop) (ys : List Loop) → ◌≡◌ {A = List Loop} [] (y ∷ ys) → ⊥
none_first y ys e = cc

module _ (l : ℕ) where
  -- the first of two lists, one behind the other
  either_first : {A : Type 0} (xs ys zs : List Loop) (m : Loop) (ms : List Loop) → xs ≡ zs → zs ++ ys ≡ m ∷ ms → ((ms : List Loop) → xs ≡ m ∷ ms → A) → (ys ≡ m ∷ ms → A) → A
  either_first xs ys [] m ms same e first second = second e
  either_first xs ys (z ∷ zs) m ms same e first second = first zs (subst (λ (y : Loop). xs ≡ y ∷ zs) (first_is z m (zs ++ ys) ms e) same)

  own_first : (b : Bool) (n : ℕ) (h : Head) (body : StmtTrees) (inner : List Loop) (m : Loop) (ms : List Loop) → (if b then (record { number = n; head = h }) ∷ inner else []) ≡ m ∷ ms → IsAt (Do h body ∷ all_numbered body) n m
  own_first true n h body inner m ms e =
      subst (λ (k : Loop). IsAt (Do h body ∷ all_numbered body) n k) (first_is (record { number = n; head = h }) m inner ms e)
      (record { place = 0; body = body; number = omega arith; there = refl })
  own_first false n h body inner m ms e = absurd (none_first m ms e)

  mutual
    pub first_there : (x : StmtTree) (n : ℕ) (m : Loop) (ms : List Loop) → loops_round l x n ≡ m ∷ ms → IsAt (numbered x) n m
    first_there (Assign left right) n m ms e = absurd (none_first m ms e)
    first_there (If c a b) n m ms e =
        one_further (If c a b) (all_numbered a ++ all_numbered b) n m
        (either_first (all_loops_round l a (n + 1)) (all_loops_round l b (n + 1 + statements_count a)) (all_loops_round l a (n + 1)) m ms refl e
        (λ rest f. in_front (all_numbered a) (all_numbered b) (n + 1) m (all_first_there a (n + 1) m rest f))
        (λ f. behind (all_numbered a) (all_numbered b) (n + 1) (statements_count a) m (length-all_numbered a) (all_first_there b (n + 1 + statements_count a) m ms f)))
    first_there (Do h body) n m ms e = own_first (nat_lt n l && nat_le l (n + statements_count body)) n h body (all_loops_round l body (n + 1)) m ms e
    first_there (Print items) n m ms e = absurd (none_first m ms e)
    first_there (Read items) n m ms e = absurd (none_first m ms e)
    first_there Stop n m ms e = absurd (none_first m ms e)
    first_there (Comment text) n m ms e = absurd (none_first m ms e)

    pub all_first_there : (ss : StmtTrees) (n : ℕ) (m : Loop) (ms : List Loop) → all_loops_round l ss n ≡ m ∷ ms → IsAt (all_numbered ss) n m
    all_first_there no_stmts n m ms e = absurd (none_first m ms e)
    all_first_there (more_stmts x rest) n m ms e =
        either_first (loops_round l x n) (all_loops_round l rest (n + statement_count x)) (loops_round l x n) m ms refl e
        (λ others f. in_front (numbered x) (all_numbered rest) n m (first_there x n m others f))
        (λ f. behind (numbered x) (all_numbered rest) n (statement_count x) m (length-numbered x) (all_first_there rest (n + statement_count x) m ms f))

-- the statement with its number
there_in_program : (t : ProgramTree) (m : Loop) → IsAt (all_numbered t.body) 1 m → LoopOf t m.number
there_in_program t m at = record { head = m.head; body = at.body; is = by m.number at.place at.number at.there }
  where
    by : (n k : ℕ) → n ≡ 1 + k → at_place (all_numbered t.body) k ≡ Some (Do m.head at.body) → (if n == 0 then None else at_place (all_numbered t.body) (n - 1)) ≡ Some (Do m.head at.body)
    by n k e f = grind (arith, eqb-true)

pub outermost_loop : (t : ProgramTree) (s : ℕ) → LoopOf t s → LoopOf t (outermost_or s (nest_round t s))
outermost_loop t s l = by (nest_round t s) refl
  where
    by : (nest : List Loop) → nest_round t s ≡ nest → LoopOf t (outermost_or s nest)
    by [] e = l
    by (m ∷ ms) e = there_in_program t m (all_first_there s t.body 1 m ms e)

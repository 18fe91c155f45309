-- A new program depends on what replaces the one statement with a number, and on nothing else of how statements are replaced.
use Rattle.std.proofs.Common.{◌≡◌, ℕ, ◌+◌, ◌-◌, ◌==◌, Bool, true, false, List, [], ◌∷◌, ◌++◌, length, Some, None, refl, ap, ap₂, ◌∙◌, arith, eqb-true, if◌then◌else◌}
use Rattle.ped_tree.specs.Tree.{StmtTree, StmtTrees, Assign, If, Do, Print, Read, Stop, Comment, no_stmts, more_stmts, ProgramTree}
use Rattle.ped_tree.specs.Numbering.{numbered, all_numbered, at_place, statement_with, statement_count, statements_count}
use Rattle.ped_tree.proofs.Numbers.{at_place-front, at_place-back, length-numbered, length-all_numbered}
use Rattle.ped_steps.specs.Replacing.{followed, alone, replaced, all_replaced, program_with}

-- the same choice where the same is chosen
one_choice : (n m : ℕ) (a b c d : StmtTrees) → (n ≡ m → a ≡ b) → c ≡ d → (if n == m then a else c) ≡ (if n == m then b else d)
one_choice n m a b c d h k = by (n == m) refl
  where
    by : (r : Bool) → (n == m) ≡ r → (if r then a else c) ≡ (if r then b else d)
    by true e = h (eqb-true n m e)
    by false e = k

at_behind : (s : StmtTree) (rest : List StmtTree) (k : ℕ) → at_place (s ∷ rest) (k + 1) ≡ at_place rest k
at_behind s rest k = grind (arith, eqb-true)

module _ (by other : StmtTree → StmtTrees) (sought : ℕ) where
  -- both agree on the statement with the sought number among these, of which the first has number n
  abbrev Agree : List StmtTree → ℕ → Type 0
  Agree xs n = (k : ℕ) (g : StmtTree) → k + n ≡ sought → at_place xs k ≡ Some g → by g ≡ other g

  here : (s : StmtTree) (rest : List StmtTree) (n : ℕ) → Agree (s ∷ rest) n → n ≡ sought → by s ≡ other s
  here s rest n h e = h 0 s (omega (arith, e)) refl

  behind : (s : StmtTree) (rest : List StmtTree) (n : ℕ) → Agree (s ∷ rest) n → Agree rest (n + 1)
  behind s rest n h k g e f = h (k + 1) g (omega (arith, e)) (at_behind s rest k ∙ f)

  front : (xs ys : List StmtTree) (n : ℕ) → Agree (xs ++ ys) n → Agree xs n
  front xs ys n h k g e f = h k g e (at_place-front xs ys k g f)

  back : (xs ys : List StmtTree) (n m : ℕ) → length xs ≡ m → Agree (xs ++ ys) n → Agree ys (n + m)
  back xs ys n m l h k g e f = h (k + m) g (omega (arith, e)) (at_place-back xs ys (k + m) k (ap (λ (j : ℕ). k + j) l) ∙ f)

  mutual
    one_statement : (s : StmtTree) (n : ℕ) → Agree (numbered s) n → replaced by sought s n ≡ replaced other sought s n
    one_statement (Assign left right) n h = one_choice n sought _ _ _ _ (here (Assign left right) [] n h) refl
    one_statement (If c a b) n h =
        let inner = behind (If c a b) (all_numbered a ++ all_numbered b) n h in
        let first = one_statements a (n + 1) (front (all_numbered a) (all_numbered b) (n + 1) inner) in
        let second = one_statements b (n + 1 + statements_count a) (back (all_numbered a) (all_numbered b) (n + 1) (statements_count a) (length-all_numbered a) inner) in
        one_choice n sought _ _ _ _ (here (If c a b) (all_numbered a ++ all_numbered b) n h) (ap₂ (λ (p q : StmtTrees). alone (If c p q)) first second)
    one_statement (Do head body) n h =
        let inner = one_statements body (n + 1) (behind (Do head body) (all_numbered body) n h) in
        one_choice n sought _ _ _ _ (here (Do head body) (all_numbered body) n h) (ap (λ (p : StmtTrees). alone (Do head p)) inner)
    one_statement (Print items) n h = one_choice n sought _ _ _ _ (here (Print items) [] n h) refl
    one_statement (Read items) n h = one_choice n sought _ _ _ _ (here (Read items) [] n h) refl
    one_statement Stop n h = one_choice n sought _ _ _ _ (here Stop [] n h) refl
    one_statement (Comment text) n h = refl

    one_statements : (ss : StmtTrees) (n : ℕ) → Agree (all_numbered ss) n → all_replaced by sought ss n ≡ all_replaced other sought ss n
    one_statements no_stmts n h = refl
    one_statements (more_stmts s rest) n h =
        ap₂ followed (one_statement s n (front (numbered s) (all_numbered rest) n h)) (one_statements rest (n + statement_count s) (back (numbered s) (all_numbered rest) n (statement_count s) (length-numbered s) h))

  number_of_place : (t : ProgramTree) → ((g : StmtTree) → statement_with sought t ≡ Some g → by g ≡ other g) → Agree (all_numbered t.body) 1
  number_of_place t h k g e f = h g (found (all_numbered t.body) k sought g e f)
    where
      found : (xs : List StmtTree) (k n : ℕ) (g : StmtTree) → k + 1 ≡ n → at_place xs k ≡ Some g → (if n == 0 then None else at_place xs (n - 1)) ≡ Some g
      found xs k n g e f = grind (arith, eqb-true)

  -- both make one program where they agree on the statement with the number
  pub one_program : (t : ProgramTree) → ((g : StmtTree) → statement_with sought t ≡ Some g → by g ≡ other g) → program_with by sought t ≡ program_with other sought t
  one_program t h = ap (λ (body : StmtTrees). record { decls = t.decls; body = body }) (one_statements t.body 1 (number_of_place t h))

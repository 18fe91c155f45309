-- A piece of a run depends on the numbers of its own statements alone.
use Rattle.std.proofs.Common.{◌≡◌, ℕ, ◌+◌, ◌<◌, ◌≤◌, ◌∷◌, refl, ap, ◌∙◌, arith}
use Rattle.ped_flow.specs.ped_tree.specs.Tree.{Head, StmtTree, StmtTrees, Assign, If, Do, Print, Read, Stop, Comment, no_stmts, more_stmts}
use Rattle.ped_flow.specs.ped_tree.specs.Numbering.{statement_count, statements_count}
use Rattle.ped_eval.specs.ped_store.specs.Stores.{Store}
use Rattle.ped_eval.specs.Scopes.{Setting, Frame, Scope, turns_of, names_in, place_of}
use Rattle.ped_eval.specs.Runs.{Run, then_run, run_assignment, run_print, run_read, run_stop, run_if, run_do, run, run_all}

module _ (p q : Setting) (bounds : p.bounds ≡ q.bounds) (constants : p.constants ≡ q.constants) where
  -- statements from two numbers on count under the same numbers
  abbrev SameFrom : ℕ → ℕ → ℕ → Type 0
  SameFrom count n m = (k : ℕ) → k < count → p.number (n + k) ≡ q.number (m + k)

  first_same : (count n m : ℕ) → 0 < count → SameFrom count n m → p.number n ≡ q.number m
  first_same count n m h same = ap p.number (omega arith) ∙ same 0 h ∙ ap q.number (omega arith)

  part_same : (count n m part j start other : ℕ) → start ≡ n + j → other ≡ m + j → j + part ≤ count → SameFrom count n m → SameFrom part start other
  part_same count n m part j start other e f h same k l = ap p.number (omega (arith, e)) ∙ same (j + k) (omega (arith, h, l)) ∙ ap q.number (omega (arith, f))

  module _ (scope : Scope) where
    names_same : names_in p scope ≡ names_in q scope
    names_same i = record { bounds = bounds i; constants = constants i; cell = (names_in p scope).cell; index = (names_in p scope).index }

    place_same : (n m : ℕ) → p.number n ≡ q.number m → place_of p n scope ≡ place_of q m scope
    place_same n m e i = record { statement = e i; turns = turns_of scope }

    do_same : (n m : ℕ) (h : Head) (statements : StmtTrees) (body other : Frame → Store → Run) → p.number n ≡ q.number m → body ≡ other → run_do p n scope h statements body ≡ run_do q m scope h statements other
    do_same n m h statements body other e b i s = run_do (record { bounds = bounds i; constants = constants i; number = λ k. e i }) 0 scope h statements (b i) s

  mutual
    pub run_same : (t : StmtTree) (n m : ℕ) (scope : Scope) → SameFrom (statement_count t) n m → run p t n scope ≡ run q t m scope
    run_same (Assign left right) n m scope same = λ i. run_assignment (names_same scope i) (place_same scope n m (first_same 1 n m (omega arith) same) i) left right
    run_same (If c a b) n m scope same =
        let count = statements_count a + statements_count b + 1 in
        let x = all_same a (n + 1) (m + 1) scope (part_same count n m (statements_count a) 1 (n + 1) (m + 1) refl refl (omega arith) same) in
        let y = all_same b (n + 1 + statements_count a) (m + 1 + statements_count a) scope (part_same count n m (statements_count b) (1 + statements_count a) (n + 1 + statements_count a) (m + 1 + statements_count a) (omega arith) (omega arith) (omega arith) same) in
        let at = place_same scope n m (first_same count n m (omega arith) same) in
        λ i. run_if (names_same scope i) (at i) c (x i) (y i)
    run_same (Do h body) n m scope same =
        let count = statements_count body + 1 in
        do_same scope n m h body (λ f. run_all p body (n + 1) (f ∷ scope)) (λ f. run_all q body (m + 1) (f ∷ scope)) (first_same count n m (omega arith) same)
        (λ i f. all_same body (n + 1) (m + 1) (f ∷ scope) (part_same count n m (statements_count body) 1 (n + 1) (m + 1) refl refl (omega arith) same) i)
    run_same (Print items) n m scope same = λ i. run_print (names_same scope i) (place_same scope n m (first_same 1 n m (omega arith) same) i) items
    run_same (Read items) n m scope same = λ i. run_read (names_same scope i) (place_same scope n m (first_same 1 n m (omega arith) same) i) items
    run_same Stop n m scope same = λ i. run_stop (place_same scope n m (first_same 1 n m (omega arith) same) i)
    run_same (Comment text) n m scope same = refl

    pub all_same : (ts : StmtTrees) (n m : ℕ) (scope : Scope) → SameFrom (statements_count ts) n m → run_all p ts n scope ≡ run_all q ts m scope
    all_same no_stmts n m scope same = refl
    all_same (more_stmts t rest) n m scope same =
        let count = statement_count t + statements_count rest in
        let x = run_same t n m scope (part_same count n m (statement_count t) 0 n m (omega arith) (omega arith) (omega arith) same) in
        let y = all_same rest (n + statement_count t) (m + statement_count t) scope (part_same count n m (statements_count rest) (statement_count t) (n + statement_count t) (m + statement_count t) refl refl (omega arith) same) in
        λ i s. then_run (x i s) (y i)

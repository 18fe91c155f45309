-- Which statements stand in a program, and under which numbers; and which iterations a place tells.
use Rattle.std.proofs.Common.{◌≡◌, ℕ, suc, ◌+◌, ◌-◌, ◌==◌, List, [], ◌∷◌, ◌++◌, length, Bool, false, Some, None, if◌then◌else◌, refl, sym, ap, ◌∙◌, arith, append_assoc}
use Rattle.std.proofs.lemmas.List.{append-nil, length-append}
use Rattle.ped_flow.specs.ped_tree.specs.Tree.{StmtTree, StmtTrees, Assign, If, Do, Print, Read, Stop, Comment, no_stmts, more_stmts, ProgramTree}
use Rattle.ped_flow.specs.ped_tree.specs.Numbering.{numbered, all_numbered, at_place, statement_with, statement_count, statements_count}

-- these statements have numbers from n on
pub record Stand (t : ProgramTree) (n : ℕ) (xs : List StmtTree) : Type 0 where
  pub front : List StmtTree
  pub back : List StmtTree
  pub whole : all_numbered t.body ≡ front ++ (xs ++ back)
  pub number : n ≡ length front + 1

mutual
  count_long : (s : StmtTree) → length (numbered s) ≡ statement_count s
  count_long (Assign left right) = refl
  count_long (If condition a b) =
      let l : length (all_numbered a ++ all_numbered b) ≡ length (all_numbered a) + length (all_numbered b) = length-append (all_numbered a) (all_numbered b) in
      let e = counts_long a in
      let f = counts_long b in
      omega (arith, l, e, f)
  count_long (Do h b) = let e = counts_long b in omega (arith, e)
  count_long (Print items) = refl
  count_long (Read items) = refl
  count_long Stop = refl
  count_long (Comment text) = refl

  counts_long : (ss : StmtTrees) → length (all_numbered ss) ≡ statements_count ss
  counts_long no_stmts = refl
  counts_long (more_stmts s rest) =
      let l : length (numbered s ++ all_numbered rest) ≡ length (numbered s) + length (all_numbered rest) = length-append (numbered s) (all_numbered rest) in
      let e = count_long s in
      let f = counts_long rest in
      omega (arith, l, e, f)

later : (k : ℕ) → (suc k == 0) ≡ false
later k = grind arith

one_less : (k : ℕ) → suc k - 1 ≡ k
one_less k = omega arith

placed : (front : List StmtTree) (s : StmtTree) (back : List StmtTree) → at_place (front ++ s ∷ back) (length front) ≡ Some s
placed [] s back = refl
placed (f ∷ fs) s back =
    ap (λ (b : Bool). if b then Some f else at_place (fs ++ s ∷ back) (suc (length fs) - 1)) (later (length fs))
    ∙ (ap (at_place (fs ++ s ∷ back)) (one_less (length fs)) ∙ placed fs s back)

module _ (t : ProgramTree) where
  pub whole_stands : Stand t 1 (all_numbered t.body)
  whole_stands = record { front = []; back = []; whole = sym (append-nil (all_numbered t.body)); number = refl }

  pub first_stands : (n : ℕ) (xs ys : List StmtTree) → Stand t n (xs ++ ys) → Stand t n xs
  first_stands n xs ys h = record { front = h.front; back = ys ++ h.back; whole = h.whole ∙ ap (λ (z : List StmtTree). h.front ++ z) (append_assoc xs ys h.back); number = h.number }

  pub second_stands : (n m : ℕ) (xs ys : List StmtTree) → m ≡ n + length xs → Stand t n (xs ++ ys) → Stand t m ys
  second_stands n m xs ys e h =
      let l : length (h.front ++ xs) ≡ length h.front + length xs = length-append h.front xs in
      let k = h.number in
      record {
        front = h.front ++ xs;
        back = h.back;
        whole = h.whole ∙ (ap (λ (z : List StmtTree). h.front ++ z) (append_assoc xs ys h.back) ∙ sym (append_assoc h.front xs (ys ++ h.back)));
        number = omega (arith, l, k, e);
      }

  pub rest_stands : (s : StmtTree) (rest : StmtTrees) (n : ℕ) → Stand t n (numbered s ++ all_numbered rest) → Stand t (n + statement_count s) (all_numbered rest)
  rest_stands s rest n h = let e = count_long s in second_stands n (n + statement_count s) (numbered s) (all_numbered rest) (omega (arith, e)) h

  pub inner_stands : (s : StmtTree) (xs : List StmtTree) (n : ℕ) → Stand t n (s ∷ xs) → Stand t (n + 1) xs
  inner_stands s xs n h = second_stands n (n + 1) (s ∷ []) xs refl h

  pub else_stands : (a b : StmtTrees) (n : ℕ) → Stand t n (all_numbered a ++ all_numbered b) → Stand t (n + statements_count a) (all_numbered b)
  else_stands a b n h = let e = counts_long a in second_stands n (n + statements_count a) (all_numbered a) (all_numbered b) (omega (arith, e)) h

  pub is_there : (s : StmtTree) (xs : List StmtTree) (n : ℕ) → Stand t n (s ∷ xs) → statement_with n t ≡ Some s
  is_there s xs n h =
      let k = h.number in
      let some : (n == 0) ≡ false = grind (arith, k) in
      let place : n - 1 ≡ length h.front = omega (arith, k) in
      ap (λ (b : Bool). if b then None else at_place (all_numbered t.body) (n - 1)) some
      ∙ ((λ i. at_place (h.whole i) (place i)) ∙ placed h.front s (xs ++ h.back))

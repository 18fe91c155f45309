-- A reference in a part of an IF is of a statement in an IF.
use Rattle.std.proofs.Common.{◌≡◌, ℕ, ◌+◌, ◌-◌, List, [], ◌∷◌, ◌++◌, length, Bool, true, false, refl, sym, ap, ◌∙◌, inl, inr, arith, append_assoc, append-nil}
use Rattle.std.specs.Prelude.{slice_index_or}
use Rattle.std.proofs.lemmas.List.{length-append}
use Rattle.ped_laws.specs.ped_flow.specs.ped_tree.specs.Tree.{StmtTree, StmtTrees, Assign, If, Do, Print, Read, Stop, Comment, no_stmts, more_stmts, ProgramTree}
use Rattle.ped_laws.specs.ped_flow.specs.ped_tree.specs.Nests.{Loop, indices_of}
use Rattle.ped_laws.specs.ped_flow.specs.ped_tree.specs.Numbering.{statement_count, statements_count}
use Rattle.ped_laws.specs.ped_flow.specs.ped_tree.specs.Accesses.{Access, own_accesses}
use Rattle.ped_laws.specs.ped_graph.specs.ped_refs.specs.References.{Reference, numbered_accesses, statement_references, statements_references}
use Rattle.ped_laws.specs.ped_graph.specs.Guards.{guards_in, all_guards_in, guards, is_guarded}
use Rattle.ped_laws.specs.Acts.Orders.{IsIn}
use Rattle.ped_laws.proofs.ActLaws.Lists.{in_parts}
use Rattle.ped_rows.proofs.ComingLaws.NestedReferences.{of_statement}

-- the item after a front of a list
index_behind : (front : List Bool) (b : Bool) (more : List Bool) → slice_index_or (front ++ b ∷ more) (length front) false ≡ b
index_behind [] b more = refl
index_behind (x ∷ front) b more = index_behind front b more

both_long : (xs ys : List Bool) (m n : ℕ) → length xs ≡ m → length ys ≡ n → length (xs ++ ys) ≡ m + n
both_long xs ys m n h k = length-append xs ys ∙ (λ i. h i + k i)

-- there is one for each statement
mutual
  guards_long : (inside : Bool) (x : StmtTree) → length (guards_in inside x) ≡ statement_count x
  guards_long inside (Assign left right) = refl
  guards_long inside (If c a b) =
      let parts : length (all_guards_in true a ++ all_guards_in true b) ≡ statements_count a + statements_count b = both_long (all_guards_in true a) (all_guards_in true b) (statements_count a) (statements_count b) (all_guards_long true a) (all_guards_long true b) in
      omega (arith, parts)
  guards_long inside (Do h b) = let body : length (all_guards_in inside b) ≡ statements_count b = all_guards_long inside b in omega (arith, body)
  guards_long inside (Print items) = refl
  guards_long inside (Read items) = refl
  guards_long inside Stop = refl
  guards_long inside (Comment text) = refl

  all_guards_long : (inside : Bool) (xs : StmtTrees) → length (all_guards_in inside xs) ≡ statements_count xs
  all_guards_long inside no_stmts = refl
  all_guards_long inside (more_stmts x rest) = both_long (guards_in inside x) (all_guards_in inside rest) (statement_count x) (statements_count rest) (guards_long inside x) (all_guards_long inside rest)

module _ (whole : List Bool) where
  -- these of them are of the statements with numbers from n on
  pub record AreFrom (n : ℕ) (xs : List Bool) : Type 0 where
    pub front : List Bool
    pub behind : List Bool
    pub is : whole ≡ front ++ (xs ++ behind)
    pub first : length front + 1 ≡ n

  first_from : (n : ℕ) (xs ys : List Bool) → AreFrom n (xs ++ ys) → AreFrom n xs
  first_from n xs ys h = record { front = h.front; behind = ys ++ h.behind; is = h.is ∙ ap (λ (z : List Bool). h.front ++ z) (append_assoc xs ys h.behind); first = h.first }

  rest_from : (n k : ℕ) (xs ys : List Bool) → length xs ≡ k → AreFrom n (xs ++ ys) → AreFrom (n + k) ys
  rest_from n k xs ys e h =
      let first = h.first in
      let long : length (h.front ++ xs) ≡ length h.front + length xs = length-append h.front xs in
      record {
        front = h.front ++ xs;
        behind = h.behind;
        is = h.is ∙ (ap (λ (z : List Bool). h.front ++ z) (append_assoc xs ys h.behind) ∙ sym (append_assoc h.front xs (ys ++ h.behind)));
        first = omega (arith, e, first, long);
      }

  at_first : (n : ℕ) (b : Bool) (xs : List Bool) → AreFrom n (b ∷ xs) → is_guarded whole n ≡ b
  at_first n b xs h =
      let first = h.first in
      let place : n - 1 ≡ length h.front = omega (arith, first) in
      ap (λ (z : List Bool). slice_index_or z (n - 1) false) h.is ∙ (ap (λ (k : ℕ). slice_index_or (h.front ++ b ∷ (xs ++ h.behind)) k false) place ∙ index_behind h.front b (xs ++ h.behind))

  pub first_statement : (n : ℕ) (x : StmtTree) (rest : StmtTrees) → AreFrom n (all_guards_in false (more_stmts x rest)) → AreFrom n (guards_in false x)
  first_statement n x rest h = first_from n (guards_in false x) (all_guards_in false rest) h

  pub rest_statements : (inside : Bool) (n : ℕ) (x : StmtTree) (rest : StmtTrees) → AreFrom n (all_guards_in inside (more_stmts x rest)) → AreFrom (n + statement_count x) (all_guards_in inside rest)
  rest_statements inside n x rest h = rest_from n (statement_count x) (guards_in inside x) (all_guards_in inside rest) (guards_long inside x) h

  pub body_statements : (inside b : Bool) (n : ℕ) (xs : StmtTrees) → AreFrom n (b ∷ all_guards_in inside xs) → AreFrom (n + 1) (all_guards_in inside xs)
  body_statements inside b n xs h = rest_from n 1 (b ∷ []) (all_guards_in inside xs) refl h

  then_statements : (b : Bool) (n : ℕ) (x y : StmtTrees) → AreFrom n (b ∷ (all_guards_in true x ++ all_guards_in true y)) → AreFrom (n + 1) (all_guards_in true x)
  then_statements b n x y h = first_from (n + 1) (all_guards_in true x) (all_guards_in true y) (rest_from n 1 (b ∷ []) (all_guards_in true x ++ all_guards_in true y) refl h)

  else_statements : (b : Bool) (n : ℕ) (x y : StmtTrees) → AreFrom n (b ∷ (all_guards_in true x ++ all_guards_in true y)) → AreFrom (n + 1 + statements_count x) (all_guards_in true y)
  else_statements b n x y h = rest_from (n + 1) (statements_count x) (all_guards_in true x) (all_guards_in true y) (all_guards_long true x) (rest_from n 1 (b ∷ []) (all_guards_in true x ++ all_guards_in true y) refl h)

  module _ (names : List (List ℕ)) where
    own_guarded : (nest : List Loop) (n : ℕ) (accesses : List Access) (xs : List Bool) (r : Reference) → IsIn r (numbered_accesses n 1 nest accesses) → AreFrom n (true ∷ xs) → is_guarded whole r.statement ≡ true
    own_guarded nest n accesses xs r i h = ap (is_guarded whole) (of_statement n 1 nest accesses r i).statement ∙ at_first n true xs h

    -- what is in an IF
    mutual
      is_in_if : (x : StmtTree) (nest : List Loop) (n : ℕ) (r : Reference) → IsIn r (statement_references names nest n x) → AreFrom n (guards_in true x) → is_guarded whole r.statement ≡ true
      is_in_if (Assign left right) nest n r i h = own_guarded nest n (own_accesses names (indices_of nest) (Assign left right)) [] r i h
      is_in_if (If c a b) nest n r i h =
          let own : List Reference = numbered_accesses n 1 nest (own_accesses names (indices_of nest) (If c a b)) in
          elim (in_parts r (own ++ statements_references names nest (n + 1) a) (statements_references names nest (n + 1 + statements_count a) b) i) [
            | inl j ↦ elim (in_parts r own (statements_references names nest (n + 1) a) j) [
              | inl k ↦ own_guarded nest n (own_accesses names (indices_of nest) (If c a b)) (all_guards_in true a ++ all_guards_in true b) r k h
              | inr k ↦ are_in_if a nest (n + 1) r k (then_statements true n a b h)
            ]
            | inr j ↦ are_in_if b nest (n + 1 + statements_count a) r j (else_statements true n a b h)
          ]
      is_in_if (Do hd b) nest n r i h =
          let l : Loop = record { number = n; head = hd } in
          elim (in_parts r (numbered_accesses n 1 nest (own_accesses names (indices_of nest) (Do hd b))) (statements_references names (nest ++ l ∷ []) (n + 1) b) i) [
            | inl k ↦ own_guarded nest n (own_accesses names (indices_of nest) (Do hd b)) (all_guards_in true b) r k h
            | inr k ↦ are_in_if b (nest ++ l ∷ []) (n + 1) r k (body_statements true true n b h)
          ]
      is_in_if (Print items) nest n r i h = own_guarded nest n (own_accesses names (indices_of nest) (Print items)) [] r i h
      is_in_if (Read items) nest n r i h = own_guarded nest n (own_accesses names (indices_of nest) (Read items)) [] r i h
      is_in_if Stop nest n r i h = absurd i
      is_in_if (Comment text) nest n r i h = absurd i

      are_in_if : (xs : StmtTrees) (nest : List Loop) (n : ℕ) (r : Reference) → IsIn r (statements_references names nest n xs) → AreFrom n (all_guards_in true xs) → is_guarded whole r.statement ≡ true
      are_in_if no_stmts nest n r i h = absurd i
      are_in_if (more_stmts x rest) nest n r i h = elim (in_parts r (statement_references names nest n x) (statements_references names nest (n + statement_count x) rest) i) [
        | inl j ↦ is_in_if x nest n r j (first_from n (guards_in true x) (all_guards_in true rest) h)
        | inr j ↦ are_in_if rest nest (n + statement_count x) r j (rest_statements true n x rest h)
      ]

    -- a reference of an IF that is in no IF is one of its condition
    pub of_condition : (c : _) (a b : StmtTrees) (nest : List Loop) (n : ℕ) (r : Reference) → IsIn r (statement_references names nest n (If c a b)) → AreFrom n (guards_in false (If c a b)) → is_guarded whole r.statement ≡ false → IsIn r (numbered_accesses n 1 nest (own_accesses names (indices_of nest) (If c a b)))
    of_condition c a b nest n r i h free =
        let own : List Reference = numbered_accesses n 1 nest (own_accesses names (indices_of nest) (If c a b)) in
        elim (in_parts r (own ++ statements_references names nest (n + 1) a) (statements_references names nest (n + 1 + statements_count a) b) i) [
          | inl j ↦ elim (in_parts r own (statements_references names nest (n + 1) a) j) [
            | inl k ↦ k
            | inr k ↦ guarded (are_in_if a nest (n + 1) r k (then_statements false n a b h))
          ]
          | inr j ↦ guarded (are_in_if b nest (n + 1 + statements_count a) r j (else_statements false n a b h))
        ]
      where
        guarded : {A : Type 0} → is_guarded whole r.statement ≡ true → A
        guarded e = let z : false ≡ true = sym free ∙ e in absurd cc

pub guards_whole : (t : ProgramTree) → AreFrom (guards t) 1 (all_guards_in false t.body)
guards_whole t = record { front = []; behind = []; is = sym (append-nil (all_guards_in false t.body)); first = refl }

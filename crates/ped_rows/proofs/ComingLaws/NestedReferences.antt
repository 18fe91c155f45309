-- References of statements stand in these, and in the DO loops round them or further in.
use Rattle.std.proofs.Common.{◌≡◌, ℕ, suc, ◌+◌, ◌<◌, ◌≤◌, List, [], ◌∷◌, ◌++◌, sym, ap, ◌∙◌, inl, inr, arith, append_assoc, append-nil}
use Rattle.ped_laws.specs.ped_flow.specs.ped_tree.specs.Tree.{Head, StmtTree, StmtTrees, Assign, If, Do, Print, Read, Stop, Comment, no_stmts, more_stmts}
use Rattle.ped_laws.specs.ped_flow.specs.ped_tree.specs.Nests.{Loop, indices_of}
use Rattle.ped_laws.specs.ped_flow.specs.ped_tree.specs.Numbering.{statement_count, statements_count}
use Rattle.ped_laws.specs.ped_flow.specs.ped_tree.specs.Accesses.{Access, own_accesses}
use Rattle.ped_laws.specs.ped_graph.specs.ped_refs.specs.References.{Reference, numbered_accesses, statement_references, statements_references}
use Rattle.ped_laws.specs.Acts.Orders.{IsIn}
use Rattle.ped_laws.proofs.ActLaws.Lists.{in_parts}

-- what a reference of a statement by itself is
pub record IsOf (n k : ℕ) (nest : List Loop) (r : Reference) : Type 0 where
  pub statement : r.statement ≡ n
  pub nested : r.nest ≡ nest
  pub least : k ≤ r.number

pub of_statement : (n k : ℕ) (nest : List Loop) (accesses : List Access) (r : Reference) → IsIn r (numbered_accesses n k nest accesses) → IsOf n k nest r
of_statement n k nest [] r i = absurd i
of_statement n k nest (a ∷ rest) r (inl e) =
    let number : r.number ≡ k = ap (λ (z : Reference). z.number) e in
    record { statement = ap (λ (z : Reference). z.statement) e; nested = ap (λ (z : Reference). z.nest) e; least = omega (arith, number) }
of_statement n k nest (a ∷ rest) r (inr i) =
    let o = of_statement n (suc k) nest rest r i in
    let least = o.least in
    record { statement = o.statement; nested = o.nested; least = omega (arith, least) }

-- a reference in these DO loops or further in, of a statement with a number from lo to below hi, as the further loops have
pub record IsNested (nest : List Loop) (lo hi : ℕ) (r : Reference) : Type 0 where
  pub rest : List Loop
  pub nested : r.nest ≡ nest ++ rest
  pub least : lo ≤ r.statement
  pub below : r.statement < hi
  pub loops : (l : Loop) → IsIn l rest → (lo ≤ l.number) × (l.number < hi)

loop_within : (n lo hi : ℕ) (h : Head) (rest : List Loop) → lo ≤ n → n < hi → ((l : Loop) → IsIn l rest → (lo ≤ l.number) × (l.number < hi)) → (m : Loop) → IsIn m ((record { number = n; head = h }) ∷ rest) → (lo ≤ m.number) × (m.number < hi)
loop_within n lo hi h rest from to all m (inl e) = let number : m.number ≡ n = ap (λ (z : Loop). z.number) e in (omega (arith, number, from), omega (arith, number, to))
loop_within n lo hi h rest from to all m (inr i) = all m i

module _ (names : List (List ℕ)) where
  own_nested : (nest : List Loop) (n lo hi : ℕ) (x : StmtTree) (r : Reference) → lo ≤ n → n < hi → IsIn r (numbered_accesses n 1 nest (own_accesses names (indices_of nest) x)) → IsNested nest lo hi r
  own_nested nest n lo hi x r from to i =
      let o = of_statement n 1 nest (own_accesses names (indices_of nest) x) r i in
      let number = o.statement in
      record { rest = []; nested = o.nested ∙ sym (append-nil nest); least = omega (arith, number, from); below = omega (arith, number, to); loops = λ l j. absurd j }

  mutual
    pub statement_nested : (x : StmtTree) (nest : List Loop) (n lo hi : ℕ) (r : Reference) → lo ≤ n → n + statement_count x ≤ hi → IsIn r (statement_references names nest n x) → IsNested nest lo hi r
    statement_nested (Assign left right) nest n lo hi r from to i = own_nested nest n lo hi (Assign left right) r from (omega (arith, to)) i
    statement_nested (If c a b) nest n lo hi r from to i =
        let own : List Reference = numbered_accesses n 1 nest (own_accesses names (indices_of nest) (If c a b)) in
        elim (in_parts r (own ++ statements_references names nest (n + 1) a) (statements_references names nest (n + 1 + statements_count a) b) i) [
          | inl j ↦ elim (in_parts r own (statements_references names nest (n + 1) a) j) [
            | inl k ↦ own_nested nest n lo hi (If c a b) r from (omega (arith, to)) k
            | inr k ↦ statements_nested a nest (n + 1) lo hi r (omega (arith, from)) (omega (arith, to)) k
          ]
          | inr j ↦ statements_nested b nest (n + 1 + statements_count a) lo hi r (omega (arith, from)) (omega (arith, to)) j
        ]
    statement_nested (Do h b) nest n lo hi r from to i =
        let l : Loop = record { number = n; head = h } in
        elim (in_parts r (numbered_accesses n 1 nest (own_accesses names (indices_of nest) (Do h b))) (statements_references names (nest ++ l ∷ []) (n + 1) b) i) [
          | inl k ↦ own_nested nest n lo hi (Do h b) r from (omega (arith, to)) k
          | inr k ↦ (
              let o = statements_nested b (nest ++ l ∷ []) (n + 1) lo hi r (omega (arith, from)) (omega (arith, to)) k in
              record { rest = l ∷ o.rest; nested = o.nested ∙ append_assoc nest (l ∷ []) o.rest; least = o.least; below = o.below; loops = λ m j. loop_within n lo hi h o.rest from (omega (arith, to)) o.loops m j }
              )
        ]
    statement_nested (Print items) nest n lo hi r from to i = own_nested nest n lo hi (Print items) r from (omega (arith, to)) i
    statement_nested (Read items) nest n lo hi r from to i = own_nested nest n lo hi (Read items) r from (omega (arith, to)) i
    statement_nested Stop nest n lo hi r from to i = absurd i
    statement_nested (Comment text) nest n lo hi r from to i = absurd i

    pub statements_nested : (xs : StmtTrees) (nest : List Loop) (n lo hi : ℕ) (r : Reference) → lo ≤ n → n + statements_count xs ≤ hi → IsIn r (statements_references names nest n xs) → IsNested nest lo hi r
    statements_nested no_stmts nest n lo hi r from to i = absurd i
    statements_nested (more_stmts x rest) nest n lo hi r from to i = elim (in_parts r (statement_references names nest n x) (statements_references names nest (n + statement_count x) rest) i) [
      | inl j ↦ statement_nested x nest n lo hi r from (omega (arith, to)) j
      | inr j ↦ statements_nested rest nest (n + statement_count x) lo hi r (omega (arith, from)) (omega (arith, to)) j
    ]

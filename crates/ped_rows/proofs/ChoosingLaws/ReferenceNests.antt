-- The loops round a reference of a program are DO statements of the program.
use Rattle.std.proofs.Common.{◌≡◌, ℕ, ◌+◌, List, [], ◌∷◌, ◌++◌, inl, inr, Some, sym, ap, ◌∙◌, subst}
use Rattle.std.specs.List.{AllByRecursion}
use Rattle.ped_laws.specs.ped_flow.specs.ped_tree.specs.Tree.{Head, StmtTree, StmtTrees, Assign, If, Do, Print, Read, Stop, Comment, no_stmts, more_stmts, ProgramTree}
use Rattle.ped_laws.specs.ped_flow.specs.ped_tree.specs.Accesses.{own_accesses, constant_names}
use Rattle.ped_laws.specs.ped_flow.specs.ped_tree.specs.Nests.{Loop, indices_of}
use Rattle.ped_laws.specs.ped_flow.specs.ped_tree.specs.Numbering.{numbered, all_numbered, statement_with, statement_count, statements_count}
use Rattle.ped_laws.specs.ped_graph.specs.ped_refs.specs.References.{Reference, numbered_accesses, statement_references, statements_references, references}
use Rattle.ped_laws.specs.Acts.Orders.{IsIn}
use Rattle.ped_laws.proofs.ActLaws.Lists.{in_parts}
use Rattle.ped_laws.proofs.FlowRunLaws.Standing.{Stand, whole_stands, first_stands, rest_stands, inner_stands, else_stands, is_there}
use Rattle.ped_laws.proofs.ConflictLaws.CoveringWrites.{own_access}

module _ (t : ProgramTree) where
  -- the loop is a DO of the program
  abbrev pub IsHere : Loop → Type 0
  IsHere l = (body : StmtTrees) × (statement_with l.number t ≡ Some (Do l.head body))

  abbrev pub AreHere : List Loop → Type 0
  AreHere nest = AllByRecursion IsHere nest

  one_more : (ls : List Loop) (l : Loop) → AreHere ls → IsHere l → AreHere (ls ++ l ∷ [])
  one_more [] l h k = (k, tt)
  one_more (m ∷ ls) l h k = (h.0, one_more ls l h.1 k)

  module _ (c : List (List ℕ)) (r : Reference) where
    own_nest : (n : ℕ) (nest : List Loop) (s : StmtTree) → AreHere nest → IsIn r (numbered_accesses n 1 nest (own_accesses c (indices_of nest) s)) → AreHere r.nest
    own_nest n nest s loops i = subst (λ (ls : List Loop). AreHere ls) (sym (own_access n 1 nest (own_accesses c (indices_of nest) s) r i).1) loops

    mutual
      statement_nest : (s : StmtTree) (nest : List Loop) (n : ℕ) → Stand t n (numbered s) → AreHere nest → IsIn r (statement_references c nest n s) → AreHere r.nest
      statement_nest (Assign left right) nest n st loops i = own_nest n nest (Assign left right) loops i
      statement_nest (If condition a b) nest n st loops i =
          let inside = inner_stands t (If condition a b) (all_numbered a ++ all_numbered b) n st in
          let own = numbered_accesses n 1 nest (own_accesses c (indices_of nest) (If condition a b)) in
          elim (in_parts r (own ++ statements_references c nest (n + 1) a) (statements_references c nest (n + 1 + statements_count a) b) i) [
            | inl j ↦ elim (in_parts r own (statements_references c nest (n + 1) a) j) [
              | inl k ↦ own_nest n nest (If condition a b) loops k
              | inr k ↦ statements_nest a nest (n + 1) (first_stands t (n + 1) (all_numbered a) (all_numbered b) inside) loops k
            ]
            | inr j ↦ statements_nest b nest (n + 1 + statements_count a) (else_stands t a b (n + 1) inside) loops j
          ]
      statement_nest (Do h b) nest n st loops i =
          let deeper = nest ++ (record { number = n; head = h }) ∷ [] in
          elim (in_parts r (numbered_accesses n 1 nest (own_accesses c (indices_of nest) (Do h b))) (statements_references c deeper (n + 1) b) i) [
            | inl j ↦ own_nest n nest (Do h b) loops j
            | inr j ↦ statements_nest b deeper (n + 1) (inner_stands t (Do h b) (all_numbered b) n st) (one_more nest (record { number = n; head = h }) loops (b, is_there t (Do h b) (all_numbered b) n st)) j
          ]
      statement_nest (Print items) nest n st loops i = own_nest n nest (Print items) loops i
      statement_nest (Read items) nest n st loops i = own_nest n nest (Read items) loops i
      statement_nest Stop nest n st loops i = absurd i
      statement_nest (Comment text) nest n st loops i = absurd i

      statements_nest : (ss : StmtTrees) (nest : List Loop) (n : ℕ) → Stand t n (all_numbered ss) → AreHere nest → IsIn r (statements_references c nest n ss) → AreHere r.nest
      statements_nest no_stmts nest n st loops i = absurd i
      statements_nest (more_stmts s rest) nest n st loops i =
          elim (in_parts r (statement_references c nest n s) (statements_references c nest (n + statement_count s) rest) i) [
            | inl j ↦ statement_nest s nest n (first_stands t n (numbered s) (all_numbered rest) st) loops j
            | inr j ↦ statements_nest rest nest (n + statement_count s) (rest_stands t s rest n st) loops j
          ]

  -- the loops round a reference of the program
  pub loops_here : (r : Reference) → IsIn r (references t) → AreHere r.nest
  loops_here r i = statements_nest (constant_names t.decls) r t.body [] 1 (whole_stands t) tt i

-- the head of a DO, and else this
abbrev head_or : Head → StmtTree → Head
head_or other (Do h body) = h
head_or other (Assign left right) = other
head_or other (If condition a b) = other
head_or other (Print items) = other
head_or other (Read items) = other
head_or other Stop = other
head_or other (Comment text) = other

-- one number is that of one DO
pub one_head : (t : ProgramTree) (l m : Loop) → IsHere t l → IsHere t m → l.number ≡ m.number → l.head ≡ m.head
one_head t l m h k e =
    let both : Some (Do l.head h.0) ≡ Some (Do m.head k.0) = sym h.1 ∙ (ap (λ (n : ℕ). statement_with n t) e ∙ k.1) in
    let same : Do l.head h.0 ≡ Do m.head k.0 = cc in
    ap (head_or l.head) same

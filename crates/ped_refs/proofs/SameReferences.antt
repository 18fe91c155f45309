-- References depend on which names are constants, and not on their order.
use Rattle.std.proofs.Common.{◌≡◌, ℕ, ◌+◌, List, [], ◌∷◌, ◌++◌, refl, ap, ◌∙◌}
use Rattle.ped_base.specs.Lists.{is_among}
use Rattle.ped_tree.specs.Tree.{StmtTree, StmtTrees, Assign, If, Do, Print, Read, Stop, Comment, no_stmts, more_stmts, ProgramTree}
use Rattle.ped_tree.specs.Numbering.{statement_count, statements_count}
use Rattle.ped_tree.specs.Accesses.{own_accesses, constant_names}
use Rattle.ped_tree.specs.Nests.{Loop, indices_of}
use Rattle.ped_tree.specs.Names.Collecting.{HaveSame, with_names}
use Rattle.ped_tree.proofs.NameLaws.Collected.{among_collected}
use Rattle.ped_tree.proofs.NameLaws.SameAccesses.{same_accesses}
use Rattle.ped_refs.specs.References.{numbered_accesses, statement_references, statements_references, references}

module _ (c d : List (List ℕ)) (h : HaveSame c d) where
  own_same : (nest : List Loop) (n : ℕ) (s : StmtTree) → numbered_accesses n 1 nest (own_accesses c (indices_of nest) s) ≡ numbered_accesses n 1 nest (own_accesses d (indices_of nest) s)
  own_same nest n s = ap (numbered_accesses n 1 nest) (same_accesses c d (indices_of nest) (indices_of nest) h (λ x. refl) s)

  mutual
    statement_same : (nest : List Loop) (n : ℕ) (s : StmtTree) → statement_references c nest n s ≡ statement_references d nest n s
    statement_same nest n (Assign left right) = own_same nest n (Assign left right)
    statement_same nest n (If condition a b) = λ i. own_same nest n (If condition a b) i ++ statements_same nest (n + 1) a i ++ statements_same nest (n + 1 + statements_count a) b i
    statement_same nest n (Do head body) = λ i. own_same nest n (Do head body) i ++ statements_same (nest ++ (record { number = n; head = head }) ∷ []) (n + 1) body i
    statement_same nest n (Print items) = own_same nest n (Print items)
    statement_same nest n (Read items) = own_same nest n (Read items)
    statement_same nest n Stop = refl
    statement_same nest n (Comment text) = refl

    statements_same : (nest : List Loop) (n : ℕ) (ss : StmtTrees) → statements_references c nest n ss ≡ statements_references d nest n ss
    statements_same nest n no_stmts = refl
    statements_same nest n (more_stmts s rest) = λ i. statement_same nest n s i ++ statements_same nest (n + statement_count s) rest i

-- the references of a program are those of its statements, with a set of its named constants
pub program_same : (t : ProgramTree) (names : List (List ℕ)) (body : StmtTrees) → names ≡ with_names [] (constant_names t.decls) → body ≡ t.body
    → statements_references names [] 1 body ≡ references t
program_same t names body e k =
    let same : HaveSame names (constant_names t.decls) = λ x. ap (is_among x) e ∙ among_collected x [] (constant_names t.decls) in
    ap (λ (ss : StmtTrees). statements_references names [] 1 ss) k ∙ statements_same names (constant_names t.decls) same [] 1 t.body

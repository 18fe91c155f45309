-- Each numbered statement begins on one printed line.
use Rattle.std.proofs.Common.{◌≡◌, ℕ, suc, ◌+◌, ◌-◌, List, [], ◌∷◌, ◌++◌, map, Option, Some, None, is_some, cond, codes, refl, arith}
use Rattle.std.specs.List.{flat_map, range_with_len}
use Rattle.std.proofs.lemmas.List.Sums.{sum_by-append, sum_by-cons}
use Rattle.ped_tree.specs.Tree.{StmtTree, StmtTrees, Assign, If, Do, Print, Read, Stop, Comment, no_stmts, more_stmts, DeclTree, Program, Implicit, Integer, Dimension, Parameter, Save, Remark, ProgramTree}
use Rattle.ped_tree.specs.Numbering.{statement_count, statements_count}
use Rattle.ped_tree.specs.Printing.{Line, plain_line, blanks, piece, piece_count, indentation, begun_in, own_text, decl_text, private_text, continuation_lines, text_lines, directive_lines, private_lines, statement_lines, statements_lines, else_lines, decl_lines, program_lines}

-- how many begin on lines one behind the other
both : (a b : List Line) → begun_in (a ++ b) ≡ begun_in a + begun_in b
both a b = sum_by-append (λ (l : Line). cond (is_some l.statement) 1 0) a b

-- how many begin on a line and those behind it
one : (l : Line) (ls : List Line) → begun_in (l ∷ ls) ≡ cond (is_some l.statement) 1 0 + begun_in ls
one l ls = sum_by-cons (λ (m : Line). cond (is_some m.statement) 1 0) l ls

-- none begins on a line without a number
unnumbered : (text : List ℕ) (ls : List Line) → begun_in ls ≡ 0 → begun_in (plain_line text ∷ ls) ≡ 0
unnumbered text ls h = let e = one (plain_line text) ls in omega arith

further : (f : ℕ → List ℕ) (ks : List ℕ) → begun_in (map (λ k. plain_line (f k)) ks) ≡ 0
further f [] = refl
further f (k ∷ ks) = unnumbered (f k) (map (λ i. plain_line (f i)) ks) (further f ks)

-- on the lines of a text its statement begins, where it has a number
of_text : (number : Option ℕ) (depth : ℕ) (text : List ℕ) → begun_in (text_lines number depth text) ≡ cond (is_some number) 1 0
of_text number depth text =
    let whole = indentation depth ++ text in
    let rest : begun_in (continuation_lines whole) ≡ 0 = further (λ k. codes "     &" ++ piece whole k) (range_with_len 1 (piece_count whole - 1)) in
    let e = one (record { statement = number; text = blanks 6 ++ piece whole 0 }) (continuation_lines whole) in
    omega arith

of_directives : (names : List (List ℕ)) → begun_in (directive_lines names) ≡ 0
of_directives [] = refl
of_directives (x ∷ xs) = unnumbered (codes "C$PED REJECT " ++ x) (directive_lines xs) (of_directives xs)

of_private : (depth : ℕ) (names : List (List ℕ)) → begun_in (private_lines depth names) ≡ 0
of_private depth [] = refl
of_private depth (x ∷ xs) = of_text None depth (private_text (x ∷ xs))

mutual
  of_statement : (depth number : ℕ) (s : StmtTree) → begun_in (statement_lines depth number s) ≡ statement_count s
  of_statement depth number (Assign left right) = of_text (Some number) depth (own_text (Assign left right))
  of_statement depth number (If c t e) =
      let first = text_lines (Some number) depth (own_text (If c t e)) in
      let inner = statements_lines (suc depth) (number + 1) t in
      let other = else_lines depth (number + 1 + statements_count t) e in
      let end = text_lines None depth (codes "END IF") in
      let p = both first inner in
      let q = both (first ++ inner) other in
      let r = both (first ++ inner ++ other) end in
      omega (arith, of_text (Some number) depth (own_text (If c t e)), of_statements (suc depth) (number + 1) t, of_else depth (number + 1 + statements_count t) e, of_text None depth (codes "END IF"))
  of_statement depth number (Do h body) =
      let before = directive_lines h.rejected in
      let first = text_lines (Some number) depth (own_text (Do h body)) in
      let names = private_lines (suc depth) h.private in
      let inner = statements_lines (suc depth) (number + 1) body in
      let end = text_lines None depth (codes "END DO") in
      let p = both before first in
      let q = both (before ++ first) names in
      let r = both (before ++ first ++ names) inner in
      let s = both (before ++ first ++ names ++ inner) end in
      omega (arith, of_directives h.rejected, of_text (Some number) depth (own_text (Do h body)), of_private (suc depth) h.private, of_statements (suc depth) (number + 1) body, of_text None depth (codes "END DO"))
  of_statement depth number (Print items) = of_text (Some number) depth (own_text (Print items))
  of_statement depth number (Read items) = of_text (Some number) depth (own_text (Read items))
  of_statement depth number Stop = of_text (Some number) depth (own_text Stop)
  of_statement depth number (Comment text) = refl

  of_statements : (depth number : ℕ) (ss : StmtTrees) → begun_in (statements_lines depth number ss) ≡ statements_count ss
  of_statements depth number no_stmts = refl
  of_statements depth number (more_stmts s rest) =
      let p = both (statement_lines depth number s) (statements_lines depth (number + statement_count s) rest) in
      omega (arith, of_statement depth number s, of_statements depth (number + statement_count s) rest)

  of_else : (depth number : ℕ) (ss : StmtTrees) → begun_in (else_lines depth number ss) ≡ statements_count ss
  of_else depth number no_stmts = refl
  of_else depth number (more_stmts s rest) =
      let word = text_lines None depth (codes "ELSE") in
      let first = statement_lines (suc depth) number s in
      let p = both word first in
      let q = both (word ++ first) (statements_lines (suc depth) (number + statement_count s) rest) in
      omega (arith, of_text None depth (codes "ELSE"), of_statement (suc depth) number s, of_statements (suc depth) (number + statement_count s) rest)

of_decl : (d : DeclTree) → begun_in (decl_lines d) ≡ 0
of_decl (Program x) = of_text None 0 (decl_text (Program x))
of_decl Implicit = of_text None 0 (decl_text Implicit)
of_decl (Integer ds) = of_text None 0 (decl_text (Integer ds))
of_decl (Dimension ds) = of_text None 0 (decl_text (Dimension ds))
of_decl (Parameter values) = of_text None 0 (decl_text (Parameter values))
of_decl (Save names) = of_text None 0 (decl_text (Save names))
of_decl (Remark text) = refl

of_decls : (ds : List DeclTree) → begun_in (flat_map decl_lines ds) ≡ 0
of_decls [] = refl
of_decls (d ∷ ds) = let p = both (decl_lines d) (flat_map decl_lines ds) in omega (arith, of_decl d, of_decls ds)

pub of_program : (t : ProgramTree) → begun_in (program_lines t) ≡ statements_count t.body
of_program t =
    let front = flat_map decl_lines t.decls in
    let inner = statements_lines 0 1 t.body in
    let p = both front inner in
    let q = both (front ++ inner) (text_lines None 0 (codes "END")) in
    omega (arith, of_decls t.decls, of_statements 0 1 t.body, of_text None 0 (codes "END"))

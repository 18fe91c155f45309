-- A tree that fits has few statements and few references.
use Rattle.std.proofs.Common.{◌≡◌, ℕ, suc, ◌+◌, ◌*◌, ◌^◌, ◌<◌, ◌≤◌, List, [], ◌∷◌, ◌++◌, length, true, refl, ap, sym, ◌∙◌, length-append, arith}
use Rattle.std.specs.Prelude.{not, ◌&&◌, nat_lt, nat_le}
use Rattle.std.specs.List.{list_all}
use Rattle.std.proofs.lemmas.Bool.{and_parts}
use Rattle.std.proofs.lemmas.List.{map-append}
use Rattle.ped_base.specs.Lists.{has_some, is_among}
use Rattle.ped_tree.specs.Tree.{Head, StmtTree, StmtTrees, Assign, If, Do, Print, Read, Stop, Comment, no_stmts, more_stmts, ProgramTree}
use Rattle.ped_tree.specs.Numbering.{statement_count, statements_count}
use Rattle.ped_tree.specs.Accesses.{Access, own_accesses}
use Rattle.ped_tree.specs.Nests.{Loop, indices_of}
use Rattle.ped_tree.specs.Printing.{own_text}
use Rattle.ped_tree.specs.Names.Collecting.{HaveSame}
use Rattle.ped_tree.proofs.NameLaws.SameAccesses.{same_accesses}
use Rattle.ped_tree.specs.Grammar.Words.{is_name}
use Rattle.ped_tree.specs.Grammar.LimitNumbers.{most_statements, most_references, most_characters}
use Rattle.ped_tree.specs.Grammar.Contexts.{is_stop}
use Rattle.ped_tree.specs.Grammar.ProgramRefusals.{assigned_by, meets}
use Rattle.ped_tree.specs.Grammar.Fits.{Surroundings, moved, in_if, in_loop, is_within, simple_fits, loop_fits, private_fits, target_fits, expr_fits, cond_fits, item_fits, stmt_fits, stmts_fit, decls_fit, begins_with_statement, at_body, fits}
use Rattle.ped_refs.specs.References.{Reference, numbered_accesses, statement_references, statements_references, references}
use Rattle.ped_symbols.proofs.Collected.{same_more}

-- so many statements behind others, with so many references
record IsFew (others count : ℕ) (refs : List Reference) : Type 0 where
  statements : others + count ≤ 4000
  references : length refs ≤ 64 * count

length-numbered : (n number : ℕ) (nest : List Loop) (accesses : List Access) → length (numbered_accesses n number nest accesses) ≡ length accesses
length-numbered n number nest [] = refl
length-numbered n number nest (a ∷ rest) = ap suc (length-numbered n (suc number) nest rest)

-- a numbered statement by itself
own_few : (p : Surroundings) (nest : List Loop) (n : ℕ) (s : StmtTree) → HaveSame p.variables (indices_of nest) → is_within p s ≡ true
    → IsFew p.statements 1 (numbered_accesses n 1 nest (own_accesses p.constants (indices_of nest) s))
own_few p nest n s same h =
    let a = and_parts _ (nat_le (length (own_text s)) most_characters) h in
    let b = and_parts (nat_lt p.statements most_statements) (nat_le (length (own_accesses p.constants p.variables s)) most_references) a.0 in
    let as_many : length (own_accesses p.constants p.variables s) ≡ length (own_accesses p.constants (indices_of nest) s) = ap length (same_accesses p.constants p.constants p.variables (indices_of nest) (λ x. refl) same s) in
    let few : length (own_accesses p.constants p.variables s) ≤ 64 = grind (arith, b.1) in
    record {
      statements = grind (arith, b.0);
      references = omega (arith, as_many, few, length-numbered n 1 nest (own_accesses p.constants (indices_of nest) s));
    }

simple_within : (p : Surroundings) (s : StmtTree) → simple_fits p s ≡ true → is_within p s ≡ true
simple_within p s h =
    let a = and_parts _ (not (is_stop s && has_some p.variables)) h in
    (and_parts (is_within p s) (not (meets (assigned_by s) p.variables)) a.0).0

loop_within : (p : Surroundings) (h : Head) (body : StmtTrees) → loop_fits p h body ≡ true → is_within p (Do h body) ≡ true
loop_within p h body fits =
    let a = and_parts _ (list_all is_name h.rejected) fits in
    let b = and_parts _ (private_fits p h) a.0 in
    let c = and_parts _ (nat_lt p.depth 100) b.0 in
    let d = and_parts _ (nat_lt (length p.variables) 6) c.0 in
    let e = and_parts _ (not (is_among h.variable p.private)) d.0 in
    let f = and_parts _ (not (is_among h.variable p.variables)) e.0 in
    let g = and_parts _ (expr_fits h.step) f.0 in
    let i = and_parts _ (expr_fits h.last) g.0 in
    let j = and_parts _ (expr_fits h.first) i.0 in
    (and_parts (is_within p (Do h body)) (is_name h.variable) j.0).0

one_behind : (n a b : ℕ) (refs more : List Reference) → IsFew n a refs → IsFew (n + a) b more → IsFew n (a + b) (refs ++ more)
one_behind n a b refs more h k = record {
  statements = omega (arith, k.statements);
  references = omega (arith, h.references, k.references, length-append refs more);
}

as_counted : (n m a b : ℕ) (refs : List Reference) → n ≡ m → a ≡ b → IsFew n a refs → IsFew m b refs
as_counted n m a b refs e f h = record { statements = omega (arith, h.statements); references = omega (arith, h.references) }

inner_same : (p : Surroundings) (nest : List Loop) (l : Loop) → HaveSame p.variables (indices_of nest) → HaveSame (l.head.variable ∷ p.variables) (indices_of (nest ++ l ∷ []))
inner_same p nest l same x =
    sym (same_more (indices_of nest) p.variables l.head.variable (λ y. sym (same y)) x) ∙ ap (is_among x) (sym (map-append (λ (m : Loop). m.head.variable) nest (l ∷ [])))

mutual
  stmt_few : (p : Surroundings) (nest : List Loop) (n : ℕ) (s : StmtTree) → HaveSame p.variables (indices_of nest) → p.statements ≤ 4000 → stmt_fits p s ≡ true
      → IsFew p.statements (statement_count s) (statement_references p.constants nest n s)
  stmt_few p nest n (Assign left right) same h fit =
      let a = and_parts _ (expr_fits right) fit in
      own_few p nest n (Assign left right) same (simple_within p (Assign left right) (and_parts (simple_fits p (Assign left right)) (target_fits left) a.0).0)
  stmt_few p nest n (If c t e) same h fit =
      let a = and_parts _ (stmts_fit (in_if p (1 + statements_count t)) e) fit in
      let b = and_parts _ (stmts_fit (in_if p 1) t) a.0 in
      let d = and_parts _ (cond_fits c) b.0 in
      let f = and_parts (is_within p (If c t e)) (nat_lt p.depth 100) d.0 in
      let own = own_few p nest n (If c t e) same f.0 in
      let then_few = stmts_few (in_if p 1) nest (n + 1) t same own.statements b.1 in
      let front = one_behind p.statements 1 (statements_count t) _ _ own then_few in
      let else_few = stmts_few (in_if p (1 + statements_count t)) nest (n + 1 + statements_count t) e same front.statements a.1 in
      as_counted p.statements p.statements _ (statement_count (If c t e)) _ refl (omega arith)
      (one_behind p.statements (1 + statements_count t) (statements_count e) _ _ front else_few)
  stmt_few p nest n (Do head body) same h fit =
      let a = and_parts (loop_fits p head body) (stmts_fit (in_loop p head) body) fit in
      let own = own_few p nest n (Do head body) same (loop_within p head body a.0) in
      let l : Loop = record { number = n; head = head } in
      as_counted p.statements p.statements _ (statement_count (Do head body)) _ refl (omega arith)
      (one_behind p.statements 1 (statements_count body) _ _ own (stmts_few (in_loop p head) (nest ++ l ∷ []) (n + 1) body (inner_same p nest l same) own.statements a.1))
  stmt_few p nest n (Print items) same h fit =
      own_few p nest n (Print items) same (simple_within p (Print items) (and_parts (simple_fits p (Print items)) (list_all item_fits items) fit).0)
  stmt_few p nest n (Read items) same h fit =
      own_few p nest n (Read items) same (simple_within p (Read items) (and_parts (simple_fits p (Read items)) (list_all target_fits items) fit).0)
  stmt_few p nest n Stop same h fit =
      let own = own_few p nest n Stop same (simple_within p Stop fit) in
      record { statements = own.statements; references = omega arith }
  stmt_few p nest n (Comment text) same h fit = record { statements = omega (arith, h); references = omega arith }

  stmts_few : (p : Surroundings) (nest : List Loop) (n : ℕ) (ss : StmtTrees) → HaveSame p.variables (indices_of nest) → p.statements ≤ 4000 → stmts_fit p ss ≡ true
      → IsFew p.statements (statements_count ss) (statements_references p.constants nest n ss)
  stmts_few p nest n no_stmts same h fit = record { statements = omega (arith, h); references = omega arith }
  stmts_few p nest n (more_stmts s rest) same h fit =
      let q = moved p (statement_count s) in
      let a = and_parts (stmt_fits p s) (stmts_fit q rest) fit in
      let first = stmt_few p nest n s same h a.0 in
      one_behind p.statements (statement_count s) (statements_count rest) _ _ first (stmts_few q nest (n + statement_count s) rest same first.statements a.1)

body_few : (t : ProgramTree) → fits t ≡ true → IsFew 0 (statements_count t.body) (references t)
body_few t fit =
    let a = and_parts _ (begins_with_statement t.body) fit in
    let b = and_parts (decls_fit 0 t.decls) (stmts_fit (at_body t) t.body) a.0 in
    stmts_few (at_body t) [] 1 t.body (λ x. refl) (omega arith) b.1

-- a tree that fits has few statements
pub few_statements : (t : ProgramTree) → fits t ≡ true → statements_count t.body < 2 ^ 32
few_statements t fit = omega (arith, (body_few t fit).statements)

-- a tree that fits has few references
pub few_references : (t : ProgramTree) → fits t ≡ true → length (references t) < 2 ^ 32
few_references t fit = omega (arith, (body_few t fit).statements, (body_few t fit).references)

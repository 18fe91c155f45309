-- What a reference refers to: a name that occurs in the program and is no named constant, or the data or the output, which have no name.
use Rattle.std.proofs.Common.{◌≡◌, ℕ, ◌+◌, List, [], ◌∷◌, ◌++◌, Bool, true, false, refl, sym, ap, ◌∙◌, subst, inl, inr, if◌then◌else◌}
use Rattle.std.specs.Prelude.{codes}
use Rattle.std.specs.List.{flat_map}
use Rattle.std.proofs.lemmas.Bool.{both_ways, or_left, or_right}
use Rattle.ped_base.specs.Lists.{is_among}
use Rattle.ped_base.proofs.NameEquality.{same_itself}
use Rattle.ped_tree.specs.Tree.{ExprTree, ExprTrees, Int, Var, Element, Neg, Add, Sub, Mul, Div, Pow, Call, no_exprs, more_exprs, CondTree, Rel, Not, And, Or, ItemTree, Value, Text, Head, StmtTree, StmtTrees, Assign, If, Do, Print, Read, Stop, Comment, no_stmts, more_stmts, ProgramTree}
use Rattle.ped_tree.specs.Accesses.{Access, listed, read_of, write_of, unless_constant, expr_reads, exprs_reads, cond_reads, left_accesses, item_reads, private_writes, own_accesses, constant_names}
use Rattle.ped_tree.specs.Grammar.Words.{is_name}
use Rattle.ped_tree.specs.NamesIn.{expr_names, exprs_names, cond_names, item_names, head_names, stmt_names, stmts_names}
use Rattle.ped_tree.specs.Nests.{Loop, indices_of}
use Rattle.ped_tree.specs.Numbering.{statement_count, statements_count}
use Rattle.ped_tree.proofs.NameLaws.Collected.{among_append}
use Rattle.ped_loop_runs.specs.ped_laws.specs.Acts.Orders.{IsIn}
use Rattle.ped_loop_runs.specs.ped_laws.proofs.ActLaws.Lists.{in_parts}
use Rattle.ped_loop_runs.specs.ped_laws.proofs.ConflictLaws.CoveringWrites.{own_access}
use Rattle.ped_refs.specs.References.{Reference, numbered_accesses, statement_references, statements_references, references}

module _ (c : List (List ℕ)) where
  -- each access of something with a name is of one of these names, which is no named constant
  abbrev Named : List (List ℕ) → List Access → Type 0
  Named names accesses = (a : Access) → IsIn a accesses → is_name a.name ≡ true → (is_among a.name names ≡ true) × (is_among a.name c ≡ false)

  none_named : (names : List (List ℕ)) → Named names []
  none_named names a i name = absurd i

  first_among : (x : List ℕ) (u v : List (List ℕ)) → is_among x u ≡ true → is_among x (u ++ v) ≡ true
  first_among x u v h = among_append x u v ∙ or_left (is_among x u) (is_among x v) h

  second_among : (x : List ℕ) (u v : List (List ℕ)) → is_among x v ≡ true → is_among x (u ++ v) ≡ true
  second_among x u v h = among_append x u v ∙ or_right (is_among x u) (is_among x v) h

  in_first : (u v : List (List ℕ)) (p : List Access) → Named u p → Named (u ++ v) p
  in_first u v p h a i name = let k = h a i name in (first_among a.name u v k.0, k.1)

  in_second : (u v : List (List ℕ)) (p : List Access) → Named v p → Named (u ++ v) p
  in_second u v p h a i name = let k = h a i name in (second_among a.name u v k.0, k.1)

  both_named : (names : List (List ℕ)) (p q : List Access) → Named names p → Named names q → Named names (p ++ q)
  both_named names p q h k a i name = elim (in_parts a p q i) [ inl j ↦ h a j name | inr j ↦ k a j name ]

  parts_named : (u v : List (List ℕ)) (p q : List Access) → Named u p → Named v q → Named (u ++ v) (p ++ q)
  parts_named u v p q h k = both_named (u ++ v) p q (in_first u v p h) (in_second u v q k)

  turned_named : (u v : List (List ℕ)) (p q : List Access) → Named u p → Named v q → Named (u ++ v) (q ++ p)
  turned_named u v p q h k = both_named (u ++ v) q p (in_second u v q k) (in_first u v p h)

  -- one access, unless it is of a named constant
  once_named : (a : Access) (names : List (List ℕ)) → Named (a.name ∷ names) (unless_constant c a)
  once_named a names b i name = by (is_among a.name c) refl i
    where
      by : (r : Bool) → is_among a.name c ≡ r → IsIn b (if r then [] else a ∷ []) → (is_among b.name (a.name ∷ names) ≡ true) × (is_among b.name c ≡ false)
      by true e i = absurd i
      by false e (inl same) = subst (λ (z : Access). (is_among z.name (a.name ∷ names) ≡ true) × (is_among z.name c ≡ false)) (sym same) (or_left _ _ (same_itself a.name), e)
      by false e (inr i) = absurd i

  -- data and output
  unnamed : (a : Access) (names : List (List ℕ)) → is_name a.name ≡ false → Named names (a ∷ [])
  unnamed a names none b (inl same) name = absurd (both_ways (is_name a.name) none (ap (λ (z : Access). is_name z.name) (sym same) ∙ name))
  unnamed a names none b (inr i) name = absurd i

  module _ (indices : List (List ℕ)) where
    scalar_named : (x : List ℕ) → Named (x ∷ []) (if is_among x indices then [] else unless_constant c (read_of x []))
    scalar_named x = by (is_among x indices)
      where
        by : (r : Bool) → Named (x ∷ []) (if r then [] else unless_constant c (read_of x []))
        by true = none_named (x ∷ [])
        by false = once_named (read_of x []) []

    mutual
      expr_named : (e : ExprTree) → Named (expr_names e) (expr_reads c indices e)
      expr_named (Int n) = none_named []
      expr_named (Var x) = scalar_named x
      expr_named (Element x es) = both_named (x ∷ exprs_names es) (exprs_reads c indices es) (unless_constant c (read_of x (listed es))) (in_second (x ∷ []) (exprs_names es) (exprs_reads c indices es) (exprs_named es)) (once_named (read_of x (listed es)) (exprs_names es))
      expr_named (Neg a) = expr_named a
      expr_named (Add a b) = parts_named (expr_names a) (expr_names b) (expr_reads c indices a) (expr_reads c indices b) (expr_named a) (expr_named b)
      expr_named (Sub a b) = parts_named (expr_names a) (expr_names b) (expr_reads c indices a) (expr_reads c indices b) (expr_named a) (expr_named b)
      expr_named (Mul a b) = parts_named (expr_names a) (expr_names b) (expr_reads c indices a) (expr_reads c indices b) (expr_named a) (expr_named b)
      expr_named (Div a b) = parts_named (expr_names a) (expr_names b) (expr_reads c indices a) (expr_reads c indices b) (expr_named a) (expr_named b)
      expr_named (Pow a b) = parts_named (expr_names a) (expr_names b) (expr_reads c indices a) (expr_reads c indices b) (expr_named a) (expr_named b)
      expr_named (Call f es) = exprs_named es

      exprs_named : (es : ExprTrees) → Named (exprs_names es) (exprs_reads c indices es)
      exprs_named no_exprs = none_named []
      exprs_named (more_exprs e rest) = parts_named (expr_names e) (exprs_names rest) (expr_reads c indices e) (exprs_reads c indices rest) (expr_named e) (exprs_named rest)

    cond_named : (d : CondTree) → Named (cond_names d) (cond_reads c indices d)
    cond_named (Rel r a b) = parts_named (expr_names a) (expr_names b) (expr_reads c indices a) (expr_reads c indices b) (expr_named a) (expr_named b)
    cond_named (Not a) = cond_named a
    cond_named (And a b) = parts_named (cond_names a) (cond_names b) (cond_reads c indices a) (cond_reads c indices b) (cond_named a) (cond_named b)
    cond_named (Or a b) = parts_named (cond_names a) (cond_names b) (cond_reads c indices a) (cond_reads c indices b) (cond_named a) (cond_named b)

    left_named : (e : ExprTree) → Named (expr_names e) (left_accesses c indices e)
    left_named (Var x) = once_named (write_of x []) []
    left_named (Element x es) = both_named (x ∷ exprs_names es) (exprs_reads c indices es) (unless_constant c (write_of x (listed es))) (in_second (x ∷ []) (exprs_names es) (exprs_reads c indices es) (exprs_named es)) (once_named (write_of x (listed es)) (exprs_names es))
    left_named (Int n) = none_named []
    left_named (Neg a) = none_named (expr_names a)
    left_named (Add a b) = none_named (expr_names a ++ expr_names b)
    left_named (Sub a b) = none_named (expr_names a ++ expr_names b)
    left_named (Mul a b) = none_named (expr_names a ++ expr_names b)
    left_named (Div a b) = none_named (expr_names a ++ expr_names b)
    left_named (Pow a b) = none_named (expr_names a ++ expr_names b)
    left_named (Call f es) = none_named (exprs_names es)

    item_named : (i : ItemTree) → Named (item_names i) (item_reads c indices i)
    item_named (Value e) = expr_named e
    item_named (Text text) = none_named []

    items_named : (items : List ItemTree) → Named (flat_map item_names items) (flat_map (item_reads c indices) items)
    items_named [] = none_named []
    items_named (i ∷ rest) = parts_named (item_names i) (flat_map item_names rest) (item_reads c indices i) (flat_map (item_reads c indices) rest) (item_named i) (items_named rest)

    lefts_named : (items : List ExprTree) → Named (flat_map expr_names items) (flat_map (left_accesses c indices) items)
    lefts_named [] = none_named []
    lefts_named (e ∷ rest) = parts_named (expr_names e) (flat_map expr_names rest) (left_accesses c indices e) (flat_map (left_accesses c indices) rest) (left_named e) (lefts_named rest)

  privates_named : (names : List (List ℕ)) → Named names (private_writes c names)
  privates_named [] = none_named []
  privates_named (x ∷ xs) = both_named (x ∷ xs) (unless_constant c (write_of x [])) (private_writes c xs) (once_named (write_of x []) xs) (in_second (x ∷ []) xs (private_writes c xs) (privates_named xs))

  -- what a DO's header refers to
  head_named : (indices : List (List ℕ)) (h : Head) → Named (head_names h) (expr_reads c indices h.first ++ expr_reads c indices h.last ++ private_writes c h.private)
  head_named indices h =
      in_second h.rejected (h.variable ∷ (expr_names h.first ++ expr_names h.last ++ expr_names h.step ++ h.private)) _
      (in_second (h.variable ∷ []) (expr_names h.first ++ expr_names h.last ++ expr_names h.step ++ h.private) _ bounds)
    where
      firsts : Named (expr_names h.first ++ expr_names h.last) (expr_reads c indices h.first ++ expr_reads c indices h.last)
      firsts = parts_named (expr_names h.first) (expr_names h.last) (expr_reads c indices h.first) (expr_reads c indices h.last) (expr_named indices h.first) (expr_named indices h.last)

      bounds : Named (expr_names h.first ++ expr_names h.last ++ expr_names h.step ++ h.private) (expr_reads c indices h.first ++ expr_reads c indices h.last ++ private_writes c h.private)
      bounds = parts_named (expr_names h.first ++ expr_names h.last ++ expr_names h.step) h.private (expr_reads c indices h.first ++ expr_reads c indices h.last) (private_writes c h.private)
          (in_first (expr_names h.first ++ expr_names h.last) (expr_names h.step) (expr_reads c indices h.first ++ expr_reads c indices h.last) firsts) (privates_named h.private)

  -- each reference to something with a name is to one of these names
  abbrev Refers : List (List ℕ) → List Reference → Type 0
  Refers names refs = (r : Reference) → IsIn r refs → is_name r.access.name ≡ true → (is_among r.access.name names ≡ true) × (is_among r.access.name c ≡ false)

  own_refers : (names : List (List ℕ)) (n : ℕ) (nest : List Loop) (accesses : List Access) → Named names accesses → Refers names (numbered_accesses n 1 nest accesses)
  own_refers names n nest accesses h r i name = h r.access (own_access n 1 nest accesses r i).2 name

  parts_refer : (u v : List (List ℕ)) (p q : List Reference) → Refers u p → Refers v q → Refers (u ++ v) (p ++ q)
  parts_refer u v p q h k r i name = elim (in_parts r p q i) [
    | inl j ↦ (let f = h r j name in (first_among r.access.name u v f.0, f.1))
    | inr j ↦ (let g = k r j name in (second_among r.access.name u v g.0, g.1))
  ]

  mutual
    statement_refers : (nest : List Loop) (n : ℕ) (s : StmtTree) → Refers (stmt_names s) (statement_references c nest n s)
    statement_refers nest n (Assign left right) =
        own_refers (expr_names left ++ expr_names right) n nest (own_accesses c (indices_of nest) (Assign left right))
        (turned_named (expr_names left) (expr_names right) (left_accesses c (indices_of nest) left) (expr_reads c (indices_of nest) right) (left_named (indices_of nest) left) (expr_named (indices_of nest) right))
    statement_refers nest n (If d a b) =
        parts_refer (cond_names d ++ stmts_names a) (stmts_names b) (numbered_accesses n 1 nest (own_accesses c (indices_of nest) (If d a b)) ++ statements_references c nest (n + 1) a) (statements_references c nest (n + 1 + statements_count a) b)
        (parts_refer (cond_names d) (stmts_names a) (numbered_accesses n 1 nest (own_accesses c (indices_of nest) (If d a b))) (statements_references c nest (n + 1) a)
        (own_refers (cond_names d) n nest (own_accesses c (indices_of nest) (If d a b)) (cond_named (indices_of nest) d)) (statements_refer nest (n + 1) a))
        (statements_refer nest (n + 1 + statements_count a) b)
    statement_refers nest n (Do h body) =
        parts_refer (head_names h) (stmts_names body) (numbered_accesses n 1 nest (own_accesses c (indices_of nest) (Do h body))) (statements_references c (nest ++ (record { number = n; head = h }) ∷ []) (n + 1) body)
        (own_refers (head_names h) n nest (own_accesses c (indices_of nest) (Do h body)) (head_named (indices_of nest) h))
        (statements_refer (nest ++ (record { number = n; head = h }) ∷ []) (n + 1) body)
    statement_refers nest n (Print items) =
        own_refers (flat_map item_names items) n nest (own_accesses c (indices_of nest) (Print items))
        (both_named (flat_map item_names items) (flat_map (item_reads c (indices_of nest)) items) (write_of (codes "(OUT)") [] ∷ []) (items_named (indices_of nest) items) (unnamed (write_of (codes "(OUT)") []) (flat_map item_names items) refl))
    statement_refers nest n (Read items) =
        own_refers (flat_map expr_names items) n nest (own_accesses c (indices_of nest) (Read items))
        (both_named (flat_map expr_names items) (write_of (codes "(IN)") [] ∷ []) (flat_map (left_accesses c (indices_of nest)) items) (unnamed (write_of (codes "(IN)") []) (flat_map expr_names items) refl) (lefts_named (indices_of nest) items))
    statement_refers nest n Stop = λ r i name. absurd i
    statement_refers nest n (Comment text) = λ r i name. absurd i

    statements_refer : (nest : List Loop) (n : ℕ) (ss : StmtTrees) → Refers (stmts_names ss) (statements_references c nest n ss)
    statements_refer nest n no_stmts = λ r i name. absurd i
    statements_refer nest n (more_stmts s rest) =
        parts_refer (stmt_names s) (stmts_names rest) (statement_references c nest n s) (statements_references c nest (n + statement_count s) rest) (statement_refers nest n s) (statements_refer nest (n + statement_count s) rest)

-- in a program
pub reference_named : (t : ProgramTree) (r : Reference) → IsIn r (references t) → is_name r.access.name ≡ true → (is_among r.access.name (stmts_names t.body) ≡ true) × (is_among r.access.name (constant_names t.decls) ≡ false)
reference_named t r i name = statements_refer (constant_names t.decls) [] 1 t.body r i name

-- No reference has a name that doesn't stand in the statements and is none of those of input and output.
use Rattle.std.proofs.Common.{◌≡◌, ℕ, ◌+◌, List, [], ◌∷◌, ◌++◌, Bool, true, false, if◌then◌else◌, sym, ap, ◌∙◌, inl, inr}
use Rattle.std.specs.Prelude.{codes}
use Rattle.std.specs.List.{flat_map}
use Rattle.ped_base.specs.Lists.{is_same_text, is_among}
use Rattle.ped_tree.proofs.NameLaws.Collected.{among_append}
use Rattle.ped_tree.specs.Tree.{ExprTree, ExprTrees, Int, Var, Element, Neg, Add, Sub, Mul, Div, Pow, Call, no_exprs, more_exprs, CondTree, Rel, Not, And, Or, ItemTree, Value, Text, Head, StmtTree, StmtTrees, Assign, If, Do, Print, Read, Stop, Comment, no_stmts, more_stmts}
use Rattle.ped_tree.specs.Accesses.{Access, read_of, write_of, unless_constant, expr_reads, exprs_reads, cond_reads, left_accesses, item_reads, private_writes, own_accesses, listed}
use Rattle.ped_tree.specs.Nests.{Loop, indices_of}
use Rattle.ped_tree.specs.NamesIn.{expr_names, exprs_names, cond_names, item_names, head_names, stmt_names, stmts_names}
use Rattle.ped_tree.specs.Numbering.{statement_count, statements_count}
use Rattle.ped_refs.specs.References.{Reference, numbered_accesses, statement_references, statements_references}
use Rattle.ped_rules.specs.ped_flow.proofs.Truths.{or_none}
use Rattle.ped_rules.specs.ped_laws.specs.Acts.Orders.{IsIn}
use Rattle.ped_rules.specs.ped_laws.proofs.ActLaws.Lists.{in_parts}
use Rattle.ped_rules.specs.ped_laws.proofs.ConflictLaws.CoveringWrites.{own_access}

module _ (x : List ℕ) (cs : List (List ℕ)) where
  -- none of these has the name
  abbrev Apart : List Access → Type 0
  Apart accesses = (a : Access) → IsIn a accesses → is_same_text x a.name ≡ false

  none_apart : Apart []
  none_apart a i = absurd i

  both_apart : (p q : List Access) → Apart p → Apart q → Apart (p ++ q)
  both_apart p q h k a i = elim (in_parts a p q i) [ inl j ↦ h a j | inr j ↦ k a j ]

  parts : (xs ys : List (List ℕ)) → is_among x (xs ++ ys) ≡ false → (is_among x xs ≡ false) × (is_among x ys ≡ false)
  parts xs ys h = or_none (is_among x xs) (is_among x ys) (sym (among_append x xs ys) ∙ h)

  one_apart : (b : Bool) (one : Access) → is_same_text x one.name ≡ false → Apart (if b then [] else one ∷ [])
  one_apart true one h a i = absurd i
  one_apart false one h a (inl e) = ap (λ (z : Access). is_same_text x z.name) e ∙ h
  one_apart false one h a (inr i) = absurd i

  module _ (indices : List (List ℕ)) where
    index_apart : (b : Bool) (y : List ℕ) → is_same_text x y ≡ false → Apart (if b then [] else unless_constant cs (read_of y []))
    index_apart true y h = none_apart
    index_apart false y h = one_apart (is_among y cs) (read_of y []) h

    mutual
      expr_apart : (e : ExprTree) → is_among x (expr_names e) ≡ false → Apart (expr_reads cs indices e)
      expr_apart (Int n) h = none_apart
      expr_apart (Var y) h = index_apart (is_among y indices) y (or_none (is_same_text x y) false h).0
      expr_apart (Element y es) h =
          let p = or_none (is_same_text x y) (is_among x (exprs_names es)) h in
          both_apart (exprs_reads cs indices es) (unless_constant cs (read_of y (listed es))) (exprs_apart es p.1) (one_apart (is_among y cs) (read_of y (listed es)) p.0)
      expr_apart (Neg a) h = expr_apart a h
      expr_apart (Add a b) h = let p = parts (expr_names a) (expr_names b) h in both_apart (expr_reads cs indices a) (expr_reads cs indices b) (expr_apart a p.0) (expr_apart b p.1)
      expr_apart (Sub a b) h = let p = parts (expr_names a) (expr_names b) h in both_apart (expr_reads cs indices a) (expr_reads cs indices b) (expr_apart a p.0) (expr_apart b p.1)
      expr_apart (Mul a b) h = let p = parts (expr_names a) (expr_names b) h in both_apart (expr_reads cs indices a) (expr_reads cs indices b) (expr_apart a p.0) (expr_apart b p.1)
      expr_apart (Div a b) h = let p = parts (expr_names a) (expr_names b) h in both_apart (expr_reads cs indices a) (expr_reads cs indices b) (expr_apart a p.0) (expr_apart b p.1)
      expr_apart (Pow a b) h = let p = parts (expr_names a) (expr_names b) h in both_apart (expr_reads cs indices a) (expr_reads cs indices b) (expr_apart a p.0) (expr_apart b p.1)
      expr_apart (Call f es) h = exprs_apart es h

      exprs_apart : (es : ExprTrees) → is_among x (exprs_names es) ≡ false → Apart (exprs_reads cs indices es)
      exprs_apart no_exprs h = none_apart
      exprs_apart (more_exprs e rest) h = let p = parts (expr_names e) (exprs_names rest) h in both_apart (expr_reads cs indices e) (exprs_reads cs indices rest) (expr_apart e p.0) (exprs_apart rest p.1)

    cond_apart : (c : CondTree) → is_among x (cond_names c) ≡ false → Apart (cond_reads cs indices c)
    cond_apart (Rel r a b) h = let p = parts (expr_names a) (expr_names b) h in both_apart (expr_reads cs indices a) (expr_reads cs indices b) (expr_apart a p.0) (expr_apart b p.1)
    cond_apart (Not a) h = cond_apart a h
    cond_apart (And a b) h = let p = parts (cond_names a) (cond_names b) h in both_apart (cond_reads cs indices a) (cond_reads cs indices b) (cond_apart a p.0) (cond_apart b p.1)
    cond_apart (Or a b) h = let p = parts (cond_names a) (cond_names b) h in both_apart (cond_reads cs indices a) (cond_reads cs indices b) (cond_apart a p.0) (cond_apart b p.1)

    left_apart : (e : ExprTree) → is_among x (expr_names e) ≡ false → Apart (left_accesses cs indices e)
    left_apart (Var y) h = one_apart (is_among y cs) (write_of y []) (or_none (is_same_text x y) false h).0
    left_apart (Element y es) h =
        let p = or_none (is_same_text x y) (is_among x (exprs_names es)) h in
        both_apart (exprs_reads cs indices es) (unless_constant cs (write_of y (listed es))) (exprs_apart es p.1) (one_apart (is_among y cs) (write_of y (listed es)) p.0)
    left_apart (Int n) h = none_apart
    left_apart (Neg a) h = none_apart
    left_apart (Add a b) h = none_apart
    left_apart (Sub a b) h = none_apart
    left_apart (Mul a b) h = none_apart
    left_apart (Div a b) h = none_apart
    left_apart (Pow a b) h = none_apart
    left_apart (Call f es) h = none_apart

    lefts_apart : (es : List ExprTree) → is_among x (flat_map expr_names es) ≡ false → Apart (flat_map (left_accesses cs indices) es)
    lefts_apart [] h = none_apart
    lefts_apart (e ∷ es) h = let p = parts (expr_names e) (flat_map expr_names es) h in both_apart (left_accesses cs indices e) (flat_map (left_accesses cs indices) es) (left_apart e p.0) (lefts_apart es p.1)

    item_apart : (i : ItemTree) → is_among x (item_names i) ≡ false → Apart (item_reads cs indices i)
    item_apart (Value e) h = expr_apart e h
    item_apart (Text t) h = none_apart

    items_apart : (is : List ItemTree) → is_among x (flat_map item_names is) ≡ false → Apart (flat_map (item_reads cs indices) is)
    items_apart [] h = none_apart
    items_apart (i ∷ is) h = let p = parts (item_names i) (flat_map item_names is) h in both_apart (item_reads cs indices i) (flat_map (item_reads cs indices) is) (item_apart i p.0) (items_apart is p.1)

    private_apart : (ys : List (List ℕ)) → is_among x ys ≡ false → Apart (private_writes cs ys)
    private_apart [] h = none_apart
    private_apart (y ∷ ys) h =
        let p = or_none (is_same_text x y) (is_among x ys) h in
        both_apart (unless_constant cs (write_of y [])) (private_writes cs ys) (one_apart (is_among y cs) (write_of y []) p.0) (private_apart ys p.1)

    head_apart : (h : Head) → is_among x (head_names h) ≡ false → Apart (expr_reads cs indices h.first ++ expr_reads cs indices h.last ++ private_writes cs h.private)
    head_apart h k =
        let rest = (or_none (is_same_text x h.variable) (is_among x (expr_names h.first ++ expr_names h.last ++ expr_names h.step ++ h.private)) (parts h.rejected (h.variable ∷ (expr_names h.first ++ expr_names h.last ++ expr_names h.step ++ h.private)) k).1).1 in
        let private = parts (expr_names h.first ++ expr_names h.last ++ expr_names h.step) h.private rest in
        let step = parts (expr_names h.first ++ expr_names h.last) (expr_names h.step) private.0 in
        let bounds = parts (expr_names h.first) (expr_names h.last) step.0 in
        both_apart (expr_reads cs indices h.first ++ expr_reads cs indices h.last) (private_writes cs h.private)
        (both_apart (expr_reads cs indices h.first) (expr_reads cs indices h.last) (expr_apart h.first bounds.0) (expr_apart h.last bounds.1)) (private_apart h.private private.1)

  module _ (input : is_same_text x (codes "(IN)") ≡ false) (output : is_same_text x (codes "(OUT)") ≡ false) where
    single_apart : (one : Access) → is_same_text x one.name ≡ false → Apart (one ∷ [])
    single_apart one h a (inl e) = ap (λ (z : Access). is_same_text x z.name) e ∙ h
    single_apart one h a (inr i) = absurd i

    -- none of these references has it
    abbrev Unnamed : List Reference → Type 0
    Unnamed refs = (r : Reference) → IsIn r refs → is_same_text x r.access.name ≡ false

    none_unnamed : Unnamed []
    none_unnamed r i = absurd i

    own_unnamed : (n : ℕ) (nest : List Loop) (accesses : List Access) → Apart accesses → Unnamed (numbered_accesses n 1 nest accesses)
    own_unnamed n nest accesses h r i = h r.access (own_access n 1 nest accesses r i).2

    both_unnamed : (p q : List Reference) → Unnamed p → Unnamed q → Unnamed (p ++ q)
    both_unnamed p q h k r i = elim (in_parts r p q i) [ inl j ↦ h r j | inr j ↦ k r j ]

    mutual
      one_unnamed : (nest : List Loop) (n : ℕ) (s : StmtTree) → is_among x (stmt_names s) ≡ false → Unnamed (statement_references cs nest n s)
      one_unnamed nest n (Assign left right) h =
          let p = parts (expr_names left) (expr_names right) h in
          own_unnamed n nest (own_accesses cs (indices_of nest) (Assign left right))
          (both_apart (expr_reads cs (indices_of nest) right) (left_accesses cs (indices_of nest) left) (expr_apart (indices_of nest) right p.1) (left_apart (indices_of nest) left p.0))
      one_unnamed nest n (If c a b) h =
          let p = parts (cond_names c ++ stmts_names a) (stmts_names b) h in
          let q = parts (cond_names c) (stmts_names a) p.0 in
          let own = numbered_accesses n 1 nest (own_accesses cs (indices_of nest) (If c a b)) in
          both_unnamed (own ++ statements_references cs nest (n + 1) a) (statements_references cs nest (n + 1 + statements_count a) b)
          (both_unnamed own (statements_references cs nest (n + 1) a) (own_unnamed n nest (own_accesses cs (indices_of nest) (If c a b)) (cond_apart (indices_of nest) c q.0)) (all_unnamed nest (n + 1) a q.1))
          (all_unnamed nest (n + 1 + statements_count a) b p.1)
      one_unnamed nest n (Do h body) k =
          let p = parts (head_names h) (stmts_names body) k in
          let inner = nest ++ (record { number = n; head = h }) ∷ [] in
          both_unnamed (numbered_accesses n 1 nest (own_accesses cs (indices_of nest) (Do h body))) (statements_references cs inner (n + 1) body)
          (own_unnamed n nest (own_accesses cs (indices_of nest) (Do h body)) (head_apart (indices_of nest) h p.0)) (all_unnamed inner (n + 1) body p.1)
      one_unnamed nest n (Print items) h =
          own_unnamed n nest (own_accesses cs (indices_of nest) (Print items))
          (both_apart (flat_map (item_reads cs (indices_of nest)) items) (write_of (codes "(OUT)") [] ∷ []) (items_apart (indices_of nest) items h) (single_apart (write_of (codes "(OUT)") []) output))
      one_unnamed nest n (Read items) h =
          own_unnamed n nest (own_accesses cs (indices_of nest) (Read items))
          (both_apart (write_of (codes "(IN)") [] ∷ []) (flat_map (left_accesses cs (indices_of nest)) items) (single_apart (write_of (codes "(IN)") []) input) (lefts_apart (indices_of nest) items h))
      one_unnamed nest n Stop h = none_unnamed
      one_unnamed nest n (Comment text) h = none_unnamed

      pub all_unnamed : (nest : List Loop) (n : ℕ) (ss : StmtTrees) → is_among x (stmts_names ss) ≡ false → Unnamed (statements_references cs nest n ss)
      all_unnamed nest n no_stmts h = none_unnamed
      all_unnamed nest n (more_stmts s rest) h =
          let p = parts (stmt_names s) (stmts_names rest) h in
          both_unnamed (statement_references cs nest n s) (statements_references cs nest (n + statement_count s) rest) (one_unnamed nest n s p.0) (all_unnamed nest (n + statement_count s) rest p.1)

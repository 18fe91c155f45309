-- What a DO writes by references of its own: its PRIVATE names.
use Rattle.std.proofs.Common.{◌≡◌, ℕ, suc, ◌+◌, ◌-◌, List, [], ◌∷◌, ◌++◌, length, Bool, true, false, ◌||◌, refl, sym, ap, ◌∙◌, subst, inl, inr, arith, Some, None, if◌then◌else◌}
use Rattle.std.specs.Prelude.{◌==◌}
use Rattle.std.proofs.lemmas.Bool.{both_ways}
use Rattle.std.proofs.lemmas.Bool.Decides.{nat_tests}
use Rattle.ped_flow.specs.ped_base.specs.Lists.{is_same_text, is_among}
use Rattle.ped_flow.specs.ped_tree.specs.Tree.{ExprTree, ExprTrees, Int, Var, Element, Neg, Add, Sub, Mul, Div, Pow, Call, no_exprs, more_exprs, Head, StmtTree, StmtTrees, Assign, If, Do, Print, Read, Stop, Comment, no_stmts, more_stmts, ProgramTree}
use Rattle.ped_flow.specs.ped_tree.specs.Accesses.{Access, listed, read_of, write_of, unless_constant, expr_reads, exprs_reads, private_writes, own_accesses, constant_names}
use Rattle.ped_flow.specs.ped_tree.specs.Nests.{Loop, indices_of}
use Rattle.ped_flow.specs.ped_tree.specs.Numbering.{numbered, all_numbered, at_place, statement_with, statement_count, statements_count}
use Rattle.ped_flow.specs.ped_tree.proofs.Numbers.{length-numbered, length-all_numbered, at_place-front, at_place-back}
use Rattle.ped_graph.specs.ped_refs.specs.References.{Reference, numbered_accesses, statement_references, statements_references, references}
use Rattle.ped_laws.specs.Acts.Orders.{IsIn}
use Rattle.ped_laws.proofs.ActLaws.Lists.{in_parts}
use Rattle.ped_laws.proofs.ActLaws.Renamings.{or_right}
use Rattle.ped_laws.proofs.CoveringLaws.Texts.{text_itself}

-- a reference is one of the accesses of its statement, which stands at this place of a list
pub record IsLocated (c : List (List ℕ)) (n : ℕ) (ss : List StmtTree) (r : Reference) : Type 0 where
  pub place : ℕ
  pub s : StmtTree
  pub statement : r.statement ≡ n + place
  pub stands : at_place ss place ≡ Some s
  pub own : IsIn r.access (own_accesses c (indices_of r.nest) s)

pub own_access : (n k : ℕ) (nest : List Loop) (accesses : List Access) (r : Reference) → IsIn r (numbered_accesses n k nest accesses) → (r.statement ≡ n) × (r.nest ≡ nest) × IsIn r.access accesses
own_access n k nest [] r i = absurd i
own_access n k nest (a ∷ rest) r (inl e) = (ap (λ (z : Reference). z.statement) e, ap (λ (z : Reference). z.nest) e, inl (ap (λ (z : Reference). z.access) e))
own_access n k nest (a ∷ rest) r (inr i) = let more = own_access n (suc k) nest rest r i in (more.0, more.1, inr more.2)

module _ (c : List (List ℕ)) where
  own_located : (nest : List Loop) (n : ℕ) (s : StmtTree) (xs : List StmtTree) (r : Reference) → IsIn r (numbered_accesses n 1 nest (own_accesses c (indices_of nest) s)) → IsLocated c n (s ∷ xs) r
  own_located nest n s xs r i =
      let o = own_access n 1 nest (own_accesses c (indices_of nest) s) r i in
      record {
        place = 0;
        s = s;
        statement = o.0 ∙ omega arith;
        stands = refl;
        own = subst (λ (ls : List Loop). IsIn r.access (own_accesses c (indices_of ls) s)) (sym o.1) o.2;
      }

  located_left : (n : ℕ) (xs ys : List StmtTree) (r : Reference) → IsLocated c n xs r → IsLocated c n (xs ++ ys) r
  located_left n xs ys r h = record { place = h.place; s = h.s; statement = h.statement; stands = at_place-front xs ys h.place h.s h.stands; own = h.own }

  located_right : (n m : ℕ) (xs ys : List StmtTree) (r : Reference) → m ≡ n + length xs → IsLocated c m ys r → IsLocated c n (xs ++ ys) r
  located_right n m xs ys r e h = record { place = h.place + length xs; s = h.s; statement = omega (arith, h.statement, e); stands = at_place-back xs ys (h.place + length xs) h.place refl ∙ h.stands; own = h.own }

  mutual
    statement_located : (nest : List Loop) (n : ℕ) (s : StmtTree) (r : Reference) → IsIn r (statement_references c nest n s) → IsLocated c n (numbered s) r
    statement_located nest n (Assign left right) r i = own_located nest n (Assign left right) [] r i
    statement_located nest n (If condition a b) r i =
        elim (in_parts r (numbered_accesses n 1 nest (own_accesses c (indices_of nest) (If condition a b)) ++ statements_references c nest (n + 1) a) (statements_references c nest (n + 1 + statements_count a) b) i) [
          | inl j ↦ elim (in_parts r (numbered_accesses n 1 nest (own_accesses c (indices_of nest) (If condition a b))) (statements_references c nest (n + 1) a) j) [
            | inl k ↦ own_located nest n (If condition a b) (all_numbered a ++ all_numbered b) r k
            | inr k ↦ located_right n (n + 1) (If condition a b ∷ []) (all_numbered a ++ all_numbered b) r (omega arith) (located_left (n + 1) (all_numbered a) (all_numbered b) r (statements_located nest (n + 1) a r k))
          ]
          | inr j ↦ located_right n (n + 1) (If condition a b ∷ []) (all_numbered a ++ all_numbered b) r (omega arith)
              (located_right (n + 1) (n + 1 + statements_count a) (all_numbered a) (all_numbered b) r (omega (arith, length-all_numbered a)) (statements_located nest (n + 1 + statements_count a) b r j))
        ]
    statement_located nest n (Do h body) r i =
        elim (in_parts r (numbered_accesses n 1 nest (own_accesses c (indices_of nest) (Do h body))) (statements_references c (nest ++ (record { number = n; head = h }) ∷ []) (n + 1) body) i) [
          | inl k ↦ own_located nest n (Do h body) (all_numbered body) r k
          | inr k ↦ located_right n (n + 1) (Do h body ∷ []) (all_numbered body) r (omega arith) (statements_located (nest ++ (record { number = n; head = h }) ∷ []) (n + 1) body r k)
        ]
    statement_located nest n (Print items) r i = own_located nest n (Print items) [] r i
    statement_located nest n (Read items) r i = own_located nest n (Read items) [] r i
    statement_located nest n Stop r i = absurd i
    statement_located nest n (Comment text) r i = absurd i

    pub statements_located : (nest : List Loop) (n : ℕ) (ss : StmtTrees) (r : Reference) → IsIn r (statements_references c nest n ss) → IsLocated c n (all_numbered ss) r
    statements_located nest n no_stmts r i = absurd i
    statements_located nest n (more_stmts s rest) r i =
        elim (in_parts r (statement_references c nest n s) (statements_references c nest (n + statement_count s) rest) i) [
          | inl j ↦ located_left n (numbered s) (all_numbered rest) r (statement_located nest n s r j)
          | inr j ↦ located_right n (n + statement_count s) (numbered s) (all_numbered rest) r (omega (arith, length-numbered s)) (statements_located nest (n + statement_count s) rest r j)
        ]

-- the statement of a reference, of which it is one of the accesses
pub statement_of : (t : ProgramTree) (r : Reference) → IsIn r (references t) → (s : StmtTree) × (statement_with r.statement t ≡ Some s) × IsIn r.access (own_accesses (constant_names t.decls) (indices_of r.nest) s)
statement_of t r i =
    let h = statements_located (constant_names t.decls) [] 1 t.body r i in (
      h.s,
      ap (λ (n : ℕ). statement_with n t) h.statement ∙ ap (λ (b : Bool). if b then None else at_place (all_numbered t.body) (1 + h.place - 1)) (not_none h.place) ∙ ap (at_place (all_numbered t.body)) (one_less h.place) ∙ h.stands,
      h.own,
    )
  where
    not_none : (k : ℕ) → (1 + k == 0) ≡ false
    not_none k = grind (arith, nat_tests)

    one_less : (k : ℕ) → 1 + k - 1 ≡ k
    one_less k = omega arith

-- what an expression does are reads
abbrev pub AllRead : List Access → Type 0
AllRead accesses = (a : Access) → IsIn a accesses → a.writes ≡ false

pub read_append : (xs ys : List Access) → AllRead xs → AllRead ys → AllRead (xs ++ ys)
read_append xs ys h k a i = elim (in_parts a xs ys i) [ inl j ↦ h a j | inr j ↦ k a j ]

read_once : (c : List (List ℕ)) (x : List ℕ) (subscripts : List ExprTree) → AllRead (unless_constant c (read_of x subscripts))
read_once c x subscripts a i = go (is_among x c) i
  where
    go : (b : Bool) → IsIn a (if b then [] else read_of x subscripts ∷ []) → a.writes ≡ false
    go true i = absurd i
    go false (inl e) = ap (λ (z : Access). z.writes) e
    go false (inr i) = absurd i

none_read : AllRead []
none_read a i = absurd i

module _ (c indices : List (List ℕ)) where
  scalar_read : (x : List ℕ) → AllRead (if is_among x indices then [] else unless_constant c (read_of x []))
  scalar_read x a i = go (is_among x indices) i
    where
      go : (b : Bool) → IsIn a (if b then [] else unless_constant c (read_of x [])) → a.writes ≡ false
      go true i = absurd i
      go false i = read_once c x [] a i

  mutual
    pub expr_read : (e : ExprTree) → AllRead (expr_reads c indices e)
    expr_read (Int n) = none_read
    expr_read (Var x) = scalar_read x
    expr_read (Element x subscripts) = read_append (exprs_reads c indices subscripts) (unless_constant c (read_of x (listed subscripts))) (exprs_read subscripts) (read_once c x (listed subscripts))
    expr_read (Neg e) = expr_read e
    expr_read (Add e g) = read_append (expr_reads c indices e) (expr_reads c indices g) (expr_read e) (expr_read g)
    expr_read (Sub e g) = read_append (expr_reads c indices e) (expr_reads c indices g) (expr_read e) (expr_read g)
    expr_read (Mul e g) = read_append (expr_reads c indices e) (expr_reads c indices g) (expr_read e) (expr_read g)
    expr_read (Div e g) = read_append (expr_reads c indices e) (expr_reads c indices g) (expr_read e) (expr_read g)
    expr_read (Pow e g) = read_append (expr_reads c indices e) (expr_reads c indices g) (expr_read e) (expr_read g)
    expr_read (Call f arguments) = exprs_read arguments

    pub exprs_read : (es : ExprTrees) → AllRead (exprs_reads c indices es)
    exprs_read no_exprs = none_read
    exprs_read (more_exprs e rest) = read_append (expr_reads c indices e) (exprs_reads c indices rest) (expr_read e) (exprs_read rest)

pub private_write : (c names : List (List ℕ)) (a : Access) → IsIn a (private_writes c names) → (is_among a.name names ≡ true) × (a.subscripts ≡ [])
private_write c [] a i = absurd i
private_write c (x ∷ xs) a i = elim (in_parts a (unless_constant c (write_of x [])) (private_writes c xs) i) [
  | inl j ↦ go (is_among x c) j
  | inr j ↦ let more = private_write c xs a j in (or_right (is_same_text a.name x) (is_among a.name xs) more.0, more.1)
]
  where
    go : (b : Bool) → IsIn a (if b then [] else write_of x [] ∷ []) → (is_among a.name (x ∷ xs) ≡ true) × (a.subscripts ≡ [])
    go true i = absurd i
    go false (inl e) = (ap (λ (y : List ℕ). is_same_text y x || is_among y xs) (ap (λ (z : Access). z.name) e) ∙ ap (λ (b : Bool). b || is_among x xs) (text_itself x), ap (λ (z : Access). z.subscripts) e)
    go false (inr i) = absurd i

-- a reference of a DO that writes is that of a PRIVATE name
pub do_writes : (c indices : List (List ℕ)) (h : Head) (body : StmtTrees) (a : Access) → IsIn a (own_accesses c indices (Do h body)) → a.writes ≡ true → (is_among a.name h.private ≡ true) × (a.subscripts ≡ [])
do_writes c indices h body a i w = elim (in_parts a (expr_reads c indices h.first ++ expr_reads c indices h.last) (private_writes c h.private) i) [
  | inl j ↦ absurd (both_ways a.writes (read_append (expr_reads c indices h.first) (expr_reads c indices h.last) (expr_read c indices h.first) (expr_read c indices h.last) a j) w)
  | inr j ↦ private_write c h.private a j
]

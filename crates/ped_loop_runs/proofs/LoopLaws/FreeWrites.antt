-- Where statements write a scalar that is private to no DO round them, one of their references writes it that belongs to no DO: what a DO writes of its own PRIVATE names stands outside it.
use Rattle.std.proofs.Common.{◌≡◌, ℕ, suc, ◌+◌, List, [], ◌∷◌, ◌++◌, Bool, true, false, ◌&&◌, ◌||◌, Option, Some, None, if◌then◌else◌, refl, sym, ap, ◌∙◌, inl, inr, append_assoc}
use Rattle.std.specs.Prelude.{codes}
use Rattle.std.specs.List.{list_any, list_all, flat_map}
use Rattle.std.specs.Option.{option_or}
use Rattle.std.proofs.lemmas.Bool.{and_parts}
use Rattle.std.proofs.lemmas.List.{append-nil}
use Rattle.ped_bodies.specs.ped_flow.specs.ped_base.specs.Lists.{is_same_text, is_among}
use Rattle.ped_bodies.specs.ped_flow.specs.ped_base.proofs.NameEquality.{same_is}
use Rattle.ped_bodies.specs.ped_flow.specs.ped_tree.specs.Tree.{ExprTree, Int, Var, Element, Neg, Add, Sub, Mul, Div, Pow, Call, StmtTree, StmtTrees, Assign, If, Do, Print, Read, Stop, Comment, no_stmts, more_stmts}
use Rattle.ped_bodies.specs.ped_flow.specs.ped_tree.specs.Nests.{Loop, indices_of}
use Rattle.ped_bodies.specs.ped_flow.specs.ped_tree.specs.Numbering.{statement_count, statements_count}
use Rattle.ped_bodies.specs.ped_flow.specs.ped_tree.specs.Accesses.{Access, write_of, unless_constant, expr_reads, item_reads, left_accesses, private_writes, own_accesses}
use Rattle.ped_bodies.specs.ped_refs.specs.References.{Reference, numbered_accesses, statement_references, statements_references, innermost_private}
use Rattle.ped_bodies.specs.ped_symbols.specs.Uses.{expr_count}
use Rattle.ped_bodies.specs.ped_symbols.specs.declared.symbols.Kind.{Kind}
use Rattle.ped_bodies.specs.ped_symbols.specs.declared.symbols.Kind.TheVariants.{Scalar, Array, Constant}
use Rattle.ped_bodies.specs.ped_symbols.specs.RightUses.RightUses.{NameKinds, is_scalar_kind, is_array_kind, is_scalar, expr_is_right, exprs_are_right, target_is_right, cond_is_right, head_is_right, stmt_is_right, stmts_are_right, has_rank, is_rank}
use Rattle.ped_bodies.specs.ped_laws.specs.Acts.Orders.{IsIn}
use Rattle.ped_bodies.specs.ped_laws.proofs.ActLaws.Lists.{in_left, in_right}
use Rattle.ped_bodies.specs.ped_flow.proofs.Truths.{untrue, or_split, or_none}
use Rattle.ped_loop_runs.specs.Writing.{writes_name, writes_left, writes_itself, writes, all_write}

no_array : (k : NameKinds) (v : List ℕ) (n : ℕ) → is_scalar k v ≡ true → has_rank k n v ≡ true → ⊥
no_array k v n s r = go (k v) s r
  where
    go : (o : Option Kind) → is_scalar_kind o ≡ true → is_array_kind n o ≡ true → ⊥
    go None s r = untrue s
    go (Some Scalar) s r = untrue r
    go (Some (Array d)) s r = untrue s
    go (Some (Constant m)) s r = untrue s

-- a DO further in that doesn't name the variable is its owner neither
pub more_free : (w : List ℕ) (nest : List Loop) (l : Loop) → innermost_private w nest ≡ None → is_among w l.head.private ≡ false → innermost_private w (nest ++ l ∷ []) ≡ None
more_free w nest l free apart = same nest ∙ free
  where
    same : (ls : List Loop) → innermost_private w (ls ++ l ∷ []) ≡ innermost_private w ls
    same [] = ap (λ (b : Bool). option_or None (if b then Some l else None)) apart
    same (m ∷ ls) = ap (λ (o : Option Loop). option_or o (if is_among w m.head.private then Some m else None)) (same ls)

module _ (cs : List (List ℕ)) (k : NameKinds) (w : List ℕ) (scalar : is_scalar k w ≡ true) (named : is_among w cs ≡ false) where
  -- one of these accesses writes the scalar
  record IsWriteAmong (accesses : List Access) : Type 0 where
    access : Access
    among : IsIn access accesses
    name : access.name ≡ w
    writes : access.writes ≡ true
    bare : access.subscripts ≡ []

  first_among : (xs ys : List Access) → IsWriteAmong xs → IsWriteAmong (xs ++ ys)
  first_among xs ys h = record { access = h.access; among = in_left h.access xs ys h.among; name = h.name; writes = h.writes; bare = h.bare }

  second_among : (xs ys : List Access) → IsWriteAmong ys → IsWriteAmong (xs ++ ys)
  second_among xs ys h = record { access = h.access; among = in_right h.access xs ys h.among; name = h.name; writes = h.writes; bare = h.bare }

  written : (y : List ℕ) → writes_name cs w y ≡ true → IsWriteAmong (unless_constant cs (write_of y []))
  written y h = go (is_among y cs) h
    where
      go : (b : Bool) → (if b then false else is_same_text w y) ≡ true → IsWriteAmong (if b then [] else write_of y [] ∷ [])
      go true e = untrue e
      go false e = record { access = write_of y []; among = inl refl; name = sym (same_is w y e); writes = refl; bare = refl }

  same_written : (y : List ℕ) → writes_name cs w y ≡ true → w ≡ y
  same_written y h = go (is_among y cs) h
    where
      go : (b : Bool) → (if b then false else is_same_text w y) ≡ true → w ≡ y
      go true e = untrue e
      go false e = same_is w y e

  left_written : (indices : List (List ℕ)) (left : ExprTree) → target_is_right k left ≡ true → writes_left cs w left ≡ true → IsWriteAmong (left_accesses cs indices left)
  left_written indices (Var y) r h = written y h
  left_written indices (Element y es) r h =
      let rank = (and_parts (has_rank k (expr_count es) y) (is_rank (expr_count es)) (and_parts _ (exprs_are_right k es) r).0).0 in
      absurd (no_array k w (expr_count es) scalar (ap (has_rank k (expr_count es)) (same_written y h) ∙ rank))
  left_written indices (Int n) r h = untrue h
  left_written indices (Neg a) r h = untrue h
  left_written indices (Add a b) r h = untrue h
  left_written indices (Sub a b) r h = untrue h
  left_written indices (Mul a b) r h = untrue h
  left_written indices (Div a b) r h = untrue h
  left_written indices (Pow a b) r h = untrue h
  left_written indices (Call f es) r h = untrue h

  lefts_written : (indices : List (List ℕ)) (items : List ExprTree) → list_all (target_is_right k) items ≡ true → list_any (writes_left cs w) items ≡ true → IsWriteAmong (flat_map (left_accesses cs indices) items)
  lefts_written indices [] r h = untrue h
  lefts_written indices (item ∷ items) r h =
      let both = and_parts (target_is_right k item) (list_all (target_is_right k) items) r in
      elim (or_split (writes_left cs w item) (list_any (writes_left cs w) items) h) [
        | inl e ↦ first_among (left_accesses cs indices item) (flat_map (left_accesses cs indices) items) (left_written indices item both.0 e)
        | inr e ↦ second_among (left_accesses cs indices item) (flat_map (left_accesses cs indices) items) (lefts_written indices items both.1 e)
      ]

  private_written : (names : List (List ℕ)) → list_any (writes_name cs w) names ≡ true → IsWriteAmong (private_writes cs names)
  private_written [] h = untrue h
  private_written (y ∷ ys) h = elim (or_split (writes_name cs w y) (list_any (writes_name cs w) ys) h) [
    | inl e ↦ first_among (unless_constant cs (write_of y [])) (private_writes cs ys) (written y e)
    | inr e ↦ second_among (unless_constant cs (write_of y [])) (private_writes cs ys) (private_written ys e)
  ]

  -- a PRIVATE list that has no write of the scalar hasn't the scalar
  unlisted : (names : List (List ℕ)) → list_any (writes_name cs w) names ≡ false → is_among w names ≡ false
  unlisted [] h = refl
  unlisted (y ∷ ys) h =
      let parts = or_none (writes_name cs w y) (list_any (writes_name cs w) ys) h in
      let apart = go (is_same_text w y) refl parts.0 in
      let more = unlisted ys parts.1 in
      λ i. apart i || more i
    where
      go : (b : Bool) → is_same_text w y ≡ b → writes_name cs w y ≡ false → is_same_text w y ≡ false
      go false e f = e
      go true e f = sym (ap (λ (c : Bool). if c then false else is_same_text w y) (ap (λ (z : List ℕ). is_among z cs) (sym (same_is w y e)) ∙ named)) ∙ f

  own_written : (indices : List (List ℕ)) (s : StmtTree) → stmt_is_right k s ≡ true → writes_itself cs w s ≡ true → IsWriteAmong (own_accesses cs indices s)
  own_written indices (Assign left right) r h = second_among (expr_reads cs indices right) (left_accesses cs indices left) (left_written indices left (and_parts (target_is_right k left) (expr_is_right k right) r).0 h)
  own_written indices (If c a b) r h = untrue h
  own_written indices (Do g body) r h = second_among (expr_reads cs indices g.first ++ expr_reads cs indices g.last) (private_writes cs g.private) (private_written g.private h)
  own_written indices (Print items) r h =
      second_among (flat_map (item_reads cs indices) items) (write_of (codes "(OUT)") [] ∷ []) (record { access = write_of (codes "(OUT)") []; among = inl refl; name = sym (same_is w (codes "(OUT)") h); writes = refl; bare = refl })
  own_written indices (Read items) r h = elim (or_split (is_same_text w (codes "(IN)")) (list_any (writes_left cs w) items) h) [
    | inl e ↦ record { access = write_of (codes "(IN)") []; among = inl refl; name = sym (same_is w (codes "(IN)") e); writes = refl; bare = refl }
    | inr e ↦ second_among (write_of (codes "(IN)") [] ∷ []) (flat_map (left_accesses cs indices) items) (lefts_written indices items r e)
  ]
  own_written indices Stop r h = untrue h
  own_written indices (Comment text) r h = untrue h

  -- one of these references, inside these DO loops, writes the scalar and belongs to no DO
  pub record IsFreeWrite (nest : List Loop) (refs : List Reference) : Type 0 where
    pub reference : Reference
    pub listed : IsIn reference refs
    pub name : reference.access.name ≡ w
    pub writes : reference.access.writes ≡ true
    pub bare : reference.access.subscripts ≡ []
    pub more : List Loop
    pub inside : reference.nest ≡ nest ++ more
    pub free : innermost_private w reference.nest ≡ None

  first_free : (nest : List Loop) (xs ys : List Reference) → IsFreeWrite nest xs → IsFreeWrite nest (xs ++ ys)
  first_free nest xs ys h = record { reference = h.reference; listed = in_left h.reference xs ys h.listed; name = h.name; writes = h.writes; bare = h.bare; more = h.more; inside = h.inside; free = h.free }

  second_free : (nest : List Loop) (xs ys : List Reference) → IsFreeWrite nest ys → IsFreeWrite nest (xs ++ ys)
  second_free nest xs ys h = record { reference = h.reference; listed = in_right h.reference xs ys h.listed; name = h.name; writes = h.writes; bare = h.bare; more = h.more; inside = h.inside; free = h.free }

  further_in : (nest : List Loop) (l : Loop) (refs : List Reference) → IsFreeWrite (nest ++ l ∷ []) refs → IsFreeWrite nest refs
  further_in nest l refs h =
      record { reference = h.reference; listed = h.listed; name = h.name; writes = h.writes; bare = h.bare; more = l ∷ h.more; inside = h.inside ∙ append_assoc nest (l ∷ []) h.more; free = h.free }

  numbered_free : (nest : List Loop) → innermost_private w nest ≡ None → (n m : ℕ) (accesses : List Access) (a : Access) → IsIn a accesses → a.name ≡ w → a.writes ≡ true → a.subscripts ≡ [] → IsFreeWrite nest (numbered_accesses n m nest accesses)
  numbered_free nest free n m [] a i name writes bare = absurd i
  numbered_free nest free n m (x ∷ xs) a (inl e) name writes bare = record {
    reference = record { statement = n; number = m; access = x; nest = nest };
    listed = inl refl;
    name = ap (λ (z : Access). z.name) (sym e) ∙ name;
    writes = ap (λ (z : Access). z.writes) (sym e) ∙ writes;
    bare = ap (λ (z : Access). z.subscripts) (sym e) ∙ bare;
    more = [];
    inside = sym (append-nil nest);
    free = free;
  }
  numbered_free nest free n m (x ∷ xs) a (inr i) name writes bare =
      second_free nest ((record { statement = n; number = m; access = x; nest = nest }) ∷ []) (numbered_accesses n (suc m) nest xs) (numbered_free nest free n (suc m) xs a i name writes bare)

  own_free : (nest : List Loop) (n : ℕ) (s : StmtTree) → innermost_private w nest ≡ None → stmt_is_right k s ≡ true → writes_itself cs w s ≡ true → IsFreeWrite nest (numbered_accesses n 1 nest (own_accesses cs (indices_of nest) s))
  own_free nest n s free r h =
      let o = own_written (indices_of nest) s r h in
      numbered_free nest free n 1 (own_accesses cs (indices_of nest) s) o.access o.among o.name o.writes o.bare

  mutual
    free_write : (nest : List Loop) (n : ℕ) (s : StmtTree) → innermost_private w nest ≡ None → stmt_is_right k s ≡ true → writes cs w s ≡ true → IsFreeWrite nest (statement_references cs nest n s)
    free_write nest n (Assign left right) free r h = own_free nest n (Assign left right) free r h
    free_write nest n (If c a b) free r h =
        let own = numbered_accesses n 1 nest (own_accesses cs (indices_of nest) (If c a b)) in
        let right = and_parts (cond_is_right k c && stmts_are_right k a) (stmts_are_right k b) r in
        elim (or_split (all_write cs w a) (all_write cs w b) h) [
          | inl e ↦ first_free nest (own ++ statements_references cs nest (n + 1) a) (statements_references cs nest (n + 1 + statements_count a) b)
              (second_free nest own (statements_references cs nest (n + 1) a) (all_free_write nest (n + 1) a free (and_parts (cond_is_right k c) (stmts_are_right k a) right.0).1 e))
          | inr e ↦ second_free nest (own ++ statements_references cs nest (n + 1) a) (statements_references cs nest (n + 1 + statements_count a) b) (all_free_write nest (n + 1 + statements_count a) b free right.1 e)
        ]
    free_write nest n (Do g body) free r h =
        let loop : Loop = record { number = n; head = g } in
        go (list_any (writes_name cs w) g.private) refl
        (λ e. all_free_write (nest ++ loop ∷ []) (n + 1) body (more_free w nest loop free (unlisted g.private e)) (and_parts (head_is_right k g) (stmts_are_right k body) r).1
        (sym (ap (λ (b : Bool). b || all_write cs w body) e) ∙ h))
      where
        loop : Loop
        loop = record { number = n; head = g }

        own : List Reference
        own = numbered_accesses n 1 nest (own_accesses cs (indices_of nest) (Do g body))

        inner : List Reference
        inner = statements_references cs (nest ++ loop ∷ []) (n + 1) body

        go : (b : Bool) → list_any (writes_name cs w) g.private ≡ b → (list_any (writes_name cs w) g.private ≡ false → IsFreeWrite (nest ++ loop ∷ []) inner) → IsFreeWrite nest (statement_references cs nest n (Do g body))
        go true e within = first_free nest own inner (own_free nest n (Do g body) free r e)
        go false e within = second_free nest own inner (further_in nest loop inner (within e))
    free_write nest n (Print items) free r h = own_free nest n (Print items) free r h
    free_write nest n (Read items) free r h = own_free nest n (Read items) free r h
    free_write nest n Stop free r h = untrue h
    free_write nest n (Comment text) free r h = untrue h

    pub all_free_write : (nest : List Loop) (n : ℕ) (ss : StmtTrees) → innermost_private w nest ≡ None → stmts_are_right k ss ≡ true → all_write cs w ss ≡ true → IsFreeWrite nest (statements_references cs nest n ss)
    all_free_write nest n no_stmts free r h = untrue h
    all_free_write nest n (more_stmts s rest) free r h =
        let right = and_parts (stmt_is_right k s) (stmts_are_right k rest) r in
        elim (or_split (writes cs w s) (all_write cs w rest) h) [
          | inl e ↦ first_free nest (statement_references cs nest n s) (statements_references cs nest (n + statement_count s) rest) (free_write nest n s free right.0 e)
          | inr e ↦ second_free nest (statement_references cs nest n s) (statements_references cs nest (n + statement_count s) rest) (all_free_write nest (n + statement_count s) rest free right.1 e)
        ]

-- Which names the body of a DO writes, told by the shape of its statements: so it doesn't count which numbers they have, nor which DO loops stand round them.
use Rattle.std.proofs.Common.{◌≡◌, ℕ, zero, suc, ◌+◌, ◌-◌, ◌<◌, ◌≤◌, ◌==◌, List, [], ◌∷◌, ◌++◌, Bool, true, false, Some, None, refl, sym, ap, subst, ◌∙◌, inl, inr, arith, eqb-true, if◌then◌else◌}
use Rattle.std.specs.Prelude.{codes, nat_lt, ◌&&◌, ◌||◌}
use Rattle.std.specs.List.{list_any, flat_map}
use Rattle.std.proofs.Math.Bool.{and-false}
use Rattle.std.proofs.lemmas.Bool.{lt-ltb, le-ltb}
use Rattle.std.proofs.lemmas.List.Folds.{list_any-append}
use Rattle.ped_bodies.specs.ped_flow.specs.ped_base.specs.Lists.{is_same_text, is_among}
use Rattle.ped_bodies.specs.ped_flow.specs.ped_tree.specs.Tree.{ExprTree, ExprTrees, Int, Var, Element, Neg, Add, Sub, Mul, Div, Pow, Call, no_exprs, more_exprs, CondTree, Rel, Not, And, Or, ItemTree, Value, Text, Head, StmtTree, StmtTrees, Assign, If, Do, Print, Read, Stop, Comment, no_stmts, more_stmts, ProgramTree}
use Rattle.ped_bodies.specs.ped_flow.specs.ped_tree.specs.Numbering.{numbered, all_numbered, at_place, statement_count, statements_count}
use Rattle.ped_bodies.specs.ped_flow.specs.ped_tree.specs.Accesses.{Access, read_of, write_of, expr_reads, exprs_reads, cond_reads, item_reads, left_accesses, private_writes, own_accesses, constant_names, listed}
use Rattle.ped_bodies.specs.ped_flow.specs.ped_tree.specs.Nests.{Loop, indices_of}
use Rattle.ped_bodies.specs.ped_refs.specs.References.{Reference, numbered_accesses, statement_references, statements_references}
use Rattle.ped_bodies.specs.ped_flow.specs.Questions.{LoopOf}
use Rattle.ped_bodies.specs.ped_steps.specs.Tidy.{is_write_in, is_written_in}
use Rattle.ped_bodies.specs.ped_steps.proofs.RunLaws.ReplacedTrees.{in_if, in_more, itself, next_place, no_later}
use Rattle.ped_loop_runs.specs.Writing.{writes_name, writes_left, writes_itself, writes, all_write}

module _ (constants : List (List ℕ)) (w : List ℕ) where
  -- an access writes the name
  abbrev is_write : Access → Bool
  is_write a = is_same_text w a.name && a.writes

  abbrev Unwriting : List Access → Type 0
  Unwriting accesses = list_any is_write accesses ≡ false

  both_none : (xs ys : List Access) → Unwriting xs → Unwriting ys → Unwriting (xs ++ ys)
  both_none xs ys e f = list_any-append is_write xs ys ∙ (λ i. e i || f i)

  read_none : (y : List ℕ) (es : List ExprTree) (b : Bool) → Unwriting (if b then [] else read_of y es ∷ [])
  read_none y es true = refl
  read_none y es false = ap (λ (b : Bool). b || false) (and-false (is_same_text w y))

  write_is : (y : List ℕ) (es : List ExprTree) (b : Bool) → list_any is_write (if b then [] else write_of y es ∷ []) ≡ (if b then false else is_same_text w y)
  write_is y es true = refl
  write_is y es false = go (is_same_text w y)
    where
      go : (b : Bool) → ((b && true) || false) ≡ b
      go true = refl
      go false = refl

  -- what is read writes nothing
  module _ (indices : List (List ℕ)) where
    scalar_none : (y : List ℕ) (a : Bool) → Unwriting (if a then [] else (if is_among y constants then [] else read_of y [] ∷ []))
    scalar_none y true = refl
    scalar_none y false = read_none y [] (is_among y constants)

    mutual
      reads_none : (e : ExprTree) → Unwriting (expr_reads constants indices e)
      reads_none (Int n) = refl
      reads_none (Var y) = scalar_none y (is_among y indices)
      reads_none (Element y es) = both_none (exprs_reads constants indices es) (if is_among y constants then [] else read_of y (listed es) ∷ []) (all_reads_none es) (read_none y (listed es) (is_among y constants))
      reads_none (Neg a) = reads_none a
      reads_none (Add a b) = both_none (expr_reads constants indices a) (expr_reads constants indices b) (reads_none a) (reads_none b)
      reads_none (Sub a b) = both_none (expr_reads constants indices a) (expr_reads constants indices b) (reads_none a) (reads_none b)
      reads_none (Mul a b) = both_none (expr_reads constants indices a) (expr_reads constants indices b) (reads_none a) (reads_none b)
      reads_none (Div a b) = both_none (expr_reads constants indices a) (expr_reads constants indices b) (reads_none a) (reads_none b)
      reads_none (Pow a b) = both_none (expr_reads constants indices a) (expr_reads constants indices b) (reads_none a) (reads_none b)
      reads_none (Call f es) = all_reads_none es

      all_reads_none : (es : ExprTrees) → Unwriting (exprs_reads constants indices es)
      all_reads_none no_exprs = refl
      all_reads_none (more_exprs e rest) = both_none (expr_reads constants indices e) (exprs_reads constants indices rest) (reads_none e) (all_reads_none rest)

    condition_none : (c : CondTree) → Unwriting (cond_reads constants indices c)
    condition_none (Rel r a b) = both_none (expr_reads constants indices a) (expr_reads constants indices b) (reads_none a) (reads_none b)
    condition_none (Not a) = condition_none a
    condition_none (And a b) = both_none (cond_reads constants indices a) (cond_reads constants indices b) (condition_none a) (condition_none b)
    condition_none (Or a b) = both_none (cond_reads constants indices a) (cond_reads constants indices b) (condition_none a) (condition_none b)

    item_none : (item : ItemTree) → Unwriting (item_reads constants indices item)
    item_none (Value e) = reads_none e
    item_none (Text text) = refl

    items_none : (items : List ItemTree) → Unwriting (flat_map (item_reads constants indices) items)
    items_none [] = refl
    items_none (item ∷ items) = both_none (item_reads constants indices item) (flat_map (item_reads constants indices) items) (item_none item) (items_none items)

    behind_none : (xs ys : List Access) → Unwriting xs → list_any is_write (xs ++ ys) ≡ list_any is_write ys
    behind_none xs ys e = list_any-append is_write xs ys ∙ ap (λ (b : Bool). b || list_any is_write ys) e

    left_is : (e : ExprTree) → list_any is_write (left_accesses constants indices e) ≡ writes_left constants w e
    left_is (Var y) = write_is y [] (is_among y constants)
    left_is (Element y es) =
        behind_none (exprs_reads constants indices es) (if is_among y constants then [] else write_of y (listed es) ∷ []) (all_reads_none es)
        ∙ write_is y (listed es) (is_among y constants)
    left_is (Int n) = refl
    left_is (Neg a) = refl
    left_is (Add a b) = refl
    left_is (Sub a b) = refl
    left_is (Mul a b) = refl
    left_is (Div a b) = refl
    left_is (Pow a b) = refl
    left_is (Call f es) = refl

    lefts_are : (items : List ExprTree) → list_any is_write (flat_map (left_accesses constants indices) items) ≡ list_any (writes_left constants w) items
    lefts_are [] = refl
    lefts_are (e ∷ es) = list_any-append is_write (left_accesses constants indices e) (flat_map (left_accesses constants indices) es) ∙ (λ i. left_is e i || lefts_are es i)

    privates_are : (names : List (List ℕ)) → list_any is_write (private_writes constants names) ≡ list_any (writes_name constants w) names
    privates_are [] = refl
    privates_are (y ∷ ys) = list_any-append is_write (if is_among y constants then [] else write_of y [] ∷ []) (private_writes constants ys) ∙ (λ i. write_is y [] (is_among y constants) i || privates_are ys i)

    and_true : (b : Bool) → (b && true) ≡ b
    and_true true = refl
    and_true false = refl

    or_false : (b : Bool) → (b || false) ≡ b
    or_false true = refl
    or_false false = refl

    own_is : (s : StmtTree) → list_any is_write (own_accesses constants indices s) ≡ writes_itself constants w s
    own_is (Assign left right) = behind_none (expr_reads constants indices right) (left_accesses constants indices left) (reads_none right) ∙ left_is left
    own_is (If c a b) = condition_none c
    own_is (Do h body) =
        behind_none (expr_reads constants indices h.first ++ expr_reads constants indices h.last) (private_writes constants h.private)
        (both_none (expr_reads constants indices h.first) (expr_reads constants indices h.last) (reads_none h.first) (reads_none h.last))
        ∙ privates_are h.private
    own_is (Print items) =
        behind_none (flat_map (item_reads constants indices) items) (write_of (codes "(OUT)") [] ∷ []) (items_none items)
        ∙ (or_false (is_same_text w (codes "(OUT)") && true) ∙ and_true (is_same_text w (codes "(OUT)")))
    own_is (Read items) = λ i. and_true (is_same_text w (codes "(IN)")) i || lefts_are items i
    own_is Stop = refl
    own_is (Comment text) = refl

  -- the references with numbers between l and l + count
  module _ (l count : ℕ) where
    abbrev found : List Reference → Bool
    found refs = list_any (is_write_in l count w) refs

    abbrev is_between : ℕ → Bool
    is_between k = nat_lt l k && nat_lt k (l + count)

    numbered_found : (n k : ℕ) (nest : List Loop) (accesses : List Access) → found (numbered_accesses n k nest accesses) ≡ (is_between n && list_any is_write accesses)
    numbered_found n k nest [] = sym (and-false (is_between n))
    numbered_found n k nest (a ∷ rest) = one (is_between n) (is_same_text w a.name) a.writes (found (numbered_accesses n (suc k) nest rest)) (list_any is_write rest) (numbered_found n (suc k) nest rest)
      where
        one : (z a b r s : Bool) → r ≡ (z && s) → (((z && a) && b) || r) ≡ (z && ((a && b) || s))
        one true a b r s e = ap (λ (q : Bool). (a && b) || q) e
        one false a b r s e = e

    abbrev own_refs : List Loop → ℕ → StmtTree → List Reference
    own_refs nest n s = numbered_accesses n 1 nest (own_accesses constants (indices_of nest) s)

    own_found : (nest : List Loop) (n : ℕ) (s : StmtTree) → found (own_refs nest n s) ≡ (is_between n && writes_itself constants w s)
    own_found nest n s = numbered_found n 1 nest (own_accesses constants (indices_of nest) s) ∙ ap (λ (b : Bool). is_between n && b) (own_is (indices_of nest) s)

    -- of statements whose numbers all are between, or are all not, the references write what the statements do, or aren't found
    module _ (z : Bool) where
      abbrev AreSo : ℕ → ℕ → Type 0
      AreSo n size = (k : ℕ) → n ≤ k → k < n + size → is_between k ≡ z

      own_so : (nest : List Loop) (n : ℕ) (s : StmtTree) → is_between n ≡ z → found (own_refs nest n s) ≡ (z && writes_itself constants w s)
      own_so nest n s h = own_found nest n s ∙ ap (λ (b : Bool). b && writes_itself constants w s) h

      two : (z a b : Bool) → ((z && a) || (z && b)) ≡ (z && (a || b))
      two true a b = refl
      two false a b = refl

      three : (z a b : Bool) → (((z && false) || (z && a)) || (z && b)) ≡ (z && (a || b))
      three true a b = refl
      three false a b = refl

      mutual
        pub found_so : (nest : List Loop) (n : ℕ) (s : StmtTree) → AreSo n (statement_count s) → found (statement_references constants nest n s) ≡ (z && writes constants w s)
        found_so nest n (Assign left right) h = own_so nest n (Assign left right) (h n (omega arith) (omega arith))
        found_so nest n (If c a b) h =
            let own = own_so nest n (If c a b) (h n (omega arith) (omega arith)) in
            let first = all_found_so nest (n + 1) a (λ k p q. h k (omega (arith, p)) (omega (arith, q))) in
            let second = all_found_so nest (n + 1 + statements_count a) b (λ k p q. h k (omega (arith, p)) (omega (arith, q))) in
            let of_a = statements_references constants nest (n + 1) a in
            let of_b = statements_references constants nest (n + 1 + statements_count a) b in
            list_any-append (is_write_in l count w) (own_refs nest n (If c a b) ++ of_a) of_b
            ∙ ((λ i. list_any-append (is_write_in l count w) (own_refs nest n (If c a b)) of_a i || second i)
            ∙ ((λ i. (own i || first i) || (z && all_write constants w b)) ∙ three z (all_write constants w a) (all_write constants w b)))
        found_so nest n (Do head body) h =
            let own = own_so nest n (Do head body) (h n (omega arith) (omega arith)) in
            let inner = all_found_so (nest ++ (record { number = n; head = head }) ∷ []) (n + 1) body (λ k p q. h k (omega (arith, p)) (omega (arith, q))) in
            list_any-append (is_write_in l count w) (own_refs nest n (Do head body)) (statements_references constants (nest ++ (record { number = n; head = head }) ∷ []) (n + 1) body)
            ∙ ((λ i. own i || inner i) ∙ two z (writes_itself constants w (Do head body)) (all_write constants w body))
        found_so nest n (Print items) h = own_so nest n (Print items) (h n (omega arith) (omega arith))
        found_so nest n (Read items) h = own_so nest n (Read items) (h n (omega arith) (omega arith))
        found_so nest n Stop h = sym (and-false z)
        found_so nest n (Comment text) h = sym (and-false z)

        pub all_found_so : (nest : List Loop) (n : ℕ) (ss : StmtTrees) → AreSo n (statements_count ss) → found (statements_references constants nest n ss) ≡ (z && all_write constants w ss)
        all_found_so nest n no_stmts h = sym (and-false z)
        all_found_so nest n (more_stmts s rest) h =
            let first = found_so nest n s (λ k p q. h k p (omega (arith, q))) in
            let second = all_found_so nest (n + statement_count s) rest (λ k p q. h k (omega (arith, p)) (omega (arith, q))) in
            list_any-append (is_write_in l count w) (statement_references constants nest n s) (statements_references constants nest (n + statement_count s) rest)
            ∙ ((λ i. first i || second i) ∙ two z (writes constants w s) (all_write constants w rest))

    before_out : (k : ℕ) → k ≤ l → is_between k ≡ false
    before_out k h = ap (λ (b : Bool). b && nat_lt k (l + count)) (le-ltb l k h)

    behind_out : (k : ℕ) → l + count ≤ k → is_between k ≡ false
    behind_out k h = ap (λ (b : Bool). nat_lt l k && b) (le-ltb k (l + count) h) ∙ and-false (nat_lt l k)

    inside_in : (k : ℕ) → l < k → k < l + count → is_between k ≡ true
    inside_in k p q = λ i. lt-ltb l k p i && lt-ltb k (l + count) q i

    own_out : (nest : List Loop) (n : ℕ) (s : StmtTree) → n ≤ l → found (own_refs nest n s) ≡ false
    own_out nest n s h = own_so false nest n s (before_out n h)

    first_out : (nest : List Loop) (n : ℕ) (s : StmtTree) → n + statement_count s ≤ l → found (statement_references constants nest n s) ≡ false
    first_out nest n s h = found_so false nest n s (λ k p q. before_out k (omega (arith, q, h)))

    all_first_out : (nest : List Loop) (n : ℕ) (ss : StmtTrees) → n + statements_count ss ≤ l → found (statements_references constants nest n ss) ≡ false
    all_first_out nest n ss h = all_found_so false nest n ss (λ k p q. before_out k (omega (arith, q, h)))

    all_behind_out : (nest : List Loop) (n : ℕ) (ss : StmtTrees) → l + count ≤ n → found (statements_references constants nest n ss) ≡ false
    all_behind_out nest n ss h = all_found_so false nest n ss (λ k p q. behind_out k (omega (arith, p, h)))

-- a DO that stands in statements ends in them
module _ (h : Head) (body : StmtTrees) where
  mutual
    pub ends_in : (s : StmtTree) (i : ℕ) → at_place (numbered s) i ≡ Some (Do h body) → i + (statements_count body + 1) ≤ statement_count s
    ends_in s zero p = let e = ap statement_count (itself s (Do h body) p) in omega (arith, e)
    ends_in (Assign left right) (suc i) p = no_later (Assign left right) i (Do h body) p
    ends_in (If c a b) (suc i) p = elim (in_if a b (If c a b) i (Do h body) p) [
      | inl g ↦ (let e = all_end_in a i g in omega (arith, e))
      | inr g ↦ (let e = all_end_in b g.0 g.2 in let f = g.1 in omega (arith, e, f))
    ]
    ends_in (Do head inner) (suc i) p = let e = all_end_in inner i (next_place (Do head inner) (all_numbered inner) i (Do h body) p) in omega (arith, e)
    ends_in (Print items) (suc i) p = no_later (Print items) i (Do h body) p
    ends_in (Read items) (suc i) p = no_later (Read items) i (Do h body) p
    ends_in Stop (suc i) p = no_later Stop i (Do h body) p
    ends_in (Comment text) (suc i) p = absurd cc

    pub all_end_in : (ss : StmtTrees) (i : ℕ) → at_place (all_numbered ss) i ≡ Some (Do h body) → i + (statements_count body + 1) ≤ statements_count ss
    all_end_in no_stmts i p = absurd cc
    all_end_in (more_stmts s rest) i p = elim (in_more s rest i (Do h body) p) [
      | inl g ↦ (let e = ends_in s i g in omega (arith, e))
      | inr g ↦ (let e = all_end_in rest g.0 g.2 in let f = g.1 in omega (arith, e, f))
    ]

-- the references in the body of a DO
module _ (constants : List (List ℕ)) (w : List ℕ) (l : ℕ) (h : Head) (body : StmtTrees) where
  abbrev is_one : Reference → Bool
  is_one = is_write_in l (statements_count body + 1) w

  abbrev Found : List Reference → Type 0
  Found refs = list_any is_one refs ≡ all_write constants w body

  here : (nest : List Loop) (n : ℕ) → l ≡ n → Found (statement_references constants nest n (Do h body))
  here nest n e =
      let own = own_out constants w l (statements_count body + 1) nest n (Do h body) (omega (arith, e)) in
      let inner =
      all_found_so constants w l (statements_count body + 1) true (nest ++ (record { number = n; head = h }) ∷ []) (n + 1) body
      (λ k p q. inside_in constants w l (statements_count body + 1) k (omega (arith, e, p)) (omega (arith, e, q))) in
      list_any-append is_one (numbered_accesses n 1 nest (own_accesses constants (indices_of nest) (Do h body))) (statements_references constants (nest ++ (record { number = n; head = h }) ∷ []) (n + 1) body)
      ∙ (λ i. own i || inner i)

  or_false_at : (b : Bool) → (b || false) ≡ b
  or_false_at true = refl
  or_false_at false = refl

  first_found : (xs ys : List Reference) → Found xs → list_any is_one ys ≡ false → Found (xs ++ ys)
  first_found xs ys e f = list_any-append is_one xs ys ∙ ((λ i. e i || f i) ∙ or_false_at (all_write constants w body))

  second_found : (xs ys : List Reference) → list_any is_one xs ≡ false → Found ys → Found (xs ++ ys)
  second_found xs ys e f = list_any-append is_one xs ys ∙ (λ i. e i || f i)

  none_found : (xs ys : List Reference) → list_any is_one xs ≡ false → list_any is_one ys ≡ false → list_any is_one (xs ++ ys) ≡ false
  none_found xs ys e f = list_any-append is_one xs ys ∙ (λ i. e i || f i)

  mutual
    one_found : (nest : List Loop) (s : StmtTree) (n i : ℕ) → l ≡ n + i → at_place (numbered s) i ≡ Some (Do h body) → Found (statement_references constants nest n s)
    one_found nest s n zero e p = subst (λ (x : StmtTree). Found (statement_references constants nest n x)) (sym (itself s (Do h body) p)) (here nest n (omega (arith, e)))
    one_found nest (Assign left right) n (suc i) e p = no_later (Assign left right) i (Do h body) p
    one_found nest (If c a b) n (suc i) e p =
        let own = numbered_accesses n 1 nest (own_accesses constants (indices_of nest) (If c a b)) in
        let of_a = statements_references constants nest (n + 1) a in
        let of_b = statements_references constants nest (n + 1 + statements_count a) b in
        let own_none = own_out constants w l (statements_count body + 1) nest n (If c a b) (omega (arith, e)) in
        elim (in_if a b (If c a b) i (Do h body) p) [
          | inl g ↦ (
              let end = all_end_in h body a i g in
              first_found (own ++ of_a) of_b (second_found own of_a own_none (all_found nest a (n + 1) i (omega (arith, e)) g))
              (all_behind_out constants w l (statements_count body + 1) nest (n + 1 + statements_count a) b (omega (arith, e, end)))
              )
          | inr g ↦ (
              let f = g.1 in
              second_found (own ++ of_a) of_b (none_found own of_a own_none (all_first_out constants w l (statements_count body + 1) nest (n + 1) a (omega (arith, e, f))))
              (all_found nest b (n + 1 + statements_count a) g.0 (omega (arith, e, f)) g.2)
              )
        ]
    one_found nest (Do head inner) n (suc i) e p =
        second_found (numbered_accesses n 1 nest (own_accesses constants (indices_of nest) (Do head inner)))
        (statements_references constants (nest ++ (record { number = n; head = head }) ∷ []) (n + 1) inner)
        (own_out constants w l (statements_count body + 1) nest n (Do head inner) (omega (arith, e)))
        (all_found (nest ++ (record { number = n; head = head }) ∷ []) inner (n + 1) i (omega (arith, e)) (next_place (Do head inner) (all_numbered inner) i (Do h body) p))
    one_found nest (Print items) n (suc i) e p = no_later (Print items) i (Do h body) p
    one_found nest (Read items) n (suc i) e p = no_later (Read items) i (Do h body) p
    one_found nest Stop n (suc i) e p = no_later Stop i (Do h body) p
    one_found nest (Comment text) n (suc i) e p = absurd cc

    all_found : (nest : List Loop) (ss : StmtTrees) (n i : ℕ) → l ≡ n + i → at_place (all_numbered ss) i ≡ Some (Do h body) → Found (statements_references constants nest n ss)
    all_found nest no_stmts n i e p = absurd cc
    all_found nest (more_stmts s rest) n i e p = elim (in_more s rest i (Do h body) p) [
      | inl g ↦ (
          let end = ends_in h body s i g in
          first_found (statement_references constants nest n s) (statements_references constants nest (n + statement_count s) rest) (one_found nest s n i e g)
          (all_behind_out constants w l (statements_count body + 1) nest (n + statement_count s) rest (omega (arith, e, end)))
          )
      | inr g ↦ (
          let f = g.1 in
          second_found (statement_references constants nest n s) (statements_references constants nest (n + statement_count s) rest)
          (first_out constants w l (statements_count body + 1) nest n s (omega (arith, e, f)))
          (all_found nest rest (n + statement_count s) g.0 (omega (arith, e, f)) g.2)
          )
    ]

-- a reference in the body of a DO writes the name exactly where the body does
pub written_is : (t : ProgramTree) (l : ℕ) (loop : LoopOf t l) (w : List ℕ) → is_written_in t l loop.body w ≡ all_write (constant_names t.decls) w loop.body
written_is t l loop w = by_number (l == 0) refl loop.is
  where
    by_number : (b : Bool) → (l == 0) ≡ b → (if b then None else at_place (all_numbered t.body) (l - 1)) ≡ Some (Do loop.head loop.body) → is_written_in t l loop.body w ≡ all_write (constant_names t.decls) w loop.body
    by_number true e h = absurd cc
    by_number false e h = let more : l ≡ 1 + (l - 1) = grind (arith, eqb-true, e) in all_found (constant_names t.decls) w l loop.head loop.body [] t.body 1 (l - 1) more h

-- The DO loops round a reference: its statement stands in the body of each, and the loops round each of them are those of the program.
use Rattle.std.proofs.Common.{◌≡◌, ℕ, suc, ◌+◌, ◌≤◌, ◌<◌, List, [], ◌∷◌, ◌++◌, Bool, true, false, ◌&&◌, Some, if◌then◌else◌, refl, sym, ap, ◌∙◌, subst, inl, inr, arith, nat_le, append_assoc}
use Rattle.std.specs.Prelude.{nat_lt}
use Rattle.std.proofs.lemmas.Bool.{ltb-true, leb-true, lt-ltb, le-leb, and_from}
use Rattle.std.proofs.lemmas.List.{append-nil}
use Rattle.ped_laws.specs.ped_flow.specs.ped_tree.specs.Tree.{Head, StmtTree, StmtTrees, Assign, If, Do, Print, Read, Stop, Comment, no_stmts, more_stmts, ProgramTree}
use Rattle.ped_laws.specs.ped_flow.specs.ped_tree.specs.Accesses.{Access, own_accesses, constant_names}
use Rattle.ped_laws.specs.ped_flow.specs.ped_tree.specs.Nests.{Loop, indices_of}
use Rattle.ped_laws.specs.ped_flow.specs.ped_tree.specs.Numbering.{numbered, all_numbered, statement_with, statement_count, statements_count}
use Rattle.ped_laws.specs.ped_flow.specs.PlainBounds.{loops_round, all_loops_round, nest_round}
use Rattle.ped_laws.specs.ped_graph.specs.ped_refs.specs.References.{Reference, numbered_accesses, statement_references, statements_references, references}
use Rattle.ped_laws.specs.Acts.Orders.{IsIn}
use Rattle.ped_laws.specs.Covering.Nested.{loop}
use Rattle.ped_laws.proofs.ActLaws.Lists.{in_parts}
use Rattle.ped_laws.proofs.ConflictLaws.CoveringWrites.{own_access}
use Rattle.ped_laws.proofs.FlowRunLaws.Standing.{Stand, whole_stands, first_stands, rest_stands, inner_stands, else_stands, is_there}

-- DO loops round a statement stand only in statements that have it
module _ (l : ℕ) where
  both_none : (xs ys : List Loop) → xs ≡ [] → ys ≡ [] → xs ++ ys ≡ []
  both_none xs ys h k = λ i. h i ++ k i

  mutual
    early : (s : StmtTree) (n : ℕ) → l ≤ n → loops_round l s n ≡ []
    early (Assign left right) n h = refl
    early (If condition a b) n h = both_none (all_loops_round l a (n + 1)) (all_loops_round l b (n + 1 + statements_count a)) (all_early a (n + 1) (omega (arith, h))) (all_early b (n + 1 + statements_count a) (omega (arith, h)))
    early (Do hd b) n h = go (nat_lt n l) refl
      where
        go : (c : Bool) → nat_lt n l ≡ c → (if c && nat_le l (n + statements_count b) then (record { number = n; head = hd }) ∷ all_loops_round l b (n + 1) else []) ≡ []
        go true e = let k = ltb-true n l e in absurd (omega (arith, h, k))
        go false e = refl
    early (Print items) n h = refl
    early (Read items) n h = refl
    early Stop n h = refl
    early (Comment text) n h = refl

    all_early : (ss : StmtTrees) (n : ℕ) → l ≤ n → all_loops_round l ss n ≡ []
    all_early no_stmts n h = refl
    all_early (more_stmts s rest) n h = both_none (loops_round l s n) (all_loops_round l rest (n + statement_count s)) (early s n h) (all_early rest (n + statement_count s) (omega (arith, h)))

  mutual
    late : (s : StmtTree) (n : ℕ) → n + statement_count s ≤ l → loops_round l s n ≡ []
    late (Assign left right) n h = refl
    late (If condition a b) n h = both_none (all_loops_round l a (n + 1)) (all_loops_round l b (n + 1 + statements_count a)) (all_late a (n + 1) (omega (arith, h))) (all_late b (n + 1 + statements_count a) (omega (arith, h)))
    late (Do hd b) n h = go (nat_lt n l) (nat_le l (n + statements_count b)) refl
      where
        go : (a c : Bool) → nat_le l (n + statements_count b) ≡ c → (if a && c then (record { number = n; head = hd }) ∷ all_loops_round l b (n + 1) else []) ≡ []
        go true true e = let k = leb-true l (n + statements_count b) e in absurd (omega (arith, h, k))
        go true false e = refl
        go false c e = refl
    late (Print items) n h = refl
    late (Read items) n h = refl
    late Stop n h = refl
    late (Comment text) n h = refl

    all_late : (ss : StmtTrees) (n : ℕ) → n + statements_count ss ≤ l → all_loops_round l ss n ≡ []
    all_late no_stmts n h = refl
    all_late (more_stmts s rest) n h = both_none (loops_round l s n) (all_loops_round l rest (n + statement_count s)) (late s n (omega (arith, h))) (all_late rest (n + statement_count s) (omega (arith, h)))

  first_alone : (xs ys : List Loop) → ys ≡ [] → xs ≡ xs ++ ys
  first_alone xs ys h = sym (ap (λ (zs : List Loop). xs ++ zs) h ∙ append-nil xs)

  second_alone : (xs ys : List Loop) → xs ≡ [] → ys ≡ xs ++ ys
  second_alone xs ys h = sym (ap (λ (zs : List Loop). zs ++ ys) h)

-- the loops round a statement in the body of a DO
round_body : (l n : ℕ) (hd : Head) (b : StmtTrees) → n < l → l < n + 1 + statements_count b → loops_round l (Do hd b) n ≡ (record { number = n; head = hd }) ∷ all_loops_round l b (n + 1)
round_body l n hd b from to =
    let last : nat_le l (n + statements_count b) ≡ true = le-leb l (n + statements_count b) (omega (arith, to)) in
    let both : (nat_lt n l && nat_le l (n + statements_count b)) ≡ true = and_from (nat_lt n l) (nat_le l (n + statements_count b)) (lt-ltb n l from) last in
    ap (λ (c : Bool). if c then (record { number = n; head = hd }) ∷ all_loops_round l b (n + 1) else []) both

pub first_is : (k l : Loop) (ks ls : List Loop) → k ∷ ks ≡ l ∷ ls → k ≡ l
first_is k l ks ls e = cc

pub rest_is : (k l : Loop) (ks ls : List Loop) → k ∷ ks ≡ l ∷ ls → ks ≡ ls
rest_is k l ks ls e = cc

none_here : (front : List Loop) (l : Loop) (inner : List Loop) → [] ≡ front ++ l ∷ inner → ⊥
none_here [] l inner e = cc
none_here (k ∷ front) l inner e = cc

-- the references of a statement have numbers from 1 on
numbers_above : (n number : ℕ) (nest : List Loop) (accesses : List Access) (r : Reference) → 0 < number → IsIn r (numbered_accesses n number nest accesses) → 0 < r.number
numbers_above n number nest [] r h i = absurd i
numbers_above n number nest (a ∷ rest) r h (inl e) = subst (λ (q : Reference). 0 < q.number) (sym e) h
numbers_above n number nest (a ∷ rest) r h (inr i) = numbers_above n (suc number) nest rest r (omega arith) i

module _ (t : ProgramTree) where
  -- the loop is a DO of the program, and the statement stands in its body
  pub record IsRound (l : Loop) (statement : ℕ) : Type 0 where
    pub body : StmtTrees
    pub stands : statement_with l.number t ≡ Some (Do l.head body)
    pub below : l.number < statement
    pub above : statement ≤ l.number + statements_count body

  -- a loop in statements with numbers from lo to below hi that is round the statement, and the loops in front of it
  pub record IsNested (lo hi : ℕ) (round : ℕ → List Loop) (statement : ℕ) (front : List Loop) (l : Loop) : Type 0 where
    pub least : lo ≤ l.number
    pub most : l.number < hi
    pub is : IsRound l statement
    pub fronts : front ≡ round l.number

  -- a reference in such statements, and the loops round it, behind those of the nest
  record Placed (nest : List Loop) (lo hi : ℕ) (round : ℕ → List Loop) (r : Reference) : Type 0 where
    loops : List Loop
    nest_is : r.nest ≡ nest ++ loops
    from : lo ≤ r.statement
    to : r.statement < hi
    number : 0 < r.number
    each : (front : List Loop) (l : Loop) (inner : List Loop) → loops ≡ front ++ l ∷ inner → IsNested lo hi round r.statement front l

  wider : (nest : List Loop) (lo hi lo' hi' : ℕ) (round round' : ℕ → List Loop) (r : Reference) → lo' ≤ lo → hi ≤ hi' → ((k : ℕ) → lo ≤ k → k < hi → round k ≡ round' k) → Placed nest lo hi round r → Placed nest lo' hi' round' r
  wider nest lo hi lo' hi' round round' r below above same p =
      let from = p.from in
      let to = p.to in
      record {
        loops = p.loops;
        nest_is = p.nest_is;
        from = omega (arith, from, below);
        to = omega (arith, to, above);
        number = p.number;
        each = λ front l inner e.
            let q = p.each front l inner e in
            let least = q.least in
            let most = q.most in
            record { least = omega (arith, least, below); most = omega (arith, most, above); is = q.is; fronts = q.fronts ∙ same l.number q.least q.most };
      }

  module _ (c : List (List ℕ)) (r : Reference) where
    own_placed : (nest : List Loop) (n count : ℕ) (round : ℕ → List Loop) (s : StmtTree) → 0 < count → IsIn r (numbered_accesses n 1 nest (own_accesses c (indices_of nest) s)) → Placed nest n (n + count) round r
    own_placed nest n count round s some i =
        let o = own_access n 1 nest (own_accesses c (indices_of nest) s) r i in
        let at : r.statement ≡ n = o.0 in
        record { loops = []; nest_is = o.1 ∙ sym (append-nil nest); from = omega (arith, at); to = omega (arith, at, some); number = numbers_above n 1 nest (own_accesses c (indices_of nest) s) r (omega arith) i; each = λ front l inner e. absurd (none_here front l inner e) }

    -- a DO is round what stands in its body
    in_do : (nest : List Loop) (n : ℕ) (hd : Head) (b : StmtTrees) → statement_with n t ≡ Some (Do hd b) → Placed (nest ++ loop n hd ∷ []) (n + 1) (n + 1 + statements_count b) (λ k. all_loops_round k b (n + 1)) r
        → Placed nest n (n + (statements_count b + 1)) (λ k. loops_round k (Do hd b) n) r
    in_do nest n hd b stands p =
        let from = p.from in
        let to = p.to in
        record {
          loops = loop n hd ∷ p.loops;
          nest_is = p.nest_is ∙ append_assoc nest (loop n hd ∷ []) p.loops;
          from = omega (arith, from);
          to = omega (arith, to);
          number = p.number;
          each = each;
        }
      where
        itself : n + 1 ≤ r.statement → r.statement < n + 1 + statements_count b → IsNested n (n + (statements_count b + 1)) (λ k. loops_round k (Do hd b) n) r.statement [] (loop n hd)
        itself from to = record {
          least = omega arith;
          most = omega arith;
          is = record { body = b; stands = stands; below = omega (arith, from); above = omega (arith, to) };
          fronts = sym (early n (Do hd b) n (omega arith));
        }

        each : (front : List Loop) (l : Loop) (inner : List Loop) → loop n hd ∷ p.loops ≡ front ++ l ∷ inner → IsNested n (n + (statements_count b + 1)) (λ k. loops_round k (Do hd b) n) r.statement front l
        each [] l inner e = subst (λ (m : Loop). IsNested n (n + (statements_count b + 1)) (λ k. loops_round k (Do hd b) n) r.statement [] m) (first_is (loop n hd) l p.loops inner e) (itself p.from p.to)
        each (f ∷ front) l inner e =
            let q = p.each front l inner (rest_is (loop n hd) f p.loops (front ++ l ∷ inner) e) in
            let least = q.least in
            let most = q.most in
            record {
              least = omega (arith, least);
              most = omega (arith, most);
              is = q.is;
              fronts = (λ i. sym (first_is (loop n hd) f p.loops (front ++ l ∷ inner) e) i ∷ q.fronts i) ∙ sym (round_body l.number n hd b (omega (arith, least)) (omega (arith, most)));
            }

    mutual
      placed : (nest : List Loop) (n : ℕ) (s : StmtTree) → Stand t n (numbered s) → IsIn r (statement_references c nest n s) → Placed nest n (n + statement_count s) (λ k. loops_round k s n) r
      placed nest n (Assign left right) stand i = own_placed nest n 1 (λ k. []) (Assign left right) (omega arith) i
      placed nest n (If condition a b) stand i =
          let own : List Reference = numbered_accesses n 1 nest (own_accesses c (indices_of nest) (If condition a b)) in
          let middle : ℕ = n + 1 + statements_count a in
          let hi : ℕ = n + (statements_count a + statements_count b + 1) in
          let inner = inner_stands t (If condition a b) (all_numbered a ++ all_numbered b) n stand in
          elim (in_parts r (own ++ statements_references c nest (n + 1) a) (statements_references c nest middle b) i) [
            | inl j ↦ elim (in_parts r own (statements_references c nest (n + 1) a) j) [
              | inl k ↦ own_placed nest n (statements_count a + statements_count b + 1) (λ k. loops_round k (If condition a b) n) (If condition a b) (omega arith) k
              | inr k ↦ wider nest (n + 1) middle n hi (λ k. all_loops_round k a (n + 1)) (λ k. loops_round k (If condition a b) n) r (omega arith) (omega arith)
                  (λ k from to. first_alone k (all_loops_round k a (n + 1)) (all_loops_round k b middle) (all_early k b middle (omega (arith, to))))
                  (all_placed nest (n + 1) a (first_stands t (n + 1) (all_numbered a) (all_numbered b) inner) k)
            ]
            | inr j ↦ wider nest middle (middle + statements_count b) n hi (λ k. all_loops_round k b middle) (λ k. loops_round k (If condition a b) n) r (omega arith) (omega arith)
                (λ k from to. second_alone k (all_loops_round k a (n + 1)) (all_loops_round k b middle) (all_late k a (n + 1) from))
                (all_placed nest middle b (else_stands t a b (n + 1) inner) j)
          ]
      placed nest n (Do h body) stand i =
          elim (in_parts r (numbered_accesses n 1 nest (own_accesses c (indices_of nest) (Do h body))) (statements_references c (nest ++ loop n h ∷ []) (n + 1) body) i) [
            | inl k ↦ own_placed nest n (statements_count body + 1) (λ k. loops_round k (Do h body) n) (Do h body) (omega arith) k
            | inr k ↦ in_do nest n h body (is_there t (Do h body) (all_numbered body) n stand) (all_placed (nest ++ loop n h ∷ []) (n + 1) body (inner_stands t (Do h body) (all_numbered body) n stand) k)
          ]
      placed nest n (Print items) stand i = own_placed nest n 1 (λ k. []) (Print items) (omega arith) i
      placed nest n (Read items) stand i = own_placed nest n 1 (λ k. []) (Read items) (omega arith) i
      placed nest n Stop stand i = absurd i
      placed nest n (Comment text) stand i = absurd i

      all_placed : (nest : List Loop) (n : ℕ) (ss : StmtTrees) → Stand t n (all_numbered ss) → IsIn r (statements_references c nest n ss) → Placed nest n (n + statements_count ss) (λ k. all_loops_round k ss n) r
      all_placed nest n no_stmts stand i = absurd i
      all_placed nest n (more_stmts s rest) stand i =
          let middle : ℕ = n + statement_count s in
          let hi : ℕ = n + (statement_count s + statements_count rest) in
          elim (in_parts r (statement_references c nest n s) (statements_references c nest middle rest) i) [
            | inl j ↦ wider nest n middle n hi (λ k. loops_round k s n) (λ k. all_loops_round k (more_stmts s rest) n) r (omega arith) (omega arith)
                (λ k from to. first_alone k (loops_round k s n) (all_loops_round k rest middle) (all_early k rest middle (omega (arith, to))))
                (placed nest n s (first_stands t n (numbered s) (all_numbered rest) stand) j)
            | inr j ↦ wider nest middle (middle + statements_count rest) n hi (λ k. all_loops_round k rest middle) (λ k. all_loops_round k (more_stmts s rest) n) r (omega arith) (omega arith)
                (λ k from to. second_alone k (loops_round k s n) (all_loops_round k rest middle) (late k s n from))
                (all_placed nest middle rest (rest_stands t s rest n stand) j)
          ]

  -- each loop round a reference is a DO of the program with its statement in the body, and the loops in front of it are those round it
  pub loops_nested : (r : Reference) → IsIn r (references t) → (front : List Loop) (l : Loop) (inner : List Loop) → r.nest ≡ front ++ l ∷ inner → IsRound l r.statement × (front ≡ nest_round t l.number)
  loops_nested r i front l inner e =
      let p = all_placed (constant_names t.decls) r [] 1 t.body (whole_stands t) i in
      let q = p.each front l inner (sym p.nest_is ∙ e) in
      (q.is, q.fronts)

  -- numbers of references count from 1
  pub reference_number : (r : Reference) → IsIn r (references t) → 0 < r.number
  reference_number r i = (all_placed (constant_names t.decls) r [] 1 t.body (whole_stands t) i).number

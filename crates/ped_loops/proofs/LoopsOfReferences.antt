-- The DO loops round a reference: where its statement stands in the body of a DO, that DO is one of them, behind those round the DO.
use Rattle.std.proofs.Common.{◌≡◌, ◌⊎◌, ℕ, zero, suc, ◌+◌, ◌-◌, ◌≤◌, ◌<◌, ◌==◌, List, [], ◌∷◌, ◌++◌, length, Option, Some, None, if◌then◌else◌, refl, sym, ap, ◌∙◌, subst, inl, inr, arith, eqb-true, append_assoc, append-nil}
use Rattle.ped_tree.specs.Tree.{Head, StmtTree, StmtTrees, Assign, If, Do, Print, Read, Stop, Comment, no_stmts, more_stmts, ProgramTree}
use Rattle.ped_tree.specs.Accesses.{own_accesses, constant_names}
use Rattle.ped_tree.specs.Nests.{Loop, indices_of}
use Rattle.ped_tree.specs.Numbering.{numbered, all_numbered, at_place, statement_with, statement_count, statements_count}
use Rattle.ped_tree.proofs.Numbers.{length-numbered, length-all_numbered, at_place-front, at_place-back, at_place-past, length-at_place}
use Rattle.ped_rules.specs.ped_flow.specs.PlainBounds.{loops_round, all_loops_round, nest_round}
use Rattle.ped_rules.specs.ped_flow.specs.Questions.{LoopOf}
use Rattle.ped_rules.specs.ped_laws.specs.Acts.Orders.{IsIn}
use Rattle.ped_rules.specs.ped_laws.proofs.ActLaws.Lists.{in_parts}
use Rattle.ped_rules.specs.ped_laws.proofs.ConflictLaws.CoveringWrites.{own_access}
use Rattle.ped_refs.specs.References.{Reference, numbered_accesses, statement_references, statements_references, references}
use Rattle.ped_rules.specs.ped_steps.proofs.RunLaws.LoopsRound.{none_before, all_none_before, none_from, all_none_from, one_more}

-- a reference of statements, so many, of which the first has number n, in these loops
record IsPlaced (nest : List Loop) (n count : ℕ) (r : Reference) : Type 0 where
  more : List Loop
  is : r.nest ≡ nest ++ more
  from : n ≤ r.statement
  to : r.statement < n + count

-- a reference in the body of the DO with this number, which has these loops round it
pub record IsUnder (nest round : List Loop) (number : ℕ) (head : Head) (r : Reference) : Type 0 where
  pub inner : List Loop
  pub is : r.nest ≡ nest ++ (round ++ (record { number = number; head = head }) ∷ inner)

wider : (nest : List Loop) (n m few count : ℕ) (r : Reference) → n ≤ m → m + few ≤ n + count → IsPlaced nest m few r → IsPlaced nest n count r
wider nest n m few count r less fewer p =
    let from = p.from in
    let to = p.to in
    record { more = p.more; is = p.is; from = omega (arith, from, less); to = omega (arith, to, fewer) }

same_statement : (a b : StmtTree) → Some a ≡ Some b → a ≡ b
same_statement a b e = cc

same_head : (g h : Head) (b c : StmtTrees) → Do g b ≡ Do h c → g ≡ h
same_head g h b c e = cc

same_body : (g h : Head) (b c : StmtTrees) → Do g b ≡ Do h c → b ≡ c
same_body g h b c e = cc

no_do : (condition : _) (a b : StmtTrees) (h : Head) (body : StmtTrees) → Some (If condition a b) ≡ Some (Do h body) → ⊥
no_do condition a b h body e = absurd cc

-- a place is the first one, or stands behind another
first_or_behind : (k : ℕ) → (k ≡ 0) ⊎ ((j : ℕ) × (k ≡ j + 1))
first_or_behind zero = inl refl
first_or_behind (suc j) = inr (j, omega arith)

at_first : (s : StmtTree) (rest : List StmtTree) (k : ℕ) (g : StmtTree) → k ≡ 0 → at_place (s ∷ rest) k ≡ Some g → Some s ≡ Some g
at_first s rest k g e h = grind (arith, eqb-true)

at_behind : (s : StmtTree) (rest : List StmtTree) (k j : ℕ) (g : StmtTree) → k ≡ j + 1 → at_place (s ∷ rest) k ≡ Some g → at_place rest j ≡ Some g
at_behind s rest k j g e h = grind (arith, eqb-true)

-- what stands in one of two lists
in_front_or_back : (xs ys : List StmtTree) (k : ℕ) (g : StmtTree) → at_place (xs ++ ys) k ≡ Some g → (at_place xs k ≡ Some g) ⊎ ((j : ℕ) × (k ≡ j + length xs) × (at_place ys j ≡ Some g))
in_front_or_back xs ys k g h = by (at_place xs k) refl
  where
    by : (o : Option StmtTree) → at_place xs k ≡ o → (at_place xs k ≡ Some g) ⊎ ((j : ℕ) × (k ≡ j + length xs) × (at_place ys j ≡ Some g))
    by (Some f) e = inl (e ∙ sym (at_place-front xs ys k f e) ∙ h)
    by None e =
        let long = length-at_place xs k e in
        let j : ℕ = k - length xs in
        let here : j + length xs ≡ k = omega (arith, long) in
        inr (j, sym here, sym (at_place-back xs ys k j here) ∙ h)

-- what stands at a place stands before the end
before_end : (xs : List StmtTree) (k : ℕ) (g : StmtTree) → at_place xs k ≡ Some g → k < length xs
before_end xs k g h = by (at_place-past xs k)
  where
    some : at_place xs k ≡ None → ⊥
    some e = let wrong = sym e ∙ h in absurd cc

    by : (length xs ≤ k → at_place xs k ≡ None) → k < length xs
    by past = not_over (λ le. some (past le))
      where
        not_over : (length xs ≤ k → ⊥) → k < length xs
        not_over none = omega (arith, none)

-- a statement that is no DO holds none
not_alone : (s : StmtTree) (k : ℕ) (h : Head) (body : StmtTrees) → at_place (s ∷ []) k ≡ Some (Do h body) → (Some s ≡ Some (Do h body) → ⊥) → k + statements_count body < 1
not_alone s k h body at none = elim (first_or_behind k) [
  | inl e ↦ absurd (none (at_first s [] k (Do h body) e at))
  | inr p ↦ (let nothing = at_behind s [] k p.0 (Do h body) p.1 at in absurd cc)
]

-- the statements of a DO that stands in a statement, or among statements, stand there too
mutual
  holds_body : (s : StmtTree) (k : ℕ) (h : Head) (body : StmtTrees) → at_place (numbered s) k ≡ Some (Do h body) → k + statements_count body < statement_count s
  holds_body (Assign left right) k h body at = not_alone (Assign left right) k h body at (λ e. absurd cc)
  holds_body (If condition a b) k h body at = elim (first_or_behind k) [
    | inl e ↦ absurd (no_do condition a b h body (at_first (If condition a b) (all_numbered a ++ all_numbered b) k (Do h body) e at))
    | inr p ↦ (let j = p.0 in let e = p.1 in elim (in_front_or_back (all_numbered a) (all_numbered b) j (Do h body) (at_behind (If condition a b) (all_numbered a ++ all_numbered b) k j (Do h body) e at)) [
      | inl here ↦ (let inner = hold_body a j h body here in omega (arith, inner, e))
      | inr q ↦ (let inner = hold_body b q.0 h body q.2 in let at_b = q.1 in let long = length-all_numbered a in omega (arith, inner, e, at_b, long))
    ])
  ]
  holds_body (Do g b) k h body at = elim (first_or_behind k) [
    | inl e ↦ (let same = ap statements_count (same_body g h b body (same_statement (Do g b) (Do h body) (at_first (Do g b) (all_numbered b) k (Do h body) e at))) in omega (arith, e, same))
    | inr p ↦ (let inner = hold_body b p.0 h body (at_behind (Do g b) (all_numbered b) k p.0 (Do h body) p.1 at) in let e = p.1 in omega (arith, inner, e))
  ]
  holds_body (Print items) k h body at = not_alone (Print items) k h body at (λ e. absurd cc)
  holds_body (Read items) k h body at = not_alone (Read items) k h body at (λ e. absurd cc)
  holds_body Stop k h body at = not_alone Stop k h body at (λ e. absurd cc)
  holds_body (Comment text) k h body at = absurd cc

  hold_body : (ss : StmtTrees) (k : ℕ) (h : Head) (body : StmtTrees) → at_place (all_numbered ss) k ≡ Some (Do h body) → k + statements_count body < statements_count ss
  hold_body no_stmts k h body at = absurd cc
  hold_body (more_stmts s rest) k h body at = elim (in_front_or_back (numbered s) (all_numbered rest) k (Do h body) at) [
    | inl here ↦ (let inner = holds_body s k h body here in omega (arith, inner))
    | inr q ↦ (let inner = hold_body rest q.0 h body q.2 in let e = q.1 in let long = length-numbered s in omega (arith, inner, e, long))
  ]

module _ (c : List (List ℕ)) where
  own_placed : (nest : List Loop) (n count : ℕ) (s : StmtTree) (r : Reference) → 0 < count → IsIn r (numbered_accesses n 1 nest (own_accesses c (indices_of nest) s)) → IsPlaced nest n count r
  own_placed nest n count s r some i =
      let o = own_access n 1 nest (own_accesses c (indices_of nest) s) r i in
      let at : r.statement ≡ n = o.0 in
      record { more = []; is = o.1 ∙ sym (append-nil nest); from = omega (arith, at); to = omega (arith, at, some) }

  mutual
    placed : (nest : List Loop) (n : ℕ) (s : StmtTree) (r : Reference) → IsIn r (statement_references c nest n s) → IsPlaced nest n (statement_count s) r
    placed nest n (Assign left right) r i = own_placed nest n 1 (Assign left right) r (omega arith) i
    placed nest n (If condition a b) r i =
        let own = numbered_accesses n 1 nest (own_accesses c (indices_of nest) (If condition a b)) in
        let count : ℕ = statements_count a + statements_count b + 1 in
        elim (in_parts r (own ++ statements_references c nest (n + 1) a) (statements_references c nest (n + 1 + statements_count a) b) i) [
          | inl j ↦ elim (in_parts r own (statements_references c nest (n + 1) a) j) [
            | inl k ↦ own_placed nest n count (If condition a b) r (omega arith) k
            | inr k ↦ wider nest n (n + 1) (statements_count a) count r (omega arith) (omega arith) (all_placed nest (n + 1) a r k)
          ]
          | inr j ↦ wider nest n (n + 1 + statements_count a) (statements_count b) count r (omega arith) (omega arith) (all_placed nest (n + 1 + statements_count a) b r j)
        ]
    placed nest n (Do h body) r i =
        let loop : Loop = record { number = n; head = h } in
        elim (in_parts r (numbered_accesses n 1 nest (own_accesses c (indices_of nest) (Do h body))) (statements_references c (nest ++ loop ∷ []) (n + 1) body) i) [
          | inl k ↦ own_placed nest n (statements_count body + 1) (Do h body) r (omega arith) k
          | inr k ↦ (let p = all_placed (nest ++ loop ∷ []) (n + 1) body r k in
              let from = p.from in
              let to = p.to in
              record { more = loop ∷ p.more; is = p.is ∙ append_assoc nest (loop ∷ []) p.more; from = omega (arith, from); to = omega (arith, to) })
        ]
    placed nest n (Print items) r i = own_placed nest n 1 (Print items) r (omega arith) i
    placed nest n (Read items) r i = own_placed nest n 1 (Read items) r (omega arith) i
    placed nest n Stop r i = absurd i
    placed nest n (Comment text) r i = absurd i

    all_placed : (nest : List Loop) (n : ℕ) (ss : StmtTrees) (r : Reference) → IsIn r (statements_references c nest n ss) → IsPlaced nest n (statements_count ss) r
    all_placed nest n no_stmts r i = absurd i
    all_placed nest n (more_stmts s rest) r i =
        elim (in_parts r (statement_references c nest n s) (statements_references c nest (n + statement_count s) rest) i) [
          | inl j ↦ wider nest n n (statement_count s) (statement_count s + statements_count rest) r (omega arith) (omega arith) (placed nest n s r j)
          | inr j ↦ wider nest n (n + statement_count s) (statements_count rest) (statement_count s + statements_count rest) r (omega arith) (omega arith) (all_placed nest (n + statement_count s) rest r j)
        ]

  -- what a statement refers to by itself stands in no DO in it
  not_own : (nest : List Loop) (n : ℕ) (s : StmtTree) (r : Reference) (l : ℕ) → n ≤ l → l < r.statement → IsIn r (numbered_accesses n 1 nest (own_accesses c (indices_of nest) s)) → ⊥
  not_own nest n s r l from below i = let at : r.statement ≡ n = (own_access n 1 nest (own_accesses c (indices_of nest) s) r i).0 in omega (arith, at, from, below)

  same_round : (nest round other : List Loop) (l : ℕ) (h : Head) (r : Reference) → round ≡ other → IsUnder nest other l h r → IsUnder nest round l h r
  same_round nest round other l h r e u = subst (λ (ls : List Loop). IsUnder nest ls l h r) (sym e) u

  no_first : (xs ys : List Loop) → xs ≡ [] → xs ++ ys ≡ ys
  no_first xs ys e = ap (λ (zs : List Loop). zs ++ ys) e

  no_second : (xs ys : List Loop) → ys ≡ [] → xs ++ ys ≡ xs
  no_second xs ys e = ap (λ (zs : List Loop). xs ++ zs) e ∙ append-nil xs

  module _ (l : ℕ) (h : Head) (body : StmtTrees) (r : Reference) (below : l < r.statement) (above : r.statement ≤ l + statements_count body) where
    mutual
      under : (nest : List Loop) (n k : ℕ) (s : StmtTree) → l ≡ n + k → at_place (numbered s) k ≡ Some (Do h body) → IsIn r (statement_references c nest n s) → IsUnder nest (loops_round l s n) l h r
      under nest n k (Assign left right) e at i = absurd (not_own nest n (Assign left right) r l (omega (arith, e)) below i)
      under nest n k (If condition a b) e at i =
          let own = numbered_accesses n 1 nest (own_accesses c (indices_of nest) (If condition a b)) in
          let of_a = statements_references c nest (n + 1) a in
          let of_b = statements_references c nest (n + 1 + statements_count a) b in
          elim (first_or_behind k) [
            | inl first ↦ absurd (no_do condition a b h body (at_first (If condition a b) (all_numbered a ++ all_numbered b) k (Do h body) first at))
            | inr p ↦ (let j = p.0 in let behind = p.1 in elim (in_front_or_back (all_numbered a) (all_numbered b) j (Do h body) (at_behind (If condition a b) (all_numbered a ++ all_numbered b) k j (Do h body) behind at)) [
              | inl here ↦ (let holds = hold_body a j h body here in elim (in_parts r (own ++ of_a) of_b i) [
                | inl q ↦ elim (in_parts r own of_a q) [
                  | inl o ↦ absurd (not_own nest n (If condition a b) r l (omega (arith, e)) below o)
                  | inr o ↦ same_round nest (all_loops_round l a (n + 1) ++ all_loops_round l b (n + 1 + statements_count a)) (all_loops_round l a (n + 1)) l h r
                      (no_second (all_loops_round l a (n + 1)) (all_loops_round l b (n + 1 + statements_count a)) (all_none_from l b (n + 1 + statements_count a) (omega (arith, e, behind, holds))))
                      (all_under nest (n + 1) j a (omega (arith, e, behind)) here o)
                ]
                | inr q ↦ (let from = (all_placed nest (n + 1 + statements_count a) b r q).from in absurd (omega (arith, from, above, holds, e, behind)))
              ])
              | inr there ↦ (let at_b = there.1 in let long = length-all_numbered a in elim (in_parts r (own ++ of_a) of_b i) [
                | inl q ↦ elim (in_parts r own of_a q) [
                  | inl o ↦ absurd (not_own nest n (If condition a b) r l (omega (arith, e)) below o)
                  | inr o ↦ (let to = (all_placed nest (n + 1) a r o).to in absurd (omega (arith, to, below, e, behind, at_b, long)))
                ]
                | inr q ↦ same_round nest (all_loops_round l a (n + 1) ++ all_loops_round l b (n + 1 + statements_count a)) (all_loops_round l b (n + 1 + statements_count a)) l h r
                    (no_first (all_loops_round l a (n + 1)) (all_loops_round l b (n + 1 + statements_count a)) (all_none_before l a (n + 1) (omega (arith, e, behind, at_b, long))))
                    (all_under nest (n + 1 + statements_count a) there.0 b (omega (arith, e, behind, at_b, long)) there.2 q)
              ])
            ])
          ]
      under nest n k (Do g b) e at i =
          let loop : Loop = record { number = n; head = g } in
          elim (in_parts r (numbered_accesses n 1 nest (own_accesses c (indices_of nest) (Do g b))) (statements_references c (nest ++ loop ∷ []) (n + 1) b) i) [
            | inl o ↦ absurd (not_own nest n (Do g b) r l (omega (arith, e)) below o)
            | inr q ↦ elim (first_or_behind k) [
              | inl first ↦ (let p = all_placed (nest ++ loop ∷ []) (n + 1) b r q in
                  let same = same_statement (Do g b) (Do h body) (at_first (Do g b) (all_numbered b) k (Do h body) first at) in
                  let here : l ≡ n = omega (arith, e, first) in
                  same_round nest (loops_round l (Do g b) n) [] l h r (none_from l (Do g b) n (omega (arith, here)))
                  (record { inner = p.more; is = p.is ∙ append_assoc nest (loop ∷ []) p.more ∙ (λ z. nest ++ (record { number = sym here z; head = same_head g h b body same z }) ∷ p.more) }))
              | inr p ↦ (let j = p.0 in let behind = p.1 in
                  let there = at_behind (Do g b) (all_numbered b) k j (Do h body) behind at in
                  let holds = hold_body b j h body there in
                  let u = all_under (nest ++ loop ∷ []) (n + 1) j b (omega (arith, e, behind)) there q in
                  same_round nest (loops_round l (Do g b) n) (loop ∷ all_loops_round l b (n + 1)) l h r (one_more l g b n (omega (arith, e, behind)) (omega (arith, e, behind, holds)))
                  (record { inner = u.inner; is = u.is ∙ append_assoc nest (loop ∷ []) (all_loops_round l b (n + 1) ++ (record { number = l; head = h }) ∷ u.inner) }))
            ]
          ]
      under nest n k (Print items) e at i = absurd (not_own nest n (Print items) r l (omega (arith, e)) below i)
      under nest n k (Read items) e at i = absurd (not_own nest n (Read items) r l (omega (arith, e)) below i)
      under nest n k Stop e at i = absurd i
      under nest n k (Comment text) e at i = absurd i

      all_under : (nest : List Loop) (n k : ℕ) (ss : StmtTrees) → l ≡ n + k → at_place (all_numbered ss) k ≡ Some (Do h body) → IsIn r (statements_references c nest n ss) → IsUnder nest (all_loops_round l ss n) l h r
      all_under nest n k no_stmts e at i = absurd i
      all_under nest n k (more_stmts s rest) e at i =
          let of_s = statement_references c nest n s in
          let of_rest = statements_references c nest (n + statement_count s) rest in
          let long = length-numbered s in
          elim (in_front_or_back (numbered s) (all_numbered rest) k (Do h body) at) [
            | inl here ↦ (let holds = holds_body s k h body here in elim (in_parts r of_s of_rest i) [
              | inl q ↦ same_round nest (loops_round l s n ++ all_loops_round l rest (n + statement_count s)) (loops_round l s n) l h r
                  (no_second (loops_round l s n) (all_loops_round l rest (n + statement_count s)) (all_none_from l rest (n + statement_count s) (omega (arith, e, holds))))
                  (under nest n k s e here q)
              | inr q ↦ (let from = (all_placed nest (n + statement_count s) rest r q).from in absurd (omega (arith, from, above, holds, e)))
            ])
            | inr there ↦ (let at_rest = there.1 in elim (in_parts r of_s of_rest i) [
              | inl q ↦ (let to = (placed nest n s r q).to in absurd (omega (arith, to, below, e, at_rest, long)))
              | inr q ↦ same_round nest (loops_round l s n ++ all_loops_round l rest (n + statement_count s)) (all_loops_round l rest (n + statement_count s)) l h r
                  (no_first (loops_round l s n) (all_loops_round l rest (n + statement_count s)) (none_before l s n (omega (arith, e, at_rest, long))))
                  (all_under nest (n + statement_count s) there.0 rest (omega (arith, e, at_rest, long)) there.2 q)
            ])
          ]

-- in a program
pub under_loop : (t : ProgramTree) (l : ℕ) (loop : LoopOf t l) (r : Reference) → IsIn r (references t) → l < r.statement → r.statement ≤ l + statements_count loop.body → IsUnder [] (nest_round t l) l loop.head r
under_loop t l loop r i below above = elim (first_or_behind l) [
  | inl none ↦ absurd (no_statement none)
  | inr p ↦ (let e = p.1 in all_under (constant_names t.decls) l loop.head loop.body r below above [] 1 p.0 t.body (omega (arith, e)) (there p.0 e) i)
]
  where
    no_statement : l ≡ 0 → ⊥
    no_statement e = let nothing : statement_with l t ≡ None = ap (λ (n : ℕ). statement_with n t) e in let wrong = sym nothing ∙ loop.is in absurd cc

    there : (j : ℕ) → l ≡ j + 1 → at_place (all_numbered t.body) j ≡ Some (Do loop.head loop.body)
    there j e = place_of (all_numbered t.body) j l (Do loop.head loop.body) e loop.is
      where
        place_of : (xs : List StmtTree) (j n : ℕ) (g : StmtTree) → n ≡ j + 1 → (if n == 0 then None else at_place xs (n - 1)) ≡ Some g → at_place xs j ≡ Some g
        place_of xs j n g e h = grind (arith, eqb-true)

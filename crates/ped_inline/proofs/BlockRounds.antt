-- The DO loops round a marked block are the outermost ones round each reference in it.
use Rattle.std.proofs.Common.{◌≡◌, ℕ, ◌+◌, ◌-◌, ◌<◌, ◌≤◌, List, [], ◌∷◌, ◌++◌, length, replicate, get_or, Bool, true, false, Option, Some, None, if◌then◌else◌, refl, sym, ap, ◌∙◌, subst, inl, inr, arith, append_assoc}
use Rattle.std.proofs.lemmas.List.{append-nil, length-append, length-replicate, get_or-replicate, get_or-append-add}
use Rattle.std.proofs.Math.ListN.{get_or-append}
use Rattle.ped_tree.specs.Tree.{Head, StmtTree, StmtTrees, Assign, If, Do, Print, Read, Stop, Comment, no_stmts, more_stmts, ProgramTree}
use Rattle.ped_tree.specs.Accesses.{own_accesses, constant_names}
use Rattle.ped_tree.specs.Nests.{Loop, indices_of}
use Rattle.ped_tree.specs.Numbering.{statement_count, statements_count}
use Rattle.ped_rules.specs.ped_flow.specs.PlainBounds.{loops_round, all_loops_round, nest_round}
use Rattle.ped_refs.specs.References.{Reference, numbered_accesses, statement_references, statements_references, references}
use Rattle.ped_rules.specs.ped_laws.specs.Acts.Orders.{IsIn}
use Rattle.ped_rules.specs.ped_laws.proofs.ActLaws.Lists.{in_parts}
use Rattle.ped_rules.specs.ped_laws.proofs.ConflictLaws.CoveringWrites.{own_access}
use Rattle.ped_rules.specs.ped_steps.proofs.RunLaws.LoopsRound.{none_before, all_none_before, none_from, all_none_from, one_more}
use Rattle.ped_inline.specs.Folding.{CallBlock, is_block, blocks_in, all_blocks_in, blocks, block_at}

-- a block stands among statements, so many, of which the first has number n; the loops round it are the first of those further in
record IsRoundBlock (nest : List Loop) (n count : ℕ) (round : ℕ → List Loop) (more : List Loop) (b : CallBlock) : Type 0 where
  inner : List Loop
  begins : more ≡ round b.number ++ inner
  deep : b.loops ≡ length nest + length (round b.number)
  from : n ≤ b.number
  to : b.number < n + count

-- a reference in these statements, with what is known of the block at its place
record IsPlaced (nest : List Loop) (n count : ℕ) (bs : List (Option CallBlock)) (round : ℕ → List Loop) (r : Reference) : Type 0 where
  more : List Loop
  is : r.nest ≡ nest ++ more
  place : ℕ
  at : r.statement ≡ n + place
  within : place < count
  block : (b : CallBlock) → get_or bs place None ≡ Some b → IsRoundBlock nest n count round more b

mutual
  length-blocks : (loops n : ℕ) (s : StmtTree) → length (blocks_in loops n s) ≡ statement_count s
  length-blocks loops n (Assign left right) = refl
  length-blocks loops n (If c x y) = by_block (is_block (If c x y)) (length-all_blocks loops (n + 1) x) (length-all_blocks loops (n + 1 + statements_count x) y)
    where
      xs : List (Option CallBlock)
      xs = all_blocks_in loops (n + 1) x

      ys : List (Option CallBlock)
      ys = all_blocks_in loops (n + 1 + statements_count x) y

      by_block : (m : Bool) → length xs ≡ statements_count x → length ys ≡ statements_count y
          → length (if m then replicate (statement_count (If c x y)) (Some (record { number = n; loops = loops })) else None ∷ (xs ++ ys)) ≡ statement_count (If c x y)
      by_block true e f = length-replicate (statement_count (If c x y)) (Some (record { number = n; loops = loops }))
      by_block false e f = let both = length-append xs ys in omega (arith, both, e, f)
  length-blocks loops n (Do h body) = let rest = length-all_blocks (loops + 1) (n + 1) body in omega (arith, rest)
  length-blocks loops n (Print items) = refl
  length-blocks loops n (Read items) = refl
  length-blocks loops n Stop = refl
  length-blocks loops n (Comment text) = refl

  length-all_blocks : (loops n : ℕ) (ss : StmtTrees) → length (all_blocks_in loops n ss) ≡ statements_count ss
  length-all_blocks loops n no_stmts = refl
  length-all_blocks loops n (more_stmts s rest) =
      let first = length-blocks loops n s in
      let second = length-all_blocks loops (n + statement_count s) rest in
      let both = length-append (blocks_in loops n s) (all_blocks_in loops (n + statement_count s) rest) in
      omega (arith, both, first, second)

-- placed in a part is placed in the whole
wider : (nest : List Loop) (n m count few shift : ℕ) (bs part : List (Option CallBlock)) (round within : ℕ → List Loop) (r : Reference) → m ≡ n + shift → shift + few ≤ count
    → ((k : ℕ) → k < few → get_or bs (k + shift) None ≡ get_or part k None) → ((k : ℕ) → m ≤ k → k < m + few → round k ≡ within k) → IsPlaced nest m few part within r → IsPlaced nest n count bs round r
wider nest n m count few shift bs part round within r e fewer same loops p =
    let at = p.at in
    let inside = p.within in
    record {
      more = p.more;
      is = p.is;
      place = p.place + shift;
      at = omega (arith, at, e);
      within = omega (arith, inside, fewer);
      block = λ b h.
          let g = p.block b (sym (same p.place inside) ∙ h) in
          let from = g.from in
          let to = g.to in
          let round_is = loops b.number from to in
          record {
            inner = g.inner;
            begins = g.begins ∙ ap (λ (ls : List Loop). ls ++ g.inner) (sym round_is);
            deep = g.deep ∙ ap (λ (ls : List Loop). length nest + length ls) (sym round_is);
            from = omega (arith, from, e);
            to = omega (arith, to, e, fewer);
          };
    }

none_at : (b : CallBlock) → None ≡ Some b → ⊥
none_at b e = absurd cc

no_first : (xs ys : List Loop) → xs ≡ [] → xs ++ ys ≡ ys
no_first xs ys e = ap (λ (zs : List Loop). zs ++ ys) e

no_second : (xs ys : List Loop) → ys ≡ [] → xs ++ ys ≡ xs
no_second xs ys e = ap (λ (zs : List Loop). xs ++ zs) e ∙ append-nil xs

module _ (c : List (List ℕ)) where
  -- a reference of the statement itself, which stands in no block
  own_placed : (nest : List Loop) (n count : ℕ) (s : StmtTree) (rest : List (Option CallBlock)) (round : ℕ → List Loop) (r : Reference) → 0 < count → IsIn r (numbered_accesses n 1 nest (own_accesses c (indices_of nest) s)) → IsPlaced nest n count (None ∷ rest) round r
  own_placed nest n count s rest round r some i =
      let o = own_access n 1 nest (own_accesses c (indices_of nest) s) r i in
      let at : r.statement ≡ n = o.0 in
      record { more = []; is = o.1 ∙ sym (append-nil nest); place = 0; at = omega (arith, at); within = some; block = λ b h. absurd (none_at b h) }

  -- a reference in a marked block
  in_block : (nest : List Loop) (n : ℕ) (s : StmtTree) (bs : List (Option CallBlock)) (r : Reference) → IsPlaced nest n (statement_count s) bs (λ k. loops_round k s n) r
      → IsPlaced nest n (statement_count s) (replicate (statement_count s) (Some (record { number = n; loops = length nest }))) (λ k. loops_round k s n) r
  in_block nest n s bs r p =
      let inside = p.within in
      let the : CallBlock = record { number = n; loops = length nest } in
      let none : loops_round n s n ≡ [] = none_from n s n (omega arith) in
      record {
        more = p.more;
        is = p.is;
        place = p.place;
        at = p.at;
        within = inside;
        block = λ b h.
            let it : Some the ≡ Some b = sym (get_or-replicate (statement_count s) p.place (Some the) None inside) ∙ h in
            subst (IsRoundBlock nest n (statement_count s) (λ k. loops_round k s n) p.more) (one_some the b it)
            (record { inner = p.more; begins = sym (no_first (loops_round n s n) p.more none); deep = (let e : length (loops_round n s n) ≡ 0 = ap length none in omega (arith, e)); from = omega arith; to = omega (arith, inside) });
      }
    where
      one_some : (x y : CallBlock) → Some x ≡ Some y → x ≡ y
      one_some x y e = cc

  -- a reference in the body of a DO
  in_body : (nest : List Loop) (n : ℕ) (h : Head) (body : StmtTrees) (bs : List (Option CallBlock)) (r : Reference) → IsPlaced (nest ++ (record { number = n; head = h }) ∷ []) (n + 1) (statements_count body) bs (λ k. all_loops_round k body (n + 1)) r
      → IsPlaced nest n (statements_count body + 1) (None ∷ bs) (λ k. loops_round k (Do h body) n) r
  in_body nest n h body bs r p =
      let at = p.at in
      let inside = p.within in
      let loop : Loop = record { number = n; head = h } in
      record {
        more = loop ∷ p.more;
        is = p.is ∙ append_assoc nest (loop ∷ []) p.more;
        place = p.place + 1;
        at = omega (arith, at);
        within = omega (arith, inside);
        block = λ b e.
            let g = p.block b (sym (behind_one p.place) ∙ e) in
            let from = g.from in
            let to = g.to in
            let deep = g.deep in
            let long = length-append nest (loop ∷ []) in
            let round : loops_round b.number (Do h body) n ≡ loop ∷ all_loops_round b.number body (n + 1) = one_more b.number h body n (omega (arith, from)) (omega (arith, to)) in
            let counted : length (loops_round b.number (Do h body) n) ≡ length (all_loops_round b.number body (n + 1)) + 1 = ap length round ∙ omega arith in
            record {
              inner = g.inner;
              begins = ap (λ (ls : List Loop). loop ∷ ls) g.begins ∙ ap (λ (ls : List Loop). ls ++ g.inner) (sym round);
              deep = omega (arith, deep, long, counted);
              from = omega (arith, from);
              to = omega (arith, to);
            };
      }
    where
      behind_one : (k : ℕ) → get_or (None ∷ bs) (k + 1) None ≡ get_or bs k None
      behind_one k = let e : k + 1 ≡ 1 + k = omega arith in ap (λ (j : ℕ). get_or (None ∷ bs) j None) e ∙ get_or-append-add (None ∷ []) bs k None

  front : (xs ys : List (Option CallBlock)) (k : ℕ) → k < length xs → get_or (xs ++ ys) (k + 0) None ≡ get_or xs k None
  front xs ys k h = let e : k + 0 ≡ k = omega arith in ap (λ (j : ℕ). get_or (xs ++ ys) j None) e ∙ get_or-append xs ys None k h

  back : (xs ys : List (Option CallBlock)) (m k : ℕ) → m ≡ length xs → get_or (xs ++ ys) (k + m) None ≡ get_or ys k None
  back xs ys m k e = let f : k + m ≡ length xs + k = omega (arith, e) in ap (λ (j : ℕ). get_or (xs ++ ys) j None) f ∙ get_or-append-add xs ys k None

  mutual
    statement_placed : (nest : List Loop) (n : ℕ) (s : StmtTree) (r : Reference) → IsIn r (statement_references c nest n s) → IsPlaced nest n (statement_count s) (blocks_in (length nest) n s) (λ k. loops_round k s n) r
    statement_placed nest n (Assign left right) r i = own_placed nest n 1 (Assign left right) [] (λ k. []) r (omega arith) i
    statement_placed nest n (If condition a b) r i =
        let own = numbered_accesses n 1 nest (own_accesses c (indices_of nest) (If condition a b)) in
        let count : ℕ = statements_count a + statements_count b + 1 in
        let first : List (Option CallBlock) = all_blocks_in (length nest) (n + 1) a in
        let second : List (Option CallBlock) = all_blocks_in (length nest) (n + 1 + statements_count a) b in
        let long = length-all_blocks (length nest) (n + 1) a in
        by_block (is_block (If condition a b)) (elim (in_parts r (own ++ statements_references c nest (n + 1) a) (statements_references c nest (n + 1 + statements_count a) b) i) [
          | inl j ↦ elim (in_parts r own (statements_references c nest (n + 1) a) j) [
            | inl k ↦ own_placed nest n count (If condition a b) (first ++ second) (λ k. loops_round k (If condition a b) n) r (omega arith) k
            | inr k ↦ wider nest n (n + 1) count (statements_count a) 1 (None ∷ (first ++ second)) first (λ k. loops_round k (If condition a b) n) (λ k. all_loops_round k a (n + 1)) r (omega arith) (omega arith)
                (λ k less. back (None ∷ []) (first ++ second) 1 k refl ∙ get_or-append first second None k (omega (arith, less, long)))
                (λ k from to. no_second (all_loops_round k a (n + 1)) (all_loops_round k b (n + 1 + statements_count a)) (all_none_from k b (n + 1 + statements_count a) (omega (arith, to))))
                (statements_placed nest (n + 1) a r k)
          ]
          | inr j ↦ wider nest n (n + 1 + statements_count a) count (statements_count b) (1 + statements_count a) (None ∷ (first ++ second)) second (λ k. loops_round k (If condition a b) n) (λ k. all_loops_round k b (n + 1 + statements_count a)) r (omega arith) (omega arith)
              (λ k less. back (None ∷ first) second (1 + statements_count a) k (omega (arith, long)))
              (λ k from to. no_first (all_loops_round k a (n + 1)) (all_loops_round k b (n + 1 + statements_count a)) (all_none_before k a (n + 1) from))
              (statements_placed nest (n + 1 + statements_count a) b r j)
        ])
      where
        bs : List (Option CallBlock)
        bs = None ∷ (all_blocks_in (length nest) (n + 1) a ++ all_blocks_in (length nest) (n + 1 + statements_count a) b)

        by_block : (m : Bool) → IsPlaced nest n (statement_count (If condition a b)) bs (λ k. loops_round k (If condition a b) n) r
            → IsPlaced nest n (statement_count (If condition a b)) (if m then replicate (statement_count (If condition a b)) (Some (record { number = n; loops = length nest })) else bs) (λ k. loops_round k (If condition a b) n) r
        by_block true p = in_block nest n (If condition a b) bs r p
        by_block false p = p
    statement_placed nest n (Do h body) r i =
        let loop : Loop = record { number = n; head = h } in
        elim (in_parts r (numbered_accesses n 1 nest (own_accesses c (indices_of nest) (Do h body))) (statements_references c (nest ++ loop ∷ []) (n + 1) body) i) [
          | inl k ↦ own_placed nest n (statements_count body + 1) (Do h body) (all_blocks_in (length nest + 1) (n + 1) body) (λ k. loops_round k (Do h body) n) r (omega arith) k
          | inr k ↦ (let long : length (nest ++ loop ∷ []) ≡ length nest + 1 = length-append nest (loop ∷ []) in
              in_body nest n h body (all_blocks_in (length nest + 1) (n + 1) body) r
              (subst (λ (m : ℕ). IsPlaced (nest ++ loop ∷ []) (n + 1) (statements_count body) (all_blocks_in m (n + 1) body) (λ k. all_loops_round k body (n + 1)) r) long (statements_placed (nest ++ loop ∷ []) (n + 1) body r k)))
        ]
    statement_placed nest n (Print items) r i = own_placed nest n 1 (Print items) [] (λ k. []) r (omega arith) i
    statement_placed nest n (Read items) r i = own_placed nest n 1 (Read items) [] (λ k. []) r (omega arith) i
    statement_placed nest n Stop r i = absurd i
    statement_placed nest n (Comment text) r i = absurd i

    statements_placed : (nest : List Loop) (n : ℕ) (ss : StmtTrees) (r : Reference) → IsIn r (statements_references c nest n ss) → IsPlaced nest n (statements_count ss) (all_blocks_in (length nest) n ss) (λ k. all_loops_round k ss n) r
    statements_placed nest n no_stmts r i = absurd i
    statements_placed nest n (more_stmts s rest) r i =
        let first = blocks_in (length nest) n s in
        let second = all_blocks_in (length nest) (n + statement_count s) rest in
        let long = length-blocks (length nest) n s in
        elim (in_parts r (statement_references c nest n s) (statements_references c nest (n + statement_count s) rest) i) [
          | inl j ↦ wider nest n n (statement_count s + statements_count rest) (statement_count s) 0 (first ++ second) first (λ k. all_loops_round k (more_stmts s rest) n) (λ k. loops_round k s n) r (omega arith) (omega arith)
              (λ k less. front first second k (omega (arith, less, long)))
              (λ k from to. no_second (loops_round k s n) (all_loops_round k rest (n + statement_count s)) (all_none_from k rest (n + statement_count s) (omega (arith, to))))
              (statement_placed nest n s r j)
          | inr j ↦ wider nest n (n + statement_count s) (statement_count s + statements_count rest) (statements_count rest) (statement_count s) (first ++ second) second (λ k. all_loops_round k (more_stmts s rest) n) (λ k. all_loops_round k rest (n + statement_count s)) r refl (omega arith)
              (λ k less. back first second (statement_count s) k (sym long))
              (λ k from to. no_first (loops_round k s n) (all_loops_round k rest (n + statement_count s)) (none_before k s n from))
              (statements_placed nest (n + statement_count s) rest r j)
        ]

-- what is round a block is round all references in it
pub round_block : (t : ProgramTree) (r : Reference) (b : CallBlock) → IsIn r (references t) → block_at (blocks t) r.statement ≡ Some b → ((inner : List Loop) × (r.nest ≡ nest_round t b.number ++ inner)) × (b.loops ≡ length (nest_round t b.number))
round_block t r b i h =
    let p = statements_placed (constant_names t.decls) [] 1 t.body r i in
    let at = p.at in
    let place : r.statement - 1 ≡ p.place = omega (arith, at) in
    let g = p.block b (ap (λ (k : ℕ). get_or (blocks t) k None) (sym place) ∙ h) in
    let deep = g.deep in
    ((g.inner, p.is ∙ g.begins), omega (arith, deep))

-- The references in the body of a DO that stands in a gap are those with the numbers of its statements.
use Rattle.std.proofs.Common.{◌≡◌, ℕ, ◌+◌, ◌≤◌, ◌<◌, List, [], ◌∷◌, ◌++◌, inl, inr, sym, ap, ◌∙◌, arith, append-nil, append_assoc}
use Rattle.ped_tree.specs.Tree.{Head, StmtTree, StmtTrees, If, Do, no_stmts, more_stmts}
use Rattle.ped_tree.specs.Accesses.{own_accesses}
use Rattle.ped_tree.specs.Nests.{Loop, indices_of}
use Rattle.ped_tree.specs.Numbering.{statement_count, statements_count}
use Rattle.ped_refs.specs.References.{Reference, numbered_accesses, statement_references, statements_references}
use Rattle.ped_rules.specs.ped_steps.specs.Replacing.{followed, alone}
use Rattle.ped_rules.specs.ped_steps.specs.Runs.Gaps.{Gap, at_front, past, in_then, in_else, in_body, filled, number_at}
use Rattle.ped_rules.specs.ped_steps.proofs.RunLaws.FilledGaps.{number_from, number_room}
use Rattle.ped_rules.specs.ped_steps.proofs.RunLaws.ReplacedTrees.{all_inside}
use Rattle.ped_rules.specs.ped_laws.specs.Acts.Orders.{IsIn}
use Rattle.ped_rules.specs.ped_laws.proofs.ActLaws.Lists.{in_left, in_right, in_parts}
use Rattle.ped_rules.specs.ped_laws.proofs.ConflictLaws.CoveringWrites.{own_access, statements_located}
use Rattle.ped_reduce.proofs.LoopsRoundGaps.{gap_loops}

-- a DO round statements
abbrev pub loop : ℕ → Head → Loop
loop n h = record { number = n; head = h }

-- the DO loops round a gap, behind these
abbrev pub nest_in : Gap → List Loop → ℕ → List Loop
nest_in (at_front rest) nest n = nest
nest_in (past x gap) nest n = nest_in gap nest (n + statement_count x)
nest_in (in_then c gap b rest) nest n = nest_in gap nest (n + 1)
nest_in (in_else c a gap rest) nest n = nest_in gap nest (n + 1 + statements_count a)
nest_in (in_body d gap rest) nest n = nest_in gap (nest ++ loop n d ∷ []) (n + 1)

pub nest_in_is : (gap : Gap) (nest : List Loop) (n : ℕ) → nest_in gap nest n ≡ nest ++ gap_loops gap n
nest_in_is (at_front rest) nest n = sym (append-nil nest)
nest_in_is (past x gap) nest n = nest_in_is gap nest (n + statement_count x)
nest_in_is (in_then c gap b rest) nest n = nest_in_is gap nest (n + 1)
nest_in_is (in_else c a gap rest) nest n = nest_in_is gap nest (n + 1 + statements_count a)
nest_in_is (in_body d gap rest) nest n = nest_in_is gap (nest ++ loop n d ∷ []) (n + 1) ∙ append_assoc nest (loop n d ∷ []) (gap_loops gap (n + 1))

module _ (cs : List (List ℕ)) where
  pub from_number : (nest : List Loop) (n : ℕ) (ss : StmtTrees) (r : Reference) → IsIn r (statements_references cs nest n ss) → n ≤ r.statement
  from_number nest n ss r i = let h = statements_located cs nest n ss r i in let e = h.statement in omega (arith, e)

  pub to_number : (nest : List Loop) (n : ℕ) (ss : StmtTrees) (r : Reference) → IsIn r (statements_references cs nest n ss) → r.statement < n + statements_count ss
  to_number nest n ss r i = let h = statements_located cs nest n ss r i in let e = h.statement in let less = all_inside ss h.place h.s h.stands in omega (arith, e, less)

  one_to : (nest : List Loop) (n : ℕ) (s : StmtTree) (r : Reference) → IsIn r (statement_references cs nest n s) → r.statement < n + statement_count s
  one_to nest n s r i = let less = to_number nest n (alone s) r (in_left r (statement_references cs nest n s) [] i) in omega (arith, less)

  own_number : (nest : List Loop) (n : ℕ) (s : StmtTree) (r : Reference) → IsIn r (numbered_accesses n 1 nest (own_accesses cs (indices_of nest) s)) → r.statement ≡ n
  own_number nest n s r i = (own_access n 1 nest (own_accesses cs (indices_of nest) s) r i).0

  pub references_followed : (nest : List Loop) (m : ℕ) (a b : StmtTrees) → statements_references cs nest m (followed a b) ≡ statements_references cs nest m a ++ statements_references cs nest (m + statements_count a) b
  references_followed nest m no_stmts b = let e : m ≡ m + 0 = omega arith in ap (λ (k : ℕ). statements_references cs nest k b) e
  references_followed nest m (more_stmts s a) b =
      let e : m + statement_count s + statements_count a ≡ m + (statement_count s + statements_count a) = omega arith in
      ap (λ (z : List Reference). statement_references cs nest m s ++ z) (references_followed nest (m + statement_count s) a b ∙ ap (λ (k : ℕ). statements_references cs nest (m + statement_count s) a ++ statements_references cs nest k b) e)
      ∙ sym (append_assoc (statement_references cs nest m s) (statements_references cs nest (m + statement_count s) a) (statements_references cs nest (m + (statement_count s + statements_count a)) b))

  module _ (h : Head) (body others : StmtTrees) where
    abbrev it : StmtTrees
    it = more_stmts (Do h body) others

    abbrev pub Own : Gap → List Loop → ℕ → List Reference
    Own gap nest n = statements_references cs (nest_in gap nest n ++ loop (number_at gap n) h ∷ []) (number_at gap n + 1) body

    -- a reference with such a number is one of them
    pub inside : (gap : Gap) (nest : List Loop) (n : ℕ) (r : Reference) → number_at gap n < r.statement → r.statement ≤ number_at gap n + statements_count body → IsIn r (statements_references cs nest n (filled gap it)) → IsIn r (Own gap nest n)
    inside (at_front rest) nest n r below above i =
        let own = numbered_accesses n 1 nest (own_accesses cs (indices_of nest) (Do h body)) in
        let mine = statements_references cs (nest ++ loop n h ∷ []) (n + 1) body in
        let behind = statements_references cs nest (n + statement_count (Do h body)) (followed others rest) in
        elim (in_parts r (own ++ mine) behind i) [
          | inl j ↦ elim (in_parts r own mine j) [ inl k ↦ (let e = own_number nest n (Do h body) r k in absurd (omega (arith, e, below))) | inr k ↦ k ]
          | inr j ↦ (let from = from_number nest (n + statement_count (Do h body)) (followed others rest) r j in absurd (omega (arith, from, above)))
        ]
    inside (past x gap) nest n r below above i =
        let before = number_from gap (n + statement_count x) in
        elim (in_parts r (statement_references cs nest n x) (statements_references cs nest (n + statement_count x) (filled gap it)) i) [
          | inl j ↦ (let to = one_to nest n x r j in absurd (omega (arith, to, before, below)))
          | inr j ↦ inside gap nest (n + statement_count x) r below above j
        ]
    inside (in_then c gap b rest) nest n r below above i =
        let a = filled gap it in
        let own = numbered_accesses n 1 nest (own_accesses cs (indices_of nest) (If c a b)) in
        let of_a = statements_references cs nest (n + 1) a in
        let of_b = statements_references cs nest (n + 1 + statements_count a) b in
        let before = number_from gap (n + 1) in
        let room = number_room gap it (n + 1) in
        elim (in_parts r (own ++ of_a ++ of_b) (statements_references cs nest (n + statement_count (If c a b)) rest) i) [
          | inl j ↦ elim (in_parts r (own ++ of_a) of_b j) [
            | inl k ↦ elim (in_parts r own of_a k) [ inl o ↦ (let e = own_number nest n (If c a b) r o in absurd (omega (arith, e, before, below))) | inr o ↦ inside gap nest (n + 1) r below above o ]
            | inr k ↦ (let from = from_number nest (n + 1 + statements_count a) b r k in absurd (omega (arith, from, room, above)))
          ]
          | inr j ↦ (let from = from_number nest (n + statement_count (If c a b)) rest r j in absurd (omega (arith, from, room, above)))
        ]
    inside (in_else c b gap rest) nest n r below above i =
        let a = filled gap it in
        let own = numbered_accesses n 1 nest (own_accesses cs (indices_of nest) (If c b a)) in
        let of_b = statements_references cs nest (n + 1) b in
        let of_a = statements_references cs nest (n + 1 + statements_count b) a in
        let before = number_from gap (n + 1 + statements_count b) in
        let room = number_room gap it (n + 1 + statements_count b) in
        elim (in_parts r (own ++ of_b ++ of_a) (statements_references cs nest (n + statement_count (If c b a)) rest) i) [
          | inl j ↦ elim (in_parts r (own ++ of_b) of_a j) [
            | inl k ↦ elim (in_parts r own of_b k) [
              | inl o ↦ (let e = own_number nest n (If c b a) r o in absurd (omega (arith, e, before, below)))
              | inr o ↦ (let to = to_number nest (n + 1) b r o in absurd (omega (arith, to, before, below)))
            ]
            | inr k ↦ inside gap nest (n + 1 + statements_count b) r below above k
          ]
          | inr j ↦ (let from = from_number nest (n + statement_count (If c b a)) rest r j in absurd (omega (arith, from, room, above)))
        ]
    inside (in_body d gap rest) nest n r below above i =
        let a = filled gap it in
        let own = numbered_accesses n 1 nest (own_accesses cs (indices_of nest) (Do d a)) in
        let of_a = statements_references cs (nest ++ loop n d ∷ []) (n + 1) a in
        let before = number_from gap (n + 1) in
        let room = number_room gap it (n + 1) in
        elim (in_parts r (own ++ of_a) (statements_references cs nest (n + statement_count (Do d a)) rest) i) [
          | inl j ↦ elim (in_parts r own of_a j) [
            | inl o ↦ (let e = own_number nest n (Do d a) r o in absurd (omega (arith, e, before, below)))
            | inr o ↦ inside gap (nest ++ loop n d ∷ []) (n + 1) r below above o
          ]
          | inr j ↦ (let from = from_number nest (n + statement_count (Do d a)) rest r j in absurd (omega (arith, from, room, above)))
        ]

    -- and they are references of the whole
    pub outwards : (gap : Gap) (nest : List Loop) (n : ℕ) (r : Reference) → IsIn r (Own gap nest n) → IsIn r (statements_references cs nest n (filled gap it))
    outwards (at_front rest) nest n r i =
        let own = numbered_accesses n 1 nest (own_accesses cs (indices_of nest) (Do h body)) in
        let mine = statements_references cs (nest ++ loop n h ∷ []) (n + 1) body in
        in_left r (own ++ mine) (statements_references cs nest (n + statement_count (Do h body)) (followed others rest)) (in_right r own mine i)
    outwards (past x gap) nest n r i = in_right r (statement_references cs nest n x) (statements_references cs nest (n + statement_count x) (filled gap it)) (outwards gap nest (n + statement_count x) r i)
    outwards (in_then c gap b rest) nest n r i =
        let a = filled gap it in
        let own = numbered_accesses n 1 nest (own_accesses cs (indices_of nest) (If c a b)) in
        let of_a = statements_references cs nest (n + 1) a in
        let of_b = statements_references cs nest (n + 1 + statements_count a) b in
        in_left r (own ++ of_a ++ of_b) (statements_references cs nest (n + statement_count (If c a b)) rest) (in_left r (own ++ of_a) of_b (in_right r own of_a (outwards gap nest (n + 1) r i)))
    outwards (in_else c b gap rest) nest n r i =
        let a = filled gap it in
        let own = numbered_accesses n 1 nest (own_accesses cs (indices_of nest) (If c b a)) in
        let of_b = statements_references cs nest (n + 1) b in
        let of_a = statements_references cs nest (n + 1 + statements_count b) a in
        in_left r (own ++ of_b ++ of_a) (statements_references cs nest (n + statement_count (If c b a)) rest) (in_right r (own ++ of_b) of_a (outwards gap nest (n + 1 + statements_count b) r i))
    outwards (in_body d gap rest) nest n r i =
        let a = filled gap it in
        let own = numbered_accesses n 1 nest (own_accesses cs (indices_of nest) (Do d a)) in
        let of_a = statements_references cs (nest ++ loop n d ∷ []) (n + 1) a in
        in_left r (own ++ of_a) (statements_references cs nest (n + statement_count (Do d a)) rest) (in_right r own of_a (outwards gap (nest ++ loop n d ∷ []) (n + 1) r i))

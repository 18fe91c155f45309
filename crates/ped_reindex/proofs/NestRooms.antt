-- The loops round a DO are at most five, so that with the DO itself they are a nest.
use Rattle.std.proofs.Common.{◌≡◌, ℕ, suc, ◌+◌, ◌-◌, ◌≤◌, ◌<◌, ◌==◌, max, List, [], ◌∷◌, ◌++◌, length, length-append, Bool, true, false, ◌&&◌, Some, None, refl, sym, ap, ◌∙◌, arith, eqb-true, nat_le, if◌then◌else◌}
use Rattle.std.specs.Prelude.{nat_lt}
use Rattle.std.proofs.lemmas.List.{length-map, map-append}
use Rattle.std.proofs.Math.Decide.{dec_le}
use Rattle.std.proofs.Math.Logic.{dite}
use Rattle.ped_tree.specs.Tree.{Head, StmtTree, StmtTrees, Assign, If, Do, Print, Read, Stop, Comment, no_stmts, more_stmts, ProgramTree}
use Rattle.ped_tree.specs.Views.{head_of}
use Rattle.ped_tree.specs.Nests.{Loop}
use Rattle.ped_tree.specs.Numbering.{numbered, all_numbered, at_place, statement_count, statements_count}
use Rattle.ped_tree.proofs.Numbers.{at_place-back, length-numbered, length-all_numbered}
use Rattle.ped_rules.specs.ped_affine.specs.PairViews.{heads_of}
use Rattle.ped_refs.specs.declared.loops.Loop.{Loop as CodeLoop}
use Rattle.ped_refs.specs.Loops.{loop_of, nest_of}
use Rattle.ped_rules.specs.ped_symbols.specs.NameRefusals.{IsValid}
use Rattle.ped_rules.specs.ped_symbols.specs.RightUses.RightLoops.{loop_depth, loops_deep}
use Rattle.ped_rules.specs.ped_symbols.proofs.RightUseLaws.Whole.{right_program}
use Rattle.ped_rules.specs.ped_flow.specs.PlainBounds.{loops_round, all_loops_round, nest_round}
use Rattle.ped_rules.specs.ped_flow.specs.Questions.{IsLoop}
use Rattle.ped_rules.specs.ped_steps.proofs.RunLaws.LoopsRound.{all_none_before, all_none_from, none_before}
use Rattle.ped_rules.specs.Rules.{heads_round}

nothing_there : (d : StmtTree) → None ≡ Some d → ⊥
nothing_there d e = cc

one_found : (a b : StmtTree) → Some a ≡ Some b → a ≡ b
one_found a b e = cc

-- a statement found in two lists stands in the first, where it stands so far to the front
front_part : (xs ys : List StmtTree) (k : ℕ) → k < length xs → at_place (xs ++ ys) k ≡ at_place xs k
front_part [] ys k h = absurd (omega (arith, h))
front_part (x ∷ xs) ys k h = by (k == 0) refl (λ less. front_part xs ys (k - 1) less)
  where
    by : (r : Bool) → (k == 0) ≡ r → (k - 1 < length xs → at_place (xs ++ ys) (k - 1) ≡ at_place xs (k - 1)) → (if k == 0 then Some x else at_place (xs ++ ys) (k - 1)) ≡ (if k == 0 then Some x else at_place xs (k - 1))
    by true z more = ap (λ (b : Bool). if b then Some x else at_place (xs ++ ys) (k - 1)) z ∙ sym (ap (λ (b : Bool). if b then Some x else at_place xs (k - 1)) z)
    by false z more =
        ap (λ (b : Bool). if b then Some x else at_place (xs ++ ys) (k - 1)) z
        ∙ more (let n = not_first k z in omega (arith, h, n))
        ∙ sym (ap (λ (b : Bool). if b then Some x else at_place xs (k - 1)) z)
      where
        not_first : (j : ℕ) → (j == 0) ≡ false → 0 < j
        not_first j z = grind (arith, eqb-true)

-- of two lists of which one is empty
with_front : (xs ys : List Loop) (m n : ℕ) → length xs + 1 ≤ m → ys ≡ [] → length (xs ++ ys) + 1 ≤ max m n
with_front xs ys m n h e = let size = length-append xs ys in let none : length ys ≡ 0 = ap (λ (zs : List Loop). length zs) e in omega (arith, h, size, none)

with_back : (xs ys : List Loop) (m n : ℕ) → xs ≡ [] → length ys + 1 ≤ n → length (xs ++ ys) + 1 ≤ max m n
with_back xs ys m n e h = let size = length-append xs ys in let none : length xs ≡ 0 = ap (λ (zs : List Loop). length zs) e in omega (arith, h, size, none)

deeper : (b : Bool) (first : Loop) (inner : List Loop) (n : ℕ) → length inner + 1 ≤ n → length (if b then first ∷ inner else []) + 1 ≤ suc n
deeper true first inner n h = omega (arith, h)
deeper false first inner n h = omega arith

none_round : (l n : ℕ) (b : Bool) (first : Loop) (inner : List Loop) → l ≡ n → length (if nat_lt n l && b then first ∷ inner else []) + 1 ≤ suc 0
none_round l n b first inner e = grind (arith, e)

module _ (l : ℕ) (h : Head) (b : StmtTrees) where
  abbrev Found : List StmtTree → ℕ → Type 0
  Found xs k = at_place xs k ≡ Some (Do h b)

  -- the loops of these statements round the DO are fewer than their depth
  abbrev Room : StmtTrees → Type 0
  Room ss = (n : ℕ) → n ≤ l → Found (all_numbered ss) (l - n) → length (all_loops_round l ss n) + 1 ≤ loops_deep ss

  single : (s : StmtTree) (k : ℕ) → Found (s ∷ []) k → (s ≡ Do h b → ⊥) → ⊥
  single s k found other = by (k == 0) refl
    where
      by : (r : Bool) → (k == 0) ≡ r → ⊥
      by true z = other (one_found s (Do h b) (sym (ap (λ (r : Bool). if r then Some s else None) z) ∙ found))
      by false z = nothing_there (Do h b) (sym (ap (λ (r : Bool). if r then Some s else None) z) ∙ found)

  not_here : (k : ℕ) → (k == 0) ≡ false → 0 < k
  not_here k z = grind (arith, eqb-true)

  at_first : (k : ℕ) → (k == 0) ≡ true → k ≡ 0
  at_first k z = eqb-true k 0 z

  mutual
    room : (s : StmtTree) (n : ℕ) → n ≤ l → Found (numbered s) (l - n) → length (loops_round l s n) + 1 ≤ loop_depth s
    room (Assign left right) n le found = absurd (single (Assign left right) (l - n) found (λ e. absurd cc))
    room (If c x y) n le found = by (l - n == 0) refl (rooms x) (rooms y)
      where
        by : (r : Bool) → (l - n == 0) ≡ r → Room x → Room y → length (loops_round l (If c x y) n) + 1 ≤ max (loops_deep x) (loops_deep y)
        by true z first second = let same = one_found (If c x y) (Do h b) (sym (ap (λ (r : Bool). if r then Some (If c x y) else at_place (all_numbered x ++ all_numbered y) (l - n - 1)) z) ∙ found) in absurd cc
        by false z first second =
            let inside : Found (all_numbered x ++ all_numbered y) (l - n - 1) = sym (ap (λ (r : Bool). if r then Some (If c x y) else at_place (all_numbered x ++ all_numbered y) (l - n - 1)) z) ∙ found in
            let some = not_here (l - n) z in
            dite (dec_le (n + 1 + statements_count x) l)
            (λ far.
            let at = length-all_numbered x in
            let there : Found (all_numbered y) (l - (n + 1 + statements_count x)) = sym (at_place-back (all_numbered x) (all_numbered y) (l - n - 1) (l - (n + 1 + statements_count x)) (omega (arith, far, at))) ∙ inside in
            with_back (all_loops_round l x (n + 1)) (all_loops_round l y (n + 1 + statements_count x)) (loops_deep x) (loops_deep y) (all_none_before l x (n + 1) far) (second (n + 1 + statements_count x) far there))
            (λ near.
            let at = length-all_numbered x in
            let there : Found (all_numbered x) (l - (n + 1)) = ap (at_place (all_numbered x)) (omega (arith, some)) ∙ (sym (front_part (all_numbered x) (all_numbered y) (l - n - 1) (omega (arith, near, at, some))) ∙ inside) in
            with_front (all_loops_round l x (n + 1)) (all_loops_round l y (n + 1 + statements_count x)) (loops_deep x) (loops_deep y) (first (n + 1) (omega (arith, some)) there) (all_none_from l y (n + 1 + statements_count x) (omega (arith, near))))
    room (Do g body) n le found = by (l - n == 0) refl (rooms body)
      where
        first : Loop
        first = record { number = n; head = g }

        by : (r : Bool) → (l - n == 0) ≡ r → Room body → length (loops_round l (Do g body) n) + 1 ≤ suc (loops_deep body)
        by true z within =
            let one = none_round l n (nat_le l (n + statements_count body)) first (all_loops_round l body (n + 1)) (let e = at_first (l - n) z in omega (arith, e, le)) in
            omega (arith, one)
        by false z within =
            let inside : Found (all_numbered body) (l - n - 1) = sym (ap (λ (r : Bool). if r then Some (Do g body) else at_place (all_numbered body) (l - n - 1)) z) ∙ found in
            let some = not_here (l - n) z in
            deeper (nat_lt n l && nat_le l (n + statements_count body)) first (all_loops_round l body (n + 1)) (loops_deep body)
            (within (n + 1) (omega (arith, some)) (ap (at_place (all_numbered body)) (omega (arith, some)) ∙ inside))
    room (Print items) n le found = absurd (single (Print items) (l - n) found (λ e. absurd cc))
    room (Read items) n le found = absurd (single (Read items) (l - n) found (λ e. absurd cc))
    room Stop n le found = absurd (single Stop (l - n) found (λ e. absurd cc))
    room (Comment text) n le found = absurd (nothing_there (Do h b) found)

    rooms : (ss : StmtTrees) (n : ℕ) → n ≤ l → Found (all_numbered ss) (l - n) → length (all_loops_round l ss n) + 1 ≤ loops_deep ss
    rooms no_stmts n le found = absurd (nothing_there (Do h b) found)
    rooms (more_stmts s rest) n le found =
        dite (dec_le (n + statement_count s) l)
        (λ far.
        let at = length-numbered s in
        let there : Found (all_numbered rest) (l - (n + statement_count s)) = sym (at_place-back (numbered s) (all_numbered rest) (l - n) (l - (n + statement_count s)) (omega (arith, far, at))) ∙ found in
        with_back (loops_round l s n) (all_loops_round l rest (n + statement_count s)) (loop_depth s) (loops_deep rest) (none_before l s n far) (rooms rest (n + statement_count s) far there))
        (λ near.
        let at = length-numbered s in
        let there : Found (numbered s) (l - n) = sym (front_part (numbered s) (all_numbered rest) (l - n) (omega (arith, near, at, le))) ∙ found in
        with_front (loops_round l s n) (all_loops_round l rest (n + statement_count s)) (loop_depth s) (loops_deep rest) (room s n le there) (all_none_from l rest (n + statement_count s) (omega (arith, near))))

-- the loops round a DO, and the DO itself
pub nest_room : (t : ProgramTree) (l : ℕ) (h : Head) (body : StmtTrees) → IsValid t → IsLoop t l h body → length (nest_round t l) + 1 ≤ 6
nest_room t l h body valid is = by (l == 0) refl
  where
    by : (r : Bool) → (l == 0) ≡ r → length (nest_round t l) + 1 ≤ 6
    by true z = absurd (nothing_there (Do h body) (sym (ap (λ (b : Bool). if b then None else at_place (all_numbered t.body) (l - 1)) z) ∙ is))
    by false z =
        let found = sym (ap (λ (b : Bool). if b then None else at_place (all_numbered t.body) (l - 1)) z) ∙ is in
        let deep = (right_program t valid).nested in
        let some = not_zero l z in
        let here = rooms l h body t.body 1 some found in
        short (length (nest_round t l) + 1) (loops_deep t.body) here deep
      where
        not_zero : (k : ℕ) → (k == 0) ≡ false → 1 ≤ k
        not_zero k z = grind (arith, eqb-true)

        short : (m n : ℕ) → m ≤ n → n ≤ 6 → m ≤ 6
        short m n a b = omega (arith, a, b)

module _ (t : ProgramTree) (s : ℕ) (h : Head) (body : StmtTrees) (valid : IsValid t) (is : IsLoop t s h body) (loops : List CodeLoop) (x : CodeLoop) (same : nest_of loops ≡ nest_round t s) where
  -- as the code has them, with one loop pushed
  pub pushed_short : length (loops ++ x ∷ []) ≤ 6
  pushed_short =
      let few = nest_room t s h body valid is in
      let size = length-map loops loop_of in
      let count : length (nest_of loops) ≡ length (nest_round t s) = ap (λ (nest : List Loop). length nest) same in
      let more = length-append loops (x ∷ []) in
      omega (arith, few, size, count, more)

  pub heads_pushed : heads_of (nest_of (loops ++ x ∷ [])) ≡ heads_round t s ++ head_of x.statement.now ∷ []
  heads_pushed =
      ap (λ (nest : List Loop). heads_of nest) (map-append loop_of loops (x ∷ []))
      ∙ map-append (λ (l : Loop). l.head) (nest_of loops) (loop_of x ∷ [])
      ∙ ap (λ (nest : List Loop). heads_of nest ++ head_of x.statement.now ∷ []) same

-- A DO round the second of two DO loops is round the first one, too; so both variables are those of DO loops in it, and in one that lies further in fewer others are.
use Rattle.std.proofs.Common.{◌≡◌, ℕ, zero, suc, ◌+◌, ◌<◌, ◌≤◌, List, ◌∷◌, Bool, true, false, ◌&&◌, ◌||◌, ◌==◌, not, Some, refl, sym, ap, subst, ◌∙◌, arith, eqb-true}
use Rattle.std.specs.Prelude.{nat_le, nat_lt}
use Rattle.std.specs.List.{list_any, range_with_len}
use Rattle.std.proofs.lemmas.Bool.{and_parts, both_ways, le-leb, leb-true, lt-ltb}
use Rattle.std.proofs.Math.Decide.{dec_lt}
use Rattle.std.proofs.Math.Logic.{dite}
use Rattle.ped_base.proofs.NameEquality.{same_itself}
use Rattle.ped_base.specs.Lists.{is_among, is_same_text}
use Rattle.ped_tree.specs.NamesIn.{all_loop_variables}
use Rattle.ped_tree.specs.Numbering.{all_numbered, statement_with, statements_count}
use Rattle.ped_tree.specs.Tree.{Do, ProgramTree, StmtTrees, no_stmts}
use Rattle.ped_rules.specs.ped_loop_runs.proofs.PastingLaws.OneStatement.{gives_way}
use Rattle.ped_rules.proofs.NameLaws.ReferencesThere.{all_end_within}
use Rattle.ped_rules.specs.ped_steps.specs.Replacing.{alone}
use Rattle.ped_rules.specs.ped_laws.proofs.FlowRunLaws.Standing.{Stand, inner_stands, whole_stands}
use Rattle.ped_rules.specs.ped_flow.specs.Questions.{LoopOf}
use Rattle.ped_splits.proofs.RenameGaps.{next_loop, own_loop, stands_at}
use Rattle.ped_splits.proofs.RenameLost.{is_loop_of, loses}
use Rattle.ped_splits.proofs.RenameRound.{variables_by}
use Rattle.ped_splits.specs.Neighbours.{Neighbour, next_number}

-- a DO stands with its number
pub loop_stands : (t : ProgramTree) (n : ℕ) (loop : LoopOf t n) → Stand t n (Do loop.head loop.body ∷ all_numbered loop.body)
loop_stands t n loop =
    let way = gives_way (λ z. alone z) n (Do loop.head loop.body) t loop.is in
    subst (λ (k : ℕ). Stand t k (Do loop.head loop.body ∷ all_numbered loop.body)) way.number
    (stands_at t (Do loop.head loop.body) no_stmts way.gap 1 (subst (λ (ts : StmtTrees). Stand t 1 (all_numbered ts)) way.old (whole_stands t)))

pub any_there : (test : ℕ → Bool) (n c j : ℕ) → n ≤ j → j < n + c → test j ≡ true → list_any test (range_with_len n c) ≡ true
any_there test n zero j from to h = absurd (omega (arith, from, to))
any_there test n (suc c) j from to h = go (j == n) refl (λ apart. any_there test (n + 1) c j (omega (arith, from, apart)) (omega (arith, to)) h)
  where
    go : (b : Bool) → (j == n) ≡ b → ((j ≡ n → ⊥) → list_any test (range_with_len (n + 1) c) ≡ true) → test n || list_any test (range_with_len (n + 1) c) ≡ true
    go true e more = ap (λ (b : Bool). b || list_any test (range_with_len (n + 1) c)) (ap test (sym (eqb-true j n e)) ∙ h)
    go false e more = or_more (test n) (list_any test (range_with_len (n + 1) c)) (more (λ q. both_ways (j == n) e (subst (λ (k : ℕ). (j == k) ≡ true) q (itself j))))
      where
        itself : (k : ℕ) → (k == k) ≡ true
        itself k = grind arith

        or_more : (a b : Bool) → b ≡ true → a || b ≡ true
        or_more true b k = refl
        or_more false b k = k

-- where it is so of one in a part of a range, it is so of one in the whole
any_more : (test : ℕ → Bool) (n c m d : ℕ) → m ≤ n → n + c ≤ m + d → list_any test (range_with_len n c) ≡ true → list_any test (range_with_len m d) ≡ true
any_more test n zero m d from to h = absurd cc
any_more test n (suc c) m d from to h = go (test n) refl (λ k. any_more test (n + 1) c m d (omega (arith, from)) (omega (arith, to)) k) h
  where
    go : (b : Bool) → test n ≡ b → (list_any test (range_with_len (n + 1) c) ≡ true → list_any test (range_with_len m d) ≡ true) → b || list_any test (range_with_len (n + 1) c) ≡ true → list_any test (range_with_len m d) ≡ true
    go true e more k = any_there test m d n from (omega (arith, to)) e
    go false e more k = more k

module _ {t : ProgramTree} {s : ℕ} (x : Neighbour t s) (n : ℕ) (loop : LoopOf t n) (from : n < next_number x) (to : next_number x ≤ n + statements_count loop.body) where
  abbrev m : ℕ
  m = next_number x

  abbrev inside : Stand t (n + 1) (all_numbered loop.body)
  inside = inner_stands t (Do loop.head loop.body) (all_numbered loop.body) n (loop_stands t n loop)

  in_loop : (y : List ℕ) (j : ℕ) (other : LoopOf t j) → is_same_text y other.head.variable ≡ true → n < j → j ≤ n + statements_count loop.body → is_among y (all_loop_variables loop.body) ≡ true
  in_loop y j other named lo hi =
      sym (variables_by t y loop.body (n + 1) inside)
      ∙ any_there (λ k. is_loop_of y (statement_with k t)) (n + 1) (statements_count loop.body) j (omega (arith, lo)) (omega (arith, hi)) (ap (is_loop_of y) other.is ∙ named)

  pub next_inside : is_among x.next.variable (all_loop_variables loop.body) ≡ true
  next_inside = in_loop x.next.variable m (next_loop x) (same_itself x.next.variable) from to

  -- it begins before the first one
  before_first : n < s
  before_first = dite (dec_lt n s) (λ less. less) (λ more. absurd (by_second more))
    where
      by_second : (n < s → ⊥) → ⊥
      by_second more = dite (dec_lt s n) later same
        where
          later : s < n → ⊥
          later less =
              let first : Stand t (s + 1) (all_numbered x.own_body) = inner_stands t (Do x.own x.own_body) (all_numbered x.own_body) s (loop_stands t s (own_loop x)) in
              let ends = all_end_within t n loop.head loop.body loop.is x.own_body (s + 1) first (omega (arith, less)) (omega (arith, from)) in
              omega (arith, ends, to)

          same : (s < n → ⊥) → ⊥
          same none =
              let equal : n ≡ s = omega (arith, more, none) in
              let both : Some (Do loop.head loop.body) ≡ Some (Do x.own x.own_body) = sym loop.is ∙ ap (λ (k : ℕ). statement_with k t) equal ∙ (own_loop x).is in
              let body : loop.body ≡ x.own_body = cc in
              let count : statements_count loop.body ≡ statements_count x.own_body = ap statements_count body in
              omega (arith, to, count, equal)

  pub own_inside : is_among x.own.variable (all_loop_variables loop.body) ≡ true
  own_inside = in_loop x.own.variable s (own_loop x) (same_itself x.own.variable) before_first (omega (arith, to))

-- one further in loses the variable, where one further out does
pub loses_inside : (t : ProgramTree) (y : List ℕ) (m n k : ℕ) (outer : LoopOf t n) (inner : LoopOf t k) → inner.head.parallel ≡ true → n ≤ k → k < m → m ≤ k + statements_count inner.body → loses t y m n (statement_with n t) ≡ true → loses t y m k (statement_with k t) ≡ true
loses_inside t y m n k outer inner parallel from less to h =
    ap (loses t y m k) inner.is ∙ (λ i. parallel i && (lt-ltb k m less i && le-leb m (k + statements_count inner.body) to i) && not (none_there i))
  where
    other : ℕ → Bool
    other j = is_loop_of y (statement_with j t) && not (j == m)

    parts : outer.head.parallel && (nat_lt n m && nat_le m (n + statements_count outer.body)) && not (list_any (λ j. is_loop_of y (statement_with j t) && not (j == m)) (range_with_len (n + 1) (statements_count outer.body))) ≡ true
    parts = ap (loses t y m n) (sym outer.is) ∙ h

    tests : (outer.head.parallel ≡ true) × (nat_lt n m && nat_le m (n + statements_count outer.body) ≡ true) × (not (list_any other (range_with_len (n + 1) (statements_count outer.body))) ≡ true)
    tests = three outer.head.parallel (nat_lt n m && nat_le m (n + statements_count outer.body)) (not (list_any other (range_with_len (n + 1) (statements_count outer.body)))) parts
      where
        three : (a b c : Bool) → a && b && c ≡ true → (a ≡ true) × (b ≡ true) × (c ≡ true)
        three true true true e = (refl, refl, refl)
        three true true false e = absurd cc
        three true false c e = absurd cc
        three false b c e = absurd cc

    within : m ≤ n + statements_count outer.body
    within = leb-true m (n + statements_count outer.body) (and_parts (nat_lt n m) (nat_le m (n + statements_count outer.body)) tests.1).1

    ends : k + 1 + statements_count inner.body ≤ n + 1 + statements_count outer.body
    ends = dite (dec_lt n k) later same
      where
        later : n < k → k + 1 + statements_count inner.body ≤ n + 1 + statements_count outer.body
        later more =
            let stand = inner_stands t (Do outer.head outer.body) (all_numbered outer.body) n (loop_stands t n outer) in
            let last = all_end_within t k inner.head inner.body inner.is outer.body (n + 1) stand (omega (arith, more)) (let w = within in omega (arith, less, w)) in
            omega (arith, last)

        same : (n < k → ⊥) → k + 1 + statements_count inner.body ≤ n + 1 + statements_count outer.body
        same none =
            let equal : k ≡ n = omega (arith, from, none) in
            let both : Some (Do inner.head inner.body) ≡ Some (Do outer.head outer.body) = sym inner.is ∙ ap (λ (j : ℕ). statement_with j t) equal ∙ outer.is in
            let body : inner.body ≡ outer.body = cc in
            let count : statements_count inner.body ≡ statements_count outer.body = ap statements_count body in
            omega (arith, equal, count)

    none_there : list_any (λ j. is_loop_of y (statement_with j t) && not (j == m)) (range_with_len (k + 1) (statements_count inner.body)) ≡ false
    none_there = go (list_any other (range_with_len (k + 1) (statements_count inner.body))) refl
      where
        not_true : (b : Bool) → not b ≡ true → b ≡ false
        not_true true e = absurd cc
        not_true false e = refl

        go : (b : Bool) → list_any other (range_with_len (k + 1) (statements_count inner.body)) ≡ b → b ≡ false
        go true e =
            absurd (both_ways (list_any other (range_with_len (n + 1) (statements_count outer.body))) (not_true (list_any other (range_with_len (n + 1) (statements_count outer.body))) tests.2)
            (any_more other (k + 1) (statements_count inner.body) (n + 1) (statements_count outer.body) (omega (arith, from)) (let last = ends in omega (arith, last)) e))
        go false e = refl

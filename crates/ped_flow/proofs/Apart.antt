-- Statements in which a DO doesn't stand.
use Rattle.std.proofs.Common.{◌≡◌, ℕ, ◌+◌, ◌<◌, ◌≤◌, ◌==◌, ◌⊎◌, inl, inr, Bool, true, false, ◌&&◌, ◌||◌, List, Option, Some, None, IfSome, nat_le, refl, sym, ap, ◌∙◌, arith, eqb-true}
use Rattle.ped_tree.specs.Tree.{Head, StmtTree, StmtTrees, Assign, If, Do, Print, Read, Stop, Comment, no_stmts, more_stmts}
use Rattle.ped_tree.specs.Numbering.{statement_count, statements_count}
use Rattle.ped_flow.specs.Events.{own_events}
use Rattle.ped_flow.specs.Summaries.{least_of, when, passing, unreached, summary_in_turn, summary_either, summary_events, summary_loop, summary_of, summary_of_all, summary_at_once, summary_behind, summary_behind_all, summary_before, summary_before_all}
use Rattle.ped_flow.specs.declared.summaries.Summary.{Summary}
use Rattle.ped_flow.proofs.Truths.{untrue, or_none}

-- the number l is none of so many from n on
abbrev pub Away : ℕ → ℕ → ℕ → Type 0
Away l n count = (l < n) ⊎ (n + count ≤ l)

part_away : (l n count m part : ℕ) → n ≤ m → m + part ≤ n + count → Away l n count → Away l m part
part_away l n count m part h k (inl i) = inl (omega arith)
part_away l n count m part h k (inr i) = inr (omega arith)

other_number : (l n count : ℕ) → Away l n (count + 1) → (l == n) ≡ false
other_number l n count (inl i) = grind (arith, eqb-true)
other_number l n count (inr i) = grind (arith, eqb-true)

not_within : (l n count : ℕ) → Away l n (count + 1) → (nat_le n l && nat_le l (n + count)) ≡ false
not_within l n count (inl i) = let e : nat_le n l ≡ false = grind arith in ap (λ (b : Bool). b && nat_le l (n + count)) e
not_within l n count (inr i) =
    let e : nat_le l (n + count) ≡ false = grind arith in
    ap (λ (b : Bool). nat_le n l && b) e ∙ and_false (nat_le n l)
  where
    and_false : (a : Bool) → (a && false) ≡ false
    and_false true = refl
    and_false false = refl

module _ (cs : List (List ℕ)) (x : List ℕ) (l : ℕ) where
  mutual
    -- no path goes on from the exit of a DO that stands elsewhere
    pub behind_elsewhere : (s : StmtTree) (n : ℕ) → Away l n (statement_count s) → summary_behind cs x l s n ≡ unreached
    behind_elsewhere (Assign left right) n h = refl
    behind_elsewhere (If c a b) n h =
        λ i. summary_either (all_behind_elsewhere a (n + 1) (part_away l n (statement_count (If c a b)) (n + 1) (statements_count a) (omega arith) (omega arith) h) i)
        (all_behind_elsewhere b (n + 1 + statements_count a) (part_away l n (statement_count (If c a b)) (n + 1 + statements_count a) (statements_count b) (omega arith) (omega arith) h) i)
    behind_elsewhere (Do g body) n h =
        λ i. summary_either (summary_at_once (other_number l n (statements_count body) h i))
        (summary_in_turn (all_behind_elsewhere body (n + 1) (part_away l n (statement_count (Do g body)) (n + 1) (statements_count body) (omega arith) (omega arith) h) i) (summary_loop x n g body (summary_of_all cs x body (n + 1))))
    behind_elsewhere (Print items) n h = refl
    behind_elsewhere (Read items) n h = refl
    behind_elsewhere Stop n h = refl
    behind_elsewhere (Comment text) n h = refl

    all_behind_elsewhere : (ss : StmtTrees) (n : ℕ) → Away l n (statements_count ss) → summary_behind_all cs x l ss n ≡ unreached
    all_behind_elsewhere no_stmts n h = refl
    all_behind_elsewhere (more_stmts s rest) n h =
        λ i. summary_either (summary_in_turn (behind_elsewhere s n (part_away l n (statements_count (more_stmts s rest)) n (statement_count s) (omega arith) (omega arith) h) i) (summary_of_all cs x rest (n + statement_count s)))
        (all_behind_elsewhere rest (n + statement_count s) (part_away l n (statements_count (more_stmts s rest)) (n + statement_count s) (statements_count rest) (omega arith) (omega arith) h) i)

-- what follows of a value where there is one
pub if_some : {X A B : Type 0} (o : Option X) → (A → B) → IfSome o (λ x. A) → IfSome o (λ x. B)
if_some None f h = tt
if_some (Some x) f h = f h

-- no path goes on
record IsShut (m : Summary) : Type 0 where
  keeps : m.keeps ≡ false
  passes : m.passes ≡ false
  loses : m.loses ≡ false

-- no path reads or ends
record IsQuiet (m : Summary) : Type 0 where
  first : m.first ≡ None
  ends : m.ends ≡ false

and_none : (a b : Bool) → b ≡ false → (a && b) ≡ false
and_none true b h = h
and_none false b h = refl

both_none : (a b : Bool) → a ≡ false → b ≡ false → (a || b) ≡ false
both_none true b h k = untrue (sym h)
both_none false b h k = k

shut_turn : (a b : Summary) → IsShut b → IsShut (summary_in_turn a b)
shut_turn a b h = record {
  keeps = and_none a.keeps b.keeps h.keeps;
  passes = and_none a.passes b.passes h.passes;
  loses = both_none (a.loses && b.keeps) (a.passes && b.loses) (and_none a.loses b.keeps h.keeps) (and_none a.passes b.loses h.loses);
}

shut_both : (a b : Summary) → IsShut a → IsShut b → IsShut (summary_either a b)
shut_both a b h k = record { keeps = both_none a.keeps b.keeps h.keeps k.keeps; passes = both_none a.passes b.passes h.passes k.passes; loses = both_none a.loses b.loses h.loses k.loses }

shut_unreached : IsShut unreached
shut_unreached = record { keeps = refl; passes = refl; loses = refl }

quiet_unreached : IsQuiet unreached
quiet_unreached = record { first = refl; ends = refl }

least_none : (a b : Option ℕ) → least_of a b ≡ None → (a ≡ None) × (b ≡ None)
least_none None b h = (refl, h)
least_none (Some a) None h = absurd (let i : Some a ≡ None = h in cc)
least_none (Some a) (Some b) h = absurd cc

none_least : (a b : Option ℕ) → a ≡ None → b ≡ None → least_of a b ≡ None
none_least None b h k = k
none_least (Some a) b h k = absurd (let i : Some a ≡ None = h in cc)

-- what one part and then another do quietly, the first does so, and a part in place of the second that is quiet where that is
quiet_first : (a b : Summary) → IsQuiet (summary_in_turn a b) → IsQuiet a
quiet_first a b h = record { first = (least_none a.first (when a.keeps b.first) h.first).0; ends = (or_none a.ends (a.keeps && b.ends) h.ends).0 }

quiet_turn : (a b c : Summary) → (IsQuiet b → IsQuiet c) → IsQuiet (summary_in_turn a b) → IsQuiet (summary_in_turn a c)
quiet_turn a b c f h = record { first = none_least a.first (when a.keeps c.first) (quiet_first a b h).first (by a.keeps refl).0; ends = both_none a.ends (a.keeps && c.ends) (quiet_first a b h).ends (by a.keeps refl).1 }
  where
    by : (k : Bool) → a.keeps ≡ k → (when k c.first ≡ None) × ((k && c.ends) ≡ false)
    by true e =
        let q = f record {
          first = ap (λ (z : Bool). when z b.first) (sym e) ∙ (least_none a.first (when a.keeps b.first) h.first).1;
          ends = ap (λ (z : Bool). z && b.ends) (sym e) ∙ (or_none a.ends (a.keeps && b.ends) h.ends).1;
        } in (q.first, q.ends)
    by false e = (refl, refl)

quiet_either : (a b : Summary) → IsQuiet (summary_either a b) → IsQuiet a × IsQuiet b
quiet_either a b h = (record { first = (least_none a.first b.first h.first).0; ends = (or_none a.ends b.ends h.ends).0 }, record { first = (least_none a.first b.first h.first).1; ends = (or_none a.ends b.ends h.ends).1 })

quiet_both : (a b : Summary) → IsQuiet a → IsQuiet b → IsQuiet (summary_either a b)
quiet_both a b h k = record { first = none_least a.first b.first h.first k.first; ends = both_none a.ends b.ends h.ends k.ends }

at_once_none : (b : Bool) → b ≡ false → summary_at_once b ≡ unreached
at_once_none b h = ap summary_at_once h

module _ (cs : List (List ℕ)) (x : List ℕ) (l : ℕ) where
  -- no path leads to a DO that stands elsewhere
  loop_elsewhere : (h : Head) (body : StmtTrees) (n : ℕ) → Away l n (statement_count (Do h body)) → summary_before cs x l (Do h body) n ≡ unreached
  loop_elsewhere h body n w = at_once_none (nat_le n l && nat_le l (n + statements_count body)) (not_within l n (statements_count body) w)

  mutual
    before_shut : (s : StmtTree) (n : ℕ) → Away l n (statement_count s) → IsShut (summary_before cs x l s n)
    before_shut (Assign left right) n h = shut_unreached
    before_shut (If c a b) n h =
        shut_turn (summary_events x (own_events cs n (If c a b))) (summary_either (summary_before_all cs x l a (n + 1)) (summary_before_all cs x l b (n + 1 + statements_count a)))
        (shut_both (summary_before_all cs x l a (n + 1)) (summary_before_all cs x l b (n + 1 + statements_count a))
        (all_before_shut a (n + 1) (part_away l n (statement_count (If c a b)) (n + 1) (statements_count a) (omega arith) (omega arith) h))
        (all_before_shut b (n + 1 + statements_count a) (part_away l n (statement_count (If c a b)) (n + 1 + statements_count a) (statements_count b) (omega arith) (omega arith) h)))
    before_shut (Do g body) n h = subst_shut (sym (loop_elsewhere g body n h))
      where
        subst_shut : {m : Summary} → unreached ≡ m → IsShut m
        subst_shut e = record { keeps = ap (λ (z : Summary). z.keeps) (sym e); passes = ap (λ (z : Summary). z.passes) (sym e); loses = ap (λ (z : Summary). z.loses) (sym e) }
    before_shut (Print items) n h = shut_unreached
    before_shut (Read items) n h = shut_unreached
    before_shut Stop n h = shut_unreached
    before_shut (Comment text) n h = shut_unreached

    all_before_shut : (ss : StmtTrees) (n : ℕ) → Away l n (statements_count ss) → IsShut (summary_before_all cs x l ss n)
    all_before_shut no_stmts n h = shut_unreached
    all_before_shut (more_stmts s rest) n h =
        shut_both (summary_before cs x l s n) (summary_in_turn (summary_of cs x s n) (summary_before_all cs x l rest (n + statement_count s)))
        (before_shut s n (part_away l n (statements_count (more_stmts s rest)) n (statement_count s) (omega arith) (omega arith) h))
        (shut_turn (summary_of cs x s n) (summary_before_all cs x l rest (n + statement_count s))
        (all_before_shut rest (n + statement_count s) (part_away l n (statements_count (more_stmts s rest)) (n + statement_count s) (statements_count rest) (omega arith) (omega arith) h)))

  mutual
    before_quiet : (s : StmtTree) (n : ℕ) → Away l n (statement_count s) → IsQuiet (summary_of cs x s n) → IsQuiet (summary_before cs x l s n)
    before_quiet (Assign left right) n h q = quiet_unreached
    before_quiet (If c a b) n h q =
        let A = summary_of_all cs x a (n + 1) in
        let B = summary_of_all cs x b (n + 1 + statements_count a) in
        let C = summary_before_all cs x l a (n + 1) in
        let D = summary_before_all cs x l b (n + 1 + statements_count a) in
        quiet_turn (summary_events x (own_events cs n (If c a b))) (summary_either A B) (summary_either C D)
        (λ r. quiet_both C D
        (all_before_quiet a (n + 1) (part_away l n (statement_count (If c a b)) (n + 1) (statements_count a) (omega arith) (omega arith) h) (quiet_either A B r).0)
        (all_before_quiet b (n + 1 + statements_count a) (part_away l n (statement_count (If c a b)) (n + 1 + statements_count a) (statements_count b) (omega arith) (omega arith) h) (quiet_either A B r).1)) q
    before_quiet (Do g body) n h q = let e = loop_elsewhere g body n h in record { first = ap (λ (z : Summary). z.first) e; ends = ap (λ (z : Summary). z.ends) e }
    before_quiet (Print items) n h q = quiet_unreached
    before_quiet (Read items) n h q = quiet_unreached
    before_quiet Stop n h q = quiet_unreached
    before_quiet (Comment text) n h q = quiet_unreached

    all_before_quiet : (ss : StmtTrees) (n : ℕ) → Away l n (statements_count ss) → IsQuiet (summary_of_all cs x ss n) → IsQuiet (summary_before_all cs x l ss n)
    all_before_quiet no_stmts n h q = quiet_unreached
    all_before_quiet (more_stmts s rest) n h q =
        let S = summary_of cs x s n in
        let R = summary_of_all cs x rest (n + statement_count s) in
        let B = summary_before_all cs x l rest (n + statement_count s) in
        quiet_both (summary_before cs x l s n) (summary_in_turn S B)
        (before_quiet s n (part_away l n (statements_count (more_stmts s rest)) n (statement_count s) (omega arith) (omega arith) h) (quiet_first S R q))
        (quiet_turn S R B (all_before_quiet rest (n + statement_count s) (part_away l n (statements_count (more_stmts s rest)) (n + statement_count s) (statements_count rest) (omega arith) (omega arith) h)) q)

  -- no path leads to the outermost DO through a statement that stands elsewhere and does nothing
  pub before_passing : (s : StmtTree) (n : ℕ) → Away l n (statement_count s) → summary_of cs x s n ≡ passing → summary_before cs x l s n ≡ unreached
  before_passing s n h e =
      let a = before_shut s n h in
      let q = before_quiet s n h record { first = ap (λ (z : Summary). z.first) e; ends = ap (λ (z : Summary). z.ends) e } in
      λ i. record { first = q.first i; keeps = a.keeps i; ends = q.ends i; passes = a.passes i; loses = a.loses i }

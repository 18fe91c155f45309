-- Where the first of the two DO loops stands, and the one that they become: under one number, with the same DO loops round it.
use Rattle.std.proofs.Common.{◌≡◌, ℕ, ◌+◌, ◌-◌, ◌<◌, ◌≤◌, ◌==◌, List, [], ◌∷◌, ◌++◌, length, Bool, true, false, Some, None, refl, sym, ap, ◌∙◌, arith, eqb-true, if◌then◌else◌}
use Rattle.std.proofs.lemmas.List.{append_assoc}
use Rattle.ped_tree.specs.Nests.{Loop}
use Rattle.ped_tree.specs.Tree.{Head, StmtTree, StmtTrees, If, Do, no_stmts, more_stmts, ProgramTree}
use Rattle.ped_tree.specs.Numbering.{numbered, all_numbered, at_place, statement_count, statements_count}
use Rattle.ped_tree.proofs.Numbers.{length-all_numbered, numbered-back, all_numbered-back}
use Rattle.ped_rules.specs.Carried.{level_at}
use Rattle.ped_rules.specs.ped_steps.specs.Replacing.{followed, alone}
use Rattle.ped_rules.specs.ped_steps.specs.Runs.Gaps.{Gap, at_front, past, in_then, in_else, in_body, filled, number_at}
use Rattle.ped_rules.specs.ped_flow.specs.PlainBounds.{loops_round, all_loops_round}
use Rattle.ped_rules.specs.ped_flow.specs.Questions.{IsLoop}
use Rattle.ped_rules.specs.ped_steps.proofs.RunLaws.FilledGaps.{number_from, number_room}
use Rattle.ped_rules.specs.ped_steps.proofs.RunLaws.LoopsRound.{all_none_from, one_more}
use Rattle.ped_splits.specs.Neighbours.{Neighbour, joined_head, renamed_body, joined_loop, fused}

within : (xs ys : List StmtTree) (k : ℕ) → k < length xs → at_place (xs ++ ys) k ≡ at_place xs k
within [] ys k h = absurd (omega arith)
within (x ∷ xs) ys k h = grind (arith, eqb-true, within xs ys (k - 1))

within_all : (ts : StmtTrees) (ys : List StmtTree) (k : ℕ) → k < statements_count ts → at_place (all_numbered ts ++ ys) k ≡ at_place (all_numbered ts) k
within_all ts ys k h = let long = length-all_numbered ts in within (all_numbered ts) ys k (omega (arith, h, long))

next : (x : StmtTree) (xs : List StmtTree) (k : ℕ) → 0 < k → at_place (x ∷ xs) k ≡ at_place xs (k - 1)
next x xs k h = grind (arith, eqb-true, h)

followed_numbered : (ts us : StmtTrees) → all_numbered (followed ts us) ≡ all_numbered ts ++ all_numbered us
followed_numbered no_stmts us = refl
followed_numbered (more_stmts t rest) us = ap (λ (z : List StmtTree). numbered t ++ z) (followed_numbered rest us) ∙ sym (append_assoc (numbered t) (all_numbered rest) (all_numbered us))

-- what stands at a place of statements in a gap
pub gap_place : (g : Gap) (n i j : ℕ) (ts : StmtTrees) → n + i ≡ number_at g n + j → j < statements_count ts → at_place (all_numbered (filled g ts)) i ≡ at_place (all_numbered ts) j
gap_place (at_front rest) n i j ts e h =
    let same : i ≡ j = omega (arith, e) in
    ap (λ (z : List StmtTree). at_place z i) (followed_numbered ts rest) ∙ ap (at_place (all_numbered ts ++ all_numbered rest)) same ∙ within_all ts (all_numbered rest) j h
gap_place (past t g) n i j ts e h =
    let from = number_from g (n + statement_count t) in
    numbered-back t (all_numbered (filled g ts)) i (i - statement_count t) (omega (arith, from, e)) ∙ gap_place g (n + statement_count t) (i - statement_count t) j ts (omega (arith, from, e)) h
gap_place (in_then c g b rest) n i j ts e h =
    let from = number_from g (n + 1) in
    let count = number_room g ts (n + 1) in
    let long = length-all_numbered (filled g ts) in
    let xs : List StmtTree = all_numbered (filled g ts) in
    next (If c (filled g ts) b) ((xs ++ all_numbered b) ++ all_numbered rest) i (omega (arith, from, e))
    ∙ ap (λ (z : List StmtTree). at_place z (i - 1)) (append_assoc xs (all_numbered b) (all_numbered rest))
    ∙ within xs (all_numbered b ++ all_numbered rest) (i - 1) (omega (arith, from, e, h, count, long))
    ∙ gap_place g (n + 1) (i - 1) j ts (omega (arith, from, e)) h
gap_place (in_else c a g rest) n i j ts e h =
    let from = number_from g (n + 1 + statements_count a) in
    let count = number_room g ts (n + 1 + statements_count a) in
    let long = length-all_numbered (filled g ts) in
    let xs : List StmtTree = all_numbered (filled g ts) in
    next (If c a (filled g ts)) ((all_numbered a ++ xs) ++ all_numbered rest) i (omega (arith, from, e))
    ∙ ap (λ (z : List StmtTree). at_place z (i - 1)) (append_assoc (all_numbered a) xs (all_numbered rest))
    ∙ all_numbered-back a (xs ++ all_numbered rest) (i - 1) (i - 1 - statements_count a) (omega (arith, from, e))
    ∙ within xs (all_numbered rest) (i - 1 - statements_count a) (omega (arith, from, e, h, count, long))
    ∙ gap_place g (n + 1 + statements_count a) (i - 1 - statements_count a) j ts (omega (arith, from, e)) h
gap_place (in_body f g rest) n i j ts e h =
    let from = number_from g (n + 1) in
    let count = number_room g ts (n + 1) in
    let long = length-all_numbered (filled g ts) in
    let xs : List StmtTree = all_numbered (filled g ts) in
    next (Do f (filled g ts)) (xs ++ all_numbered rest) i (omega (arith, from, e))
    ∙ within xs (all_numbered rest) (i - 1) (omega (arith, from, e, h, count, long))
    ∙ gap_place g (n + 1) (i - 1) j ts (omega (arith, from, e)) h

-- the DO in a gap stands under the gap's number
pub loop_there : (t : ProgramTree) (s : ℕ) (g : Gap) (h : Head) (b rest : StmtTrees) → t.body ≡ filled g (more_stmts (Do h b) rest) → number_at g 1 ≡ s → IsLoop t s h b
loop_there t s g h b rest is at = by (s == 0) refl
  where
    low : 1 ≤ s
    low = let from = number_from g 1 in omega (arith, at, from)

    by : (c : Bool) → (s == 0) ≡ c → (if s == 0 then None else at_place (all_numbered t.body) (s - 1)) ≡ Some (Do h b)
    by true e = let k = low in let z : s ≡ 0 = eqb-true s 0 e in absurd (omega (arith, k, z))
    by false e =
        ap (λ (c : Bool). if c then None else at_place (all_numbered t.body) (s - 1)) e
        ∙ (ap (λ (ss : StmtTrees). at_place (all_numbered ss) (s - 1)) is
        ∙ gap_place g 1 (s - 1) 0 (more_stmts (Do h b) rest) (let k = low in omega (arith, k, at)) (omega arith))

module _ (s : ℕ) (old new : StmtTrees) (one : 1 ≤ statements_count old) (some : 1 ≤ statements_count new) where
  -- what stands in a gap is in the same DO loops, whatever it is
  rounds : (g : Gap) (n : ℕ) → number_at g n ≡ s → all_loops_round s (filled g old) n ≡ all_loops_round s (filled g new) n
  rounds (at_front rest) n e = all_none_from s (followed old rest) n (omega (arith, e)) ∙ sym (all_none_from s (followed new rest) n (omega (arith, e)))
  rounds (past x g) n e = ap (λ (ls : List Loop). loops_round s x n ++ ls) (rounds g (n + statement_count x) e)
  rounds (in_then c g b rest) n e =
      let from = number_room g old (n + 1) in
      let to = number_room g new (n + 1) in
      (λ i. (rounds g (n + 1) e i ++ none_then b (n + 1 + statements_count (filled g old)) (n + 1 + statements_count (filled g new)) (omega (arith, e, from, one)) (omega (arith, e, to, some)) i)
      ++ none_then rest (n + statement_count (If c (filled g old) b)) (n + statement_count (If c (filled g new) b)) (omega (arith, e, from, one)) (omega (arith, e, to, some)) i)
    where
      none_then : (ts : StmtTrees) (k m : ℕ) → s ≤ k → s ≤ m → all_loops_round s ts k ≡ all_loops_round s ts m
      none_then ts k m h l = all_none_from s ts k h ∙ sym (all_none_from s ts m l)
  rounds (in_else c a g rest) n e =
      let from = number_room g old (n + 1 + statements_count a) in
      let to = number_room g new (n + 1 + statements_count a) in
      (λ i. (all_loops_round s a (n + 1) ++ rounds g (n + 1 + statements_count a) e i)
      ++ (all_none_from s rest (n + statement_count (If c a (filled g old))) (omega (arith, e, from, one)) ∙ sym (all_none_from s rest (n + statement_count (If c a (filled g new))) (omega (arith, e, to, some)))) i)
  rounds (in_body h g rest) n e =
      let low = number_from g (n + 1) in
      let from = number_room g old (n + 1) in
      let to = number_room g new (n + 1) in
      let inside : loops_round s (Do h (filled g old)) n ≡ loops_round s (Do h (filled g new)) n =
      one_more s h (filled g old) n (omega (arith, e, low)) (omega (arith, e, from, one))
      ∙ (ap (λ (ls : List Loop). (record { number = n; head = h }) ∷ ls) (rounds g (n + 1) e)
      ∙ sym (one_more s h (filled g new) n (omega (arith, e, low)) (omega (arith, e, to, some)))) in
      (λ i. inside i
      ++ (all_none_from s rest (n + statement_count (Do h (filled g old))) (omega (arith, e, from, one)) ∙ sym (all_none_from s rest (n + statement_count (Do h (filled g new))) (omega (arith, e, to, some)))) i)

module _ {t : ProgramTree} {s : ℕ} (x : Neighbour t s) where
  pub own_loop : IsLoop t s x.own x.own_body
  own_loop = loop_there t s x.gap x.own x.own_body (followed x.between (alone (Do x.next x.next_body))) x.stands x.numbered

  pub fused_loop : IsLoop (fused x) s (joined_head x.own x.next) (followed x.own_body (followed x.between (renamed_body x.own x.next x.next_body)))
  fused_loop = loop_there (fused x) s x.gap (joined_head x.own x.next) (followed x.own_body (followed x.between (renamed_body x.own x.next x.next_body))) no_stmts refl x.numbered

  -- the one DO has the level of the first
  pub fused_level : level_at t s ≡ level_at (fused x) s
  fused_level =
      ap (λ (ls : List Loop). length ls + 1)
      (ap (λ (ts : StmtTrees). all_loops_round s ts 1) x.stands
      ∙ rounds s (more_stmts (Do x.own x.own_body) (followed x.between (alone (Do x.next x.next_body)))) (joined_loop x) (omega arith) (omega arith) x.gap 1 x.numbered)

-- The two neighbours are DO loops of the program under their numbers, and the one DO is a DO of the new one.
use Rattle.std.proofs.Common.{◌≡◌, ℕ, ◌+◌, ◌-◌, ◌<◌, ◌≤◌, ◌==◌, List, ◌∷◌, ◌++◌, Bool, false, Some, None, if◌then◌else◌, refl, sym, ap, ◌∙◌, arith, eqb-true}
use Rattle.std.proofs.lemmas.List.{append_assoc}
use Rattle.ped_tree.specs.Tree.{Head, StmtTree, StmtTrees, If, Do, no_stmts, more_stmts, ProgramTree}
use Rattle.ped_tree.specs.Numbering.{numbered, all_numbered, at_place, statement_count, statements_count}
use Rattle.ped_tree.proofs.Numbers.{length-all_numbered, numbered-back, all_numbered-back}
use Rattle.ped_rules.specs.ped_steps.specs.Replacing.{followed, alone}
use Rattle.ped_rules.specs.ped_steps.specs.Runs.Gaps.{Gap, at_front, past, in_then, in_else, in_body, filled, number_at}
use Rattle.ped_rules.specs.ped_steps.proofs.RunLaws.FilledGaps.{number_from, number_room}
use Rattle.ped_rules.specs.ped_flow.specs.Questions.{IsLoop, LoopOf}
use Rattle.ped_rules.specs.ped_flow.proofs.Answering.{at_place-within}
use Rattle.ped_splits.specs.Neighbours.{Neighbour, joined_head, renamed_body, joined_loop, fused, next_number}
use Rattle.ped_splits.proofs.FuseFacts.{renamed_next, renamed_pair, renamed}

within_all : (ts : StmtTrees) (ys : List StmtTree) (k : ℕ) → k < statements_count ts → at_place (all_numbered ts ++ ys) k ≡ at_place (all_numbered ts) k
within_all ts ys k h = let long = length-all_numbered ts in at_place-within (all_numbered ts) ys k (omega (arith, h, long))

later_place : (x : StmtTree) (xs : List StmtTree) (k : ℕ) → 0 < k → at_place (x ∷ xs) k ≡ at_place xs (k - 1)
later_place x xs k h = grind (arith, eqb-true, h)

pub numbered_both : (ts us : StmtTrees) → all_numbered (followed ts us) ≡ all_numbered ts ++ all_numbered us
numbered_both no_stmts us = refl
numbered_both (more_stmts t rest) us = ap (λ (z : List StmtTree). numbered t ++ z) (numbered_both rest us) ∙ sym (append_assoc (numbered t) (all_numbered rest) (all_numbered us))

-- what stands at a place of statements in a gap
pub gap_place : (g : Gap) (n i j : ℕ) (ts : StmtTrees) → n + i ≡ number_at g n + j → j < statements_count ts → at_place (all_numbered (filled g ts)) i ≡ at_place (all_numbered ts) j
gap_place (at_front rest) n i j ts e h =
    let same : i ≡ j = omega (arith, e) in
    ap (λ (z : List StmtTree). at_place z i) (numbered_both ts rest) ∙ (ap (at_place (all_numbered ts ++ all_numbered rest)) same ∙ within_all ts (all_numbered rest) j h)
gap_place (past t g) n i j ts e h =
    let from = number_from g (n + statement_count t) in
    numbered-back t (all_numbered (filled g ts)) i (i - statement_count t) (omega (arith, from, e)) ∙ gap_place g (n + statement_count t) (i - statement_count t) j ts (omega (arith, from, e)) h
gap_place (in_then c g b rest) n i j ts e h =
    let from = number_from g (n + 1) in
    let room = number_room g ts (n + 1) in
    let xs : List StmtTree = all_numbered (filled g ts) in
    later_place (If c (filled g ts) b) ((xs ++ all_numbered b) ++ all_numbered rest) i (omega (arith, from, e))
    ∙ (ap (λ (z : List StmtTree). at_place z (i - 1)) (append_assoc xs (all_numbered b) (all_numbered rest))
    ∙ (within_all (filled g ts) (all_numbered b ++ all_numbered rest) (i - 1) (omega (arith, from, e, h, room))
    ∙ gap_place g (n + 1) (i - 1) j ts (omega (arith, from, e)) h))
gap_place (in_else c a g rest) n i j ts e h =
    let from = number_from g (n + 1 + statements_count a) in
    let room = number_room g ts (n + 1 + statements_count a) in
    let xs : List StmtTree = all_numbered (filled g ts) in
    later_place (If c a (filled g ts)) ((all_numbered a ++ xs) ++ all_numbered rest) i (omega (arith, from, e))
    ∙ (ap (λ (z : List StmtTree). at_place z (i - 1)) (append_assoc (all_numbered a) xs (all_numbered rest))
    ∙ (all_numbered-back a (xs ++ all_numbered rest) (i - 1) (i - 1 - statements_count a) (omega (arith, from, e))
    ∙ (within_all (filled g ts) (all_numbered rest) (i - 1 - statements_count a) (omega (arith, from, e, h, room))
    ∙ gap_place g (n + 1 + statements_count a) (i - 1 - statements_count a) j ts (omega (arith, from, e)) h)))
gap_place (in_body f g rest) n i j ts e h =
    let from = number_from g (n + 1) in
    let room = number_room g ts (n + 1) in
    let xs : List StmtTree = all_numbered (filled g ts) in
    later_place (Do f (filled g ts)) (xs ++ all_numbered rest) i (omega (arith, from, e))
    ∙ (within_all (filled g ts) (all_numbered rest) (i - 1) (omega (arith, from, e, h, room))
    ∙ gap_place g (n + 1) (i - 1) j ts (omega (arith, from, e)) h)

-- a DO among the statements in a gap is a DO of the program
pub gap_loop : (t : ProgramTree) (g : Gap) (ts : StmtTrees) (j l : ℕ) (h : Head) (b : StmtTrees) → t.body ≡ filled g ts → l ≡ number_at g 1 + j → j < statements_count ts → at_place (all_numbered ts) j ≡ Some (Do h b) → IsLoop t l h b
gap_loop t g ts j l h b is e inside there =
    ap (λ (c : Bool). if c then None else at_place (all_numbered t.body) (l - 1)) positive
    ∙ (ap (λ (ss : StmtTrees). at_place (all_numbered ss) (l - 1)) is ∙ (gap_place g 1 (l - 1) j ts (omega (arith, e, from)) inside ∙ there))
  where
    from : 1 ≤ number_at g 1
    from = number_from g 1

    positive : (l == 0) ≡ false
    positive = let low = from in grind (arith, eqb-true, e, low)

-- the DO that comes behind another one and comments
second_place : (h k : Head) (b c between : StmtTrees) → statements_count between ≡ 0
    → at_place (all_numbered (more_stmts (Do h b) (followed between (alone (Do k c))))) (1 + statements_count b) ≡ Some (Do k c)
second_place h k b c between none =
    numbered-back (Do h b) (all_numbered (followed between (alone (Do k c)))) (1 + statements_count b) 0 (omega arith)
    ∙ (ap (λ (xs : List StmtTree). at_place xs 0) (numbered_both between (alone (Do k c)))
    ∙ all_numbered-back between (all_numbered (alone (Do k c))) 0 0 (omega (arith, none)))

-- so many statements
pub count_both : (ts us : StmtTrees) → statements_count (followed ts us) ≡ statements_count ts + statements_count us
count_both no_stmts us = omega arith
count_both (more_stmts t rest) us = let e = count_both rest us in omega (arith, e)

module _ (t : ProgramTree) (s : ℕ) (x : Neighbour t s) where
  abbrev pub pair : StmtTrees
  pair = more_stmts (Do x.own x.own_body) (followed x.between (alone (Do x.next x.next_body)))

  pub pair_count : statements_count pair ≡ statements_count x.own_body + statements_count x.next_body + 2
  pair_count = let e = count_both x.between (alone (Do x.next x.next_body)) in let none = x.comments in omega (arith, e, none)

  pub own_is : IsLoop t s x.own x.own_body
  own_is = gap_loop t x.gap pair 0 s x.own x.own_body x.stands (let n = x.numbered in omega (arith, n)) (let c = pair_count in omega (arith, c)) refl

  pub next_is : IsLoop t (next_number x) x.next x.next_body
  next_is =
      gap_loop t x.gap pair (1 + statements_count x.own_body) (next_number x) x.next x.next_body x.stands (let n = x.numbered in omega (arith, n)) (let c = pair_count in omega (arith, c))
      (second_place x.own x.next x.own_body x.next_body x.between x.comments)

  -- the first DO
  abbrev pub own_loop : LoopOf t s
  own_loop = record { head = x.own; body = x.own_body; is = own_is }

  -- the second one
  abbrev pub next_loop : LoopOf t (next_number x)
  next_loop = record { head = x.next; body = x.next_body; is = next_is }

  pub fused_is : IsLoop (fused x) s (joined_head x.own x.next) (followed x.own_body (followed x.between (renamed_body x.own x.next x.next_body)))
  fused_is =
      gap_loop (fused x) x.gap (joined_loop x) 0 s (joined_head x.own x.next) (followed x.own_body (followed x.between (renamed_body x.own x.next x.next_body))) refl (let n = x.numbered in omega (arith, n)) (omega arith) refl

  -- the one DO that they become
  abbrev pub fused_loop : LoopOf (fused x) s
  fused_loop = record { head = joined_head x.own x.next; body = followed x.own_body (followed x.between (renamed_body x.own x.next x.next_body)); is = fused_is }

  pub own_renamed_is : IsLoop (renamed x) s x.own x.own_body
  own_renamed_is = gap_loop (renamed x) x.gap (renamed_pair x) 0 s x.own x.own_body refl (let n = x.numbered in omega (arith, n)) (omega arith) refl

  -- the first DO in the program between
  abbrev pub own_renamed : LoopOf (renamed x) s
  own_renamed = record { head = x.own; body = x.own_body; is = own_renamed_is }

  abbrev pub renamed_head : Head
  renamed_head = record x.next { variable = x.own.variable }

  pub next_renamed_is : IsLoop (renamed x) (next_number x) renamed_head (renamed_body x.own x.next x.next_body)
  next_renamed_is =
      gap_loop (renamed x) x.gap (renamed_pair x) (1 + statements_count x.own_body) (next_number x) renamed_head (renamed_body x.own x.next x.next_body) refl (let n = x.numbered in omega (arith, n))
      (let e = count_both x.between (alone (renamed_next x)) in omega (arith, e))
      (second_place x.own renamed_head x.own_body (renamed_body x.own x.next x.next_body) x.between x.comments)

  -- and the second one there
  abbrev pub next_renamed : LoopOf (renamed x) (next_number x)
  next_renamed = record { head = renamed_head; body = renamed_body x.own x.next x.next_body; is = next_renamed_is }

-- The second of two DO loops, by itself: it fills a gap, in which it gives way to the one with the variable of the first.
use Rattle.std.proofs.Common.{◌≡◌, ℕ, ◌+◌, ◌≤◌, List, [], ◌∷◌, ◌++◌, Some, refl, sym, ap, subst, ◌∙◌, append-nil, arith}
use Rattle.ped_tree.specs.Nests.{Loop}
use Rattle.ped_tree.specs.Numbering.{all_numbered, numbered, statement_with, statement_count, statements_count}
use Rattle.ped_tree.specs.Tree.{Do, If, ProgramTree, StmtTree, StmtTrees, more_stmts, no_stmts}
use Rattle.ped_rules.specs.ped_laws.proofs.FlowRunLaws.Standing.{Stand, else_stands, first_stands, inner_stands, is_there, rest_stands, whole_stands}
use Rattle.ped_rules.specs.ped_laws.specs.Covering.Nested.{loop}
use Rattle.ped_rules.specs.ped_loop_runs.proofs.LoopLaws.NextIn.{first_alone, second_alone}
use Rattle.ped_rules.specs.ped_steps.proofs.RunLaws.FilledGaps.{number_from, number_room}
use Rattle.ped_rules.specs.ped_steps.proofs.RunLaws.LoopsRound.{all_none_before, all_none_from, none_before, one_more}
use Rattle.ped_rules.specs.ped_flow.specs.PlainBounds.{all_loops_round, nest_round}
use Rattle.ped_rules.specs.ped_flow.specs.Questions.{LoopOf}
use Rattle.ped_rules.specs.ped_steps.specs.Replacing.{alone, followed}
use Rattle.ped_rules.specs.ped_steps.specs.Runs.Gaps.{Gap, at_front, filled, in_body, in_else, in_then, number_at, past}
use Rattle.ped_splits.proofs.FuseFacts.{renamed, renamed_next}
use Rattle.ped_splits.specs.Neighbours.{Neighbour, next_number}

-- the gap behind some statements
abbrev pub past_all : StmtTrees → Gap → Gap
past_all no_stmts gap = gap
past_all (more_stmts z rest) gap = past z (past_all rest gap)

-- the gap behind a statement and others in a gap
abbrev pub behind_first : Gap → StmtTree → StmtTrees → Gap
behind_first (at_front rest) first between = past first (past_all between (at_front rest))
behind_first (past z gap) first between = past z (behind_first gap first between)
behind_first (in_then c gap other rest) first between = in_then c (behind_first gap first between) other rest
behind_first (in_else c other gap rest) first between = in_else c other (behind_first gap first between) rest
behind_first (in_body h gap rest) first between = in_body h (behind_first gap first between) rest

followed_again : (xs ys zs : StmtTrees) → followed xs (followed ys zs) ≡ followed (followed xs ys) zs
followed_again no_stmts ys zs = refl
followed_again (more_stmts x xs) ys zs = ap (more_stmts x) (followed_again xs ys zs)

past_filled : (between : StmtTrees) (gap : Gap) (new : StmtTrees) → filled (past_all between gap) new ≡ followed between (filled gap new)
past_filled no_stmts gap new = refl
past_filled (more_stmts z rest) gap new = ap (more_stmts z) (past_filled rest gap new)

past_number : (between : StmtTrees) (gap : Gap) (n : ℕ) → number_at (past_all between gap) n ≡ number_at gap (n + statements_count between)
past_number no_stmts gap n = let e : n ≡ n + 0 = omega arith in ap (number_at gap) e
past_number (more_stmts z rest) gap n = past_number rest gap (n + statement_count z) ∙ (let e : n + statement_count z + statements_count rest ≡ n + statements_count (more_stmts z rest) = omega arith in ap (number_at gap) e)

module _ (first : StmtTree) (between : StmtTrees) where
  pub pair_filled : (gap : Gap) (new : StmtTrees) → filled (behind_first gap first between) new ≡ filled gap (more_stmts first (followed between new))
  pair_filled (at_front rest) new = ap (more_stmts first) (past_filled between (at_front rest) new ∙ followed_again between new rest)
  pair_filled (past z gap) new = ap (more_stmts z) (pair_filled gap new)
  pair_filled (in_then c gap other rest) new = ap (λ (ts : StmtTrees). more_stmts (If c ts other) rest) (pair_filled gap new)
  pair_filled (in_else c other gap rest) new = ap (λ (ts : StmtTrees). more_stmts (If c other ts) rest) (pair_filled gap new)
  pair_filled (in_body h gap rest) new = ap (λ (ts : StmtTrees). more_stmts (Do h ts) rest) (pair_filled gap new)

  pub pair_number : (gap : Gap) (n : ℕ) → number_at (behind_first gap first between) n ≡ number_at gap n + statement_count first + statements_count between
  pair_number (at_front rest) n = past_number between (at_front rest) (n + statement_count first)
  pair_number (past z gap) n = pair_number gap (n + statement_count z)
  pair_number (in_then c gap other rest) n = pair_number gap (n + 1)
  pair_number (in_else c other gap rest) n = pair_number gap (n + 1 + statements_count other)
  pair_number (in_body h gap rest) n = pair_number gap (n + 1)

-- what stands at the front of a gap has the gap's number
module _ (t : ProgramTree) (z : StmtTree) (zs : StmtTrees) where
  pub stands_at : (gap : Gap) (n : ℕ) → Stand t n (all_numbered (filled gap (more_stmts z zs))) → Stand t (number_at gap n) (numbered z)
  stands_at (at_front rest) n h = first_stands t n (numbered z) (all_numbered (followed zs rest)) h
  stands_at (past y gap) n h = stands_at gap (n + statement_count y) (rest_stands t y (filled gap (more_stmts z zs)) n h)
  stands_at (in_then c gap other rest) n h =
      let it = filled gap (more_stmts z zs) in
      stands_at gap (n + 1) (first_stands t (n + 1) (all_numbered it) (all_numbered other) (inner_stands t (If c it other) _ n (first_stands t n (numbered (If c it other)) (all_numbered rest) h)))
  stands_at (in_else c other gap rest) n h =
      let it = filled gap (more_stmts z zs) in
      stands_at gap (n + 1 + statements_count other) (else_stands t other it (n + 1) (inner_stands t (If c other it) _ n (first_stands t n (numbered (If c other it)) (all_numbered rest) h)))
  stands_at (in_body g gap rest) n h =
      let it = filled gap (more_stmts z zs) in
      stands_at gap (n + 1) (inner_stands t (Do g it) (all_numbered it) n (first_stands t n (numbered (Do g it)) (all_numbered rest) h))

-- the DO loops round a gap
abbrev pub loops_of_gap : Gap → ℕ → List Loop
loops_of_gap (at_front rest) n = []
loops_of_gap (past z gap) n = loops_of_gap gap (n + statement_count z)
loops_of_gap (in_then c gap other rest) n = loops_of_gap gap (n + 1)
loops_of_gap (in_else c other gap rest) n = loops_of_gap gap (n + 1 + statements_count other)
loops_of_gap (in_body h gap rest) n = loop n h ∷ loops_of_gap gap (n + 1)

past_loops : (between : StmtTrees) (gap : Gap) (n : ℕ) → loops_of_gap (past_all between gap) n ≡ loops_of_gap gap (n + statements_count between)
past_loops no_stmts gap n = let e : n ≡ n + 0 = omega arith in ap (loops_of_gap gap) e
past_loops (more_stmts z rest) gap n = past_loops rest gap (n + statement_count z) ∙ (let e : n + statement_count z + statements_count rest ≡ n + statements_count (more_stmts z rest) = omega arith in ap (loops_of_gap gap) e)

pub pair_loops : (first : StmtTree) (between : StmtTrees) (gap : Gap) (n : ℕ) → loops_of_gap (behind_first gap first between) n ≡ loops_of_gap gap n
pair_loops first between (at_front rest) n = past_loops between (at_front rest) (n + statement_count first)
pair_loops first between (past z gap) n = pair_loops first between gap (n + statement_count z)
pair_loops first between (in_then c gap other rest) n = pair_loops first between gap (n + 1)
pair_loops first between (in_else c other gap rest) n = pair_loops first between gap (n + 1 + statements_count other)
pair_loops first between (in_body h gap rest) n = ap (λ (ls : List Loop). loop n h ∷ ls) (pair_loops first between gap (n + 1))

-- they are those round what stands at its front
module _ (l : ℕ) (it : StmtTrees) (some : 1 ≤ statements_count it) where
  pub nest_at : (gap : Gap) (n : ℕ) → number_at gap n ≡ l → all_loops_round l (filled gap it) n ≡ loops_of_gap gap n
  nest_at (at_front rest) n e = all_none_from l (followed it rest) n (omega (arith, e))
  nest_at (past z gap) n e =
      let from = number_from gap (n + statement_count z) in
      ap (λ (ls : List Loop). ls ++ all_loops_round l (filled gap it) (n + statement_count z)) (none_before l z n (omega (arith, from, e))) ∙ nest_at gap (n + statement_count z) e
  nest_at (in_then c gap other rest) n e =
      let a = filled gap it in
      let room = number_room gap it (n + 1) in
      first_alone (all_loops_round l a (n + 1)) (all_loops_round l other (n + 1 + statements_count a)) (all_loops_round l rest (n + statement_count (If c a other)))
      (all_none_from l other (n + 1 + statements_count a) (omega (arith, room, e, some))) (all_none_from l rest (n + statement_count (If c a other)) (omega (arith, room, e, some)))
      ∙ nest_at gap (n + 1) e
  nest_at (in_else c other gap rest) n e =
      let a = filled gap it in
      let from = number_from gap (n + 1 + statements_count other) in
      let room = number_room gap it (n + 1 + statements_count other) in
      second_alone (all_loops_round l other (n + 1)) (all_loops_round l a (n + 1 + statements_count other)) (all_loops_round l rest (n + statement_count (If c other a)))
      (all_none_before l other (n + 1) (omega (arith, from, e))) (all_none_from l rest (n + statement_count (If c other a)) (omega (arith, room, e, some)))
      ∙ nest_at gap (n + 1 + statements_count other) e
  nest_at (in_body g gap rest) n e =
      let a = filled gap it in
      let from = number_from gap (n + 1) in
      let room = number_room gap it (n + 1) in
      (λ i. one_more l g a n (omega (arith, from, e)) (omega (arith, room, e, some)) i ++ all_none_from l rest (n + statement_count (Do g a)) (omega (arith, room, e, some)) i) ∙ append-nil (loop n g ∷ all_loops_round l a (n + 1))
      ∙ ap (λ (ls : List Loop). loop n g ∷ ls) (nest_at gap (n + 1) e)

module _ {t : ProgramTree} {s : ℕ} (x : Neighbour t s) where
  abbrev first_loop : StmtTree
  first_loop = Do x.own x.own_body

  -- the gap that the second DO fills by itself
  abbrev pub next_gap : Gap
  next_gap = behind_first x.gap (Do x.own x.own_body) x.between

  pub next_old : t.body ≡ filled next_gap (alone (Do x.next x.next_body))
  next_old = x.stands ∙ sym (pair_filled first_loop x.between x.gap (alone (Do x.next x.next_body)))

  pub next_new : (renamed x).body ≡ filled next_gap (alone (renamed_next x))
  next_new = sym (pair_filled first_loop x.between x.gap (alone (renamed_next x)))

  pub next_numbered : number_at next_gap 1 ≡ next_number x
  next_numbered = let e = pair_number first_loop x.between x.gap 1 in let f = x.numbered in let g = x.comments in omega (arith, e, f, g)

  abbrev pub own_loop : LoopOf t s
  own_loop = record {
    head = x.own;
    body = x.own_body;
    is = subst (λ (n : ℕ). statement_with n t ≡ Some (Do x.own x.own_body)) x.numbered
        (is_there t (Do x.own x.own_body) (all_numbered x.own_body) (number_at x.gap 1) (stands_at t (Do x.own x.own_body) (followed x.between (alone (Do x.next x.next_body))) x.gap 1 (subst (λ (ts : StmtTrees). Stand t 1 (all_numbered ts)) x.stands (whole_stands t))));
  }

  abbrev pub next_loop : LoopOf t (next_number x)
  next_loop = record {
    head = x.next;
    body = x.next_body;
    is = subst (λ (n : ℕ). statement_with n t ≡ Some (Do x.next x.next_body)) next_numbered
        (is_there t (Do x.next x.next_body) (all_numbered x.next_body) (number_at next_gap 1) (stands_at t (Do x.next x.next_body) no_stmts next_gap 1 (subst (λ (ts : StmtTrees). Stand t 1 (all_numbered ts)) next_old (whole_stands t))));
  }

  -- the DO loops round the two are the same
  pub same_nest : nest_round t (next_number x) ≡ nest_round t s
  same_nest =
      ap (λ (ts : StmtTrees). all_loops_round (next_number x) ts 1) next_old
      ∙ nest_at (next_number x) (alone (Do x.next x.next_body)) (omega arith) next_gap 1 next_numbered
      ∙ pair_loops first_loop x.between x.gap 1
      ∙ sym (nest_at s (more_stmts first_loop (followed x.between (alone (Do x.next x.next_body)))) (omega arith) x.gap 1 x.numbered)
      ∙ ap (λ (ts : StmtTrees). all_loops_round s ts 1) (sym x.stands)

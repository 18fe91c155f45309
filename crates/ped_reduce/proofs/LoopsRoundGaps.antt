-- Statements in a gap: the DO loops round them, and what is known of a statement that stands there.
use Rattle.std.proofs.Common.{◌≡◌, ℕ, ◌+◌, ◌<◌, List, [], ◌∷◌, ◌++◌, Some, refl, sym, ap, subst, ◌∙◌, append_assoc, append-nil, arith}
use Rattle.ped_tree.specs.Tree.{StmtTree, StmtTrees, If, Do, no_stmts, more_stmts, ProgramTree}
use Rattle.ped_tree.specs.Nests.{Loop}
use Rattle.ped_tree.specs.Numbering.{all_numbered, numbered, statement_with, statement_count, statements_count}
use Rattle.ped_rules.specs.ped_flow.specs.PlainBounds.{loops_round, all_loops_round}
use Rattle.ped_rules.specs.ped_steps.specs.Replacing.{followed}
use Rattle.ped_rules.specs.ped_steps.specs.Runs.Gaps.{Gap, at_front, past, in_then, in_else, in_body, filled, number_at}
use Rattle.ped_rules.specs.ped_steps.proofs.RunLaws.FilledGaps.{number_from, number_room}
use Rattle.ped_rules.specs.ped_steps.proofs.RunLaws.LoopsRound.{none_before, all_none_before, all_none_from, one_more}
use Rattle.ped_rules.specs.ped_loop_runs.proofs.LoopLaws.NextIn.{first_alone, second_alone}
use Rattle.ped_rules.specs.ped_laws.specs.Covering.Nested.{loop}
use Rattle.ped_rules.specs.ped_laws.proofs.FlowRunLaws.Standing.{Stand, whole_stands, first_stands, rest_stands, inner_stands, else_stands, is_there}

-- the DO loops round a gap, the outermost first, where the first statement has number n
abbrev pub gap_loops : Gap → ℕ → List Loop
gap_loops (at_front rest) n = []
gap_loops (past x gap) n = gap_loops gap (n + statement_count x)
gap_loops (in_then c gap b rest) n = gap_loops gap (n + 1)
gap_loops (in_else c a gap rest) n = gap_loops gap (n + 1 + statements_count a)
gap_loops (in_body d gap rest) n = record { number = n; head = d } ∷ gap_loops gap (n + 1)

-- they are those round the first of the statements in it
module _ (l : ℕ) (ts : StmtTrees) (some : 0 < statements_count ts) where
  pub gap_nest : (gap : Gap) (n : ℕ) → number_at gap n ≡ l → all_loops_round l (filled gap ts) n ≡ gap_loops gap n
  gap_nest (at_front rest) n e = all_none_from l (followed ts rest) n (omega (arith, e))
  gap_nest (past x gap) n e =
      let from = number_from gap (n + statement_count x) in
      let here : loops_round l x n ≡ [] = none_before l x n (omega (arith, from, e)) in
      (λ i. here i ++ all_loops_round l (filled gap ts) (n + statement_count x)) ∙ gap_nest gap (n + statement_count x) e
  gap_nest (in_then c gap other rest) n e =
      let a = filled gap ts in
      let room = number_room gap ts (n + 1) in
      first_alone (all_loops_round l a (n + 1)) (all_loops_round l other (n + 1 + statements_count a)) (all_loops_round l rest (n + statement_count (If c a other)))
      (all_none_from l other (n + 1 + statements_count a) (omega (arith, room, e))) (all_none_from l rest (n + statement_count (If c a other)) (omega (arith, room, e)))
      ∙ gap_nest gap (n + 1) e
  gap_nest (in_else c other gap rest) n e =
      let a = filled gap ts in
      let from = number_from gap (n + 1 + statements_count other) in
      let room = number_room gap ts (n + 1 + statements_count other) in
      second_alone (all_loops_round l other (n + 1)) (all_loops_round l a (n + 1 + statements_count other)) (all_loops_round l rest (n + statement_count (If c other a)))
      (all_none_before l other (n + 1) (omega (arith, from, e))) (all_none_from l rest (n + statement_count (If c other a)) (omega (arith, room, e)))
      ∙ gap_nest gap (n + 1 + statements_count other) e
  gap_nest (in_body g gap rest) n e =
      let a = filled gap ts in
      let from = number_from gap (n + 1) in
      let room = number_room gap ts (n + 1) in
      let here = one_more l g a n (omega (arith, from, e)) (omega (arith, room, e, some)) in
      let behind = all_none_from l rest (n + statement_count (Do g a)) (omega (arith, room, e)) in
      (λ i. here i ++ behind i) ∙ append-nil (loop n g ∷ all_loops_round l a (n + 1)) ∙ ap (λ (ls : List Loop). loop n g ∷ ls) (gap_nest gap (n + 1) e)

module _ (t : ProgramTree) where
  pub gap_stands : (gap : Gap) (ts : StmtTrees) (n : ℕ) → Stand t n (all_numbered (filled gap ts)) → Stand t (number_at gap n) (all_numbered ts)
  gap_stands (at_front rest) ts n h = followed_stands ts rest n h
    where
      followed_stands : (ts rest : StmtTrees) (n : ℕ) → Stand t n (all_numbered (followed ts rest)) → Stand t n (all_numbered ts)
      followed_stands ts rest n h = first_stands t n (all_numbered ts) (all_numbered rest) (subst (Stand t n) (numbered_followed ts rest) h)
        where
          numbered_followed : (a b : StmtTrees) → all_numbered (followed a b) ≡ all_numbered a ++ all_numbered b
          numbered_followed no_stmts b = refl
          numbered_followed (more_stmts s a) b = ap (λ (z : List StmtTree). numbered s ++ z) (numbered_followed a b) ∙ sym (append_assoc (numbered s) (all_numbered a) (all_numbered b))
  gap_stands (past z gap) ts n h = gap_stands gap ts (n + statement_count z) (rest_stands t z (filled gap ts) n h)
  gap_stands (in_then c gap other rest) ts n h =
      let it = filled gap ts in
      gap_stands gap ts (n + 1) (first_stands t (n + 1) (all_numbered it) (all_numbered other) (inner_stands t (If c it other) (all_numbered it ++ all_numbered other) n (first_stands t n (numbered (If c it other)) (all_numbered rest) h)))
  gap_stands (in_else c other gap rest) ts n h =
      let it = filled gap ts in
      gap_stands gap ts (n + 1 + statements_count other) (else_stands t other it (n + 1) (inner_stands t (If c other it) (all_numbered other ++ all_numbered it) n (first_stands t n (numbered (If c other it)) (all_numbered rest) h)))
  gap_stands (in_body g gap rest) ts n h =
      let it = filled gap ts in
      gap_stands gap ts (n + 1) (inner_stands t (Do g it) (all_numbered it) n (first_stands t n (numbered (Do g it)) (all_numbered rest) h))

pub front_there : (t : ProgramTree) (z : StmtTree) (xs : List StmtTree) (rest : StmtTrees) (gap : Gap) (s : ℕ) → numbered z ≡ z ∷ xs → number_at gap 1 ≡ s → t.body ≡ filled gap (more_stmts z rest) → statement_with s t ≡ Some z
front_there t z xs rest gap s numbers at is =
    is_there t z xs s (subst (Stand t s) numbers (first_stands t s (numbered z) (all_numbered rest) (subst (λ (n : ℕ). Stand t n (all_numbered (more_stmts z rest))) at (gap_stands t gap (more_stmts z rest) 1 (subst (λ (ts : StmtTrees). Stand t 1 (all_numbered ts)) is (whole_stands t))))))

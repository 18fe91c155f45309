-- The loops round the first statement in a DO are those round the DO, and it. The paths to the outermost DO round both are the same.
use Rattle.std.proofs.Common.{◌≡◌, ℕ, ◌+◌, ◌<◌, ◌≤◌, List, [], ◌∷◌, ◌++◌, inl, inr, sym, ap, subst, ◌∙◌, arith, append-nil}
use Rattle.ped_bodies.specs.ped_flow.specs.ped_tree.specs.Tree.{Head, StmtTree, StmtTrees, Assign, If, Do, Print, Read, Stop, Comment, no_stmts, more_stmts, ProgramTree}
use Rattle.ped_bodies.specs.ped_flow.specs.ped_tree.specs.Accesses.{constant_names}
use Rattle.ped_bodies.specs.ped_flow.specs.ped_tree.specs.Nests.{Loop}
use Rattle.ped_bodies.specs.ped_flow.specs.ped_tree.specs.Numbering.{statement_count, statements_count}
use Rattle.ped_bodies.specs.ped_flow.specs.Events.{Event}
use Rattle.ped_bodies.specs.ped_flow.specs.Paths.{paths_before, all_paths_before}
use Rattle.ped_bodies.specs.ped_flow.specs.PlainBounds.{all_loops_round}
use Rattle.ped_bodies.specs.ped_flow.specs.Questions.{LoopOf, IsAssignedBefore}
use Rattle.ped_bodies.specs.ped_laws.specs.Covering.Nested.{loop}
use Rattle.ped_bodies.specs.ped_steps.specs.Replacing.{alone, program_with}
use Rattle.ped_bodies.specs.ped_steps.specs.Runs.Gaps.{Gap, at_front, past, in_then, in_else, in_body, filled, number_at}
use Rattle.ped_bodies.specs.ped_steps.proofs.RunLaws.FilledGaps.{number_from, number_room}
use Rattle.ped_bodies.specs.ped_steps.proofs.RunLaws.LoopsRound.{none_before, all_none_before, all_none_from, one_more}
use Rattle.ped_bodies.specs.ped_steps.proofs.RunLaws.ReplacedTrees.{HasGap, program_gap}
use Rattle.ped_loop_runs.specs.OneOut.{IsNextIn}

pub first_alone : (a b c : List Loop) → b ≡ [] → c ≡ [] → (a ++ b) ++ c ≡ a
first_alone a b c e f = (λ i. (a ++ e i) ++ f i) ∙ (append-nil (a ++ []) ∙ append-nil a)

pub second_alone : (a b c : List Loop) → a ≡ [] → c ≡ [] → (a ++ b) ++ c ≡ b
second_alone a b c e f = (λ i. (e i ++ b) ++ f i) ∙ append-nil b

module _ (l : ℕ) (h : Head) (b : StmtTrees) where
  abbrev it : StmtTrees
  it = alone (Do h b)

  -- the loops round the first statement in the DO
  nest_filled : 0 < statements_count b → (gap : Gap) (n : ℕ) → number_at gap n ≡ l → all_loops_round (l + 1) (filled gap it) n ≡ all_loops_round l (filled gap it) n ++ loop l h ∷ []
  nest_filled some (at_front rest) n e =
      let first = one_more (l + 1) h b n (omega (arith, e)) (omega (arith, e, some)) in
      let inner = all_none_from (l + 1) b (n + 1) (omega (arith, e)) in
      let behind = all_none_from (l + 1) rest (n + statement_count (Do h b)) (omega (arith, e, some)) in
      let none = all_none_from l (more_stmts (Do h b) rest) n (omega (arith, e)) in
      (λ i. (first ∙ ap (λ (ls : List Loop). loop n h ∷ ls) inner) i ++ behind i) ∙ (ap (λ (k : ℕ). loop k h ∷ []) e ∙ sym (ap (λ (ls : List Loop). ls ++ loop l h ∷ []) none))
  nest_filled some (past x gap) n e =
      let from = number_from gap (n + statement_count x) in
      let deeper = nest_filled some gap (n + statement_count x) e in
      let here = none_before l x n (omega (arith, from, e)) in
      (λ i. none_before (l + 1) x n (omega (arith, from, e)) i ++ deeper i) ∙ sym (ap (λ (ls : List Loop). (ls ++ all_loops_round l (filled gap it) (n + statement_count x)) ++ loop l h ∷ []) here)
  nest_filled some (in_then c gap other rest) n e =
      let a = filled gap it in
      let room = number_room gap it (n + 1) in
      let deeper = nest_filled some gap (n + 1) e in
      let next = first_alone (all_loops_round (l + 1) a (n + 1)) (all_loops_round (l + 1) other (n + 1 + statements_count a)) (all_loops_round (l + 1) rest (n + statement_count (If c a other)))
      (all_none_from (l + 1) other (n + 1 + statements_count a) (omega (arith, room, e, some))) (all_none_from (l + 1) rest (n + statement_count (If c a other)) (omega (arith, room, e, some))) in
      let here = first_alone (all_loops_round l a (n + 1)) (all_loops_round l other (n + 1 + statements_count a)) (all_loops_round l rest (n + statement_count (If c a other)))
      (all_none_from l other (n + 1 + statements_count a) (omega (arith, room, e))) (all_none_from l rest (n + statement_count (If c a other)) (omega (arith, room, e))) in
      next ∙ (deeper ∙ ap (λ (ls : List Loop). ls ++ loop l h ∷ []) (sym here))
  nest_filled some (in_else c other gap rest) n e =
      let a = filled gap it in
      let from = number_from gap (n + 1 + statements_count other) in
      let room = number_room gap it (n + 1 + statements_count other) in
      let deeper = nest_filled some gap (n + 1 + statements_count other) e in
      let next = second_alone (all_loops_round (l + 1) other (n + 1)) (all_loops_round (l + 1) a (n + 1 + statements_count other)) (all_loops_round (l + 1) rest (n + statement_count (If c other a)))
      (all_none_before (l + 1) other (n + 1) (omega (arith, from, e))) (all_none_from (l + 1) rest (n + statement_count (If c other a)) (omega (arith, room, e, some))) in
      let here = second_alone (all_loops_round l other (n + 1)) (all_loops_round l a (n + 1 + statements_count other)) (all_loops_round l rest (n + statement_count (If c other a)))
      (all_none_before l other (n + 1) (omega (arith, from, e))) (all_none_from l rest (n + statement_count (If c other a)) (omega (arith, room, e))) in
      next ∙ (deeper ∙ ap (λ (ls : List Loop). ls ++ loop l h ∷ []) (sym here))
  nest_filled some (in_body g gap rest) n e =
      let a = filled gap it in
      let from = number_from gap (n + 1) in
      let room = number_room gap it (n + 1) in
      let deeper = nest_filled some gap (n + 1) e in
      let next = one_more (l + 1) g a n (omega (arith, from, e)) (omega (arith, room, e, some)) in
      let here = one_more l g a n (omega (arith, from, e)) (omega (arith, room, e)) in
      let behind_next = all_none_from (l + 1) rest (n + statement_count (Do g a)) (omega (arith, room, e, some)) in
      let behind_here = all_none_from l rest (n + statement_count (Do g a)) (omega (arith, room, e)) in
      (λ i. next i ++ behind_next i) ∙ (append-nil (loop n g ∷ all_loops_round (l + 1) a (n + 1)) ∙ (ap (λ (ls : List Loop). loop n g ∷ ls) deeper
      ∙ sym (ap (λ (ls : List Loop). ls ++ loop l h ∷ []) ((λ i. here i ++ behind_here i) ∙ append-nil (loop n g ∷ all_loops_round l a (n + 1))))))

-- no path leads to a DO with this number where statements begin behind it, or end before it
module _ (constants : List (List ℕ)) (l : ℕ) where
  mutual
    none_leads_back : (x : StmtTree) (n : ℕ) (path : List Event) → l < n → paths_before constants l x n path → ⊥
    none_leads_back (Assign left right) n path h p = p
    none_leads_back (If c a b) n path h p = elim p.4 [ inl q ↦ none_leads_back_in a (n + 1) p.1 (omega (arith, h)) q | inr q ↦ none_leads_back_in b (n + 1 + statements_count a) p.1 (omega (arith, h)) q ]
    none_leads_back (Do g body) n path h p = let from = p.0 in omega (arith, h, from)
    none_leads_back (Print items) n path h p = p
    none_leads_back (Read items) n path h p = p
    none_leads_back Stop n path h p = p
    none_leads_back (Comment text) n path h p = p

    none_leads_back_in : (xs : StmtTrees) (n : ℕ) (path : List Event) → l < n → all_paths_before constants l xs n path → ⊥
    none_leads_back_in no_stmts n path h p = p
    none_leads_back_in (more_stmts x rest) n path h p = elim p [ inl q ↦ none_leads_back x n path h q | inr r ↦ none_leads_back_in rest (n + statement_count x) r.1 (omega (arith, h)) r.4 ]

  mutual
    none_leads_on : (x : StmtTree) (n : ℕ) (path : List Event) → n + statement_count x ≤ l → paths_before constants l x n path → ⊥
    none_leads_on (Assign left right) n path h p = p
    none_leads_on (If c a b) n path h p = elim p.4 [ inl q ↦ none_leads_on_in a (n + 1) p.1 (omega (arith, h)) q | inr q ↦ none_leads_on_in b (n + 1 + statements_count a) p.1 (omega (arith, h)) q ]
    none_leads_on (Do g body) n path h p = let to = p.1 in omega (arith, h, to)
    none_leads_on (Print items) n path h p = p
    none_leads_on (Read items) n path h p = p
    none_leads_on Stop n path h p = p
    none_leads_on (Comment text) n path h p = p

    none_leads_on_in : (xs : StmtTrees) (n : ℕ) (path : List Event) → n + statements_count xs ≤ l → all_paths_before constants l xs n path → ⊥
    none_leads_on_in no_stmts n path h p = p
    none_leads_on_in (more_stmts x rest) n path h p = elim p [ inl q ↦ none_leads_on x n path (omega (arith, h)) q | inr r ↦ none_leads_on_in rest (n + statement_count x) r.1 (omega (arith, h)) r.4 ]

-- a path to the outermost DO round a DO leads to that round each statement in it
module _ (constants : List (List ℕ)) (l m : ℕ) (h : Head) (b : StmtTrees) (from : l ≤ m) (to : m ≤ l + statements_count b) where
  abbrev one : StmtTrees
  one = alone (Do h b)

  paths_filled : (gap : Gap) (n : ℕ) → number_at gap n ≡ l → (path : List Event) → all_paths_before constants l (filled gap one) n path → all_paths_before constants m (filled gap one) n path
  paths_filled (at_front rest) n e path p = elim p [
    | inl q ↦ inl (omega (arith, e, from), omega (arith, e, to), q.2)
    | inr r ↦ absurd (none_leads_back_in constants l rest (n + statement_count (Do h b)) r.1 (omega (arith, e)) r.4)
  ]
  paths_filled (past x gap) n e path p =
      let earlier = number_from gap (n + statement_count x) in
      elim p [
        | inl q ↦ absurd (none_leads_on constants l x n path (omega (arith, earlier, e)) q)
        | inr r ↦ inr (r.0, r.1, r.2, r.3, paths_filled gap (n + statement_count x) e r.1 r.4)
      ]
  paths_filled (in_then c gap other rest) n e path p =
      let a = filled gap one in
      let room = number_room gap one (n + 1) in
      elim p [
        | inl q ↦ inl (
          q.0,
          q.1,
          q.2,
          q.3,
          elim q.4 [
            | inl z ↦ inl (paths_filled gap (n + 1) e q.1 z)
            | inr z ↦ absurd (none_leads_back_in constants l other (n + 1 + statements_count a) q.1 (omega (arith, room, e)) z)
          ],
        )
        | inr r ↦ absurd (none_leads_back_in constants l rest (n + statement_count (If c a other)) r.1 (omega (arith, room, e)) r.4)
      ]
  paths_filled (in_else c other gap rest) n e path p =
      let a = filled gap one in
      let earlier = number_from gap (n + 1 + statements_count other) in
      let room = number_room gap one (n + 1 + statements_count other) in
      elim p [
        | inl q ↦ inl (
          q.0,
          q.1,
          q.2,
          q.3,
          elim q.4 [
            | inl z ↦ absurd (none_leads_on_in constants l other (n + 1) q.1 (omega (arith, earlier, e)) z)
            | inr z ↦ inr (paths_filled gap (n + 1 + statements_count other) e q.1 z)
          ],
        )
        | inr r ↦ absurd (none_leads_back_in constants l rest (n + statement_count (If c other a)) r.1 (omega (arith, room, e)) r.4)
      ]
  paths_filled (in_body g gap rest) n e path p =
      let a = filled gap one in
      let earlier = number_from gap (n + 1) in
      let room = number_room gap one (n + 1) in
      elim p [
        | inl q ↦ inl (omega (arith, earlier, e, from), omega (arith, room, e, to), q.2)
        | inr r ↦ absurd (none_leads_back_in constants l rest (n + statement_count (Do g a)) r.1 (omega (arith, room, e)) r.4)
      ]

module _ (t : ProgramTree) (l : ℕ) (outer : LoopOf t l) where
  abbrev Whole : Type 0
  Whole = HasGap (λ u. alone u) l (Do outer.head outer.body) 1 t.body (program_with (λ u. alone u) l t).body

  gap_of : Whole
  gap_of = program_gap (λ u. alone u) l (Do outer.head outer.body) t outer.is

  -- the first statement in a DO
  pub first_is_next : 0 < statements_count outer.body → IsNextIn t l outer (l + 1)
  first_is_next some = record {
    from = omega arith;
    to = omega (arith, some);
    nest = subst (λ (ts : StmtTrees). all_loops_round (l + 1) ts 1 ≡ all_loops_round l ts 1 ++ loop l outer.head ∷ []) (sym gap_of.old_is) (nest_filled l outer.head outer.body some gap_of.gap 1 gap_of.number);
  }

  -- what is assigned before the outermost DO is so for the DO, too
  pub assigned_out : (m : ℕ) → IsNextIn t l outer m → (x : List ℕ) → IsAssignedBefore t m x → IsAssignedBefore t l x
  assigned_out m next x before path p =
      let from = next.from in
      before path
      (subst (λ (ts : StmtTrees). all_paths_before (constant_names t.decls) m ts 1 path) (sym gap_of.old_is)
      (paths_filled (constant_names t.decls) l m outer.head outer.body (omega (arith, from)) next.to gap_of.gap 1 gap_of.number path
      (subst (λ (ts : StmtTrees). all_paths_before (constant_names t.decls) l ts 1 path) gap_of.old_is p)))

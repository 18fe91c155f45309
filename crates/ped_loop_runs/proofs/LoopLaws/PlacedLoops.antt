-- A DO that has come in the place of a statement has its number.
use Rattle.std.proofs.Common.{◌≡◌, ℕ, ◌+◌, ◌-◌, ◌≤◌, ◌==◌, List, [], ◌∷◌, ◌++◌, length, Bool, true, false, Some, None, if◌then◌else◌, refl, sym, ap, ◌∙◌, arith}
use Rattle.std.proofs.lemmas.Bool.Decides.{nat_tests}
use Rattle.ped_bodies.specs.ped_flow.specs.ped_tree.specs.Tree.{Head, StmtTree, StmtTrees, If, Do, ProgramTree}
use Rattle.ped_bodies.specs.ped_flow.specs.ped_tree.specs.Numbering.{numbered, all_numbered, at_place, statement_with, statement_count, statements_count}
use Rattle.ped_bodies.specs.ped_flow.specs.ped_tree.proofs.Numbers.{length-numbered, length-all_numbered, at_place-front, at_place-back}
use Rattle.ped_bodies.specs.ped_flow.specs.Questions.{LoopOf}
use Rattle.ped_bodies.specs.ped_steps.specs.Replacing.{alone, program_with}
use Rattle.ped_bodies.specs.ped_steps.specs.Runs.Gaps.{Gap, at_front, past, in_then, in_else, in_body, filled, number_at}
use Rattle.ped_bodies.specs.ped_steps.proofs.RunLaws.FilledGaps.{number_from}
use Rattle.ped_bodies.specs.ped_steps.proofs.RunLaws.ReplacedTrees.{HasGap, program_gap}

module _ (h : Head) (b : StmtTrees) where
  abbrev new : StmtTrees
  new = alone (Do h b)

  in_rest : (xs ys : List StmtTree) (k m : ℕ) → k ≡ m + length xs → at_place ys m ≡ Some (Do h b) → at_place (xs ++ ys) k ≡ Some (Do h b)
  in_rest xs ys k m e there = at_place-back xs ys k m (sym e) ∙ there

  -- where the gap stands, there the DO stands
  gap_at : (gap : Gap) (n k : ℕ) → number_at gap n ≡ n + k → at_place (all_numbered (filled gap new)) k ≡ Some (Do h b)
  gap_at (at_front rest) n k e = let none : k ≡ 0 = omega (arith, e) in ap (at_place (all_numbered (filled (at_front rest) new))) none
  gap_at (past s gap) n k e =
      let low = number_from gap (n + statement_count s) in
      in_rest (numbered s) (all_numbered (filled gap new)) k (k - statement_count s) (let long = length-numbered s in omega (arith, e, low, long)) (gap_at gap (n + statement_count s) (k - statement_count s) (omega (arith, e, low)))
  gap_at (in_then c gap a rest) n k e =
      let low = number_from gap (n + 1) in
      let whole = If c (filled gap new) a in
      at_place-front (numbered whole) (all_numbered rest) k (Do h b)
      (in_rest (whole ∷ []) (all_numbered (filled gap new) ++ all_numbered a) k (k - 1) (omega (arith, e, low)) (at_place-front (all_numbered (filled gap new)) (all_numbered a) (k - 1) (Do h b) (gap_at gap (n + 1) (k - 1) (omega (arith, e, low)))))
  gap_at (in_else c a gap rest) n k e =
      let low = number_from gap (n + 1 + statements_count a) in
      let whole = If c a (filled gap new) in
      let long = length-all_numbered a in
      at_place-front (numbered whole) (all_numbered rest) k (Do h b)
      (in_rest (whole ∷ []) (all_numbered a ++ all_numbered (filled gap new)) k (k - 1) (omega (arith, e, low))
      (in_rest (all_numbered a) (all_numbered (filled gap new)) (k - 1) (k - 1 - statements_count a) (omega (arith, e, low, long)) (gap_at gap (n + 1 + statements_count a) (k - 1 - statements_count a) (omega (arith, e, low)))))
  gap_at (in_body g gap rest) n k e =
      let low = number_from gap (n + 1) in
      let whole = Do g (filled gap new) in
      at_place-front (numbered whole) (all_numbered rest) k (Do h b)
      (in_rest (whole ∷ []) (all_numbered (filled gap new)) k (k - 1) (omega (arith, e, low)) (gap_at gap (n + 1) (k - 1) (omega (arith, e, low))))

-- so the new program has the new DO under the old number
pub placed_loop : (t : ProgramTree) (l : ℕ) (loop : LoopOf t l) (h : Head) → statement_with l (program_with (λ s. alone (Do h loop.body)) l t) ≡ Some (Do h loop.body)
placed_loop t l loop h = by (l == 0) refl
  where
    u : ProgramTree
    u = program_with (λ s. alone (Do h loop.body)) l t

    g : HasGap (λ s. alone (Do h loop.body)) l (Do loop.head loop.body) 1 t.body u.body
    g = program_gap (λ s. alone (Do h loop.body)) l (Do loop.head loop.body) t loop.is

    low : 1 ≤ number_at g.gap 1
    low = number_from g.gap 1

    some : 1 ≤ l
    some = let n = g.number in let k = low in omega (arith, n, k)

    by : (c : Bool) → (l == 0) ≡ c → (if l == 0 then None else at_place (all_numbered u.body) (l - 1)) ≡ Some (Do h loop.body)
    by true e = let k = some in absurd (grind (arith, nat_tests, e, k))
    by false e =
        ap (λ (c : Bool). if c then None else at_place (all_numbered u.body) (l - 1)) e
        ∙ ap (λ (ss : StmtTrees). at_place (all_numbered ss) (l - 1)) g.new_is
        ∙ gap_at h loop.body g.gap 1 (l - 1) (let n = g.number in let k = some in omega (arith, n, k))

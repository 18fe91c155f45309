-- Acts that are done elsewhere: those of other statements in the same iterations, and those of other iterations of a DO. They leave copies alone, too.
use Rattle.std.proofs.Common.{◌≡◌, ℕ, zero, suc, ◌+◌, ◌≤◌, ◌<◌, List, [], ◌∷◌, ◌++◌, ◌⊎◌, inl, inr, refl, sym, ap, ◌∙◌, append_assoc, arith}
use Rattle.ped_bodies.specs.ped_flow.specs.ped_tree.specs.Tree.{Head, StmtTree, StmtTrees, ProgramTree}
use Rattle.ped_bodies.specs.ped_flow.specs.ped_tree.specs.Numbering.{numbered, all_numbered, statement_count, statements_count}
use Rattle.ped_bodies.specs.ped_store.specs.Stores.{Store}
use Rattle.ped_bodies.specs.ped_store.specs.Acts.{Turn, Touch, Step, Act, ended_turn}
use Rattle.ped_bodies.specs.ped_laws.specs.FlowRuns.Exits.{IsOneToOne}
use Rattle.ped_bodies.specs.ped_laws.specs.Runs.Replaying.{act}
use Rattle.ped_bodies.specs.ped_eval.specs.Scopes.{Setting, Frame, Scope, turns_of, place_of}
use Rattle.ped_bodies.specs.ped_eval.specs.Evaluation.{Seen}
use Rattle.ped_bodies.specs.ped_eval.specs.Loops.{Limits, entered_with, frame, exit_when_none}
use Rattle.ped_bodies.specs.ped_eval.specs.Runs.{Run, does, turns, parallel_turns, run, run_all}
use Rattle.ped_bodies.specs.ped_laws.proofs.FlowRunLaws.Apart.{same_behind}
use Rattle.ped_bodies.specs.ped_laws.proofs.FlowRunLaws.Standing.{Stand}
use Rattle.ped_bodies.specs.ped_laws.proofs.RunLaws.Touches.{Each, each_none, each_more, each_append, then_each, does_each}
use Rattle.ped_bodies.specs.ped_steps.proofs.RunLaws.RunPlaces.{stands_in}
use Rattle.ped_loop_runs.specs.Executions.{IsActInside, LeaveCopies, LeavePlaces}
use Rattle.ped_loop_runs.proofs.PastingLaws.ActNumbers.{IsActIn, run_in, all_in}
use Rattle.ped_loop_runs.proofs.PastingLaws.LeftCopies.{IsOwn, leave_narrow, leave_inward, leave_append, leave_none, own_leaves, run_leaves, all_leave, body_leaves, end_leaves, turns_leave, parallel_leave}

same_first : {X : Type 0} (x y : X) (xs ys : List X) → x ∷ xs ≡ y ∷ ys → x ≡ y
same_first x y xs ys e = cc

module _ (p : Setting) where
  -- an act
  abbrev Elsewhere : Scope → ℕ → ℕ → Act → Type 0
  Elsewhere S lo count a = IsActInside p S lo count a → ⊥

  pub places_narrow : (S : Scope) (lo count n more : ℕ) (acts : List Act) → lo ≤ n → n + more ≤ lo + count → LeavePlaces p S lo count acts → LeavePlaces p S n more acts
  places_narrow S lo count n more acts h k leave a i x =
      let from = x.from in
      let to = x.to in
      leave a i (record { number = x.number; from = omega (arith, h, from); to = omega (arith, k, to); is = x.is; more = x.more; turns = x.turns })

  pub places_inward : (f : Frame) (S : Scope) (lo count n more : ℕ) (acts : List Act) → lo ≤ n → n + more ≤ lo + count → LeavePlaces p S lo count acts → LeavePlaces p (f ∷ S) n more acts
  places_inward f S lo count n more acts h k leave a i x =
      let from = x.from in
      let to = x.to in
      leave a i (record { number = x.number; from = omega (arith, h, from); to = omega (arith, k, to); is = x.is; more = f.turn ∷ x.more; turns = x.turns ∙ append_assoc (turns_of S) (f.turn ∷ []) x.more })

  pub places_append : (S : Scope) (lo count : ℕ) (acts others : List Act) → LeavePlaces p S lo count acts → LeavePlaces p S lo count others → LeavePlaces p S lo count (acts ++ others)
  places_append S lo count acts others = each_append (Elsewhere S lo count) acts others

  pub places_none : (S : Scope) (lo count : ℕ) → LeavePlaces p S lo count []
  places_none S lo count = each_none (Elsewhere S lo count)

  module _ (one : IsOneToOne p.number) where
    -- an act of another statement
    other_statement : (S T : Scope) (n lo count : ℕ) (step : Step) (touches : List Touch) → (n < lo) ⊎ (lo + count ≤ n) → Elsewhere T lo count (act step (place_of p n S) touches)
    other_statement S T n lo count step touches apart x =
        let same : n ≡ x.number = one n x.number x.is in
        let from = x.from in
        let to = x.to in
        elim apart [ inl before ↦ omega (arith, same, before, from) | inr behind ↦ omega (arith, same, behind, to) ]

    pub places_of_one : (S T : Scope) (n lo count : ℕ) (step : Step) (touches : List Touch) → (n < lo) ⊎ (lo + count ≤ n) → LeavePlaces p T lo count (act step (place_of p n S) touches ∷ [])
    places_of_one S T n lo count step touches apart = each_more (Elsewhere T lo count) (act step (place_of p n S) touches) [] (other_statement S T n lo count step touches apart) (each_none (Elsewhere T lo count))

    -- acts of other statements
    pub places_of_others : (t : ProgramTree) (n more lo count : ℕ) (S : Scope) (acts : List Act) → (n + more ≤ lo) ⊎ (lo + count ≤ n) → Each (IsActIn p t n more) acts → LeavePlaces p S lo count acts
    places_of_others t n more lo count S acts apart are a i x =
        let k = are a i in
        let same : k.number ≡ x.number = one k.number x.number (sym k.is ∙ x.is) in
        let from = x.from in
        let to = x.to in
        let lower = k.from in
        let upper = k.to in
        elim apart [ inl before ↦ omega (arith, same, before, from, upper) | inr behind ↦ omega (arith, same, behind, to, lower) ]

    -- other iterations of a DO
    module _ (n : ℕ) (h : Head) (b : StmtTrees) (seen : List Seen) (m : Limits) (S : Scope) where
      abbrev Of : ℕ → Scope
      Of j = frame (entered_with p n h b seen m) j ∷ S

      abbrev Body : Frame → Store → Run
      Body f = run_all p b (n + 1) (f ∷ S)

      pub body_places : (i j : ℕ) (s : Store) (lo count : ℕ) → (i ≡ j → ⊥) → LeavePlaces p (Of i) lo count (Body (frame (entered_with p n h b seen m) j) s).acts
      body_places i j s lo count other a k x =
          let f = (frame (entered_with p n h b seen m) i).turn in
          let g = (frame (entered_with p n h b seen m) j).turn in
          let there = stands_in p b (n + 1) (Of j) s a k in
          let same : turns_of S ++ (f ∷ x.more) ≡ turns_of S ++ (g ∷ there.0) = sym (append_assoc (turns_of S) (f ∷ []) x.more) ∙ (sym x.turns ∙ (there.1 ∙ append_assoc (turns_of S) (g ∷ []) there.0)) in
          other (ap (λ (z : Turn). z.number) (same_first f g x.more there.0 (same_behind (turns_of S) (f ∷ x.more) (g ∷ there.0) same)))

      pub turns_places : (left k : ℕ) (s : Store) (i lo count : ℕ) → i < k → n < lo → LeavePlaces p (Of i) lo count (turns left k (entered_with p n h b seen m) S (place_of p n S) Body s).acts
      turns_places zero k s i lo count earlier inner = places_none (Of i) lo count
      turns_places (suc left) k s i lo count earlier inner =
          let e = entered_with p n h b seen m in
          then_each (Elsewhere (Of i) lo count) (Body (frame e k) s) (does (ended_turn left) (place_of p n S) (exit_when_none left e S) (turns left (k + 1) e S (place_of p n S) Body)) (body_places i k s lo count (λ same. omega (arith, earlier, same)))
          (λ u. does_each (Elsewhere (Of i) lo count) (ended_turn left) (place_of p n S) (exit_when_none left e S) (turns left (k + 1) e S (place_of p n S) Body) u
          (other_statement S (Of i) n lo count (ended_turn left) (exit_when_none left e S) (inl inner)) (λ v. turns_places left (k + 1) v i lo count (omega (arith, earlier)) inner))

      pub parallel_places : (left k : ℕ) (s : Store) (i lo count : ℕ) → i < k → LeavePlaces p (Of i) lo count (parallel_turns left k (entered_with p n h b seen m) Body s).acts
      parallel_places zero k s i lo count earlier = places_none (Of i) lo count
      parallel_places (suc left) k s i lo count earlier =
          let e = entered_with p n h b seen m in
          then_each (Elsewhere (Of i) lo count) (Body (frame e k) s) (parallel_turns left (k + 1) e Body) (body_places i k s lo count (λ same. omega (arith, earlier, same))) (λ u. parallel_places left (k + 1) u i lo count (omega (arith, earlier)))

-- acts that leave copies alone and are done elsewhere
abbrev pub LeaveAll : Setting → Scope → ℕ → ℕ → List Act → Type 0
LeaveAll p S lo count acts = LeaveCopies p S lo count acts × LeavePlaces p S lo count acts

module _ (p : Setting) where
  pub left_narrow : (S : Scope) (lo count n more : ℕ) (acts : List Act) → lo ≤ n → n + more ≤ lo + count → LeaveAll p S lo count acts → LeaveAll p S n more acts
  left_narrow S lo count n more acts h k leave = (leave_narrow p S lo count n more acts h k leave.0, places_narrow p S lo count n more acts h k leave.1)

  pub left_append : (S : Scope) (lo count : ℕ) (acts others : List Act) → LeaveAll p S lo count acts → LeaveAll p S lo count others → LeaveAll p S lo count (acts ++ others)
  left_append S lo count acts others h k = (leave_append p S lo count acts others h.0 k.0, places_append p S lo count acts others h.1 k.1)

  pub left_none : (S : Scope) (lo count : ℕ) → LeaveAll p S lo count []
  left_none S lo count = (leave_none p S lo count, places_none p S lo count)

  pub left_inward : (n : ℕ) (h : Head) (b : StmtTrees) (seen : List Seen) (m : Limits) (S : Scope) (j lo count from more : ℕ) (acts : List Act) → lo ≤ n → n < lo + count → lo ≤ from → from + more ≤ lo + count → LeaveAll p S lo count acts → LeaveAll p (frame (entered_with p n h b seen m) j ∷ S) from more acts
  left_inward n h b seen m S j lo count from more acts below above later earlier leave =
      (leave_inward p n h b seen m S j lo count from more acts below above leave.0, places_inward p (frame (entered_with p n h b seen m) j) S lo count from more acts later earlier leave.1)

  module _ (one : IsOneToOne p.number) where
    pub left_own : (S : Scope) (n lo count : ℕ) (step : Step) (touches : List Touch) → n < lo → Each (λ (t : Touch). IsOwn p S t.cell) touches → LeaveAll p S lo count (act step (place_of p n S) touches ∷ [])
    left_own S n lo count step touches before own = (own_leaves p S lo count step (place_of p n S) refl touches own, places_of_one p one S S n lo count step touches (inl before))

    pub left_run : (t : ProgramTree) (x : StmtTree) (n : ℕ) (S : Scope) (s : Store) (lo count : ℕ) → Stand t n (numbered x) → (n + statement_count x ≤ lo) ⊎ (lo + count ≤ n) → LeaveAll p S lo count (run p x n S s).acts
    left_run t x n S s lo count stand apart = (run_leaves p one x n S s lo count apart, places_of_others p one t n (statement_count x) lo count S (run p x n S s).acts apart (run_in p t x n S s stand))

    pub left_all : (t : ProgramTree) (xs : StmtTrees) (n : ℕ) (S : Scope) (s : Store) (lo count : ℕ) → Stand t n (all_numbered xs) → (n + statements_count xs ≤ lo) ⊎ (lo + count ≤ n) → LeaveAll p S lo count (run_all p xs n S s).acts
    left_all t xs n S s lo count stand apart = (all_leave p one xs n S s lo count apart, places_of_others p one t n (statements_count xs) lo count S (run_all p xs n S s).acts apart (all_in p t xs n S s stand))

    module _ (n : ℕ) (h : Head) (b : StmtTrees) (seen : List Seen) (m : Limits) (S : Scope) where
      abbrev In : ℕ → Scope
      In j = frame (entered_with p n h b seen m) j ∷ S

      abbrev Trip : Frame → Store → Run
      Trip f = run_all p b (n + 1) (f ∷ S)

      pub left_body : (i j : ℕ) (s : Store) (lo count : ℕ) → (i ≡ j → ⊥) → LeaveAll p (In i) lo count (Trip (frame (entered_with p n h b seen m) j) s).acts
      left_body i j s lo count other = (body_leaves p n h b seen m S i j s lo count other, body_places p one n h b seen m S i j s lo count other)

      pub left_end : (i lo count : ℕ) (step : Step) (touches : List Touch) → n < lo → Each (λ (t : Touch). IsOwn p S t.cell) touches → LeaveAll p (In i) lo count (act step (place_of p n S) touches ∷ [])
      left_end i lo count step touches before own = (end_leaves p n h b seen m S i lo count step (place_of p n S) refl touches own, places_of_one p one S (In i) n lo count step touches (inl before))

      pub left_turns : (left k : ℕ) (s : Store) (i lo count : ℕ) → i < k → n < lo → LeaveAll p (In i) lo count (turns left k (entered_with p n h b seen m) S (place_of p n S) Trip s).acts
      left_turns left k s i lo count earlier before = (turns_leave p n h b seen m S (place_of p n S) refl left k s i lo count earlier, turns_places p one n h b seen m S left k s i lo count earlier before)

      pub left_parallel : (left k : ℕ) (s : Store) (i lo count : ℕ) → i < k → LeaveAll p (In i) lo count (parallel_turns left k (entered_with p n h b seen m) Trip s).acts
      left_parallel left k s i lo count earlier = (parallel_leave p n h b seen m S left k s i lo count earlier, parallel_places p one n h b seen m S left k s i lo count earlier)

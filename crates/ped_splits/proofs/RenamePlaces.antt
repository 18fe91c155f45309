-- Acts of a run stand in the DO loops that their places tell; and the copies of the iterations there.
use Rattle.std.proofs.Common.{◌≡◌, ◌⊎◌, ℕ, ◌+◌, ◌<◌, ◌≤◌, List, [], ◌∷◌, ◌++◌, Bool, true, false, ◌&&◌, inl, inr, refl, sym, ap, ◌∙◌, arith, if◌then◌else◌}
use Rattle.ped_base.proofs.NameEquality.{same_itself}
use Rattle.ped_base.specs.Lists.{is_among, is_same_text}
use Rattle.ped_tree.proofs.NameLaws.Collected.{among_append}
use Rattle.ped_tree.specs.NamesIn.{all_loop_variables}
use Rattle.ped_tree.specs.Numbering.{all_numbered, statement_with, statements_count}
use Rattle.ped_tree.specs.Tree.{Do, Head, ProgramTree, StmtTrees}
use Rattle.ped_rules.specs.ped_loop_runs.proofs.PastingLaws.ActNumbers.{all_in}
use Rattle.ped_rules.specs.ped_steps.proofs.RunLaws.RunPlaces.{all_each}
use Rattle.ped_rules.specs.ped_steps.proofs.RunLaws.SparedVariables.{IsUnassigned, variables_unassigned}
use Rattle.ped_rules.specs.ped_symbols.specs.Kinds.{kind_in}
use Rattle.ped_rules.specs.ped_symbols.specs.NameRefusals.{IsValid}
use Rattle.ped_rules.specs.ped_laws.proofs.ActLaws.Lists.{in_left, in_parts, in_right}
use Rattle.ped_rules.specs.ped_laws.proofs.ActLaws.Renamings.{or_right}
use Rattle.ped_rules.specs.ped_laws.proofs.FlowRunLaws.Standing.{inner_stands}
use Rattle.ped_rules.specs.ped_laws.proofs.RunLaws.Turning.{once_among}
use Rattle.ped_rules.specs.ped_laws.specs.Acts.Orders.{IsIn}
use Rattle.ped_rules.specs.ped_eval.specs.Evaluation.{Seen}
use Rattle.ped_rules.specs.ped_eval.specs.Loops.{Limits, entered_with, frame, inner_variables}
use Rattle.ped_rules.specs.ped_eval.specs.Outcomes.{setting_of}
use Rattle.ped_rules.specs.ped_eval.specs.Runs.{run_all}
use Rattle.ped_rules.specs.ped_eval.specs.Scopes.{Frame, Scope, Setting, cell_of, turns_of}
use Rattle.ped_rules.specs.ped_flow.specs.Questions.{LoopOf}
use Rattle.ped_rules.specs.ped_store.specs.Acts.{Act, Turn, iterations_of}
use Rattle.ped_rules.specs.ped_store.specs.Cells.{Private}
use Rattle.ped_rules.specs.ped_store.specs.Stores.{Store}
use Rattle.ped_splits.proofs.RenameInside.{loop_stands}
use Rattle.ped_splits.proofs.RenameLost.{is_lost, loses, of_last}
use Rattle.ped_splits.proofs.RenameRound.{iterations_more, last_of}

-- the act is one of a statement in the body of the DO that the iteration is of
pub record StandsIn (t : ProgramTree) (a : Act) (i : Turn) : Type 0 where
  pub loop : LoopOf t i.statement
  pub from : i.statement < a.place.statement
  pub to : a.place.statement ≤ i.statement + statements_count loop.body

module _ (t : ProgramTree) (valid : IsValid t) (start : Store) where
  abbrev p : Setting
  p = setting_of t

  abbrev Inside : Scope → Act → Type 0
  Inside S a = (i : Turn) → IsIn i a.place.turns → IsIn i (turns_of S) ⊎ StandsIn t a i

  outward : (n : ℕ) (h : Head) (body : StmtTrees) (seen : List Seen) (l : Limits) (k : ℕ) (S : Scope) (u : Store) (a : Act) → IsUnassigned t (kind_in t) n h body
      → IsIn a (run_all p body (n + 1) (frame (entered_with p n h body seen l) k ∷ S) u).acts → Inside (frame (entered_with p n h body seen l) k ∷ S) a → Inside S a
  outward n h body seen l k S u a q there inside i at = elim (inside i at) [
    | inl round ↦ elim (in_parts i (turns_of S) (f.turn ∷ []) round) [
      | inl z ↦ inl z
      | inr z ↦ elim z [ inl e ↦ inr (stands e) | inr w ↦ absurd w ]
    ]
    | inr z ↦ inr z
  ]
    where
      f : Frame
      f = frame (entered_with p n h body seen l) k

      stands : i ≡ f.turn → StandsIn t a i
      stands e =
          let number : i.statement ≡ n = ap (λ (z : Turn). z.statement) e in
          let it : LoopOf t n = record { head = h; body = body; is = q.0 } in
          let known = all_in p t body (n + 1) (f ∷ S) u (inner_stands t (Do h body) (all_numbered body) n (loop_stands t n it)) a there in
          let is = known.is in
          let lo = known.from in
          let hi = known.to in
          record { loop = record { head = h; body = body; is = ap (λ (j : ℕ). statement_with j t) number ∙ q.0 }; from = omega (arith, number, is, lo); to = omega (arith, number, is, hi) }

  pub stands_in : (a : Act) → IsIn a (run_all (setting_of t) t.body 1 [] start).acts → (i : Turn) → IsIn i a.place.turns → StandsIn t a i
  stands_in a there i at = elim (all_each p (IsUnassigned t (kind_in t)) Inside (λ S n step touches z here. inl here) outward t.body 1 [] start (variables_unassigned t valid) a there i at) [
    | inl z ↦ absurd z
    | inr z ↦ z
  ]

-- the copies of the iterations of a PARALLEL DO
module _ (t : ProgramTree) (y : List ℕ) (m n : ℕ) (h : Head) (b : StmtTrees) (parallel : h.parallel ≡ true) (among : is_among y (all_loop_variables b) ≡ true) where
  pub copy_lost : (S : Scope) (seen : List Seen) (l : Limits) (k : ℕ) → is_lost t y m (cell_of (frame (entered_with (setting_of t) n h b seen l) k ∷ S) y) ≡ loses t y m n (statement_with n t)
  copy_lost S seen l k =
      ap (is_lost t y m) private_is
      ∙ (λ i. same_itself y i && of_last (λ j. loses t y m j (statement_with j t)) (iterations_more (turns_of S) f.turn i))
      ∙ last_of (λ j. loses t y m j (statement_with j t)) (iterations_of (turns_of S)) (record { statement = n; number = k })
    where
      f : Frame
      f = frame (entered_with (setting_of t) n h b seen l) k

      has_copy : is_among y f.private ≡ true
      has_copy =
          ap (λ (c : Bool). is_among y (if c then h.variable ∷ (h.private ++ inner_variables c b) else h.private)) parallel
          ∙ or_right (is_same_text y h.variable) (is_among y (h.private ++ inner_variables true b))
          (among_append y h.private (inner_variables true b) ∙ or_right (is_among y h.private) (is_among y (inner_variables true b)) (once_among y (all_loop_variables b) ∙ among))

      private_is : cell_of (f ∷ S) y ≡ Private y (iterations_of (turns_of (f ∷ S)))
      private_is = ap (λ (c : Bool). if c then Private y (iterations_of (turns_of (f ∷ S))) else cell_of S y) has_copy

-- a lost copy belongs to an iteration there
pub lost_turn : (t : ProgramTree) (y : List ℕ) (m : ℕ) (S : Scope) (w : List ℕ) → is_lost t y m (cell_of S w) ≡ true → (i : Turn) × IsIn i (turns_of S) × (loses t y m i.statement (statement_with i.statement t) ≡ true)
lost_turn t y m [] w h = absurd cc
lost_turn t y m (f ∷ S) w h = go (is_among w f.private) (lost_turn t y m S w) h
  where
    go : (b : Bool) → (is_lost t y m (cell_of S w) ≡ true → (i : Turn) × IsIn i (turns_of S) × (loses t y m i.statement (statement_with i.statement t) ≡ true)) → is_lost t y m (if b then Private w (iterations_of (turns_of (f ∷ S))) else cell_of S w) ≡ true → (i : Turn) × IsIn i (turns_of (f ∷ S)) × (loses t y m i.statement (statement_with i.statement t) ≡ true)
    go true more k = (f.turn, in_right f.turn (turns_of S) (f.turn ∷ []) (inl refl), last k)
      where
        second : (a b : Bool) → a && b ≡ true → b ≡ true
        second true b e = e
        second false b e = absurd cc

        last : is_lost t y m (Private w (iterations_of (turns_of (f ∷ S)))) ≡ true → loses t y m f.turn.statement (statement_with f.turn.statement t) ≡ true
        last e =
            sym (last_of (λ j. loses t y m j (statement_with j t)) (iterations_of (turns_of S)) (record { statement = f.turn.statement; number = f.turn.number }))
            ∙ ap (of_last (λ j. loses t y m j (statement_with j t))) (sym (iterations_more (turns_of S) f.turn))
            ∙ second (is_same_text y w) (of_last (λ j. loses t y m j (statement_with j t)) (iterations_of (turns_of (f ∷ S)))) e
    go false more k = let r = more k in (r.0, in_left r.0 (turns_of S) (f.turn ∷ []) r.1, r.2)

-- In iterations of an outermost DO no act writes a scalar that keeps its value in it.
use Rattle.std.proofs.Common.{Bool, List, Option, Some, [], ap, false, sym, true, ℕ, ◌++◌, ◌+◌, ◌||◌, ◌∙◌, ◌∷◌, ◌≡◌}
use Rattle.std.proofs.lemmas.List.Folds.{list_any-append}
use Rattle.ped_base.proofs.NameEquality.{same_itself}
use Rattle.ped_base.specs.Lists.{is_among, is_same_text}
use Rattle.ped_rules.proofs.NestLaws.OnlyBodies.{never}
use Rattle.ped_loop_runs.specs.ped_steps.proofs.RunLaws.AccessTouches.{touch_of, write_there, accesses_from}
use Rattle.ped_loop_runs.specs.ped_steps.proofs.RunLaws.RunPlaces.{all_each, stands_in}
use Rattle.ped_loop_runs.specs.ped_steps.proofs.RunLaws.SparedVariables.{IsUnassigned, variables_unassigned}
use Rattle.ped_affine.specs.Assigned.{assigned_in, assigned_in_all}
use Rattle.ped_loop_runs.specs.ped_flow.specs.PlainBounds.{IsFixed, assigned_by, nest_round, outermost_or}
use Rattle.ped_loop_runs.specs.ped_laws.proofs.ActLaws.Conflicting.{access_place}
use Rattle.ped_loop_runs.specs.ped_laws.proofs.FlowRunLaws.Writing.{all_unassigned}
use Rattle.ped_loop_runs.specs.ped_laws.specs.Acts.Orders.{IsIn}
use Rattle.ped_loop_runs.specs.ped_laws.specs.Acts.Sets.{written}
use Rattle.ped_loop_runs.specs.ped_laws.specs.Runs.Replaying.{act}
use Rattle.ped_loop_runs.specs.ped_eval.specs.Evaluation.{Seen}
use Rattle.ped_loop_runs.specs.ped_eval.specs.Loops.{Limits, entered_with, frame}
use Rattle.ped_loop_runs.specs.ped_eval.specs.Outcomes.{setting_of}
use Rattle.ped_loop_runs.specs.ped_eval.specs.Runs.{run_all}
use Rattle.ped_loop_runs.specs.ped_eval.specs.Scopes.{Scope, Setting, place_of, turns_of}
use Rattle.ped_loop_runs.specs.ped_store.specs.Acts.{Act, Place, Step, Touch, Turn}
use Rattle.ped_loop_runs.specs.ped_store.specs.Cells.{Scalar}
use Rattle.ped_loop_runs.specs.ped_store.specs.Races.{Access, accesses, is_write}
use Rattle.ped_loop_runs.specs.ped_store.specs.Stores.{Store}
use Rattle.ped_loop_runs.specs.ped_symbols.specs.Kinds.{kind_in}
use Rattle.ped_loop_runs.specs.ped_symbols.specs.NameRefusals.{IsValid}
use Rattle.ped_tree.specs.Numbering.{statement_with}
use Rattle.ped_tree.specs.Tree.{Do, Head, ProgramTree, StmtTree, StmtTrees}

none_longer : (ts : List Turn) (u : Turn) (more : List Turn) → ts ≡ ts ++ u ∷ more → ⊥
none_longer [] u more e = absurd cc
none_longer (t ∷ ts) u more e = none_longer ts u more (let rest : ts ≡ ts ++ u ∷ more = cc in rest)

same_turn : (ts : List Turn) (a b : Turn) (more rest : List Turn) → (ts ++ a ∷ []) ++ more ≡ ts ++ b ∷ rest → a ≡ b
same_turn [] a b more rest e = let same : a ≡ b = cc in same
same_turn (t ∷ ts) a b more rest e = same_turn ts a b more rest (let less : (ts ++ a ∷ []) ++ more ≡ ts ++ b ∷ rest = cc in less)

-- a name that isn't among those of a DO isn't among those of its body
behind_names : (y v : List ℕ) (xs ys : List (List ℕ)) → is_among y (v ∷ (xs ++ ys)) ≡ false → is_among y ys ≡ false
behind_names y v xs ys h = false_either (is_among y xs) (is_among y ys) (sym (list_any-append (is_same_text y) xs ys) ∙ false_either (is_same_text y v) (is_among y (xs ++ ys)) h)
  where
    false_either : (a b : Bool) → a || b ≡ false → b ≡ false
    false_either true b e = absurd cc
    false_either false b e = e

module _ (t : ProgramTree) (valid : IsValid t) (l : ℕ) (y : List ℕ) (keeps : IsFixed (setting_of t).constants t l y) (start : Store) where
  abbrev p : Setting
  p = setting_of t

  abbrev outermost : ℕ
  outermost = outermost_or l (nest_round t l)

  -- an act in an iteration of it doesn't write the scalar
  abbrev Leaves : Scope → Act → Type 0
  Leaves around a = (r : Turn) (more : List Turn) → a.place.turns ≡ turns_of around ++ r ∷ more → r.statement ≡ outermost → (v : Touch) → IsIn v a.touches → is_write v.manner ≡ true → v.cell ≡ Scalar y → ⊥

  at_loop : (around : Scope) (n : ℕ) (step : Step) (touches : List Touch) → Leaves around (act step (place_of p n around) touches)
  at_loop around n step touches r more is statement v i write cell = none_longer (turns_of around) r more is

  in_iteration : (n : ℕ) (h : Head) (body : StmtTrees) (seen : List Seen) (m : Limits) (k : ℕ) (around : Scope) (u : Store) (a : Act) → IsUnassigned t (kind_in t) n h body
      → IsIn a (run_all p body (n + 1) (frame (entered_with p n h body seen m) k ∷ around) u).acts → Leaves (frame (entered_with p n h body seen m) k ∷ around) a → Leaves around a
  in_iteration n h body seen m k around u a stands i inside r more is statement v j write cell =
      let its = stands_in p body (n + 1) (frame (entered_with p n h body seen m) k ∷ around) u a i in
      let first : (frame (entered_with p n h body seen m) k).turn ≡ r = same_turn (turns_of around) (frame (entered_with p n h body seen m) k).turn r its.0 more (sym its.1 ∙ is) in
      let number : n ≡ outermost = ap (λ (z : Turn). z.statement) first ∙ statement in
      let loop : statement_with outermost t ≡ Some (Do h body) = ap (λ (z : ℕ). statement_with z t) (sym number) ∙ stands.0 in
      let none : is_among y (assigned_in (Do h body)) ≡ false = ap (λ (o : Option StmtTree). is_among y (assigned_by o)) (sym loop) ∙ keeps.kept in
      never (written (run_all p body (n + 1) (frame (entered_with p n h body seen m) k ∷ around) u).acts (Scalar y))
      (ap (written (run_all p body (n + 1) (frame (entered_with p n h body seen m) k ∷ around) u).acts) (sym cell) ∙ write_there (run_all p body (n + 1) (frame (entered_with p n h body seen m) k ∷ around) u).acts a v i j write)
      (all_unassigned p y body (n + 1) (frame (entered_with p n h body seen m) k ∷ around) u (Scalar y) (behind_names y h.variable h.private (assigned_in_all body) none) (same_itself y))

  pub fixed_unwritten_there : (b : Access) → IsIn b (accesses (run_all p t.body 1 [] start).acts) → (r : Turn) (more : List Turn) → b.place.turns ≡ r ∷ more → r.statement ≡ outermost → b.writes ≡ true → b.cell ≡ Scalar y → ⊥
  fixed_unwritten_there b i r more is statement write cell =
      let a = accesses_from (run_all p t.body 1 [] start).acts b i in
      let v = touch_of a.0 a.0.touches b a.2 in
      all_each p (IsUnassigned t (kind_in t)) Leaves at_loop in_iteration t.body 1 [] start (variables_unassigned t valid) a.0 a.1 r more
      (ap (λ (q : Place). q.turns) (sym (access_place a.0 b a.2)) ∙ is) statement v.0 v.1 (ap (λ (x : Access). x.writes) (sym v.3) ∙ write) (ap (λ (x : Access). x.cell) (sym v.3) ∙ cell)

-- What copies in the old DO are called in the new ones: a copy further inside belongs to the unit of the DO that it is of, and one of the DO itself to the units that refer to its name.
use Rattle.std.proofs.Common.{◌≡◌, ℕ, ◌⊎◌, ◌==◌, List, [], ◌∷◌, ◌++◌, length, filter, Bool, true, false, Option, Some, None, inl, inr, if◌then◌else◌, eqb-true, refl, sym, ap, ◌∙◌}
use Rattle.std.specs.List.{range_with_len}
use Rattle.std.specs.Option.{unwrap_or}
use Rattle.std.specs.Prelude.{slice_index_or}
use Rattle.ped_tree.specs.Tree.{Do, ProgramTree}
use Rattle.ped_rules.specs.ped_bodies.specs.Moving.{behind_front, in_loop, with_rest}
use Rattle.ped_rules.specs.ped_flow.specs.Questions.{LoopOf}
use Rattle.ped_rules.specs.ped_laws.specs.Runs.Replaying.{finish_of, goes_on}
use Rattle.ped_rules.specs.ped_eval.specs.Outcomes.{setting_of}
use Rattle.ped_rules.specs.ped_eval.specs.Runs.{run}
use Rattle.ped_rules.specs.ped_eval.specs.Scopes.{Scope, turns_of}
use Rattle.ped_rules.specs.ped_loop_runs.specs.Numbers.{counted_by}
use Rattle.ped_rules.specs.ped_store.specs.Acts.{iterations_of}
use Rattle.ped_rules.specs.ped_store.specs.Cells.{Cell, Iteration, Scalar, Private, Element, In, Out}
use Rattle.ped_rules.specs.ped_store.specs.Stores.{Store}
use Rattle.ped_rules.specs.ped_loop_runs.proofs.LoopLaws.OneForOneCells.{IsOfLoop}
use Rattle.ped_rules.specs.ped_bodies.proofs.BodyLaws.NamesApart.{behind_is}
use Rattle.ped_splits.proofs.SplitFacts.{IsSplit}
use Rattle.ped_splits.proofs.SplitNumbers.{split_numbers}
use Rattle.ped_splits.proofs.SplitRuns as runs
use Rattle.ped_splits.specs.Units.{units, refers, unit_of}

module _ (t : ProgramTree) (s : ℕ) (l : LoopOf t s) (found : List (List ℕ)) (x : IsSplit t s l found) (scope : Scope) (v : Store) (goes : finish_of (run (setting_of t) (Do l.head l.body) s scope v).ending ≡ goes_on) where
  -- a unit that refers to the name, the first one, where any does
  abbrev pub unit_of_name : List ℕ → ℕ
  unit_of_name y = slice_index_or (filter (refers t s l.body y) (range_with_len 0 (length (units l.body)))) 0 0

  -- the unit of a statement
  abbrev pub unit_of_statement : ℕ → ℕ
  unit_of_statement n = unwrap_or (unit_of s l.body n) 0

  -- the number of the new DO in which the unit stands
  abbrev pub number_of : ℕ → ℕ
  number_of k = counted_by (split_numbers t s l.body found) (runs.loop_at t s l found x scope v goes k)

  abbrev pub in_its_loop : List ℕ → List Iteration → List Iteration
  in_its_loop y [] = []
  in_its_loop y (i ∷ []) = in_loop s (number_of (unit_of_name y)) (i ∷ [])
  in_its_loop y (i ∷ (j ∷ more)) = in_loop s (number_of (unit_of_statement j.statement)) (i ∷ (j ∷ more))

  abbrev pub split_names : Cell → Cell
  split_names (Scalar y) = Scalar y
  split_names (Private y path) = Private y (with_rest (iterations_of (turns_of scope)) (in_its_loop y) path (behind_front (iterations_of (turns_of scope)) path))
  split_names (Element y js) = Element y js
  split_names In = In
  split_names Out = Out

  abbrev front : List Iteration
  front = iterations_of (turns_of scope)

  in_loop_or_not : (n : ℕ) (i : Iteration) (more : List Iteration) → (in_loop s n (i ∷ more) ≡ i ∷ more) ⊎ (i.statement ≡ s)
  in_loop_or_not n i more = by (i.statement == s) refl
    where
      by : (b : Bool) → (i.statement == s) ≡ b → (in_loop s n (i ∷ more) ≡ i ∷ more) ⊎ (i.statement ≡ s)
      by true e = inr (eqb-true i.statement s e)
      by false e = inl (ap (λ (b : Bool). if b then record { statement = n; number = i.number } ∷ more else i ∷ more) e)

  its_loop_or_not : (y : List ℕ) (i : Iteration) (more : List Iteration) → (in_its_loop y (i ∷ more) ≡ i ∷ more) ⊎ (i.statement ≡ s)
  its_loop_or_not y i [] = in_loop_or_not (number_of (unit_of_name y)) i []
  its_loop_or_not y i (j ∷ more) = in_loop_or_not (number_of (unit_of_statement j.statement)) i (j ∷ more)

  -- a cell keeps its name, or is a copy inside the DO
  pub names_or_moves : (c : Cell) → (split_names c ≡ c) ⊎ IsOfLoop (setting_of t) scope s c
  names_or_moves (Scalar y) = inl refl
  names_or_moves (Element y js) = inl refl
  names_or_moves In = inl refl
  names_or_moves Out = inl refl
  names_or_moves (Private y path) = go (behind_front front path) refl
    where
      renamed : (o : Option (List Iteration)) → behind_front front path ≡ o → split_names (Private y path) ≡ Private y (with_rest front (in_its_loop y) path o)
      renamed o e = ap (λ (r : Option (List Iteration)). Private y (with_rest front (in_its_loop y) path r)) e

      go : (o : Option (List Iteration)) → behind_front front path ≡ o → (split_names (Private y path) ≡ Private y path) ⊎ IsOfLoop (setting_of t) scope s (Private y path)
      go None e = inl (renamed None e)
      go (Some []) e = inl (renamed (Some []) e ∙ ap (Private y) (sym (behind_is front path [] e)))
      go (Some (i ∷ more)) e = elim (its_loop_or_not y i more) [
        | inl stays ↦ inl (renamed (Some (i ∷ more)) e ∙ ap (λ (r : List Iteration). Private y (front ++ r)) stays ∙ ap (Private y) (sym (behind_is front path (i ∷ more) e)))
        | inr same ↦ inr (record { name = y; number = i.number; rest = more; is = ap (Private y) (behind_is front path (i ∷ more) e ∙ (λ k. front ++ record { statement = same k; number = i.number } ∷ more)) })
      ]

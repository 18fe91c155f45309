-- Copies inside a DO, and their names where its iterations are done in strips.
use Rattle.std.proofs.Common.{Bool, List, None, Option, Some, [], ap, eqb, eqb-true, false, if◌then◌else◌, inl, inr, refl, sym, true, ℕ, ◌%◌, ◌++◌, ◌+◌, ◌-◌, ◌/◌, ◌∙◌, ◌∷◌, ◌≡◌, ◌≤◌, ◌⊎◌}
use Rattle.ped_rules.specs.ped_loop_runs.proofs.LoopLaws.OneForOneCells.{IsOfLoop, lies}
use Rattle.ped_rules.specs.ped_loop_runs.proofs.PastingLaws.LeftCopies.{IsOwn}
use Rattle.ped_rules.specs.ped_bodies.proofs.BodyLaws.MovedCells.{moved_is, place_stays}
use Rattle.ped_rules.specs.ped_bodies.proofs.BodyLaws.NamesApart.{behind_is, stripped_apart}
use Rattle.ped_rules.specs.ped_bodies.specs.Moving.{behind_front, in_strips, is_cell_among, moved_behind, with_rest}
use Rattle.ped_rules.specs.ped_eval.specs.Scopes.{Scope, Setting, cell_of, turns_of}
use Rattle.ped_rules.specs.ped_store.specs.Acts.{iterations_of}
use Rattle.ped_rules.specs.ped_store.specs.Cells.{Cell, Element, In, Iteration, Out, Private, Scalar}
use Rattle.ped_rules.specs.ped_loop_runs.proofs.LoopLaws.ApartTurns.{number_itself}

module _ (p : Setting) (scope : Scope) (l inner K : ℕ) where
  abbrev front : List Iteration
  front = iterations_of (turns_of scope)

  abbrev split : List Iteration → List Iteration
  split = in_strips (p.number l) inner K

  abbrev at : ℕ → Iteration
  at k = record { statement = p.number l; number = k }

  abbrev pub strip_names : Cell → Cell
  strip_names = moved_behind (iterations_of (turns_of scope)) (in_strips (p.number l) inner K)

  pub strips_idle : (variables : List (List ℕ)) (c : Cell) → is_cell_among variables (strip_names c) ≡ is_cell_among variables c
  strips_idle variables (Scalar x) = refl
  strips_idle variables (Private x path) = refl
  strips_idle variables (Element x js) = refl
  strips_idle variables In = refl
  strips_idle variables Out = refl

  pub strips_stay : (x : List ℕ) → strip_names (cell_of scope x) ≡ cell_of scope x
  strips_stay x = place_stays split refl scope x

  abbrev in_two : Iteration → List Iteration → List Iteration
  in_two i more = at ((i.number - 1) / K + 1) ∷ (record { statement = inner; number = (i.number - 1) % K + 1 } ∷ more)

  split_first : (i : Iteration) (more : List Iteration) (b : Bool) → eqb i.statement (p.number l) ≡ b → split (i ∷ more) ≡ (if b then in_two i more else i ∷ more)
  split_first i more b e = ap (λ (r : Bool). if r then in_two i more else i ∷ more) e

  -- a cell keeps its name, or is a copy inside the DO
  pub strips_or_stays : (c : Cell) → (strip_names c ≡ c) ⊎ IsOfLoop p scope l c
  strips_or_stays (Scalar x) = inl refl
  strips_or_stays (Element x js) = inl refl
  strips_or_stays In = inl refl
  strips_or_stays Out = inl refl
  strips_or_stays (Private x path) = go (behind_front front path) refl
    where
      renamed : (o : Option (List Iteration)) → behind_front front path ≡ o → strip_names (Private x path) ≡ Private x (with_rest front split path o)
      renamed o e = ap (λ (r : Option (List Iteration)). Private x (with_rest front split path r)) e

      by : (i : Iteration) (more : List Iteration) → behind_front front path ≡ Some (i ∷ more) → (b : Bool) → eqb i.statement (p.number l) ≡ b → (strip_names (Private x path) ≡ Private x path) ⊎ IsOfLoop p scope l (Private x path)
      by i more e true q =
          let statement : i.statement ≡ p.number l = eqb-true i.statement (p.number l) q in
          inr (record { name = x; number = i.number; rest = more; is = ap (Private x) (behind_is front path (i ∷ more) e ∙ (λ k. front ++ record { statement = statement k; number = i.number } ∷ more)) })
      by i more e false q = inl (renamed (Some (i ∷ more)) e ∙ ap (λ (r : List Iteration). Private x (front ++ r)) (split_first i more false q) ∙ ap (Private x) (sym (behind_is front path (i ∷ more) e)))

      go : (o : Option (List Iteration)) → behind_front front path ≡ o → (strip_names (Private x path) ≡ Private x path) ⊎ IsOfLoop p scope l (Private x path)
      go None e = inl (renamed None e)
      go (Some []) e = inl (renamed (Some []) e ∙ ap (Private x) (sym (behind_is front path [] e)))
      go (Some (i ∷ more)) e = by i more e (eqb i.statement (p.number l)) refl

  -- and is called as one
  pub strips_inside : (c : Cell) → IsOfLoop p scope l c → IsOfLoop p scope l (strip_names c)
  strips_inside c k = record {
    name = k.name;
    number = (k.number - 1) / K + 1;
    rest = record { statement = inner; number = (k.number - 1) % K + 1 } ∷ k.rest;
    is = ap strip_names k.is ∙ moved_is split front (at k.number ∷ k.rest) k.name ∙ ap (λ (r : List Iteration). Private k.name (front ++ r)) (split_first (at k.number) k.rest true (number_itself (p.number l)));
  }

  -- what names stand for at the place, and copies of so many iterations
  module _ (n : ℕ) where
    abbrev pub StripReached : Cell → Type 0
    StripReached c = IsOwn p scope c ⊎ ((k : ℕ) × (1 ≤ k) × (k ≤ n) × (x : List ℕ) × (rest : List Iteration) × (c ≡ Private x (iterations_of (turns_of scope) ++ record { statement = p.number l; number = k } ∷ rest)))

    -- no two of them get one name
    pub strips_apart : (c d : Cell) → StripReached c → StripReached d → strip_names c ≡ strip_names d → c ≡ d
    strips_apart c d u v e = stripped_apart front (p.number l) inner K n c d (lies p scope l n c u) (lies p scope l n d v) e

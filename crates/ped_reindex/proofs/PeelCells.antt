-- Copies inside a DO of which an iteration is peeled off, and what they are called behind that.
use Rattle.ped_rules.specs.ped_loop_runs.proofs.LoopLaws.ApartTurns.{iterations_append, number_itself}
use Rattle.ped_rules.specs.ped_loop_runs.proofs.PastingLaws.LeftCopies.{IsOwn, all_reach}
use Rattle.ped_rules.specs.ped_loop_runs.specs.Executions.{IsCopyInside}
use Rattle.ped_rules.specs.ped_bodies.proofs.BodyLaws.MovedCells.{behind_itself, moved_is, no_copies}
use Rattle.ped_rules.specs.ped_bodies.proofs.BodyLaws.NamesApart.{behind_is, peeled_apart}
use Rattle.ped_rules.specs.ped_bodies.specs.Moving.{IsInsideTrips, LiesBehind, behind_front, peeled, with_rest}
use Rattle.ped_rules.specs.ped_steps.specs.Runs.Renumbering.{renumbered_iteration}
use Rattle.ped_rules.specs.ped_laws.specs.Acts.Orders.{IsIn}
use Rattle.ped_rules.specs.ped_eval.specs.Outcomes.{setting_of}
use Rattle.ped_rules.specs.ped_eval.specs.Runs.{run_all}
use Rattle.ped_rules.specs.ped_eval.specs.Scopes.{Frame, Scope, Setting, turns_of}
use Rattle.ped_rules.specs.ped_store.specs.Acts.{Act, Touch, iterations_of}
use Rattle.ped_rules.specs.ped_store.specs.Cells.{Cell, Element, In, Iteration, Out, Private, Scalar}
use Rattle.ped_rules.specs.ped_store.specs.Stores.{Store}
use Rattle.ped_reindex.proofs.PeelNumbers.{copied}
use Rattle.ped_reindex.proofs.PeelRuns.{peel_names}
use Rattle.ped_tree.specs.Numbering.{statements_count}
use Rattle.ped_tree.specs.Tree.{ProgramTree, StmtTrees}
use Rattle.std.proofs.Common.{Bool, List, None, Option, Some, [], ap, append_assoc, arith, eqb-true, false, if◌then◌else◌, inl, inr, map, refl, subst, sym, true, ℕ, ◌++◌, ◌+◌, ◌-◌, ◌<◌, ◌==◌, ◌∙◌, ◌∷◌, ◌≡◌, ◌≤◌, ◌⊎◌}
use Rattle.ped_rules.specs.ped_loop_runs.proofs.LoopLaws.OneForOneCells.{own_lies}

copied_apart : (all : ℕ) (i j : ℕ) → copied all i ≡ copied all j → i ≡ j
copied_apart all i j e = omega (arith, e)

-- statements count under their own numbers
pub own_numbers : (t : ProgramTree) (k : ℕ) → (setting_of t).number k ≡ k
own_numbers t k = refl

module _ (o : Setting) (plain : (k : ℕ) → o.number k ≡ k) (scope : Scope) (s n k0 all size : ℕ) (room : s ≤ all) where
  abbrev path_there : List Iteration
  path_there = iterations_of (turns_of scope)

  abbrev at_trip : ℕ → Iteration
  at_trip k = record { statement = s; number = k }

  abbrev names : Cell → Cell
  names = peel_names scope s k0 all

  abbrev off : List Iteration → List Iteration
  off = peeled s k0 (copied all)

  -- a copy that belongs to an iteration of the DO, or to one further inside
  pub record IsOfIt (c : Cell) : Type 0 where
    pub name : List ℕ
    pub number : ℕ
    pub rest : List Iteration
    pub is : c ≡ Private name (iterations_of (turns_of scope) ++ (record { statement = s; number = number }) ∷ rest)

  pub of_it_inside : (count : ℕ) (c : Cell) → 0 < count → IsOfIt c → IsCopyInside o scope s count c
  of_it_inside count c some k = record {
    name = k.name;
    statement = s;
    from = omega arith;
    to = omega (arith, some);
    number = k.number;
    rest = k.rest;
    is = k.is ∙ (λ i. Private k.name (iterations_of (turns_of scope) ++ record { statement = sym (plain s) i; number = k.number } ∷ k.rest));
  }

  -- a copy of an iteration that no statement of the program has
  pub record IsFarCopy (c : Cell) : Type 0 where
    pub name : List ℕ
    pub iteration : Iteration
    pub rest : List Iteration
    pub is : c ≡ Private name (iterations_of (turns_of scope) ++ iteration ∷ rest)
    pub far : all < iteration.statement

  -- a copy that a body touches: of an iteration further inside
  pub record IsDeep (c : Cell) : Type 0 where
    pub name : List ℕ
    pub trip : ℕ
    pub from : 1 ≤ trip
    pub to : trip ≤ n
    pub next : Iteration
    pub rest : List Iteration
    pub is : c ≡ Private name (iterations_of (turns_of scope) ++ (record { statement = s; number = trip }) ∷ (next ∷ rest))

  abbrev pub IsReached : Cell → Type 0
  IsReached c = IsOwn o scope c ⊎ IsDeep c

  off_other : (i : Iteration) (more : List Iteration) → (i.statement == s) ≡ false → off (i ∷ more) ≡ i ∷ more
  off_other i more e = ap (λ (b : Bool). if b then if i.number == k0 then map (renumbered_iteration (copied all)) more else record { statement = s; number = if k0 == 1 then i.number - 1 else i.number } ∷ more else i ∷ more) e

  off_it : (k : ℕ) (more : List Iteration) → off (at_trip k ∷ more) ≡ (if k == k0 then map (renumbered_iteration (copied all)) more else at_trip (if k0 == 1 then k - 1 else k) ∷ more)
  off_it k more = ap (λ (b : Bool). if b then if k == k0 then map (renumbered_iteration (copied all)) more else at_trip (if k0 == 1 then k - 1 else k) ∷ more else at_trip k ∷ more) (number_itself s)

  -- a cell keeps its name, or is such a copy
  pub stays_or_moves : (c : Cell) → (peel_names scope s k0 all c ≡ c) ⊎ IsOfIt c
  stays_or_moves (Scalar x) = inl refl
  stays_or_moves (Element x js) = inl refl
  stays_or_moves In = inl refl
  stays_or_moves Out = inl refl
  stays_or_moves (Private x path) = go (behind_front path_there path) refl
    where
      renamed : (r : Option (List Iteration)) → behind_front path_there path ≡ r → names (Private x path) ≡ Private x (with_rest path_there off path r)
      renamed r e = ap (λ (y : Option (List Iteration)). Private x (with_rest path_there off path y)) e

      by : (i : Iteration) (more : List Iteration) → behind_front path_there path ≡ Some (i ∷ more) → (b : Bool) → (i.statement == s) ≡ b → (names (Private x path) ≡ Private x path) ⊎ IsOfIt (Private x path)
      by i more e true same =
          let statement : i.statement ≡ s = eqb-true i.statement s same in
          inr (record { name = x; number = i.number; rest = more; is = ap (Private x) (behind_is path_there path (i ∷ more) e ∙ (λ k. path_there ++ record { statement = statement k; number = i.number } ∷ more)) })
      by i more e false same = inl (renamed (Some (i ∷ more)) e ∙ ap (λ (y : List Iteration). Private x (path_there ++ y)) (off_other i more same) ∙ ap (Private x) (sym (behind_is path_there path (i ∷ more) e)))

      go : (r : Option (List Iteration)) → behind_front path_there path ≡ r → (names (Private x path) ≡ Private x path) ⊎ IsOfIt (Private x path)
      go None e = inl (renamed None e)
      go (Some []) e = inl (renamed (Some []) e ∙ ap (Private x) (sym (behind_is path_there path [] e)))
      go (Some (i ∷ more)) e = by i more e (i.statement == s) refl

  -- what such a copy is called
  pub deep_names : (c : Cell) → IsDeep c → IsOfIt (peel_names scope s k0 all c) ⊎ IsFarCopy (peel_names scope s k0 all c)
  deep_names c k = go (k.trip == k0) refl
    where
      moved : names c ≡ Private k.name (path_there ++ (if k.trip == k0 then map (renumbered_iteration (copied all)) (k.next ∷ k.rest) else at_trip (if k0 == 1 then k.trip - 1 else k.trip) ∷ (k.next ∷ k.rest)))
      moved = ap names k.is ∙ moved_is off path_there (at_trip k.trip ∷ (k.next ∷ k.rest)) k.name ∙ ap (λ (y : List Iteration). Private k.name (path_there ++ y)) (off_it k.trip (k.next ∷ k.rest))

      go : (b : Bool) → (k.trip == k0) ≡ b → IsOfIt (peel_names scope s k0 all c) ⊎ IsFarCopy (peel_names scope s k0 all c)
      go true e = inr (record {
        name = k.name;
        iteration = renumbered_iteration (copied all) k.next;
        rest = map (renumbered_iteration (copied all)) k.rest;
        is = moved ∙ ap (λ (b : Bool). Private k.name (path_there ++ (if b then map (renumbered_iteration (copied all)) (k.next ∷ k.rest) else at_trip (if k0 == 1 then k.trip - 1 else k.trip) ∷ (k.next ∷ k.rest)))) e;
        far = omega arith;
      })
      go false e = inl (record {
        name = k.name;
        number = if k0 == 1 then k.trip - 1 else k.trip;
        rest = k.next ∷ k.rest;
        is = moved ∙ ap (λ (b : Bool). Private k.name (path_there ++ (if b then map (renumbered_iteration (copied all)) (k.next ∷ k.rest) else at_trip (if k0 == 1 then k.trip - 1 else k.trip) ∷ (k.next ∷ k.rest)))) e;
      })

  -- names of such cells are different
  lies : (c : Cell) → IsReached c → LiesBehind (IsInsideTrips s n) path_there c
  lies c (inl own) = own_lies o scope (IsInsideTrips s n) tt tt c own
  lies c (inr k) =
      subst (LiesBehind (IsInsideTrips s n) path_there) (sym k.is)
      (subst (IsInsideTrips s n) (sym (behind_itself path_there (at_trip k.trip ∷ (k.next ∷ k.rest)))) (refl, k.from, k.to))

  pub names_differ : (c f : Cell) → IsReached c → IsReached f → peel_names scope s k0 all c ≡ peel_names scope s k0 all f → c ≡ f
  names_differ c f u v e = peeled_apart s n k0 (copied all) (copied_apart all) (λ i same. omega (arith, same, room)) path_there c f (lies c u) (lies f v) e

  -- what a body touches in an iteration
  pub body_reached : (f : Frame) (body : StmtTrees) (st : Store) → f.private ≡ [] → f.turn.statement ≡ s → 1 ≤ f.turn.number → f.turn.number ≤ n → (a : Act) → IsIn a (run_all o body (s + 1) (f ∷ scope) st).acts → (v : Touch) → IsIn v a.touches → IsReached v.cell
  body_reached f body st none statement low high a i v j = by (all_reach o body (s + 1) (f ∷ scope) st a i v j)
    where
      there : iterations_of (turns_of (f ∷ scope)) ≡ path_there ++ at_trip f.turn.number ∷ []
      there = iterations_append (turns_of scope) (f.turn ∷ []) ∙ (λ k. path_there ++ record { statement = statement k; number = f.turn.number } ∷ [])

      by : IsOwn o (f ∷ scope) v.cell ⊎ IsCopyInside o (f ∷ scope) (s + 1) (statements_count body) v.cell → IsReached v.cell
      by (inl (inl own)) = inl (inl (own.0, own.1 ∙ no_copies (f ∷ []) scope own.0 (none, tt)))
      by (inl (inr other)) = inl (inr other)
      by (inr k) = inr (record {
        name = k.name;
        trip = f.turn.number;
        from = low;
        to = high;
        next = record { statement = o.number k.statement; number = k.number };
        rest = k.rest;
        is = k.is ∙ (λ y. Private k.name (there y ++ record { statement = o.number k.statement; number = k.number } ∷ k.rest)) ∙ ap (Private k.name) (append_assoc path_there (at_trip f.turn.number ∷ []) (record { statement = o.number k.statement; number = k.number } ∷ k.rest));
      })

-- The trips of a DO that takes the place of another do likewise what those of the old one did.
use Rattle.std.proofs.Common.{◌≡◌, ℕ, ◌+◌, ◌-◌, ◌≤◌, List, ◌∷◌, ◌++◌, [], Bool, true, false, Ok, Some, refl, sym, ap, subst, ◌∙◌, arith, if◌then◌else◌}
use Rattle.std.specs.Prelude.{◌||◌}
use Rattle.std.proofs.lemmas.Bool.{or_parts}
use Rattle.std.proofs.lemmas.List.Folds.{list_any-append}
use Rattle.ped_bodies.specs.ped_flow.specs.ped_base.specs.Lists.{is_same_text, is_among}
use Rattle.ped_bodies.specs.ped_flow.specs.ped_tree.specs.Tree.{Head, StmtTrees, Do}
use Rattle.ped_bodies.specs.ped_flow.specs.ped_tree.specs.NamesIn.{loop_variables, all_loop_variables, stmts_names}
use Rattle.ped_bodies.specs.ped_store.specs.Cells.{Iteration}
use Rattle.ped_bodies.specs.ped_store.specs.Stores.{Store}
use Rattle.ped_bodies.specs.ped_store.specs.Acts.{iterations_of}
use Rattle.ped_bodies.specs.ped_eval.specs.Evaluation.{Seen}
use Rattle.ped_bodies.specs.ped_eval.specs.Scopes.{Setting, Scope, turns_of, index_value, names_in}
use Rattle.ped_bodies.specs.ped_eval.specs.Loops.{limits, inner_variables, Entered, value_in, copied_names, frame}
use Rattle.ped_bodies.specs.ped_laws.specs.Runs.Seeing.{ComesTo}
use Rattle.ped_bodies.specs.ped_laws.specs.Runs.Replaying.{IsEntered}
use Rattle.ped_bodies.specs.ped_laws.proofs.RunLaws.Sight.{limits_told}
use Rattle.ped_bodies.specs.ped_laws.proofs.RunLaws.Turning.{once_among}
use Rattle.ped_bodies.specs.Standing.{SettingsAgree}
use Rattle.ped_bodies.specs.Moving.{own_number, HaveSameCopies, TellTheSame}
use Rattle.ped_bodies.specs.Trips.{bounds_seen, entered_from, IsMadeOfTrips, MakesTripsLikewise, DoTripsLikewise}
use Rattle.ped_bodies.proofs.BodyLaws.Instances.{reversed_body, with_other_copies}
use Rattle.ped_bodies.proofs.BodyLaws.TripsLikewise.{trips_made}
use Rattle.ped_loop_runs.specs.OneForOne.{trip_of, trip_names, trip_idle, HasSameTrips}

or_false : (b : Bool) → b || false ≡ b
or_false true = refl
or_false false = refl

-- which names have copies, but for the variables of DO loops
other_copies : (parallel : Bool) (v : List ℕ) (private inner : List (List ℕ)) (y : List ℕ) → is_same_text y v ≡ false → is_among y inner ≡ false → is_among y (if parallel then v ∷ (private ++ inner) else private) ≡ is_among y private
other_copies true v private inner y h k = (λ i. h i || is_among y (private ++ inner)) ∙ list_any-append (is_same_text y) private inner ∙ (λ i. is_among y private || k i) ∙ or_false (is_among y private)
other_copies false v private inner y h k = refl

no_inner : (parallel : Bool) (body : StmtTrees) (y : List ℕ) → is_among y (all_loop_variables body) ≡ false → is_among y (inner_variables parallel body) ≡ false
no_inner true body y h = once_among y (all_loop_variables body) ∙ h
no_inner false body y h = refl

same_round : (names : List (List ℕ)) (scope : Scope) → HaveSameCopies names scope scope
same_round names [] = tt
same_round names (f ∷ fs) = (refl, refl, (λ x apart. refl), same_round names fs)

module _ (p : Setting) (d h : Head) (body : StmtTrees) (l : ℕ) (reversed : Bool) (variable : h.variable ≡ d.variable) (private : h.private ≡ d.private) (in_turn : reversed ≡ true → (d.parallel ≡ false) × (h.parallel ≡ false)) (scope : Scope) (s : Store) (old : IsMadeOfTrips p d body l scope s)
    (same : HasSameTrips p d h body l reversed scope s old.bounds) where
  abbrev e : Entered
  e = entered_from p d body l scope s old.bounds

  abbrev z : Entered
  z = entered_from p h body l scope s same.bounds

  abbrev front : List Iteration
  front = iterations_of (turns_of scope)

  abbrev variables : List (List ℕ)
  variables = loop_variables (Do d body)

  abbrev seen : List Seen
  seen = bounds_seen p h scope s

  agree : SettingsAgree own_number p p body (l + 1) (l + 1)
  agree = record { constants = refl; bounds = λ x k. refl; numbers = λ k less. refl }

  comes : ComesTo (limits (names_in p scope) h) seen (Ok same.bounds)
  comes u holds = (limits_told (names_in p scope) h).comes s u holds ∙ (λ i. record { seen = seen; result = same.come i })

  entered : IsEntered p l scope h body seen z
  entered = (same.bounds, comes, refl)

  abbrev Likewise : Bool → Type 0
  Likewise b = DoTripsLikewise (trip_names b front (p.number l) e.count) (trip_idle b variables) own_number p body l scope e (trip_of b e.count) p body l scope z

  within : (j : ℕ) → j ≤ z.count → j ≤ e.count
  within j to = let count = same.count in omega (arith, count, to)

  from_last : (n j : ℕ) → 1 ≤ j → j ≤ n → (1 ≤ n + 1 - j) × (n + 1 - j ≤ n) × (j ≡ n + 1 - (n + 1 - j))
  from_last n j from to = (omega (arith, from, to), omega (arith, from, to), omega (arith, from, to))

  -- neither is a PARALLEL DO: only PRIVATE names have copies
  alone : (b : Bool) (g : Head) (inner : List (List ℕ)) → b ≡ false → (if b then g.variable ∷ (g.private ++ inner) else g.private) ≡ g.private
  alone true g inner e = absurd cc
  alone false g inner e = refl

  same_copies : reversed ≡ true → copied_names z ≡ copied_names e
  same_copies q = alone h.parallel h z.inner (in_turn q).1 ∙ private ∙ sym (alone d.parallel d e.inner (in_turn q).0)

  but_variables : (y : List ℕ) → is_among y variables ≡ false → is_among y (copied_names z) ≡ is_among y (copied_names e)
  but_variables y apart =
      let parts = or_parts (is_same_text y d.variable) (is_among y (all_loop_variables body)) apart in
      other_copies h.parallel h.variable h.private z.inner y (ap (is_same_text y) variable ∙ parts.0) (no_inner h.parallel body y parts.1)
      ∙ ap (is_among y) private
      ∙ sym (other_copies d.parallel d.variable d.private e.inner y parts.0 (no_inner d.parallel body y parts.1))

  tell : (j : ℕ) → value_in z j ≡ value_in e j → TellTheSame (stmts_names body) (frame e j ∷ scope) (frame z j ∷ scope)
  tell j value x among i = if is_same_text x (variable i) then Some (value i) else index_value scope x

  likewise : (b : Bool) → reversed ≡ b → Likewise b
  likewise true q j from to =
      let n = from_last e.count j from (within j to) in (
        n.0,
        n.1,
        reversed_body p p body (l + 1) (l + 1) agree scope (p.number l) e.count (frame e (e.count + 1 - j)) (frame z j) refl refl n.2
            (variable, subst (λ (r : Bool). value_in z j ≡ value_in e (trip_of r e.count j)) q (same.values j from to)) (same_copies q),
      )
  likewise false q j from to = (
    from,
    within j to,
    with_other_copies p p body (l + 1) (l + 1) agree variables (frame e j ∷ scope) (frame z j ∷ scope) (refl, refl, but_variables, same_round variables scope)
        (tell j (subst (λ (r : Bool). value_in z j ≡ value_in e (trip_of r e.count j)) q (same.values j from to))),
  )

  pub one_made : MakesTripsLikewise (trip_names reversed front (p.number l) e.count) (trip_idle reversed variables) own_number e scope old.trip (trip_of reversed e.count) p h body l scope seen z
  one_made = trips_made p p d h body body l l scope scope s seen z (trip_names reversed front (p.number l) e.count) (trip_idle reversed variables) own_number (trip_of reversed e.count) old entered (likewise reversed refl)

-- A DO taken apart into its iterations, and the statements that an iteration peeled off makes put together from them.
use Rattle.ped_rules.specs.Spans.{is_far, last_value}
use Rattle.ped_rules.specs.ped_bodies.proofs.BodyLaws.Instances.{peeled_body, unpeeled_body}
use Rattle.ped_rules.specs.ped_bodies.proofs.BodyLaws.LimitParts.{limits_parted}
use Rattle.ped_rules.specs.ped_bodies.proofs.BodyLaws.StandingPlaces.{literal_told}
use Rattle.ped_rules.specs.ped_bodies.proofs.BodyLaws.TripLists.{loop_apart}
use Rattle.ped_rules.specs.ped_bodies.proofs.BodyLaws.TripsLikewise.{trips_made}
use Rattle.ped_rules.specs.ped_bodies.specs.Likewise.{DoesLikewise}
use Rattle.ped_rules.specs.ped_bodies.specs.Moving.{ToldInside, moved_behind, own_number, peeled}
use Rattle.ped_rules.specs.ped_bodies.specs.Rewriting.{MayBeRewritten}
use Rattle.ped_rules.specs.ped_bodies.specs.Standing.{SettingsAgree}
use Rattle.ped_rules.specs.ped_bodies.specs.Trips.{DoTripsLikewise, HasLimits, IsMadeOfTrips, MakesTripsLikewise, bounds_seen, entered_from, store_before}
use Rattle.ped_rules.specs.ped_steps.proofs.RunLaws.ConstantBounds.{Counts, constant_counts, constant_limits, constant_step}
use Rattle.ped_rules.specs.ped_steps.specs.Runs.Renumbering.{renumbered}
use Rattle.ped_rules.specs.ped_laws.specs.Acts.Sets.{nothing}
use Rattle.ped_rules.specs.ped_laws.specs.Runs.Replaying.{IsEntered, finish_of, goes_on}
use Rattle.ped_rules.specs.ped_eval.specs.Evaluation.{Evaluated}
use Rattle.ped_rules.specs.ped_eval.specs.Loops.{Entered, Limits, frame, increment, is_bound, iteration_count, limits, value_in}
use Rattle.ped_rules.specs.ped_eval.specs.Outcomes.{setting_of}
use Rattle.ped_rules.specs.ped_eval.specs.Runs.{run, run_all}
use Rattle.ped_rules.specs.ped_eval.specs.Scopes.{Scope, Setting, names_in, place_of, turns_of}
use Rattle.ped_rules.specs.ped_store.specs.Acts.{Act, iterations_of}
use Rattle.ped_rules.specs.ped_store.specs.Cells.{Cell}
use Rattle.ped_rules.specs.ped_store.specs.Stores.{Store}
use Rattle.ped_symbolic.specs.Substitution.{statements_substituted, substituted}
use Rattle.ped_symbolic.specs.Arithmetic.{literal}
use Rattle.ped_rules.proofs.NameLaws.ConstantBounds.{constant_limits_come, literal_constant, near_bound, near_in_range}
use Rattle.ped_reindex.proofs.PeelCounts.{HasSpan, first_count, last_count, next_value}
use Rattle.ped_reindex.proofs.PeelNumbers.{copied}
use Rattle.ped_reindex.proofs.PeelTrusted.{left_head, left_parallel, left_private, left_variable}
use Rattle.ped_reindex.specs.Peeling.{Peeled, has_far, taken_out}
use Rattle.ped_tree.specs.Constants.ConstantExpressions.{constant_value}
use Rattle.ped_tree.specs.Constants.NamedConstants.{value_named}
use Rattle.ped_tree.specs.NamesIn.{all_loop_variables}
use Rattle.ped_tree.specs.Numbering.{statements_count}
use Rattle.ped_tree.specs.Tree.{Do, Head, ProgramTree, StmtTrees}
use Rattle.std.proofs.Common.{Bool, List, None, Ok, Some, [], ap, arith, eqb-true, false, if◌then◌else◌, pos, refl, subst, suc, sym, true, ℕ, ℤ, ◌*ℤ◌, ◌++◌, ◌+ℤ◌, ◌+◌, ◌-◌, ◌<◌, ◌==◌, ◌||◌, ◌∙◌, ◌∷◌, ◌≡◌, ◌≤◌}
use Rattle.std.proofs.lemmas.Int.{ints}

-- which iteration is peeled off, and which one of the old DO is iteration j of the one that is left
abbrev pub which : (last : Bool) → ℕ → ℕ
which false n = 1
which true n = n

abbrev pub old_trip : (last : Bool) → ℕ → ℕ
old_trip false j = j + 1
old_trip true j = j

pub which_within : (last : Bool) (n others : ℕ) → n ≡ suc others → (1 ≤ which last n) × (which last n ≤ n)
which_within false n others is = (omega arith, omega (arith, is))
which_within true n others is = (omega (arith, is), omega arith)

-- what copies are called
abbrev pub peel_names : (scope : Scope) (s k all : ℕ) → Cell → Cell
peel_names scope s k all = moved_behind (iterations_of (turns_of scope)) (peeled s k (copied all))

-- the iteration that is peeled off, by itself
abbrev pub copy_of : Peeled → Head → StmtTrees → StmtTrees
copy_of p d body = statements_substituted d.variable (literal p.value) body

-- in one execution: the old DO by its iterations, and what the new statements do of these
pub record IsPeeledRun (t : ProgramTree) (g : ℕ → ℕ) (last : Bool) (p : Peeled) (d : Head) (body : StmtTrees) (s m c all : ℕ) (scope : Scope) (st : Store) : Type 0 where
  pub old : IsMadeOfTrips (setting_of t) d body s scope st
  pub others : ℕ
  pub count : (entered_from (setting_of t) d body s scope st old.bounds).count ≡ suc others
  pub unseen : bounds_seen (setting_of t) d scope st ≡ []
  pub bounds : Limits
  pub new_count : (entered_from (renumbered g (setting_of t)) (left_head last p.bound d) body m scope st bounds).count ≡ others
  pub new_unseen : bounds_seen (renumbered g (setting_of t)) (left_head last p.bound d) scope st ≡ []
  pub taken : DoesLikewise (peel_names scope s (which last (entered_from (setting_of t) d body s scope st old.bounds).count) all) nothing (copied all)
      (turns_of (frame (entered_from (setting_of t) d body s scope st old.bounds) (which last (entered_from (setting_of t) d body s scope st old.bounds).count) ∷ scope)) (turns_of scope)
      (old.trip (which last (entered_from (setting_of t) d body s scope st old.bounds).count)) goes_on (run_all (renumbered g (setting_of t)) (copy_of p d body) c scope)
  pub rest : MakesTripsLikewise (peel_names scope s (which last (entered_from (setting_of t) d body s scope st old.bounds).count) all) nothing own_number (entered_from (setting_of t) d body s scope st old.bounds) scope old.trip (old_trip last)
      (renumbered g (setting_of t)) (left_head last p.bound d) body m scope (bounds_seen (renumbered g (setting_of t)) (left_head last p.bound d) scope st) (entered_from (renumbered g (setting_of t)) (left_head last p.bound d) body m scope st bounds)

or_left_false : (a b : Bool) → a || b ≡ false → a ≡ false
or_left_false true b h = absurd cc
or_left_false false b h = refl

or_right_false : (a b : Bool) → a || b ≡ false → b ≡ false
or_right_false true b h = absurd cc
or_right_false false b h = h

pub number_differs : (m n : ℕ) → (m ≡ n → ⊥) → (m == n) ≡ false
number_differs m n other = go (m == n) refl
  where
    go : (b : Bool) → (m == n) ≡ b → b ≡ false
    go false e = refl
    go true e = absurd (other (let same : m ≡ n = grind (arith, e, eqb-true) in same))

module _ (t : ProgramTree) (g : ℕ → ℕ) (last : Bool) (p : Peeled) (d : Head) (body : StmtTrees) (s m c all : ℕ) (span : HasSpan (setting_of t).constants d last p)
    (moves : span.m3 ≡ pos 0 → ⊥) (near : has_far (Some p) ≡ false) (serial : d.parallel ≡ false) (private : d.private ≡ [])
    (loop_counted : (k : ℕ) → k < statements_count body + 1 → g (m + k) ≡ s + k) (copy_counted : (k : ℕ) → k < statements_count body → g (c + k) ≡ copied all (s + 1 + k))
    (may : MayBeRewritten (substituted d.variable (literal p.value)) (setting_of t).constants body) (unnamed : value_named (setting_of t).constants d.variable ≡ None) where
  abbrev q : Setting
  q = renumbered g (setting_of t)

  abbrev h : Head
  h = left_head last p.bound d

  counts : Counts span.m1 span.m2 span.m3
  counts = constant_counts span.m1 span.m2 span.m3 moves span.some

  step : increment (setting_of t).constants d ≡ span.m3
  step = constant_step (setting_of t).constants d span.m3 span.step_is

  new_step : increment (setting_of t).constants h ≡ span.m3
  new_step = go last ∙ step
    where
      go : (b : Bool) → increment (setting_of t).constants (left_head b p.bound d) ≡ increment (setting_of t).constants d
      go false = refl
      go true = refl

  new_serial : h.parallel ≡ false
  new_serial = left_parallel last p.bound d ∙ serial

  -- the new limits
  abbrev its_limits : Bool → Limits
  its_limits false = record { first = p.bound; last = span.m2 }
  its_limits true = record { first = span.m1; last = p.bound }

  abbrev new_limits : Limits
  new_limits = its_limits last

  module _ (scope : Scope) (st : Store) (goes : finish_of (run (setting_of t) (Do d body) s scope st).ending ≡ goes_on) where
    old : IsMadeOfTrips (setting_of t) d body s scope st
    old = loop_apart (setting_of t) d body s scope st goes

    abbrev e : Entered
    e = entered_from (setting_of t) d body s scope st old.bounds

    abbrev z : Entered
    z = entered_from q h body m scope st new_limits

    at_limits : (old.bounds.first ≡ span.m1) × (old.bounds.last ≡ span.m2)
    at_limits = constant_limits (names_in (setting_of t) scope) st d span.m1 span.m2 span.first_is span.last_is old.bounds old.come

    has : HasLimits (names_in (setting_of t) scope) d st old.bounds
    has = limits_parted (names_in (setting_of t) scope) d st old.bounds old.come

    first_bound : is_bound span.m1 ≡ true
    first_bound = ap is_bound (sym at_limits.0) ∙ has.first_bound

    last_bound : is_bound span.m2 ≡ true
    last_bound = ap is_bound (sym at_limits.1) ∙ has.last_bound

    own_bound : is_bound p.bound ≡ true
    own_bound = near_bound p.bound (or_right_false (is_far p.value) (is_far p.bound) near)

    old_count : e.count ≡ suc counts.others
    old_count = (λ i. iteration_count (at_limits.0 i) (at_limits.1 i) (step i)) ∙ counts.some

    old_value : (k : ℕ) → value_in e k ≡ span.m1 +ℤ pos (k - 1) *ℤ span.m3
    old_value k = λ i. at_limits.0 i +ℤ pos (k - 1) *ℤ step i

    old_unseen : bounds_seen (setting_of t) d scope st ≡ []
    old_unseen = ap (λ (w : Evaluated Limits). w.seen) (constant_limits_come (names_in (setting_of t) scope) st d span.m1 span.m2 span.first_is span.last_is first_bound last_bound)

    -- the limits of the new DO come from each store
    literal_is : constant_value (setting_of t).constants (literal p.bound) ≡ Some p.bound
    literal_is = literal_constant (setting_of t).constants p.bound (or_right_false (is_far p.value) (is_far p.bound) near)

    new_come : (u : Store) → limits (names_in q scope) h u ≡ record { seen = []; result = Ok new_limits }
    new_come u = go last
      where
        go : (b : Bool) → limits (names_in q scope) (left_head b p.bound d) u ≡ record { seen = []; result = Ok (its_limits b) }
        go false = constant_limits_come (names_in q scope) u (left_head false p.bound d) p.bound span.m2 literal_is span.last_is own_bound last_bound
        go true = constant_limits_come (names_in q scope) u (left_head true p.bound d) span.m1 p.bound span.first_is literal_is first_bound own_bound

    new_unseen : bounds_seen q h scope st ≡ []
    new_unseen = ap (λ (w : Evaluated Limits). w.seen) (new_come st)

    new_entered : IsEntered q m scope h body (bounds_seen q h scope st) z
    new_entered = (new_limits, (λ u holds. new_come u ∙ (λ i. record { seen = sym new_unseen i; result = Ok new_limits })), refl)

    -- one iteration less
    new_count : z.count ≡ counts.others
    new_count = (λ i. iteration_count new_limits.first new_limits.last (new_step i)) ∙ go last refl
      where
        go : (b : Bool) → last ≡ b → iteration_count (its_limits b).first (its_limits b).last span.m3 ≡ counts.others
        go false is = ap (λ (v : ℤ). iteration_count v span.m2 span.m3) (ap (λ (x : Peeled). x.bound) (span.is ∙ ap (λ (b : Bool). taken_out b span.m3 (record { first = span.m1; last = last_value span.m1 span.m2 span.m3 })) is)) ∙ first_count span.m1 span.m2 span.m3 moves counts
        go true is = ap (λ (v : ℤ). iteration_count span.m1 v span.m3) (ap (λ (x : Peeled). x.bound) (span.is ∙ ap (λ (b : Bool). taken_out b span.m3 (record { first = span.m1; last = last_value span.m1 span.m2 span.m3 })) is)) ∙ last_count span.m1 span.m2 span.m3 moves counts

    -- the values are those of the old DO
    new_value : (j : ℕ) → 1 ≤ j → value_in z j ≡ value_in e (old_trip last j)
    new_value j from = (λ i. new_limits.first +ℤ pos (j - 1) *ℤ new_step i) ∙ go last refl
      where
        go : (b : Bool) → last ≡ b → (its_limits b).first +ℤ pos (j - 1) *ℤ span.m3 ≡ value_in e (old_trip b j)
        go false is =
            ap (λ (v : ℤ). v +ℤ pos (j - 1) *ℤ span.m3) (ap (λ (x : Peeled). x.bound) (span.is ∙ ap (λ (b : Bool). taken_out b span.m3 (record { first = span.m1; last = last_value span.m1 span.m2 span.m3 })) is))
            ∙ next_value span.m1 span.m3 j from ∙ sym (old_value (j + 1))
        go true is = sym (old_value j)

    taken_value : value_in e (which last e.count) ≡ p.value
    taken_value = go last refl
      where
        one_less : e.count - 1 ≡ counts.others
        one_less = let is = old_count in omega (arith, is)

        go : (b : Bool) → last ≡ b → value_in e (which b e.count) ≡ p.value
        go false is =
            old_value 1 ∙ (let own : span.m1 +ℤ pos 0 *ℤ span.m3 ≡ span.m1 = omega (arith, ints) in own)
            ∙ sym (ap (λ (x : Peeled). x.value) (span.is ∙ ap (λ (b : Bool). taken_out b span.m3 (record { first = span.m1; last = last_value span.m1 span.m2 span.m3 })) is))
        go true is =
            old_value e.count ∙ ap (λ (n : ℕ). span.m1 +ℤ pos n *ℤ span.m3) one_less ∙ counts.last
            ∙ sym (ap (λ (x : Peeled). x.value) (span.is ∙ ap (λ (b : Bool). taken_out b span.m3 (record { first = span.m1; last = last_value span.m1 span.m2 span.m3 })) is))

    -- iterations have no copies of their own
    uncopied : (f : Head) (xs : List (List ℕ)) → f.parallel ≡ false → f.private ≡ [] → (if f.parallel then f.variable ∷ (f.private ++ xs) else f.private) ≡ []
    uncopied f xs a b = ap (λ (r : Bool). if r then f.variable ∷ (f.private ++ xs) else f.private) a ∙ b

    abbrev k0 : ℕ
    k0 = which last e.count

    k0_within : (1 ≤ k0) × (k0 ≤ e.count)
    k0_within = which_within last e.count counts.others old_count

    agree_copy : SettingsAgree (copied all) (setting_of t) q body (s + 1) c
    agree_copy = record { constants = refl; bounds = λ x w. refl; numbers = copy_counted }

    agree_rest : SettingsAgree own_number (setting_of t) q body (s + 1) (m + 1)
    agree_rest = record { constants = refl; bounds = λ x w. refl; numbers = λ k less. (let one : m + 1 + k ≡ m + (1 + k) = omega arith in let two : s + (1 + k) ≡ s + 1 + k = omega arith in ap g one ∙ loop_counted (1 + k) (omega (arith, less)) ∙ two) }

    taken : DoesLikewise (peel_names scope s k0 all) nothing (copied all) (turns_of (frame e k0 ∷ scope)) (turns_of scope) (old.trip k0) goes_on (run_all q (copy_of p d body) c scope)
    taken =
        let it = old.are k0 k0_within.0 k0_within.1 in
        subst (λ (acts : List Act). DoesLikewise (peel_names scope s k0 all) nothing (copied all) (turns_of (frame e k0 ∷ scope)) (turns_of scope) acts goes_on (run_all q (copy_of p d body) c scope)) (sym it.is)
        (peeled_body (copied all) (setting_of t) q body (s + 1) c agree_copy scope s k0 (frame e k0) (literal p.value) refl refl (uncopied d e.inner serial private) may unnamed
        (subst (ToldInside q (all_loop_variables body) d.variable scope (literal p.value)) (sym taken_value) (literal_told q (all_loop_variables body) d.variable scope p.value (near_in_range p.value (or_left_false (is_far p.value) (is_far p.bound) near))))
        (store_before (bounds_seen (setting_of t) d scope st) e scope (place_of (setting_of t) s scope) old.trip st k0) it.goes)

    -- the other iterations
    trip_within : (j : ℕ) → 1 ≤ j → j ≤ z.count → (1 ≤ old_trip last j) × (old_trip last j ≤ e.count) × ((old_trip last j == k0) ≡ false) × (j ≡ (if k0 == 1 then old_trip last j - 1 else old_trip last j))
    trip_within j from to = go last
      where
        go : (b : Bool) → (1 ≤ old_trip b j) × (old_trip b j ≤ e.count) × ((old_trip b j == which b e.count) ≡ false) × (j ≡ (if which b e.count == 1 then old_trip b j - 1 else old_trip b j))
        go false =
            let many = new_count in
            let is = old_count in (
              omega (arith, from),
              omega (arith, to, many, is),
              number_differs (j + 1) 1 (λ same. omega (arith, same, from)),
              (let own : j ≡ j + 1 - 1 = omega arith in own),
            )
        go true =
            let many = new_count in
            let is = old_count in (
              from,
              omega (arith, to, many, is),
              number_differs j e.count (λ same. omega (arith, same, to, many, is)),
              sym (ap (λ (b : Bool). if b then j - 1 else j) (number_differs e.count 1 (λ same. omega (arith, same, from, to, many, is)))),
            )

    each_trip : DoTripsLikewise (peel_names scope s k0 all) nothing own_number (setting_of t) body s scope e (old_trip last) q body m scope z
    each_trip j from to =
        let w = trip_within j from to in (
          w.0,
          w.1,
          unpeeled_body (setting_of t) q body (s + 1) (m + 1) agree_rest scope s k0 (copied all) (frame e (old_trip last j)) (frame z j) refl number w.2 w.3 (left_variable last p.bound d, new_value j from)
              (uncopied h z.inner new_serial (left_private last p.bound d ∙ private) ∙ sym (uncopied d e.inner serial private)),
        )
      where
        number : g m ≡ s
        number = (let one : m ≡ m + 0 = omega arith in let two : s + 0 ≡ s = omega arith in ap g one ∙ loop_counted 0 (omega arith) ∙ two)

    rest : MakesTripsLikewise (peel_names scope s k0 all) nothing own_number e scope old.trip (old_trip last) q h body m scope (bounds_seen q h scope st) z
    rest = trips_made (setting_of t) q d h body body s m scope scope st (bounds_seen q h scope st) z (peel_names scope s k0 all) nothing own_number (old_trip last) old new_entered each_trip

    pub peeled_run : IsPeeledRun t g last p d body s m c all scope st
    peeled_run = record {
      old = old;
      others = counts.others;
      count = old_count;
      unseen = old_unseen;
      bounds = new_limits;
      new_count = new_count;
      new_unseen = new_unseen;
      taken = taken;
      rest = rest;
    }

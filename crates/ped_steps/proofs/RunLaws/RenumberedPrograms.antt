-- Programs under other statement numbers: they end alike, and race where they race.
use Rattle.std.proofs.Common.{◌≡◌, ℕ, List, [], ◌∷◌, ◌++◌, map, Bool, true, false, eqb-true, refl, sym, ap, subst, ◌∙◌, arith, if◌then◌else◌}
use Rattle.std.specs.Prelude.{◌&&◌, ◌||◌, ◌==◌, not, filter}
use Rattle.std.specs.List.{AllByRecursion}
use Rattle.std.proofs.lemmas.List.Elements.{All-from_recursion, recursion_from_All}
use Rattle.std.proofs.lemmas.List.{map-append}
use Rattle.ped_tree.specs.Tree.{ProgramTree}
use Rattle.ped_weaves.specs.ped_store.specs.Cells.{Cell, Scalar, Element, Private, In, Out}
use Rattle.ped_weaves.specs.ped_store.specs.Stores.{Store, store_at_start}
use Rattle.ped_weaves.specs.ped_store.specs.Acts.{Touch, Turn, Act}
use Rattle.ped_weaves.specs.ped_store.specs.Races.{Access, is_lines, is_write, is_access, accesses_of, accesses, are_apart, race, HasNoRace}
use Rattle.ped_weaves.specs.ped_eval.specs.Scopes.{Setting}
use Rattle.ped_weaves.specs.ped_eval.specs.Runs.{Ending, going, stopped, failed, run_all}
use Rattle.ped_weaves.specs.ped_eval.specs.Outcomes.{Ends, outcome_of}
use Rattle.ped_weaves.specs.ped_laws.specs.Runs.Showing.{shown_at_end}
use Rattle.ped_weaves.specs.ped_laws.specs.Runs.Replaying.{goes_on, stops}
use Rattle.ped_weaves.specs.ped_laws.proofs.RunLaws.Shown.{outcome_same}
use Rattle.ped_weaves.specs.ped_laws.specs.Acts.Sets.{AgreeIn}
use Rattle.ped_steps.specs.Runs.Exchanging.{exchanged_touch}
use Rattle.ped_steps.specs.Runs.Renumbering.{renumbered_cell, old_store, renumbered_turn, renumbered_place, renumbered_act, EndsAs, IsRenumbered, IsToldBack, renumbered}
use Rattle.ped_steps.proofs.RunLaws.RenumberedRuns.{same_test, all_in, outside_all}

module _ (f g : ℕ → ℕ) (told : IsToldBack f g) where
  -- the store at the start has no copies
  start_same : (ls : List (List ℕ)) → old_store f (store_at_start ls) ≡ store_at_start ls
  start_same ls = λ i c. each c i
    where
      each : (c : Cell) → store_at_start ls (renumbered_cell f c) ≡ store_at_start ls c
      each (Scalar x) = refl
      each (Element x js) = refl
      each (Private x path) = refl
      each In = refl
      each Out = refl

  pub program_renumbered : (p : Setting) (t : ProgramTree) (ls : List (List ℕ)) → IsRenumbered f (run_all (renumbered f p) t.body 1 [] (store_at_start ls)) (run_all p t.body 1 [] (store_at_start ls))
  program_renumbered p t ls = subst (λ (s : Store). IsRenumbered f (run_all (renumbered f p) t.body 1 [] (store_at_start ls)) (run_all p t.body 1 [] s)) (start_same ls) (all_in f g told p t.body 1 [] [] (outside_all f g told) (store_at_start ls))

  -- an ending that is another one under new numbers
  pub ends_alike : (d e : Ending) → EndsAs f d e → Ends e → Ends d
  ends_alike (going s) (going u) h k = tt
  ends_alike (stopped s) (stopped u) h k = tt
  ends_alike (failed n m) (failed o l) h k = absurd k
  ends_alike (going s) (stopped u) h k = absurd h
  ends_alike (going s) (failed o l) h k = absurd h
  ends_alike (stopped s) (going u) h k = absurd h
  ends_alike (stopped s) (failed o l) h k = absurd h
  ends_alike (failed n m) (going u) h k = absurd h
  ends_alike (failed n m) (stopped u) h k = absurd h

  pub ends_back : (d e : Ending) → EndsAs f d e → Ends d → Ends e
  ends_back (going s) (going u) h k = tt
  ends_back (stopped s) (stopped u) h k = tt
  ends_back (failed n m) (failed o l) h k = absurd k
  ends_back (going s) (stopped u) h k = absurd h
  ends_back (going s) (failed o l) h k = absurd h
  ends_back (stopped s) (going u) h k = absurd h
  ends_back (stopped s) (failed o l) h k = absurd h
  ends_back (failed n m) (going u) h k = absurd h
  ends_back (failed n m) (stopped u) h k = absurd h

  -- numbers are told apart as before
  same_number : (m n : ℕ) → (f m == f n) ≡ (m == n)
  same_number m n = go (m == n) refl
    where
      go : (b : Bool) → (m == n) ≡ b → (f m == f n) ≡ b
      go true e = let same : m ≡ n = grind (arith, e, eqb-true) in ap (λ (k : ℕ). f m == f k) (sym same) ∙ grind (arith, eqb-true)
      go false e = never (f m == f n) refl
        where
          never : (r : Bool) → (f m == f n) ≡ r → r ≡ false
          never false q = refl
          never true q = let same : f m ≡ f n = grind (arith, q, eqb-true) in let old : m ≡ n = sym (told.back m) ∙ ap g same ∙ told.back n in sym (let is : (m == n) ≡ true = grind (arith, old, eqb-true) in is) ∙ e

  apart_alike : (ts us : List Turn) → are_apart (map (renumbered_turn f) ts) (map (renumbered_turn f) us) ≡ are_apart ts us
  apart_alike [] us = refl
  apart_alike (t ∷ ts) [] = refl
  apart_alike (t ∷ ts) (u ∷ us) = λ i. same_number t.statement u.statement i && (if t.number == u.number then apart_alike ts us i else t.parallel)

  -- an access under new numbers
  abbrev renumbered_access : Access → Access
  renumbered_access a = record { cell = renumbered_cell f a.cell; writes = a.writes; place = renumbered_place f a.place; reference = a.reference }

  race_alike : (a b : Access) → race (renumbered_access a) (renumbered_access b) ≡ race a b
  race_alike a b = λ i. apart_alike a.place.turns b.place.turns i && (same_test f g told a.cell b.cell i && (a.writes || b.writes))

  lines_alike : (c : Cell) → is_lines (renumbered_cell f c) ≡ is_lines c
  lines_alike (Scalar x) = refl
  lines_alike (Element x js) = refl
  lines_alike (Private x path) = refl
  lines_alike In = refl
  lines_alike Out = refl

  of_act : (a : Act) → accesses_of (renumbered_act f a) ≡ map renumbered_access (accesses_of a)
  of_act a = go a.touches
    where
      go : (ts : List Touch) → map (λ t. record { cell = t.cell; writes = is_write t.manner; place = renumbered_place f a.place; reference = t.reference }) (filter is_access (map (exchanged_touch (renumbered_cell f)) ts))
          ≡ map renumbered_access (map (λ t. record { cell = t.cell; writes = is_write t.manner; place = a.place; reference = t.reference }) (filter is_access ts))
      go [] = refl
      go (t ∷ ts) = (λ i. map (λ t. record { cell = t.cell; writes = is_write t.manner; place = renumbered_place f a.place; reference = t.reference })
          (if (is_write t.manner || not (lines_alike t.cell i)) then exchanged_touch (renumbered_cell f) t ∷ filter is_access (map (exchanged_touch (renumbered_cell f)) ts) else filter is_access (map (exchanged_touch (renumbered_cell f)) ts)))
          ∙ by_kind (is_access t) (go ts)
        where
          by_kind : (b : Bool) → map (λ t. record { cell = t.cell; writes = is_write t.manner; place = renumbered_place f a.place; reference = t.reference }) (filter is_access (map (exchanged_touch (renumbered_cell f)) ts))
              ≡ map renumbered_access (map (λ t. record { cell = t.cell; writes = is_write t.manner; place = a.place; reference = t.reference }) (filter is_access ts))
              → map (λ t. record { cell = t.cell; writes = is_write t.manner; place = renumbered_place f a.place; reference = t.reference }) (if b then exchanged_touch (renumbered_cell f) t ∷ filter is_access (map (exchanged_touch (renumbered_cell f)) ts) else filter is_access (map (exchanged_touch (renumbered_cell f)) ts))
              ≡ map renumbered_access (map (λ t. record { cell = t.cell; writes = is_write t.manner; place = a.place; reference = t.reference }) (if b then t ∷ filter is_access ts else filter is_access ts))
          by_kind true more = ap (λ (xs : List Access). record { cell = renumbered_cell f t.cell; writes = is_write t.manner; place = renumbered_place f a.place; reference = t.reference } ∷ xs) more
          by_kind false more = more

  of_acts : (acts : List Act) → accesses (map (renumbered_act f) acts) ≡ map renumbered_access (accesses acts)
  of_acts [] = refl
  of_acts (a ∷ acts) = (λ i. of_act a i ++ of_acts acts i) ∙ sym (map-append renumbered_access (accesses_of a) (accesses acts))

  all_free_back : (a : Access) (xs : List Access) → AllByRecursion (λ b. race (renumbered_access a) b ≡ false) (map renumbered_access xs) → AllByRecursion (λ b. race a b ≡ false) xs
  all_free_back a [] h = tt
  all_free_back a (b ∷ xs) h = (sym (race_alike a b) ∙ h.0, all_free_back a xs h.1)

  free_back : (xs : List Access) → HasNoRace (map renumbered_access xs) → HasNoRace xs
  free_back [] h = tt
  free_back (a ∷ xs) h = (All-from_recursion (λ b. race a b ≡ false) xs (all_free_back a xs (recursion_from_All (λ b. race (renumbered_access a) b ≡ false) (map renumbered_access xs) h.0)), free_back xs h.1)

  -- where acts under new numbers have no race, the old ones have none
  pub no_race_back : (acts new : List Act) → new ≡ map (renumbered_act f) acts → HasNoRace (accesses new) → HasNoRace (accesses acts)
  no_race_back acts new e h = free_back (accesses acts) (subst HasNoRace (ap accesses e ∙ of_acts acts) h)

  -- cells that are no copies hold the same at the end
  abbrev pub AgreeOnOwn : Store → Store → Type 0
  AgreeOnOwn s u = (c : Cell) → renumbered_cell f c ≡ c → s c ≡ u c

  pub own_alike : (s u : Store) → old_store f s ≡ u → AgreeOnOwn s u
  own_alike s u h c same = ap s (sym same) ∙ ap (λ (w : Store). w c) h

-- programs end alike under other numbers: no copy is shown
pub outcome_renumbered : (f : ℕ → ℕ) (t : ProgramTree) (d e : Ending) → EndsAs f d e → Ends e → outcome_of t d ≡ outcome_of t e
outcome_renumbered f t d e = go d e
  where
    agree : (s u : Store) → old_store f s ≡ u → AgreeIn (shown_at_end t) s u
    agree s u h (Scalar x) k = ap (λ (w : Store). w (Scalar x)) h
    agree s u h (Element x js) k = ap (λ (w : Store). w (Element x js)) h
    agree s u h (Private x path) k = absurd cc
    agree s u h In k = absurd cc
    agree s u h Out k = ap (λ (w : Store). w Out) h

    go : (d e : Ending) → EndsAs f d e → Ends e → outcome_of t d ≡ outcome_of t e
    go (going s) (going u) h k = outcome_same t s u (agree s u h) goes_on
    go (stopped s) (stopped u) h k = outcome_same t s u (agree s u h) stops
    go (failed n m) (failed o l) h k = absurd k
    go (going s) (stopped u) h k = absurd h
    go (going s) (failed o l) h k = absurd h
    go (stopped s) (going u) h k = absurd h
    go (stopped s) (failed o l) h k = absurd h
    go (failed n m) (going u) h k = absurd h
    go (failed n m) (stopped u) h k = absurd h

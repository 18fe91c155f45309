-- Accesses that race in a run of a valid program under other statement numbers are made by references.
use Rattle.ped_loop_runs.proofs.LoopLaws.RacesByReferences.{by_references}
use Rattle.ped_loop_runs.specs.ped_steps.proofs.RunLaws.RenumberedPrograms.{program_renumbered}
use Rattle.ped_loop_runs.specs.ped_steps.proofs.RunLaws.RenumberedRuns.{same_test}
use Rattle.ped_loop_runs.specs.ped_steps.specs.Runs.Exchanging.{exchanged_touch}
use Rattle.ped_loop_runs.specs.ped_steps.specs.Runs.Renumbering.{IsToldBack, renumbered, renumbered_act, renumbered_cell, renumbered_place, renumbered_turn}
use Rattle.ped_loop_runs.specs.ped_laws.proofs.ActLaws.Lists.{in_left, in_parts, in_right}
use Rattle.ped_loop_runs.specs.ped_laws.specs.Acts.Orders.{IsIn}
use Rattle.ped_loop_runs.specs.ped_eval.specs.Outcomes.{run_of, setting_of}
use Rattle.ped_loop_runs.specs.ped_eval.specs.Runs.{run_all}
use Rattle.ped_loop_runs.specs.ped_store.specs.Acts.{Act, Touch, Turn}
use Rattle.ped_loop_runs.specs.ped_store.specs.Cells.{Cell, Element, In, Out, Private, Scalar}
use Rattle.ped_loop_runs.specs.ped_store.specs.Races.{Access, accesses, accesses_of, are_apart, conflict, is_access, is_lines, is_write, race}
use Rattle.ped_loop_runs.specs.ped_store.specs.Stores.{store_at_start}
use Rattle.ped_loop_runs.specs.ped_symbols.specs.NameRefusals.{IsValid}
use Rattle.ped_tree.specs.Tree.{ProgramTree}
use Rattle.std.proofs.Common.{Bool, List, [], ap, arith, eqb-true, false, filter, if◌then◌else◌, inl, inr, map, not, refl, subst, sym, true, ℕ, ◌&&◌, ◌<◌, ◌==◌, ◌||◌, ◌∙◌, ◌∷◌, ◌≡◌}
use Rattle.std.proofs.lemmas.Bool.{and_parts}
use Rattle.std.specs.Str.Lines.{lines}

module _ (f g : ℕ → ℕ) (told : IsToldBack f g) where
  -- numbers are told apart as before
  same_number : (m n : ℕ) → (f m == f n) ≡ (m == n)
  same_number m n = go (m == n) refl
    where
      go : (b : Bool) → (m == n) ≡ b → (f m == f n) ≡ b
      go true e = let same : m ≡ n = grind (arith, e, eqb-true) in ap (λ (k : ℕ). f m == f k) (sym same) ∙ grind (arith, eqb-true)
      go false e = never (f m == f n) refl
        where
          never : (r : Bool) → (f m == f n) ≡ r → r ≡ false
          never false q = refl
          never true q = let same : f m ≡ f n = grind (arith, q, eqb-true) in let old : m ≡ n = sym (told.back m) ∙ ap g same ∙ told.back n in sym (let is : (m == n) ≡ true = grind (arith, old, eqb-true) in is) ∙ e

  pub apart_alike : (ts us : List Turn) → are_apart (map (renumbered_turn f) ts) (map (renumbered_turn f) us) ≡ are_apart ts us
  apart_alike [] us = refl
  apart_alike (t ∷ ts) [] = refl
  apart_alike (t ∷ ts) (u ∷ us) = λ i. same_number t.statement u.statement i && (if t.number == u.number then apart_alike ts us i else t.parallel)

  -- an access under new numbers
  abbrev pub renumbered_access : Access → Access
  renumbered_access a = record { cell = renumbered_cell f a.cell; writes = a.writes; place = renumbered_place f a.place; reference = a.reference }

  race_alike : (a b : Access) → race (renumbered_access a) (renumbered_access b) ≡ race a b
  race_alike a b = λ i. apart_alike a.place.turns b.place.turns i && (same_test f g told a.cell b.cell i && (a.writes || b.writes))

  lines_alike : (c : Cell) → is_lines (renumbered_cell f c) ≡ is_lines c
  lines_alike (Scalar x) = refl
  lines_alike (Element x js) = refl
  lines_alike (Private x path) = refl
  lines_alike In = refl
  lines_alike Out = refl

  -- an access of renumbered touches is a renumbered one
  of_touches : (a : Act) (ts : List Touch) (b : Access) → IsIn b (map (λ t. record { cell = t.cell; writes = is_write t.manner; place = renumbered_place f a.place; reference = t.reference }) (filter is_access (map (exchanged_touch (renumbered_cell f)) ts)))
      → (c : Access) × IsIn c (map (λ t. record { cell = t.cell; writes = is_write t.manner; place = a.place; reference = t.reference }) (filter is_access ts)) × (b ≡ renumbered_access c)
  of_touches a [] b i = absurd i
  of_touches a (t ∷ ts) b i =
      by (is_access t) (λ k. of_touches a ts b k) (subst (λ (r : Bool). IsIn b (map made (if is_write t.manner || not r then exchanged_touch (renumbered_cell f) t ∷ filter is_access (map (exchanged_touch (renumbered_cell f)) ts) else filter is_access (map (exchanged_touch (renumbered_cell f)) ts)))) (lines_alike t.cell) i)
    where
      made : Touch → Access
      made u = record { cell = u.cell; writes = is_write u.manner; place = renumbered_place f a.place; reference = u.reference }

      old : Touch → Access
      old u = record { cell = u.cell; writes = is_write u.manner; place = a.place; reference = u.reference }

      by : (r : Bool) → (IsIn b (map made (filter is_access (map (exchanged_touch (renumbered_cell f)) ts))) → (c : Access) × IsIn c (map old (filter is_access ts)) × (b ≡ renumbered_access c))
          → IsIn b (map made (if r then exchanged_touch (renumbered_cell f) t ∷ filter is_access (map (exchanged_touch (renumbered_cell f)) ts) else filter is_access (map (exchanged_touch (renumbered_cell f)) ts)))
          → (c : Access) × IsIn c (map old (if r then t ∷ filter is_access ts else filter is_access ts)) × (b ≡ renumbered_access c)
      by true more (inl e) = (old t, inl refl, e)
      by true more (inr k) = let r = more k in (r.0, inr r.1, r.2)
      by false more k = more k

  of_acts : (acts : List Act) (b : Access) → IsIn b (accesses (map (renumbered_act f) acts)) → (c : Access) × IsIn c (accesses acts) × (b ≡ renumbered_access c)
  of_acts [] b i = absurd i
  of_acts (a ∷ acts) b i = elim (in_parts b (accesses_of (renumbered_act f a)) (accesses (map (renumbered_act f) acts)) i) [
    | inl k ↦ let r = of_touches a a.touches b k in (r.0, in_left r.0 (accesses_of a) (accesses acts) r.1, r.2)
    | inr k ↦ let r = of_acts acts b k in (r.0, in_right r.0 (accesses_of a) (accesses acts) r.1, r.2)
  ]

  module _ (u : ProgramTree) (valid : IsValid u) (data_bytes : List ℕ) where
    abbrev news : List Act
    news = (run_all (renumbered f (setting_of u)) u.body 1 [] (store_at_start (lines data_bytes))).acts

    origin : (b : Access) → IsIn b (accesses news) → (c : Access) × IsIn c (accesses (run_of u data_bytes).acts) × (b ≡ renumbered_access c)
    origin b i = of_acts (run_of u data_bytes).acts b (subst (λ (acts : List Act). IsIn b (accesses acts)) (program_renumbered f g told (setting_of u) u (lines data_bytes)).acts i)

    -- both accesses of a race are made by references, and they are apart either way
    pub references_renumbered : (b c : Access) → IsIn b (accesses (run_all (renumbered f (setting_of u)) u.body 1 [] (store_at_start (lines data_bytes))).acts) → IsIn c (accesses (run_all (renumbered f (setting_of u)) u.body 1 [] (store_at_start (lines data_bytes))).acts) → race b c ≡ true
        → (0 < b.reference) × (0 < c.reference) × (are_apart b.place.turns c.place.turns ≡ true) × (are_apart c.place.turns b.place.turns ≡ true) × (conflict b c ≡ true)
    references_renumbered b c i j races =
        let x = origin b i in
        let y = origin c j in
        let r = by_references u valid data_bytes x.0 y.0 x.1 y.1 (sym (race_alike x.0 y.0) ∙ (λ k. race (sym x.2 k) (sym y.2 k)) ∙ races) in
        let parts = and_parts (are_apart b.place.turns c.place.turns) (conflict b c) races in (
          subst (λ (k : ℕ). 0 < k) (sym (ap (λ (z : Access). z.reference) x.2)) r.0,
          subst (λ (k : ℕ). 0 < k) (sym (ap (λ (z : Access). z.reference) y.2)) r.1,
          parts.0,
          (λ k. are_apart (y.2 k).place.turns (x.2 k).place.turns) ∙ apart_alike y.0.place.turns x.0.place.turns ∙ r.3,
          parts.1,
        )

-- Program units and their expansion: where all that stands in the units stands alike in the expansion, the outcomes are the same.
use Rattle.std.proofs.Common.{◌≡◌, ℕ, ℤ, List, [], ◌∷◌, map, length, refl, sym, ap, ◌∙◌, subst, inl, inr, if◌then◌else◌}
use Rattle.std.specs.Str.Lines.{lines}
use Rattle.ped_base.specs.Dimensions.{Dimensions}
use Rattle.ped_base.specs.Lists.{has_some}
use Rattle.ped_tree.specs.Tree.{ProgramTree}
use Rattle.ped_steps.specs.ped_symbols.specs.Kinds.{kind_in}
use Rattle.ped_calls.specs.ped_units.specs.Forms.{Called}
use Rattle.ped_calls.specs.ped_units.specs.Units.{ProgramUnits}
use Rattle.ped_calls.specs.ped_units.specs.Refusals.{for_names}
use Rattle.ped_calls.specs.ped_units.specs.Expanding.{Given, Expanded, call_expanded, constants_of, nothing_given, expansion}
use Rattle.ped_steps.specs.ped_store.specs.Cells.{Scalar, Element, Private, In, Out}
use Rattle.ped_steps.specs.ped_store.specs.Stores.{Store, store_at_start, number_in, lines_in}
use Rattle.ped_steps.specs.ped_store.specs.Storage.{elements_of}
use Rattle.ped_steps.specs.ped_store.specs.Variables.{values_of}
use Rattle.ped_steps.specs.ped_eval.specs.Scopes.{Setting}
use Rattle.ped_steps.specs.ped_eval.specs.Runs.{Ending, going, stopped, failed, run_all}
use Rattle.ped_steps.specs.ped_eval.specs.Outcomes.{bounds_of, setting_of, run_of, LiveRow, live_names, live_rows, Ended, Fault, Ends, outcome, outcome_of}
use Rattle.ped_steps.specs.Runs.Renumbering.{EndsAs, IsToldBack, renumbered}
use Rattle.ped_steps.proofs.RunLaws.RenumberedPrograms.{program_renumbered, ends_back, outcome_renumbered}
use Rattle.ped_call_runs.specs.UnitRuns.{main_instance, call_size, call_run, run_units, outcome_of_units}
use Rattle.ped_call_runs.specs.UnitFaults.{FaultsInOwn, expanded_number}
use Rattle.ped_call_runs.proofs.EachNames.{Each}
use Rattle.ped_call_runs.proofs.FollowingStores.{Bond, tight, loose, held, free, Agrees, IsBelow}
use Rattle.ped_call_runs.proofs.FollowingEndings.{EndsAlike, RunAlike}
use Rattle.ped_call_runs.proofs.FollowingNames.{named_cell, unheld, bond_of}
use Rattle.ped_call_runs.proofs.FollowingStatements.{AllStand, statements_follow}
use Rattle.ped_call_runs.proofs.FollowingDepths.{Holds, calls_follow}

-- a live-out variable stands alike on both sides: it keeps its name and its bounds, and holds the same
pub record IsLiveAlike (b : List ℕ → Bond) (f : List ℕ → List ℕ) (t u : ProgramTree) (x : List ℕ) : Type 0 where
  pub name : f x ≡ x
  pub bond : b x ≡ tight
  pub bounds : bounds_of (kind_in u x) ≡ bounds_of (kind_in t x)

-- units and their expansion stand alike: by a naming that is its own inverse, new numbers of statements, and what is known of names
pub record StandAlike (us : ProgramUnits) : Type 0 where
  pub name : List ℕ → List ℕ
  pub twice : (x : List ℕ) → name (name x) ≡ x
  pub bond : List ℕ → Bond
  pub unknown : (x : List ℕ) (n : ℤ) → bond x ≡ held n → ⊥
  pub number : ℕ → ℕ
  pub told : IsToldBack number (expanded_number us)
  pub statements : AllStand bond name (renumbered number (setting_of (expansion us))) [] (call_size (length us.others) us) (call_expanded (length us.others) us (constants_of us.main))
      (Holds us name (renumbered number (setting_of (expansion us))) (length us.others) bond [] (main_instance us) (constants_of us.main)) (main_instance us) us.main.tree.body 1 1 (nothing_given us)
  pub live : live_names (expansion us) ≡ live_names (for_names us.main)
  pub rows : Each (IsLiveAlike bond name (for_names us.main) (expansion us)) (live_names (for_names us.main))

module _ (b : List ℕ → Bond) (f : List ℕ → List ℕ) where
  abbrev Below : Store → Store → Type 0
  Below s w = IsBelow (bond_of b) (named_cell f) s w

  -- nothing is known at the start
  start_below : ((x : List ℕ) (n : ℤ) → b x ≡ held n → ⊥) → (ls : List (List ℕ)) → Below (store_at_start ls) (store_at_start ls)
  start_below unknown ls (Scalar x) = go (b x) (unknown x)
    where
      go : (z : Bond) → ((n : ℤ) → z ≡ held n → ⊥) → Agrees (Scalar x) z (store_at_start ls (Scalar x)) (store_at_start ls (Scalar (f x)))
      go tight h = refl
      go loose h = inr refl
      go (held n) h = absurd (h n refl)
      go free h = tt
  start_below unknown ls (Element x js) = go (b x)
    where
      go : (z : Bond) → Agrees (Element x js) (unheld z) (store_at_start ls (Element x js)) (store_at_start ls (Element (f x) js))
      go tight = refl
      go loose = inr refl
      go (held n) = tt
      go free = tt
  start_below unknown ls (Private x path) = go (b x)
    where
      go : (z : Bond) → Agrees (Private x path) (unheld z) (store_at_start ls (Private x path)) (store_at_start ls (Private (f x) path))
      go tight = refl
      go loose = inr refl
      go (held n) = tt
      go free = tt
  start_below unknown ls In = refl
  start_below unknown ls Out = refl

  -- a live-out variable holds the same
  row_alike : (t u : ProgramTree) (x : List ℕ) → IsLiveAlike b f t u x → (s w : Store) → Below s w → values_of (bounds_of (kind_in u x)) x w ≡ values_of (bounds_of (kind_in t x)) x s
  row_alike t u x a s w below = λ i. values_at (a.bounds i) i
    where
      scalar : w (Scalar x) ≡ s (Scalar x)
      scalar = subst (λ (y : List ℕ). w (Scalar y) ≡ s (Scalar x)) a.name (subst (λ (z : Bond). Agrees (Scalar x) z (s (Scalar x)) (w (Scalar (f x)))) a.bond (below (Scalar x)))

      element : (js : List ℤ) → w (Element x js) ≡ s (Element x js)
      element js = subst (λ (y : List ℕ). w (Element y js) ≡ s (Element x js)) a.name (subst (λ (z : Bond). Agrees (Element x js) (unheld z) (s (Element x js)) (w (Element (f x) js))) a.bond (below (Element x js)))

      values_at : (d : Dimensions) → values_of d x w ≡ values_of d x s
      values_at d = λ i. if has_some d.lower then map (λ js. number_in (element js i)) (elements_of d) else number_in (scalar i) ∷ []

  -- the row of a live-out variable
  abbrev row : ProgramTree → Store → List ℕ → LiveRow
  row t s x = record { name = x; values = values_of (bounds_of (kind_in t x)) x s }

  rows_alike : (t u : ProgramTree) (xs : List (List ℕ)) → Each (IsLiveAlike b f t u) xs → (s w : Store) → Below s w
      → map (row u w) xs ≡ map (row t s) xs
  rows_alike t u [] h s w below = refl
  rows_alike t u (x ∷ xs) h s w below = λ i. record { name = x; values = row_alike t u x h.0 s w below i } ∷ rows_alike t u xs h.1 s w below i

  -- endings that are alike are outcomes that are the same
  module _ (t u : ProgramTree) (live : live_names u ≡ live_names t) (rows : Each (IsLiveAlike b f t u) (live_names t)) where
    shown_alike : (s w : Store) → Below s w → Ended (lines_in (w Out)) (live_rows u w) ≡ Ended (lines_in (s Out)) (live_rows t s)
    shown_alike s w below =
        (λ i. Ended (lines_in (below Out i)) (map (row u w) (live i)))
        ∙ ap (Ended (lines_in (s Out))) (rows_alike t u (live_names t) rows s w below)

    outcome_alike : (e other : Ending) → EndsAlike Below e other → Ends e → outcome_of u other ≡ outcome_of t e
    outcome_alike (going s) other h k = ap (outcome_of u) h.1 ∙ shown_alike s h.0 h.2
    outcome_alike (stopped s) other h k = ap (outcome_of u) h.1 ∙ shown_alike s h.0 h.2
    outcome_alike (failed fault statement) other h k = absurd k

  other_ends : (e other : Ending) → EndsAlike Below e other → Ends e → Ends other
  other_ends (going s) other h k = subst Ends (sym h.1) tt
  other_ends (stopped s) other h k = subst Ends (sym h.1) tt
  other_ends (failed fault statement) other h k = absurd k

module _ (us : ProgramUnits) (a : StandAlike us) where
  abbrev depth : ℕ
  depth = length us.others

  abbrev q : Setting
  q = renumbered a.number (setting_of (expansion us))

  abbrev inner : Called → Given → Expanded Given
  inner = call_expanded depth us (constants_of us.main)

  abbrev R : Store → Store → Type 0
  R = IsBelow (bond_of a.bond) (named_cell a.name)

  -- the ending of the expansion under the numbers of the units
  abbrev renumbered_ending : List ℕ → Ending
  renumbered_ending data_bytes = (run_all q (expansion us).body 1 [] (store_at_start (lines data_bytes))).ending

  -- the units and their expansion, under the numbers of the units, end alike
  units_follow : (data_bytes : List ℕ) → RunAlike R (run_units us data_bytes) (renumbered_ending data_bytes)
  units_follow data_bytes =
      statements_follow a.bond a.name a.twice q [] (call_size depth us) inner (Holds us a.name q depth a.bond [] (main_instance us) (constants_of us.main)) (call_run depth us) (main_instance us)
      (calls_follow us a.name q a.twice depth a.bond [] (main_instance us) (constants_of us.main))
      us.main.tree.body 1 1 (nothing_given us) a.statements [] []
      (record { turns = refl; index = λ x. refl; cell = λ x. refl }) (record { index = λ y h. refl; cell = λ y h. refl })
      (store_at_start (lines data_bytes)) (store_at_start (lines data_bytes)) (start_below a.bond a.name a.unknown (lines data_bytes))

  -- where no undefined variable of a CALL's own is read last, they end alike
  ends_alike : (data_bytes : List ℕ) → (FaultsInOwn (run_units us data_bytes) → ⊥) → EndsAlike R (run_units us data_bytes).ending (renumbered_ending data_bytes)
  ends_alike data_bytes none = go (units_follow data_bytes)
    where
      go : RunAlike R (run_units us data_bytes) (renumbered_ending data_bytes) → EndsAlike R (run_units us data_bytes).ending (renumbered_ending data_bytes)
      go (inl h) = h
      go (inr own) = absurd (none own)

  -- the expansion under its own numbers
  abbrev Same : List ℕ → Type 0
  Same data_bytes = EndsAs a.number (renumbered_ending data_bytes) (run_of (expansion us) data_bytes).ending

  same_ending : (data_bytes : List ℕ) → Same data_bytes
  same_ending data_bytes = (program_renumbered a.number (expanded_number us) a.told (setting_of (expansion us)) (expansion us) (lines data_bytes)).ending

  -- where the run of the units ends, the expansion has the same outcome
  pub outcomes_alike : (data_bytes : List ℕ) → Ends (run_units us data_bytes).ending → outcome (expansion us) data_bytes ≡ outcome_of_units us data_bytes
  outcomes_alike data_bytes ends =
      let units : Ending = (run_units us data_bytes).ending in
      let here : Ending = renumbered_ending data_bytes in
      let there : Ending = (run_of (expansion us) data_bytes).ending in
      let follows : EndsAlike R units here = ends_alike data_bytes (λ own. subst Ends own.ending ends) in
      let same : EndsAs a.number here there = same_ending data_bytes in
      let ended : Ends here = other_ends a.bond a.name units here follows ends in
      let finished : Ends there = ends_back a.number (expanded_number us) a.told here there same ended in
      sym (outcome_renumbered a.number (expansion us) here there same finished)
      ∙ outcome_alike a.bond a.name (for_names us.main) (expansion us) a.live a.rows units here follows ends

  -- where it faults, so does the expansion, but for an undefined variable of a CALL's own
  pub faults_alike : (data_bytes : List ℕ) (fault statement : ℕ) → (run_units us data_bytes).ending ≡ failed fault statement → (FaultsInOwn (run_units us data_bytes) → ⊥) → outcome (expansion us) data_bytes ≡ Fault fault (expanded_number us statement)
  faults_alike data_bytes fault statement fails none =
      let here : renumbered_ending data_bytes ≡ failed fault statement = subst (λ (e : Ending). EndsAlike R e (renumbered_ending data_bytes)) fails (ends_alike data_bytes none) in
      go (run_of (expansion us) data_bytes).ending (subst (λ (e : Ending). EndsAs a.number e (run_of (expansion us) data_bytes).ending) here (same_ending data_bytes))
    where
      go : (there : Ending) → EndsAs a.number (failed fault statement) there → outcome_of (expansion us) there ≡ Fault fault (expanded_number us statement)
      go (going s) h = absurd h
      go (stopped s) h = absurd h
      go (failed other old) h = λ i. Fault (sym h.0 i) ((sym (a.told.back old) ∙ ap (expanded_number us) (sym h.1)) i)

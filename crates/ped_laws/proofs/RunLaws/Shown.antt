-- What is shown at the end of a program.
use Rattle.std.proofs.Common.{◌≡◌, ℕ, ℤ, List, [], ◌∷◌, map, Bool, true, false, Option, refl, ap, if◌then◌else◌, ◌||◌}
use Rattle.std.specs.Str.Lines.{lines}
use mathlib.Core.Path.{fun_ext}
use Rattle.ped_flow.specs.ped_base.specs.Dimensions.{Dimensions}
use Rattle.ped_flow.specs.ped_base.specs.Lists.{has_some, is_same_text, is_among}
use Rattle.ped_flow.specs.ped_tree.specs.Tree.{ProgramTree}
use Rattle.ped_eval.specs.ped_store.specs.Cells.{Scalar, Element, Out}
use Rattle.ped_eval.specs.ped_store.specs.Stores.{Content, Store, store_at_start, number_in, lines_in}
use Rattle.ped_eval.specs.ped_store.specs.Storage.{elements_of}
use Rattle.ped_eval.specs.ped_store.specs.Variables.{values_of}
use Rattle.ped_eval.specs.ped_store.specs.Acts.{Act}
use Rattle.ped_laws.specs.Acts.Fitting.{Fits, store_after}
use Rattle.ped_laws.specs.Acts.Sets.{AgreeIn}
use Rattle.ped_laws.proofs.ActLaws.SameCells.{text_itself}
use Rattle.ped_laws.proofs.ActLaws.Renamings.{or_right}
use Rattle.ped_graph.specs.ped_symbols.specs.Kinds.{kind_in}
use Rattle.ped_eval.specs.Outcomes.{bounds_of, setting_of, run_of, LiveRow, live_names, live_rows, Ended, outcome_of, outcome}
use Rattle.ped_eval.specs.Runs.{Run, run_all}
use Rattle.ped_laws.specs.Runs.Replaying.{Finish, goes_on, stops, faults, ending_with, Replays}
use Rattle.ped_laws.specs.Runs.Showing.{shown_at_end}
use Rattle.ped_laws.proofs.RunLaws.StatementsTold.{all_told}

module _ (t : ProgramTree) (u v : Store) (agree : AgreeIn (shown_at_end t) u v) where
  values_same : (bounds : Dimensions) (x : List ℕ) → is_among x (live_names t) ≡ true → values_of bounds x u ≡ values_of bounds x v
  values_same bounds x h = go (has_some bounds.lower)
    where
      go : (b : Bool) → (if b then map (λ js. number_in (u (Element x js))) (elements_of bounds) else number_in (u (Scalar x)) ∷ [])
          ≡ (if b then map (λ js. number_in (v (Element x js))) (elements_of bounds) else number_in (v (Scalar x)) ∷ [])
      go true = ap (λ (f : List ℤ → Option ℤ). map f (elements_of bounds)) (fun_ext (λ js. ap number_in (agree (Element x js) h)))
      go false = ap (λ (c : Content). number_in c ∷ []) (agree (Scalar x) h)

  rows_same : (names : List (List ℕ)) → ((x : List ℕ) → is_among x names ≡ true → is_among x (live_names t) ≡ true)
      → map {B = LiveRow} (λ x. record { name = x; values = values_of (bounds_of (kind_in t x)) x u }) names ≡ map (λ x. record { name = x; values = values_of (bounds_of (kind_in t x)) x v }) names
  rows_same [] h = refl
  rows_same (x ∷ names) h =
      let first = values_same (bounds_of (kind_in t x)) x (h x (ap (λ b. b || is_among x names) (text_itself x))) in
      let rest = rows_same names (λ y i. h y (or_right (is_same_text y x) (is_among y names) i)) in
      λ i. record { name = x; values = first i } ∷ rest i

  shown_same : Ended (lines_in (u Out)) (live_rows t u) ≡ Ended (lines_in (v Out)) (live_rows t v)
  shown_same = let rows = rows_same (live_names t) (λ x i. i) in let out = agree Out refl in λ i. Ended (lines_in (out i)) (rows i)

  -- stores that agree on what is shown have one outcome
  pub outcome_same : (finish : Finish) → outcome_of t (ending_with finish u) ≡ outcome_of t (ending_with finish v)
  outcome_same goes_on = shown_same
  outcome_same stops = shown_same
  outcome_same (faults fault statement) = refl

-- the acts of a program's run fit the store at the start
pub program_fits : (t : ProgramTree) (data_bytes : List ℕ) → Fits (run_of t data_bytes).acts (store_at_start (lines data_bytes))
program_fits t data_bytes = (all_told (setting_of t) t.body 1 []).fits (store_at_start (lines data_bytes))

-- acts that the program replays, and that fit there, are its run
pub program_run : (t : ProgramTree) (data_bytes : List ℕ) (acts : List Act) (finish : Finish) → Replays (run_all (setting_of t) t.body 1 []) acts finish → Fits acts (store_at_start (lines data_bytes))
    → run_of t data_bytes ≡ record { acts = acts; ending = ending_with finish (store_after acts (store_at_start (lines data_bytes))) }
program_run t data_bytes acts finish h f = h (store_at_start (lines data_bytes)) f

pub program_outcome : (t : ProgramTree) (data_bytes : List ℕ) (acts : List Act) (finish : Finish) → Replays (run_all (setting_of t) t.body 1 []) acts finish → Fits acts (store_at_start (lines data_bytes))
    → outcome t data_bytes ≡ outcome_of t (ending_with finish (store_after acts (store_at_start (lines data_bytes))))
program_outcome t data_bytes acts finish h f = ap (λ (r : Run). outcome_of t r.ending) (program_run t data_bytes acts finish h f)

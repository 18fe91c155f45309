-- A program in which statements have been exchanged for others keeps its meaning, where a step shows what it has to.
use Rattle.std.proofs.Common.{◌≡◌, ℕ, List, [], ◌∷◌, ◌++◌, map, Bool, true, not, ◌||◌, inl, inr, refl, sym, ap, subst, ◌∙◌}
use Rattle.std.specs.Str.Lines.{lines}
use Rattle.std.specs.List.{flat_map}
use Rattle.ped_bodies.specs.ped_flow.specs.ped_base.specs.Lists.{is_same_text, is_among}
use Rattle.ped_bodies.specs.ped_flow.specs.ped_tree.specs.Tree.{StmtTrees, ProgramTree}
use Rattle.ped_bodies.specs.ped_flow.specs.ped_tree.specs.Numbering.{statements_count}
use Rattle.ped_bodies.specs.ped_flow.specs.ped_tree.specs.NamesIn.{saved_in}
use Rattle.ped_bodies.specs.ped_store.specs.Cells as cells
use Rattle.ped_bodies.specs.ped_store.specs.Cells.{Cell}
use Rattle.ped_bodies.specs.ped_store.specs.Stores.{Store, store_at_start, lines_in}
use Rattle.ped_bodies.specs.ped_store.specs.Variables.{values_of}
use Rattle.ped_bodies.specs.ped_store.specs.Acts.{Act}
use Rattle.ped_bodies.specs.ped_store.specs.Races.{accesses, HasNoRace}
use Rattle.ped_bodies.specs.ped_laws.specs.Acts.Fitting.{Fits, store_after, touches_of, of_cells}
use Rattle.ped_bodies.specs.ped_laws.specs.Acts.Sets.{AgreeIn, wants}
use Rattle.ped_bodies.specs.ped_laws.specs.Acts.Pieces.{Part, same, changed, old_parts, new_parts, StandsFor}
use Rattle.ped_bodies.specs.ped_laws.proofs.ActLaws.SameCells.{text_itself}
use Rattle.ped_bodies.specs.ped_laws.proofs.ActLaws.Stores.{after_append, fits_append, fits_first, fits_rest}
use Rattle.ped_bodies.specs.ped_laws.proofs.ActLaws.Renamings.{or_left, or_right, or_either, own_names}
use Rattle.ped_bodies.specs.ped_laws.proofs.ActLaws.Exchanging.{same_stands, needed_wanted, wanted_before, shown_wanted}
use Rattle.ped_bodies.specs.ped_symbols.specs.Kinds.{kind_in}
use Rattle.ped_bodies.specs.ped_laws.specs.Runs.Showing.{shown_at_end}
use Rattle.ped_bodies.specs.ped_laws.specs.Runs.Replaying.{Finish, goes_on, stops, faults, finish_of, ending_with, Replays}
use Rattle.ped_bodies.specs.ped_laws.proofs.RunLaws.Shown.{outcome_same}
use Rattle.ped_bodies.specs.ped_laws.proofs.RunLaws.Told.{own_run}
use Rattle.ped_bodies.specs.ped_laws.proofs.RunLaws.StatementsTold.{all_told}
use Rattle.ped_bodies.specs.ped_eval.specs.Scopes.{Setting}
use Rattle.ped_bodies.specs.ped_eval.specs.Loops.{sorted_once}
use Rattle.ped_bodies.specs.ped_eval.specs.Runs.{Ending, going, stopped, failed, Run, run_all}
use Rattle.ped_bodies.specs.ped_eval.specs.Outcomes as outcomes
use Rattle.ped_bodies.specs.ped_eval.specs.Outcomes.{setting_of, run_of, bounds_of, LiveRow, live_names, live_rows, outcome_of, outcome, Ends, IsRaceFree}
use Rattle.ped_bodies.specs.ped_steps.specs.Runs.Gaps.{Gap, number_at}
use Rattle.ped_bodies.specs.ped_steps.specs.Runs.Meaning.{Keeps}
use Rattle.ped_bodies.specs.ped_steps.specs.Runs.Renumbering.{IsRenumbered, IsToldBack, renumbered}
use Rattle.ped_bodies.specs.ped_steps.proofs.RunLaws.RenumberedPrograms.{program_renumbered, ends_back, no_race_back, outcome_renumbered}
use Rattle.ped_loop_runs.specs.Pasting.{PartsStandBy}
use Rattle.ped_loop_runs.specs.Meaning.{SuitEnds, KeepsOn, IsExchange}
use Rattle.ped_loop_runs.specs.OtherCopies.{AreExchangedNear, IsExchangeNear}
use Rattle.ped_loop_runs.proofs.PastingLaws.PastedRuns.{Exchanged, exchanged, exchanged_near}
use Rattle.ped_loop_runs.proofs.PastingLaws.StandingParts.{all_stand, all_stand_near}

-- parts that stand for others fit, and the stores agree on what is shown
module _ (shown : Cell → Bool) (agreed : List Act → Cell → Bool) (suit : SuitEnds shown agreed) where
  own_stands : (acts rest : List Act) (s : Store) → Fits acts s → StandsFor (record { agreed = agreed (acts ++ rest); old = acts; new = acts }) (agreed rest) s
  own_stands acts rest s f = same_stands acts acts (agreed (acts ++ rest)) (agreed rest) s (own_names (of_cells (touches_of acts))) f (suit.needed acts rest) (suit.kept acts rest)

  pub parts_fit : (ps : List Part) (s t : Store) → PartsStandBy agreed ps s → AgreeIn (agreed (old_parts ps)) s t → Fits (old_parts ps) s → Fits (new_parts ps) t
  parts_fit [] s t k agree f = tt
  parts_fit (same acts ∷ ps) s t k agree f =
      let h = own_stands acts (old_parts ps) s (fits_first acts (old_parts ps) s f) t agree in
      fits_append acts (new_parts ps) t h.0 (parts_fit ps (store_after acts s) (store_after acts t) k h.1 (fits_rest acts (old_parts ps) s f))
  parts_fit (changed old new ∷ ps) s t k agree f =
      let h = k.0 t agree in
      fits_append new (new_parts ps) t h.0 (parts_fit ps (store_after old s) (store_after new t) k.1 h.1 (fits_rest old (old_parts ps) s f))

  pub parts_leave : (ps : List Part) (s t : Store) → PartsStandBy agreed ps s → AgreeIn (agreed (old_parts ps)) s t → Fits (old_parts ps) s → AgreeIn shown (store_after (old_parts ps) s) (store_after (new_parts ps) t)
  parts_leave [] s t k agree f c h = agree c (suit.shows c h)
  parts_leave (same acts ∷ ps) s t k agree f c h =
      let a = own_stands acts (old_parts ps) s (fits_first acts (old_parts ps) s f) t agree in
      ap (λ z. z c) (after_append acts (old_parts ps) s) ∙ parts_leave ps (store_after acts s) (store_after acts t) k a.1 (fits_rest acts (old_parts ps) s f) c h
      ∙ sym (ap (λ z. z c) (after_append acts (new_parts ps) t))
  parts_leave (changed old new ∷ ps) s t k agree f c h =
      let a = k.0 t agree in
      ap (λ z. z c) (after_append old (old_parts ps) s) ∙ parts_leave ps (store_after old s) (store_after new t) k.1 a.1 (fits_rest old (old_parts ps) s f) c h
      ∙ sym (ap (λ z. z c) (after_append new (new_parts ps) t))

ends_so : (finish : Finish) (v w : Store) → Ends (ending_with finish v) → Ends (ending_with finish w)
ends_so goes_on v w h = tt
ends_so stops v w h = tt
ends_so (faults fault n) v w h = absurd h

-- what acts want suits, and so does all that doesn't stand apart, and of the rest what they want
pub wanted_suit : (shown : Cell → Bool) → SuitEnds shown (wants shown)
wanted_suit shown = record { needed = needed_wanted shown; kept = wanted_before shown; shows = shown_wanted shown }

pub apart_suit : (apart shown : Cell → Bool) → SuitEnds shown (λ acts c. not (apart c) || wants shown acts c)
apart_suit apart shown = record {
  needed = λ acts rest c h. or_right (not (apart c)) (wants shown (acts ++ rest) c) (needed_wanted shown acts rest c h);
  kept = λ acts rest c h. elim (or_either (not (apart c)) (wants shown rest c) h) [
    | inl other ↦ inl (or_left (not (apart c)) (wants shown (acts ++ rest) c) other)
    | inr wanted ↦ elim (wanted_before shown acts rest c wanted) [ inl so ↦ inl (or_right (not (apart c)) (wants shown (acts ++ rest) c) so) | inr written ↦ inr written ]
  ];
  shows = λ c h. or_right (not (apart c)) (wants shown [] c) (shown_wanted shown c h);
}

-- names of the same kinds have the same rows
module _ (t u : ProgramTree) (saved : flat_map saved_in u.decls ≡ flat_map saved_in t.decls) (kinds : (x : List ℕ) → is_among x (live_names t) ≡ true → kind_in u x ≡ kind_in t x) where
  abbrev row : ProgramTree → Store → List ℕ → LiveRow
  row s v x = record { name = x; values = values_of (bounds_of (kind_in s x)) x v }

  rows_of : (v : Store) (names : List (List ℕ)) → ((x : List ℕ) → is_among x names ≡ true → kind_in u x ≡ kind_in t x)
      → map (row u v) names ≡ map (row t v) names
  rows_of v [] alike = refl
  rows_of v (x ∷ xs) alike = λ i. record { name = x; values = values_of (bounds_of (alike x (or_left (is_same_text x x) (is_among x xs) (text_itself x)) i)) x v } ∷ rows_of v xs (λ y k. alike y (or_right (is_same_text y x) (is_among y xs) k)) i

  same_names : live_names u ≡ live_names t
  same_names = ap sorted_once saved

  rows : (v : Store) → live_rows u v ≡ live_rows t v
  rows v = ap (λ (names : List (List ℕ)). map (row u v) names) same_names ∙ rows_of v (live_names t) kinds

  pub shown_alike : (e : Ending) → outcome_of u e ≡ outcome_of t e
  shown_alike (going v) = ap (outcomes.Ended (lines_in (v cells.Out))) (rows v)
  shown_alike (stopped v) = ap (outcomes.Ended (lines_in (v cells.Out))) (rows v)
  shown_alike (failed fault n) = refl

-- a new program whose run on these data is made of parts, which stand for those of the old one and make no race where they are its acts
pub record IsMadeAnew (t u : ProgramTree) (data_bytes : List ℕ) : Type 0 where
  pub saved : flat_map saved_in u.decls ≡ flat_map saved_in t.decls
  pub kinds : (x : List ℕ) → is_among x (live_names t) ≡ true → kind_in u x ≡ kind_in t x
  pub counted : ℕ → ℕ
  pub told : ℕ → ℕ
  pub back : IsToldBack counted told
  pub agreed : List Act → Cell → Bool
  pub suit : SuitEnds (shown_at_end t) agreed
  pub parts : List Part
  pub old_are : old_parts parts ≡ (run_of t data_bytes).acts
  pub stand : PartsStandBy agreed parts (store_at_start (lines data_bytes))
  pub replays : Replays (run_all (renumbered counted (setting_of u)) u.body 1 []) (new_parts parts) (finish_of (run_of t data_bytes).ending)
  pub free : new_parts parts ≡ (run_all (renumbered counted (setting_of u)) u.body 1 [] (store_at_start (lines data_bytes))).acts → HasNoRace (accesses (old_parts parts)) → HasNoRace (accesses (new_parts parts))

module _ (t u : ProgramTree) (data_bytes : List ℕ) (free : IsRaceFree t data_bytes) (x : IsMadeAnew t u data_bytes) where
  abbrev p : Setting
  p = setting_of t

  abbrev q : Setting
  q = renumbered x.counted (setting_of u)

  abbrev start : Store
  start = store_at_start (lines data_bytes)

  abbrev finish : Finish
  finish = finish_of (run_of t data_bytes).ending

  abbrev parts : List Part
  parts = x.parts

  fit : Fits (old_parts parts) start
  fit = subst (λ (acts : List Act). Fits acts start) (sym x.old_are) ((all_told p t.body 1 []).fits start)

  new_run : run_all q u.body 1 [] start ≡ record { acts = new_parts parts; ending = ending_with finish (store_after (new_parts parts) start) }
  new_run = x.replays start (parts_fit (shown_at_end t) x.agreed x.suit parts start start x.stand (λ c k. refl) fit)

  old_run : run_of t data_bytes ≡ record { acts = (run_of t data_bytes).acts; ending = ending_with finish (store_after (run_of t data_bytes).acts start) }
  old_run = own_run (run_all p t.body 1 []) (all_told p t.body 1 []) start

  agree : AgreeIn (shown_at_end t) (store_after (run_of t data_bytes).acts start) (store_after (new_parts parts) start)
  agree =
      subst (λ (acts : List Act). AgreeIn (shown_at_end t) (store_after acts start) (store_after (new_parts parts) start)) x.old_are
      (parts_leave (shown_at_end t) x.agreed x.suit parts start start x.stand (λ c k. refl) fit)

  -- the new program under the numbers that tell the old ones
  moved : IsRenumbered x.counted (run_all q u.body 1 [] start) (run_of u data_bytes)
  moved = program_renumbered x.counted x.told x.back (setting_of u) u (lines data_bytes)

  moved_ends : Ends (run_all q u.body 1 [] start).ending
  moved_ends =
      subst (λ (r : Run). Ends r.ending) (sym new_run)
      (ends_so finish (store_after (run_of t data_bytes).acts start) (store_after (new_parts parts) start) (subst (λ (r : Run). Ends r.ending) old_run free.0))

  new_ends : Ends (run_of u data_bytes).ending
  new_ends = ends_back x.counted x.told x.back (run_all q u.body 1 [] start).ending (run_of u data_bytes).ending moved.ending moved_ends

  outcome_kept : outcome u data_bytes ≡ outcome t data_bytes
  outcome_kept =
      sym (outcome_renumbered x.counted u (run_all q u.body 1 [] start).ending (run_of u data_bytes).ending moved.ending new_ends)
      ∙ ap (λ (r : Run). outcome_of u r.ending) new_run ∙ shown_alike t u x.saved x.kinds (ending_with finish (store_after (new_parts parts) start))
      ∙ sym (outcome_same t (store_after (run_of t data_bytes).acts start) (store_after (new_parts parts) start) agree finish) ∙ ap (λ (r : Run). outcome_of t r.ending) (sym old_run)

  new_free : HasNoRace (accesses (run_of u data_bytes).acts)
  new_free =
      no_race_back x.counted x.told x.back (run_of u data_bytes).acts (run_all q u.body 1 [] start).acts moved.acts
      (subst (λ (r : Run). HasNoRace (accesses r.acts)) (sym new_run)
      (x.free (sym (ap (λ (r : Run). r.acts) new_run)) (subst (λ (acts : List Act). HasNoRace (accesses acts)) (sym x.old_are) free.1)))

  pub made_keeps : KeepsOn t u data_bytes
  made_keeps = record { same = outcome_kept; race_free = (new_ends, new_free) }

-- what is kept on all data on which a program runs without a fault and without a race is its meaning
pub keeps_always : (t u : ProgramTree) → flat_map saved_in u.decls ≡ flat_map saved_in t.decls → ((data_bytes : List ℕ) → IsRaceFree t data_bytes → KeepsOn t u data_bytes) → Keeps t u
keeps_always t u saved kept = record { saved = saved; same = λ data_bytes free. (kept data_bytes free).same; race_free = λ data_bytes free. (kept data_bytes free).race_free }

module _ (gap : Gap) (old new : StmtTrees) (t u : ProgramTree) where
  abbrev l : ℕ
  l = number_at gap 1

  abbrev from : List ℕ → Store
  from data_bytes = store_at_start (lines data_bytes)

  -- statements exchanged, where no name comes or goes
  module _ (data_bytes : List ℕ) (free : IsRaceFree t data_bytes) (x : IsExchange gap old new t u data_bytes) where
    made : Exchanged (setting_of t) t (from data_bytes) l (statements_count old) (run_all (setting_of t) old l) x.fresh (run_all (renumbered x.counted (setting_of u)) u.body 1 []) (finish_of (run_of t data_bytes).ending)
    made = exchanged (setting_of t) (renumbered x.counted (setting_of u)) gap old new t u (from data_bytes) x.fresh x.pasted x.instead free.0

    pub exchange_keeps_on : KeepsOn t u data_bytes
    exchange_keeps_on = made_keeps t u data_bytes free (record {
      saved = x.saved;
      kinds = x.kinds;
      counted = x.counted;
      told = x.told;
      back = x.back;
      agreed = x.agreed;
      suit = x.suit;
      parts = made.0;
      old_are = made.1;
      stand = all_stand x.agreed (setting_of t) t (from data_bytes) l (statements_count old) (run_all (setting_of t) old l) x.fresh x.stand made.0 made.2;
      replays = made.3;
      free = λ same. x.free made.0 made.1 same made.2;
    })

  pub exchange_keeps : flat_map saved_in u.decls ≡ flat_map saved_in t.decls → ((data_bytes : List ℕ) → IsRaceFree t data_bytes → IsExchange gap old new t u data_bytes) → Keeps t u
  exchange_keeps saved exchange = keeps_always t u saved (λ data_bytes free. exchange_keeps_on data_bytes free (exchange data_bytes free))

  -- and where names come or go
  pub exchange_near_keeps : (names : List (List ℕ)) (apart : Cell → Bool) → IsExchangeNear names apart gap old new t u → Keeps t u
  exchange_near_keeps names apart x = keeps_always t u x.saved (λ data_bytes free. made_keeps t u data_bytes free (record {
    saved = x.saved;
    kinds = x.kinds;
    counted = x.counted;
    told = x.told;
    back = x.back;
    agreed = x.agreed data_bytes;
    suit = x.suit data_bytes;
    parts = (made data_bytes free).0;
    old_are = (made data_bytes free).1;
    stand =
        all_stand_near (shown_at_end t) (x.agreed data_bytes) (x.suit data_bytes) names apart (setting_of t) t (from data_bytes) l (statements_count old) (run_all (setting_of t) old l) (x.fresh data_bytes)
        (x.stand data_bytes free) (x.asked data_bytes free) (made data_bytes free).0 (made data_bytes free).2;
    replays = (made data_bytes free).3;
    free = λ same. x.free data_bytes free (made data_bytes free).0 (made data_bytes free).1 (made data_bytes free).2;
  }))
    where
      made : (data_bytes : List ℕ) → IsRaceFree t data_bytes
          → (parts : List Part) × (old_parts parts ≡ (run_of t data_bytes).acts) × AreExchangedNear names apart (setting_of t) t (from data_bytes) l (statements_count old) (run_all (setting_of t) old l) (x.fresh data_bytes) [] parts [] (from data_bytes)
          × Replays (run_all (renumbered x.counted (setting_of u)) u.body 1 []) (new_parts parts) (finish_of (run_of t data_bytes).ending)
      made data_bytes free =
          exchanged_near names apart (setting_of t) (renumbered x.counted (setting_of u)) gap old new t u (from data_bytes) (x.fresh data_bytes) x.pasted (x.quiet data_bytes free) (x.instead data_bytes free) free.0

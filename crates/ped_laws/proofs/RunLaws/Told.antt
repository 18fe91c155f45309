-- The acts of a piece of a run tell it: how this goes from parts to wholes.
use Rattle.std.proofs.Common.{◌≡◌, ℕ, suc, List, [], ◌∷◌, ◌++◌, Result, Ok, Err, refl, sym, ap, subst, ◌∙◌}
use Rattle.ped_eval.specs.ped_store.specs.Stores.{Store}
use Rattle.ped_eval.specs.ped_store.specs.Acts.{Touch, Act, Place, Step, store_behind, faulted}
use Rattle.ped_laws.specs.Acts.Fitting.{Find, Fits, store_after}
use Rattle.ped_laws.proofs.ActLaws.Stores.{after_append, fits_append, fits_first, fits_rest}
use Rattle.ped_eval.specs.Evaluation.{Seen, cell_seen, index_seen, Evaluated, numbered}
use Rattle.ped_eval.specs.Runs.{stopped, Run, nothing_done, followed_by, then_run, does, on_value, on}
use Rattle.ped_laws.specs.Runs.Seeing.{Holds, ComesTo, IsToldBySight}
use Rattle.ped_laws.specs.Runs.Replaying.{Finish, goes_on, stops, faults, finish_of, ending_with, behind, Replays, IsToldByActs}

-- reads find what is held
pub reads_found : (seen : List Seen) (n : ℕ) (s : Store) → Holds s seen → Find (numbered n seen) s
reads_found [] n s h = tt
reads_found (cell_seen c content ∷ more) n s h = (h.0, reads_found more (suc n) s h.1)
reads_found (index_seen c v ∷ more) n s h = (tt, reads_found more n s h)

pub found_reads : (seen : List Seen) (n : ℕ) (s : Store) → Find (numbered n seen) s → Holds s seen
found_reads [] n s f = tt
found_reads (cell_seen c content ∷ more) n s f = (f.0, found_reads more (suc n) s f.1)
found_reads (index_seen c v ∷ more) n s f = found_reads more n s f.1

-- and then other touches
pub reads_found_first : (seen : List Seen) (n : ℕ) (ts : List Touch) (s : Store) → Holds s seen → Find ts s → Find (numbered n seen ++ ts) s
reads_found_first [] n ts s h f = f
reads_found_first (cell_seen c content ∷ more) n ts s h f = (h.0, reads_found_first more (suc n) ts s h.1 f)
reads_found_first (index_seen c v ∷ more) n ts s h f = (tt, reads_found_first more n ts s h f)

pub found_reads_first : (seen : List Seen) (n : ℕ) (ts : List Touch) (s : Store) → Find (numbered n seen ++ ts) s → Holds s seen
found_reads_first [] n ts s f = tt
found_reads_first (cell_seen c content ∷ more) n ts s f = (f.0, found_reads_first more (suc n) ts s f.1)
found_reads_first (index_seen c v ∷ more) n ts s f = found_reads_first more n ts s f.1

pub found_behind_reads : (seen : List Seen) (n : ℕ) (ts : List Touch) (s : Store) → Find (numbered n seen ++ ts) s → Find ts s
found_behind_reads [] n ts s f = f
found_behind_reads (cell_seen c content ∷ more) n ts s f = found_behind_reads more (suc n) ts s f.1
found_behind_reads (index_seen c v ∷ more) n ts s f = found_behind_reads more n ts s f.1

-- what a run from one store says of all stores
abbrev pub Tells : (Store → Run) → Store → Run → Type 0
Tells piece s r = Fits r.acts s × Replays piece r.acts (finish_of r.ending)

pub told_by : (piece : Store → Run) → ((s : Store) → Tells piece s (piece s)) → IsToldByActs piece
told_by piece h = record { fits = λ s. (h s).0; replays = λ s. (h s).1 }

-- a piece ends with the store that its acts leave
pub own_run : (piece : Store → Run) → IsToldByActs piece → (s : Store) → piece s ≡ record { acts = (piece s).acts; ending = ending_with (finish_of (piece s).ending) (store_after (piece s).acts s) }
own_run piece told s = told.replays s s (told.fits s)

pub nothing_told : IsToldByActs nothing_done
nothing_told = record { fits = λ s. tt; replays = λ s u h. refl }

pub stop_told : IsToldByActs (λ s. record { acts = []; ending = stopped s })
stop_told = record { fits = λ s. tt; replays = λ s u h. refl }

-- a run behind acts that go on
pub replays_behind : (f g : Store → Run) (acts others : List Act) (finish : Finish) → Replays f acts goes_on → Replays g others finish → Replays (λ s. then_run (f s) g) (acts ++ others) finish
replays_behind f g acts others finish h k s fit =
    ap (λ (r : Run). then_run r g) (h s (fits_first acts others s fit))
    ∙ ap (behind acts) (k (store_after acts s) (fits_rest acts others s fit))
    ∙ ap (λ (u : Store). record { acts = acts ++ others; ending = ending_with finish u }) (sym (after_append acts others s))

pub replays_stopped : (f g : Store → Run) (acts : List Act) → Replays f acts stops → Replays (λ s. then_run (f s) g) acts stops
replays_stopped f g acts h s fit = ap (λ (r : Run). then_run r g) (h s fit)

pub replays_failed : (f g : Store → Run) (acts : List Act) (fault statement : ℕ) → Replays f acts (faults fault statement) → Replays (λ s. then_run (f s) g) acts (faults fault statement)
replays_failed f g acts fault statement h s fit = ap (λ (r : Run). then_run r g) (h s fit)

-- one piece and then another
module _ (f g : Store → Run) (f_told : IsToldByActs f) (g_told : IsToldByActs g) where
  followed : (s u : Store) (acts : List Act) (finish : Finish) → Fits acts s → u ≡ store_after acts s → Replays f acts finish → Tells (λ v. then_run (f v) g) s (followed_by acts (ending_with finish u) g)
  followed s u acts goes_on fit e h =
      (fits_append acts (g u).acts s fit (subst (Fits (g u).acts) e (g_told.fits u)), replays_behind f g acts (g u).acts (finish_of (g u).ending) h (g_told.replays u))
  followed s u acts stops fit e h = (fit, replays_stopped f g acts h)
  followed s u acts (faults fault statement) fit e h = (fit, replays_failed f g acts fault statement h)

  pub then_told : IsToldByActs (λ s. then_run (f s) g)
  then_told = told_by (λ s. then_run (f s) g) λ s.
      let e = ap (λ (r : Run). followed_by (f s).acts r.ending g) (own_run f f_told s) in
      subst (Tells (λ v. then_run (f v) g) s) (sym e) (followed s (store_after (f s).acts s) (f s).acts (finish_of (f s).ending) (f_told.fits s) refl (f_told.replays s))

-- an act and then a piece
pub replays_act : (step : Step) (at : Place) (touches : List Touch) (next : Store → Run) (acts : List Act) (finish : Finish) → Replays next acts finish
    → Replays (does step at touches next) (record { step = step; place = at; touches = touches } ∷ acts) finish
replays_act step at touches next acts finish h s fit = ap (behind (record { step = step; place = at; touches = touches } ∷ [])) (h (store_behind touches s) fit.1)

pub does_told : (step : Step) (at : Place) (touches : List Touch) (next : Store → Run) → ((s : Store) → Find touches s) → IsToldByActs next → IsToldByActs (does step at touches next)
does_told step at touches next found told = record {
  fits = λ s. (found s, told.fits (store_behind touches s));
  replays = λ s. replays_act step at touches next (next (store_behind touches s)).acts (finish_of (next (store_behind touches s)).ending) (told.replays (store_behind touches s));
}

-- an evaluation, an act that reads what it has seen, and then a piece
pub replays_fault : {A : Type 0} (at : Place) (e : Store → Evaluated A) (k : Store → List Seen → A → Run) (seen : List Seen) (n : ℕ) → ComesTo e seen (Err n)
    → Replays (λ s. on at (e s) (k s)) (record { step = faulted; place = at; touches = numbered 1 seen } ∷ []) (faults n at.statement)
replays_fault at e k seen n h s fit = ap (λ (z : Evaluated _). on at z (k s)) (h s (found_reads seen 1 s fit.0))

pub replays_on : {A : Type 0} (at : Place) (e : Store → Evaluated A) (step : Step) (touches : Store → List Seen → A → List Touch) (steps : List Seen → A → Step) (next : List Seen → A → Store → Run)
    (seen : List Seen) (x : A) (done : List Touch) (acts : List Act) (finish : Finish)
    → ComesTo e seen (Ok x) → steps seen x ≡ step → ((s : Store) → Find done s → Holds s seen × (touches s seen x ≡ done)) → Replays (next seen x) acts finish
    → Replays (λ s. on at (e s) (λ seen x. does (steps seen x) at (touches s seen x) (next seen x) s)) (record { step = step; place = at; touches = done } ∷ acts) finish
replays_on at e step touches steps next seen x done acts finish h same again k s fit =
    ap (λ (z : Evaluated _). on at z (λ seen x. does (steps seen x) at (touches s seen x) (next seen x) s)) (h s (again s fit.0).0)
    ∙ (λ i. does (same i) at ((again s fit.0).1 i) (next seen x) s)
    ∙ replays_act step at done (next seen x) acts finish k s fit

module _ {A : Type 0} (at : Place) (e : Store → Evaluated A) (e_told : IsToldBySight e) (touches : Store → List Seen → A → List Touch) (steps : List Seen → A → Step) (next : List Seen → A → Store → Run)
    (found : (seen : List Seen) (x : A) (s : Store) → Holds s seen → Find (touches s seen x) s)
    (again : (seen : List Seen) (x : A) (s u : Store) → Find (touches s seen x) u → Holds u seen × (touches u seen x ≡ touches s seen x))
    (next_told : (seen : List Seen) (x : A) → IsToldByActs (next seen x)) where
  came : (s : Store) (seen : List Seen) (r : Result A ℕ) → Holds s seen → ComesTo e seen r
      → Tells (λ v. on at (e v) (λ seen x. does (steps seen x) at (touches v seen x) (next seen x) v)) s (on_value at seen r (λ seen x. does (steps seen x) at (touches s seen x) (next seen x) s))
  came s seen (Ok x) h comes =
      let u = store_behind (touches s seen x) s in (
        (found seen x s h, (next_told seen x).fits u),
        replays_on at e (steps seen x) touches steps next seen x (touches s seen x) (next seen x u).acts (finish_of (next seen x u).ending) comes refl (λ v. again seen x s v) ((next_told seen x).replays u),
      )
  came s seen (Err n) h comes = ((reads_found seen 1 s h, tt), replays_fault at e (λ v seen x. does (steps seen x) at (touches v seen x) (next seen x) v) seen n comes)

  pub on_told : IsToldByActs (λ s. on at (e s) (λ seen x. does (steps seen x) at (touches s seen x) (next seen x) s))
  on_told = told_by (λ s. on at (e s) (λ seen x. does (steps seen x) at (touches s seen x) (next seen x) s)) λ s. came s (e s).seen (e s).result (e_told.holds s) (e_told.comes s)

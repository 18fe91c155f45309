-- What a watch is told of runs that follow one another.
use Rattle.std.proofs.Common.{◌≡◌, ℕ, List, [], ◌∷◌, ◌++◌, map, Result, Ok, Err, refl, sym, ap, subst, ◌∙◌}
use Rattle.std.specs.Prelude.{filter}
use Rattle.std.proofs.lemmas.List.{append-nil}
use Rattle.std.proofs.lemmas.List.Concat.{flat_map-append}
use Rattle.ped_store.specs.Stores.{Store}
use Rattle.ped_store.specs.Acts.{Touch, Place, Step, Act}
use Rattle.ped_store.specs.Races.{Access, is_access, is_write, accesses_of, accesses}
use Rattle.ped_eval.specs.Scopes.{Scope}
use Rattle.ped_eval.specs.Runs.{Ending, going, stopped, failed, Run, followed_by, then_run}
use Rattle.ped_eval.specs.Told.{Stops, Fails, TellsFrom}
use Rattle.ped_eval.specs.Follow.{Follow}
use Rattle.ped_eval.specs.Noting.{noted, access_at}
use Rattle.ped_eval.specs.Watched.{IfRan, Watched, Awaits}
use Rattle.ped_eval.specs.declared.states.Flow.{Flow}
use Rattle.ped_eval.specs.declared.states.Flow.TheVariants as flow
use Rattle.ped_eval.specs.declared.states.RunError.{RunError}
use Rattle.ped_eval.specs.declared.states.RunError.TheVariants as error
use Rattle.ped_eval.proofs.Running.{goes_on, IsBroken}

-- one list behind another
pub follow-append : {W A : Type 0} (follows : W → A → W → Type 0) (w u v : W) (xs ys : List A) → Follow follows w xs u → Follow follows u ys v → Follow follows w (xs ++ ys) v
follow-append follows w u v [] ys h k = subst (λ (x : _). Follow follows x ys v) h k
follow-append follows w u v (x ∷ xs) ys h k = (h.0, h.1, follow-append follows h.0 u v xs ys h.2 k)

-- a state that may stay as it is follows itself over any list
pub idle_follows : {W A : Type 0} (follows : W → A → W → Type 0) (w : W) → ((a : A) → follows w a w) → (xs : List A) → Follow follows w xs w
idle_follows follows w stays [] = refl
idle_follows follows w stays (x ∷ xs) = (w, stays x, idle_follows follows w stays xs)

pub accesses-append : (a b : List Act) → accesses (a ++ b) ≡ accesses a ++ accesses b
accesses-append a b = flat_map-append accesses_of a b

-- what holds does so whatever the answer is
pub if_ran : {A : Type 0} {P : Type 0} (r : Result A RunError) → P → IfRan r P
if_ran (Ok u) h = h
if_ran (Err (error.Fault number statement)) h = h
if_ran (Err error.NoMemory) h = tt

-- the accesses of an act are those that are noted, at its place
pub act_accesses : (step : Step) (at : Place) (ts : List Touch) → accesses (record { step = step; place = at; touches = ts } ∷ []) ≡ map (access_at at) (noted ts)
act_accesses step at ts = append-nil _ ∙ twice (filter is_access ts)
  where
    twice : (xs : List Touch) → map (λ t. record { cell = t.cell; writes = is_write t.manner; place = at; reference = t.reference }) xs
        ≡ map (access_at at) (map (λ t. record { cell = t.cell; writes = is_write t.manner; reference = t.reference }) xs)
    twice [] = refl
    twice (x ∷ xs) = ap (λ (xs : List Access). record { cell = x.cell; writes = is_write x.manner; place = at; reference = x.reference } ∷ xs) (twice xs)

-- the accesses of a run that goes on, and then those of what follows
pub accesses_going : (r : Run) (next : Store → Run) (w : Store) → r.ending ≡ going w → accesses (then_run r next).acts ≡ accesses r.acts ++ accesses (next w).acts
accesses_going r next w h = ap (λ (e : Ending). accesses (followed_by r.acts e next).acts) h ∙ accesses-append r.acts (next w).acts

module _ {W : Type 0} (follows : W → Access → W → Type 0) (first : W) where
  -- behind a part what is left comes to the accesses of the whole
  pub awaits_behind : (now new : W) (scope : Scope) (moment next_moment : List ℕ) (kept kept_new : Store) (part : Store → Run) (rest : Store → Run) (whole : List Access)
      → Awaits follows first now scope moment kept (λ u. then_run (part u) rest) whole → TellsFrom scope moment kept next_moment (Ok flow.Going) kept_new (λ s. (part s).ending)
      → Watched follows now new scope moment kept (Ok flow.Going) part → Awaits follows first new scope next_moment kept_new rest whole
  awaits_behind now new scope moment next_moment kept kept_new part rest whole awaits told watched =
      let u = awaits.0 in
      let w = goes_on scope next_moment kept_new (part u).ending (told u awaits.1) in (
        w.0,
        w.2,
        λ last f. awaits.2 last
            (subst (λ (xs : List Access). Follow follows now xs last) (sym (accesses_going (part u) rest w.0 w.1))
            (follow-append follows now new last (accesses (part u).acts) (accesses (rest w.0).acts) (watched u awaits.1) f)),
      )

  stopped_acts : (acts : List Act) (e : Ending) (next : Store → Run) (kept : Store) → Stops kept e → (followed_by acts e next).acts ≡ acts
  stopped_acts acts (going s) next kept h = absurd h
  stopped_acts acts (stopped s) next kept h = refl
  stopped_acts acts (failed fault statement) next kept h = absurd h

  failed_acts : (acts : List Act) (e : Ending) (next : Store → Run) (number statement : ℕ) → Fails number statement e → (followed_by acts e next).acts ≡ acts
  failed_acts acts (going s) next number statement h = absurd h
  failed_acts acts (stopped s) next number statement h = absurd h
  failed_acts acts (failed fault n) next number statement h = refl

  -- what breaks off a part breaks off the whole
  pub awaits_broken : (now new : W) (scope : Scope) (moment next_moment : List ℕ) (r : Result Flow RunError) (kept kept_new : Store) (part : Store → Run) (rest : Store → Run) (whole : List Access)
      → IsBroken r → Awaits follows first now scope moment kept (λ u. then_run (part u) rest) whole → TellsFrom scope moment kept next_moment r kept_new (λ s. (part s).ending)
      → Watched follows now new scope moment kept r part → IfRan r (Follow follows first whole new)
  awaits_broken now new scope moment next_moment (Ok flow.Going) kept kept_new part rest whole b awaits told watched = absurd b
  awaits_broken now new scope moment next_moment (Ok flow.Stopped) kept kept_new part rest whole b awaits told watched =
      let u = awaits.0 in
      awaits.2 new (subst (λ (acts : List Act). Follow follows now (accesses acts) new) (sym (stopped_acts (part u).acts (part u).ending rest kept_new (told u awaits.1))) (watched u awaits.1))
  awaits_broken now new scope moment next_moment (Err (error.Fault number n)) kept kept_new part rest whole b awaits told watched =
      let u = awaits.0 in
      awaits.2 new (subst (λ (acts : List Act). Follow follows now (accesses acts) new) (sym (failed_acts (part u).acts (part u).ending rest number n (told u awaits.1))) (watched u awaits.1))
  awaits_broken now new scope moment next_moment (Err error.NoMemory) kept kept_new part rest whole b awaits told watched = tt

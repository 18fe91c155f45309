-- What a step of a machine answers, by that of its parts.
use Rattle.std.proofs.Common.{◌≡◌, ◌<◌, ◌+◌, ◌*◌, ℕ, Bool, true, false, Ok, ◌⊎◌, inl, inr, if◌then◌else◌, refl, sym, ap, subst, ◌∙◌, arith}
use Rattle.ped_tree.specs.Tree.{StmtTree, ProgramTree, Assign, If, Do, Print, Read, Stop, Comment}
use Rattle.ped_symbols.specs.Kinds.{Table, table_of}
use Rattle.ped_store.specs.Cells.{Out}
use Rattle.ped_store.specs.Stores.{Store, lines_in}
use Rattle.ped_store.specs.Acts.{Act}
use Rattle.ped_store.specs.Memories.{Memory}
use Rattle.ped_interleavings.specs.ped_eval.specs.Scopes.{Setting, Scope}
use Rattle.ped_interleavings.specs.ped_eval.specs.Outcomes as Outcomes
use Rattle.ped_interleavings.specs.ped_eval.specs.Outcomes.{setting_of, live_names, outcome_of}
use Rattle.ped_interleavings.specs.ped_eval.specs.Live.{rows_in}
use Rattle.ped_interleavings.specs.ped_eval.specs.Runs.{going, stopped}
use Rattle.ped_interleavings.specs.ped_eval.specs.Readiness.{setting_by, IsReady}
use Rattle.ped_interleavings.specs.ped_eval.specs.Agreement.{DoCopiesStand}
use Rattle.ped_interleavings.specs.ped_eval.proofs.RunOutcomes.{setting_same, ended_by_stop}
use Rattle.ped_interleavings.specs.Lefts.{Left, finished, begins, ends_turn, open_loop}
use Rattle.ped_interleavings.specs.Steps.{Next, over, met, went, halted, step}
use Rattle.ped_interleavings.specs.Weights.{left_weight, lefts_weight, stmt_weight, stmts_weight, most_turns}
use Rattle.ped_machine.specs.Answers.{ends_run, is_last, step_by}
use Rattle.ped_machine.specs.Bases.{HasKept}
use Rattle.ped_machine.specs.Doing.{IsDone, IfOpen, IfSafe}
use Rattle.ped_machine.specs.Machines.{Held, IsStepBy, IfFaultless}
use Rattle.ped_machine.specs.Rests.{rest_left, IsSound}
use Rattle.ped_machine.specs.Levels.{level_base}
use Rattle.ped_machine.specs.Roots.{Outermost, outermost_left, IsOutermostSound, root_left, IsRight}
use Rattle.ped_machine.specs.declared.rests.Rest.{Rest}
use Rattle.ped_machine.proofs.Dropping.{ready_kept}
use Rattle.ped_machine.specs.declared.steps.Step.{Step}
use Rattle.ped_machine.specs.declared.steps.Step.TheVariants as answer
use Rattle.ped_machine.specs.declared.steps.Done as doing
use Rattle.ped_machine.specs.declared.steps.Done.TheVariants as done

-- the setting of a table is that of its program
pub setting_is : (t : ProgramTree) (table : Table) → table ≡ table_of t → setting_by table ≡ setting_of t
setting_is t table h = ap setting_by h ∙ setting_same t

pub went_step : (x : Next) (old new : Held) (l : Left) (u : Store) → IsDone x old.left old.store done.Went l u → new.left ≡ l → new.store ≡ u → IsStepBy x old answer.Went new
went_step over old new l u h e k = absurd h
went_step (met f n) old new l u h e k = absurd h
went_step (went a r) old new l u h e k = record { left = e ∙ h.0; store = k ∙ h.1 }
went_step (halted a) old new l u h e k = absurd h

pub halted_step : (x : Next) (old new : Held) (l : Left) (u : Store) → IsDone x old.left old.store done.Halted l u → new.left ≡ finished → new.store ≡ u → IsStepBy x old answer.Went new
halted_step over old new l u h e k = absurd h
halted_step (met f n) old new l u h e k = absurd h
halted_step (went a r) old new l u h e k = absurd h
halted_step (halted a) old new l u h e k = record { left = e; store = k ∙ h }

pub ended_step : (x : Next) (old new : Held) (l : Left) (u : Store) → IsDone x old.left old.store done.Ended l u → new.tree ≡ old.tree → new.left ≡ l → new.store ≡ u → IsStepBy x old answer.Ended new
ended_step over old new l u h t e k = record { tree = t; left = e ∙ h.0; store = k ∙ h.1 }
ended_step (met f n) old new l u h t e k = absurd h
ended_step (went a r) old new l u h t e k = absurd h
ended_step (halted a) old new l u h t e k = absurd h

pub fault_step : (x : Next) (old new : Held) (l : Left) (u : Store) (f n : ℕ) → IsDone x old.left old.store (done.Fault f n) l u → IsStepBy x old (answer.Fault f n) new
fault_step over old new l u f n h = absurd h
fault_step (met k i) old new l u f n h = h
fault_step (went a r) old new l u f n h = absurd h
fault_step (halted a) old new l u f n h = absurd h

-- where something is done, something is left
begins_weight : (p : Setting) (t : StmtTree) (n : ℕ) (scope : Scope) (rest : Left) (c : ℕ) (s : Store) (a : Act) → step p (begins t n scope rest) c s ≡ halted a → 0 < stmt_weight t + left_weight rest
begins_weight p (Assign left right) n scope rest c s a h = omega arith
begins_weight p (If condition x y) n scope rest c s a h = first (stmts_weight x) (stmts_weight y) (left_weight rest)
  where
    first : (x y z : ℕ) → 0 < 1 + x + y + z
    first x y z = omega arith
begins_weight p (Do head body) n scope rest c s a h = first (most_turns * (stmts_weight body + 1)) (left_weight rest)
  where
    first : (x y : ℕ) → 0 < 2 + x + y
    first x y = omega arith
begins_weight p (Print items) n scope rest c s a h = omega arith
begins_weight p (Read items) n scope rest c s a h = omega arith
begins_weight p Stop n scope rest c s a h = omega arith
begins_weight p (Comment text) n scope rest c s a h = absurd cc

pub halted_weight : (p : Setting) (l : Left) (c : ℕ) (s : Store) (a : Act) → step p l c s ≡ halted a → 0 < left_weight l
halted_weight p finished c s a h = absurd cc
halted_weight p (begins t n scope rest) c s a h = begins_weight p t n scope rest c s a h
halted_weight p (ends_turn e body n scope k more rest) c s a h = first (more * (stmts_weight body + 1)) (left_weight rest)
  where
    first : (x y : ℕ) → 0 < 1 + x + y
    first x y = omega arith
halted_weight p (open_loop e n scope ls rest) c s a h = first (lefts_weight ls) (left_weight rest)
  where
    first : (x y : ℕ) → 0 < 1 + x + y
    first x y = omega arith

-- a step that has gone on has made what is left lighter
pub went_lighter : (p : Setting) (old new : Held) (c : ℕ) → ((p : Setting) (l : Left) (c : ℕ) (s : Store) (a : Act) (rest : Left) → step p l c s ≡ went a rest → left_weight rest < left_weight l)
    → IsStepBy (step p old.left c old.store) old answer.Went new → left_weight new.left < left_weight old.left
went_lighter p old new c law h = by (step p old.left c old.store) refl h
  where
    by : (x : Next) → step p old.left c old.store ≡ x → IsStepBy x old answer.Went new → left_weight new.left < left_weight old.left
    by over e k = absurd k
    by (met f n) e k = absurd k
    by (went a r) e k = subst (λ (l : Left). left_weight l < left_weight old.left) (sym k.left) (law p old.left c old.store a r e)
    by (halted a) e k = subst (λ (l : Left). left_weight l < left_weight old.left) (sym k.left) (halted_weight p old.left c old.store a e)

-- the outcome of a program that has ended
pub ended_outcome : (t : ProgramTree) (table : Table) (m : Memory) → table ≡ table_of t → m.bounds ≡ (setting_by table).bounds
    → Outcomes.Ended (lines_in (m.cells Out)) (rows_in m (live_names t)) ≡ outcome_of t (going m.cells)
ended_outcome t table m h b = ended_by_stop t m (stopped m.cells) (b ∙ ap (λ (x : Table). (setting_by x).bounds) h) (λ c k. refl)

-- a step of what is left is one of the program
pub told : (t : ProgramTree) (table : Table) (c : ℕ) (s u : Store) (d : doing.Done) (before after l : Left) → table ≡ table_of t → before ≡ after → IsDone (step (setting_by table) after c s) after s d l u → IsDone (step (setting_of t) before c s) before s d l u
told t table c s u d before after l h e k =
    subst (λ (q : Setting). IsDone (step q before c s) before s d l u) (setting_is t table h)
    (subst (λ (x : Left). IsDone (step (setting_by table) x c s) x s d l u) (sym e) k)

-- the step of a run, by that of what is left of it
pub any_step : (x : Next) (d : doing.Done) (old new : Held) (l : Left) (u : Store) → IsDone x old.left old.store d l u → new.tree ≡ old.tree → new.left ≡ (if ends_run d then finished else l) → new.store ≡ u → IsStepBy x old (step_by d) new
any_step x done.Went old new l u h t e k = went_step x old new l u h e k
any_step x done.Ended old new l u h t e k = ended_step x old new l u h t e k
any_step x done.Halted old new l u h t e k = halted_step x old new l u h e k
any_step x (done.Fault f n) old new l u h t e k = fault_step x old new l u f n h

-- what is left, by whether the run has ended
pub root_is : (b : Bool) (scope : Scope) (r : Rest Outermost) → root_left b scope r ≡ (if b then finished else rest_left outermost_left scope r)
root_is true scope r = refl
root_is false scope r = refl

-- what is kept stays right but behind a fault
pub still_right : (E : Type 0) (d : doing.Done) (scope : Scope) (r : Rest Outermost) (table : Table) (old new : Memory) (base : Scope) → IsReady table base old
    → IfOpen {E = E} (Ok d) (IsSound outermost_left level_base IsOutermostSound scope r table new.stands) → IfOpen {E = E} (Ok d) (DoCopiesStand scope new.stands) → IfSafe {E = E} (Ok d) (HasKept base old new)
    → IfFaultless {E = E} (Ok (step_by d)) (IsRight (ends_run d) scope r table new)
still_right E done.Went scope r table old new base ready sound copies grown = record { ready = ready_kept table base scope old new grown ready copies; sound = sound }
still_right E done.Ended scope r table old new base ready sound copies grown = record { ready = ready_kept table base scope old new grown ready copies; sound = sound }
still_right E done.Halted scope r table old new base ready sound copies grown = grown.bounds ∙ ready.bounds
still_right E (done.Fault f n) scope r table old new base ready sound copies grown = tt

pub faultless_maps : (E : Type 0) (r : Step) (P Q : Type 0) → (P → Q) → IfFaultless {E = E} (Ok r) P → IfFaultless {E = E} (Ok r) Q
faultless_maps E answer.Went P Q f h = f h
faultless_maps E answer.Ended P Q f h = f h
faultless_maps E (answer.Fault k n) P Q f h = tt

-- arrays have their bounds, whether the run goes on or has ended
pub right_bounds : (b : Bool) (scope : Scope) (r : Rest Outermost) (table : Table) (m : Memory) → IsRight b scope r table m → m.bounds ≡ (setting_by table).bounds
right_bounds true scope r table m h = h
right_bounds false scope r table m h = h.ready.bounds

-- what no step follows has ended or met a fault
pub last_ended : (r : Step) → (r ≡ answer.Went) ⊎ (r ≡ answer.Ended) → is_last r ≡ true → r ≡ answer.Ended
last_ended r (inl e) h = absurd (let w : false ≡ true = sym (ap is_last e) ∙ h in cc)
last_ended r (inr e) h = e

pub not_last : (r : Step) → is_last r ≡ false → r ≡ answer.Went
not_last answer.Went h = refl
not_last answer.Ended h = absurd cc
not_last (answer.Fault k n) h = absurd cc

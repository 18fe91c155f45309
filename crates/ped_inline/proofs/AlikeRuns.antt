-- Runs that end alike and make the same accesses, whatever acts they do that touch nothing.
use Rattle.std.proofs.Common.{◌≡◌, ℕ, zero, suc, ◌+◌, List, [], ◌∷◌, ◌++◌, Bool, true, false, Ok, Err, if◌then◌else◌, refl, sym, ap, subst, ◌∙◌}
use Rattle.std.specs.Prelude.{Result}
use Rattle.std.proofs.lemmas.Grind.{flat_map-append}
use Rattle.ped_tree.specs.Tree.{CondTree, Head, StmtTrees}
use Rattle.ped_tree.specs.NamesIn.{all_loop_variables}
use Rattle.ped_rules.specs.ped_store.specs.Stores.{Store}
use Rattle.ped_rules.specs.ped_store.specs.Acts.{Touch, Place, Step, did, entered, ended_turn, closed, store_behind}
use Rattle.ped_rules.specs.ped_store.specs.Races.{accesses_of, accesses}
use Rattle.ped_rules.specs.ped_eval.specs.Scopes.{Setting, Frame, Scope, Names, names_in, place_of}
use Rattle.ped_rules.specs.ped_eval.specs.Evaluation.{Seen, Evaluated, numbered}
use Rattle.ped_rules.specs.ped_eval.specs.Values.{truth}
use Rattle.ped_rules.specs.ped_eval.specs.Loops.{Limits, limits, Entered, entered_with, frame, inner_variables, sorted_once, exit_touches, exit_when_none, entry_touches}
use Rattle.ped_rules.specs.ped_eval.specs.Runs.{Ending, going, stopped, failed, Run, nothing_done, followed_by, then_run, does, on, on_value, run_if, turns, parallel_turns, run_entered, run_from_entry, run_do}

-- two runs end alike and make the same accesses
pub record AreAlike (r w : Run) : Type 0 where
  pub made : accesses r.acts ≡ accesses w.acts
  pub ending : r.ending ≡ w.ending

pub alike_itself : (r : Run) → AreAlike r r
alike_itself r = record { made = refl; ending = refl }

pub alike_same : (r w : Run) → r ≡ w → AreAlike r w
alike_same r w e = subst (AreAlike r) e (alike_itself r)

-- and go on alike
pub then_alike : (r w : Run) (next other : Store → Run) → AreAlike r w → ((s : Store) → AreAlike (next s) (other s)) → AreAlike (then_run r next) (then_run w other)
then_alike r w next other a more = subst (λ (e : Ending). AreAlike (followed_by r.acts r.ending next) (followed_by w.acts e other)) a.ending (by r.ending)
  where
    by : (d : Ending) → AreAlike (followed_by r.acts d next) (followed_by w.acts d other)
    by (going s) = record {
      made = flat_map-append accesses_of r.acts (next s).acts ∙ (λ i. a.made i ++ (more s).made i) ∙ sym (flat_map-append accesses_of w.acts (other s).acts);
      ending = (more s).ending;
    }
    by (stopped s) = record { made = a.made; ending = refl }
    by (failed fault n) = record { made = a.made; ending = refl }

pub does_alike : (step : Step) (at : Place) (touches : List Touch) (next other : Store → Run) → ((s : Store) → AreAlike (next s) (other s)) → (s : Store) → AreAlike (does step at touches next s) (does step at touches other s)
does_alike step at touches next other more s =
    let first : Run = record { acts = record { step = step; place = at; touches = touches } ∷ []; ending = going (store_behind touches s) } in
    then_alike first first next other (alike_itself first) more

pub on_alike : {A : Type 0} (at : Place) (e : Evaluated A) (next other : List Seen → A → Run) → ((seen : List Seen) (x : A) → AreAlike (next seen x) (other seen x)) → AreAlike (on at e next) (on at e other)
on_alike {A = A} at e next other more = by e.result
  where
    by : (r : Result A ℕ) → AreAlike (on_value at e.seen r next) (on_value at e.seen r other)
    by (Ok x) = more e.seen x
    by (Err fault) = alike_itself (on_value at e.seen (Err fault) next)

-- an IF whose parts run alike
pub if_alike : (g : Names) (at : Place) (c : CondTree) (a b d e : Store → Run) → ((s : Store) → AreAlike (a s) (d s)) → ((s : Store) → AreAlike (b s) (e s)) → (s : Store) → AreAlike (run_if g at c a b s) (run_if g at c d e s)
if_alike g at c a b d e first second s =
    on_alike at (truth g c s) (λ seen holds. does did at (numbered 1 seen) (if holds then a else b) s) (λ seen holds. does did at (numbered 1 seen) (if holds then d else e) s)
    (λ seen holds. does_alike did at (numbered 1 seen) (if holds then a else b) (if holds then d else e) (part holds) s)
  where
    part : (holds : Bool) (u : Store) → AreAlike ((if holds then a else b) u) ((if holds then d else e) u)
    part true u = first u
    part false u = second u

-- a DO whose body runs alike
module _ (body other : Frame → Store → Run) (alike : (f : Frame) (s : Store) → AreAlike (body f s) (other f s)) where
  turns_alike : (n k : ℕ) (e : Entered) (scope : Scope) (at : Place) (s : Store) → AreAlike (turns n k e scope at body s) (turns n k e scope at other s)
  turns_alike zero k e scope at s = alike_itself (nothing_done s)
  turns_alike (suc n) k e scope at s =
      then_alike (body (frame e k) s) (other (frame e k) s) (does (ended_turn n) at (exit_when_none n e scope) (turns n (k + 1) e scope at body)) (does (ended_turn n) at (exit_when_none n e scope) (turns n (k + 1) e scope at other))
      (alike (frame e k) s) (does_alike (ended_turn n) at (exit_when_none n e scope) (turns n (k + 1) e scope at body) (turns n (k + 1) e scope at other) (turns_alike n (k + 1) e scope at))

  parallel_alike : (n k : ℕ) (e : Entered) (s : Store) → AreAlike (parallel_turns n k e body s) (parallel_turns n k e other s)
  parallel_alike zero k e s = alike_itself (nothing_done s)
  parallel_alike (suc n) k e s = then_alike (body (frame e k) s) (other (frame e k) s) (parallel_turns n (k + 1) e body) (parallel_turns n (k + 1) e other) (alike (frame e k) s) (parallel_alike n (k + 1) e)

  entered_alike : (parallel : Bool) (n : ℕ) (e : Entered) (scope : Scope) (at : Place) (s : Store) → AreAlike (run_entered parallel n e scope at body s) (run_entered parallel n e scope at other s)
  entered_alike false zero e scope at s = alike_itself (nothing_done s)
  entered_alike true zero e scope at s = alike_itself (nothing_done s)
  entered_alike false (suc n) e scope at s = turns_alike (suc n) 1 e scope at s
  entered_alike true (suc n) e scope at s =
      let leaves : Store → Run = does closed at (exit_touches e scope) nothing_done in
      then_alike (parallel_turns (suc n) 1 e body s) (parallel_turns (suc n) 1 e other s) leaves leaves (parallel_alike (suc n) 1 e s) (λ u. alike_itself (leaves u))

  module _ (p : Setting) (n : ℕ) (scope : Scope) (h : Head) (ss us : StmtTrees) (same : all_loop_variables ss ≡ all_loop_variables us) where
    inner_same : (b : Bool) → inner_variables b ss ≡ inner_variables b us
    inner_same true = ap sorted_once same
    inner_same false = refl

    entered_same : (seen : List Seen) (l : Limits) → entered_with p n h ss seen l ≡ entered_with p n h us seen l
    entered_same seen l = ap (λ (names : List (List ℕ)). record (entered_with p n h ss seen l) { inner = names }) (inner_same h.parallel)

    pub do_alike : (s : Store) → AreAlike (run_do p n scope h ss body s) (run_do p n scope h us other s)
    do_alike s =
        let at = place_of p n scope in
        on_alike at (limits (names_in p scope) h s)
        (λ seen l. run_from_entry seen (entered_with p n h ss seen l) scope at body s) (λ seen l. run_from_entry seen (entered_with p n h us seen l) scope at other s)
        (λ seen l.
        let e = entered_with p n h ss seen l in
        subst (λ (x : Entered). AreAlike (run_from_entry seen e scope at body s) (run_from_entry seen x scope at other s)) (entered_same seen l)
        (does_alike (entered e.count) at (entry_touches seen e scope) (run_entered e.head.parallel e.count e scope at body) (run_entered e.head.parallel e.count e scope at other)
        (entered_alike e.head.parallel e.count e scope at) s))

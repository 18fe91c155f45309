-- Two runs side by side: where the first goes on, so does the second, between their stores a relation holds, and each act of the second comes from one of the first.
use Rattle.std.proofs.Common.{◌≡◌, ℕ, zero, suc, ◌+◌, List, [], ◌∷◌, ◌++◌, Bool, true, false, Result, Ok, Err, inl, inr, refl, sym, subst, if◌then◌else◌}
use Rattle.std.specs.Prelude.{◌==◌}
use Rattle.ped_rules.specs.ped_store.specs.Stores.{Store}
use Rattle.ped_rules.specs.ped_store.specs.Acts.{Touch, Place, Step, ended_turn, entered, closed, Act, store_behind}
use Rattle.ped_rules.specs.ped_laws.specs.Acts.Orders.{IsIn}
use Rattle.ped_rules.specs.ped_laws.proofs.ActLaws.Lists.{in_left, in_right, in_parts}
use Rattle.ped_rules.specs.ped_eval.specs.Scopes.{Frame, Scope}
use Rattle.ped_rules.specs.ped_eval.specs.Evaluation.{Seen, Evaluated}
use Rattle.ped_rules.specs.ped_eval.specs.Loops.{Entered, frame, exit_touches, exit_when_none, entry_touches}
use Rattle.ped_rules.specs.ped_eval.specs.Runs.{Ending, going, stopped, failed, Run, nothing_done, followed_by, then_run, does, on_value, on, turns, parallel_turns, run_entered, run_from_entry}
use Rattle.ped_rules.specs.ped_laws.specs.Runs.Replaying.{act}

module _ (W : Store → Store → Type 0) (C : Act → Act → Type 0) where
  -- each of the second acts comes from one of the first
  abbrev pub Come : List Act → List Act → Type 0
  Come acts others = (b : Act) → IsIn b others → (a : Act) × IsIn a acts × C a b

  pub come_none : (acts : List Act) → Come acts []
  come_none acts b i = absurd i

  pub come_one : (a b : Act) → C a b → Come (a ∷ []) (b ∷ [])
  come_one a b h x (inl e) = (a, inl refl, subst (λ (z : Act). C a z) (sym e) h)
  come_one a b h x (inr i) = absurd i

  pub come_append : (acts others more further : List Act) → Come acts others → Come more further → Come (acts ++ more) (others ++ further)
  come_append acts others more further h k b i = elim (in_parts b others further i) [
    | inl j ↦ let x = h b j in (x.0, in_left x.0 acts more x.1, x.2)
    | inr j ↦ let x = k b j in (x.0, in_right x.0 acts more x.1, x.2)
  ]

  -- where the first run goes on, so does the second
  abbrev pub GoesAlong : Run → Run → Type 0
  GoesAlong r z = (s : Store) → r.ending ≡ going s → (u : Store) × (z.ending ≡ going u) × W s u × Come r.acts z.acts

  abbrev pub Along : (Store → Run) → (Store → Run) → Type 0
  Along f h = (s u : Store) → W s u → GoesAlong (f s) (h u)

  same_store : (s t : Store) → going s ≡ going t → s ≡ t
  same_store s t e = cc

  pub nothing_along : Along nothing_done nothing_done
  nothing_along s u w t e = (u, refl, subst (λ (z : Store). W z u) (same_store s t e) w, come_none [])

  followed_along : (acts others : List Act) (e z : Ending) (f h : Store → Run) → ((s : Store) → e ≡ going s → (u : Store) × (z ≡ going u) × W s u × Come acts others) → Along f h → GoesAlong (followed_by acts e f) (followed_by others z h)
  followed_along acts others (going s) z f h q more =
      let t = q s refl in
      subst (λ (y : Ending). GoesAlong (followed_by acts (going s) f) (followed_by others y h)) (sym t.1)
      (λ v e. let r = more s t.0 t.2 v e in (r.0, r.1, r.2, come_append acts others (f s).acts (h t.0).acts t.3 r.3))
  followed_along acts others (stopped s) z f h q more = λ v e. absurd cc
  followed_along acts others (failed fault statement) z f h q more = λ v e. absurd cc

  pub then_along : (f f' h h' : Store → Run) → Along f f' → Along h h' → Along (λ s. then_run (f s) h) (λ s. then_run (f' s) h')
  then_along f f' h h' p q s u w = followed_along (f s).acts (f' u).acts (f s).ending (f' u).ending h h' (p s u w) q

  pub does_along : (step : Step) (at at' : Place) (ts us : List Touch) (f h : Store → Run) (s u : Store) → W (store_behind ts s) (store_behind us u) → C (act step at ts) (act step at' us) → Along f h → GoesAlong (does step at ts f s) (does step at' us h u)
  does_along step at at' ts us f h s u w c more v e =
      let r = more (store_behind ts s) (store_behind us u) w v e in
      (r.0, r.1, r.2, come_append (act step at ts ∷ []) (act step at' us ∷ []) (f (store_behind ts s)).acts (h (store_behind us u)).acts (come_one (act step at ts) (act step at' us) c) r.3)

  -- an evaluation that comes to the same
  pub on_along : {A : Type 0} (at at' : Place) (e z : Evaluated A) (next others : List Seen → A → Run) → e ≡ z → ((x : A) → e.result ≡ Ok x → GoesAlong (next e.seen x) (others e.seen x)) → GoesAlong (on at e next) (on at' z others)
  on_along {A} at at' e z next others same more = subst (λ (y : Evaluated A). GoesAlong (on at e next) (on at' y others)) same (go e.result refl)
    where
      go : (r : Result A ℕ) → e.result ≡ r → GoesAlong (on_value at e.seen r next) (on_value at' e.seen r others)
      go (Ok x) q = more x q
      go (Err fault) q = λ v k. absurd cc

  pub chosen_along : (b : Bool) (f f' h h' : Store → Run) → Along f f' → Along h h' → Along (if b then f else h) (if b then f' else h')
  chosen_along true f f' h h' p q = p
  chosen_along false f f' h h' p q = q

  -- the turns of a DO that is entered alike, where its touches of itself keep the relation
  module _ (e : Entered) (scope : Scope) (at at' : Place) (kept : (ts : List Touch) → Type 0)
      (keeps : (ts : List Touch) → kept ts → (s u : Store) → W s u → W (store_behind ts s) (store_behind ts u)) (same : (step : Step) (ts : List Touch) → kept ts → C (act step at ts) (act step at' ts))
      (none : kept []) (exits : kept (exit_touches e scope)) (body body' : Frame → Store → Run) (more : (k : ℕ) → Along (body (frame e k)) (body' (frame e k))) where
    when_kept : (n : ℕ) → kept (exit_when_none n e scope)
    when_kept n = go (n == 0)
      where
        go : (b : Bool) → kept (if b then exit_touches e scope else [])
        go true = exits
        go false = none

    own_along : (step : Step) (ts : List Touch) (f h : Store → Run) → kept ts → Along f h → Along (does step at ts f) (does step at' ts h)
    own_along step ts f h k q s u w = does_along step at at' ts ts f h s u (keeps ts k s u w) (same step ts k) q

    pub turns_along : (n k : ℕ) → Along (turns n k e scope at body) (turns n k e scope at' body')
    turns_along zero k = nothing_along
    turns_along (suc n) k =
        then_along (body (frame e k)) (body' (frame e k)) (does (ended_turn n) at (exit_when_none n e scope) (turns n (k + 1) e scope at body)) (does (ended_turn n) at' (exit_when_none n e scope) (turns n (k + 1) e scope at' body')) (more k)
        (own_along (ended_turn n) (exit_when_none n e scope) (turns n (k + 1) e scope at body) (turns n (k + 1) e scope at' body') (when_kept n) (turns_along n (k + 1)))

    parallel_along : (n k : ℕ) → Along (parallel_turns n k e body) (parallel_turns n k e body')
    parallel_along zero k = nothing_along
    parallel_along (suc n) k = then_along (body (frame e k)) (body' (frame e k)) (parallel_turns n (k + 1) e body) (parallel_turns n (k + 1) e body') (more k) (parallel_along n (k + 1))

    entered_along : (b : Bool) (count : ℕ) → Along (run_entered b count e scope at body) (run_entered b count e scope at' body')
    entered_along b zero = nothing_along
    entered_along false (suc n) = turns_along (suc n) 1
    entered_along true (suc n) =
        then_along (parallel_turns (suc n) 1 e body) (parallel_turns (suc n) 1 e body') (does closed at (exit_touches e scope) nothing_done) (does closed at' (exit_touches e scope) nothing_done) (parallel_along (suc n) 1)
        (own_along closed (exit_touches e scope) nothing_done nothing_done exits nothing_along)

    pub entry_along : (seen : List Seen) → kept (entry_touches seen e scope) → Along (run_from_entry seen e scope at body) (run_from_entry seen e scope at' body')
    entry_along seen k = own_along (entered e.count) (entry_touches seen e scope) (run_entered e.head.parallel e.count e scope at body) (run_entered e.head.parallel e.count e scope at' body') k (entered_along e.head.parallel e.count)

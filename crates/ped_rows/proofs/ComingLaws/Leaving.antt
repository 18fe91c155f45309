-- A DO that is in no other goes on where the run has left it.
use Rattle.std.proofs.Common.{◌≡◌, ℕ, zero, suc, ◌+◌, List, [], ◌∷◌, Bool, true, false, Result, Ok, Err, refl, sym, ap, ◌∙◌, ◌⊎◌, inl, inr, arith}
use Rattle.ped_laws.specs.ped_flow.specs.ped_tree.specs.Tree.{Head, StmtTrees, Do, ProgramTree}
use Rattle.ped_laws.specs.ped_flow.specs.ped_tree.specs.Numbering.{statements_count}
use Rattle.ped_laws.specs.ped_eval.specs.ped_store.specs.Stores.{Store}
use Rattle.ped_laws.specs.ped_eval.specs.ped_store.specs.Acts.{Place, Step, did, entered, ended_turn, closed, faulted, Act, store_behind}
use Rattle.ped_laws.specs.Acts.Orders.{IsIn}
use Rattle.ped_laws.proofs.ActLaws.Lists.{in_parts}
use Rattle.ped_laws.specs.ped_eval.specs.Scopes.{Setting, Frame, names_in, place_of}
use Rattle.ped_laws.specs.ped_eval.specs.Loops.{Limits, limits, Entered, entered_with, frame, exit_touches, exit_when_none, entry_touches}
use Rattle.ped_laws.specs.ped_eval.specs.Runs.{Ending, going, stopped, failed, Run, nothing_done, followed_by, does, on_value, turns, parallel_turns, run_entered, run_from_entry, run, run_all}
use Rattle.ped_laws.specs.ped_eval.specs.Outcomes.{setting_of}
use Rattle.ped_rows.proofs.ComingLaws.ActPlaces.{all_inside}

-- an act of acts and of a run after them
pub in_followed : (a : Act) (acts : List Act) (e : Ending) (next : Store → Run) → IsIn a (followed_by acts e next).acts → IsIn a acts ⊎ ((u : Store) × (e ≡ going u) × IsIn a (next u).acts)
in_followed a acts (going u) next i = elim (in_parts a acts (next u).acts i) [ inl j ↦ inl j | inr j ↦ inr (u, refl, j) ]
in_followed a acts (stopped u) next i = inl i
in_followed a acts (failed fault statement) next i = inl i

-- the step ends the last iteration of a DO, or closes it
abbrev pub ends_loop : Step → Bool
ends_loop did = false
ends_loop (entered count) = false
ends_loop (ended_turn zero) = true
ends_loop (ended_turn (suc left)) = false
ends_loop closed = true
ends_loop faulted = false

-- the run goes on (plain words)
abbrev pub Goes : Ending → Type 0
Goes e = (v : Store) × (e ≡ going v)

module _ (t : ProgramTree) (a : Act) (ends : ends_loop a.step ≡ true) (outer : a.place.turns ≡ []) where
  abbrev p : Setting
  p = setting_of t

  another : {A : Type 0} (x : Act) → a ≡ x → ends_loop x.step ≡ false → A
  another x e h = let z : false ≡ true = sym h ∙ (ap (λ (y : Act). ends_loop y.step) (sym e) ∙ ends) in absurd cc

  not_in_body : {A : Type 0} (b : StmtTrees) (n : ℕ) (f : Frame) (u : Store) → IsIn a (run_all p b n (f ∷ []) u).acts → A
  not_in_body b n f u i =
      let h = all_inside t b n n (n + statements_count b) (f ∷ []) u (omega arith) (omega arith) a i in
      let z : [] ≡ f.turn ∷ h.further = sym outer ∙ h.turns in
      absurd cc

  module _ (e : Entered) (at : Place) (b : StmtTrees) (n : ℕ) where
    abbrev body : Frame → Store → Run
    body f = run_all p b (n + 1) (f ∷ [])

    last_goes : (left k : ℕ) (u : Store) → a ≡ record { step = ended_turn left; place = at; touches = exit_when_none left e [] } → Goes (turns left k e [] at body u).ending
    last_goes zero k u is = (u, refl)
    last_goes (suc left) k u is = another (record { step = ended_turn (suc left); place = at; touches = exit_when_none (suc left) e [] }) is refl

    ended_goes : (left k : ℕ) (u : Store) → (IsIn a (turns left (k + 1) e [] at body (store_behind (exit_when_none left e []) u)).acts → Goes (turns left (k + 1) e [] at body (store_behind (exit_when_none left e []) u)).ending)
        → IsIn a (does (ended_turn left) at (exit_when_none left e []) (turns left (k + 1) e [] at body) u).acts → Goes (does (ended_turn left) at (exit_when_none left e []) (turns left (k + 1) e [] at body) u).ending
    ended_goes left k u rest (inl is) = last_goes left (k + 1) (store_behind (exit_when_none left e []) u) is
    ended_goes left k u rest (inr j) = rest j

    turns_go : (left k : ℕ) (s : Store) → IsIn a (turns left k e [] at body s).acts → Goes (turns left k e [] at body s).ending
    turns_go zero k s i = absurd i
    turns_go (suc left) k s i =
        let next = does (ended_turn left) at (exit_when_none left e []) (turns left (k + 1) e [] at body) in
        elim (in_followed a (body (frame e k) s).acts (body (frame e k) s).ending next i) [
          | inl j ↦ not_in_body b (n + 1) (frame e k) s j
          | inr x ↦ (
              let rest = ended_goes left k x.0 (turns_go left (k + 1) (store_behind (exit_when_none left e []) x.0)) x.2 in
              (rest.0, ap (λ (z : Ending). (followed_by (body (frame e k) s).acts z next).ending) x.1 ∙ rest.1)
              )
        ]

    not_in_turns : {A : Type 0} (left k : ℕ) (s : Store) → IsIn a (parallel_turns left k e body s).acts → A
    not_in_turns zero k s i = absurd i
    not_in_turns (suc left) k s i = elim (in_followed a (body (frame e k) s).acts (body (frame e k) s).ending (parallel_turns left (k + 1) e body) i) [
      | inl j ↦ not_in_body b (n + 1) (frame e k) s j
      | inr x ↦ not_in_turns left (k + 1) x.0 x.2
    ]

    entered_goes : (parallel : Bool) (count : ℕ) (s : Store) → IsIn a (run_entered parallel count e [] at body s).acts → Goes (run_entered parallel count e [] at body s).ending
    entered_goes parallel zero s i = absurd i
    entered_goes false (suc count) s i = turns_go (suc count) 1 s i
    entered_goes true (suc count) s i =
        let next = does closed at (exit_touches e []) nothing_done in
        elim (in_followed a (parallel_turns (suc count) 1 e body s).acts (parallel_turns (suc count) 1 e body s).ending next i) [
          | inl j ↦ not_in_turns (suc count) 1 s j
          | inr x ↦ (store_behind (exit_touches e []) x.0, ap (λ (z : Ending). (followed_by (parallel_turns (suc count) 1 e body s).acts z next).ending) x.1)
        ]

  pub loop_goes : (h : Head) (b : StmtTrees) (n : ℕ) (u : Store) → IsIn a (run p (Do h b) n [] u).acts → Goes (run p (Do h b) n [] u).ending
  loop_goes h b n u i = go (limits (names_in p []) h u).result i
    where
      go : (r : Result Limits ℕ) → IsIn a (on_value (place_of p n []) (limits (names_in p []) h u).seen r (λ seen m. run_from_entry seen (entered_with p n h b seen m) [] (place_of p n []) (λ f. run_all p b (n + 1) (f ∷ [])) u)).acts
          → Goes (on_value (place_of p n []) (limits (names_in p []) h u).seen r (λ seen m. run_from_entry seen (entered_with p n h b seen m) [] (place_of p n []) (λ f. run_all p b (n + 1) (f ∷ [])) u)).ending
      go (Ok m) (inl is) = another _ is refl
      go (Ok m) (inr j) =
          let e : Entered = entered_with p n h b (limits (names_in p []) h u).seen m in
          entered_goes e (place_of p n []) b n h.parallel e.count (store_behind (entry_touches (limits (names_in p []) h u).seen e []) u) j
      go (Err fault) (inl is) = another _ is refl
      go (Err fault) (inr j) = absurd j

-- The iterations round a place are of the DO loops round it, one of each: they tell the values of their variables.
use Rattle.std.proofs.Common.{◌≡◌, ℕ, ℤ, pos, List, [], ◌∷◌, ◌++◌, Bool, true, false, ◌||◌, ◌⊎◌, inl, inr, Option, Some, IsTrue, refl, sym, ap, subst, ◌∙◌}
use Rattle.std.specs.Prelude.{unwrap_or}
use Rattle.std.proofs.lemmas.Bool.{or_left, or_right}
use Rattle.ped_bodies.specs.ped_flow.specs.ped_base.specs.Lists.{is_same_text, is_among}
use Rattle.ped_bodies.specs.ped_flow.specs.ped_tree.specs.Tree.{Head, StmtTree, StmtTrees, Do, ProgramTree}
use Rattle.ped_bodies.specs.ped_flow.specs.ped_tree.specs.Nests.{Loop, indices_of}
use Rattle.ped_bodies.specs.ped_flow.specs.ped_tree.specs.Numbering.{numbered, statement_with}
use Rattle.ped_bodies.specs.ped_flow.specs.PlainBounds.{nest_round, setting_round, outermost_or}
use Rattle.ped_bodies.specs.ped_flow.specs.Questions.{LoopOf}
use Rattle.ped_bodies.specs.ped_store.specs.Acts.{Turn}
use Rattle.ped_bodies.specs.ped_eval.specs.Scopes.{Setting, Scope, turns_of}
use Rattle.ped_bodies.specs.ped_eval.specs.Loops.{Limits}
use Rattle.ped_bodies.specs.ped_laws.specs.Acts.Orders.{IsIn}
use Rattle.ped_bodies.specs.ped_laws.specs.FlowRuns.Exits.{IsOneToOne, AreIterationsOf}
use Rattle.ped_bodies.specs.ped_laws.specs.Plain.Executions.{IsOneOf, IsInside, AreInside, IsPlaceWith}
use Rattle.ped_bodies.specs.ped_laws.proofs.ActLaws.Lists.{in_left, in_right}
use Rattle.ped_bodies.specs.ped_laws.proofs.ConflictLaws.Scoping.{variables_of, index_told}
use Rattle.ped_bodies.specs.ped_laws.proofs.CoveringLaws.Comings.{some_one}
use Rattle.ped_bodies.specs.ped_laws.proofs.PlainLaws.Insides.{inside_iteration}
use Rattle.ped_bodies.specs.ped_steps.specs.Runs.Pasting.{AreTurnsOf, IsPlaceOf}
use Rattle.ped_loop_runs.specs.Places.{told_at}
use Rattle.ped_loop_runs.proofs.PastingLaws.NestsRound.{IsLoopIn, nest_is_round}

-- the innermost of loops in one another, of which this is an iteration
pub record IsLast (number : ℕ → ℕ) (nest : List Loop) (ts : List Turn) (t : Turn) : Type 0 where
  pub front : List Loop
  pub last : Loop
  pub is : nest ≡ front ++ last ∷ []
  pub turns : AreTurnsOf number front ts
  pub statement : t.statement ≡ number last.number

pub last_turn : (number : ℕ → ℕ) (nest : List Loop) (ts : List Turn) (t : Turn) → AreTurnsOf number nest (ts ++ t ∷ []) → IsLast number nest ts t
last_turn number [] [] t h = absurd h
last_turn number [] (x ∷ ts) t h = absurd h
last_turn number (k ∷ []) [] t h = record { front = []; last = k; is = refl; turns = tt; statement = h.0 }
last_turn number (k ∷ (m ∷ ls)) [] t h = absurd h.2
last_turn number (k ∷ ls) (x ∷ ts) t h =
    let s = last_turn number ls ts t h.2 in
    record { front = k ∷ s.front; last = s.last; is = ap (λ (zs : List Loop). k ∷ zs) s.is; turns = (h.0, h.1, s.turns); statement = s.statement }

pub no_turns : (number : ℕ → ℕ) (nest : List Loop) → AreTurnsOf number nest [] → nest ≡ []
no_turns number [] h = refl
no_turns number (k ∷ ls) h = absurd h

pub same_head : (h k : Head) (b c : StmtTrees) → Some (Do h b) ≡ Some (Do k c) → h ≡ k
same_head h k b c e = cc

indices_last : (x : List ℕ) (front : List Loop) (k : Loop) → is_among x (indices_of (front ++ k ∷ [])) ≡ true → (is_among x (indices_of front) ≡ true) ⊎ (is_same_text x k.head.variable ≡ true)
indices_last x [] k h = go (is_same_text x k.head.variable) h
  where
    go : (b : Bool) → (b || is_among x []) ≡ true → (is_among x [] ≡ true) ⊎ (b ≡ true)
    go true e = inr refl
    go false e = inl e
indices_last x (m ∷ front) k h = go (is_same_text x m.head.variable) (indices_last x front k) h
  where
    go : (b : Bool) → (is_among x (indices_of (front ++ k ∷ [])) ≡ true → (is_among x (indices_of front) ≡ true) ⊎ (is_same_text x k.head.variable ≡ true))
        → (b || is_among x (indices_of (front ++ k ∷ []))) ≡ true → ((b || is_among x (indices_of front)) ≡ true) ⊎ (is_same_text x k.head.variable ≡ true)
    go true rest e = inl refl
    go false rest e = rest e

module _ (p : Setting) (t : ProgramTree) (l : ℕ) (one : IsOneToOne p.number) where
  -- a loop round the statement is one of the outermost DO
  abbrev InOutermost : Loop → Type 0
  InOutermost k = (o : LoopOf t (outermost_or l (nest_round t l))) × IsLoopIn t (numbered (Do o.head o.body)) k

  in_outermost : (nest : List Loop) → nest_round t l ≡ nest → (k : Loop) → IsIn k nest → InOutermost k
  in_outermost [] e k i = absurd i
  in_outermost (o ∷ ks) e k i =
      let r = nest_is_round t l in
      let outer = r.outermost o ks e in (
        record { head = o.head; body = outer.0; is = subst (λ (ms : List Loop). statement_with (outermost_or l ms) t ≡ Some (Do o.head outer.0)) (sym e) outer.1 },
        outer.2 k (subst (IsIn k) (sym e) i),
      )

  frames_inside : (scope : Scope) (nest : List Loop) → AreIterationsOf p t scope → AreTurnsOf p.number nest (turns_of scope) → ((k : Loop) → IsIn k nest → InOutermost k)
      → AreInside (setting_round p.constants t l) scope × ((x : List ℕ) → is_among x (indices_of nest) ≡ true → is_among x (variables_of scope) ≡ true)
  frames_inside [] nest iterations turns each = (tt, λ x h. subst (λ (ns : List Loop). is_among x (indices_of ns) ≡ true) (no_turns p.number nest turns) h)
  frames_inside (f ∷ outer) nest iterations turns each =
      let s = last_turn p.number nest (turns_of outer) f.turn turns in
      let deeper = frames_inside outer s.front iterations.1 s.turns (λ k i. each k (subst (IsIn k) (sym s.is) (in_left k s.front (s.last ∷ []) i))) in
      let k = each s.last (subst (IsIn s.last) (sym s.is) (in_right s.last s.front (s.last ∷ []) (inl refl))) in
      let it = iterations.0 in
      let number : s.last.number ≡ it.number = one s.last.number it.number (sym s.statement ∙ it.turn) in
      let same : Some (Do s.last.head k.1.body) ≡ Some (Do it.loop.head it.loop.body) = sym k.1.stands ∙ ap (λ (n : ℕ). statement_with n t) number ∙ it.loop.is in
      let there : IsOneOf (Do it.loop.head it.loop.body) (numbered (Do k.0.head k.0.body)) =
      subst (λ (u : StmtTree). IsOneOf u (numbered (Do k.0.head k.0.body))) (some_one (Do s.last.head k.1.body) (Do it.loop.head it.loop.body) same) k.1.one in
      let none : Limits = record { first = pos 0; last = pos 0 } in
      let inside = inside_iteration p.constants t l k.0 it.loop.head it.loop.body there p it.number [] none 1 in
      let variable : f.variable ≡ s.last.head.variable = it.variable ∙ ap (λ (h : Head). h.variable) (sym (same_head s.last.head it.loop.head k.1.body it.loop.body same)) in
      let own : IsInside (setting_round p.constants t l) f = record {
        variable = subst (λ (y : List ℕ). IsTrue (is_among y (setting_round p.constants t l).loop_variables)) (sym it.variable) inside.variable;
        private = λ x h. inside.private x (subst (λ (ys : List (List ℕ)). is_among x ys ≡ true) it.private h);
      } in (
        (own, deeper.0),
        λ x h. elim (indices_last x s.front s.last (subst (λ (ns : List Loop). is_among x (indices_of ns) ≡ true) s.is h)) [
          | inl before ↦ or_right (is_same_text x f.variable) (is_among x (variables_of outer)) (deeper.1 x before)
          | inr here ↦ or_left (is_same_text x f.variable) (is_among x (variables_of outer)) (ap (is_same_text x) variable ∙ here)
        ],
      )

  pub place_with : (scope : Scope) → IsPlaceOf p t l scope → IsPlaceWith p.constants t l (told_at scope) scope
  place_with scope place =
      let h = frames_inside scope (nest_round t l) place.iterations place.turns (in_outermost (nest_round t l) refl) in
      record { inside = h.0; tells = λ x among. (let v = index_told scope x (h.1 x among) in v.1 ∙ ap (λ (o : Option ℤ). Some (unwrap_or o (pos 0))) (sym v.1)) }

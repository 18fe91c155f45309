-- Iterations of DO loops: how one follows another, and how the last is left.
use Rattle.std.proofs.Common.{◌≡◌, ◌<◌, ◌≤◌, ◌^◌, ℕ, suc, ◌+◌, ◌-◌, List, ◌∷◌, Option, Some, refl, sym, ap, subst, ◌∙◌, arith}
use Rattle.ped_tree.specs.Tree.{Head, StmtTrees, Do, no_stmts}
use Rattle.ped_symbols.specs.Kinds.{Table}
use Rattle.ped_store.specs.Stores.{Store}
use Rattle.ped_store.specs.Acts.{Touch, store_behind}
use Rattle.ped_store.specs.Memories.{Memory}
use Rattle.ped_interleavings.specs.ped_eval.specs.Scopes.{Setting, Scope, Frame}
use Rattle.ped_interleavings.specs.ped_eval.specs.ScopeViews.{outside}
use Rattle.ped_interleavings.specs.ped_eval.specs.Loops.{frame}
use Rattle.ped_interleavings.specs.ped_eval.specs.Plans.{entered_by, IsPlan}
use Rattle.ped_interleavings.specs.ped_eval.specs.Turns.{exited}
use Rattle.ped_interleavings.specs.ped_eval.specs.Readiness.{CanDo}
use Rattle.ped_interleavings.specs.ped_eval.specs.declared.plans.Plan.{Plan}
use Rattle.ped_interleavings.specs.ped_eval.proofs.Endings.{none_left}
use Rattle.ped_interleavings.specs.ped_eval.proofs.Parts.{body_can}
use Rattle.ped_interleavings.specs.Lefts.{Left, ends_turn, left_of_all, turns_left}
use Rattle.ped_interleavings.specs.Steps.{step}
use Rattle.ped_machine.specs.Doing.{IsDone}
use Rattle.ped_machine.specs.Parts.{Turn, Part, turn_entered, turn_left, parts_left, CanEnd, CanEndAnd, CanGo, Ends, CanTurnOn, first_turn, first_turn_part, turned_on, with_next_turn, behind_first}
use Rattle.ped_machine.specs.declared.steps.Done.TheVariants as done
use Rattle.ped_machine.proofs.Growing.{exit_cells}

module _ (scope : Scope) (part : Part) (ps : List Part) (t : Turn) (stmts : part.stmts ≡ no_stmts) (turn : part.turn ≡ Some t) where
  abbrev pub behind : Left
  behind = parts_left ps (outside scope)

  ends_left : parts_left (part ∷ ps) scope ≡ ends_turn (turn_entered t) t.body t.plan.number (outside scope) (t.earlier + 1) (t.plan.count - (t.earlier + 1)) behind
  ends_left = λ i. left_of_all (stmts i) part.first scope (turn_left scope (turn i) (parts_left ps))

  -- the iteration can be ended, and what is behind it can be done
  pub can_end : (table : Table) → CanGo table (part ∷ ps) scope → CanEnd table scope t × CanGo table ps (outside scope)
  can_end table h = subst (λ (o : Option Turn). CanEndAnd table scope o (CanGo table ps)) turn h.1

  module _ (p : Setting) (c : ℕ) (m : Memory) where
    -- the last iteration leaves the DO
    pub last_ends : (new : Memory) → t.plan.count ≡ t.earlier + 1 → new ≡ exited (entered_by t.head t.plan 0) (outside scope) m
        → IsDone (step p (parts_left (part ∷ ps) scope) c m.cells) (parts_left (part ∷ ps) scope) m.cells done.Went behind new.cells
    last_ends new last is =
        let none : t.plan.count - (t.earlier + 1) ≡ 0 = omega (arith, last) in
        subst (λ (l : Left). IsDone (step p l c m.cells) (parts_left (part ∷ ps) scope) m.cells done.Went behind new.cells)
        (sym (ends_left ∙ ap (λ (k : ℕ). ends_turn (turn_entered t) t.body t.plan.number (outside scope) (t.earlier + 1) k behind) none))
        (refl, (λ i. (is i).cells) ∙ exit_cells (turn_entered t) (outside scope) m)

    -- another one follows
    pub next_follows : (more : ℕ) (inner : Scope) (next : Part) → t.plan.count - (t.earlier + 1) ≡ suc more → inner ≡ frame (entered_by t.head t.plan 0) (t.earlier + 2) ∷ outside scope
        → next ≡ record { stmts = t.body; first = t.plan.number + 1; turn = Some (record t { earlier = t.earlier + 1 }) }
        → IsDone (step p (parts_left (part ∷ ps) scope) c m.cells) (parts_left (part ∷ ps) scope) m.cells done.Went (parts_left (next ∷ ps) inner) m.cells
    next_follows more inner next some there is =
        let e = turn_entered t in
        let two : t.earlier + 2 ≡ t.earlier + 1 + 1 = omega arith in
        let less : t.plan.count - (t.earlier + 1 + 1) ≡ more = omega (arith, some) in
        subst (λ (l : Left). IsDone (step p l c m.cells) (parts_left (part ∷ ps) scope) m.cells done.Went (parts_left (next ∷ ps) inner) m.cells)
        (sym (ends_left ∙ ap (λ (k : ℕ). ends_turn e t.body t.plan.number (outside scope) (t.earlier + 1) k behind) some)) (
          (λ i. parts_left (is i ∷ ps) (there i))
              ∙ (λ i. left_of_all t.body (t.plan.number + 1) (frame e (two i) ∷ outside scope) (ends_turn e t.body t.plan.number (outside scope) (t.earlier + 1 + 1) (less i) behind)),
          ap (λ (ts : List Touch). store_behind ts m.cells) (sym (none_left more e (outside scope))),
        )

  -- and then it can be done
  pub next_can : (table : Table) (inner : Scope) (next : Part) → CanGo table (part ∷ ps) scope → t.earlier + 1 < t.plan.count → inner ≡ frame (entered_by t.head t.plan 0) (t.earlier + 2) ∷ outside scope
      → next ≡ record { stmts = t.body; first = t.plan.number + 1; turn = Some (record t { earlier = t.earlier + 1 }) }
      → CanGo table (next ∷ ps) inner
  next_can table inner next h more there is =
      let k = can_end table h in
      let two : t.earlier + 2 ≡ t.earlier + 1 + 1 = omega arith in
      let f : Frame = frame (entered_by t.head t.plan 0) (t.earlier + 1 + 1) in
      let here : inner ≡ f ∷ outside scope = there ∙ (λ i. frame (entered_by t.head t.plan 0) (two i) ∷ outside scope) in
      let can : CanGo table (record { stmts = t.body; first = t.plan.number + 1; turn = Some (record t { earlier = t.earlier + 1 }) } ∷ ps) (f ∷ outside scope) = (
        body_can table (outside scope) t.plan.number t.head t.body k.0.can f,
        (record { plan = k.0.plan; inside = refl; earlier = more; can = k.0.can }, k.1),
      ) in
      subst (λ (s : Scope). CanGo table (next ∷ ps) s) (sym here)
      (subst (λ (q : Part). CanGo table (q ∷ ps) (f ∷ outside scope)) (sym is) can)

module _ (scope : Scope) (h : Head) (body : StmtTrees) (plan : Plan) (ps : List Part) (inner : Scope) (there : inner ≡ frame (entered_by h plan 0) 1 ∷ scope) where
  -- the first iteration of a DO is left, and those behind it
  pub first_left : 0 < plan.count → parts_left (first_turn_part h body plan ∷ ps) inner ≡ turns_left plan.count 1 (entered_by h plan plan.behind) body plan.number scope (parts_left ps scope)
  first_left some =
      let e = entered_by h plan plan.behind in
      let one : 0 + 1 ≡ 1 = refl in
      let count : plan.count ≡ suc (plan.count - 1) = omega (arith, some) in
      (λ i. parts_left (first_turn_part h body plan ∷ ps) (there i))
      ∙ sym (ap (λ (k : ℕ). turns_left k 1 e body plan.number scope (parts_left ps scope)) count)

  pub first_can_go : (table : Table) → IsPlan h body plan → 0 < plan.count → CanDo table scope plan.number (Do h body) → CanGo table ps scope → CanGo table (first_turn_part h body plan ∷ ps) inner
  first_can_go table right some can behind =
      let f : Frame = frame (entered_by h plan 0) 1 in
      subst (λ (s : Scope). CanGo table (first_turn_part h body plan ∷ ps) s) (sym there)
      (body_can table scope plan.number h body can f, (record { plan = right; inside = refl; earlier = some; can = can }, behind))

-- parts with which an iteration of a DO ends
module _ (parts : List Part) (scope : Scope) (e : Ends parts) (t : Turn) (is : first_turn parts ≡ Some t) where
  turn_is : e.part.turn ≡ Some t
  turn_is = sym (ap first_turn e.parts_are) ∙ is

  -- it can be ended, and what is behind it can be done
  pub ends_can : (table : Table) → CanGo table parts scope → CanEnd table scope t × CanGo table e.behind (outside scope)
  ends_can table h = can_end scope e.part e.behind t e.stmts_are turn_is table (subst (λ (ps : List Part). CanGo table ps scope) e.parts_are h)

  pub ends_turn_on : (table : Table) → CanGo table parts scope → t.earlier + 1 < 2 ^ 64 → CanTurnOn (first_turn parts)
  ends_turn_on table h few =
      let k = (ends_can table h).0 in
      let number : t.plan.number + 1 < 2 ^ 32 = omega (arith, k.can.few) in
      subst CanTurnOn (sym is) (few, number)

  module _ (p : Setting) (c : ℕ) (m new : Memory) where
    -- the last one leaves the DO
    pub last_done : t.plan.count ≤ t.earlier + 1 → t.earlier < t.plan.count → new ≡ exited (entered_by t.head t.plan 0) (outside scope) m → (after : List Part) → after ≡ behind_first parts → (inner : Scope) → inner ≡ outside scope
        → IsDone (step p (parts_left parts scope) c m.cells) (parts_left parts scope) m.cells done.Went (parts_left after inner) new.cells
    last_done last less there after behind inner out =
        let all : t.plan.count ≡ t.earlier + 1 = omega (arith, last, less) in
        subst (λ (ps : List Part). IsDone (step p (parts_left ps scope) c m.cells) (parts_left ps scope) m.cells done.Went (parts_left after inner) new.cells) (sym e.parts_are)
        (subst (λ (l : Left). IsDone (step p (parts_left (e.part ∷ e.behind) scope) c m.cells) (parts_left (e.part ∷ e.behind) scope) m.cells done.Went l new.cells)
        (sym ((λ i. parts_left (behind i) (out i)) ∙ ap (λ (ps : List Part). parts_left (behind_first ps) (outside scope)) e.parts_are))
        (last_ends scope e.part e.behind t e.stmts_are turn_is p c m new all there))

    -- another one follows
    pub next_done : t.earlier + 1 < t.plan.count → new.cells ≡ m.cells → (after : List Part) → after ≡ with_next_turn parts → (inner : Scope) → inner ≡ frame (entered_by t.head t.plan 0) (t.earlier + 2) ∷ outside scope
        → IsDone (step p (parts_left parts scope) c m.cells) (parts_left parts scope) m.cells done.Went (parts_left after inner) new.cells
    next_done less same after next inner there =
        let more : t.plan.count - (t.earlier + 1) ≡ suc (t.plan.count - (t.earlier + 1) - 1) = omega (arith, less) in
        subst (λ (ps : List Part). IsDone (step p (parts_left ps scope) c m.cells) (parts_left ps scope) m.cells done.Went (parts_left after inner) new.cells) (sym e.parts_are)
        (subst (λ (ps : List Part). IsDone (step p (parts_left (e.part ∷ e.behind) scope) c m.cells) (parts_left (e.part ∷ e.behind) scope) m.cells done.Went (parts_left ps inner) new.cells)
        (sym (next ∙ ap with_next_turn e.parts_are))
        (subst (λ (s : Store). IsDone (step p (parts_left (e.part ∷ e.behind) scope) c m.cells) (parts_left (e.part ∷ e.behind) scope) m.cells done.Went (parts_left (with_next_turn (e.part ∷ e.behind)) inner) s) (sym same)
        (next_follows scope e.part e.behind t e.stmts_are turn_is p c m (t.plan.count - (t.earlier + 1) - 1) inner (turned_on e.part e.part.turn) more there (ap (turned_on e.part) turn_is))))

  pub next_can_go : (table : Table) (after : List Part) (inner : Scope) → after ≡ with_next_turn parts → inner ≡ frame (entered_by t.head t.plan 0) (t.earlier + 2) ∷ outside scope → t.earlier + 1 < t.plan.count
      → CanGo table parts scope → CanGo table after inner
  next_can_go table after inner next there less h =
      subst (λ (ps : List Part). CanGo table ps inner) (sym (next ∙ ap with_next_turn e.parts_are))
      (next_can scope e.part e.behind t e.stmts_are turn_is table inner (turned_on e.part e.part.turn) (subst (λ (ps : List Part). CanGo table ps scope) e.parts_are h) less there (ap (turned_on e.part) turn_is))

  pub last_can_go : (table : Table) (after : List Part) (inner : Scope) → after ≡ behind_first parts → inner ≡ outside scope → CanGo table parts scope → CanGo table after inner
  last_can_go table after inner behind out h =
      subst (λ (ps : List Part). CanGo table ps inner) (sym (behind ∙ ap behind_first e.parts_are)) (subst (λ (s : Scope). CanGo table e.behind s) (sym out) (ends_can table h).1)

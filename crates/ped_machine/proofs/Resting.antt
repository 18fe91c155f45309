-- Steps of what is left, by those of its parts.
use Rattle.std.proofs.Common.{◌≡◌, ◌<◌, ◌^◌, ℕ, ◌+◌, List, [], ◌∷◌, false, Option, Some, None, Result, Ok, Err, refl, sym, ap, subst, ◌∙◌}
use Rattle.std.specs.Prelude.{is_some, IfOk}
use Rattle.ped_tree.specs.Tree.{StmtTree, StmtTrees, Assign, If, Do, Print, Read, Stop, Comment, no_stmts, more_stmts}
use Rattle.ped_tree.specs.Numbering.{statement_count, statements_count}
use Rattle.ped_symbols.specs.Kinds.{Table}
use Rattle.ped_store.specs.Stores.{Store}
use Rattle.ped_interleavings.specs.ped_eval.specs.Scopes.{Setting, Scope}
use Rattle.ped_interleavings.specs.ped_eval.specs.Readiness.{CanDo, CanRun}
use Rattle.ped_interleavings.specs.ped_eval.proofs.Parts.{first_can, rest_can}
use Rattle.ped_interleavings.specs.Lefts.{Left, finished, begins, left_of_all, or_else, wants_choice}
use Rattle.ped_interleavings.specs.Steps.{step, begun}
use Rattle.ped_machine.specs.declared.opens.Open.{Open}
use Rattle.ped_machine.specs.declared.rests.Rest.{Rest}
use Rattle.ped_machine.specs.declared.steps.Done as answer
use Rattle.ped_machine.specs.declared.steps.Done.TheVariants as done
use Rattle.ped_machine.specs.Doing.{IsDone}
use Rattle.ped_machine.specs.Parts.{Turn, Part, parts_of, turn_left, parts_left, CanEndAnd, CanGo, Begins, advanced, statements_behind, first_count, first_number, first_statements, IsSettled}
use Rattle.ped_machine.specs.Rests.{opened_left, rest_left}
use Rattle.ped_machine.proofs.PartsLeft.{begins_left}

-- the same step of the same
pub done_by : (p : Setting) (c : ℕ) (s u : Store) (d : answer.Done) (before behind l m : Left) → before ≡ l → behind ≡ m → IsDone (step p l c s) l s d m u → IsDone (step p before c s) before s d behind u
done_by p c s u d before behind l m e f h =
    subst (λ (x : Left). IsDone (step p x c s) x s d behind u) (sym e) (subst (λ (y : Left). IsDone (step p l c s) l s d y u) (sym f) h)

module _ {C : Type 0} (left : C → Left) (scope : Scope) where
  -- where no loop is open the parts are left
  pub none_inner : (r : Rest C) → r.inner ≡ None → rest_left left scope r ≡ parts_left (parts_of r.parts) scope
  none_inner r e = ap (λ (o : Option (Open C)). opened_left left scope o (parts_left (parts_of r.parts) scope)) e

  -- the step of the parts where no loop is open
  pub parts_done : (p : Setting) (c : ℕ) (s u : Store) (d : answer.Done) (old new : Rest C) (mid : List Part) (inner : Scope) → old.inner ≡ None → new.inner ≡ None → parts_left mid scope ≡ parts_left (parts_of old.parts) scope
      → IsDone (step p (parts_left mid scope) c s) (parts_left mid scope) s d (parts_left (parts_of new.parts) inner) u
      → IsDone (step p (rest_left left scope old) c s) (rest_left left scope old) s d (rest_left left inner new) u
  parts_done p c s u d old new mid inner e f same h =
      done_by p c s u d (rest_left left scope old) (rest_left left inner new) (parts_left mid scope) (parts_left (parts_of new.parts) inner)
      (none_inner old e ∙ sym same) (ap (λ (o : Option (Open C)). opened_left left inner o (parts_left (parts_of new.parts) inner)) f) h

  -- the same, where there may be no memory for it
  pub parts_done_or_not : {E : Type 0} (r : Result answer.Done E) (p : Setting) (c : ℕ) (s u : Store) (old new : Rest C) (mid : List Part) (inner : Scope) → old.inner ≡ None → new.inner ≡ None → parts_left mid scope ≡ parts_left (parts_of old.parts) scope
      → IfOk r (λ d. (p : Setting) (c : ℕ) → IsDone (step p (parts_left mid scope) c s) (parts_left mid scope) s d (parts_left (parts_of new.parts) inner) u)
      → IfOk r (λ d. IsDone (step p (rest_left left scope old) c s) (rest_left left scope old) s d (rest_left left inner new) u)
  parts_done_or_not (Ok d) p c s u old new mid inner e f same h = parts_done p c s u d old new mid inner e f same (h p c)
  parts_done_or_not (Err x) p c s u old new mid inner e f same h = tt

  -- nothing is left
  pub nothing_done : (p : Setting) (c : ℕ) (s : Store) (old new : Rest C) → old.inner ≡ None → new.inner ≡ None → IsSettled (parts_of old.parts) (parts_of new.parts) → parts_of new.parts ≡ []
      → IsDone (step p (rest_left left scope old) c s) (rest_left left scope old) s done.Ended (rest_left left scope new) s
  nothing_done p c s old new e f settled none =
      let over : parts_left (parts_of new.parts) scope ≡ finished = ap (λ (ps : List Part). parts_left ps scope) none in
      done_by p c s s done.Ended (rest_left left scope old) (rest_left left scope new) finished finished
      (none_inner old e ∙ sym (settled.left scope) ∙ over) (none_inner new f ∙ over) (refl, refl)

-- parts that begin with a statement leave its beginning
pub begins_parts : (t : StmtTree) (n : ℕ) (parts : List Part) (scope : Scope) → Begins t n parts → parts_left parts scope ≡ begins t n scope (parts_left (advanced parts) scope)
begins_parts t n parts scope b =
    let rest = turn_left scope b.part.turn (parts_left b.behind) in
    ap (λ (ps : List Part). parts_left ps scope) b.parts_are
    ∙ (λ i. left_of_all (b.stmts_are i) (b.number i) scope rest)
    ∙ begins_left t b.rest n scope rest b.real
    ∙ (λ i. begins t n scope (left_of_all (statements_behind (sym b.stmts_are i)) (sym b.number i + first_count (sym b.stmts_are i)) scope rest))
    ∙ ap (λ (ps : List Part). begins t n scope (parts_left (advanced ps) scope)) (sym b.parts_are)

module _ (table : Table) (t : StmtTree) (n : ℕ) (parts : List Part) (scope : Scope) (b : Begins t n parts) (h : CanGo table parts scope) where
  can_begin : CanRun table scope n (more_stmts t b.rest) × CanEndAnd table scope b.part.turn (CanGo table b.behind)
  can_begin =
      let k : CanGo table (b.part ∷ b.behind) scope = subst (λ (ps : List Part). CanGo table ps scope) b.parts_are h in
      (subst (λ (ts : StmtTrees). CanRun table scope n ts) b.stmts_are (subst (λ (j : ℕ). CanRun table scope j b.part.stmts) b.number k.0), k.1)

  -- the statement can be done
  pub begins_can : CanDo table scope n t
  begins_can = first_can table scope n t b.rest can_begin.0

  -- and what is behind it
  pub advanced_can : CanGo table (advanced parts) scope
  advanced_can =
      subst (λ (ps : List Part). CanGo table (advanced ps) scope) (sym b.parts_are) (
        subst (λ (ts : StmtTrees). CanRun table scope (b.part.first + first_count ts) (statements_behind ts)) (sym b.stmts_are)
            (subst (λ (j : ℕ). CanRun table scope (j + statement_count t) b.rest) (sym b.number) (rest_can table scope n t b.rest can_begin.0)),
        can_begin.1,
      )

  pub begins_few : first_number parts + statements_count (first_statements parts) < 2 ^ 31
  begins_few =
      subst (λ (ps : List Part). first_number ps + statements_count (first_statements ps) < 2 ^ 31) (sym b.parts_are)
      (subst (λ (ts : StmtTrees). b.part.first + statements_count ts < 2 ^ 31) (sym b.stmts_are)
      (subst (λ (j : ℕ). j + statements_count (more_stmts t b.rest) < 2 ^ 31) (sym b.number) can_begin.0.few))

-- the step of a statement that comes first
pub statement_done : (p : Setting) (t : StmtTree) (n c : ℕ) (scope : Scope) (parts : List Part) (s u : Store) (d : answer.Done) (before behind : Left) → Begins t n parts → before ≡ parts_left parts scope
    → ((l : Left) → IsDone (begun p t n scope (parts_left (advanced parts) scope) s) l s d behind u)
    → IsDone (step p before c s) before s d behind u
statement_done p t n c scope parts s u d before behind b e h =
    done_by p c s u d before behind (begins t n scope (parts_left (advanced parts) scope)) behind (e ∙ begins_parts t n parts scope b) refl
    (h (begins t n scope (parts_left (advanced parts) scope)))

statements_want_none : (ts : StmtTrees) (n : ℕ) (scope : Scope) (rest : Left) → wants_choice rest ≡ false → wants_choice (left_of_all ts n scope rest) ≡ false
statements_want_none no_stmts n scope rest h = h
statements_want_none (more_stmts (Comment text) ts) n scope rest h = statements_want_none ts (n + 0) scope rest h
statements_want_none (more_stmts (Assign a b) ts) n scope rest h = refl
statements_want_none (more_stmts (If c a b) ts) n scope rest h = refl
statements_want_none (more_stmts (Do head body) ts) n scope rest h = refl
statements_want_none (more_stmts (Print items) ts) n scope rest h = refl
statements_want_none (more_stmts (Read items) ts) n scope rest h = refl
statements_want_none (more_stmts Stop ts) n scope rest h = refl

turn_wants_none : (scope : Scope) (o : Option Turn) (rest : Scope → Left) → ((inner : Scope) → wants_choice (rest inner) ≡ false) → wants_choice (turn_left scope o rest) ≡ false
turn_wants_none scope None rest h = h scope
turn_wants_none scope (Some t) rest h = refl

-- outside of open loops no step takes a choice
pub parts_want_none : (ps : List Part) (scope : Scope) → wants_choice (parts_left ps scope) ≡ false
parts_want_none [] scope = refl
parts_want_none (p ∷ ps) scope = statements_want_none p.stmts p.first scope (turn_left scope p.turn (parts_left ps)) (turn_wants_none scope p.turn (parts_left ps) (parts_want_none ps))

pub first_of_same : (o : Option ℕ) → is_some (or_else o o) ≡ is_some o
first_of_same None = refl
first_of_same (Some j) = refl

pub none_of : {A : Type 0} (o : Option A) → is_some o ≡ false → o ≡ None
none_of None h = refl
none_of (Some x) h = absurd cc

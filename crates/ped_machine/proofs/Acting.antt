-- Statements by what the code answers for them.
use Rattle.std.specs.Prelude.{IfOk, OnOk, OnErr}
use Rattle.std.proofs.Common.{◌≡◌, ℕ, ◌+◌, List, [], ◌∷◌, Bool, Option, Some, None, Result, Ok, Err, if◌then◌else◌, refl, sym, ap, subst, ◌∙◌}
use Rattle.ped_tree.specs.Tree.{StmtTree, ExprTree, ItemTree, CondTree, Head, StmtTrees, Assign, If, Do, Print, Read, Stop}
use Rattle.ped_tree.specs.Numbering.{statements_count}
use Rattle.ped_symbols.specs.Kinds.{Table}
use Rattle.ped_store.specs.Cells.{In}
use Rattle.ped_store.specs.Stores.{Number, Lines, Store, put}
use Rattle.ped_store.specs.Acts.{Place, did, entered, store_behind}
use Rattle.ped_store.specs.Memories.{Memory, with_content, with_printed}
use Rattle.ped_interleavings.specs.ped_eval.specs.Agreement.{IsSame, DoCopiesStand}
use Rattle.ped_interleavings.specs.ped_eval.specs.Scopes.{Setting, Scope, names_in, place_of, cell_of, index_value}
use Rattle.ped_interleavings.specs.ped_eval.specs.ScopeViews.{names_at}
use Rattle.ped_interleavings.specs.ped_eval.specs.Evaluation.{Seen, numbered, number_behind}
use Rattle.ped_interleavings.specs.ped_eval.specs.Values.{truth}
use Rattle.ped_interleavings.specs.ped_eval.specs.Statements.{Stored, assigned, assignment_touches, printed_line, print_touches, write_touch, reading, reading_touches, Taking}
use Rattle.ped_interleavings.specs.ped_eval.specs.Takings.{read_taken}
use Rattle.ped_interleavings.specs.ped_eval.specs.Loops.{Limits, limits, Entered, entered_with, exit_when_none, entry_touches}
use Rattle.ped_interleavings.specs.ped_eval.specs.Plans.{entered_by, IsPlanWithin}
use Rattle.ped_interleavings.specs.ped_eval.specs.declared.plans.Plan.{Plan}
use Rattle.ped_interleavings.specs.ped_eval.specs.Runs.{going, failed, does, nothing_done, on_value, run_taking}
use Rattle.ped_interleavings.specs.ped_eval.specs.Readiness.{setting_by, CanRun}
use Rattle.ped_interleavings.specs.ped_eval.proofs.Endings.{reads_leave, only_reads}
use Rattle.ped_interleavings.specs.ped_eval.proofs.KeptByWrites.{IsKeptByWrites}
use Rattle.ped_interleavings.specs.ped_eval.proofs.Takings.{reading_taken, read_ending, read_ending_fails}
use Rattle.ped_interleavings.specs.Lefts.{Left, left_of_all, entered_left}
use Rattle.ped_interleavings.specs.Steps.{Next, went, act_of, simple_step, seen_next, begun}
use Rattle.ped_machine.specs.Doing.{IsDone, IsActed, IfOpen, HasRoom}
use Rattle.ped_machine.proofs.Growing.{same_copies}
use Rattle.ped_machine.specs.Parts.{Part, parts_left, CanGo}
use Rattle.ped_machine.specs.declared.steps.Done as answer
use Rattle.ped_machine.specs.declared.steps.Done.TheVariants as done

-- what is kept is the store of the run
abbrev pub Same : Store → Store → Type 0
Same kept s = kept ≡ s

same_itself : (scope : Scope) (u : Store) → IsSame scope u u
same_itself [] u = λ c h. refl
same_itself (f ∷ fs) u = (λ x h. refl, same_itself fs u)

pub same_kept : (p : Setting) (scope : Scope) → IsKeptByWrites p scope Same
same_kept p scope = record {
  same = λ u s h. subst (λ (z : Store). IsSame scope u z) h (same_itself scope u);
  variable = λ c v u s is h. ap (put c v) h;
  input = λ v u s h. ap (put In v) h;
}

going_is : {a b : Store} → going a ≡ going b → a ≡ b
going_is h = cc

-- a READ that has failed
fails_by : (at : Place) (t : Taking) (l rest : Left) (f : ℕ) (u s : Store) (o : Option ℕ) → t.fault ≡ o → (run_taking at t t.fault s).ending ≡ failed f at.statement
    → IsDone (simple_step (run_taking at t t.fault s) rest) l s (done.Fault f at.statement) rest u
fails_by at t l rest f u s None e q = absurd (let w : going (store_behind (reading_touches t s) s) ≡ failed f at.statement = sym (λ i. (run_taking at t (e i) s).ending) ∙ q in cc)
fails_by at t l rest f u s (Some k) e q =
    let w : failed k at.statement ≡ failed f at.statement = sym (λ i. (run_taking at t (e i) s).ending) ∙ q in
    let is : k ≡ f = cc in
    subst (λ (x : Next). IsDone x l s (done.Fault f at.statement) rest u) (λ i. simple_step (run_taking at t (sym e i) s) rest) (sym is, refl)

module _ (table : Table) (scope : Scope) (n : ℕ) (m : Memory) (bounds : m.bounds ≡ (setting_by table).bounds) where
  -- what names stand for by what is kept is what they stand for in the run
  pub names_are : names_at m scope table.constants ≡ names_in (setting_by table) scope
  names_are = λ i. record { bounds = bounds i; constants = table.constants; cell = cell_of scope; index = index_value scope }

  -- an assignment that stores
  pub assigns : (left right : ExprTree) (w : Stored) (new : Memory) → (assigned (names_at m scope table.constants) left right m.cells).result ≡ Ok w → new ≡ with_content w.cell (Number w.number) m
      → IsActed table scope n (Assign left right) m done.Went new
  assigns left right w new e k l rest =
      let p = setting_by table in
      let at = place_of p n scope in
      let a = assigned (names_in p scope) left right m.cells in
      let is : a.result ≡ Ok w = (λ i. (assigned (sym names_are i) left right m.cells).result) ∙ e in
      subst (λ (x : Next). IsDone x l m.cells done.Went rest new.cells)
      (λ i. simple_step (on_value at a.seen (sym is i) (λ seen v. does did at (assignment_touches seen v) nothing_done m.cells)) rest)
      (refl, (λ i. (k i).cells) ∙ sym (reads_leave a.seen 1 (write_touch w.cell (Number w.number) (number_behind 1 a.seen) ∷ []) m.cells))

  pub assign_fails : (left right : ExprTree) (f : ℕ) (new : Memory) → (assigned (names_at m scope table.constants) left right m.cells).result ≡ Err f
      → IsActed table scope n (Assign left right) m (done.Fault f n) new
  assign_fails left right f new e l rest =
      let p = setting_by table in
      let at = place_of p n scope in
      let a = assigned (names_in p scope) left right m.cells in
      let is : a.result ≡ Err f = (λ i. (assigned (sym names_are i) left right m.cells).result) ∙ e in
      subst (λ (x : Next). IsDone x l m.cells (done.Fault f n) rest new.cells)
      (λ i. simple_step (on_value at a.seen (sym is i) (λ seen v. does did at (assignment_touches seen v) nothing_done m.cells)) rest)
      (refl, refl)

  -- a PRINT that writes a line
  pub prints : (items : List ItemTree) (line : List ℕ) (new : Memory) → (printed_line (names_at m scope table.constants) items m.cells).result ≡ Ok line → new ≡ with_printed line m
      → IsActed table scope n (Print items) m done.Went new
  prints items line new e k l rest =
      let p = setting_by table in
      let at = place_of p n scope in
      let a = printed_line (names_in p scope) items m.cells in
      let is : a.result ≡ Ok line = (λ i. (printed_line (sym names_are i) items m.cells).result) ∙ e in
      subst (λ (x : Next). IsDone x l m.cells done.Went rest new.cells)
      (λ i. simple_step (on_value at a.seen (sym is i) (λ seen v. does did at (print_touches seen v m.cells) nothing_done m.cells)) rest)
      (refl, (λ i. (k i).cells) ∙ sym (reads_leave a.seen 1 _ m.cells))

  pub print_fails : (items : List ItemTree) (f : ℕ) (new : Memory) → (printed_line (names_at m scope table.constants) items m.cells).result ≡ Err f
      → IsActed table scope n (Print items) m (done.Fault f n) new
  print_fails items f new e l rest =
      let p = setting_by table in
      let at = place_of p n scope in
      let a = printed_line (names_in p scope) items m.cells in
      let is : a.result ≡ Err f = (λ i. (printed_line (sym names_are i) items m.cells).result) ∙ e in
      subst (λ (x : Next). IsDone x l m.cells (done.Fault f n) rest new.cells)
      (λ i. simple_step (on_value at a.seen (sym is i) (λ seen v. does did at (print_touches seen v m.cells) nothing_done m.cells)) rest)
      (refl, refl)

  -- a READ that takes its items
  pub reads : (items : List ExprTree) (after : Memory) → m.cells In ≡ Lines m.input.lines → after.cells In ≡ Lines after.input.lines → read_taken table.constants scope items m ≡ Ok after
      → IsActed table scope n (Read items) m done.Went after
  reads items after kept kept_after e l rest =
      let p = setting_by table in
      let at = place_of p n scope in
      let t = reading (names_in p scope) items m.cells in
      let a = reading_taken p scope Same (same_kept p scope) at items m.cells m bounds refl kept after e in
      let q = read_ending p scope Same (same_kept p scope) at items m.cells m bounds refl kept after e kept_after in
      let w : going (store_behind (reading_touches t m.cells) m.cells) ≡ going q.0 = sym (λ i. (run_taking at t (a.fault i) m.cells).ending) ∙ q.1 in
      let is : store_behind (reading_touches t m.cells) m.cells ≡ q.0 = going_is w in
      subst (λ (x : Next). IsDone x l m.cells done.Went rest after.cells)
      (λ i. simple_step (run_taking at t (sym a.fault i) m.cells) rest)
      (refl, q.2 ∙ sym is)

  pub read_fails : (items : List ExprTree) (f : ℕ) (new : Memory) → m.cells In ≡ Lines m.input.lines → read_taken table.constants scope items m ≡ Err f
      → IsActed table scope n (Read items) m (done.Fault f n) new
  read_fails items f new kept e l rest =
      let p = setting_by table in
      let at = place_of p n scope in
      let t = reading (names_in p scope) items m.cells in
      let q = read_ending_fails p scope Same (same_kept p scope) at items m.cells m bounds refl kept f e in
      fails_by at t l rest f new.cells m.cells t.fault refl q

  -- a STOP
  pub stops : IsActed table scope n Stop m done.Halted m
  stops l rest = refl

  module _ (condition : CondTree) (a b : StmtTrees) (l rest : Left) where
    abbrev pub part_left : Bool → Left
    part_left holds = if holds then left_of_all a (n + 1) scope rest else left_of_all b (n + 1 + statements_count a) scope rest

    -- a block IF whose condition has this truth
    pub branches : (holds : Bool) (behind : Left) → (truth (names_at m scope table.constants) condition m.cells).result ≡ Ok holds → behind ≡ part_left holds
        → IsDone (begun (setting_by table) (If condition a b) n scope rest m.cells) l m.cells done.Went behind m.cells
    branches holds behind e k =
        let p = setting_by table in
        let at = place_of p n scope in
        let t = truth (names_in p scope) condition m.cells in
        let is : t.result ≡ Ok holds = (λ i. (truth (sym names_are i) condition m.cells).result) ∙ e in
        subst (λ (x : Next). IsDone x l m.cells done.Went behind m.cells)
        (λ i. seen_next at t.seen (sym is i) (λ seen holds. went (act_of did at (numbered 1 seen)) (part_left holds)))
        (k, sym (only_reads t.seen 1 m.cells))

    pub branch_fails : (f : ℕ) (behind : Left) (u : Store) → (truth (names_at m scope table.constants) condition m.cells).result ≡ Err f
        → IsDone (begun (setting_by table) (If condition a b) n scope rest m.cells) l m.cells (done.Fault f n) behind u
    branch_fails f behind u e =
        let p = setting_by table in
        let at = place_of p n scope in
        let t = truth (names_in p scope) condition m.cells in
        let is : t.result ≡ Err f = (λ i. (truth (sym names_are i) condition m.cells).result) ∙ e in
        subst (λ (x : Next). IsDone x l m.cells (done.Fault f n) behind u)
        (λ i. seen_next at t.seen (sym is i) (λ seen holds. went (act_of did at (numbered 1 seen)) (part_left holds)))
        (refl, refl)

  module _ (h : Head) (body : StmtTrees) (start rest : Left) where
    abbrev goes_in : List Seen → Limits → Next
    goes_in seen l =
        let d = entered_with (setting_by table) n h body seen l in
        went (act_of (entered d.count) (place_of (setting_by table) n scope) (entry_touches seen d scope)) (entered_left h.parallel d.count d body n scope rest)

    -- the entry of a DO, with what it is then
    pub enters : (l : Limits) (e : Entered) (left : Left) (new : Store) → (limits (names_at m scope table.constants) h m.cells).result ≡ Ok l
        → entered_with (setting_by table) n h body (limits (names_at m scope table.constants) h m.cells).seen l ≡ e
        → left ≡ entered_left h.parallel e.count e body n scope rest → new ≡ store_behind (exit_when_none e.count e scope) m.cells
        → IsDone (begun (setting_by table) (Do h body) n scope rest m.cells) start m.cells done.Went left new
    enters l e left new r is k u =
        let p = setting_by table in
        let t = limits (names_in p scope) h m.cells in
        let lim : t.result ≡ Ok l = (λ i. (limits (sym names_are i) h m.cells).result) ∙ r in
        let there : entered_with p n h body t.seen l ≡ e = (λ i. entered_with p n h body (limits (sym names_are i) h m.cells).seen l) ∙ is in
        subst (λ (x : Next). IsDone x start m.cells done.Went left new)
        (λ i. seen_next (place_of p n scope) t.seen (sym lim i) goes_in) (
          k ∙ (λ i. entered_left h.parallel (sym there i).count (sym there i) body n scope rest),
          u ∙ (λ i. store_behind (exit_when_none (sym there i).count (sym there i) scope) m.cells)
              ∙ sym (reads_leave t.seen 1 (exit_when_none (entered_with p n h body t.seen l).count (entered_with p n h body t.seen l) scope) m.cells),
        )

    pub enter_fails : (f : ℕ) (left : Left) (new : Store) → (limits (names_at m scope table.constants) h m.cells).result ≡ Err f
        → IsDone (begun (setting_by table) (Do h body) n scope rest m.cells) start m.cells (done.Fault f n) left new
    enter_fails f left new r =
        let p = setting_by table in
        let t = limits (names_in p scope) h m.cells in
        let lim : t.result ≡ Err f = (λ i. (limits (sym names_are i) h m.cells).result) ∙ r in
        subst (λ (x : Next). IsDone x start m.cells (done.Fault f n) left new)
        (λ i. seen_next (place_of p n scope) t.seen (sym lim i) goes_in)
        (refl, refl)

-- the same statement
pub acted_as : (table : Table) (scope : Scope) (n : ℕ) (t u : StmtTree) (m new : Memory) (d : answer.Done) → t ≡ u → IsActed table scope n u m d new → IsActed table scope n t m d new
acted_as table scope n t u m new d e h = subst (λ (x : StmtTree). IsActed table scope n x m d new) (sym e) h

-- what holds holds where the run may go on
pub open_by : {E : Type 0} (r : Result answer.Done E) (P : Type 0) → P → IfOpen r P
open_by (Ok done.Went) P h = h
open_by (Ok done.Ended) P h = h
open_by (Ok done.Halted) P h = tt
open_by (Ok (done.Fault f n)) P h = tt
open_by (Err x) P h = h

module _ {E : Type 0} (r : Result answer.Done E) (old new : List Part) (ts : StmtTrees) (k : ℕ) (ok : OnOk r (new ≡ record { stmts = ts; first = k; turn = None } ∷ old)) where
  -- statements that are put before what is left can be done where that can
  pub pushed_can : (table : Table) (scope : Scope) → CanRun table scope k ts → CanGo table old scope → OnErr r (new ≡ old) → IfOpen r (CanGo table new scope)
  pushed_can table scope can go err = by r ok err
    where
      by : (q : Result answer.Done E) → OnOk q (new ≡ record { stmts = ts; first = k; turn = None } ∷ old) → OnErr q (new ≡ old) → IfOpen q (CanGo table new scope)
      by (Ok d) h e = open_by {E = E} (Ok d) (CanGo table new scope) (subst (λ (ps : List Part). CanGo table ps scope) (sym h) (can, go))
      by (Err x) h e = subst (λ (ps : List Part). CanGo table ps scope) (sym e) go

  -- the part of an IF that its condition picks is put before what is left
  pub branched : (table : Table) (scope : Scope) (n : ℕ) (m : Memory) (bounds : m.bounds ≡ (setting_by table).bounds) (t : StmtTree) (condition : CondTree) (a b : StmtTrees) (holds : Bool)
      → t ≡ If condition a b → (truth (names_at m scope table.constants) condition m.cells).result ≡ Ok holds
      → left_of_all ts k scope (parts_left old scope) ≡ (if holds then left_of_all a (n + 1) scope (parts_left old scope) else left_of_all b (n + 1 + statements_count a) scope (parts_left old scope))
      → IfOk r (λ d. d ≡ done.Went)
      → IfOk r (λ d. (l : Left) → IsDone (begun (setting_by table) t n scope (parts_left old scope) m.cells) l m.cells d (parts_left new scope) m.cells)
  branched table scope n m bounds t condition a b holds is e same gone = by r ok gone
    where
      by : (q : Result answer.Done E) → OnOk q (new ≡ record { stmts = ts; first = k; turn = None } ∷ old) → IfOk q (λ d. d ≡ done.Went)
          → IfOk q (λ d. (l : Left) → IsDone (begun (setting_by table) t n scope (parts_left old scope) m.cells) l m.cells d (parts_left new scope) m.cells)
      by (Ok d) h w =
          λ l. subst (λ (x : StmtTree). IsDone (begun (setting_by table) x n scope (parts_left old scope) m.cells) l m.cells d (parts_left new scope) m.cells) (sym is)
          (subst (λ (y : answer.Done). IsDone (begun (setting_by table) (If condition a b) n scope (parts_left old scope) m.cells) l m.cells y (parts_left new scope) m.cells) (sym w)
          (branches table scope n m bounds condition a b l (parts_left old scope) holds (parts_left new scope) e (ap (λ (ps : List Part). parts_left ps scope) h ∙ same)))
      by (Err x) h w = tt

-- the same, where there may be no memory for it
pub acted_or_not : {E : Type 0} (r : Result answer.Done E) (table : Table) (scope : Scope) (n : ℕ) (t u : StmtTree) (m new : Memory) → t ≡ u → IfOk r (λ d. IsActed table scope n u m d new)
    → (rest : Left) → IfOk r (λ d. (l : Left) → IsDone (begun (setting_by table) t n scope rest m.cells) l m.cells d rest new.cells)
acted_or_not (Ok d) table scope n t u m new e h rest = λ l. acted_as table scope n t u m new d e h l rest
acted_or_not (Err x) table scope n t u m new e h rest = tt

-- a DO that has been entered
module _ {E : Type 0} (r : Result answer.Done E) (table : Table) (scope : Scope) (n : ℕ) (m : Memory) (bounds : m.bounds ≡ (setting_by table).bounds) (h : Head) (body : StmtTrees) (rest : Left) (plan : Plan) (lim : Limits) (left : Left) (new : Store) where
  pub entered_done : (limits (names_at m scope table.constants) h m.cells).result ≡ Ok lim → IsPlanWithin table.constants n h body lim plan → plan.behind ≡ number_behind 1 (limits (names_at m scope table.constants) h m.cells).seen
      → IfOk r (λ d. d ≡ done.Went) → OnOk r (left ≡ entered_left h.parallel plan.count (entered_by h plan plan.behind) body plan.number scope rest)
      → OnOk r (new ≡ store_behind (exit_when_none plan.count (entered_by h plan plan.behind) scope) m.cells)
      → IfOk r (λ d. (l : Left) → IsDone (begun (setting_by table) (Do h body) n scope rest m.cells) l m.cells d left new)
  entered_done is within behind gone lefts store = by r gone lefts store
    where
      by : (q : Result answer.Done E) → IfOk q (λ d. d ≡ done.Went) → OnOk q (left ≡ entered_left h.parallel plan.count (entered_by h plan plan.behind) body plan.number scope rest)
          → OnOk q (new ≡ store_behind (exit_when_none plan.count (entered_by h plan plan.behind) scope) m.cells)
          → IfOk q (λ d. (l : Left) → IsDone (begun (setting_by table) (Do h body) n scope rest m.cells) l m.cells d left new)
      by (Ok d) w k u =
          let e = entered_by h plan plan.behind in
          let number : n ≡ plan.number = ap (λ (x : Entered). x.number) (within.entered []) in
          λ l. subst (λ (y : answer.Done). IsDone (begun (setting_by table) (Do h body) n scope rest m.cells) l m.cells y left new) (sym w)
          (enters table scope n m bounds h body l rest lim e left new is
          (within.entered (limits (names_at m scope table.constants) h m.cells).seen ∙ ap (entered_by h plan) (sym behind))
          (k ∙ ap (λ (j : ℕ). entered_left h.parallel plan.count e body j scope rest) (sym number)) u)
      by (Err x) w k u = tt

-- what is left of an iteration has copies still
pub entered_copies : (A B : Type 0) {E : Type 0} (r : Result answer.Done E) (scope inner : Scope) (m new : Memory) → OnOk r (DoCopiesStand scope m.stands → DoCopiesStand inner new.stands) → OnErr r ((inner ≡ scope) × A × B × HasRoom m new)
    → DoCopiesStand scope m.stands → IfOpen r (DoCopiesStand inner new.stands)
entered_copies A B {E = E} (Ok d) scope inner m new f k h = open_by {E = E} (Ok d) (DoCopiesStand inner new.stands) (f h)
entered_copies A B (Err x) scope inner m new f k h = same_copies scope inner m new k.0 k.3.grown h

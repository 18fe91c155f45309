-- Open loops: which iterations are finished, and what starting one and doing a step of one leave.
use Rattle.std.proofs.Common.{◌≡◌, ◌≢◌, ◌<◌, ◌≤◌, ℕ, ◌+◌, [], ◌∷◌, length, Bool, true, false, Option, Some, None, eqb-true, if◌then◌else◌, refl, sym, ap, subst, ◌∙◌, arith}
use Rattle.std.specs.Prelude.{◌==◌, MatchOption}
use Rattle.slab.specs.Slab.{Slab, get}
use Rattle.ped_marks.specs.declared.marks.Mark.{Mark}
use Rattle.ped_marks.specs.declared.marks.Mark.TheVariants.{Waits, Running, Done}
use Rattle.ped_marks.specs.Marks.{at, is_done}
use Rattle.ped_tree.specs.Tree.{StmtTree, StmtTrees, Assign, If, Do, Print, Read, Stop, Comment, no_stmts, more_stmts}
use Rattle.ped_tree.specs.Views.{head_of, stmt_trees, do_tree}
use Rattle.ped_symbols.specs.Kinds.{Table}
use Rattle.ped_store.specs.Cells.{Cell}
use Rattle.ped_interleavings.specs.ped_eval.specs.Scopes.{Scope}
use Rattle.ped_interleavings.specs.ped_eval.specs.Loops.{frame}
use Rattle.ped_interleavings.specs.ped_eval.specs.Plans.{IsPlan}
use Rattle.ped_interleavings.specs.ped_eval.specs.Readiness.{CanDo}
use Rattle.ped_interleavings.specs.ped_eval.specs.declared.plans.Plan.{Plan}
use Rattle.ped_interleavings.specs.Lefts.{Left, Lefts, finished, begins, ends_turn, open_loop, is_finished, left_of_all, body_left, unfinished, or_else}
use Rattle.ped_machine.specs.declared.opens.Open.{Open}
use Rattle.ped_machine.specs.Parts.{is_comment, IsWithoutComments, begins_with_comment}
use Rattle.ped_machine.specs.Opens.{kept_left, mark_left, lefts_of, is_bare, open_entered, place_left, place_scope, IsSameLoop, HasMarked, IsSameElsewhere, IsRunning, IsOpen}
use Rattle.ped_machine.specs.Growth.{MoreNear}
use Rattle.ped_machine.proofs.OpenLefts.{unfinished_none, unfinished_first}

-- only comments are finished at once, wherever they stand
pub bare_there : (ts : StmtTrees) (n k : ℕ) (scope other : Scope) → is_finished (left_of_all ts n scope finished) ≡ is_finished (left_of_all ts k other finished)
bare_there no_stmts n k scope other = refl
bare_there (more_stmts (Comment text) ts) n k scope other = bare_there ts (n + 0) (k + 0) scope other
bare_there (more_stmts (Assign left right) ts) n k scope other = refl
bare_there (more_stmts (If c a b) ts) n k scope other = refl
bare_there (more_stmts (Do head body) ts) n k scope other = refl
bare_there (more_stmts (Print items) ts) n k scope other = refl
bare_there (more_stmts (Read items) ts) n k scope other = refl
bare_there (more_stmts Stop ts) n k scope other = refl

first_real : (t : StmtTree) (ts : StmtTrees) → is_comment t ≡ false → is_bare (more_stmts t ts) ≡ false
first_real (Comment text) ts h = absurd cc
first_real (Assign left right) ts h = refl
first_real (If c a b) ts h = refl
first_real (Do head body) ts h = refl
first_real (Print items) ts h = refl
first_real (Read items) ts h = refl
first_real Stop ts h = refl

-- no statement behind comments: there are only comments
pub bare_without : (body new : StmtTrees) → IsWithoutComments body new → new ≡ no_stmts → is_bare body ≡ true
bare_without body new h e = ap is_finished (sym (h.left 0 [] finished)) ∙ ap (λ (ts : StmtTrees). is_finished (left_of_all ts 0 [] finished)) e

-- a statement behind comments: there are not only comments
pub real_without : (body new : StmtTrees) (t : StmtTree) (ts : StmtTrees) → IsWithoutComments body new → new ≡ more_stmts t ts → is_bare body ≡ false
real_without body new t ts h e =
    ap is_finished (sym (h.left 0 [] finished)) ∙ ap (λ (us : StmtTrees). is_finished (left_of_all us 0 [] finished)) e
    ∙ first_real t ts (sym (ap begins_with_comment e) ∙ h.begins)

pub is_nothing : (l : Left) → is_finished l ≡ true → l ≡ finished
is_nothing finished h = refl
is_nothing (begins t n scope rest) h = absurd cc
is_nothing (ends_turn e body n scope k more rest) h = absurd cc
is_nothing (open_loop e n scope ls rest) h = absurd cc

module _ {C : Type 0} (left : C → Left) (base : C → Scope) (sound : C → Table → (Cell → Bool) → Type 0) (scope : Scope) where
  abbrev pub body_of : Open C → StmtTrees
  body_of o = stmt_trees o.d.now.body.items

  abbrev pub whole_of : Open C → ℕ → Left
  whole_of o j = body_left (open_entered o) (body_of o) o.plan.number scope (j + 1) finished

  -- what an iteration has left by its mark
  pub left_by : (o : Open C) (j : ℕ) (mark : Mark) → at o.marks j ≡ mark → place_left left scope o j ≡ mark_left left o.tasks mark (whole_of o j)
  left_by o j mark h = ap (λ m. mark_left left o.tasks m (whole_of o j)) h

  pub waits_finished : (o : Open C) (j : ℕ) → at o.marks j ≡ Waits → is_finished (place_left left scope o j) ≡ is_bare (body_of o)
  waits_finished o j h = ap is_finished (left_by o j Waits h) ∙ bare_there (body_of o) (o.plan.number + 1) 0 _ []

  module _ (table : Table) (stands : Cell → Bool) (o : Open C) (h : IsOpen left base sound table stands scope o) where
    running_open : (j key : ℕ) → j < o.plan.count → at o.marks j ≡ Running key → is_finished (place_left left scope o j) ≡ false
    running_open j key k r =
        let t = h.running j key k r in
        ap is_finished (left_by o j (Running key) r ∙ ap (kept_left left) t.kept) ∙ t.unfinished

    -- in a loop with comments alone all iterations are finished
    bare_finished : is_bare (body_of o) ≡ true → (j : ℕ) → j < o.plan.count → is_finished (place_left left scope o j) ≡ true
    bare_finished b j k = by (at o.marks j) refl
      where
        by : (mark : Mark) → at o.marks j ≡ mark → is_finished (place_left left scope o j) ≡ true
        by Waits e = waits_finished o j e ∙ b
        by Done e = ap is_finished (left_by o j Done e)
        by (Running key) e = let w : false ≡ true = sym (h.real j key k e) ∙ b in absurd cc

    -- in another those are that are done
    done_finished : is_bare (body_of o) ≡ false → (j : ℕ) → j < o.plan.count → is_finished (place_left left scope o j) ≡ is_done (at o.marks j)
    done_finished b j k = by (at o.marks j) refl
      where
        by : (mark : Mark) → at o.marks j ≡ mark → is_finished (place_left left scope o j) ≡ is_done (at o.marks j)
        by Waits e = waits_finished o j e ∙ b ∙ sym (ap is_done e)
        by Done e = ap is_finished (left_by o j Done e) ∙ sym (ap is_done e)
        by (Running key) e = running_open j key k e ∙ sym (ap is_done e)

    abbrev lefts : Lefts
    lefts = lefts_of o.plan.count (place_left left scope o)

    -- no iteration is picked in a loop with comments alone
    pub bare_picks : (place : ℕ) → is_bare (body_of o) ≡ true → None ≡ or_else (unfinished place lefts) (unfinished 0 lefts)
    bare_picks place b =
        sym (λ i. or_else
        (unfinished_none o.plan.count place (place_left left scope o) (λ k a c. bare_finished b k c) i)
        (unfinished_none o.plan.count 0 (place_left left scope o) (λ k a c. bare_finished b k c) i))

    abbrev IsFirst : ℕ → Option ℕ → Type 0
    IsFirst place found =
        MatchOption found ((k : ℕ) → place ≤ k → k < length o.marks → at o.marks k ≡ Done)
        (λ j. (place ≤ j) × (j < length o.marks) × (is_done (at o.marks j) ≡ false) × ((k : ℕ) → place ≤ k → k < j → at o.marks k ≡ Done))

    -- the marks tell the first unfinished iteration
    pub marks_tell : (place : ℕ) (found : Option ℕ) → is_bare (body_of o) ≡ false → IsFirst place found → found ≡ unfinished place lefts
    marks_tell place None b f =
        sym (unfinished_none o.plan.count place (place_left left scope o) (λ k a c. done_finished b k c ∙ ap is_done (f k a (subst (λ (n : ℕ). k < n) (sym h.marks) c))))
    marks_tell place (Some j) b f =
        let less : j < o.plan.count = subst (λ (n : ℕ). j < n) h.marks f.1 in
        sym (unfinished_first o.plan.count place j (place_left left scope o) f.0 less (done_finished b j less ∙ f.2)
        (λ k a c. done_finished b k (omega (arith, c, less)) ∙ ap is_done (f.3 k a c)))

  -- the same loop has the same whole
  pub same_whole : (o p : Open C) (j : ℕ) → IsSameLoop o p → whole_of p j ≡ whole_of o j
  same_whole o p j h = λ i. body_left (record {
    number = (h.plan i).number;
    head = head_of (h.d i).now;
    first = (h.plan i).first;
    step = (h.plan i).step;
    count = (h.plan i).count;
    behind_bounds = (h.plan i).behind;
    inner = (h.plan i).inner;
  }) (stmt_trees (h.d i).now.body.items) (h.plan i).number scope (j + 1) finished

  abbrev pub Grows : Type 0
  Grows = (w : C) (table : Table) (stands more : Cell → Bool) → MoreNear (base w) stands more → sound w table stands → sound w table more

  -- the same loop has the same iterations
  pub same_scope : (o p : Open C) (j : ℕ) → IsSameLoop o p → place_scope scope p j ≡ place_scope scope o j
  same_scope o p j h = λ i. frame (record {
    number = (h.plan i).number;
    head = head_of (h.d i).now;
    first = (h.plan i).first;
    step = (h.plan i).step;
    count = (h.plan i).count;
    behind_bounds = (h.plan i).behind;
    inner = (h.plan i).inner;
  }) (j + 1) ∷ scope

  -- an iteration that runs needs what its iterations need
  pub running_grows : (table : Table) (stands more : Cell → Bool) (tasks : Slab C) (inner : Scope) (key : ℕ) → Grows → MoreNear inner stands more → IsRunning left base sound table stands tasks inner key → IsRunning left base sound table more tasks inner key
  running_grows table stands more tasks inner key grows grown t = record {
    task = t.task;
    kept = t.kept;
    inside = t.inside;
    unfinished = t.unfinished;
    safe = grows t.task table stands more (subst (λ (z : Scope). MoreNear z stands more) (sym t.inside) grown) t.safe;
  }

  itself : (n : ℕ) → (n == n) ≡ true
  itself n = grind (arith, eqb-true)

  not_same : (j place : ℕ) → j ≢ place → (j == place) ≡ false
  not_same j place h = by (j == place) refl
    where
      by : (b : Bool) → (j == place) ≡ b → b ≡ false
      by true e = absurd (h (eqb-true j place e))
      by false e = refl

  -- a place is this one or another
  pub this_or_other : (j place : ℕ) (P : Type 0) → (j ≡ place → P) → (j ≢ place → P) → P
  this_or_other j place P this other = by (j == place) refl
    where
      by : (b : Bool) → (j == place) ≡ b → P
      by true e = this (eqb-true j place e)
      by false e = other (λ q. let w : true ≡ false = sym (ap (λ (k : ℕ). k == place) q ∙ itself place) ∙ e in absurd cc)

  key_is : (k key : ℕ) (m : Mark) → m ≡ Running key → m ≡ Running k → k ≡ key
  key_is k key m h r = let w : Running k ≡ Running key = sym r ∙ h in cc

  module _ (slot : Option C) (mark : Mark) (place key : ℕ) (old new : Open C) (h : HasMarked slot mark place key old new) where
    mark_there : at new.marks place ≡ mark
    mark_there = h.marks place ∙ ap (λ b. if b then mark else at old.marks place) (itself place)

    mark_else : (j : ℕ) → j ≢ place → at new.marks j ≡ at old.marks j
    mark_else j d = h.marks j ∙ ap (λ b. if b then mark else at old.marks j) (not_same j place d)

    -- what the iteration has left
    pub marked_there : place_left left scope new place ≡ mark_left left new.tasks mark (whole_of old place)
    marked_there = left_by new place mark mark_there ∙ ap (mark_left left new.tasks mark) (same_whole old new place h.same)

    -- no other iteration has its key
    abbrev pub IsApart : Type 0
    IsApart = (j k : ℕ) → j < old.plan.count → j ≢ place → at old.marks j ≡ Running k → k ≢ key

    module _ (apart : IsApart) where
      -- the other iterations have left what they had
      pub marked_elsewhere : IsSameElsewhere left scope place old new
      marked_elsewhere j less d = by (at old.marks j) refl
        where
          by : (m : Mark) → at old.marks j ≡ m → place_left left scope new j ≡ place_left left scope old j
          by Waits e = left_by new j Waits (mark_else j d ∙ e) ∙ same_whole old new j h.same ∙ sym (left_by old j Waits e)
          by Done e = left_by new j Done (mark_else j d ∙ e) ∙ sym (left_by old j Done e)
          by (Running k) e = left_by new j (Running k) (mark_else j d ∙ e) ∙ ap (kept_left left) (h.tasks.others k (apart j k less d e)) ∙ sym (left_by old j (Running k) e)

      module _ (table : Table) (stands more : Cell → Bool) (grows : Grows) (grown : (j : ℕ) → j ≢ place → MoreNear (place_scope scope old j) stands more) (o : IsOpen left base sound table stands scope old) where
        count_same : new.plan.count ≡ old.plan.count
        count_same = λ i. (h.same.plan i).count

        less_too : (j : ℕ) → j < new.plan.count → j < old.plan.count
        less_too j less = subst (λ (n : ℕ). j < n) count_same less

        -- where that of this iteration is right, all that is left of the loop can be done
        pub marked_open : ((k : ℕ) → mark ≡ Running k → (k ≡ key) × IsRunning left base sound table more new.tasks (place_scope scope old place) key × (is_bare (body_of old) ≡ false)) → IsOpen left base sound table more scope new
        marked_open right = record {
          plan = subst (λ (p : Plan). IsPlan (head_of new.d.now) (stmt_trees new.d.now.body.items) p) (sym h.same.plan) (subst (λ (d : _). IsPlan (head_of d.now) (stmt_trees d.now.body.items) old.plan) (sym h.same.d) o.plan);
          can = subst (λ (p : Plan). CanDo table scope p.number (do_tree new.d.now)) (sym h.same.plan) (subst (λ (d : _). CanDo table scope old.plan.number (do_tree d.now)) (sym h.same.d) o.can);
          some = subst (λ (n : ℕ). 0 < n) (sym count_same) o.some;
          marks = h.count ∙ o.marks ∙ sym count_same;
          running = λ j k less r.
              subst (λ (z : Scope). IsRunning left base sound table more new.tasks z k) (sym (same_scope old new j h.same))
              (this_or_other j place (IsRunning left base sound table more new.tasks (place_scope scope old j) k)
              (λ e.
              let q = right k (sym mark_there ∙ ap (at new.marks) (sym e) ∙ r) in
              subst (λ (i : ℕ). IsRunning left base sound table more new.tasks (place_scope scope old i) k) (sym e)
              (subst (IsRunning left base sound table more new.tasks (place_scope scope old place)) (sym q.0) q.1))
              (λ d.
              let r2 = sym (mark_else j d) ∙ r in
              let less2 = less_too j less in
              let t = running_grows table stands more old.tasks (place_scope scope old j) k grows (grown j d) (o.running j k less2 r2) in
              record { task = t.task; kept = h.tasks.others k (apart j k less2 d r2) ∙ t.kept; inside = t.inside; unfinished = t.unfinished; safe = t.safe }));
          real = λ j k less r.
              ap is_bare (λ i. stmt_trees (h.same.d i).now.body.items)
              ∙ this_or_other j place (is_bare (body_of old) ≡ false)
              (λ e. (right k (sym mark_there ∙ ap (at new.marks) (sym e) ∙ r)).2)
              (λ d. o.real j k (less_too j less) (sym (mark_else j d) ∙ r));
          keys = λ i j k a b r s.
              this_or_other i place (i ≡ j)
              (λ e. this_or_other j place (i ≡ j)
              (λ f. e ∙ sym f)
              (λ d. absurd (apart j k (less_too j b) d (sym (mark_else j d) ∙ s) (right k (sym mark_there ∙ ap (at new.marks) (sym e) ∙ r)).0)))
              (λ d. this_or_other j place (i ≡ j)
              (λ f. absurd (apart i k (less_too i a) d (sym (mark_else i d) ∙ r) (right k (sym mark_there ∙ ap (at new.marks) (sym f) ∙ s)).0))
              (λ g. o.keys i j k (less_too i a) (less_too j b) (sym (mark_else i d) ∙ r) (sym (mark_else j g) ∙ s)));
        }

  -- a free key is no other iteration's
  pub free_apart : (table : Table) (stands : Cell → Bool) (old : Open C) (place key : ℕ) → IsOpen left base sound table stands scope old → get old.tasks key ≡ None
      → (j k : ℕ) → j < old.plan.count → j ≢ place → at old.marks j ≡ Running k → k ≢ key
  free_apart table stands old place key o free j k less d r e =
      let t = o.running j k less r in
      let w : Some t.task ≡ None = sym t.kept ∙ ap (get old.tasks) e ∙ free in
      absurd cc

  -- the key of a running iteration is no other iteration's
  pub running_apart : (table : Table) (stands : Cell → Bool) (old : Open C) (place key : ℕ) → IsOpen left base sound table stands scope old → place < old.plan.count → at old.marks place ≡ Running key
      → (j k : ℕ) → j < old.plan.count → j ≢ place → at old.marks j ≡ Running k → k ≢ key
  running_apart table stands old place key o there running j k less d r e =
      d (o.keys j place key less there (r ∙ ap Running e) running)

-- Copies that are forgotten, and what stays as it was.
use Rattle.std.proofs.Common.{◌≡◌, ◌⊎◌, inl, inr, ◌<◌, ℕ, zero, suc, ◌+◌, List, [], ◌∷◌, ◌++◌, Bool, true, false, Option, Some, if◌then◌else◌, refl, sym, ap, subst, ◌∙◌, arith, append_assoc}
use Rattle.ped_marks.specs.Marks.{at}
use Rattle.ped_marks.specs.declared.marks.Mark.TheVariants.{Running, Done}
use Rattle.ped_symbols.specs.Kinds.{Table}
use Rattle.ped_store.specs.Cells.{Cell, Scalar, Element, Private, In, Out, Iteration, same_cell}
use Rattle.ped_store.specs.Stores.{Undefined}
use Rattle.ped_store.specs.Memories.{Memory, without_copy}
use Rattle.ped_store.specs.Keeping.{Kept, memory_of}
use Rattle.ped_interleavings.specs.ped_eval.specs.Scopes.{Frame, Scope}
use Rattle.ped_interleavings.specs.ped_eval.specs.Loops.{Entered, frame}
use Rattle.ped_interleavings.specs.ped_eval.specs.Agreement.{path_of}
use Rattle.ped_interleavings.specs.Lefts.{Left, Lefts, open_loop, is_finished}
use Rattle.ped_machine.specs.declared.opens.Open.{Open}
use Rattle.ped_machine.specs.Bases.{IsLonger, IsInside, IsWithin, HasKept, HasForgotten, HasSameBut}
use Rattle.ped_machine.specs.Growth.{longer_within, longer_twice}
use Rattle.ped_machine.specs.Naming.{IsInTurn, IsSpent, IsOneSpent, IsSpentCell, HasForgottenSpent, HasForgottenRound}
use Rattle.ped_machine.specs.Opens.{kept_left, lefts_of, open_entered, place_left, place_scope, open_left, IsSameLoop, IsForgottenAt, HasForgottenAt, IsOpen}
use Rattle.ped_machine.specs.Stepping.{HasForgottenIn}
use Rattle.ped_machine.proofs.Dropping.{inside_same, other_inside, nothing_kept, kept_outside, copies_round_stand}
use Rattle.ped_machine.proofs.IterationPaths.{turn_at, own_path}
use Rattle.ped_machine.proofs.OpenLefts.{same_of}
use Rattle.ped_machine.proofs.OpenSteps.{entered_same}
use Rattle.ped_machine.proofs.Opening.{Grows, left_by, running_grows, marked_there, marked_elsewhere, marked_open, running_apart, this_or_other}
use Rattle.ped_machine.proofs.Stepped.{same_mark, apart_near, some_is}

pub nothing_but : (base : Scope) (m : Memory) → HasSameBut base m m
nothing_but base m c = inl refl

pub but_twice : (base : Scope) (a b c : Memory) → HasSameBut base a b → HasSameBut base b c → HasSameBut base a c
but_twice base a b c g h d = by (g d) (h d)
  where
    by : (b.cells d ≡ a.cells d) ⊎ IsInside base d → (c.cells d ≡ b.cells d) ⊎ IsInside base d → (c.cells d ≡ a.cells d) ⊎ IsInside base d
    by (inl e) (inl f) = inl (f ∙ e)
    by (inl e) (inr f) = inr f
    by (inr f) k = inr f

pub inside_wider : (base inner : Scope) (c : Cell) → IsWithin base inner → IsInside inner c → IsInside base c
inside_wider base inner (Private x p) w q = longer_twice (path_of base) (path_of inner) p (longer_within base inner w) q
inside_wider base inner (Scalar x) w q = absurd q
inside_wider base inner (Element x js) w q = absurd q
inside_wider base inner In w q = absurd q
inside_wider base inner Out w q = absurd q

pub but_outside : (base inner : Scope) (m new : Memory) → IsWithin base inner → HasSameBut inner m new → HasSameBut base m new
but_outside base inner m new w h c = by (h c)
  where
    by : (new.cells c ≡ m.cells c) ⊎ IsInside inner c → (new.cells c ≡ m.cells c) ⊎ IsInside base c
    by (inl e) = inl e
    by (inr q) = inr (inside_wider base inner c w q)

pub forgotten_copy : (s new : Kept) (c : Cell) → memory_of new ≡ without_copy c (memory_of s) → HasForgotten c (memory_of s) (memory_of new)
forgotten_copy s new c w = record {
  cells = λ d n. (λ i. (w i).cells d) ∙ ap (λ b. if b then Undefined else (memory_of s).cells d) n;
  bounds = λ i. (w i).bounds;
  stands = λ d n. (λ i. (w i).stands d) ∙ ap (λ b. if b then false else (memory_of s).stands d) n;
}

pub nothing_forgotten : (c : Cell) (m : Memory) → HasForgotten c m m
nothing_forgotten c m = record { cells = λ d n. refl; bounds = refl; stands = λ d n. refl }

pub forgotten_but : (base : Scope) (c : Cell) (m new : Memory) → IsInside base c → HasForgotten c m new → HasSameBut base m new
forgotten_but base c m new h f d = by (same_cell c d) refl
  where
    by : (b : Bool) → same_cell c d ≡ b → (new.cells d ≡ m.cells d) ⊎ IsInside base d
    by true e = inr (inside_same base c d h e)
    by false e = inl (f.cells d e)

pub forgotten_kept : (base : Scope) (c : Cell) (m new : Memory) → IsInside base c → HasForgotten c m new → HasKept base m new
forgotten_kept base c m new h f = record { bounds = f.bounds; stands = λ d n k. f.stands d (other_inside base c d h n) ∙ k }

pub nothing_round : (scope : Scope) (m : Memory) → HasForgottenRound scope m m
nothing_round scope m = record { kept = nothing_kept scope m; copies = λ h. h }

-- what is dropped inside of an iteration of a loop
pub round_by : (f : Frame) (scope : Scope) (m new : Memory) → HasKept (f ∷ scope) m new → HasForgottenRound scope m new
round_by f scope m new h = record { kept = kept_outside scope (f ∷ scope) m new (f ∷ [], refl) h; copies = copies_round_stand f scope m new h }

-- a copy inside of an iteration
pub turn_inside : (e : Entered) (k : ℕ) (scope : Scope) (path : List Iteration) → IsLonger (path_of (frame e k ∷ scope)) path → IsInTurn (path_of scope) e.number k path
turn_inside e k scope path (more, h) = (more, h ∙ ap (λ (q : List Iteration). q ++ more) (own_path e k scope) ∙ append_assoc (path_of scope) (turn_at e k ∷ []) more)

one_spent_of : (e : Entered) (scope : Scope) (path : List Iteration) (n k j : ℕ) (f : ℕ → Left) → j < n → IsInTurn (path_of scope) e.number (j + k) path → (is_finished (f j) ≡ true) ⊎ IsSpent (f j) path
    → IsOneSpent e scope k (lefts_of n f) path
one_spent_of e scope path zero k j f less t h = absurd (omega (arith, less))
one_spent_of e scope path (suc n) k zero f less t h = inl (subst (λ (i : ℕ). IsInTurn (path_of scope) e.number i path) (omega arith) t, h)
one_spent_of e scope path (suc n) k (suc j) f less t h =
    inr (one_spent_of e scope path n (suc k) j (λ i. f (suc i)) (omega (arith, less)) (subst (λ (i : ℕ). IsInTurn (path_of scope) e.number i path) (omega arith) t) h)

module _ {C : Type 0} (left : C → Left) (scope : Scope) (o : Open C) (rest : Left) where
  spent_at : (c : Cell) → IsForgottenAt left scope o c → IsSpentCell (open_left left scope o rest) c
  spent_at (Private x path) a =
      one_spent_of (open_entered o) scope path o.plan.count 1 a.place (place_left left scope o) a.less (turn_inside (open_entered o) (a.place + 1) scope path a.inside) a.spent
  spent_at (Scalar x) a = absurd a.inside
  spent_at (Element x js) a = absurd a.inside
  spent_at In a = absurd a.inside
  spent_at Out a = absurd a.inside

  pub forgotten_open : (m new : Memory) → HasForgottenAt left scope o m new → HasForgottenSpent (open_left left scope o rest) m new
  forgotten_open m new h c = by (h c)
    where
      by : (new.cells c ≡ m.cells c) ⊎ IsForgottenAt left scope o c → (new.cells c ≡ m.cells c) ⊎ IsSpentCell (open_left left scope o rest) c
      by (inl e) = inl e
      by (inr a) = inr (spent_at c a)

  pub but_open : (m new : Memory) → HasForgottenAt left scope o m new → HasSameBut scope m new
  but_open m new h c = by (h c)
    where
      by : (new.cells c ≡ m.cells c) ⊎ IsForgottenAt left scope o c → (new.cells c ≡ m.cells c) ⊎ IsInside scope c
      by (inl e) = inl e
      by (inr a) = inr (inside_wider scope (place_scope scope o a.place) c (frame (open_entered o) (a.place + 1) ∷ [], refl) a.inside)

  -- the same loop with what each iteration had left
  pub same_open : (new : Open C) → IsSameLoop o new → ((j : ℕ) → j < o.plan.count → place_left left scope new j ≡ place_left left scope o j) → open_left left scope new rest ≡ open_left left scope o rest
  same_open new same lefts =
      (λ i. open_loop (entered_same left scope o new rest same i) (same.plan i).number scope (lefts_of (same.plan i).count (place_left left scope new)) rest)
      ∙ ap (λ (ls : Lefts). open_loop (open_entered o) o.plan.number scope ls rest) (same_of o.plan.count (place_left left scope new) (place_left left scope o) lefts)

pub nothing_at : {C : Type 0} (left : C → Left) (scope : Scope) (o : Open C) (m : Memory) → HasForgottenAt left scope o m m
nothing_at left scope o m c = inl refl

module _ {C : Type 0} (left : C → Left) (base : C → Scope) (sound : C → Table → (Cell → Bool) → Type 0) (scope : Scope) where
  -- which iteration did the latest step doesn't matter
  pub other_latest : (table : Table) (stands : Cell → Bool) (o : Open C) (x : Option ℕ) → IsOpen left base sound table stands scope o → IsOpen left base sound table stands scope (record o { latest = x })
  other_latest table stands o x h = record { plan = h.plan; can = h.can; some = h.some; marks = h.marks; running = h.running; real = h.real; keys = h.keys }

  pub latest_at : (o : Open C) (x : Option ℕ) (m new : Memory) → HasForgottenAt left scope (record o { latest = x }) m new → HasForgottenAt left scope o m new
  latest_at o x m new h c = by (h c)
    where
      by : (new.cells c ≡ m.cells c) ⊎ IsForgottenAt left scope (record o { latest = x }) c → (new.cells c ≡ m.cells c) ⊎ IsForgottenAt left scope o c
      by (inl e) = inl e
      by (inr a) = inr (record { place = a.place; less = a.less; inside = a.inside; spent = a.spent })

  pub latest_same : (o new : Open C) (x : Option ℕ) → IsSameLoop (record o { latest = x }) new → IsSameLoop o new
  latest_same o new x h = record { d = h.d; plan = h.plan }

  -- a finished iteration is forgotten
  pub done_at : (o : Open C) (place : ℕ) (m new : Memory) → place < o.plan.count → at o.marks place ≡ Done → HasSameBut (place_scope scope o place) m new → HasForgottenAt left scope o m new
  done_at o place m new less done h c = by (h c)
    where
      by : (new.cells c ≡ m.cells c) ⊎ IsInside (place_scope scope o place) c → (new.cells c ≡ m.cells c) ⊎ IsForgottenAt left scope o c
      by (inl e) = inl e
      by (inr q) = inr (record { place = place; less = less; inside = q; spent = inl (ap is_finished (left_by left base sound scope o place Done done)) })

  pub done_open : Grows left base sound scope → (table : Table) (o : Open C) (place : ℕ) (m new : Memory) → at o.marks place ≡ Done → HasKept (place_scope scope o place) m new → IsOpen left base sound table m.stands scope o → IsOpen left base sound table new.stands scope o
  done_open grows table o place m new done h i = record {
    plan = i.plan;
    can = i.can;
    some = i.some;
    marks = i.marks;
    running = λ j key less r.
        running_grows left base sound scope table m.stands new.stands o.tasks (place_scope scope o j) key grows
        (apart_near scope o place m.stands new.stands h.stands j (λ e. let w : Running key ≡ Done = sym r ∙ ap (at o.marks) e ∙ done in absurd cc))
        (i.running j key less r);
    real = i.real;
    keys = i.keys;
  }

  module _ (table : Table) (m after : Memory) (old new : Open C) (place key : ℕ) (o : IsOpen left base sound table m.stands scope old) (there : place < old.plan.count) (running : at old.marks place ≡ Running key)
      (f : HasForgottenIn left base sound key old.tasks new.tasks m after) (same : IsSameLoop old new) (marks : new.marks ≡ old.marks) where
    base_is : base f.task ≡ place_scope scope old place
    base_is = let r = o.running place key there running in ap base (some_is f.task r.task (sym f.was ∙ r.kept)) ∙ r.inside

    had : place_left left scope old place ≡ left f.task
    had = left_by left base sound scope old place (Running key) running ∙ ap (kept_left left) f.was

    -- what is forgotten inside of an iteration
    pub inside_at : HasForgottenAt left scope old m after
    inside_at c = by (f.cells c) (f.others c)
      where
        by : (after.cells c ≡ m.cells c) ⊎ IsSpentCell (left f.task) c → (after.cells c ≡ m.cells c) ⊎ IsInside (base f.task) c → (after.cells c ≡ m.cells c) ⊎ IsForgottenAt left scope old c
        by (inl e) k = inl e
        by (inr s) (inl e) = inl e
        by (inr s) (inr q) = inr (record {
          place = place;
          less = there;
          inside = subst (λ (z : Scope). IsInside z c) base_is q;
          spent = inr (subst (λ (l : Left). IsSpentCell l c) (sym had) s);
        })

    pub inside_round : HasForgottenRound scope m after
    inside_round = round_by (frame (open_entered old) (place + 1)) scope m after (subst (λ (z : Scope). HasKept z m after) base_is f.kept)

    pub inside_left : (j : ℕ) → j < old.plan.count → place_left left scope new j ≡ place_left left scope old j
    inside_left j less =
        let mark = same_mark f.behind place key old new same marks f.tasks running in
        this_or_other left base sound scope j place (place_left left scope new j ≡ place_left left scope old j)
        (λ e. subst (λ (i : ℕ). place_left left scope new i ≡ place_left left scope old i) (sym e)
        (marked_there left base sound scope (Some f.behind) (Running key) place key old new mark ∙ ap (kept_left left) f.tasks.changed ∙ f.same ∙ sym had))
        (λ d. marked_elsewhere left base sound scope (Some f.behind) (Running key) place key old new mark (running_apart left base sound scope table m.stands old place key o there running) j less d)

    pub inside_open : Grows left base sound scope → IsOpen left base sound table after.stands scope new
    inside_open grows =
        let r = o.running place key there running in
        let is : r.task ≡ f.task = some_is r.task f.task (sym r.kept ∙ f.was) in
        let kept = subst (λ (z : Scope). HasKept z m after) base_is f.kept in
        marked_open left base sound scope (Some f.behind) (Running key) place key old new (same_mark f.behind place key old new same marks f.tasks running) (running_apart left base sound scope table m.stands old place key o there running) table m.stands after.stands
        grows (apart_near scope old place m.stands after.stands kept.stands) o
        (λ k e.
        let w : k ≡ key = cc in (
          w,
          record {
            task = f.behind;
            kept = f.tasks.changed;
            inside = f.inside ∙ base_is;
            unfinished = ap is_finished f.same ∙ sym (ap (λ t. is_finished (left t)) is) ∙ r.unfinished;
            safe = f.safe table (subst (λ (t : C). sound t table m.stands) is r.safe);
          },
          o.real place key there running,
        ))

-- The cells that a unit touches in an iteration: none is that of a PRIVATE name at the place of the DO, and none that counts for nothing is read.
use Rattle.std.proofs.Common.{◌≡◌, ℕ, ◌⊎◌, ◌+◌, ◌-◌, ◌<◌, ◌≤◌, List, [], ◌∷◌, ◌++◌, length, Bool, true, false, ◌||◌, inl, inr, if◌then◌else◌, refl, sym, ap, subst, ◌∙◌, append_assoc, arith}
use Rattle.std.proofs.lemmas.Bool.{both_ways, false_from_ne_true}
use Rattle.std.specs.List.{list_any}
use Rattle.std.specs.Prelude.{slice_index_or}
use Rattle.ped_base.specs.Lists.{is_among, is_same_text}
use Rattle.ped_tree.specs.Tree.{StmtTrees, Do, no_stmts, ProgramTree}
use Rattle.ped_tree.specs.NamesIn.{loop_variables}
use Rattle.ped_rules.proofs.NestLaws.WovenLists.{IsPart}
use Rattle.ped_rules.specs.ped_loop_runs.proofs.LoopLaws.OneForOneCells.{IsOfLoop, all_unread}
use Rattle.ped_rules.specs.ped_loop_runs.proofs.LoopLaws.OneForOneNames.{variables_unnamed}
use Rattle.ped_rules.specs.ped_loop_runs.proofs.PastingLaws.LeftCopies.{IsOwn, all_reach}
use Rattle.ped_rules.specs.ped_loop_runs.specs.Executions.{IsCopyInside}
use Rattle.ped_rules.specs.ped_bodies.proofs.BodyLaws.MovedCells.{path_append}
use Rattle.ped_rules.specs.ped_bodies.specs.Moving.{is_cell_among}
use Rattle.ped_rules.specs.ped_bodies.specs.Trips.{store_before}
use Rattle.ped_rules.specs.ped_steps.proofs.RunLaws.Swapped.{cell_name, named_so, of_scalar}
use Rattle.ped_rules.specs.ped_steps.specs.Runs.Exchanging.{is_of_scalar}
use Rattle.ped_rules.specs.ped_flow.specs.Questions.{LoopOf}
use Rattle.ped_rules.specs.ped_laws.proofs.ActLaws.Outside.{none_first, none_rest}
use Rattle.ped_rules.specs.ped_laws.proofs.ActLaws.Renamings.{or_left, or_right}
use Rattle.ped_rules.specs.ped_laws.proofs.ActLaws.SameCells.{cell_is, text_itself}
use Rattle.ped_rules.specs.ped_laws.proofs.FlowRunLaws.TripReads.{contained_unread}
use Rattle.ped_rules.specs.ped_laws.specs.Acts.Conflicts.{IsNoReadOf, LeaveUnread, ReadNone}
use Rattle.ped_rules.specs.ped_laws.specs.Acts.Orders.{IsIn}
use Rattle.ped_rules.specs.ped_laws.specs.FlowRuns.Covering.{is_cell_of}
use Rattle.ped_rules.specs.ped_laws.specs.Runs.Replaying.{finish_of, goes_on}
use Rattle.ped_rules.specs.ped_eval.specs.Loops.{Entered, frame}
use Rattle.ped_rules.specs.ped_eval.specs.Outcomes.{setting_of}
use Rattle.ped_rules.specs.ped_eval.specs.Runs.{run}
use Rattle.ped_rules.specs.ped_eval.specs.Scopes.{Scope, Setting, cell_of, place_of, turns_of}
use Rattle.ped_rules.specs.ped_store.specs.Acts.{Act, Manner, Touch, iterations_of, reads, writes, is_told}
use Rattle.ped_rules.specs.ped_store.specs.Cells.{Cell, Iteration, Private, same_cell}
use Rattle.ped_rules.specs.ped_store.specs.Stores.{Store}
use Rattle.ped_splits.proofs.SplitCells.{none_here}
use Rattle.ped_splits.proofs.SplitConflicts.{IsOfUnit}
use Rattle.ped_splits.proofs.SplitFacts.{IsSplit}
use Rattle.ped_splits.proofs.SplitPieces.{trip_unit}
use Rattle.ped_splits.proofs.SplitRuns as runs
use Rattle.ped_splits.proofs.SplitUnits.{offset, size_of_unit}
use Rattle.ped_splits.specs.Units.{units}

-- none of these names is so
none_any : (P : List ℕ → Bool) (ys : List (List ℕ)) → ((y : List ℕ) → is_among y ys ≡ true → P y ≡ false) → list_any P ys ≡ false
none_any P [] h = refl
none_any P (y ∷ ys) h = λ i. h y (or_left (is_same_text y y) (is_among y ys) (text_itself y)) i || none_any P ys (λ z m. h z (or_right (is_same_text z y) (is_among z ys) m)) i

-- acts that read none of a set, and touch none of another
module _ (d f : Cell → Bool) where
  one_unread : (m : Manner) (c : Cell) → f c ≡ false → IsNoReadOf d m c → IsNoReadOf (λ c. d c || f c) m c
  one_unread reads c none h = λ i. h i || none i
  one_unread writes c none h = tt
  one_unread is_told c none h = tt

  touches_unread : (ts : List Touch) → ((y : Touch) → IsIn y ts → f y.cell ≡ false) → LeaveUnread d ts → LeaveUnread (λ c. d c || f c) ts
  touches_unread [] none h = tt
  touches_unread (y ∷ ts) none h = (one_unread y.manner y.cell (none y (inl refl)) h.0, touches_unread ts (λ z i. none z (inr i)) h.1)

  acts_unread : (acts : List Act) → ((a : Act) → IsIn a acts → (y : Touch) → IsIn y a.touches → f y.cell ≡ false) → ReadNone d acts → ReadNone (λ c. d c || f c) acts
  acts_unread [] none h = tt
  acts_unread (a ∷ acts) none h = (touches_unread a.touches (none a (inl refl)) h.0, acts_unread acts (λ b i. none b (inr i)) h.1)

module _ (t : ProgramTree) (s : ℕ) (l : LoopOf t s) (found : List (List ℕ)) (x : IsSplit t s l found) (scope : Scope) (v : Store) (goes : finish_of (run (setting_of t) (Do l.head l.body) s scope v).ending ≡ goes_on) where
  abbrev p : Setting
  p = setting_of t

  abbrev front : List Iteration
  front = iterations_of (turns_of scope)

  abbrev e : Entered
  e = runs.e t s l found x scope v goes

  abbrev old_unit : ℕ → ℕ → List Act
  old_unit = runs.old_unit t s l found x scope v goes

  abbrev variables : List (List ℕ)
  variables = loop_variables (Do l.head l.body)

  -- what a unit touches in an iteration: no cell of a scalar; what a name stands for round the DO, which isn't PRIVATE in it; a copy of the iteration; or one further inside, of a DO of the unit
  abbrev pub IsUnitCell : (i k : ℕ) → Cell → Type 0
  IsUnitCell i k c =
      (is_of_scalar c ≡ false)
      ⊎ ((y : List ℕ) × (is_among y l.head.private ≡ false) × (c ≡ cell_of scope y))
      ⊎ ((y : List ℕ) × (is_among y l.head.private ≡ true) × (c ≡ Private y (iterations_of (turns_of scope) ++ record { statement = s; number = i } ∷ [])))
      ⊎ ((y : List ℕ) × (j : Iteration) × (rest : List Iteration) × IsOfUnit s l.body k j.statement × (c ≡ Private y (iterations_of (turns_of scope) ++ record { statement = s; number = i } ∷ (j ∷ rest))))

  module _ (i k : ℕ) (from : 1 ≤ i) (to : i ≤ e.count) (inside : k < length (units l.body)) where
    abbrev turn : Iteration
    turn = record { statement = s; number = i }

    abbrev unit : StmtTrees
    unit = slice_index_or (units l.body) k no_stmts

    was : runs.IsDoneBy p (frame e i ∷ scope) unit (s + 1 + offset (units l.body) k) (old_unit i k)
    was = runs.old_units_done t s l found x scope v goes i k from to inside

    own_names : (frame e i).private ≡ l.head.private
    own_names = ap (λ (b : Bool). if b then l.head.variable ∷ (l.head.private ++ e.inner) else l.head.private) x.serial

    here_path : iterations_of (turns_of (frame e i ∷ scope)) ≡ front ++ turn ∷ []
    here_path = path_append (frame e i ∷ []) scope

    form : (c : Cell) → IsOwn p (frame e i ∷ scope) c ⊎ IsCopyInside p (frame e i ∷ scope) (s + 1 + offset (units l.body) k) (size_of_unit l.body k) c → IsUnitCell i k c
    form c (inl (inr none)) = inl none
    form c (inl (inl own)) = by (is_among own.0 (frame e i).private) refl own.1
      where
        by : (b : Bool) → is_among own.0 (frame e i).private ≡ b → c ≡ (if b then Private own.0 (iterations_of (turns_of (frame e i ∷ scope))) else cell_of scope own.0) → IsUnitCell i k c
        by true among is = inr (inr (inl (own.0, ap (is_among own.0) (sym own_names) ∙ among, is ∙ ap (Private own.0) here_path)))
        by false among is = inr (inl (own.0, ap (is_among own.0) (sym own_names) ∙ among, is))
    form c (inr r) =
        let j : Iteration = record { statement = r.statement; number = r.number } in
        let low = r.from in
        let high = r.to in
        inr (inr (inr (
          r.name,
          j,
          r.rest,
          record { place = r.statement - (s + 1 + offset (units l.body) k); less = omega (arith, low, high); is = omega (arith, low) },
          r.is ∙ ap (λ (path : List Iteration). Private r.name (path ++ j ∷ r.rest)) here_path ∙ ap (Private r.name) (append_assoc front (turn ∷ []) (j ∷ r.rest)),
        )))

    pub unit_cells : (a : Act) → IsIn a (old_unit i k) → (y : Touch) → IsIn y a.touches → IsUnitCell i k y.cell
    unit_cells a m y j = form y.cell (all_reach p unit (s + 1 + offset (units l.body) k) (frame e i ∷ scope) was.store a (subst (IsIn a) was.is m) y j)

    -- none is that of a PRIVATE name at the place of the DO
    pub unit_away : (c : Cell) → IsUnitCell i k c → list_any (λ y. same_cell (cell_of scope y) c) l.head.private ≡ false
    unit_away c (inl none) = none_any (λ y. same_cell (cell_of scope y) c) l.head.private (λ y m. false_from_ne_true (same_cell (cell_of scope y) c) (λ h. both_ways (is_of_scalar c) none (ap is_of_scalar (sym (cell_is (cell_of scope y) c h)) ∙ of_scalar scope y)))
    unit_away c (inr (inl own)) = none_any (λ y. same_cell (cell_of scope y) c) l.head.private (λ y m. false_from_ne_true (same_cell (cell_of scope y) c) (λ h.
        let same : y ≡ own.0 = sym (named_so scope y) ∙ ap cell_name (cell_is (cell_of scope y) c h ∙ own.2) ∙ named_so scope own.0 in
        both_ways (is_among own.0 l.head.private) own.1 (ap (λ (z : List ℕ). is_among z l.head.private) (sym same) ∙ m)))
    unit_away c (inr (inr (inl copy))) =
        ap (λ (d : Cell). list_any (λ y. same_cell (cell_of scope y) d) l.head.private) copy.2 ∙ none_here t s l found x scope v goes l.head.private copy.0 turn []
    unit_away c (inr (inr (inr copy))) =
        ap (λ (d : Cell). list_any (λ y. same_cell (cell_of scope y) d) l.head.private) copy.4 ∙ none_here t s l found x scope v goes l.head.private copy.0 turn (copy.1 ∷ copy.2)

    part : IsPart ((runs.old t s l found x scope v goes).trip i) (old_unit i k)
    part = trip_unit t s l found x scope v goes i k from to inside

    -- nor does it read a variable of the DO or of one in it
    trip_unread : ReadNone (is_cell_among variables) ((runs.old t s l found x scope v goes).trip i)
    trip_unread =
        let it = (runs.old t s l found x scope v goes).are i from to in
        all_unread variables ((runs.old t s l found x scope v goes).trip i) (λ w m. subst (ReadNone (is_cell_of w)) (sym it.is) (contained_unread p t s l w (variables_unnamed t x.valid s l w m) x.contained m scope (frame e i) (store_before (runs.seen t s l found x scope v goes) e scope (place_of p s scope) (runs.old t s l found x scope v goes).trip v i) refl))

    variables_unread : ReadNone (is_cell_among variables) (old_unit i k)
    variables_unread = none_first (is_cell_among variables) (old_unit i k) part.behind (none_rest (is_cell_among variables) part.before (old_unit i k ++ part.behind) (subst (ReadNone (is_cell_among variables)) part.is trip_unread))

    pub reads_none : ReadNone (λ c. is_cell_among (loop_variables (Do l.head l.body)) c || list_any (λ y. same_cell (cell_of scope y) c) l.head.private) (old_unit i k)
    reads_none = acts_unread (is_cell_among variables) (λ c. list_any (λ y. same_cell (cell_of scope y) c) l.head.private) (old_unit i k) (λ a m y j. unit_away y.cell (unit_cells a m y j)) variables_unread

    -- it touches what names stand for at the place of the DO, or copies in the DO
    pub unit_reached : (a : Act) → IsIn a (old_unit i k) → (y : Touch) → IsIn y a.touches → IsOwn (setting_of t) scope y.cell ⊎ IsOfLoop (setting_of t) scope s y.cell
    unit_reached a m y j = by (unit_cells a m y j)
      where
        by : IsUnitCell i k y.cell → IsOwn p scope y.cell ⊎ IsOfLoop p scope s y.cell
        by (inl none) = inl (inr none)
        by (inr (inl own)) = inl (inl (own.0, own.2))
        by (inr (inr (inl copy))) = inr (record { name = copy.0; number = i; rest = []; is = copy.2 })
        by (inr (inr (inr copy))) = inr (record { name = copy.0; number = i; rest = copy.1 ∷ copy.2; is = copy.4 })

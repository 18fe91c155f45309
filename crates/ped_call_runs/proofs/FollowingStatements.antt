-- Statements of a unit and what they expand to: where the unit's statements end, the expanded ones end alike, given that its CALLs do.
use Rattle.std.proofs.Common.{◌≡◌, ℕ, ◌+◌, ℤ, List, ◌∷◌, map, Bool, Option, Some, None, refl, sym, ap, subst, inl}
use Rattle.std.specs.List.{flat_map}
use Rattle.ped_tree.specs.NamesIn.{expr_names, cond_names, item_names, all_loop_variables}
use Rattle.ped_tree.specs.Numbering.{statement_count, statements_count}
use Rattle.ped_tree.specs.Tree.{ExprTree, StmtTree, StmtTrees, Assign, If, Do, Print, Read, Stop, Comment, no_stmts, more_stmts}
use Rattle.ped_calls.specs.ped_units.specs.Forms.{Called}
use Rattle.ped_calls.specs.ped_units.specs.Units.{call_of}
use Rattle.ped_calls.specs.ped_units.specs.Expanding.{Meanings, replaced, cond_replaced, item_replaced, head_replaced, called_replaced, Given, Expanded, AllExpanded, expanded_or, expanded_in, all_expanded_in}
use Rattle.ped_calls.specs.ped_units.specs.Linking.{assigned_left}
use Rattle.ped_steps.specs.ped_store.specs.Cells.{Cell}
use Rattle.ped_steps.specs.ped_store.specs.Stores.{Store}
use Rattle.ped_steps.specs.ped_eval.specs.Scopes.{Setting, Scope, names_in, place_of}
use Rattle.ped_steps.specs.ped_eval.specs.Loops.{limits, iteration_count}
use Rattle.ped_steps.specs.ped_eval.specs.Runs.{run, run_all}
use Rattle.ped_call_runs.specs.UnitRuns.{Instance, CallRun, call_stays, stmts_replaced, sized, all_sized, run_or, unit_run, unit_run_all}
use Rattle.ped_call_runs.proofs.EachNames.{Each, each_map}
use Rattle.ped_call_runs.proofs.EachElements.{EachElement, CondElements, ItemsElements, TargetsElements, elements_map, cond_elements_map, items_elements_map, targets_elements_map}
use Rattle.ped_call_runs.proofs.FollowingValues.{ReadsAlike, ElementAlike, StoresAlike, truth_follows, line_follows, limits_follow, assigned_may, assigned_follows}
use Rattle.ped_call_runs.proofs.FollowingStores.{Bond, IsBelow, is_bound}
use Rattle.ped_call_runs.proofs.FollowingEndings.{RunsAlike, then_alike, run_if_alike, run_do_alike, assignment_alike, print_alike}
use Rattle.ped_call_runs.proofs.FollowingNames.{named_cell, bond_of, same_cells, AreNamed, IsUnheld, MeansAlike, NamedAlike, reads_alike, elements_alike, stores_alike}
use Rattle.ped_call_runs.proofs.FollowingReads.{read_alike}
use Rattle.ped_call_runs.proofs.FollowingLoops.{HeadsAlike, frame_named, frame_unheld, loop_exit}

module _ (b : List ℕ → Bond) (f : List ℕ → List ℕ) (q : Setting) (k : Meanings) (size : Called → ℕ) (inner : Called → Given → Expanded Given) (holds : Called → ℕ → ℕ → Given → Type 0) (i : Instance) where
  -- names that are read, and names that are assigned
  abbrev pub Means : List (List ℕ) → Type 0
  Means xs = Each (MeansAlike b f i.setting q i.stands k) xs

  abbrev pub Named : List (List ℕ) → Type 0
  Named xs = Each (NamedAlike b f i.setting q i.stands k) xs

  -- elements that are read
  abbrev pub Elements : ExprTree → Type 0
  Elements e = EachElement (NamedAlike b f i.setting q i.stands k) e

  -- both count as the same statement
  abbrev pub SameNumber : ℕ → ℕ → Type 0
  SameNumber n j = q.number j ≡ i.setting.number n

  -- an assignment that is no CALL stands alike on both sides
  pub record AssignsAlike (left right : ExprTree) (n j : ℕ) : Type 0 where
    pub number : SameNumber n j
    pub in_left : Means (expr_names left)
    pub in_right : Means (expr_names right)
    pub left_elements : Elements left
    pub right_elements : Elements right
    pub assigned : Named (assigned_left left)

  abbrev pub AssignStands : ExprTree → ExprTree → ℕ → ℕ → Given → Option Called → Type 0
  AssignStands left right n j g None = AssignsAlike left right n j
  AssignStands left right n j g (Some c) = holds c n j g

  -- expanded statements, and what is given behind them
  abbrev pub Made : StmtTree → Given → Expanded Given
  Made t g = expanded_in k inner t g

  abbrev pub AllMade : StmtTrees → Given → AllExpanded Given
  AllMade ts g = all_expanded_in k inner ts g

  abbrev mutual
    -- a statement with number n in the unit and number j in the expanded program stands alike on both sides
    pub Stands : StmtTree → ℕ → ℕ → Given → Type 0
    Stands (Assign left right) n j g = AssignStands left right n j g (call_of left right)
    Stands (If condition then_part else_part) n j g =
        (SameNumber n j × Means (cond_names condition) × CondElements (NamedAlike b f i.setting q i.stands k) condition)
        × AllStand then_part (n + 1) (j + 1) g
        × AllStand else_part (n + 1 + all_sized size then_part) (j + 1 + statements_count (AllMade then_part g).statements) (AllMade then_part g).state
    Stands (Do h body) n j g =
        HeadsAlike b f i.setting q i.stands k h (all_loop_variables (stmts_replaced i.stands body)) (all_loop_variables (AllMade body g).statements)
        × SameNumber n j
        × (Elements h.first × Elements h.last)
        × AllStand body (n + 1) (j + 1) g
    Stands (Print items) n j g = SameNumber n j × Means (flat_map item_names items) × ItemsElements (NamedAlike b f i.setting q i.stands k) items
    Stands (Read items) n j g = SameNumber n j × Means (flat_map expr_names items) × Named (flat_map assigned_left items) × TargetsElements (NamedAlike b f i.setting q i.stands k) items
    Stands Stop n j g = Unit {0}
    Stands (Comment text) n j g = Unit {0}

    pub AllStand : StmtTrees → ℕ → ℕ → Given → Type 0
    AllStand no_stmts n j g = Unit {0}
    AllStand (more_stmts t rest) n j g = Stands t n j g × AllStand rest (n + sized size t) (j + statement_count (Made t g).statement) (Made t g).state

module _ (b : List ℕ → Bond) (f : List ℕ → List ℕ) (twice : (x : List ℕ) → f (f x) ≡ x) (q : Setting) (k : Meanings) (size : Called → ℕ) (inner : Called → Given → Expanded Given) (holds : Called → ℕ → ℕ → Given → Type 0) (call : CallRun) (i : Instance) where
  abbrev Below : Store → Store → Type 0
  Below s w = IsBelow (bond_of b) (named_cell f) s w

  abbrev p : Setting
  p = i.setting

  abbrev m : Meanings
  m = i.stands

  abbrev May : Cell → Bool
  May c = is_bound (bond_of b c)

  abbrev Stand : StmtTree → ℕ → ℕ → Given → Type 0
  Stand t n j g = Stands b f q k size inner holds i t n j g

  abbrev StandAll : StmtTrees → ℕ → ℕ → Given → Type 0
  StandAll ts n j g = AllStand b f q k size inner holds i ts n j g

  -- the CALLs of the unit end as their blocks do
  abbrev pub CallsFollow : Type 0
  CallsFollow = (c : Called) (n j : ℕ) (g : Given) → holds c n j g → (scope other : Scope) → AreNamed f scope other → IsUnheld b scope → RunsAlike Below (call i c n scope) (run q (inner (called_replaced k c) g).statement j other)

  module _ (scope other : Scope) (same : AreNamed f scope other) (unheld : IsUnheld b scope) where
    reads : (xs : List (List ℕ)) → Each (MeansAlike b f p q m k) xs → (s w : Store) → Below s w → Each (ReadsAlike (names_in p scope) (names_in q other) s w m k) xs
    reads xs h s w below = each_map (MeansAlike b f p q m k) (ReadsAlike (names_in p scope) (names_in q other) s w m k) xs (λ x l. reads_alike b f twice p q scope other same unheld s w below m k x l) h

    stores : (xs : List (List ℕ)) → Each (NamedAlike b f p q m k) xs → (s w : Store) → Below s w → Each (StoresAlike (named_cell f) May (names_in p scope) (names_in q other) s w m k) xs
    stores xs h s w below = each_map (NamedAlike b f p q m k) (StoresAlike (named_cell f) May (names_in p scope) (names_in q other) s w m k) xs (λ x l. stores_alike b f twice p q scope other same unheld s w below m k x l) h

    elements : (s w : Store) → Below s w → (x : List ℕ) → NamedAlike b f p q m k x → ElementAlike (names_in p scope) (names_in q other) s w m k x
    elements s w below x l = elements_alike b f twice p q scope other same unheld s w below m k x l

    in_expression : (s w : Store) → Below s w → (e : ExprTree) → EachElement (NamedAlike b f p q m k) e → EachElement (ElementAlike (names_in p scope) (names_in q other) s w m k) e
    in_expression s w below e h = elements_map (NamedAlike b f p q m k) (ElementAlike (names_in p scope) (names_in q other) s w m k) (elements s w below) e h

    plain_follows : (left right : ExprTree) (n j : ℕ) → AssignsAlike b f q k size inner holds i left right n j → RunsAlike Below (run p (Assign (replaced m left) (replaced m right)) n scope) (run q (Assign (replaced k left) (replaced k right)) j other)
    plain_follows left right n j h s w below =
        assignment_alike (bond_of b) (named_cell f) (same_cells f twice) (names_in p scope) (names_in q other) (place_of p n scope) (place_of q j other)
        (replaced m left) (replaced m right) (replaced k left) (replaced k right) s w h.number below
        (assigned_follows (names_in p scope) (names_in q other) s w m k (named_cell f) May left right
        (reads (expr_names left) h.in_left s w below) (reads (expr_names right) h.in_right s w below) (in_expression s w below left h.left_elements) (in_expression s w below right h.right_elements) (stores (assigned_left left) h.assigned s w below))
        (assigned_may (names_in p scope) (names_in q other) s w m k (named_cell f) May left right (stores (assigned_left left) h.assigned s w below))

    -- an assignment, or the CALL that it is
    assign_follows : CallsFollow → (left right : ExprTree) (n j : ℕ) (g : Given) (o : Option Called) → call_of left right ≡ o → AssignStands b f q k size inner holds i left right n j g o
        → RunsAlike Below (λ s. run_or call i (Assign left right) n scope s o)
        (run q (expanded_or k inner (Assign (replaced k left) (replaced k right)) g o).statement j other)
    assign_follows calls left right n j g None e h =
        subst (λ (o : Option Called). RunsAlike Below (run p (expanded_or m call_stays (Assign (replaced m left) (replaced m right)) tt o).statement n scope) (run q (Assign (replaced k left) (replaced k right)) j other)) (sym e)
        (plain_follows left right n j h)
    assign_follows calls left right n j g (Some c) e h =
        calls c n j g h scope other same unheld

  mutual
    pub statement_follows : CallsFollow → (t : StmtTree) (n j : ℕ) (g : Given) → Stand t n j g → (scope other : Scope) → AreNamed f scope other → IsUnheld b scope
        → RunsAlike Below (unit_run call size i t n scope) (run q (expanded_in k inner t g).statement j other)
    statement_follows calls (Assign left right) n j g h scope other same unheld s w below = assign_follows scope other same unheld calls left right n j g (call_of left right) refl h s w below
    statement_follows calls (If c x y) n j g h scope other same unheld s w below =
        run_if_alike Below (names_in p scope) (names_in q other) (place_of p n scope) (place_of q j other) (cond_replaced m c) (cond_replaced k c)
        (unit_run_all call size i x (n + 1) scope) (unit_run_all call size i y (n + 1 + all_sized size x) scope)
        (run_all q (all_expanded_in k inner x g).statements (j + 1) other)
        (run_all q (all_expanded_in k inner y (all_expanded_in k inner x g).state).statements (j + 1 + statements_count (all_expanded_in k inner x g).statements) other)
        s w h.0.0 below
        (truth_follows (names_in p scope) (names_in q other) s w m k c (reads scope other same unheld (cond_names c) h.0.1 s w below)
        (cond_elements_map (NamedAlike b f p q m k) (ElementAlike (names_in p scope) (names_in q other) s w m k) (elements scope other same unheld s w below) c h.0.2))
        (statements_follow calls x (n + 1) (j + 1) g h.1 scope other same unheld)
        (statements_follow calls y (n + 1 + all_sized size x) (j + 1 + statements_count (all_expanded_in k inner x g).statements) (all_expanded_in k inner x g).state h.2 scope other same unheld)
    statement_follows calls (Do head body) n j g h scope other same unheld s w below =
        let ss : StmtTrees = stmts_replaced m body in
        let ts : StmtTrees = (all_expanded_in k inner body g).statements in
        let seen = (limits (names_in p scope) (head_replaced m head) s).seen in
        let others = (limits (names_in q other) (head_replaced k head) w).seen in
        run_do_alike Below p q n j scope other (head_replaced m head) (head_replaced k head) ss ts
        (λ r. unit_run_all call size i body (n + 1) (r ∷ scope)) (λ r. run_all q ts (j + 1) (r ∷ other)) s w h.1 below
        (limits_follow (names_in p scope) (names_in q other) s w m k head (reads scope other same unheld (expr_names head.first) h.0.first s w below) (reads scope other same unheld (expr_names head.last) h.0.last s w below)
        (in_expression scope other same unheld s w below head.first h.2.0) (in_expression scope other same unheld s w below head.last h.2.1))
        (λ l. ap (λ (z : ℤ). iteration_count l.first l.last z) h.0.step)
        (λ l c. statements_follow calls body (n + 1) (j + 1) g h.3 _ _
        (frame_named b f twice p q m k n j head ss ts h.0 h.1 seen others l c scope other same)
        (frame_unheld b f twice p q m k n j head ss ts h.0 h.1 seen others l c scope unheld))
        (λ l u v r. loop_exit b f twice p q m k n j head ss ts h.0 h.1 seen others l scope other same u v r)
    statement_follows calls (Print items) n j g h scope other same unheld s w below =
        print_alike (bond_of b) (named_cell f) (same_cells f twice) refl refl (names_in p scope) (names_in q other) (place_of p n scope) (place_of q j other) (map (item_replaced m) items) (map (item_replaced k) items) s w h.0 below
        (line_follows (names_in p scope) (names_in q other) s w m k items (reads scope other same unheld (flat_map item_names items) h.1 s w below)
        (items_elements_map (NamedAlike b f p q m k) (ElementAlike (names_in p scope) (names_in q other) s w m k) (elements scope other same unheld s w below) items h.2))
    statement_follows calls (Read items) n j g h scope other same unheld s w below =
        read_alike (bond_of b) (named_cell f) (same_cells f twice) (names_in p scope) (names_in q other) m k refl refl (place_of p n scope) (place_of q j other) items
        (reads scope other same unheld (flat_map expr_names items) h.1)
        (λ x y l. targets_elements_map (NamedAlike b f p q m k) (ElementAlike (names_in p scope) (names_in q other) x y m k) (elements scope other same unheld x y l) items h.3)
        (stores scope other same unheld (flat_map assigned_left items) h.2) s w h.0 below
    statement_follows calls Stop n j g h scope other same unheld s w below = inl (w, refl, below)
    statement_follows calls (Comment text) n j g h scope other same unheld s w below = inl (w, refl, below)

    pub statements_follow : CallsFollow → (ts : StmtTrees) (n j : ℕ) (g : Given) → StandAll ts n j g → (scope other : Scope) → AreNamed f scope other → IsUnheld b scope
        → RunsAlike Below (unit_run_all call size i ts n scope) (run_all q (all_expanded_in k inner ts g).statements j other)
    statements_follow calls no_stmts n j g h scope other same unheld s w below = inl (w, refl, below)
    statements_follow calls (more_stmts t rest) n j g h scope other same unheld s w below =
        let made : Expanded Given = expanded_in k inner t g in
        then_alike Below (unit_run call size i t n scope s) (run q made.statement j other w) (unit_run_all call size i rest (n + sized size t) scope)
        (run_all q (all_expanded_in k inner rest made.state).statements (j + statement_count made.statement) other)
        (statement_follows calls t n j g h.0 scope other same unheld s w below)
        (statements_follow calls rest (n + sized size t) (j + statement_count made.statement) made.state h.1 scope other same unheld)

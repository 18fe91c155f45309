-- In each execution the DO with the variable of another does the acts of the old one, but for what it stores of itself.
use Rattle.std.proofs.Common.{◌≡◌, ℕ, ℤ, ◌+◌, ◌-◌, ◌≤◌, List, [], ◌∷◌, ◌++◌, map, Option, Bool, true, false, ◌||◌, ◌==◌, None, Some, Ok, inl, inr, refl, sym, ap, subst, ◌∙◌, arith, if◌then◌else◌}
use Rattle.std.proofs.lemmas.Bool.{and_parts, both_ways}
use Rattle.ped_base.proofs.NameEquality.{same_is, same_itself}
use Rattle.ped_base.specs.Lists.{is_among, is_same_text}
use Rattle.ped_tree.specs.Constants.ConstantExpressions.{constant_value}
use Rattle.ped_tree.specs.Constants.NamedConstants.{value_named}
use Rattle.ped_tree.specs.Accesses.{constant_names}
use Rattle.ped_tree.specs.NamesIn.{all_loop_variables, loop_variables, stmts_names}
use Rattle.ped_tree.specs.Tree.{Assign, Comment, Do, Head, If, Print, ProgramTree, Read, StmtTree, StmtTrees, Stop, Var, more_stmts, no_stmts}
use Rattle.ped_rules.specs.ped_affine.specs.Assigned.{assigned_in_all}
use Rattle.ped_rules.specs.ped_bodies.proofs.BodyLaws.Instances.{put_in}
use Rattle.ped_rules.specs.ped_bodies.proofs.BodyLaws.MovedCells.{own_names, same_numbers}
use Rattle.ped_rules.specs.ped_bodies.proofs.BodyLaws.Rewritings.{may_give_way}
use Rattle.ped_rules.specs.ped_bodies.proofs.BodyLaws.StandingPlaces.{variable_told}
use Rattle.ped_rules.specs.ped_bodies.proofs.BodyLaws.TripLists.{close_in_order, loop_apart}
use Rattle.ped_rules.specs.ped_bodies.proofs.BodyLaws.TripsLikewise.{trips_made}
use Rattle.ped_rules.specs.ped_bodies.specs.Likewise.{AllMeet, AreLikewise, Meet}
use Rattle.ped_rules.specs.ped_bodies.specs.Moving.{CellsCorrespond, GivesWayTo, is_cell_among, own_number}
use Rattle.ped_rules.specs.ped_bodies.specs.Rewriting.{HaveIncrements, MayBeRewritten, OfHeads}
use Rattle.ped_rules.specs.ped_bodies.specs.Standing.{GoLikewise}
use Rattle.ped_rules.specs.ped_bodies.specs.Trips.{IsMadeOfTrips, IsTrip, MakesTripsLikewise, bounds_seen, entered_from, loop_close, loop_entry, store_before, trip_end, trips}
use Rattle.ped_rules.specs.ped_loop_runs.proofs.LoopLaws.OneForOneCells.{all_unread, cell_among}
use Rattle.ped_rules.specs.ped_loop_runs.proofs.LoopLaws.OneForOneNames.{variables_unnamed}
use Rattle.ped_rules.specs.ped_loop_runs.proofs.TidyLaws.TidyReferencesGaps.{each_of_program}
use Rattle.ped_rules.specs.ped_steps.proofs.RunLaws.ProgramParts.{part_at}
use Rattle.ped_rules.specs.ped_steps.proofs.RunLaws.AccessTouches.{write_there}
use Rattle.ped_rules.specs.ped_steps.proofs.RunLaws.SparedVariables.{IsUnassigned, variables_unassigned}
use Rattle.ped_symbolic.specs.Substitution.{statements_substituted, substituted}
use Rattle.ped_rules.specs.ped_symbols.proofs.RightUseLaws.Whole.{others_unvalued}
use Rattle.ped_rules.specs.ped_symbols.specs.Kinds.{at_last, kind_in}
use Rattle.ped_rules.specs.ped_symbols.specs.RightUses.RightLoops.{is_step, step_is_right, steps_are_right, stmt_steps_are_right}
use Rattle.ped_rules.specs.ped_laws.proofs.FlowRunLaws.TripReads.{contained_unread}
use Rattle.ped_rules.specs.ped_laws.proofs.FlowRunLaws.Writing.{all_unassigned}
use Rattle.ped_rules.specs.ped_laws.proofs.ActLaws.OfCells.{goes_first, stays_first}
use Rattle.ped_rules.specs.ped_laws.proofs.ActLaws.Renamings.{or_left, or_right}
use Rattle.ped_rules.specs.ped_laws.proofs.RunLaws.Sight.{limits_told}
use Rattle.ped_rules.specs.ped_laws.specs.Acts.Conflicts.{IsNoReadOf, LeaveUnread, ReadNone}
use Rattle.ped_rules.specs.ped_laws.specs.Acts.Fitting.{has_cell, of_cells}
use Rattle.ped_rules.specs.ped_laws.specs.Acts.Orders.{IsIn}
use Rattle.ped_rules.specs.ped_laws.specs.Acts.Renaming.{own_name}
use Rattle.ped_rules.specs.ped_laws.specs.Acts.Sets.{written}
use Rattle.ped_rules.specs.ped_laws.specs.FlowRuns.Covering.{is_cell_of}
use Rattle.ped_rules.specs.ped_laws.specs.Runs.Replaying.{IsEntered, act, finish_of, goes_on}
use Rattle.ped_rules.specs.ped_laws.specs.Runs.Seeing.{ComesTo}
use Rattle.ped_rules.specs.ped_eval.specs.Evaluation.{Evaluated, Seen, numbered}
use Rattle.ped_rules.specs.ped_eval.specs.Loops.{Entered, Limits, exit_touches, exit_when_none, frame, inner_variables, left_in_variable, limits, undefined_all, undefined_by}
use Rattle.ped_rules.specs.ped_eval.specs.Outcomes.{setting_of}
use Rattle.ped_rules.specs.ped_eval.specs.Runs.{run, run_all}
use Rattle.ped_rules.specs.ped_eval.specs.Scopes.{Frame, Scope, Setting, cell_of, index_value, names_in, place_of, turns_of}
use Rattle.ped_rules.specs.ped_eval.specs.Statements.{write_touch}
use Rattle.ped_rules.specs.ped_store.specs.Acts.{Act, Manner, Place, Touch, Turn, ended_turn, iterations_of, reads, writes, is_told}
use Rattle.ped_rules.specs.ped_store.specs.Cells.{Cell, Private}
use Rattle.ped_rules.specs.ped_store.specs.Races.{is_write}
use Rattle.ped_rules.specs.ped_store.specs.Stores.{Store}
use Rattle.ped_rules.specs.ped_steps.specs.Runs.Renumbering.{renumbered_turn}
use Rattle.ped_rules.specs.ped_flow.specs.Questions.{LoopOf}
use Rattle.ped_rules.specs.ped_store.specs.Cells as cells
use Rattle.ped_rules.proofs.NameLaws.UnnamedCells.{all_loops_named}
use Rattle.ped_rules.proofs.NameLaws.ValuesBut.{AreBeside}
use Rattle.ped_rules.proofs.NameLaws.ValuesBut.{limits_but}
use Rattle.ped_splits.proofs.RenameActs.{AllTurned, AreTurned, IsTurnedAct, cells_turned, touches_themselves, turned_append, turned_rows}
use Rattle.ped_splits.proofs.RenameFacts.{IsRenaming}
use Rattle.ped_splits.proofs.RenameGaps.{next_loop, own_loop}
use Rattle.ped_splits.proofs.RenameUnread.{unread_cells}
use Rattle.ped_splits.specs.Neighbours.{Neighbour, next_number}

-- an act has no cell of a name, but for what places tell
abbrev pub HasNone : List ℕ → Act → Type 0
HasNone y a = (v : Touch) → IsIn v a.touches → has_cell v.manner ≡ true → is_cell_of y v.cell ≡ true → ⊥

-- increments in a valid program are constants with values
step_valued : (o : Option ℤ) → is_step o ≡ true → (n : ℤ) × (o ≡ Some n)
step_valued (Some n) h = (n, refl)
step_valued None h = absurd cc

module _ (values : List (List ℕ × ℤ)) where
  mutual
    has_increments : (z : StmtTree) → stmt_steps_are_right values z ≡ true → OfHeads (λ d. (n : ℤ) × (constant_value values d.step ≡ Some n)) z
    has_increments (Assign left right) h = tt
    has_increments (If c a b) h = let both = and_parts (steps_are_right values a) (steps_are_right values b) h in (have_increments a both.0, have_increments b both.1)
    has_increments (Do d body) h = let both = and_parts (step_is_right values d.step) (steps_are_right values body) h in (step_valued (constant_value values d.step) both.0, have_increments body both.1)
    has_increments (Print items) h = tt
    has_increments (Read items) h = tt
    has_increments Stop h = tt
    has_increments (Comment text) h = tt

    have_increments : (ts : StmtTrees) → steps_are_right values ts ≡ true → HaveIncrements values ts
    have_increments no_stmts h = tt
    have_increments (more_stmts z rest) h = let both = and_parts (stmt_steps_are_right values z) (steps_are_right values rest) h in (has_increments z both.0, have_increments rest both.1)

pub text_turned : (y w : List ℕ) → is_same_text y w ≡ true → is_same_text w y ≡ true
text_turned y w h = subst (λ (u : List ℕ). is_same_text u y ≡ true) (same_is y w h) (same_itself y)

pub one_among : (y : List ℕ) (c : Cell) → is_cell_among (y ∷ []) c ≡ true → is_cell_of y c ≡ true
one_among y (cells.Scalar w) h = text_turned w y (first (is_same_text w y) h)
  where
    first : (b : Bool) → b || false ≡ true → b ≡ true
    first true h = refl
    first false h = absurd cc
one_among y (cells.Private w path) h = text_turned w y (first (is_same_text w y) h)
  where
    first : (b : Bool) → b || false ≡ true → b ≡ true
    first true h = refl
    first false h = absurd cc
one_among y (cells.Element w js) h = absurd cc
one_among y cells.In h = absurd cc
one_among y cells.Out h = absurd cc

own_turns : (more : List Turn) → map (renumbered_turn own_number) more ≡ more
own_turns [] = refl
own_turns (i ∷ more) = ap (λ (rest : List Turn). i ∷ rest) (own_turns more)

in_cells : (ts : List Touch) (v : Touch) → IsIn v (of_cells ts) → IsIn v ts × (has_cell v.manner ≡ true)
in_cells [] v i = absurd i
in_cells (w ∷ ts) v i = go (has_cell w.manner) refl (in_cells ts v)
  where
    go : (b : Bool) → has_cell w.manner ≡ b → (IsIn v (of_cells ts) → IsIn v ts × (has_cell v.manner ≡ true)) → IsIn v (w ∷ ts) × (has_cell v.manner ≡ true)
    go true q more = elim (subst (IsIn v) (stays_first w ts q) i) [
      | inl e ↦ (inl e, ap (λ (u : Touch). has_cell u.manner) e ∙ q)
      | inr j ↦ (let k = more j in (inr k.0, k.1))
    ]
    go false q more = let k = more (subst (IsIn v) (goes_first w ts q) i) in (inr k.0, k.1)

-- acts that are done likewise, and have no cell of the name that stands for other cells
module _ (c d : Cell) (y : List ℕ) where
  touches_turned : (xs ys : List Touch) → AllMeet own_name (is_cell_among (y ∷ [])) xs ys → ((v : Touch) → IsIn v xs → is_cell_of y v.cell ≡ true → ⊥) → AllTurned c d xs ys
  touches_turned [] [] h none = tt
  touches_turned [] (w ∷ ys) h none = absurd h
  touches_turned (v ∷ xs) [] h none = absurd h
  touches_turned (v ∷ xs) (w ∷ ys) h none = (
    record { manner = h.0.manner; reference = h.0.reference; rest = inl (same h.0.cells, h.0.content) },
    touches_turned xs ys h.1 (λ u i. none u (inr i)),
  )
    where
      same : Meet own_name (is_cell_among (y ∷ [])) v.cell w.cell → w.cell ≡ v.cell
      same (inl e) = e
      same (inr e) = absurd (none v (inl refl) (one_among y v.cell e.0))

  likewise_turned : (turns others : List Turn) → others ≡ turns → (acts fresh : List Act) → AreLikewise own_name (is_cell_among (y ∷ [])) own_number turns others acts fresh → ((a : Act) → IsIn a acts → HasNone y a) → AreTurned c d acts fresh
  likewise_turned turns others same [] [] h none = tt
  likewise_turned turns others same [] (b ∷ fresh) h none = absurd h
  likewise_turned turns others same (a ∷ acts) [] h none = absurd h
  likewise_turned turns others same (a ∷ acts) (b ∷ fresh) h none = (
    record {
      place = λ i. record { statement = h.0.statement i; turns = all i };
      touches = touches_turned (of_cells a.touches) (of_cells b.touches) h.0.touches (λ v i. let k = in_cells a.touches v i in none a (inl refl) v k.0 k.1);
    },
    likewise_turned turns others same acts fresh h.1 (λ a i. none a (inr i)),
  )
    where
      all : b.place.turns ≡ a.place.turns
      all = h.0.new ∙ (λ i. same i ++ own_turns h.0.more i) ∙ sym h.0.old

-- what isn't read among acts that read none
read_none : (q : Cell → Bool) (acts : List Act) → ReadNone q acts → (a : Act) → IsIn a acts → (v : Touch) → IsIn v a.touches → IsNoReadOf q v.manner v.cell
read_none q [] h a i v j = absurd i
read_none q (b ∷ acts) h a (inl e) v j = one b.touches h.0 (subst (λ (c : Act). IsIn v c.touches) e j)
  where
    one : (ts : List Touch) → LeaveUnread q ts → IsIn v ts → IsNoReadOf q v.manner v.cell
    one [] g k = absurd k
    one (w ∷ ts) g (inl f) = subst (λ (u : Touch). IsNoReadOf q u.manner u.cell) (sym f) g.0
    one (w ∷ ts) g (inr k) = one ts g.1 k
read_none q (b ∷ acts) h a (inr i) v j = read_none q acts h.1 a i v j

no_copy : (f : Frame) (S : Scope) (y : List ℕ) → f.private ≡ [] → cell_of (f ∷ S) y ≡ cell_of S y
no_copy f S y none = ap (λ (names : List (List ℕ)). if is_among y names then Private y (iterations_of (turns_of (f ∷ S))) else cell_of S y) none

module _ (t : ProgramTree) (s : ℕ) (x : Neighbour t s) (r : IsRenaming t s x) where
  abbrev p : Setting
  p = setting_of t

  abbrev k : ℕ
  k = next_number x

  abbrev I : List ℕ
  I = x.own.variable

  abbrev J : List ℕ
  J = x.next.variable

  abbrev d : Head
  d = x.next

  abbrev new_head : Head
  new_head = record x.next { variable = x.own.variable }

  abbrev body : StmtTrees
  body = x.next_body

  abbrev new_body : StmtTrees
  new_body = statements_substituted x.next.variable (Var x.own.variable) x.next_body

  abbrev variables : List (List ℕ)
  variables = x.own.variable ∷ loop_variables (Do x.next x.next_body)

  abbrev loop : LoopOf t (next_number x)
  loop = next_loop x

  J_among : is_among J (loop_variables (Do d body)) ≡ true
  J_among = or_left (is_same_text J J) (is_among J (all_loop_variables body)) (same_itself J)

  I_among : is_among I (loop_variables (Do x.own x.own_body)) ≡ true
  I_among = or_left (is_same_text I I) (is_among I (all_loop_variables x.own_body)) (same_itself I)

  pub old_idle : (S : Scope) → is_cell_among (x.own.variable ∷ loop_variables (Do x.next x.next_body)) (cell_of S x.next.variable) ≡ true
  old_idle S = cell_among variables S J ∙ or_right (is_same_text J I) (is_among J (loop_variables (Do d body))) J_among

  pub new_idle : (S : Scope) → is_cell_among (x.own.variable ∷ loop_variables (Do x.next x.next_body)) (cell_of S x.own.variable) ≡ true
  new_idle S = cell_among variables S I ∙ or_left (is_same_text I I) (is_among I (loop_variables (Do d body))) (same_itself I)

  I_constant : is_among I (constant_names t.decls) ≡ false
  I_constant = variables_unnamed t r.valid s (own_loop x) I I_among

  I_none : value_named p.constants I ≡ None
  I_none = others_unvalued t I I_constant

  J_constant : is_among J (constant_names t.decls) ≡ false
  J_constant = variables_unnamed t r.valid k loop J J_among

  J_none : value_named p.constants J ≡ None
  J_none = others_unvalued t J J_constant

  J_unassigned : is_among J (assigned_in_all body) ≡ false
  J_unassigned = (each_of_program (IsUnassigned t (kind_in t)) t (variables_unassigned t r.valid) k loop).1

  steps : steps_are_right p.constants body ≡ true
  steps = (and_parts (step_is_right (at_last t).values d.step) (steps_are_right (at_last t).values body) (part_at t r.valid k (Do d body) loop.is).steps).1

  may : MayBeRewritten (substituted J (Var I)) p.constants body
  may = may_give_way p.constants J J_none (Var I) body J_unassigned (have_increments p.constants body steps)

  unlike : (y : List ℕ) → is_same_text J y ≡ false → is_same_text y J ≡ false
  unlike y h = go (is_same_text y J) refl
    where
      go : (b : Bool) → is_same_text y J ≡ b → b ≡ false
      go true e = absurd (both_ways (is_same_text J y) h (text_turned y J e))
      go false e = refl

  module _ (scope other : Scope) (near : AreBeside x.next.variable scope other) (v : Store) (goes : finish_of (run (setting_of t) (Do x.next x.next_body) (next_number x) scope v).ending ≡ goes_on) where
    pub old : IsMadeOfTrips (setting_of t) x.next x.next_body (next_number x) scope v
    old = loop_apart p x.next x.next_body k scope v goes

    abbrev e : Entered
    e = entered_from (setting_of t) x.next x.next_body (next_number x) scope v old.bounds

    abbrev z : Entered
    z = entered_from (setting_of t) new_head new_body (next_number x) other v old.bounds

    abbrev at : Place
    at = place_of (setting_of t) (next_number x) scope

    abbrev new_at : Place
    new_at = place_of (setting_of t) (next_number x) other

    abbrev old_seen : List Seen
    old_seen = bounds_seen (setting_of t) x.next scope v

    abbrev new_seen : List Seen
    new_seen = bounds_seen (setting_of t) new_head other v

    same_place : new_at ≡ at
    same_place i = record { statement = p.number k; turns = near.turns i }

    -- the bounds
    same_limits : limits (names_in p other) new_head v ≡ limits (names_in p scope) d v
    same_limits = limits_but J (names_in p scope) (names_in p other) (record { constants = refl; bounds = λ y apart. refl; cell = near.cell; index = λ y apart. near.index y }) v d r.first r.last

    pub same_seen : new_seen ≡ old_seen
    same_seen = ap (λ (l : Evaluated Limits). l.seen) same_limits

    comes : ComesTo (limits (names_in p other) new_head) new_seen (Ok old.bounds)
    comes u holds = (limits_told (names_in p other) new_head).comes v u holds ∙ (λ i. record { seen = new_seen; result = (ap (λ (l : Evaluated Limits). l.result) same_limits ∙ old.come) i })

    entered : IsEntered p k other new_head new_body new_seen z
    entered = (old.bounds, comes, refl)

    -- the iterations
    old_private : (j : ℕ) → (frame e j).private ≡ []
    old_private j = (λ i. if r.serial i then d.variable ∷ (d.private ++ e.inner) else d.private) ∙ r.private

    new_private : (j : ℕ) → (frame z j).private ≡ []
    new_private j = (λ i. if r.serial i then I ∷ (d.private ++ z.inner) else d.private) ∙ r.private

    same_turns : (j : ℕ) → turns_of (frame z j ∷ other) ≡ turns_of (frame e j ∷ scope)
    same_turns j i = near.turns i ++ (frame e j).turn ∷ []

    gives : (j : ℕ) → GivesWayTo p (stmts_names body) (all_loop_variables body) J (Var I) (frame e j ∷ scope) (frame z j ∷ other)
    gives j = record {
      value = (frame e j).turn.value;
      index = ap (λ (b : Bool). if b then Some (frame e j).turn.value else index_value scope J) (same_itself J);
      no_constant = J_none;
      told = variable_told p (all_loop_variables body) J (frame z j ∷ other) I (frame e j).turn.value I_none
          (ap (λ (b : Bool). if b then Some (frame e j).turn.value else index_value other I) (same_itself I)) (all_loops_named I body r.absent);
      others = λ y among apart.
          ap (λ (b : Bool). if b then Some (frame e j).turn.value else index_value other y) (other_text y among)
          ∙ near.index y ∙ ap (λ (b : Bool). if b then Some (frame e j).turn.value else index_value scope y) (sym (unlike y apart));
    }
      where
        other_text : (y : List ℕ) → is_among y (stmts_names body) ≡ true → is_same_text y I ≡ false
        other_text y among = go (is_same_text y I) refl
          where
            go : (b : Bool) → is_same_text y I ≡ b → b ≡ false
            go true q = absurd (both_ways (is_among I (stmts_names body)) r.absent (subst (λ (w : List ℕ). is_among w (stmts_names body) ≡ true) (same_is y I q) among))
            go false q = refl

    cells_meet : (j : ℕ) → CellsCorrespond own_name (is_cell_among (J ∷ [])) own_number (stmts_names body) (frame e j ∷ scope) (frame z j ∷ other)
    cells_meet j = record {
      cell = λ y among. by y (is_same_text J y) refl;
      inside = λ y i more among. inl (λ n. Private y (iterations_of (same_turns j n) ++ same_numbers (i ∷ more) n));
    }
      where
        by : (y : List ℕ) (b : Bool) → is_same_text J y ≡ b → Meet own_name (is_cell_among (J ∷ [])) (cell_of (frame e j ∷ scope) y) (cell_of (frame z j ∷ other) y)
        by y true q = inr (cell_among (J ∷ []) (frame e j ∷ scope) y ∙ or_left (is_same_text y J) false (text_turned J y q), cell_among (J ∷ []) (frame z j ∷ other) y ∙ or_left (is_same_text y J) false (text_turned J y q))
        by y false q = inl (no_copy (frame z j) other y (new_private j) ∙ near.cell y q ∙ sym (no_copy (frame e j) scope y (old_private j)))

    likewise : (j : ℕ) → GoLikewise own_name (is_cell_among (J ∷ [])) own_number p p body new_body (k + 1) (k + 1) (frame e j ∷ scope) (frame z j ∷ other)
    likewise j =
        put_in own_number p p body (k + 1) (k + 1) (record { constants = refl; bounds = λ y among. refl; numbers = λ n less. refl }) J (Var I) own_name (is_cell_among (J ∷ [])) (frame e j ∷ scope) (frame z j ∷ other)
        own_names may (gives j) (cells_meet j)

    pub made : MakesTripsLikewise own_name (is_cell_among (x.next.variable ∷ [])) own_number e scope old.trip (λ j. j) (setting_of t) new_head new_body (next_number x) other new_seen z
    made = trips_made p p d new_head body new_body k k scope other v new_seen z own_name (is_cell_among (J ∷ [])) own_number (λ j. j) old entered (λ j from to. (from, to, likewise j))

    -- in an iteration nothing touches the old variable
    none_there : (j : ℕ) → 1 ≤ j → j ≤ e.count → (a : Act) → IsIn a (old.trip j) → HasNone J a
    none_there j from to a i w n has named = by w.manner refl
      where
        it : IsTrip p body k scope e j (store_before old_seen e scope at old.trip v j) (old.trip j)
        it = old.are j from to

        u : Store
        u = store_before old_seen e scope at old.trip v j

        unread : ReadNone (is_cell_of J) (old.trip j)
        unread = subst (ReadNone (is_cell_of J)) (sym it.is) (contained_unread p t k loop J J_constant r.contained J_among scope (frame e j) u refl)

        unwritten : written (old.trip j) w.cell ≡ false
        unwritten = ap (λ (acts : List Act). written acts w.cell) it.is ∙ all_unassigned p J body (k + 1) (frame e j ∷ scope) u w.cell J_unassigned named

        by : (m : Manner) → w.manner ≡ m → ⊥
        by reads q = both_ways (is_cell_of J w.cell) (subst (λ (m : Manner). IsNoReadOf (is_cell_of J) m w.cell) q (read_none (is_cell_of J) (old.trip j) unread a i w n)) named
        by writes q = both_ways (written (old.trip j) w.cell) unwritten (write_there (old.trip j) a w i n (ap is_write q))
        by is_told q = both_ways (has_cell w.manner) (ap has_cell q) has

    -- what leaves the DO
    none_more : (S : Scope) (y : Entered) → y.head.private ≡ [] → y.inner ≡ [] → undefined_by S y.behind_bounds y.head.private ++ undefined_all S y.inner ≡ []
    none_more S y private inner i = undefined_by S y.behind_bounds (private i) ++ undefined_all S (inner i)

    exits_turned : AllTurned (cell_of scope x.next.variable) (cell_of other x.own.variable) (of_cells (exit_touches e scope)) (of_cells (exit_touches z other))
    exits_turned =
        subst (λ (ts : List Touch). AllTurned (cell_of scope x.next.variable) (cell_of other x.own.variable) (of_cells (write_touch (cell_of scope J) (left_in_variable e) 0 ∷ ts)) (of_cells (exit_touches z other))) (sym (none_more scope e r.private (ap (λ (b : Bool). inner_variables b body) r.serial)))
        (subst (λ (ts : List Touch). AllTurned (cell_of scope x.next.variable) (cell_of other x.own.variable) (of_cells (write_touch (cell_of scope J) (left_in_variable e) 0 ∷ [])) (of_cells (write_touch (cell_of other I) (left_in_variable z) 0 ∷ ts))) (sym (none_more other z r.private (ap (λ (b : Bool). inner_variables b new_body) r.serial)))
        (record { manner = refl; reference = refl; rest = inr (refl, refl, refl, refl) }, tt))

    when_none : (n : ℕ) → AllTurned (cell_of scope x.next.variable) (cell_of other x.own.variable) (of_cells (exit_when_none n e scope)) (of_cells (exit_when_none n z other))
    when_none n = go (n == 0)
      where
        go : (b : Bool) → AllTurned (cell_of scope x.next.variable) (cell_of other x.own.variable) (of_cells (if b then exit_touches e scope else [])) (of_cells (if b then exit_touches z other else []))
        go true = exits_turned
        go false = tt

    pub entry_turned : IsTurnedAct (cell_of scope x.next.variable) (cell_of other x.own.variable) (loop_entry old_seen e scope at) (loop_entry new_seen z other new_at)
    entry_turned = record {
      place = same_place;
      touches = cells_turned (cell_of scope x.next.variable) (cell_of other x.own.variable) (numbered 1 old_seen) (numbered 1 new_seen) (exit_when_none e.count e scope) (exit_when_none z.count z other)
          (subst (λ (seen : List Seen). AllTurned (cell_of scope x.next.variable) (cell_of other x.own.variable) (of_cells (numbered 1 old_seen)) (of_cells (numbered 1 seen))) (sym same_seen) (touches_themselves (cell_of scope x.next.variable) (cell_of other x.own.variable) (of_cells (numbered 1 old_seen)))) (when_none e.count);
    }

    end_turned : (j : ℕ) → AreTurned (cell_of scope x.next.variable) (cell_of other x.own.variable) (trip_end e scope at j) (trip_end z other new_at j)
    end_turned j = go d.parallel
      where
        go : (b : Bool) → AreTurned (cell_of scope x.next.variable) (cell_of other x.own.variable) (if b then [] else act (ended_turn (e.count - j)) at (exit_when_none (e.count - j) e scope) ∷ []) (if b then [] else act (ended_turn (e.count - j)) new_at (exit_when_none (e.count - j) z other) ∷ [])
        go true = tt
        go false = (record { place = same_place; touches = when_none (e.count - j) }, tt)

    trip_turned : (j : ℕ) → 1 ≤ j → j ≤ e.count → AreTurned (cell_of scope x.next.variable) (cell_of other x.own.variable) (old.trip j ++ trip_end e scope at j) (made.fresh j ++ trip_end z other new_at j)
    trip_turned j from to =
        turned_append (cell_of scope x.next.variable) (cell_of other x.own.variable) (old.trip j) (made.fresh j) (trip_end e scope at j) (trip_end z other new_at j)
        (likewise_turned (cell_of scope x.next.variable) (cell_of other x.own.variable) J (turns_of (frame e j ∷ scope)) (turns_of (frame z j ∷ other)) (same_turns j) (old.trip j) (made.fresh j) (made.likewise j from to) (none_there j from to)) (end_turned j)

    close_turned : AreTurned (cell_of scope x.next.variable) (cell_of other x.own.variable) (loop_close e scope at) (loop_close z other new_at)
    close_turned = subst (λ (acts : List Act). AreTurned (cell_of scope x.next.variable) (cell_of other x.own.variable) acts (loop_close z other new_at)) (sym (close_in_order e scope at r.serial)) (subst (AreTurned (cell_of scope x.next.variable) (cell_of other x.own.variable) []) (sym (close_in_order z other new_at r.serial)) tt)

    -- what follows the entry
    abbrev old_rest : List Act
    old_rest = trips e scope at old.trip 1 e.count ++ loop_close e scope at

    abbrev new_rest : List Act
    new_rest = trips z other new_at made.fresh 1 z.count ++ loop_close z other new_at

    pub rests_turned : AreTurned (cell_of scope x.next.variable) (cell_of other x.own.variable) old_rest new_rest
    rests_turned =
        turned_append (cell_of scope x.next.variable) (cell_of other x.own.variable) (trips e scope at old.trip 1 e.count) (trips z other new_at made.fresh 1 z.count) (loop_close e scope at) (loop_close z other new_at)
        (turned_rows (cell_of scope x.next.variable) (cell_of other x.own.variable) (λ j. old.trip j ++ trip_end e scope at j) (λ j. made.fresh j ++ trip_end z other new_at j) e.count 1 (λ j from less. trip_turned j from (omega (arith, less))))
        close_turned

    -- and reads no cell of the variables
    pub trip_unread : (j : ℕ) → 1 ≤ j → j ≤ e.count → ReadNone (is_cell_among (x.own.variable ∷ loop_variables (Do x.next x.next_body))) (old.trip j)
    trip_unread j from to = all_unread variables (old.trip j) (λ w i. subst (ReadNone (is_cell_of w)) (sym it.is) (by w i (is_same_text w I) refl))
      where
        it : IsTrip p body k scope e j (store_before old_seen e scope at old.trip v j) (old.trip j)
        it = old.are j from to

        u : Store
        u = store_before old_seen e scope at old.trip v j

        by : (w : List ℕ) → is_among w variables ≡ true → (b : Bool) → is_same_text w I ≡ b → ReadNone (is_cell_of w) (run_all p body (k + 1) (frame e j ∷ scope) u).acts
        by w i true q = subst (λ (y : List ℕ). ReadNone (is_cell_of y) (run_all p body (k + 1) (frame e j ∷ scope) u).acts) (sym (same_is w I q)) (unread_cells (constant_names t.decls) I p I_constant body r.absent (k + 1) (frame e j ∷ scope) u)
        by w i false q =
            let among : is_among w (loop_variables (Do d body)) ≡ true = ap (λ (b : Bool). b || is_among w (loop_variables (Do d body))) (sym q) ∙ i in
            contained_unread p t k loop w (variables_unnamed t r.valid k loop w among) r.contained among scope (frame e j) u refl

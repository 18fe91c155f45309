-- The values that stand in the stores of an execution of an outermost DO.
use Rattle.std.proofs.Common.{◌≡◌, ℕ, ℤ, List, [], ◌∷◌, ◌++◌, Bool, true, false, ◌||◌, refl, sym, ap, ◌∙◌, subst, Option, Some, None, if◌then◌else◌, IsTrue}
use Rattle.std.specs.Map.{lookup}
use Rattle.std.proofs.lemmas.List.Folds.{list_any-append}
use Rattle.ped_flow.specs.ped_base.specs.Lists.{is_same_text, is_among}
use Rattle.ped_graph.specs.ped_views.specs.declared.intervals.Interval.{Interval}
use Rattle.ped_graph.specs.ped_views.specs.Intervals.{Lies}
use Rattle.ped_flow.specs.ped_tree.specs.Grammar.Fits.{expr_fits}
use Rattle.ped_flow.specs.ped_tree.specs.Tree.{ExprTree, StmtTree, Do, ProgramTree}
use Rattle.ped_flow.specs.ped_tree.specs.Nests.{indices_of}
use Rattle.ped_eval.specs.ped_store.specs.Cells.{Cell, Scalar, Private}
use Rattle.ped_eval.specs.ped_store.specs.Stores.{Content, Undefined, Number, Lines, Store, is_storable}
use Rattle.ped_eval.specs.ped_store.specs.Acts.{Touch, Act, iterations_of}
use Rattle.ped_laws.specs.Acts.Fitting.{store_after, touches_of}
use Rattle.ped_laws.specs.Acts.Sets.{written, written_by, writes_to}
use Rattle.ped_laws.proofs.ActLaws.Renamings.{after_other}
use Rattle.ped_laws.proofs.ActLaws.Reorderings.{touches_append}
use Rattle.ped_eval.specs.Scopes.{Frame, Scope, Setting, turns_of, names_in, cell_of, index_value}
use Rattle.ped_flow.specs.ped_affine.specs.Assigned.{assigned_in}
use Rattle.ped_flow.specs.ped_affine.specs.Ranges as ranges
use Rattle.ped_flow.specs.PlainBounds.{Values, nest_round, setting_round, outermost_or, assigned_by, IsFixed, IsPlain}
use Rattle.ped_flow.proofs.Truths.{untrue, or_none}
use Rattle.ped_laws.specs.FlowRuns.Covering.{is_number, some_stops_in_loop}
use Rattle.ped_laws.specs.FlowRuns.Exits.{IsOneToOne}
use Rattle.ped_laws.specs.FlowRuns.Entries.{IsEntry}
use Rattle.ped_flow.specs.ped_base.proofs.NameEquality.{same_itself, same_is}
use Rattle.ped_laws.proofs.FlowRunLaws.Writing.{unassigned}
use Rattle.ped_laws.proofs.FlowRunLaws.Entering.{number_before}
use Rattle.ped_laws.specs.Plain.PlainValues.{around_loop, AreInRange, Stand}
use Rattle.ped_laws.specs.Plain.Executions.{HaveValues, IsInside, AreInside, IsPlaceWith, LieInRanges, number_or_zero, values_with, IsDuring, is_small, WriteSmall, HasValueDuring}
use Rattle.ped_laws.proofs.PlainLaws.NearIntervals.{not_around}
use Rattle.ped_laws.proofs.PlainLaws.Nests.{all_loops_among}
use Rattle.ped_laws.proofs.PlainLaws.PlainValues.{plain_value}
use Rattle.ped_laws.proofs.PlainLaws.SmallWrites.{small_front, run_all_small, small_after}

module _ (s : ranges.Setting) (x : List ℕ) (unassigned_here : is_among x s.assigned ≡ false) (other : is_among x s.loop_variables ≡ false) where
  not_variable : (f : Frame) → IsInside s f → is_same_text x f.variable ≡ false
  not_variable f in_it = go (is_same_text x f.variable) refl
    where
      go : (b : Bool) → is_same_text x f.variable ≡ b → is_same_text x f.variable ≡ false
      go true e = let z : false ≡ true = sym other ∙ ap (λ (y : List ℕ). is_among y s.loop_variables) (same_is x f.variable e) ∙ in_it.variable in untrue z
      go false e = e

  not_private : (f : Frame) → IsInside s f → is_among x f.private ≡ false
  not_private f in_it = go (is_among x f.private) refl
    where
      go : (b : Bool) → is_among x f.private ≡ b → is_among x f.private ≡ false
      go true e = let z : false ≡ true = sym unassigned_here ∙ in_it.private x e in untrue z
      go false e = e

  pub untold : (scope : Scope) → AreInside s scope → index_value scope x ≡ None
  untold [] all = refl
  untold (f ∷ fs) all = ap (λ (b : Bool). if b then Some f.turn.value else index_value fs x) (not_variable f all.0) ∙ untold fs all.1

  pub own_cell : (scope : Scope) → AreInside s scope → cell_of scope x ≡ Scalar x
  own_cell [] all = refl
  own_cell (f ∷ fs) all = ap (λ (b : Bool). if b then Private x (iterations_of (turns_of (f ∷ fs))) else cell_of fs x) (not_private f all.0) ∙ own_cell fs all.1

-- acts of which none writes the cell, also the first of them
unwritten_front : (done left : List Act) (c : Cell) → written (done ++ left) c ≡ false → written done c ≡ false
unwritten_front done left c h =
    let parts : (written_by (touches_of done) c || written_by (touches_of left) c) ≡ false = sym (ap (λ z. written_by z c) (touches_append done left) ∙ list_any-append (λ t. writes_to t c) (touches_of done) (touches_of left)) ∙ h in
    (or_none (written_by (touches_of done) c) (written_by (touches_of left) c) parts).0

-- a scalar that keeps its value holds in an execution what it holds at its entry
pub kept_during : (p : Setting) (constants : Values) (t : ProgramTree) (l : ℕ) (s u : Store) → IsDuring p t l s u → (x : List ℕ) → IsFixed constants t l x → u (Scalar x) ≡ s (Scalar x)
kept_during p constants t l s u d x fixed =
    let number : ℕ = outermost_or l (nest_round t l) in
    let its : is_among x (assigned_in (Do d.loop.head d.loop.body)) ≡ false = ap (λ (o : Option StmtTree). is_among x (assigned_by o)) (sym d.loop.is) ∙ fixed.kept in
    let none : written (d.done ++ d.left) (Scalar x) ≡ false = ap (λ (acts : List Act). written acts (Scalar x)) (sym d.whole) ∙ unassigned p x (Do d.loop.head d.loop.body) number [] s (Scalar x) its (same_itself x) in
    ap (λ (w : Store). w (Scalar x)) d.after ∙ after_other d.done s (Scalar x) (unwritten_front d.done d.left (Scalar x) none)

a_number : (c : Content) → is_number c ≡ true → c ≡ Number (number_or_zero c)
a_number Undefined h = untrue h
a_number (Number n) h = refl
a_number (Lines lines) h = untrue h

module _ (p : Setting) (t : ProgramTree) (l : ℕ) (told : List ℕ → ℤ) (s : Store) where
  abbrev v : List ℕ → ℤ
  v = values_with t told s

  told_there : (x : List ℕ) → IsTrue (is_among x (indices_of (nest_round t l))) → v x ≡ told x
  told_there x among = ap (λ (b : Bool). if b then told x else number_or_zero (s (Scalar x))) (all_loops_among l x t.body 1 among)

  held_there : (x : List ℕ) → IsFixed p.constants t l x → v x ≡ number_or_zero (s (Scalar x))
  held_there x fixed = ap (λ (b : Bool). if b then told x else number_or_zero (s (Scalar x))) fixed.other

  found_told : LieInRanges p.constants t l told → (x : List ℕ) (r : Interval) → lookup (is_same_text x) (around_loop p.constants t l) ≡ Some r → Lies (v x) r
  found_told ranges x r h = go (is_among x (indices_of (nest_round t l))) refl
    where
      go : (b : Bool) → is_among x (indices_of (nest_round t l)) ≡ b → Lies (v x) r
      go true e = subst (λ (n : ℤ). Lies n r) (sym (told_there x e)) (ranges x r h)
      go false e = let none : Some r ≡ None = sym h ∙ not_around (setting_round p.constants t l) x (nest_round t l) [] e refl in absurd cc

small_number : (c : Content) → is_small c ≡ true → is_storable (number_or_zero c) ≡ true
small_number Undefined h = refl
small_number (Number n) h = h
small_number (Lines lines) h = refl

-- at the entry of an outermost DO
module _ (p : Setting) (t : ProgramTree) (one : IsOneToOne p.number) (unstopping : some_stops_in_loop t.body ≡ false) (named : HaveValues p.constants t) (s : Store) (l : ℕ) (front : List Act) (entry : IsEntry p t s l front) (told : List ℕ → ℤ) where
  abbrev start : Store
  start = store_after front s

  -- the values that are told and those that scalars hold stand in each store of the execution
  pub stand_during : (scope : Scope) → IsPlaceWith p.constants t l told scope → (u : Store) → IsDuring p t l start u → Stand p.constants t l (values_with t told start) (names_in p scope) u
  stand_during scope place u during = record {
    same = refl;
    indices = λ x among. place.tells x among ∙ ap Some (sym (told_there p t l told start x among));
    unbound = λ x kept. untold (setting_round p.constants t l) x kept.fixed.kept kept.fixed.other scope place.inside;
    scalars = λ x kept.
        let cell : cell_of scope x ≡ Scalar x = own_cell (setting_round p.constants t l) x kept.fixed.kept kept.fixed.other scope place.inside in
        let number = number_before p one t x (named x kept.other) unstopping s l front entry kept.fixed.before in
        ap u cell ∙ kept_during p p.constants t l start u during x kept.fixed ∙ a_number (start (Scalar x)) number ∙ ap Number (sym (held_there p t l told start x kept.fixed));
  }

  -- a scalar that is no DO variable holds 32 bits at the entry
  small_at_entry : (x : List ℕ) → is_small (s (Scalar x)) ≡ true → IsFixed p.constants t l x → is_small (start (Scalar x)) ≡ true
  small_at_entry x small fixed =
      let whole : WriteSmall (Scalar x) (touches_of (front ++ entry.act ∷ entry.behind)) = subst (λ (acts : List Act). WriteSmall (Scalar x) (touches_of acts)) entry.whole (run_all_small p x (Scalar x) (same_itself x) t.body 1 [] s fixed.other) in
      let parts : WriteSmall (Scalar x) (touches_of front ++ touches_of (entry.act ∷ entry.behind)) = subst (λ (ts : List Touch). WriteSmall (Scalar x) ts) (touches_append front (entry.act ∷ entry.behind)) whole in
      small_after (Scalar x) front s (small_front (Scalar x) (touches_of front) (touches_of (entry.act ∷ entry.behind)) parts) small

  pub range_during : ((x : List ℕ) → is_small (s (Scalar x)) ≡ true) → LieInRanges p.constants t l told → AreInRange p.constants t l (values_with t told start)
  range_during small ranges = record {
    indices = found_told p t l told start ranges;
    scalars = λ x kept. subst (λ (n : ℤ). is_storable n ≡ true) (sym (held_there p t l told start x kept.fixed)) (small_number (start (Scalar x)) (small_at_entry x (small x) kept.fixed));
  }

  pub value_during : ((x : List ℕ) → is_small (s (Scalar x)) ≡ true) → (e : ExprTree) → IsPlain p.constants t l e → expr_fits e ≡ true → LieInRanges p.constants t l told → HasValueDuring p t l told start e
  value_during small e plain fits ranges =
      let n = plain_value p.constants t l (values_with t told start) (range_during small ranges) e plain fits in
      record { worth = n.worth; lies = n.lies; bound = n.bound; comes = λ scope place u during. n.comes (names_in p scope) u (stand_during scope place u during) }

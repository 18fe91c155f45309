-- What the last iteration of a DO leaves in a scalar that is assigned on each path through the body.
use Rattle.std.proofs.Common.{◌≡◌, ℕ, ◌+◌, ℤ, List, ◌∷◌, true, false, refl, ap, subst, ◌∙◌, inl}
use Rattle.ped_base.specs.Lists.{is_among}
use Rattle.ped_tree.specs.Tree.{Head, StmtTrees, ProgramTree}
use Rattle.ped_tree.specs.Accesses.{constant_names}
use Rattle.ped_tree.specs.NamesIn.{all_loop_variables}
use Rattle.ped_rules.specs.ped_store.specs.Cells.{Cell}
use Rattle.ped_rules.specs.ped_store.specs.Stores.{Content, Undefined, Number, Lines, Store, put, is_storable}
use Rattle.ped_rules.specs.ped_store.specs.Acts.{Act}
use Rattle.ped_rules.specs.ped_laws.specs.Acts.Fitting.{store_after, touches_of}
use Rattle.ped_rules.specs.ped_laws.specs.Acts.Sets.{written}
use Rattle.ped_rules.specs.ped_laws.proofs.ActLaws.SameCells.{cell_itself}
use Rattle.ped_rules.specs.ped_laws.proofs.ActLaws.Stores.{put_same}
use Rattle.ped_rules.specs.ped_laws.proofs.ActLaws.Renamings.{agreeing_leaves}
use Rattle.ped_rules.specs.ped_eval.specs.Scopes.{Setting, Scope, cell_of}
use Rattle.ped_rules.specs.ped_eval.specs.Evaluation.{Seen}
use Rattle.ped_rules.specs.ped_eval.specs.Loops.{Limits, entered_with, frame}
use Rattle.ped_rules.specs.ped_eval.specs.Runs.{Ending, going, stopped, failed, run_all}
use Rattle.ped_rules.specs.ped_flow.specs.Questions.{LoopOf, IsExposed, IsAssignedThrough}
use Rattle.ped_rules.specs.ped_laws.specs.FlowRuns.Covering.{is_number, some_stop}
use Rattle.ped_rules.specs.ped_laws.proofs.FlowRunLaws.Cells.{cell_named}
use Rattle.ped_rules.specs.ped_laws.proofs.FlowRunLaws.Covered.{none_in_loops}
use Rattle.ped_rules.specs.ped_laws.proofs.FlowRunLaws.Holding.{number_through}
use Rattle.ped_rules.specs.ped_laws.proofs.FlowRunLaws.TripReads.{unexposed_unneeded}
use Rattle.ped_rules.specs.ped_laws.specs.Plain.Executions.{is_small, WriteSmall}
use Rattle.ped_rules.specs.ped_laws.proofs.PlainLaws.SmallWrites.{run_all_small, small_after}
use Rattle.ped_rules.specs.ped_laws.specs.Runs.Replaying.{goes_on, finish_of}
use Rattle.ped_rules.specs.ped_steps.proofs.RunLaws.LeftLoops.{going_ends}
use Rattle.ped_scalar.proofs.ExpandedLoops.{trip, own, cell_inside, number_written}

abbrev IsStorable : Content → Type 0
IsStorable c = (n : ℤ) × (c ≡ Number n) × (is_storable n ≡ true)

-- a number of 32 bits can be held
held_small : (c : Content) → is_number c ≡ true → is_small c ≡ true → IsStorable c
held_small Undefined a b = absurd cc
held_small (Number n) a b = (n, refl, b)
held_small (Lines lines) a b = absurd cc

-- what acts leave in a cell that they write has 32 bits
written_small : (c : Cell) (acts : List Act) (s : Store) → WriteSmall c (touches_of acts) → written acts c ≡ true → is_small (store_after acts s c) ≡ true
written_small c acts s all there =
    ap is_small (agreeing_leaves acts s (put c Undefined s) c (inl there))
    ∙ small_after c acts (put c Undefined s) all (ap is_small (put_same c Undefined s c (cell_itself c)))

goes_where : (e : Ending) → finish_of e ≡ goes_on → (u : Store) × (e ≡ going u)
goes_where (going u) q = (u, refl)
goes_where (stopped u) q = absurd cc
goes_where (failed fault statement) q = absurd cc

module _ (t : ProgramTree) (l : ℕ) (loop : LoopOf t l) (x array : List ℕ) (q : Setting) (in_order : loop.head.parallel ≡ false) (absent : is_among x loop.head.private ≡ false) (unnamed : is_among x (constant_names t.decls) ≡ false) (unstopping : some_stop loop.body ≡ false)
    (no_loop : is_among x (all_loop_variables loop.body) ≡ false) (unexposed : (n : ℕ) → IsExposed t l x n → ⊥) (through : IsAssignedThrough t l x) (S : Scope) (seen : List Seen) (m : Limits) (k : ℕ) (s : Store) where
  abbrev h : Head
  h = loop.head

  abbrev body : StmtTrees
  body = loop.body

  abbrev inside : Scope
  inside = frame (entered_with q l h body seen m) k ∷ S

  abbrev Goes : Store → Type 0
  Goes u = finish_of (trip q h body l S x array seen m k u).ending ≡ goes_on

  number_left : (u : Store) → Goes u → is_number (store_after (run_all q body (l + 1) inside u).acts u (cell_of S x)) ≡ true
  number_left u goes =
      let at = goes_where (run_all q body (l + 1) inside u).ending goes in
      subst (λ (c : Cell). is_number (store_after (run_all q body (l + 1) inside u).acts u c) ≡ true) (cell_inside q h body l S x array seen m in_order absent k)
      (number_through q t l loop x unnamed (none_in_loops body unstopping) through inside u at.0 at.1)

  -- the iteration writes the scalar
  pub last_writes : Goes s → written (trip q h body l S x array seen m k s).acts (own q h body l S x array) ≡ true
  last_writes goes =
      number_written q body (l + 1) inside (cell_of S x) s goes
      (unexposed_unneeded q t l loop x unnamed unstopping unexposed S seen m k s (going_ends (run_all q body (l + 1) inside s).ending goes)) number_left

  -- and leaves a number in it that an element can hold
  pub last_stores : Goes s → IsStorable (store_after (trip q h body l S x array seen m k s).acts s (own q h body l S x array))
  last_stores goes =
      held_small (store_after (run_all q body (l + 1) inside s).acts s (cell_of S x)) (number_left s goes)
      (written_small (cell_of S x) (run_all q body (l + 1) inside s).acts s (run_all_small q x (cell_of S x) (cell_named S x) body (l + 1) inside s no_loop) (last_writes goes))

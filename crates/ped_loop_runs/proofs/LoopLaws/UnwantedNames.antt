-- What is wanted behind the execution of a contained DO and has the name of a variable of its loops is written by nothing in its place.
use Rattle.std.proofs.Common.{Bool, ap, arith, false, inl, inr, refl, sym, subst, true, ℕ, List, ◌∙◌, ◌≡◌, ◌⊎◌}
use Rattle.std.proofs.lemmas.Bool.{both_ways}
use Rattle.std.specs.Str.Lines.{lines}
use Rattle.ped_bodies.specs.ped_flow.specs.ped_base.specs.Lists.{is_among}
use Rattle.ped_bodies.specs.ped_flow.specs.ped_tree.specs.Tree.{Do, ProgramTree, StmtTree}
use Rattle.ped_bodies.specs.ped_flow.specs.ped_tree.specs.NamesIn.{loop_variables}
use Rattle.ped_bodies.specs.ped_flow.specs.ped_tree.specs.Numbering.{statement_count, statements_count}
use Rattle.ped_bodies.specs.ped_flow.specs.Questions.{LoopOf, IsContained}
use Rattle.ped_bodies.specs.ped_symbols.specs.NameRefusals.{IsValid}
use Rattle.ped_bodies.specs.ped_store.specs.Acts.{Act}
use Rattle.ped_bodies.specs.ped_store.specs.Cells.{Cell}
use Rattle.ped_bodies.specs.ped_store.specs.Stores.{Store, store_at_start}
use Rattle.ped_bodies.specs.ped_laws.specs.Acts.Sets.{written, wants}
use Rattle.ped_bodies.specs.ped_laws.specs.Runs.Showing.{shown_at_end}
use Rattle.ped_bodies.specs.ped_laws.specs.Runs.Replaying.{goes_on, finish_of}
use Rattle.ped_bodies.specs.ped_laws.specs.FlowRuns.Covering.{some_stops_in_loop}
use Rattle.ped_bodies.specs.ped_laws.specs.FlowRuns.Exits.{IsOneToOne, IsExit}
use Rattle.ped_bodies.specs.ped_laws.proofs.FlowRunLaws.Stopping.{fitting_stops}
use Rattle.ped_bodies.specs.ped_laws.proofs.FlowRunLaws.DeadExits.{unwanted_behind}
use Rattle.ped_bodies.specs.ped_eval.specs.Outcomes.{setting_of, run_of, Ends}
use Rattle.ped_bodies.specs.ped_eval.specs.Runs.{run}
use Rattle.ped_bodies.specs.ped_eval.specs.Scopes.{Setting, Scope, cell_of}
use Rattle.ped_bodies.specs.ped_steps.specs.Replacing.{alone}
use Rattle.ped_bodies.specs.ped_steps.specs.Runs.Exchanging.{is_of_scalar}
use Rattle.ped_bodies.specs.ped_steps.proofs.RunLaws.AccessTouches.{write_in}
use Rattle.ped_bodies.specs.ped_steps.proofs.RunLaws.ScalarNames.{shown_scalar}
use Rattle.ped_bodies.specs.ped_steps.proofs.RunLaws.LeftLoops.{execution_left}
use Rattle.ped_bodies.specs.Moving.{is_cell_among}
use Rattle.ped_loop_runs.specs.Executions.{IsCopyInside, IsExecuted, as_done}
use Rattle.ped_loop_runs.proofs.PastingLaws.LeftCopies.{IsOwn, run_reaches}
use Rattle.ped_loop_runs.proofs.LoopLaws.OneForOneNames.{variables_unnamed}
use Rattle.ped_loop_runs.proofs.LoopLaws.OneForOneCells.{among_of_scalar, cell_among}

module _ (t : ProgramTree) (valid : IsValid t) (l : ℕ) (loop : LoopOf t l) (contained : IsContained t l) (data_bytes : List ℕ) (ends : Ends (run_of t data_bytes).ending) (scope : Scope) (front behind : List Act) (s : Store)
    (executed : IsExecuted (setting_of t) t (store_at_start (lines data_bytes)) l (statements_count (alone (Do loop.head loop.body))) scope front (run (setting_of t) (Do loop.head loop.body) l scope s).acts behind s)
    (goes : finish_of (run (setting_of t) (Do loop.head loop.body) l scope s).ending ≡ goes_on)
    (unwanted_copy : (c : Cell) → IsCopyInside (setting_of t) scope l (statements_count (alone (Do loop.head loop.body))) c → wants (shown_at_end t) behind c ≡ true → ⊥) where
  abbrev p : Setting
  p = setting_of t

  abbrev start : Store
  start = store_at_start (lines data_bytes)

  abbrev shown : Cell → Bool
  shown = shown_at_end t

  abbrev variables : List (List ℕ)
  variables = loop_variables (Do loop.head loop.body)

  abbrev count : ℕ
  count = statements_count (alone (Do loop.head loop.body))

  one : IsOneToOne p.number
  one m n e = e

  unstopping : some_stops_in_loop t.body ≡ false
  unstopping = fitting_stops t valid.fits

  exit : IsExit p t start l scope behind
  exit = execution_left p t start l loop scope s ends executed.place (as_done executed) goes

  dead : (v : List ℕ) → is_among v variables ≡ true → wants shown behind (cell_of scope v) ≡ false
  dead v i = unwanted_behind p one t v (variables_unnamed t valid l loop v i) unstopping start l scope behind exit ((contained v (record { loop = loop; among = i })).1) shown (shown_scalar t v scope)

  pub unreached : (c : Cell) → is_cell_among (loop_variables (Do loop.head loop.body)) c ≡ true → wants (shown_at_end t) behind c ≡ true → IsOwn (setting_of t) scope c ⊎ IsCopyInside (setting_of t) scope l (statements_count (alone (Do loop.head loop.body))) c → ⊥
  unreached c i m (inl (inl own)) =
      let named : is_among own.0 variables ≡ true = sym (cell_among variables scope own.0) ∙ ap (is_cell_among variables) (sym own.1) ∙ i in
      both_ways (wants shown behind c) (ap (wants shown behind) own.1 ∙ dead own.0 named) m
  unreached c i m (inl (inr none)) = both_ways (is_of_scalar c) none (among_of_scalar variables c i)
  unreached c i m (inr copy) = unwanted_copy c copy m

  pub unwritten_there : (z : StmtTree) → statement_count z ≡ statement_count (Do loop.head loop.body) → (v : Store) (c : Cell) → is_cell_among (loop_variables (Do loop.head loop.body)) c ≡ true → wants (shown_at_end t) behind c ≡ true → written (run (setting_of t) z l scope v).acts c ≡ false
  unwritten_there z many v c i m = no_true (written (run p z l scope v).acts c) (λ k.
      let r = write_in (run p z l scope v).acts c k in
      unreached c i m (subst (λ (y : Cell). IsOwn p scope y ⊎ IsCopyInside p scope l count y) r.4 (widened r.2.cell (run_reaches p z l scope v r.0 r.1 r.2 r.3))))
    where
      no_true : (b : Bool) → (b ≡ true → ⊥) → b ≡ false
      no_true true h = absurd (h refl)
      no_true false h = refl

      widened : (y : Cell) → IsOwn p scope y ⊎ IsCopyInside p scope l (statement_count z) y → IsOwn p scope y ⊎ IsCopyInside p scope l count y
      widened y (inl own) = inl own
      widened y (inr k) = let high = k.to in inr (record { name = k.name; statement = k.statement; from = k.from; to = omega (arith, high, many); number = k.number; rest = k.rest; is = k.is })

-- Two loops whose bounds are plain, and the inner ones free of the outer variable, have the same pairs of iterations in each other's place, in each execution.
use Rattle.ped_base.specs.Lists.{is_among}
use Rattle.ped_rules.proofs.NestLaws.OnlyBodies.{pair}
use Rattle.ped_rules.proofs.NestLaws.SettledBounds.{ArePlaced, IsSettled, are_placed, fits, inner_fits, next}
use Rattle.ped_loops.proofs.SwappedBounds.{settled_trips}
use Rattle.ped_rules.proofs.NestLaws.WovenLoops.{HasSwappedTrips}
use Rattle.ped_rules.specs.OnlyLoops.{change_only, only_loop}
use Rattle.ped_rules.specs.ped_loop_runs.proofs.LoopLaws.OneOut.{plain_out}
use Rattle.ped_rules.specs.ped_loop_runs.specs.Executions.{IsExecuted}
use Rattle.ped_rules.specs.ped_steps.specs.Replacing.{alone}
use Rattle.ped_rules.specs.ped_flow.specs.PlainBounds.{IsPlain, nest_round}
use Rattle.ped_rules.specs.ped_flow.specs.Questions.{LoopOf}
use Rattle.ped_rules.specs.ped_laws.specs.Runs.Replaying.{finish_of, goes_on}
use Rattle.ped_rules.specs.ped_eval.specs.Outcomes.{setting_of}
use Rattle.ped_rules.specs.ped_eval.specs.Runs.{run}
use Rattle.ped_rules.specs.ped_eval.specs.Scopes.{Scope}
use Rattle.ped_rules.specs.ped_store.specs.Acts.{Act}
use Rattle.ped_rules.specs.ped_store.specs.Stores.{Store, store_at_start}
use Rattle.ped_rules.specs.ped_symbols.specs.NameRefusals.{IsValid}
use Rattle.ped_tree.specs.Grammar.Fits.{expr_fits}
use Rattle.ped_tree.specs.NamesIn.{expr_names}
use Rattle.ped_tree.specs.Nests.{indices_of}
use Rattle.ped_tree.specs.Numbering.{statements_count}
use Rattle.ped_tree.specs.Tree.{Do, ExprTree, Head, ProgramTree, StmtTrees}
use Rattle.std.proofs.Common.{List, Some, [], false, true, ℕ, ◌+◌, ◌≡◌}
use Rattle.std.specs.Str.Lines.{lines}

module _ (t : ProgramTree) (valid : IsValid t) (l : ℕ) (loop : LoopOf t l) (g h k : Head) (inside : StmtTrees) (only : only_loop loop.body ≡ Some (pair g inside))
    (first_is : h.first ≡ g.first) (last_is : h.last ≡ g.last) (step_is : h.step ≡ g.step) (variable : h.variable ≡ g.variable) (inner_first : k.first ≡ loop.head.first) (inner_last : k.last ≡ loop.head.last) (inner_step : k.step ≡ loop.head.step)
    (serial : loop.head.parallel ≡ false) (private : loop.head.private ≡ []) (new_serial : h.parallel ≡ false) (new_private : h.private ≡ [])
    (plain_first : IsPlain (setting_of t).constants t l loop.head.first) (plain_last : IsPlain (setting_of t).constants t l loop.head.last) (plain_inner_first : IsPlain (setting_of t).constants t (l + 1) g.first) (plain_inner_last : IsPlain (setting_of t).constants t (l + 1) g.last)
    (free_first : is_among loop.head.variable (expr_names g.first) ≡ false) (free_last : is_among loop.head.variable (expr_names g.last) ≡ false)
    (apart : is_among loop.head.variable (indices_of (nest_round t l)) ≡ false) (inner_apart : is_among g.variable (indices_of (nest_round t l)) ≡ false)
    (data_bytes : List ℕ) (scope : Scope) (front behind : List Act) (s : Store)
    (executed : IsExecuted (setting_of t) t (store_at_start (lines data_bytes)) l (statements_count (alone (Do loop.head loop.body))) scope front (run (setting_of t) (Do loop.head loop.body) l scope s).acts behind s)
    (goes : finish_of (run (setting_of t) (Do loop.head loop.body) l scope s).ending ≡ goes_on) where
  abbrev placed : ArePlaced t l loop g inside only scope s goes
  placed = are_placed t valid l loop g inside only serial private apart inner_apart data_bytes scope front behind s executed goes

  settled : (e : ExprTree) → IsPlain (setting_of t).constants t l e → expr_fits e ≡ true → IsSettled t l placed.told placed.first e
  settled = placed.settled

  inner_settled : (e : ExprTree) → IsPlain (setting_of t).constants t (l + 1) e → is_among loop.head.variable (expr_names e) ≡ false → expr_fits e ≡ true → IsSettled t l placed.told placed.first e
  inner_settled e plain free fit = settled e (plain_out (setting_of t).constants t l loop (l + 1) (next t valid l loop g inside only serial private apart inner_apart) e plain free) fit

  old_fits : (expr_fits loop.head.first ≡ true) × (expr_fits loop.head.last ≡ true)
  old_fits = fits t valid l loop g inside only serial private apart inner_apart

  old_inner_fits : (expr_fits g.first ≡ true) × (expr_fits g.last ≡ true)
  old_inner_fits = inner_fits t valid l loop g inside only serial private apart inner_apart

  pub free_trips : HasSwappedTrips t l loop.head g h k loop.body inside only scope s goes
  free_trips =
      settled_trips t l loop.head g h k loop.body inside only scope s goes first_is last_is step_is inner_first inner_last inner_step placed.told placed.first (inner_settled g.first plain_inner_first free_first old_inner_fits.0) (inner_settled g.last plain_inner_last free_last old_inner_fits.1)
      (settled loop.head.first plain_first old_fits.0) (settled loop.head.last plain_last old_fits.1) placed.here placed.old_place (placed.new_place h (change_only (λ f z. Do k z) loop.body) variable new_serial new_private) placed.during placed.rows_during

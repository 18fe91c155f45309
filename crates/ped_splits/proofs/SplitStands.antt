-- What the DO loops into which a DO is taken apart do in each execution stands for what that one did.
use Rattle.std.proofs.Common.{◌≡◌, ℕ, List, ◌++◌, Bool, refl, sym, ap, subst}
use Rattle.std.specs.Str.Lines.{lines}
use Rattle.ped_tree.specs.Tree.{Do, ProgramTree}
use Rattle.ped_tree.specs.NamesIn.{loop_variables}
use Rattle.ped_tree.specs.Numbering.{statements_count}
use Rattle.ped_rules.specs.ped_loop_runs.specs.Executions.{IsExecuted}
use Rattle.ped_rules.specs.ped_loop_runs.specs.Numbers.{counted_by}
use Rattle.ped_rules.specs.ped_loop_runs.specs.TrueRejections.{IsTrueOn}
use Rattle.ped_rules.specs.ped_steps.specs.Replacing.{alone}
use Rattle.ped_rules.specs.ped_steps.specs.Runs.Renumbering.{renumbered}
use Rattle.ped_rules.specs.ped_flow.specs.Questions.{LoopOf}
use Rattle.ped_rules.specs.ped_laws.proofs.ConflictLaws.CoveringRuns.{MakingLaw, SequenceLaw}
use Rattle.ped_rules.specs.ped_laws.specs.Acts.Fitting.{store_after}
use Rattle.ped_rules.specs.ped_laws.specs.Acts.Pieces.{StandsFor}
use Rattle.ped_rules.specs.ped_laws.specs.Runs.Replaying.{Replays, ending_with, finish_of, goes_on}
use Rattle.ped_rules.specs.ped_laws.specs.Runs.Showing.{shown_at_end}
use Rattle.ped_rules.specs.ped_eval.specs.Outcomes.{Ends, run_of, setting_of}
use Rattle.ped_rules.specs.ped_eval.specs.Runs.{Run, run, run_all}
use Rattle.ped_rules.specs.ped_eval.specs.Scopes.{Scope, Setting}
use Rattle.ped_rules.specs.ped_store.specs.Acts.{Act}
use Rattle.ped_rules.specs.ped_store.specs.Cells.{Cell}
use Rattle.ped_rules.specs.ped_store.specs.Stores.{Store, store_at_start}
use Rattle.ped_rules.specs.ped_weaves.specs.Apart.{agreed}
use Rattle.ped_rules.proofs.NestLaws.WovenStands.{stands_apart}
use Rattle.ped_splits.proofs.SplitFacts.{IsSplit}
use Rattle.ped_splits.proofs.SplitNumbers.{split_numbers}
use Rattle.ped_splits.proofs.SplitRuns as runs
use Rattle.ped_splits.proofs.SplitWoven.{stands_made}
use Rattle.ped_splits.specs.Distributing.{loops_of}

module _ (making : MakingLaw) (sequence : SequenceLaw) (t : ProgramTree) (s : ℕ) (l : LoopOf t s) (found : List (List ℕ)) (x : IsSplit t s l found) (data_bytes : List ℕ) (holds : IsTrueOn t data_bytes) (ends : Ends (run_of t data_bytes).ending)
    (scope : Scope) (front behind : List Act) (v : Store) (executed : IsExecuted (setting_of t) t (store_at_start (lines data_bytes)) s (statements_count (alone (Do l.head l.body))) scope front (run (setting_of t) (Do l.head l.body) s scope v).acts behind v)
    (goes : finish_of (run (setting_of t) (Do l.head l.body) s scope v).ending ≡ goes_on) where
  abbrev p : Setting
  p = setting_of t

  abbrev q : Setting
  q = renumbered (counted_by (split_numbers t s l.body found)) (setting_of t)

  abbrev old_acts : List Act
  old_acts = (run (setting_of t) (Do l.head l.body) s scope v).acts

  abbrev new_acts : List Act
  new_acts = (run_all (renumbered (counted_by (split_numbers t s l.body found)) (setting_of t)) (loops_of found l.head l.body) s scope v).acts

  -- what the new DO loops do, where they are done from a store that it fits
  abbrev made : List Act
  made = runs.split_acts t s l found x scope v goes s found

  replays : Replays (run_all q (loops_of found l.head l.body) s scope) made goes_on
  replays = runs.split_replays t s l found x scope v goes

  abbrev before : Cell → Bool
  before = agreed (stands_apart (loop_variables (Do l.head l.body))) (shown_at_end t) (old_acts ++ behind)

  abbrev wanted : Cell → Bool
  wanted = agreed (stands_apart (loop_variables (Do l.head l.body))) (shown_at_end t) behind

  stood : StandsFor (record { agreed = before; old = old_acts; new = made }) wanted v
  stood = stands_made making sequence t s l found x data_bytes holds ends scope front behind v executed goes

  -- so the new DO loops do it
  made_here : run_all q (loops_of found l.head l.body) s scope v ≡ record { acts = made; ending = ending_with goes_on (store_after made v) }
  made_here = replays v (stood v (λ c k. refl)).0

  pub made_is : (run_all (renumbered (counted_by (split_numbers t s l.body found)) (setting_of t)) (loops_of found l.head l.body) s scope v).acts ≡ runs.split_acts t s l found x scope v goes s found
  made_is = ap (λ (r : Run). r.acts) made_here

  pub does_split : Replays (run_all q (loops_of found l.head l.body) s scope) new_acts goes_on
  does_split = subst (λ (acts : List Act). Replays (run_all q (loops_of found l.head l.body) s scope) acts goes_on) (sym made_is) replays

  pub stands_split : StandsFor (record { agreed = agreed (stands_apart (loop_variables (Do l.head l.body))) (shown_at_end t) (old_acts ++ behind); old = old_acts; new = new_acts }) (agreed (stands_apart (loop_variables (Do l.head l.body))) (shown_at_end t) behind) v
  stands_split = subst (λ (acts : List Act). StandsFor (record { agreed = before; old = old_acts; new = acts }) wanted v) (sym made_is) stood

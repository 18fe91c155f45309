-- What a watch has seen behind a run, and the report that it gives.
use Rattle.std.proofs.Common.{◌≡◌, ℕ, List, [], ◌∷◌, ◌++◌, Option, Some, None, refl, sym, subst, append_assoc}
use Rattle.std.proofs.lemmas.List.{append-nil}
use Rattle.ped_tree.specs.Tree.{ProgramTree}
use Rattle.ped_store.specs.Races.{Access, accesses, HasNoRace}
use Rattle.ped_laws.specs.ped_eval.specs.Follow.{Follow}
use Rattle.ped_laws.specs.ped_eval.specs.Runs.{Ending, going, stopped, failed}
use Rattle.ped_laws.specs.ped_eval.specs.Outcomes.{Outcome, run_of, outcome_of, Ends}
use Rattle.ped_order.specs.declared.tables.Table.{Table}
use Rattle.ped_order.specs.declared.watches.FoundRace.{FoundRace}
use Rattle.ped_order.specs.declared.watches.RaceWatch.{RaceWatch}
use Rattle.ped_order.specs.Reports.{IsReport}
use Rattle.ped_order.specs.ReportViews.{report_of}
use Rattle.ped_order.specs.Saw.{Saw, SawWith, SeesMore}

-- a watch that has been told a list has seen it
pub seen_all : (w v : RaceWatch) (seen more : List Access) → Follow SeesMore w more v → Saw w seen → Saw v (seen ++ more)
seen_all w v seen [] f h = subst (λ u. Saw u (seen ++ [])) (sym f) (subst (Saw w) (sym (append-nil seen)) h)
seen_all w v seen (a ∷ more) f h = subst (Saw v) (append_assoc seen (a ∷ []) more) (seen_all f.0 v (seen ++ a ∷ []) more f.2 (f.1 seen h))

abbrev IsReportBy : ProgramTree → List ℕ → Option FoundRace → Outcome → Type 0
IsReportBy t data_bytes found o = IsReport t data_bytes (report_of found o)

without_race : (t : ProgramTree) (data_bytes : List ℕ) (table : Table) (e : Ending) → (run_of t data_bytes).ending ≡ e → HasNoRace (accesses (run_of t data_bytes).acts) → IsReportBy t data_bytes None (outcome_of t e)
without_race t data_bytes table (going s) e h = (subst Ends (sym e) tt, h)
without_race t data_bytes table (stopped s) e h = (subst Ends (sym e) tt, h)
without_race t data_bytes table (failed n s) e h = (e, h)

-- the report by what a watch has found and by the outcome is that of the program
pub reported : (t : ProgramTree) (data_bytes : List ℕ) (found : Option FoundRace) (table : Table) → SawWith found table (accesses (run_of t data_bytes).acts) → IsReportBy t data_bytes found (outcome_of t (run_of t data_bytes).ending)
reported t data_bytes None table h = without_race t data_bytes table (run_of t data_bytes).ending refl h.0
reported t data_bytes (Some r) table h = h

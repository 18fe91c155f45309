-- What is done on renamed cells is done again from each store that it fits.
use Rattle.std.proofs.Common.{◌≡◌, ℕ, refl, ap, subst, ◌∙◌}
use Rattle.ped_tree.specs.Tree.{StmtTrees}
use Rattle.ped_weaves.specs.ped_store.specs.Cells.{Cell}
use Rattle.ped_weaves.specs.ped_store.specs.Stores.{Store}
use Rattle.ped_weaves.specs.ped_eval.specs.Scopes.{Setting, Scope}
use Rattle.ped_weaves.specs.ped_eval.specs.Runs.{Ending, going, stopped, failed, Run, run_all}
use Rattle.ped_weaves.specs.ped_laws.specs.Runs.Replaying.{Finish, finish_of, Replays}
use Rattle.ped_weaves.specs.ped_laws.proofs.RunLaws.StatementsTold.{all_told}
use Rattle.ped_steps.specs.Runs.Exchanging.{IsExchange, AreExchanged, exchanged_store, exchanged_acts, exchanged_ending, exchanged_run}
use Rattle.ped_steps.proofs.RunLaws.ExchangedRuns.{all_in}

pub same_finish : (name : Cell → Cell) (e : Ending) → finish_of (exchanged_ending name e) ≡ finish_of e
same_finish name (going s) = refl
same_finish name (stopped s) = refl
same_finish name (failed fault statement) = refl

-- statements in an exchanged place replay on renamed cells what they do in the old place
pub replays_in : (name : Cell → Cell) (p : Setting) (ts : StmtTrees) (n : ℕ) (scope other : Scope) → IsExchange name → AreExchanged name scope other → (s : Store)
    → Replays (run_all p ts n other) (exchanged_acts name (run_all p ts n scope s).acts) (finish_of (run_all p ts n scope s).ending)
replays_in name p ts n scope other ex same s =
    let there : run_all p ts n other (exchanged_store name s) ≡ exchanged_run name (run_all p ts n scope s) =
    all_in name ex p ts n scope other same (exchanged_store name s) ∙ ap (λ (u : Store). exchanged_run name (run_all p ts n scope u)) (λ i c. s (ex.twice c i)) in
    subst (λ (finish : Finish). Replays (run_all p ts n other) (exchanged_acts name (run_all p ts n scope s).acts) finish) (same_finish name (run_all p ts n scope s).ending)
    (subst (λ (r : Run). Replays (run_all p ts n other) r.acts (finish_of r.ending)) there ((all_told p ts n other).replays (exchanged_store name s)))

-- Scalars that are the variables of no DO hold small numbers wherever a run has come to.
use Rattle.std.proofs.Common.{◌≡◌, ℕ, List, ◌++◌, true, false, sym, ap, subst, ◌∙◌}
use Rattle.ped_base.specs.Lists.{is_among}
use Rattle.ped_tree.specs.NamesIn.{all_loop_variables}
use Rattle.ped_tree.specs.Tree.{StmtTrees}
use Rattle.ped_rules.specs.ped_store.specs.Cells.{Scalar}
use Rattle.ped_rules.specs.ped_store.specs.Stores.{Store}
use Rattle.ped_rules.specs.ped_store.specs.Acts.{Act}
use Rattle.ped_rules.specs.ped_laws.specs.Acts.Fitting.{store_after, touches_of}
use Rattle.ped_rules.specs.ped_laws.specs.Acts.Orders.{IsIn}
use Rattle.ped_rules.specs.ped_laws.specs.Plain.Executions.{is_small, WriteSmall}
use Rattle.ped_rules.specs.ped_laws.proofs.ActLaws.Reorderings.{touches_append}
use Rattle.ped_rules.specs.ped_laws.proofs.ActLaws.SameCells.{text_itself}
use Rattle.ped_rules.specs.ped_laws.proofs.PlainLaws.SmallWrites.{small_front, run_all_small, small_after}
use Rattle.ped_rules.specs.ped_eval.specs.Scopes.{Setting, Scope}
use Rattle.ped_rules.specs.ped_eval.specs.Runs.{run_all}
use Rattle.ped_reduce.specs.Lowering.{Partials}
use Rattle.ped_reduce.proofs.SplitSums.{storable_32}
use Rattle.ped_reduce.proofs.SumStores.{AreSmall}

-- where the scalars are the variables of no DO, they hold small numbers wherever a run has come to
pub small_there : (ps : List Partials) (p : Setting) (ts : StmtTrees) (n : ℕ) (scope : Scope) (start : Store) (front rest : List Act) → ((o : Partials) → IsIn o ps → is_among o.scalar (all_loop_variables ts) ≡ false) → (run_all p ts n scope start).acts ≡ front ++ rest
    → ((o : Partials) → IsIn o ps → is_small (start (Scalar o.scalar)) ≡ true) → AreSmall ps (store_after front start)
small_there ps p ts n scope start front rest no_loop whole begins o i x held =
    let c = Scalar o.scalar in
    let all = run_all_small p o.scalar c (text_itself o.scalar) ts n scope start (no_loop o i) in
    let parted = subst (WriteSmall c) (ap touches_of whole ∙ touches_append front rest) all in
    let small = small_after c front start (small_front c (touches_of front) (touches_of rest) parted) (begins o i) in
    storable_32 x (ap is_small (sym held) ∙ small)

-- What a step owes on data, where it keeps the meaning whatever C$PED REJECT lines there are.
use Rattle.std.proofs.Common.{ℕ, List}
use Rattle.ped_tree.specs.Tree.{ProgramTree}
use Rattle.ped_loop_runs.specs.ped_steps.specs.Runs.Meaning.{Keeps}
use Rattle.ped_loop_runs.specs.ped_steps.specs.Tidy.{IsTidy}
use Rattle.ped_rules.specs.Lawful.{OwesOn}
use Rattle.ped_rules.specs.Steps.{StepAt}

-- what it keeps on all data by tidiness alone it keeps on these
pub owes_by_tidiness : (at : StepAt) (t new : ProgramTree) (data_bytes : List ℕ) → (IsTidy t → Keeps t new) → OwesOn at t new data_bytes
owes_by_tidiness at t new data_bytes keeps kind tidy new_tidy true_on true_for free = let kept = keeps tidy in record { same = kept.same data_bytes free; race_free = kept.race_free data_bytes free }

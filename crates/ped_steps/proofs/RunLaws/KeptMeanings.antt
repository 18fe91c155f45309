-- Keeping the meaning goes from step to step.
use Rattle.std.proofs.Common.{refl, ◌∙◌}
use Rattle.ped_tree.specs.Tree.{ProgramTree}
use Rattle.ped_steps.specs.Runs.Meaning.{Keeps}

pub keeps_itself : (t : ProgramTree) → Keeps t t
keeps_itself t = record { saved = refl; same = λ data_bytes free. refl; race_free = λ data_bytes free. free }

pub keeps_further : (t u v : ProgramTree) → Keeps t u → Keeps u v → Keeps t v
keeps_further t u v h k = record {
  saved = k.saved ∙ h.saved;
  same = λ data_bytes free. k.same data_bytes (h.race_free data_bytes free) ∙ h.same data_bytes free;
  race_free = λ data_bytes free. k.race_free data_bytes (h.race_free data_bytes free);
}

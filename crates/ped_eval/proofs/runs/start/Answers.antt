use Rattle.std.proofs.Common.{ap, ◌∙◌}
use Rattle.std.specs.Str.Lines.{lines}
use Rattle.ped_store.specs.Memories.{memory_at_start}
use Rattle.ped_eval.proofs.runs.start.Goals as goal

pub returns-clause-memory : goal.returns-clause-memory
returns-clause-memory c = c.in_ok-new.ensures ∙ ap (λ shapes. memory_at_start shapes (lines c.args.input.now)) (c.deref.ensures.value ∙ c.in_ok-shapes.ensures)

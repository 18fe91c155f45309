-- A look at a task that is kept.
use Rattle.std.proofs.Common.{sym, ap, ◌∙◌}
use Rattle.std.specs.Option.{option_copied_mut}
use Rattle.std.specs.Prelude.{is_some}
use Rattle.slab.proofs.SlabLemmas.{Updates-with_value}
use Rattle.ped_machine.proofs.opens.Open.is_task_over.Goals as goal

pub returns-in-Some-clause-over : goal.returns-in-Some-clause-over
returns-in-Some-clause-over g c =
    let was = sym c.get_mut.ensures.value ∙ ap option_copied_mut c.in-Some.is in
    record {
      task = c.in-Some.task.now;
      behind = c.is_over.new.self;
      was = was;
      tasks = Updates-with_value c.args.self.now.tasks c.args.key c.is_over.new.self (ap is_some was);
      same = c.is_over.ensures.left;
      inside = c.is_over.ensures.inside;
      tells = c.is_over.ensures.over;
      safe = c.is_over.ensures.sound;
    }

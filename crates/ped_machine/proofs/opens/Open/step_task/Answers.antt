-- A step of a task that is kept.
use Rattle.std.proofs.Common.{◌≡◌, refl, sym, ap, subst, ◌∙◌}
use Rattle.std.specs.Option.{option_copied_mut}
use Rattle.std.specs.Prelude.{is_some}
use Rattle.slab.proofs.SlabLemmas.{Updates-with_value}
use Rattle.ped_store.specs.Keeping.{memory_of}
use Rattle.ped_machine.proofs.Stepped.{some_is}
use Rattle.ped_machine.proofs.opens.Open.step_task.Goals as goal

pub step-requires : goal.step-requires
step-requires g c κs =
    let r = c.requires.running.1 in
    let is : c.in-Some.task.now ≡ r.task = some_is _ _ (sym (ap option_copied_mut c.in-Some.is) ∙ c.get_mut.ensures.value ∙ r.kept) in
    ((refl, tt), (c.requires.ready, subst (λ w. g.C.Work.sound w c.args.symbols.now (memory_of c.args.state.now.store).stands) (sym is) r.safe))

pub returns-in-Some-clause-stepped : goal.returns-in-Some-clause-stepped
returns-in-Some-clause-stepped g c =
    let was = sym c.get_mut.ensures.value ∙ ap option_copied_mut c.in-Some.is in
    record {
      task = c.in-Some.task.now;
      behind = c.step.new.self;
      was = was;
      tasks = Updates-with_value c.args.self.now.tasks c.args.key c.step.new.self (ap is_some was);
      does = c.step.ensures.does;
      kept = c.step.ensures.kept;
      inside = c.step.ensures.inside;
      safe = c.step.ensures.sound;
    }

-- A running iteration forgets copies inside of it.
use Rattle.std.proofs.Common.{◌≡◌, refl, sym, ap, subst, ◌∙◌}
use Rattle.std.specs.Option.{option_copied_mut}
use Rattle.std.specs.Prelude.{is_some}
use Rattle.slab.proofs.SlabLemmas.{Updates-with_value}
use Rattle.ped_store.specs.Keeping.{memory_of}
use Rattle.ped_machine.proofs.Stepped.{some_is}
use Rattle.ped_machine.proofs.opens.Open.forget_inside.Goals as goal

pub forget-requires : goal.forget-requires
forget-requires g c κs =
    let s = c.requires.running in
    let r = s.2 in
    let is : c.in-Some.task.now ≡ r.task = some_is _ _ (sym (ap option_copied_mut c.in-Some.is) ∙ c.get_mut.ensures.value ∙ r.kept) in
    ((refl, tt), (s.0, subst (λ w. g.C.Work.sound w s.0 (memory_of c.args.store.now).stands) (sym is) r.safe))

pub returns-in-Some-clause-forgotten : goal.returns-in-Some-clause-forgotten
returns-in-Some-clause-forgotten g c =
    let was = sym c.get_mut.ensures.value ∙ ap option_copied_mut c.in-Some.is in
    record {
      task = c.in-Some.task.now;
      behind = c.forget.new.self;
      was = was;
      tasks = Updates-with_value c.args.self.now.tasks c.args.key c.forget.new.self (ap is_some was);
      same = c.forget.ensures.left;
      inside = c.forget.ensures.inside;
      cells = c.forget.ensures.cells;
      others = c.forget.ensures.others;
      kept = c.forget.ensures.kept;
      safe = c.forget.ensures.sound;
    }

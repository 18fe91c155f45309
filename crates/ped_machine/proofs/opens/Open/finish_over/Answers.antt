-- A task of which nothing is left is dropped.
use Rattle.std.proofs.Common.{◌≡◌, Bool, true, false, Some, refl, sym, ap, subst, ◌∙◌}
use Rattle.std.specs.List.{list_all}
use Rattle.ped_store.specs.Keeping.{memory_of}
use Rattle.ped_interleavings.specs.ped_eval.specs.Scopes.{Scope}
use Rattle.ped_machine.specs.Bases.{is_own, HasKept}
use Rattle.ped_machine.proofs.Dropping.{nothing_kept}
use Rattle.ped_machine.specs.Stepping.{IsSettledBy}
use Rattle.ped_machine.proofs.Stepped.{behind_step, same_mark}
use Rattle.ped_machine.proofs.opens.Open.finish_over.Goals as goal

over_too : (b : Bool) → true ≡ b → b ≡ false → ⊥
over_too b h f = let w : true ≡ false = h ∙ f in cc

pub returns-then-is_task_over-clause-settled : goal.returns-then-is_task_over-clause-settled
returns-then-is_task_over-clause-settled g c =
    let l = c.is_task_over.ensures.over in
    let m = memory_of c.args.state.now.store in
    let after = memory_of c.drop_task.new.state.store in
    record {
      task = l.task;
      behind = l.behind;
      was = l.was;
      same = l.same;
      safe = l.safe;
      inside = l.inside;
      cells = c.drop_task.ensures.cells;
      kept = λ h.
          subst (λ (z : Scope). HasKept z m after) l.inside
          (c.drop_task.ensures.kept l.behind l.tasks.changed
          (ap (list_all (is_own (g.C.Work.base l.behind))) (λ i. (c.is_task_over.ensures.same.0.plan i).copied) ∙ ap (λ (z : Scope). list_all (is_own z) c.args.self.now.plan.copied) l.inside ∙ h));
      unchanged = λ f. absurd (over_too _ (sym c.if-is_task_over.true ∙ l.tells) f);
      settled =
          subst (λ (b : Bool). IsSettledBy g.C.Work.left g.C.Work.base g.C.Work.sound b l.task l.behind c.args.place c.args.key c.args.self.now c.drop_task.new.self) (sym c.if-is_task_over.true ∙ l.tells)
          (behind_step _ _ c.args.place c.args.key c.args.self.now c.is_task_over.new.self c.drop_task.new.self (Some l.behind) c.is_task_over.ensures.same.0 c.is_task_over.ensures.same.1 l.tasks c.drop_task.ensures.marked);
    }

pub returns-clause-settled : goal.returns-clause-settled
returns-clause-settled g c =
    let l = c.is_task_over.ensures.over in
    record {
      task = l.task;
      behind = l.behind;
      was = l.was;
      same = l.same;
      safe = l.safe;
      inside = l.inside;
      cells = refl;
      kept = λ h. nothing_kept _ (memory_of c.args.state.now.store);
      unchanged = λ f. refl;
      settled =
          subst (λ (b : Bool). IsSettledBy g.C.Work.left g.C.Work.base g.C.Work.sound b l.task l.behind c.args.place c.args.key c.args.self.now c.is_task_over.new.self) (sym c.if-is_task_over.false ∙ l.tells)
          (same_mark l.behind c.args.place c.args.key c.args.self.now c.is_task_over.new.self c.is_task_over.ensures.same.0 c.is_task_over.ensures.same.1 l.tasks c.requires.running);
    }

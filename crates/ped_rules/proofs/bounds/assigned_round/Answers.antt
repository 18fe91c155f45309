use Rattle.std.proofs.Common.{[], Option, sym, ap, ◌∙◌}
use Rattle.std.proofs.lemmas.Result.{IfOk-weaker}
use Rattle.ped_tree.specs.Names.Collecting.{with_names}
use Rattle.ped_tree.specs.Tree.{StmtTree}
use Rattle.ped_loop_runs.specs.ped_flow.specs.PlainBounds.{assigned_by}
use Rattle.ped_rules.proofs.bounds.assigned_round.Goals as goal

pub returns-in-Some : goal.returns-in-Some
returns-in-Some c = IfOk-weaker c.assigned.result _ _ (λ names h. h ∙ ap (λ (o : Option StmtTree). with_names [] (assigned_by o)) (sym c.in-Some.ensures)) c.assigned.ensures

pub returns-in-None : goal.returns-in-None
returns-in-None c = absurd (c.in-None.ensures c.requires.head c.requires.body c.requires.is)

use Rattle.std.proofs.Common.{◌∙◌, ap, List, map, Bool, false}
use Rattle.std.proofs.lemmas.Result.{IfOk-weaker}
use Rattle.ped_tree.specs.Views.{stmt_trees}
use Rattle.ped_tree.specs.declared.statements.Stmt.{Stmt}
use Rattle.ped_refs.specs.Occurrences.{reference_of}
use Rattle.ped_refs.specs.declared.occurring.Occurrence.{Occurrence}
use Rattle.ped_graph.specs.Guards.{all_guards_in}
use Rattle.ped_graph.specs.KnownProgram.{own_of}
use Rattle.ped_graph.proofs.own_facts.all_own_facts.Goals as goal

pub returns : goal.returns
returns c =
    let guards = c.deref-2.ensures.value ∙ c.in_ok-guards.ensures ∙ ap (λ (body : List Stmt). all_guards_in false (stmt_trees body)) c.deref.ensures.value in
    IfOk-weaker c.own_facts_of_all.result _ _ (λ own is. is ∙ ap (λ (gs : List Bool). map (λ (o : Occurrence). own_of c.args.consts.now gs (reference_of o)) c.args.found.now) guards) c.own_facts_of_all.ensures

use Rattle.std.proofs.Common.{◌∙◌, sym, subst, ℕ, Option}
use Rattle.ped_tree.specs.Views.{program_tree}
use Rattle.ped_graph.specs.Dependences.{view_of}
use Rattle.ped_graph.specs.Held.{pair_by}
use Rattle.ped_update.specs.Matching.{IsPlace}
use Rattle.ped_update.proofs.OneMore.{same_place}
use Rattle.ped_update.proofs.matching.told_origin.Goals as goal

pub returns-then-is_told : goal.returns-then-is_told
returns-then-is_told g c = λ keep f p once table at key.
    let G = c.args.former.now.graph.now in
    let view = view_of (program_tree c.args.changed.now.known.program.now) p.0 p.1 in
    let place = subst (λ (o : Option ℕ). IsPlace G keep (pair_by f view) o) c.in-Some.is (c.former_place_of.ensures.place keep f view once table key) in
    same_place G keep (pair_by f view) c.in-Some.here c.verdict.result.now place c.verdict.ensures (sym c.view.ensures ∙ c.is_told.ensures c.if-is_told.true p at)

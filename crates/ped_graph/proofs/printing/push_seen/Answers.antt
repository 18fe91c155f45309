use Rattle.std.proofs.Common.{◌≡◌, List, [], ◌++◌, map, length, refl, sym, ap, subst, ◌∙◌}
use Rattle.std.proofs.lemmas.List.{append-nil}
use Rattle.std.proofs.lemmas.Result.{IfOk-weaker}
use Rattle.ped_views.specs.declared.directions.Direction.{Direction}
use Rattle.ped_edges.specs.Edges.{Edge}
use Rattle.ped_graph.specs.HeldPairs.{rows_of}
use Rattle.ped_graph.specs.Held.{held_divided, held_edges}
use Rattle.ped_graph.specs.CodeFacts.{pair_seen}
use Rattle.ped_graph.specs.Levels.{AreByLevel, edge_by}
use Rattle.ped_graph.specs.declared.levels.LevelVectors.{LevelVectors}
use Rattle.ped_graph.proofs.Slices.{length_mapped}
use Rattle.ped_graph.proofs.printing.push_seen.Goals as goal

pub levels_of-levels-requires-clause-ordered : goal.levels_of-levels-requires-clause-ordered
levels_of-levels-requires-clause-ordered c =
    subst (λ (vs : List (List Direction)). AreByLevel c.args.loops vs) (sym c.deref-2.ensures.value) (c.shared_vectors-shared.ensures.ordered c.args.loops c.requires.ordered)

pub returns-then-not-has_levels : goal.returns-then-not-has_levels
returns-then-not-has_levels c =
    let p = pair_seen c.args.pair.now in
    let order = subst (λ (vs : List (List Direction)). AreByLevel c.args.loops vs) (sym c.deref.ensures.value) (c.shared_vectors-shared.ensures.ordered c.args.loops c.requires.ordered) in
    let none : held_edges p c.args.vectors.items ≡ [] =
    sym (ap (λ (vs : List (List Direction)). held_divided p vs) c.deref.ensures.value ∙ c.shared_vectors-shared.ensures.edges p refl)
    ∙ c.has_levels.ensures c.if-not-has_levels.true c.args.loops order p refl in (
      sym (ap (λ (es : List Edge). c.args.rows.now ++ rows_of es) none ∙ append-nil c.args.rows.now),
      sym (ap (λ (es : List Edge). length es) none),
    )

pub returns : goal.returns
returns c =
    let p = pair_seen c.args.pair.now in
    let levels = c.deref-3.result.now in
    let all =
    ap (λ (ls : List LevelVectors). map (edge_by p) ls) c.deref-3.ensures.0
    ∙ c.levels_of-levels.ensures p refl (sym c.requires.loops)
    ∙ ap (λ (vs : List (List Direction)). held_divided p vs) c.deref-2.ensures.value
    ∙ c.shared_vectors-shared.ensures.edges p refl in
    IfOk-weaker c.push_levels.result _ _
    (λ added h. (h.0 ∙ ap (λ (es : List Edge). c.args.rows.now ++ rows_of es) all, h.1 ∙ sym (length_mapped (edge_by p) levels) ∙ ap (λ (es : List Edge). length es) all)) c.push_levels.ensures

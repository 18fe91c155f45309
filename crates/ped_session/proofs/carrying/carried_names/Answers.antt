use Rattle.std.proofs.Common.{◌∙◌, List, [], map, ap}
use Rattle.std.proofs.lemmas.Result.{IfOk-weaker}
use Rattle.ped_refs.specs.Occurrences.{name_text}
use Rattle.ped_tree.specs.Names.Collecting.{with_names}
use Rattle.ped_edges.specs.Edges.{Edge}
use Rattle.ped_edges.specs.CodeEdges.{edge_of}
use Rattle.ped_edges.specs.declared.edges.Edge.{Edge as CodeEdge}
use Rattle.ped_transformations.specs.ped_auto.specs.CarriedNames.{files_last}
use Rattle.ped_session.proofs.CarriedTexts.{names_of_edges}
use Rattle.ped_session.proofs.carrying.carried_names.Goals as goal

pub returns : goal.returns
returns g c =
    let those = c.in_ok-edges.ensures in
    IfOk-weaker c.files_last.result _ _
    (λ names h. (
      those.all,
      those.are,
      h ∙ ap files_last (
          ap (map name_text) c.deref-2.ensures.value
          ∙ c.in_ok-names.ensures
          ∙ ap (λ (es : List CodeEdge). with_names [] (map (λ e. (edge_of e).name) es)) c.deref.ensures.value
          ∙ ap (with_names []) (names_of_edges c.in_ok-edges.edges.items ∙ ap (map (λ (e : Edge). e.name)) those.those)
          ),
    )) c.files_last.ensures

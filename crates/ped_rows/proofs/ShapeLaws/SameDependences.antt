-- Programs of the same statements, with the same named constants and values, have the same dependences.
use Rattle.std.proofs.Common.{◌≡◌, ℕ, ◌-◌, List, [], ◌∷◌, None, false, sym, ap, subst, ◌∙◌, if◌then◌else◌}
use Rattle.std.specs.Prelude.{◌==◌}
use Rattle.ped_laws.specs.ped_graph.specs.ped_views.specs.Views.{View}
use Rattle.ped_laws.specs.ped_graph.specs.ped_views.specs.Vectors.{AreVectors}
use Rattle.ped_laws.specs.ped_flow.specs.ped_tree.specs.Tree.{ProgramTree}
use Rattle.ped_laws.specs.ped_flow.specs.ped_tree.specs.Numbering.{all_numbered, at_place}
use Rattle.ped_laws.specs.ped_flow.specs.ped_tree.specs.Accesses.{constant_names}
use Rattle.ped_laws.specs.ped_flow.specs.ped_tree.specs.Names.Collecting.{with_names}
use Rattle.ped_laws.specs.ped_flow.specs.ped_tree.specs.NamesIn.{all_loop_variables}
use Rattle.ped_laws.specs.ped_flow.specs.ped_affine.specs.Ranges.{Setting}
use Rattle.ped_laws.specs.ped_flow.specs.ped_affine.specs.PairViews.{view_at}
use Rattle.ped_laws.specs.ped_graph.specs.ped_symbols.specs.Kinds.{at_last}
use Rattle.ped_laws.specs.ped_graph.specs.ped_refs.specs.References.{Reference, references, statements_references, outermost, pairs}
use Rattle.ped_laws.specs.ped_graph.specs.ped_edges.specs.Edges.{Edge}
use Rattle.ped_laws.specs.ped_graph.specs.Guards.{all_guards_in}
use Rattle.ped_laws.specs.ped_graph.specs.Dependences.{assigned_by, facts_of, setting_in, site_of, view_of, edges_by, PairEdges, EdgesOfPairs, AreEdges}
use Rattle.ped_rows.specs.Shapes.{HaveSameShapes}
use Rattle.ped_rows.proofs.ShapeLaws.NamedValues.{names_alike, values_alike}

module _ (t u : ProgramTree) (names : constant_names t.decls ≡ constant_names u.decls) (values : (at_last t).values ≡ (at_last u).values) (body : t.body ≡ u.body) where
  settings : (n : ℕ) → setting_in t n ≡ setting_in u n
  settings n i = record {
    constants = values i;
    loop_variables = with_names [] (all_loop_variables (body i));
    assigned = with_names [] (assigned_by (if n == 0 then None else at_place (all_numbered (body i)) (n - 1)));
  }

  views : (source sink : Reference) → view_of t source sink ≡ view_of u source sink
  views source sink = ap (λ (s : Setting). view_at s (site_of source) (site_of sink)) (settings (outermost source))

  facts : facts_of t ≡ facts_of u
  facts i = record { constants = values i; guards = all_guards_in false (body i) }

  same_pair : (source sink : Reference) (edges : List Edge) → PairEdges t source sink edges → PairEdges u source sink edges
  same_pair source sink edges h =
      let v = views source sink in
      record {
        vectors = h.vectors;
        possible = subst (λ (w : View). AreVectors w h.vectors) v h.possible;
        divided = h.divided ∙ (λ i. edges_by (facts i) source sink (v i) h.vectors);
      }

  same_pairs : (ps : List (Reference × Reference)) (edges : List Edge) → EdgesOfPairs t ps edges → EdgesOfPairs u ps edges
  same_pairs [] edges h = h
  same_pairs (p ∷ ps) edges h = (h.0, h.1, h.2, same_pair p.0 p.1 h.0 h.3, same_pairs ps h.1 h.4)

  same_edges : (edges : List Edge) → AreEdges t edges → AreEdges u edges
  same_edges edges h = subst (λ (refs : List Reference). EdgesOfPairs u (pairs refs) edges) (λ i. statements_references (names i) [] 1 (body i)) (same_pairs (pairs (references t)) edges h)

pub shapes_decide : (t u : ProgramTree) (edges : List Edge) → HaveSameShapes t u → (AreEdges t edges → AreEdges u edges) × (AreEdges u edges → AreEdges t edges)
shapes_decide t u edges h =
    let names = names_alike t.decls u.decls h.decls in
    let values = values_alike t u h in
    (same_edges t u names values h.body edges, same_edges u t (sym names) (sym values) (sym h.body) edges)

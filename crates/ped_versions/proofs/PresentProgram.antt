-- The present source of a session reads as its program alone, whose graph is held.
use Rattle.std.proofs.Common.{◌≡◌, ℕ, List, length, refl, sym, ap, subst, ◌∙◌}
use Rattle.ped_tree.specs.Tree.{ProgramTree}
use Rattle.ped_valid.specs.Validity.{ReadsValid}
use Rattle.ped_valid.proofs.OneVerdict.{valid_prints}
use Rattle.ped_update.specs.ped_graph.specs.ped_edges.specs.Edges.{Edge}
use Rattle.ped_update.specs.ped_graph.specs.Dependences.{AreEdges}
use Rattle.ped_update.specs.ped_graph.specs.Held.{Held, held_of}
use Rattle.ped_update.specs.ped_graph.proofs.OnePane.{one_edges}
use Rattle.ped_versions.specs.declared.versions.Version.{Version}
use Rattle.ped_versions.specs.declared.versions.Entry.{Entry}
use Rattle.ped_versions.specs.Holding.{tree_of, IsVersion, IsConsistent}

-- the text of a version reads as its tree
pub reads_version : (v : Version) → IsVersion v → (text : List ℕ) → v.text ≡ text → ReadsValid text (tree_of v)
reads_version v is text same = subst (λ (bytes : List ℕ). ReadsValid bytes (tree_of v)) (sym is.text ∙ same) ((valid_prints (tree_of v) is.valid (tree_of v)).1 refl)

-- and as no other
pub only_version : (v : Version) → IsVersion v → (text : List ℕ) → v.text ≡ text → (t : ProgramTree) → ReadsValid text t → t ≡ tree_of v
only_version v is text same t reads = (valid_prints (tree_of v) is.valid t).0 (subst (λ (bytes : List ℕ). ReadsValid bytes t) (sym same ∙ is.text) reads)

module _ {L : _} where
  -- the graph is that of what the present source reads as
  pub graph_of : (present : Version) (graph : Held) (past future : List (Entry L)) → IsConsistent present graph past future
      → (text : List ℕ) → present.text ≡ text → (t : ProgramTree) → ReadsValid text t → graph ≡ held_of t
  graph_of present graph past future is text same t reads = is.graph_is ∙ ap held_of (sym (only_version present is.version text same t reads))

-- there are as many dependences as are found
pub as_many : (found : List Edge) (t : ProgramTree) → AreEdges t found → (edges : List Edge) → AreEdges t edges → length found ≡ length edges
as_many found t are edges these = ap length (one_edges t found edges are these)

-- That a program has no dependences can't be: each vector is excluded or not. So whatever is shown false of all lists of its dependences is false.
use Rattle.std.proofs.Common.{List, [], ◌∷◌, ◌++◌, length, refl, inl, inr}
use Rattle.ped_bodies.specs.ped_views.specs.Vectors.{all_vectors, AreThose, IsPossible}
use Rattle.ped_bodies.specs.ped_flow.specs.ped_tree.specs.Tree.{ProgramTree}
use Rattle.ped_bodies.specs.ped_refs.specs.References.{Reference, references, pairs}
use Rattle.ped_bodies.specs.ped_graph.specs.Dependences.{facts_of, view_of, edges_by, PairEdges, EdgesOfPairs, AreEdges}
use Rattle.ped_bodies.specs.ped_edges.specs.Edges.{Edge}

those_are : {X : Type 0} (P : X → Type 0) (xs : List X) → ((chosen : List X) → AreThose P xs chosen → ⊥) → ⊥
those_are P [] none = none [] refl
those_are P (x ∷ xs) none = those_are P xs (λ rest r. none rest (inr ((λ p. none (x ∷ rest) (inl (p, (rest, refl, r)))), r)))

pair_has : (t : ProgramTree) (source sink : Reference) → ((edges : List Edge) → PairEdges t source sink edges → ⊥) → ⊥
pair_has t source sink none =
    those_are (IsPossible (view_of t source sink)) (all_vectors (length (view_of t source sink).loops))
    (λ vectors possible. none (edges_by (facts_of t) source sink (view_of t source sink) vectors) (record { vectors = vectors; possible = possible; divided = refl }))

pairs_have : (t : ProgramTree) (ps : List (Reference × Reference)) → ((edges : List Edge) → EdgesOfPairs t ps edges → ⊥) → ⊥
pairs_have t [] none = none [] refl
pairs_have t (p ∷ ps) none = pair_has t p.0 p.1 (λ first a. pairs_have t ps (λ rest b. none (first ++ rest) (first, rest, refl, a, b)))

pub some_edges : (t : ProgramTree) → ((edges : List Edge) → AreEdges t edges → ⊥) → ⊥
some_edges t none = pairs_have t (pairs (references t)) none

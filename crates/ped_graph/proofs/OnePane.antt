-- A program has one list of dependences and one dependence pane.
use Rattle.std.proofs.Common.{◌≡◌, ℕ, List, [], ◌∷◌, ◌++◌, length, sym, ap, ◌∙◌, inl, inr, Option, Some, None}
use Rattle.ped_views.specs.declared.directions.Direction.{Direction}
use Rattle.ped_views.specs.Views.{View}
use Rattle.ped_views.specs.Vectors.{all_vectors, AreThose, IsPossible, AreVectors}
use Rattle.ped_tree.specs.Tree.{ProgramTree}
use Rattle.ped_refs.specs.References.{Reference, references, pairs}
use Rattle.ped_edges.specs.Edges.{Edge}
use Rattle.ped_edges.specs.Rows.{edges_pane}
use Rattle.ped_graph.specs.Dependences.{facts_of, view_of, edges_by, PairEdges, EdgesOfPairs, AreEdges}
use Rattle.ped_graph.specs.DependencePane.{IsDependencePane, IsDependencePaneOf, edges_of}

-- two choices of the items with P are one
one_choice : {X : Type 0} (P : X → Type 0) (xs ys zs : List X) → AreThose P xs ys → AreThose P xs zs → ys ≡ zs
one_choice P [] ys zs a b = a ∙ sym b
one_choice P (x ∷ xs) ys zs (inl a) (inl b) = a.1.1 ∙ ap (λ (rest : List _). x ∷ rest) (one_choice P xs a.1.0 b.1.0 a.1.2 b.1.2) ∙ sym b.1.1
one_choice P (x ∷ xs) ys zs (inl a) (inr b) = absurd (b.0 a.0)
one_choice P (x ∷ xs) ys zs (inr a) (inl b) = absurd (a.0 b.0)
one_choice P (x ∷ xs) ys zs (inr a) (inr b) = one_choice P xs ys zs a.1 b.1

-- a view has one list of vectors
pub one_vectors : (v : View) (a b : List (List Direction)) → AreVectors v a → AreVectors v b → a ≡ b
one_vectors v a b p q = one_choice (IsPossible v) (all_vectors (length v.loops)) a b p q

-- a pair of references has one list of dependences
pub one_pair_edges : (t : ProgramTree) (source sink : Reference) (a b : List Edge) → PairEdges t source sink a → PairEdges t source sink b → a ≡ b
one_pair_edges t source sink a b p q =
    let vectors = one_vectors (view_of t source sink) p.vectors q.vectors p.possible q.possible in
    p.divided ∙ ap (λ (vs : List (List Direction)). edges_by (facts_of t) source sink (view_of t source sink) vs) vectors ∙ sym q.divided

-- pairs of references have one list of dependences
pub one_edges_of_pairs : (t : ProgramTree) (ps : List (Reference × Reference)) (a b : List Edge) → EdgesOfPairs t ps a → EdgesOfPairs t ps b → a ≡ b
one_edges_of_pairs t [] a b p q = p ∙ sym q
one_edges_of_pairs t (x ∷ ps) a b p q =
    let first = one_pair_edges t x.0 x.1 p.0 q.0 p.3 q.3 in
    let rest = one_edges_of_pairs t ps p.1 q.1 p.4 q.4 in
    p.2 ∙ (λ i. first i ++ rest i) ∙ sym q.2

-- a program has one list of dependences
pub one_edges : (t : ProgramTree) (a b : List Edge) → AreEdges t a → AreEdges t b → a ≡ b
one_edges t a b p q = one_edges_of_pairs t (pairs (references t)) a b p q

-- a program has one dependence pane
pub one_pane : (t : ProgramTree) (p q : List ℕ) → IsDependencePane t p → IsDependencePane t q → p ≡ q
one_pane t p q a b = a.2 ∙ ap edges_pane (one_edges t a.0 b.0 a.1 b.1) ∙ sym b.2

-- a program has one dependence pane of each statement
pub one_pane_of : (t : ProgramTree) (of : Option ℕ) (p q : List ℕ) → IsDependencePaneOf t of p → IsDependencePaneOf t of q → p ≡ q
one_pane_of t None p q a b = one_pane t p q a b
one_pane_of t (Some number) p q a b = a.2 ∙ ap (λ (es : List Edge). edges_pane (edges_of t number es)) (one_edges t a.0 b.0 a.1 b.1) ∙ sym b.2

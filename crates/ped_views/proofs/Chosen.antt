-- A choice from a list, and so the vectors of a view, is determined.
use Rattle.std.proofs.Common.{◌≡◌, List, [], ◌∷◌, sym, ap, ◌∙◌, inl, inr, length}
use Rattle.ped_views.specs.declared.directions.Direction.{Direction}
use Rattle.ped_views.specs.Views.{View}
use Rattle.ped_views.specs.Vectors.{all_vectors, AreThose, IsPossible, AreVectors}

-- two choices of the items with P are one
pub one_choice : {X : Type 0} (P : X → Type 0) (xs ys zs : List X) → AreThose P xs ys → AreThose P xs zs → ys ≡ zs
one_choice P [] ys zs a b = a ∙ sym b
one_choice P (x ∷ xs) ys zs (inl a) (inl b) = a.1.1 ∙ ap (λ (rest : List _). x ∷ rest) (one_choice P xs a.1.0 b.1.0 a.1.2 b.1.2) ∙ sym b.1.1
one_choice P (x ∷ xs) ys zs (inl a) (inr b) = absurd (b.0 a.0)
one_choice P (x ∷ xs) ys zs (inr a) (inl b) = absurd (a.0 b.0)
one_choice P (x ∷ xs) ys zs (inr a) (inr b) = one_choice P xs ys zs a.1 b.1

-- a view has one list of vectors
pub one_vectors : (v : View) (a b : List (List Direction)) → AreVectors v a → AreVectors v b → a ≡ b
one_vectors v a b p q = one_choice (IsPossible v) (all_vectors (length v.loops)) a b p q

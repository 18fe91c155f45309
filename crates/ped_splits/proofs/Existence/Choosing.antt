-- Where a property of items is decided, the items with it can be chosen from a list; so each view has its vectors.
use Rattle.std.proofs.Common.{refl, inl, inr, List, [], ◌∷◌, length}
use Rattle.ped_rules.specs.ped_views.specs.declared.directions.Direction.{Direction}
use Rattle.ped_rules.specs.ped_views.specs.Views.{View}
use Rattle.ped_rules.specs.ped_views.specs.Excluded.{Excludes}
use Rattle.ped_rules.specs.ped_views.specs.Vectors.{all_vectors, AreThose, IsPossible, AreVectors}
use Rattle.ped_splits.proofs.Existence.Sentences.{Decided}
use Rattle.ped_splits.proofs.Existence.Deciding.{decided_not, all_decided}
use Rattle.ped_splits.proofs.Existence.Excluding.{excludes_decided}

choice : {X : Type 0} (P : X → Type 0) → ((x : X) → Decided (P x)) → (xs : List X) → (chosen : List X) × AreThose P xs chosen
choice P each [] = ([], refl)
choice {X} P each (x ∷ xs) = by (each x) (choice P each xs)
  where
    by : Decided (P x) → (chosen : List X) × AreThose P xs chosen → (chosen : List X) × AreThose P (x ∷ xs) chosen
    by (inl p) (rest, h) = (x ∷ rest, inl (p, (rest, refl, h)))
    by (inr n) (rest, h) = (rest, inr (n, h))

possible_decided : (v : View) (vector : List Direction) → Decided (IsPossible v vector)
possible_decided v vector = all_decided (λ p. ¬ (Excludes v p vector)) (λ p. decided_not (excludes_decided v p vector)) v.positions

pub vectors_of_view : (v : View) → (vectors : List (List Direction)) × AreVectors v vectors
vectors_of_view v = choice (IsPossible v) (possible_decided v) (all_vectors (length v.loops))

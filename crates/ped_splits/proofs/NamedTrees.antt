-- A name among the names of trees.
use Rattle.std.proofs.Common.{◌≡◌, ℕ, List, ◌∷◌, ◌++◌, ◌||◌, refl}
use Rattle.std.proofs.lemmas.List.Folds.{list_any-append}
use Rattle.ped_base.specs.Lists.{is_same_text, is_among}

-- a name among two lists
pub among_both : (x : List ℕ) (xs ys : List (List ℕ)) → is_among x (xs ++ ys) ≡ (is_among x xs || is_among x ys)
among_both x xs ys = list_any-append (is_same_text x) xs ys

-- a name among one and others
pub among_more : (x y : List ℕ) (ys : List (List ℕ)) → is_among x (y ∷ ys) ≡ (is_same_text x y || is_among x ys)
among_more x y ys = refl

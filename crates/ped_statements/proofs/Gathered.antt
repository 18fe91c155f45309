-- Items with a comma between two, as a loop reads them.
use Rattle.std.proofs.Common.{◌≡◌, ℕ, List, [], ◌∷◌, ◌++◌, Option, Some, None, refl, sym, ap, ◌∙◌, append_assoc}
use Rattle.std.specs.Prelude.{codes}
use Rattle.ped_expressions.specs.Scanning.{◌>>=◌, after}
use Rattle.ped_statements.specs.Listing.{several}
use Rattle.ped_statements.proofs.Several.{Shrinks, several_step}

-- what was read before, and what is still read
abbrev pub ahead : {A : Type 0} → List A → Option (List A × List ℕ) → Option (List A × List ℕ)
ahead xs read = read >>= λ y. Some (xs ++ y.0, y.1)

pub ahead_one : {A : Type 0} (xs : List A) (x : A) (read : Option (List A × List ℕ)) → ahead xs (read >>= λ y. Some (x ∷ y.0, y.1)) ≡ ahead (xs ++ x ∷ []) read
ahead_one xs x None = refl
ahead_one {A} xs x (Some y) = ap (λ (ys : List A). Some (ys, y.1)) (sym (append_assoc xs (x ∷ []) y.0))

pub ahead_none : {A : Type 0} (read : Option (List A × List ℕ)) → ahead [] read ≡ read
ahead_none None = refl
ahead_none (Some y) = refl

-- one more item is read
pub several_more : {A : Type 0} (item : List ℕ → Option (A × List ℕ)) → Shrinks item → (xs new : List A) (x : A) (left r q : List ℕ) (all : Option (List A × List ℕ)) → ahead xs (several item left) ≡ all → item left ≡ Some (x, r) → after (codes ",") r ≡ Some q → new ≡ xs ++ x ∷ [] → ahead new (several item q) ≡ all
several_more {A} item s xs new x left r q all h i a n =
    let one : several item left ≡ (several item q >>= λ y. Some (x ∷ y.0, y.1)) = several_step item s left ∙ rw (i, a) refl in
    ap (λ (l : List A). ahead l (several item q)) n ∙ sym (ahead_one xs x (several item q)) ∙ ap (ahead xs) (sym one) ∙ h

-- the last item is read
pub several_last : {A : Type 0} (item : List ℕ → Option (A × List ℕ)) → Shrinks item → (xs new : List A) (x : A) (left r : List ℕ) (all : Option (List A × List ℕ)) → ahead xs (several item left) ≡ all → item left ≡ Some (x, r) → after (codes ",") r ≡ None → new ≡ xs ++ x ∷ [] → all ≡ Some (new, r)
several_last {A} item s xs new x left r all h i a n =
    let one : several item left ≡ Some (x ∷ [], r) = several_step item s left ∙ rw (i, a) refl in
    sym h ∙ ap (ahead xs) one ∙ ap (λ (ys : List A). Some (ys, r)) (sym n)

-- an item can't be read
pub several_fails : {A : Type 0} (item : List ℕ → Option (A × List ℕ)) → Shrinks item → (xs : List A) (left : List ℕ) (all : Option (List A × List ℕ)) → ahead xs (several item left) ≡ all → item left ≡ None → all ≡ None
several_fails item s xs left all h i =
    let none : several item left ≡ None = several_step item s left ∙ rw i refl in
    sym h ∙ ap (ahead xs) none

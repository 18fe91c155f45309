-- How many ordered pairs of items of a list are related, an item with itself among them.
use Rattle.std.proofs.Common.{◌≡◌, ℕ, ◌+◌, ◌*◌, ◌≤◌, List, [], ◌∷◌, ◌++◌, Bool, cond, not, length, filter, refl, arith}
use Rattle.std.specs.Prelude.{count_by}
use Rattle.std.specs.List.{sum_by}
use Rattle.std.proofs.lemmas.List.Sums.{sum_by-cons, sum_by_push, sum_by-append, sum_by-le-sum_by, count_by-le-length}
use Rattle.std.proofs.lemmas.List.Filters.{sum_by-filter_both}

-- a sum of two terms each
sum_by-both : {X : Type 0} (f g : X → ℕ) (xs : List X) → sum_by (λ x. f x + g x) xs ≡ sum_by f xs + sum_by g xs
sum_by-both f g [] = refl
sum_by-both f g (x ∷ xs) = omega (arith, sum_by-cons (λ x. f x + g x) x xs, sum_by-cons f x xs, sum_by-cons g x xs, sum_by-both f g xs)

-- a sum of one number each
sum_by-same : {X : Type 0} (m : ℕ) (xs : List X) → sum_by (λ x. m) xs ≡ length xs * m
sum_by-same m [] = omega arith
sum_by-same m (x ∷ xs) = omega (arith, sum_by-cons (λ x. m) x xs, sum_by-same m xs)

-- one more item counts where it passes
pub count_by_push : {X : Type 0} (p : X → Bool) (xs : List X) (x : X) → count_by p (xs ++ x ∷ []) ≡ count_by p xs + cond (p x) 1 0
count_by_push p xs x = sum_by_push (λ y. cond (p y) 1 0) xs x

module _ {X : Type 0} (rel : X → X → Bool) where
  -- the number of ordered pairs that are related
  abbrev pub related : List X → ℕ
  related xs = sum_by (λ a. count_by (rel a) xs) xs

  -- one more item makes two pairs with each that it is related to, and one with itself
  pub related_push : ((a b : X) → rel a b ≡ rel b a) → (xs : List X) (x : X) → related (xs ++ x ∷ []) ≡ related xs + 2 * count_by (rel x) xs + cond (rel x x) 1 0
  related_push flip xs x =
      let first : related (xs ++ x ∷ []) ≡ sum_by (λ a. count_by (rel a) (xs ++ x ∷ [])) xs + count_by (rel x) (xs ++ x ∷ []) = sum_by_push (λ a. count_by (rel a) (xs ++ x ∷ [])) xs x in
      let more : sum_by (λ a. count_by (rel a) (xs ++ x ∷ [])) xs ≡ sum_by (λ a. count_by (rel a) xs + cond (rel a x) 1 0) xs = λ i. sum_by (λ a. count_by_push (rel a) xs x i) xs in
      let both : sum_by (λ a. count_by (rel a) xs + cond (rel a x) 1 0) xs ≡ related xs + sum_by (λ a. cond (rel a x) 1 0) xs = sum_by-both (λ a. count_by (rel a) xs) (λ a. cond (rel a x) 1 0) xs in
      let back : sum_by (λ a. cond (rel a x) 1 0) xs ≡ count_by (rel x) xs = λ i. sum_by (λ a. cond (flip a x i) 1 0) xs in
      let last : count_by (rel x) (xs ++ x ∷ []) ≡ count_by (rel x) xs + cond (rel x x) 1 0 = count_by_push (rel x) xs x in
      omega (arith, first, more, both, back, last)

  -- a front of a list has no more pairs than the list
  pub related-append-le : (xs ys : List X) → related xs ≤ related (xs ++ ys)
  related-append-le xs ys =
      let all : sum_by (λ a. count_by (rel a) (xs ++ ys)) (xs ++ ys) ≡ sum_by (λ a. count_by (rel a) (xs ++ ys)) xs + sum_by (λ a. count_by (rel a) (xs ++ ys)) ys = sum_by-append (λ a. count_by (rel a) (xs ++ ys)) xs ys in
      let each : related xs ≤ sum_by (λ a. count_by (rel a) (xs ++ ys)) xs = sum_by-le-sum_by (λ a. count_by (rel a) xs) (λ a. count_by (rel a) (xs ++ ys)) xs (λ a. omega (arith, sum_by-append (λ b. cond (rel a b) 1 0) xs ys)) in
      omega (arith, all, each)

  -- a part of a list has no more pairs than the list
  pub related-filter-le : (p : X → Bool) (xs : List X) → related (filter p xs) ≤ related xs
  related-filter-le p xs =
      let part : (f : X → ℕ) → sum_by f (filter p xs) ≤ sum_by f xs = λ f. omega (arith, sum_by-filter_both p (λ x. not (p x)) (λ _. refl) f xs) in
      let each : related (filter p xs) ≤ sum_by (λ a. count_by (rel a) xs) (filter p xs) = sum_by-le-sum_by (λ a. count_by (rel a) (filter p xs)) (λ a. count_by (rel a) xs) (filter p xs) (λ a. part (λ b. cond (rel a b) 1 0)) in
      omega (arith, each, part (λ a. count_by (rel a) xs))

  -- no more pairs than all
  pub related-le : (xs : List X) → related xs ≤ length xs * length xs
  related-le xs =
      let each : related xs ≤ sum_by (λ a. length xs) xs = sum_by-le-sum_by (λ a. count_by (rel a) xs) (λ a. length xs) xs (λ a. count_by-le-length (rel a) xs) in
      omega (arith, each, sum_by-same (length xs) xs)

-- The items of a list that have a property, found one after the other.
use Rattle.std.proofs.Common.{◌≡◌, ℕ, ◌+◌, ◌<◌, ◌≤◌, List, [], ◌∷◌, ◌++◌, length, drop, get_or, refl, sym, ap, subst, ◌∙◌, inl, inr}
use Rattle.std.proofs.lemmas.List.{append-nil, append_assoc, drop_more, drop_all}
use Rattle.ped_views.specs.Vectors.{AreThose}

-- what was found so far and what is ahead of place i are all
abbrev pub AreAhead : {X : Type 0} → (X → Type 0) → List X → ℕ → List X → Type 0
AreAhead P xs i found = (rest : List _) → AreThose P (drop i xs) rest → AreThose P xs (found ++ rest)

module _ {X : Type 0} (P : X → Type 0) (xs : List X) where
  pub one_found : (i : ℕ) (found : List X) (x : X) → i < length xs → get_or xs i x ≡ x → P x → AreAhead P xs i found → AreAhead P xs (i + 1) (found ++ x ∷ [])
  one_found i found x below is has ahead rest h =
      let d : drop i xs ≡ x ∷ drop (i + 1) xs = drop_more xs i x below ∙ ap (λ y. y ∷ drop (i + 1) xs) is in
      let e = append_assoc found (x ∷ []) rest in
      subst (λ ys. AreThose P xs ys) (sym e) (ahead (x ∷ rest) (subst (λ ys. AreThose P ys (x ∷ rest)) (sym d) (inl (has, (rest, refl, h)))))

  pub passed_over : (i : ℕ) (found : List X) (x : X) → i < length xs → get_or xs i x ≡ x → ¬ (P x) → AreAhead P xs i found → AreAhead P xs (i + 1) found
  passed_over i found x below is lacks ahead rest h =
      let d : drop i xs ≡ x ∷ drop (i + 1) xs = drop_more xs i x below ∙ ap (λ y. y ∷ drop (i + 1) xs) is in
      ahead rest (subst (λ ys. AreThose P ys rest) (sym d) (inr (lacks, h)))

  pub all_found : (i : ℕ) (found : List X) → length xs ≤ i → AreAhead P xs i found → AreThose P xs found
  all_found i found past ahead =
      subst (λ ys. AreThose P xs ys) (append-nil found) (ahead [] (subst (λ ys. AreThose P ys []) (sym (drop_all i xs past)) refl))

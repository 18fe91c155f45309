-- Views that are made of two sides.
use Rattle.std.proofs.Common.{◌≡◌, ◌⊎◌, inl, inr, ℕ, zero, suc, ◌+◌, ◌≤◌, List, [], ◌∷◌, ◌++◌, length, drop, All, Option, Some, None, IfSome, true, slice_get, append_assoc, refl, ap, subst, sym, ◌∙◌, add-one, arith}
use Rattle.std.specs.List.{list_all}
use Rattle.std.proofs.lemmas.List.{append-nil, drop_all}
use Rattle.ped_views.specs.Views.{Range, SubscriptPair}
use Rattle.ped_views.specs.Limits.{FitsLoops, IsView}
use Rattle.ped_graph.specs.Sides.{is_usable, IsOwnPosition, AreOwnPositions}
use Rattle.ped_graph.proofs.Slices.{both_hold, some_is}

-- the parts of a view fit together
pub fits_view : (loops source sink : List Range) (positions : List SubscriptPair) (k a b : ℕ) → length loops ≡ k → length source ≡ a → length sink ≡ b → k + a ≤ 6 → k + b ≤ 6 → All (FitsLoops k a b) positions →
    IsView (record { loops = loops; source_inner = source; sink_inner = sink; positions = positions })
fits_view loops source sink positions k a b e f g p q h = record {
  source_depth = omega arith;
  sink_depth = omega arith;
  positions =
      subst (λ (n : ℕ). All (FitsLoops n (length source) (length sink)) positions) (sym e)
      (subst (λ (n : ℕ). All (FitsLoops k n (length sink)) positions) (sym f) (subst (λ (n : ℕ). All (FitsLoops k a n) positions) (sym g) h));
}

-- what is told is told in other words
pub some_weaker : {X : Type 0} (o : Option X) (P Q : X → Type 0) → ((x : X) → P x → Q x) → IfSome o P → IfSome o Q
some_weaker None P Q f h = tt
some_weaker (Some x) P Q f h = f x h

-- one of usable positions
pub one_usable : (ps : List SubscriptPair) (i : ℕ) (p : SubscriptPair) → list_all is_usable ps ≡ true → slice_get ps i ≡ Some p → p.usable ≡ true
one_usable [] i p all e = cc
one_usable (q ∷ ps) zero p all e = ap is_usable (sym (some_is q p e)) ∙ (both_hold (is_usable q) (list_all is_usable ps) all).0
one_usable (q ∷ ps) (suc i) p all e = one_usable ps i p (both_hold (is_usable q) (list_all is_usable ps) all).1 e

-- an item and those behind it
next_of : {X : Type 0} (xs : List X) (i : ℕ) (x : X) → slice_get xs i ≡ Some x → drop i xs ≡ x ∷ drop (i + 1) xs
next_of xs i x e = go xs i x e ∙ ap (λ (n : ℕ). x ∷ drop n xs) (sym (add-one i))
  where
    go : {X : Type 0} (xs : List X) (i : ℕ) (x : X) → slice_get xs i ≡ Some x → drop i xs ≡ x ∷ drop (suc i) xs
    go [] i x e = cc
    go (y ∷ xs) zero x e = ap (λ z. z ∷ xs) (some_is y x e)
    go (y ∷ xs) (suc i) x e = go xs i x e

-- the positions so far, and any of those ahead, are all
abbrev pub AreToldAhead : (depth i : ℕ) → (ps qs found : List SubscriptPair) → Type 0
AreToldAhead depth i ps qs found = (rest : List SubscriptPair) → AreOwnPositions depth (drop i ps) (drop i qs) rest → AreOwnPositions depth ps qs (found ++ rest)

-- one more position
pub told_more : (depth i : ℕ) (ps qs found : List SubscriptPair) (a b p : SubscriptPair) → slice_get ps i ≡ Some a → slice_get qs i ≡ Some b → IsOwnPosition depth a b p
    → AreToldAhead depth i ps qs found → AreToldAhead depth (i + 1) ps qs (found ++ p ∷ [])
told_more depth i ps qs found a b p first second one ahead rest h =
    subst (λ (all : List SubscriptPair). AreOwnPositions depth ps qs all) (sym (append_assoc found (p ∷ []) rest))
    (ahead (p ∷ rest)
    (subst (λ (xs : List SubscriptPair). AreOwnPositions depth xs (drop i qs) (p ∷ rest)) (sym (next_of ps i a first))
    (subst (λ (xs : List SubscriptPair). AreOwnPositions depth (a ∷ drop (i + 1) ps) xs (p ∷ rest)) (sym (next_of qs i b second)) (one, h))))

none_right : (depth : ℕ) (ps : List SubscriptPair) → AreOwnPositions depth ps [] []
none_right depth [] = refl
none_right depth (p ∷ ps) = refl

-- no position is ahead where one of the references has none
pub told_all : (depth i : ℕ) (ps qs found : List SubscriptPair) (m n : ℕ) → m ≡ length ps → n ≡ length qs → (m ≤ i) ⊎ (n ≤ i) → AreToldAhead depth i ps qs found → AreOwnPositions depth ps qs found
told_all depth i ps qs found m n e f past ahead = subst (λ (all : List SubscriptPair). AreOwnPositions depth ps qs all) (append-nil found) (ahead [] (none past))
  where
    none : (m ≤ i) ⊎ (n ≤ i) → AreOwnPositions depth (drop i ps) (drop i qs) []
    none (inl h) = subst (λ (xs : List SubscriptPair). AreOwnPositions depth xs (drop i qs) []) (sym (drop_all i ps (omega (arith, e, h)))) refl
    none (inr h) = subst (λ (xs : List SubscriptPair). AreOwnPositions depth (drop i ps) xs []) (sym (drop_all i qs (omega (arith, f, h)))) (none_right depth (drop i ps))

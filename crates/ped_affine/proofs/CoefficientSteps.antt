-- Coefficients that are changed in place, one by one: those so far are the new ones, and the rest are as they were.
use Rattle.std.proofs.Common.{◌≡◌, ℕ, ◌+◌, ◌<◌, List, [], ◌∷◌, ◌++◌, length, take, drop, set, get_or, map, All, Bool, true, false, ◌&&◌, sym, subst, ap, ◌∙◌, append_assoc, arith, ℤ, pos, neg_ℤ}
use Rattle.std.proofs.lemmas.List.{take_more_set, drop_more, drop-set-lt, get_or_default}
use Rattle.std.proofs.lemmas.List.Edits.{map_over_more}
use Rattle.std.specs.List.{list_all}
use Rattle.std.proofs.lemmas.List.Elements.{All-head, All-tail}
use Rattle.ped_affine.specs.AffineForms.{combined}

-- behind the place that is changed nothing changes
rest_same : {X : Type 0} (xs : List X) (i : ℕ) (x : X) → drop (i + 1) (set xs i x) ≡ drop (i + 1) xs
rest_same xs i x = drop-set-lt (i + 1) xs i x (omega arith)

pub map_step : (f : ℤ → ℤ) (xs all : List ℤ) (i : ℕ) (x : ℤ) → i < length xs → x ≡ f (get_or xs i (pos 0)) →
    take i xs ++ map f (drop i xs) ≡ all → take (i + 1) (set xs i x) ++ map f (drop (i + 1) (set xs i x)) ≡ all
map_step f xs all i x p e h =
    (λ j. take_more_set xs i x p j ++ map f (rest_same xs i x j)) ∙ append_assoc (take i xs) (x ∷ []) (map f (drop (i + 1) xs))
    ∙ ap (λ (y : ℤ). take i xs ++ y ∷ map f (drop (i + 1) xs)) e ∙ ap (λ (ys : List ℤ). take i xs ++ map f ys) (sym (drop_more xs i (pos 0) p)) ∙ h

pub combined_step : (f : ℤ → ℤ → ℤ) (xs ys all : List ℤ) (i : ℕ) (x : ℤ) → i < length xs → i < length ys → x ≡ f (get_or xs i (pos 0)) (get_or ys i (pos 0)) →
    take i xs ++ combined f (drop i xs) (drop i ys) ≡ all → take (i + 1) (set xs i x) ++ combined f (drop (i + 1) (set xs i x)) (drop (i + 1) ys) ≡ all
combined_step f xs ys all i x p q e h =
    (λ j. take_more_set xs i x p j ++ combined f (rest_same xs i x j) (drop (i + 1) ys)) ∙ append_assoc (take i xs) (x ∷ []) (combined f (drop (i + 1) xs) (drop (i + 1) ys))
    ∙ ap (λ (y : ℤ). take i xs ++ y ∷ combined f (drop (i + 1) xs) (drop (i + 1) ys)) e
    ∙ (λ j. take i xs ++ combined f (sym (drop_more xs i (pos 0) p) j) (sym (drop_more ys i (pos 0) q) j)) ∙ h

and_true : (a b t : Bool) → a ≡ true → (a && b) ≡ t → b ≡ t
and_true a b t e h = ap (λ (c : Bool). c && b) (sym e) ∙ h

and_false : (a b t : Bool) → a ≡ false → (a && b) ≡ t → false ≡ t
and_false a b t e h = ap (λ (c : Bool). c && b) (sym e) ∙ h

-- the test of all goes on behind a place that passes
pub test_step : (p : ℤ → Bool) (f : ℤ → ℤ → ℤ) (xs ys : List ℤ) (t : Bool) (i : ℕ) (x : ℤ) → i < length xs → i < length ys → x ≡ f (get_or xs i (pos 0)) (get_or ys i (pos 0)) → p x ≡ true →
    list_all p (combined f (drop i xs) (drop i ys)) ≡ t → list_all p (combined f (drop (i + 1) (set xs i x)) (drop (i + 1) ys)) ≡ t
test_step p f xs ys t i x l m e passes h =
    ap (λ (zs : List ℤ). list_all p (combined f zs (drop (i + 1) ys))) (rest_same xs i x)
    ∙ and_true (p (f (get_or xs i (pos 0)) (get_or ys i (pos 0)))) (list_all p (combined f (drop (i + 1) xs) (drop (i + 1) ys))) t (ap p (sym e) ∙ passes)
    ((λ j. list_all p (combined f (sym (drop_more xs i (pos 0) l) j) (sym (drop_more ys i (pos 0) m) j))) ∙ h)

-- and ends at one that doesn't
pub test_ends : (p : ℤ → Bool) (f : ℤ → ℤ → ℤ) (xs ys : List ℤ) (t : Bool) (i : ℕ) (x : ℤ) → i < length xs → i < length ys → x ≡ f (get_or xs i (pos 0)) (get_or ys i (pos 0)) → p x ≡ false →
    list_all p (combined f (drop i xs) (drop i ys)) ≡ t → false ≡ t
test_ends p f xs ys t i x l m e fails h =
    and_false (p (f (get_or xs i (pos 0)) (get_or ys i (pos 0)))) (list_all p (combined f (drop (i + 1) xs) (drop (i + 1) ys))) t (ap p (sym e) ∙ fails)
    ((λ j. list_all p (combined f (sym (drop_more xs i (pos 0) l) j) (sym (drop_more ys i (pos 0) m) j))) ∙ h)

pub map_test_step : (p : ℤ → Bool) (f : ℤ → ℤ) (xs : List ℤ) (t : Bool) (i : ℕ) (x : ℤ) → i < length xs → x ≡ f (get_or xs i (pos 0)) → p x ≡ true →
    list_all p (map f (drop i xs)) ≡ t → list_all p (map f (drop (i + 1) (set xs i x))) ≡ t
map_test_step p f xs t i x l e passes h =
    ap (λ (zs : List ℤ). list_all p (map f zs)) (rest_same xs i x)
    ∙ and_true (p (f (get_or xs i (pos 0)))) (list_all p (map f (drop (i + 1) xs))) t (ap p (sym e) ∙ passes)
    (ap (λ (zs : List ℤ). list_all p (map f zs)) (sym (drop_more xs i (pos 0) l)) ∙ h)

-- what holds of the rest holds of the rest behind the place that is changed
pub rest_step : (P : ℤ → Type 0) (xs : List ℤ) (i : ℕ) (x : ℤ) → i < length xs → All P (drop i xs) → All P (drop (i + 1) (set xs i x))
rest_step P xs i x l h = subst (All P) (sym (rest_same xs i x)) (All-tail P (get_or xs i (pos 0)) (drop (i + 1) xs) (subst (All P) (drop_more xs i (pos 0) l) h))

-- and of the place
pub rest_first : (P : ℤ → Type 0) (xs : List ℤ) (i : ℕ) → i < length xs → All P (drop i xs) → P (get_or xs i (pos 0))
rest_first P xs i l h = All-head P (get_or xs i (pos 0)) (drop (i + 1) xs) (subst (All P) (drop_more xs i (pos 0) l) h)

-- the same for a loop that reads each coefficient once
pub negated_step : (all xs : List ℤ) (i : ℕ) (x : ℤ) → i < length all → i < length xs → x ≡ neg_ℤ (get_or xs i (pos 0)) → xs ≡ map neg_ℤ (take i all) ++ drop i all → set xs i x ≡ map neg_ℤ (take (i + 1) all) ++ drop (i + 1) all
negated_step all xs i x l m e h = ap (set xs i) e ∙ map_over_more neg_ℤ all xs i (get_or xs i (pos 0)) l h (get_or_default xs i (pos 0) (get_or xs i (pos 0)) m)

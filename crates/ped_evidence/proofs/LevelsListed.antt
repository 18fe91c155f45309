-- The loops of a nest by their places.
use Rattle.std.proofs.Common.{◌≡◌, ℕ, zero, suc, ◌+◌, ◌≤◌, refl, sym, ap, ◌∙◌, arith, List, [], ◌∷◌, ◌++◌, length, take, append-nil, append_assoc, Some}
use Rattle.std.specs.Prelude.{slice_get}
use Rattle.ped_views.specs.Views.{Range}
use Rattle.ped_tree.specs.Tree.{Head}
use Rattle.ped_tree.specs.Nests.{Loop}
use Rattle.ped_affine.specs.Ranges.{Setting, Around, loop_range, inside, ranges_inside, nest_ranges}
use Rattle.ped_affine.specs.PairViews.{heads_of}
use Rattle.ped_evidence.specs.Levels.{level, levels_inside, levels_of}

pub level_listed : (around ls : List Loop) (rs : List Range) (k : ℕ) (l : Loop) (r : Range) → slice_get ls k ≡ Some l → slice_get rs k ≡ Some r → slice_get (levels_inside around ls rs) k ≡ Some (level (around ++ take k ls) l.head r)
level_listed around [] rs k l r e h = absurd cc
level_listed around (m ∷ ls) [] k l r e h = absurd cc
level_listed around (m ∷ ls) (q ∷ rs) zero l r e h =
    let one : m ≡ l = cc in
    let two : q ≡ r = cc in
    λ i. Some (level (sym (append-nil around) i) (one i).head (two i))
level_listed around (m ∷ ls) (q ∷ rs) (suc k) l r e h =
    level_listed (around ++ m ∷ []) ls rs k l r e h ∙ ap (λ (xs : List Loop). Some (level xs l.head r)) (append_assoc around (m ∷ []) (take k ls))

pub levels_long : (around ls : List Loop) (rs : List Range) → length rs ≡ length ls → length (levels_inside around ls rs) ≡ length ls
levels_long around [] rs e = refl
levels_long around (l ∷ ls) [] e = absurd (omega arith)
levels_long around (l ∷ ls) (r ∷ rs) e = ap suc (levels_long (around ++ l ∷ []) ls rs (omega arith))

ranges_long : (s : Setting) (around : Around) (hs : List Head) → length (ranges_inside s around hs) ≡ length hs
ranges_long s around [] = refl
ranges_long s around (h ∷ hs) = ap suc (ranges_long s (inside around h (loop_range s around h)) hs)

heads_long : (ls : List Loop) → length (heads_of ls) ≡ length ls
heads_long [] = refl
heads_long (l ∷ ls) = ap suc (heads_long ls)

pub levels_of_long : (s : Setting) (nest : List Loop) → length (levels_of s nest) ≡ length nest
levels_of_long s nest = levels_long [] nest (nest_ranges s (heads_of nest)) (ranges_long s [] (heads_of nest) ∙ heads_long nest)

pub ranges_of_long : (s : Setting) (nest : List Loop) → length (nest_ranges s (heads_of nest)) ≡ length nest
ranges_of_long s nest = ranges_long s [] (heads_of nest) ∙ heads_long nest

-- one more item at the end
pub take_next : {X : Type 0} (xs : List X) (i : ℕ) (x : X) → slice_get xs i ≡ Some x → take (i + 1) xs ≡ take i xs ++ x ∷ []
take_next [] i x e = absurd cc
take_next (y ∷ xs) zero x e = let is : y ≡ x = cc in ap (λ z. z ∷ []) is
take_next (y ∷ xs) (suc i) x e =
    let m : suc i + 1 ≡ suc (i + 1) = omega arith in
    ap (λ (j : ℕ). take j (y ∷ xs)) m ∙ ap (λ zs. y ∷ zs) (take_next xs i x e)

pub take_whole : {X : Type 0} (n : ℕ) (xs : List X) → length xs ≤ n → take n xs ≡ xs
take_whole zero [] e = refl
take_whole (suc n) [] e = refl
take_whole zero (x ∷ xs) e = absurd (omega arith)
take_whole (suc n) (x ∷ xs) e = ap (λ zs. x ∷ zs) (take_whole n xs (omega arith))

-- One more line of those that are left.
use Rattle.std.proofs.Common.{◌≡◌, ℕ, suc, ◌+◌, ◌-◌, ◌<◌, List, [], ◌∷◌, ◌++◌, take, drop, true, Option, Some, None, MatchOption, is_some, sym, ap, ◌∙◌, append_assoc, arith}
use Rattle.ped_versions.specs.Splices.{text_of_lines}

-- where something was taken, it was the first
pub taken_first : {A : Type 0} (o : Option A) (now : A → List ℕ) (before after : List (List ℕ)) (Nothing : Type 0) (More : A → Type 0) → is_some o ≡ true
    → MatchOption o Nothing (λ a. (before ≡ now a ∷ after) × More a) → (x : List ℕ) × (before ≡ x ∷ after)
taken_first None now before after Nothing More is h = absurd (grind (arith, is))
taken_first (Some a) now before after Nothing More is h = (now a, h.0)

-- one fewer is left to take
pub one_fewer : (count counter : ℕ) → counter < count → count - counter ≡ suc (count - (counter + 1))
one_fewer count counter h = omega (arith, h)

-- what is left behind one more line
pub drop_one_more : (count counter : ℕ) (x : List ℕ) (before after : List (List ℕ)) → counter < count → before ≡ x ∷ after
    → drop (count - (counter + 1)) after ≡ drop (count - counter) before
drop_one_more count counter x before after h is =
    sym (ap (λ n. drop n (x ∷ after)) (one_fewer count counter h)) ∙ sym (ap (drop (count - counter)) is)

-- a line and the lines that are still to come
pub text_one_more : (count counter : ℕ) (all new x : List ℕ) (before after : List (List ℕ)) → counter < count → before ≡ x ∷ after → new ≡ all ++ x ++ 10 ∷ []
    → new ++ text_of_lines (take (count - (counter + 1)) after) ≡ all ++ text_of_lines (take (count - counter) before)
text_one_more count counter all new x before after h is added =
    let rest = text_of_lines (take (count - (counter + 1)) after) in
    let both : text_of_lines (take (count - counter) before) ≡ (x ++ 10 ∷ []) ++ rest =
    ap (λ ls. text_of_lines (take (count - counter) ls)) is ∙ ap (λ n. text_of_lines (take n (x ∷ after))) (one_fewer count counter h) in
    ap (λ bytes. bytes ++ rest) added ∙ append_assoc (all ++ x) (10 ∷ []) rest ∙ append_assoc all x (10 ∷ rest)
    ∙ sym (ap (λ bytes. all ++ bytes) (append_assoc x (10 ∷ []) rest)) ∙ sym (ap (λ bytes. all ++ bytes) both)

-- A line that counts more than once.
use Rattle.std.proofs.Common.{◌≡◌, ℕ, ◌+◌, List, [], ◌∷◌, ◌++◌, refl, sym, ap, ◌∙◌, arith, append_assoc}
use Rattle.std.specs.Prelude.{replicate}
use Rattle.std.proofs.lemmas.List.{replicate-append-replicate}

pub two_parts : (old : List ℕ) (a b x : ℕ) → old ++ replicate (a + b) x ≡ (old ++ replicate a x) ++ replicate b x
two_parts old a b x = ap (λ (y : List ℕ). old ++ y) (sym (replicate-append-replicate a b x)) ∙ sym (append_assoc old (replicate a x) (replicate b x))

pub line_and_part : (old : List ℕ) (a x : ℕ) → old ++ replicate (a + 1) x ≡ (old ++ x ∷ []) ++ replicate a x
line_and_part old a x =
    let turned : a + 1 ≡ 1 + a = omega arith in
    ap (λ (n : ℕ). old ++ replicate n x) turned ∙ two_parts old 1 a x

pub line_and_parts : (old : List ℕ) (a b x : ℕ) → old ++ replicate (a + b + 1) x ≡ ((old ++ x ∷ []) ++ replicate a x) ++ replicate b x
line_and_parts old a b x = line_and_part old (a + b) x ∙ two_parts (old ++ x ∷ []) a b x

pub one_line : (old : List ℕ) (x : ℕ) → old ++ replicate 1 x ≡ old ++ x ∷ []
one_line old x = refl

pub lines_of_if : (old head part new : List ℕ) (a b n x : ℕ) → n ≡ a + b + 1 → head ≡ old ++ x ∷ [] → part ≡ head ++ replicate a x → new ≡ part ++ replicate b x → new ≡ old ++ replicate n x
lines_of_if old head part new a b n x count p q r = let all = line_and_parts old a b x in cc

pub lines_of_loop : (old head new : List ℕ) (a n x : ℕ) → n ≡ a + 1 → head ≡ old ++ x ∷ [] → new ≡ head ++ replicate a x → new ≡ old ++ replicate n x
lines_of_loop old head new a n x count p q = let all = line_and_part old a x in cc

pub lines_left : (old new all : List ℕ) (a b n x : ℕ) → n ≡ a + b → new ≡ old ++ replicate a x → old ++ replicate n x ≡ all → new ++ replicate b x ≡ all
lines_left old new all a b n x count p q = let both = two_parts old a b x in cc

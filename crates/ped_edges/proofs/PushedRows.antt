-- Rows of the panes, piece by piece.
use Rattle.std.proofs.Common.{◌≡◌, ℕ, List, [], ◌∷◌, ◌++◌, codes, append_assoc, ap, ◌∙◌}
use Rattle.std.proofs.lemmas.List.{append-nil}
use Rattle.std.specs.List.{join_by}

-- eight pieces behind a text, with a blank between two
pub eight_joined : (old a b n k l v d m : List ℕ) →
    (((((((((old ++ (a ++ 32 ∷ [])) ++ (b ++ 32 ∷ [])) ++ n) ++ 32 ∷ (k ++ 32 ∷ [])) ++ l) ++ 32 ∷ []) ++ v) ++ 32 ∷ []) ++ d) ++ 32 ∷ m
    ≡ old ++ join_by (λ part. part) (codes " ") (a ∷ b ∷ n ∷ k ∷ l ∷ v ∷ d ∷ m ∷ [])
eight_joined old a b n k l v d m = simp (append_assoc, append-nil {A = ℕ})

-- eight pieces and the blanks between them, added one by one
pub eight_pushed : (old a b n k l v d m o1 o2 o3 o4 o5 o6 o7 o8 o9 o10 : List ℕ)
    → o1 ≡ old ++ (a ++ 32 ∷ [])
    → o2 ≡ o1 ++ (b ++ 32 ∷ [])
    → o3 ≡ o2 ++ n
    → o4 ≡ o3 ++ 32 ∷ (k ++ 32 ∷ [])
    → o5 ≡ o4 ++ l
    → o6 ≡ o5 ++ 32 ∷ []
    → o7 ≡ o6 ++ v
    → o8 ≡ o7 ++ 32 ∷ []
    → o9 ≡ o8 ++ d
    → o10 ≡ o9 ++ 32 ∷ m
    → o10 ≡ old ++ join_by (λ part. part) (codes " ") (a ∷ b ∷ n ∷ k ∷ l ∷ v ∷ d ∷ m ∷ [])
eight_pushed old a b n k l v d m o1 o2 o3 o4 o5 o6 o7 o8 o9 o10 e1 e2 e3 e4 e5 e6 e7 e8 e9 e10 =
    e10 ∙ ap (λ (x : List ℕ). x ++ 32 ∷ m) (e9 ∙ ap (λ (x : List ℕ). x ++ d) (e8 ∙ ap (λ (x : List ℕ). x ++ 32 ∷ []) (e7 ∙ ap (λ (x : List ℕ). x ++ v) (e6 ∙ ap (λ (x : List ℕ). x ++ 32 ∷ []) (e5 ∙ ap (λ (x : List ℕ). x ++ l) (e4 ∙ ap (λ (x : List ℕ). x ++ 32 ∷ (k ++ 32 ∷ [])) (e3 ∙ ap (λ (x : List ℕ). x ++ n) (e2 ∙ ap (λ (x : List ℕ). x ++ (b ++ 32 ∷ [])) e1))))))))
    ∙ eight_joined old a b n k l v d m

-- a heading, a number and a line end before the rest, added one by one
pub heading_pushed : (old heading digits rest o1 o2 o3 o4 : List ℕ) → o1 ≡ old ++ heading → o2 ≡ o1 ++ digits → o3 ≡ o2 ++ 10 ∷ [] → o4 ≡ o3 ++ rest
    → o4 ≡ old ++ (heading ++ digits ++ 10 ∷ rest)
heading_pushed old heading digits rest o1 o2 o3 o4 a b c d =
    d ∙ ap (λ (x : List ℕ). x ++ rest) (c ∙ ap (λ (x : List ℕ). x ++ 10 ∷ []) (b ∙ ap (λ (x : List ℕ). x ++ digits) a)) ∙ simp append_assoc

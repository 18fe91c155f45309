-- Lines of the pane of calls, piece by piece.
use Rattle.std.proofs.Common.{◌≡◌, ℕ, List, [], ◌∷◌, ◌++◌, codes, append_assoc, ap, ◌∙◌}
use Rattle.std.proofs.lemmas.List.{append-nil}
use Rattle.std.specs.List.{join_by}

-- five pieces behind a text, with a blank between two
five_joined : (old a b c d e : List ℕ) → ((((((((old ++ a) ++ 32 ∷ []) ++ b) ++ 32 ∷ []) ++ c) ++ 32 ∷ []) ++ d) ++ 32 ∷ []) ++ e ≡ old ++ join_by (λ part. part) (codes " ") (a ∷ b ∷ c ∷ d ∷ e ∷ [])
five_joined old a b c d e = simp (append_assoc, append-nil {A = ℕ})

-- five pieces and the blanks between them, added one by one
pub five_pushed : (old a b c d e o1 o2 o3 o4 o5 o6 o7 o8 o9 : List ℕ) → o1 ≡ old ++ a → o2 ≡ o1 ++ 32 ∷ [] → o3 ≡ o2 ++ b → o4 ≡ o3 ++ 32 ∷ [] → o5 ≡ o4 ++ c → o6 ≡ o5 ++ 32 ∷ [] → o7 ≡ o6 ++ d → o8 ≡ o7 ++ 32 ∷ [] → o9 ≡ o8 ++ e
    → o9 ≡ old ++ join_by (λ part. part) (codes " ") (a ∷ b ∷ c ∷ d ∷ e ∷ [])
five_pushed old a b c d e o1 o2 o3 o4 o5 o6 o7 o8 o9 e1 e2 e3 e4 e5 e6 e7 e8 e9 =
    e9 ∙ ap (λ (x : List ℕ). x ++ e) (e8 ∙ ap (λ (x : List ℕ). x ++ 32 ∷ []) (e7 ∙ ap (λ (x : List ℕ). x ++ d) (e6 ∙ ap (λ (x : List ℕ). x ++ 32 ∷ []) (e5 ∙ ap (λ (x : List ℕ). x ++ c) (e4 ∙ ap (λ (x : List ℕ). x ++ 32 ∷ []) (e3 ∙ ap (λ (x : List ℕ). x ++ b) (e2 ∙ ap (λ (x : List ℕ). x ++ 32 ∷ []) e1)))))))
    ∙ five_joined old a b c d e

-- the line of the counts, added one by one
pub counts_pushed : (old a b c d o1 o2 o3 o4 o5 : List ℕ) → o1 ≡ old ++ a → o2 ≡ o1 ++ b → o3 ≡ o2 ++ c → o4 ≡ o3 ++ d → o5 ≡ o4 ++ 10 ∷ [] → o5 ≡ old ++ (a ++ b ++ c ++ d ++ 10 ∷ [])
counts_pushed old a b c d o1 o2 o3 o4 o5 e1 e2 e3 e4 e5 =
    e5 ∙ ap (λ (x : List ℕ). x ++ 10 ∷ []) (e4 ∙ ap (λ (x : List ℕ). x ++ d) (e3 ∙ ap (λ (x : List ℕ). x ++ c) (e2 ∙ ap (λ (x : List ℕ). x ++ b) e1))) ∙ simp append_assoc

-- the line of the counts, and the other lines behind it
pub pane_pushed : (a b c d calls rows o1 o2 o3 : List ℕ) → o1 ≡ [] ++ (a ++ b ++ c ++ d ++ 10 ∷ []) → o2 ≡ o1 ++ calls → o3 ≡ o2 ++ rows → o3 ≡ a ++ b ++ c ++ d ++ 10 ∷ (calls ++ rows)
pane_pushed a b c d calls rows o1 o2 o3 e1 e2 e3 = e3 ∙ ap (λ (x : List ℕ). x ++ rows) (e2 ∙ ap (λ (x : List ℕ). x ++ calls) e1) ∙ simp append_assoc

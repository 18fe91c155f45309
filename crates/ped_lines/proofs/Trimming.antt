-- Blanks and carriage returns at the end of a text.
use Rattle.std.proofs.Common.{◌≡◌, ℕ, ◌+◌, ◌<◌, Bool, true, false, cond, List, [], ◌∷◌, ◌++◌, length, take, get_or, refl, ap, sym, ◌∙◌, eqb}
use Rattle.std.specs.Prelude.{◌||◌}
use Rattle.std.proofs.lemmas.List.{take_more}
use Rattle.ped_tree.specs.Grammar.Grouping.{with_rest, trimmed}

-- one blank or carriage return more at the end means nothing
pub trimmed_more : (front : List ℕ) (c : ℕ) → (eqb c 32 || eqb c 13) ≡ true → trimmed (front ++ c ∷ []) ≡ trimmed front
trimmed_more [] c h = ap (λ (b : Bool). cond b [] (c ∷ [])) h
trimmed_more (d ∷ front) c h = ap (with_rest d) (trimmed_more front c h)

with_rest_kept : (d : ℕ) (front : List ℕ) (c : ℕ) → with_rest d (front ++ c ∷ []) ≡ d ∷ (front ++ c ∷ [])
with_rest_kept d [] c = refl
with_rest_kept d (e ∷ front) c = refl

-- nothing is left out before another byte
pub trimmed_kept : (front : List ℕ) (c : ℕ) → (eqb c 32 || eqb c 13) ≡ false → trimmed (front ++ c ∷ []) ≡ front ++ c ∷ []
trimmed_kept [] c h = ap (λ (b : Bool). cond b [] (c ∷ [])) h
trimmed_kept (d ∷ front) c h = ap (with_rest d) (trimmed_kept front c h) ∙ with_rest_kept d front c

-- the front is trimmed alike without such a byte at its end
pub shorter : (text : List ℕ) (e end : ℕ) → end ≡ e + 1 → e < length text → (eqb (get_or text e 0) 32 || eqb (get_or text e 0) 13) ≡ true → trimmed (take e text) ≡ trimmed (take end text)
shorter text e end same inside h =
    sym (ap (λ (n : ℕ). trimmed (take n text)) same ∙ ap trimmed (take_more text e 0 inside) ∙ trimmed_more (take e text) (get_or text e 0) h)

-- and not trimmed where it ends with another byte
pub ended_front : (text : List ℕ) (e end : ℕ) → end ≡ e + 1 → e < length text → (eqb (get_or text e 0) 32 || eqb (get_or text e 0) 13) ≡ false → take end text ≡ trimmed (take end text)
ended_front text e end same inside h =
    let parts : take end text ≡ take e text ++ get_or text e 0 ∷ [] = ap (λ (n : ℕ). take n text) same ∙ take_more text e 0 inside in
    parts ∙ sym (ap trimmed parts ∙ trimmed_kept (take e text) (get_or text e 0) h)

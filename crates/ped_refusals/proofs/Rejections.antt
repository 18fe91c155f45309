-- A directive that rejects a name.
use Rattle.std.proofs.Common.{◌≡◌, ℕ, List, [], ◌∷◌, Bool, true, false, ◌&&◌, take, drop, length, codes, eqb, eqb-true, refl, ap, ◌∙◌, sym, arith, Option, Some, None, if◌then◌else◌}
use Rattle.std.specs.Cmp.Lexicographic.{pointwise}
use Rattle.ped_tree.specs.Grammar.Words.{is_name}
use Rattle.ped_tree.specs.Grammar.Occurrences.{is_rejection}
use Rattle.ped_expressions.specs.Scanning.{after, go_on}

eqb_flip : (m n : ℕ) → eqb m n ≡ eqb n m
eqb_flip m n = grind (arith, eqb-true)

-- what follows a prefix is what stands behind as many characters, where those are the prefix
after_front : (prefix text : List ℕ) → after prefix text ≡ (if pointwise eqb (take (length prefix) text) prefix then Some (drop (length prefix) text) else None)
after_front [] text = refl
after_front (p ∷ ps) [] = refl
after_front (p ∷ ps) (c ∷ cs) =
    let go : (b : Bool) → (if b then after ps cs else None) ≡ (if b && pointwise eqb (take (length ps) cs) ps then Some (drop (length ps) cs) else None) = λ b. elim b as (λ b. (if b then after ps cs else None) ≡ (if b && pointwise eqb (take (length ps) cs) ps then Some (drop (length ps) cs) else None)) [
      | true ↦ after_front ps cs
      | false ↦ refl
    ] in
    ap (λ (b : Bool). if b then after ps cs else None) (eqb_flip p c) ∙ go (eqb c p)

named : (b : Bool) (rest : List ℕ) → go_on (if b then Some rest else None) None (λ (r : List ℕ). if is_name r then Some r else None) ≡ (if b && is_name rest then Some rest else None)
named true rest = refl
named false rest = refl

pub reject_and_name : (text : List ℕ) → (if is_rejection text then Some (drop 6 text) else None) ≡ go_on (after (codes "REJECT") text) None (λ (r : List ℕ). if is_name r then Some r else None)
reject_and_name text = sym (ap (λ (o : Option (List ℕ)). go_on o None (λ (r : List ℕ). if is_name r then Some r else None)) (after_front (codes "REJECT") text) ∙ named (pointwise eqb (take 6 text) (codes "REJECT")) (drop 6 text))

-- Constants in their order.
use Rattle.std.proofs.Common.{◌≡◌, ℕ, zero, suc, ◌+◌, ℤ, List, [], ◌∷◌, drop, slice_get, Option, Some, None, if◌then◌else◌, Bool, true, false, refl, sym, ap, ◌∙◌, arith}
use Rattle.std.proofs.lemmas.Option.{same_Some}
use Rattle.ped_base.specs.Lists.{is_same_text}
use Rattle.ped_tree.specs.Constants.NamedConstants.{value_named}

-- the value of a name among the constants from a place on, by the constant at that place
pub named_from : (cs : List (List ℕ × ℤ)) (i : ℕ) (c : List ℕ × ℤ) (x : List ℕ) → slice_get cs i ≡ Some c
    → value_named (drop i cs) x ≡ (if is_same_text x c.0 then Some c.1 else value_named (drop (i + 1) cs) x)
named_from [] i c x h = absurd cc
named_from (d ∷ cs) zero c x h = ap (λ (e : List ℕ × ℤ). if is_same_text x e.0 then Some e.1 else value_named cs x) (same_Some d c h)
named_from (d ∷ cs) (suc i) c x h =
    let next : suc (i + 1) ≡ suc i + 1 = omega arith in
    named_from cs i c x h ∙ ap (λ (k : ℕ). if is_same_text x c.0 then Some c.1 else value_named (drop k (d ∷ cs)) x) next

-- the constant at a place has the name
pub named_found : (cs : List (List ℕ × ℤ)) (i : ℕ) (c : List ℕ × ℤ) (x : List ℕ) (v : ℤ) → Some c ≡ slice_get cs i → Some v ≡ (if is_same_text x c.0 then Some c.1 else None) → Some v ≡ value_named (drop i cs) x
named_found cs i c x v h k = go (is_same_text x c.0) k ∙ sym (named_from cs i c x (sym h))
  where
    go : (b : Bool) → Some v ≡ (if b then Some c.1 else None) → Some v ≡ (if b then Some c.1 else value_named (drop (i + 1) cs) x)
    go true k = k
    go false k = absurd cc

-- it has another name
pub named_passed : (cs : List (List ℕ × ℤ)) (i : ℕ) (c : List ℕ × ℤ) (x : List ℕ) → Some c ≡ slice_get cs i → None ≡ (if is_same_text x c.0 then Some c.1 else None) → value_named (drop (i + 1) cs) x ≡ value_named (drop i cs) x
named_passed cs i c x h k = go (is_same_text x c.0) k ∙ sym (named_from cs i c x (sym h))
  where
    go : (b : Bool) → None ≡ (if b then Some c.1 else None) → value_named (drop (i + 1) cs) x ≡ (if b then Some c.1 else value_named (drop (i + 1) cs) x)
    go true k = absurd cc
    go false k = refl

-- Lists woven of rows, one for each of some numbers, as the trips of a loop.
use Rattle.std.proofs.Common.{◌≡◌, ℕ, List, [], ◌∷◌, ◌++◌, refl, sym, ap, ◌∙◌, inl, inr, append_assoc}
use Rattle.std.specs.List.{flat_map}
use Rattle.ped_laws.specs.ped_store.specs.Acts.{Act}
use Rattle.ped_laws.specs.Acts.Orders.{IsIn}
use Rattle.ped_laws.specs.Acts.Grids.{block_at}
use Rattle.ped_laws.proofs.ActLaws.Lists.{in_parts}
use Rattle.ped_weaves.specs.Weaves.{Knot, block, control, knotted, blocks_in}

-- knots and then others
pub knotted_append : (acts : ℕ → ℕ → List Act) (ks ls : List Knot) → knotted acts (ks ++ ls) ≡ knotted acts ks ++ knotted acts ls
knotted_append acts [] ls = refl
knotted_append acts (block i j ∷ ks) ls = ap (λ z. acts i j ++ z) (knotted_append acts ks ls) ∙ sym (append_assoc (acts i j) (knotted acts ks) (knotted acts ls))
knotted_append acts (control c ∷ ks) ls = ap (λ z. c ++ z) (knotted_append acts ks ls) ∙ sym (append_assoc c (knotted acts ks) (knotted acts ls))

pub blocks_append : (acts : ℕ → ℕ → List Act) (ks ls : List Knot) → blocks_in acts (ks ++ ls) ≡ blocks_in acts ks ++ blocks_in acts ls
blocks_append acts [] ls = refl
blocks_append acts (block i j ∷ ks) ls = ap (λ z. block_at acts i j ∷ z) (blocks_append acts ks ls)
blocks_append acts (control c ∷ ks) ls = blocks_append acts ks ls

-- rows, one behind the other
pub knotted_rows : (acts : ℕ → ℕ → List Act) (row : ℕ → List Knot) (ns : List ℕ) → knotted acts (flat_map row ns) ≡ flat_map (λ n. knotted acts (row n)) ns
knotted_rows acts row [] = refl
knotted_rows acts row (n ∷ ns) = knotted_append acts (row n) (flat_map row ns) ∙ ap (λ z. knotted acts (row n) ++ z) (knotted_rows acts row ns)

pub blocks_rows : (acts : ℕ → ℕ → List Act) (row : ℕ → List Knot) (ns : List ℕ) → blocks_in acts (flat_map row ns) ≡ flat_map (λ n. blocks_in acts (row n)) ns
blocks_rows acts row [] = refl
blocks_rows acts row (n ∷ ns) = blocks_append acts (row n) (flat_map row ns) ∙ ap (λ z. blocks_in acts (row n) ++ z) (blocks_rows acts row ns)

-- a knot stands in a row
pub in_row : (row : ℕ → List Knot) (ns : List ℕ) (k : Knot) → IsIn k (flat_map row ns) → (n : ℕ) × IsIn n ns × IsIn k (row n)
in_row row [] k i = absurd i
in_row row (n ∷ ns) k i = elim (in_parts k (row n) (flat_map row ns) i) [
  | inl h ↦ (n, inl refl, h)
  | inr h ↦ let r = in_row row ns k h in (r.0, inr r.1, r.2)
]

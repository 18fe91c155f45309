-- Vectors are a product where they begin with it and nothing stands behind.
use Rattle.std.proofs.Common.{◌≡◌, Bool, false, eqb, Decides, List, [], ◌∷◌, ◌++◌, length, refl, sym, ap, ◌∙◌, arith}
use Rattle.std.proofs.lemmas.Bool.{eqb-true, eq-eqb, false≢true}
use Rattle.std.proofs.lemmas.Bool.Decides.{same_from_decides}
use Rattle.std.proofs.lemmas.List.{append-nil, append_cancel_left, map-id}
use Rattle.std.specs.Cmp.Lexicographic.{pointwise}
use Rattle.ped_views.specs.declared.directions.Direction.{Direction}
use Rattle.ped_edges.specs.Rows.{are_signs, product}
use Rattle.ped_edges.specs.CodeSigns.{begun_with, DontBegin}
use Rattle.ped_edges.proofs.Directions.{are_vectors-decides}

-- all vectors behind no front
behind_nothing : (front : List Direction) (places : List (List Direction)) → front ≡ [] → begun_with front places ≡ product places
behind_nothing front places e = ap (λ (f : List Direction). begun_with f places) e ∙ map-id (product places)

none_left : (rest : List (List Direction)) → length rest ≡ 0 → rest ≡ []
none_left [] e = refl
none_left (v ∷ rest) e = absurd (omega (arith, e))

-- the vectors begin with the product
pub begins : (front : List Direction) (places vectors rest : List (List Direction)) (r : Bool)
    → front ≡ [] → vectors ≡ begun_with front places ++ rest → r ≡ eqb (length rest) 0 → r ≡ pointwise are_signs (product places) vectors
begins front places vectors rest r e v t =
    let p : List (List Direction) = product places in
    let w : vectors ≡ p ++ rest = v ∙ ap (λ (x : List (List Direction)). x ++ rest) (behind_nothing front places e) in
    let all : Decides r (p ≡ vectors) = (
      (λ h. sym (w ∙ ap (λ (x : List (List Direction)). p ++ x) (none_left rest (eqb-true (length rest) 0 (sym t ∙ h))) ∙ append-nil p)),
      (λ h. t ∙ eq-eqb (length rest) 0 (ap length (append_cancel_left p rest [] (sym w ∙ sym h ∙ sym (append-nil p))))),
    ) in
    same_from_decides r (pointwise are_signs p vectors) all (are_vectors-decides p vectors)

-- the vectors don't begin with the product
pub begins_not : (front : List Direction) (places vectors : List (List Direction))
    → front ≡ [] → DontBegin (begun_with front places) vectors → false ≡ pointwise are_signs (product places) vectors
begins_not front places vectors e h =
    let p : List (List Direction) = product places in
    let none : Decides false (p ≡ vectors) = (
      (λ f. absurd (false≢true f)),
      (λ f. absurd (h [] (sym f ∙ sym (behind_nothing front places e) ∙ sym (append-nil (begun_with front places))))),
    ) in
    same_from_decides false (pointwise are_signs p vectors) none (are_vectors-decides p vectors)

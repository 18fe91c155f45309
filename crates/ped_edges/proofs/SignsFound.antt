-- The signs of all places.
use Rattle.std.proofs.Common.{◌≡◌, ◌<◌, ◌≤◌, ℕ, List, map, length, get_or, take, ap, ◌∙◌, arith}
use Rattle.std.proofs.lemmas.List.{length-map, length-take-le, get_or-map, get_or-take}
use Rattle.std.proofs.lemmas.List.FromFn.{fill_by_all}
use Rattle.ped_views.specs.declared.directions.Direction.{Direction}
use Rattle.ped_edges.specs.Rows.{signs_at, all_signs}
use Rattle.ped_edges.specs.CodeSigns.{signs_of}
use Rattle.ped_edges.specs.declared.signs.Signs.{Signs}

-- the signs of all places, found one by one
pub all_found : (places : ℕ) (vectors : List (List Direction)) (signs : List Signs) (none : Signs) → places ≤ 6 → length signs ≡ 6
    → ((k : ℕ) → k < places → signs_of (get_or signs k none) ≡ signs_at vectors k)
    → map signs_of (take places signs) ≡ all_signs places vectors
all_found places vectors signs none few long found =
    let l : length (take places signs) ≡ places = length-take-le places signs (omega arith) in
    fill_by_all (signs_at vectors) (map signs_of (take places signs)) places (signs_of none) (length-map (take places signs) signs_of ∙ l)
    (λ k h. get_or-map signs_of (take places signs) k none (signs_of none) (omega arith) ∙ ap signs_of (get_or-take places signs k none h) ∙ found k h)

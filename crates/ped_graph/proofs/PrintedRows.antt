-- The rows of dependences, added one by one.
use Rattle.std.proofs.Common.{◌≡◌, ℕ, ◌+◌, ◌≤◌, List, [], ◌∷◌, ◌++◌, length, append_assoc, length-append, ap, sym, ◌∙◌, arith}
use Rattle.std.proofs.lemmas.Grind.{flat_map-append}
use Rattle.ped_edges.specs.Edges.{Edge}
use Rattle.ped_edges.specs.Rows.{edge_row}
use Rattle.ped_graph.specs.HeldPairs.{rows_of}

-- a heading, a number and a line feed before the rest
pub heading_pushed : (heading digits rest o0 o1 o2 o3 o4 : List ℕ) → o0 ≡ [] → o1 ≡ o0 ++ heading → o2 ≡ o1 ++ digits → o3 ≡ o2 ++ 10 ∷ [] → o4 ≡ o3 ++ rest
    → o4 ≡ heading ++ digits ++ 10 ∷ rest
heading_pushed heading digits rest o0 o1 o2 o3 o4 z a b c d =
    d ∙ ap (λ (x : List ℕ). x ++ rest) (c ∙ ap (λ (x : List ℕ). x ++ 10 ∷ []) (b ∙ ap (λ (x : List ℕ). x ++ digits) (a ∙ ap (λ (x : List ℕ). x ++ heading) z))) ∙ simp append_assoc

-- each dependence has a row
pub few_rows : (edges : List Edge) → length edges ≤ length (rows_of edges)
few_rows [] = omega arith
few_rows (e ∷ edges) =
    let rest = few_rows edges in
    let joined = length-append (edge_row e ++ 10 ∷ []) (rows_of edges) in
    let row = length-append (edge_row e) (10 ∷ []) in
    omega (arith, rest, joined, row)

-- the rows of more dependences
pub rows_more : (found added : List Edge) (old new : List ℕ) → old ≡ rows_of found → new ≡ old ++ rows_of added → new ≡ rows_of (found ++ added)
rows_more found added old new before more =
    more ∙ ap (λ (x : List ℕ). x ++ rows_of added) before ∙ sym (flat_map-append (λ e. edge_row e ++ 10 ∷ []) found added)

-- no more dependences than bytes
pub few_counted : (count : ℕ) (found added : List Edge) (old new : List ℕ) → count ≡ length found → old ≡ rows_of found → new ≡ old ++ rows_of added → count + length added ≤ length new
few_counted count found added old new many before more =
    let long = ap (λ (x : List ℕ). length x) (rows_more found added old new before more) in
    let few = few_rows (found ++ added) in
    let both = length-append found added in
    omega (arith, long, few, both, many)

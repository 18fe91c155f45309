-- Pieces of 66 characters, each filled with blanks, put together again.
use Rattle.std.proofs.Common.{◌≡◌, ℕ, suc, zero, ◌+◌, ◌-◌, ◌*◌, ◌≤◌, ◌⊎◌, inl, inr, List, ◌++◌, length, take, drop, replicate, ap, sym, ◌∙◌, append_assoc, arith}
use Rattle.std.specs.List.{flat_map, range_with_len}
use Rattle.std.proofs.lemmas.List.{append-nil, length-take, length-drop, take_all, drop_all, drop_at, drop-drop, take-append-drop, replicate-append-replicate}
use Rattle.ped_tree.specs.Grammar.Columns.{statement_columns}
use Rattle.ped_tree.specs.Printing.{piece, piece_count}

-- filled with blanks up to 66 characters
abbrev pub filled : List ℕ → List ℕ
filled p = p ++ replicate (66 - length p) 32

pub piece_short : (cs : List ℕ) (k : ℕ) → length (piece cs k) ≤ 66
piece_short cs k = omega (arith, length-take 66 (drop (66 * k) cs))

-- behind a field of six columns
pub columns_behind : (field p : List ℕ) → length field ≡ 6 → length p ≤ 66 → statement_columns (field ++ p) ≡ filled p
unfolding statement_columns
columns_behind field p six short =
    ap (λ (q : List ℕ). filled (take 66 q)) (drop_at field p 6 six) ∙ ap filled (take_all 66 p short)

long_front : (d : List ℕ) (a b : ℕ) → 66 ≤ length d → a ≡ b → filled (take 66 d) ++ (drop 66 d ++ replicate a 32) ≡ d ++ replicate b 32
long_front d a b long same =
    let full : 66 - length (take 66 d) ≡ 0 = omega (arith, length-take 66 d) in
    ap (λ (n : ℕ). (take 66 d ++ replicate n 32) ++ (drop 66 d ++ replicate a 32)) full
    ∙ ap (λ (x : List ℕ). x ++ (drop 66 d ++ replicate a 32)) (append-nil (take 66 d))
    ∙ sym (append_assoc (take 66 d) (drop 66 d) (replicate a 32))
    ∙ ap (λ (x : List ℕ). x ++ replicate a 32) (take-append-drop 66 d)
    ∙ ap (λ (n : ℕ). d ++ replicate n 32) same

short_front : (d : List ℕ) (a b : ℕ) → length d ≤ 66 → (66 - length d) + a ≡ b → filled (take 66 d) ++ (drop 66 d ++ replicate a 32) ≡ d ++ replicate b 32
short_front d a b short same =
    ap (λ (x : List ℕ). filled x ++ (drop 66 d ++ replicate a 32)) (take_all 66 d short)
    ∙ ap (λ (x : List ℕ). filled d ++ (x ++ replicate a 32)) (drop_all 66 d short)
    ∙ append_assoc d (replicate (66 - length d) 32) (replicate a 32)
    ∙ ap (λ (x : List ℕ). d ++ x) (replicate-append-replicate (66 - length d) a 32)
    ∙ ap (λ (n : ℕ). d ++ replicate n 32) same

order : (a b : ℕ) → (a ≤ b) ⊎ (b ≤ a)
order zero b = inl (omega arith)
order (suc a) zero = inr (omega arith)
order (suc a) (suc b) = elim (order a b) [ inl h ↦ inl (omega arith) | inr h ↦ inr (omega arith) ]

-- the pieces from number k on
pub pieces_joined : (cs : List ℕ) (k n : ℕ) → length cs ≤ 66 * (k + n) → flat_map (λ k. filled (piece cs k)) (range_with_len k n) ≡ drop (66 * k) cs ++ replicate (66 * n - (length cs - 66 * k)) 32
pieces_joined cs k zero enough =
    let none : 66 * zero - (length cs - 66 * k) ≡ 0 = omega arith in
    sym ((λ i. drop_all (66 * k) cs (omega arith) i ++ replicate (none i) 32))
pieces_joined cs k (suc n) enough =
    let d = drop (66 * k) cs in
    let long : length d ≡ length cs - 66 * k = length-drop (66 * k) cs in
    let next : drop (66 * (k + 1)) cs ≡ drop 66 d = ap (λ (m : ℕ). drop m cs) (omega arith) ∙ sym (drop-drop 66 (66 * k) cs) in
    let a = 66 * n - (length cs - 66 * (k + 1)) in
    let b = 66 * suc n - (length cs - 66 * k) in
    ap (λ (x : List ℕ). filled (take 66 d) ++ x) (pieces_joined cs (k + 1) n (omega arith) ∙ ap (λ (x : List ℕ). x ++ replicate a 32) next)
    ∙ elim (order 66 (length d)) [
      | inl h ↦ long_front d a b h (omega (arith, long))
      | inr h ↦ short_front d a b h (omega (arith, long))
    ]

-- how many blanks stand behind the last piece
abbrev pub blanks_behind : List ℕ → ℕ
blanks_behind cs = 66 * suc (piece_count cs - 1) - length cs

-- all of them, with the blanks behind the last
pub pieces_back : (cs : List ℕ) → flat_map (λ k. filled (piece cs k)) (range_with_len 0 (suc (piece_count cs - 1))) ≡ cs ++ replicate (blanks_behind cs) 32
pieces_back cs =
    let n = suc (piece_count cs - 1) in
    pieces_joined cs 0 n (omega arith) ∙ ap (λ (m : ℕ). cs ++ replicate m 32) (omega arith)

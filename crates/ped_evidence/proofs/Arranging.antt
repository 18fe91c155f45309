-- The values of what the layout names: indices, quotients, symbols, and forms over all unknowns.
use Rattle.std.proofs.Common.{◌≡◌, ℕ, zero, suc, ◌+◌, ◌-◌, ◌<◌, ◌≤◌, refl, sym, ap, ◌∙◌, arith, ℤ, pos, ◌*ℤ◌, List, [], ◌∷◌, ◌++◌, length, replicate, take, drop, get_or, append_assoc}
use Rattle.std.proofs.lemmas.List.{length-take-le, drop-drop, get_or-drop}
use Rattle.ped_views.proofs.Products.{linear}
use Rattle.ped_certificates.specs.Rows.{dot}
use Rattle.ped_affine.specs.AffineForms.{AffineForm}
use Rattle.ped_evidence.specs.Levels.{Level}
use Rattle.ped_evidence.specs.Layouts.{Columns, width, index, steps, symbol, widened}
use Rattle.ped_evidence.specs.Facts.{Values, in_order, AreFor, value_by, IsComplete}
use Rattle.ped_evidence.proofs.Weighing.{form_value, dot-behind, dot-append, value-multiple, value-unknown}

-- ---- places in lists

get_there : (k n : ℕ) (xs ys : List ℤ) (x : ℤ) (rest : List ℤ) → n ≡ length ys → drop k xs ≡ ys ++ (x ∷ rest) → get_or xs (k + n) (pos 0) ≡ x
get_there k n xs ys x rest e h = sym (through k n xs) ∙ (ap (λ (zs : List ℤ). get_or zs n (pos 0)) h ∙ at n ys e)
  where
    through : (k n : ℕ) (xs : List ℤ) → get_or (drop k xs) n (pos 0) ≡ get_or xs (k + n) (pos 0)
    through k n xs = get_or-drop k xs n (pos 0)

    at : (n : ℕ) (ys : List ℤ) → n ≡ length ys → get_or (ys ++ (x ∷ rest)) n (pos 0) ≡ x
    at zero [] e = refl
    at zero (y ∷ ys) e = absurd (omega arith)
    at (suc n) [] e = absurd (omega arith)
    at (suc n) (y ∷ ys) e = at n ys (omega arith)

get_in : (k n : ℕ) (xs ys rest : List ℤ) → drop k xs ≡ ys ++ rest → n < length ys → get_or xs (k + n) (pos 0) ≡ get_or ys n (pos 0)
get_in k n xs ys rest h l = sym (get_or-drop k xs n (pos 0)) ∙ (ap (λ (zs : List ℤ). get_or zs n (pos 0)) h ∙ at n ys l)
  where
    at : (n : ℕ) (ys : List ℤ) → n < length ys → get_or (ys ++ rest) n (pos 0) ≡ get_or ys n (pos 0)
    at n [] l = absurd (omega arith)
    at zero (y ∷ ys) l = refl
    at (suc n) (y ∷ ys) l = at n ys (omega arith)

pub drop_front : (n : ℕ) (xs ys : List ℤ) → n ≡ length xs → drop n (xs ++ ys) ≡ ys
drop_front zero [] ys e = refl
drop_front zero (x ∷ xs) ys e = absurd (omega arith)
drop_front (suc n) [] ys e = absurd (omega arith)
drop_front (suc n) (x ∷ xs) ys e = drop_front n xs ys (omega arith)

-- values behind those for which there is a coefficient don't count
dot-front : (cs xs ys : List ℤ) → length cs ≤ length xs → dot cs (xs ++ ys) ≡ dot cs xs
dot-front [] xs ys h = refl
dot-front (a ∷ cs) [] ys h = absurd (omega arith)
dot-front (a ∷ cs) (x ∷ xs) ys h = let k = dot-front cs xs ys (omega arith) in omega (arith, linear)

module _ (c : Columns) (w : Values) (fit : AreFor c w) where
  abbrev all : List ℤ
  all = in_order w

  -- the unknowns of the sink, of the quotients and of the symbols begin behind those before them
  pub sink_behind : drop c.source all ≡ w.sink ++ (w.quotients ++ w.symbols)
  sink_behind = drop_front c.source w.source (w.sink ++ (w.quotients ++ w.symbols)) (sym fit.source)

  quotients_behind : drop (c.source + c.sink) all ≡ w.quotients ++ w.symbols
  quotients_behind =
      sym (drop-drop c.sink c.source all) ∙ (ap (drop c.sink) sink_behind ∙ drop_front c.sink w.sink (w.quotients ++ w.symbols) (sym fit.sink))

  symbols_behind : drop (c.source + c.sink + c.quotients) all ≡ w.symbols
  symbols_behind =
      sym (drop-drop c.quotients (c.source + c.sink) all) ∙ (ap (drop c.quotients) quotients_behind ∙ drop_front c.quotients w.quotients w.symbols (sym fit.quotients))

  pub index_value : (before : ℕ) (v : Level) (loops rest : List ℤ) (x : ℤ) → length v.around ≡ length loops → drop before all ≡ loops ++ (x ∷ rest) → form_value (index c before v) all ≡ x
  index_value before v loops rest x e h =
      value-unknown (width c) (before + length v.around + 1) (before + length v.around) all (omega arith) ∙ get_there before (length v.around) all loops x rest e h

  -- the same by its place among the values of its side
  pub index_at : (before : ℕ) (v : Level) (values rest : List ℤ) → length v.around < length values → drop before all ≡ values ++ rest → form_value (index c before v) all ≡ get_or values (length v.around) (pos 0)
  index_at before v values rest l h =
      let n = length v.around in
      let split = parts n values l in
      index_value before v (take n values) (drop (n + 1) values ++ rest) (get_or values n (pos 0)) (sym (length-take-le n values (omega (arith, l))))
      (h ∙ (ap (λ (xs : List ℤ). xs ++ rest) split ∙ append_assoc (take n values) (get_or values n (pos 0) ∷ drop (n + 1) values) rest))
    where
      parts : (n : ℕ) (values : List ℤ) → n < length values → values ≡ take n values ++ (get_or values n (pos 0) ∷ drop (n + 1) values)
      parts n [] l = absurd (omega arith)
      parts zero (x ∷ values) l = refl
      parts (suc n) (x ∷ values) l =
          let m : suc n + 1 ≡ suc (n + 1) = omega arith in
          ap (λ (xs : List ℤ). x ∷ xs) (parts n values (omega arith)) ∙ ap (λ (j : ℕ). x ∷ (take n values ++ (get_or values n (pos 0) ∷ drop j (x ∷ values)))) (sym m)

  pub steps_value : (q : ℕ) (m : ℤ) → q < c.quotients → form_value (steps c q m) all ≡ m *ℤ get_or w.quotients q (pos 0)
  steps_value q m l =
      value-multiple (width c) (c.source + c.sink + q + 1) (c.source + c.sink + q) m all (omega arith)
      ∙ ap (λ (z : ℤ). m *ℤ z) (get_in (c.source + c.sink) q all w.quotients w.symbols quotients_behind (omega (arith, fit.quotients)))

  pub symbol_value : (k : ℕ) → k < c.symbols → form_value (symbol c k) all ≡ get_or w.symbols k (pos 0)
  symbol_value k l =
      value-unknown (width c) (c.source + c.sink + c.quotients + k + 1) (c.source + c.sink + c.quotients + k) all (omega arith)
      ∙ (sym (get_or-drop (c.source + c.sink + c.quotients) all k (pos 0)) ∙ ap (λ (xs : List ℤ). get_or xs k (pos 0)) symbols_behind)

  -- the value of a form over all unknowns is that over the loops of its side and the symbols
  pub widened_value : (before d : ℕ) (loops rest : List ℤ) (f : AffineForm) → d ≡ length loops → drop before all ≡ loops ++ rest → before + d ≤ c.source + c.sink → IsComplete loops w.symbols f
      → form_value (widened c before d f) all ≡ value_by loops w.symbols f
  widened_value before d loops rest f e h l complete =
      let cs : List ℤ = f.coefficients in
      let m : ℕ = c.source + c.sink + c.quotients - (before + d) in
      let long : length (take d cs) ≡ d = length-take-le d cs (omega (arith, e, complete)) in
      let parts : dot (widened c before d f).coefficients all ≡ dot (replicate before (pos 0) ++ (take d cs ++ (replicate m (pos 0) ++ drop d cs))) all =
      ap (λ (zs : List ℤ). dot zs all) (append_assoc (replicate before (pos 0) ++ take d cs) (replicate m (pos 0)) (drop d cs) ∙ append_assoc (replicate before (pos 0)) (take d cs) (replicate m (pos 0) ++ drop d cs)) in
      let one = dot-behind before (take d cs ++ (replicate m (pos 0) ++ drop d cs)) all in
      let two = dot-append (take d cs) (replicate m (pos 0) ++ drop d cs) (drop before all) in
      let three = dot-behind m (drop d cs) (drop (length (take d cs)) (drop before all)) in
      let there : before + d + m ≡ c.source + c.sink + c.quotients = omega (arith, l) in
      let behind : drop m (drop (length (take d cs)) (drop before all)) ≡ w.symbols =
      ap (λ (k : ℕ). drop m (drop k (drop before all))) long ∙ (ap (drop m) (drop-drop d before all) ∙ (drop-drop m (before + d) all ∙ (ap (λ (k : ℕ). drop k all) there ∙ symbols_behind))) in
      let front : dot (take d cs) (drop before all) ≡ dot (take d cs) loops = ap (dot (take d cs)) h ∙ dot-front (take d cs) loops rest (omega (arith, long, e)) in
      let last : dot (drop d cs) (drop m (drop (length (take d cs)) (drop before all))) ≡ dot (drop d cs) w.symbols = ap (dot (drop d cs)) behind in
      let loops_first : dot (take d cs) loops ≡ dot (take (length loops) cs) loops = ap (λ (k : ℕ). dot (take k cs) loops) e in
      let symbols_last : dot (drop d cs) w.symbols ≡ dot (drop (length loops) cs) w.symbols = ap (λ (k : ℕ). dot (drop k cs) w.symbols) e in
      omega (arith, linear)

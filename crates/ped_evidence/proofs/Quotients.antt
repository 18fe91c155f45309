-- The quotients of a system: whole numbers for each loop that has one.
use Rattle.std.proofs.Common.{◌≡◌, ℕ, zero, suc, ◌+◌, refl, sym, ap, ◌∙◌, subst, arith, ℤ, pos, ◌+ℤ◌, ◌*ℤ◌, List, [], ◌∷◌, ◌++◌, length, filter, get_or, append_assoc, Bool, true, false, not, ◌&&◌, Option, Some, None, cond}
use Rattle.std.proofs.lemmas.Bool.{and_parts}
use Rattle.std.proofs.lemmas.List.{length-append}
use Rattle.ped_views.specs.declared.directions.Direction.{Direction}
use Rattle.ped_views.proofs.Products.{linear}
use Rattle.ped_affine.specs.Ranges.{Setting}
use Rattle.ped_affine.specs.AffineForms.{AffineForm}
use Rattle.ped_evidence.specs.Levels.{Level}
use Rattle.ped_evidence.specs.Layouts.{Columns, Layout, form_at, strides, has_first, has_own, has_shared}
use Rattle.ped_evidence.specs.Systems.{counted}
use Rattle.ped_evidence.specs.Facts.{Values, AreFor, value_by, IsReached, AreReached, value_at, IsCommon, AreCommon, IsQuotient, OwnCount, SharedCount}

-- one more quotient, where there is one
abbrev pub if_one : Bool → ℤ → List ℤ → List ℤ
if_one true n ns = n ∷ ns
if_one false n ns = ns

module _ (s : Setting) (names : List (List ℕ)) (symbols : List ℤ) where
  -- how many steps a loop's value is from its initial value; 0 where that has no form
  abbrev steps_by : (o : Option AffineForm) (v : Level) (loops : List ℤ) (x : ℤ) → form_at s names v.around v.head.first ≡ o → IsReached s names symbols loops v x → ℤ
  steps_by None v loops x e h = pos 0
  steps_by (Some f) v loops x e h = (h.own f e).1.0

  abbrev steps_of : (v : Level) (loops : List ℤ) (x : ℤ) → IsReached s names symbols loops v x → ℤ
  steps_of v loops x h = steps_by (form_at s names v.around v.head.first) v loops x refl h

  -- it is so
  steps_are : (v : Level) (loops : List ℤ) (x : ℤ) (h : IsReached s names symbols loops v x) (f : AffineForm) → form_at s names v.around v.head.first ≡ Some f → x ≡ value_by loops symbols f +ℤ v.range.step *ℤ steps_of v loops x h
  steps_are v loops x h f is = by (form_at s names v.around v.head.first) refl is
    where
      by : (o : Option AffineForm) (e : form_at s names v.around v.head.first ≡ o) → o ≡ Some f → x ≡ value_by loops symbols f +ℤ v.range.step *ℤ steps_by o v loops x e h
      by None e k = absurd cc
      by (Some g) e k = let same : g ≡ f = cc in subst (λ (z : AffineForm). x ≡ value_by loops symbols z +ℤ v.range.step *ℤ (h.own g e).1.0) same (h.own g e).1.1

  -- the quotients that loops have of their own
  abbrev pub own_steps : (loops : List ℤ) (vs : List Level) (xs : List ℤ) → AreReached s names symbols loops vs xs → List ℤ
  own_steps loops [] xs h = []
  own_steps loops (v ∷ vs) [] h = []
  own_steps loops (v ∷ vs) (x ∷ xs) h = if_one (has_own s names v) (steps_of v loops x h.0) (own_steps (loops ++ x ∷ []) vs xs h.1)

  pub own_long : (loops : List ℤ) (vs : List Level) (xs : List ℤ) (h : AreReached s names symbols loops vs xs) → length (own_steps loops vs xs h) ≡ length (filter (has_own s names) vs)
  own_long loops [] xs h = refl
  own_long loops (v ∷ vs) [] h = absurd h
  own_long loops (v ∷ vs) (x ∷ xs) h = by (has_own s names v) (own_long (loops ++ x ∷ []) vs xs h.1)
    where
      by : (b : Bool) → length (own_steps (loops ++ x ∷ []) vs xs h.1) ≡ length (filter (has_own s names) vs)
          → length (if_one b (steps_of v loops x h.0) (own_steps (loops ++ x ∷ []) vs xs h.1)) ≡ length (cond b (v ∷ filter (has_own s names) vs) (filter (has_own s names) vs))
      by true k = ap suc k
      by false k = k

-- a quotient at its place
there : (c : Columns) (w : Values) (fit : AreFor c w) (q : ℕ) (before : List ℤ) (n : ℤ) (ns : List ℤ) → q ≡ length before → w.quotients ≡ before ++ (n ∷ ns) → IsQuotient c w q n
there c w fit q before n ns e h =
    let l = length-append before (n ∷ ns) in
    let m : length w.quotients ≡ length (before ++ (n ∷ ns)) = ap length h in
    record { within = omega (arith, fit.quotients, l, m); is = ap (λ (xs : List ℤ). get_or xs q (pos 0)) h ∙ at q before e }
  where
    at : (k : ℕ) (xs : List ℤ) → k ≡ length xs → get_or (xs ++ (n ∷ ns)) k (pos 0) ≡ n
    at zero [] e = refl
    at zero (z ∷ xs) e = absurd (omega arith)
    at (suc k) [] e = absurd (omega arith)
    at (suc k) (z ∷ xs) e = at k xs (omega arith)

module _ (y : Layout) (w : Values) (fit : AreFor y.columns w) where
  pub own_count : (loops : List ℤ) (vs : List Level) (xs : List ℤ) (h : AreReached y.setting y.symbols w.symbols loops vs xs) (q : ℕ) (before rest : List ℤ) → q ≡ length before
      → w.quotients ≡ before ++ (own_steps y.setting y.symbols w.symbols loops vs xs h ++ rest) → OwnCount y w loops q vs xs
  own_count loops [] xs h q before rest e k = tt
  own_count loops (v ∷ vs) [] h q before rest e k = tt
  own_count loops (v ∷ vs) (x ∷ xs) h q before rest e k = by (has_own y.setting y.symbols v) refl k (λ next front long is. own_count (loops ++ x ∷ []) vs xs h.1 next front rest long is)
    where
      n : ℤ
      n = steps_of y.setting y.symbols w.symbols v loops x h.0

      ns : List ℤ
      ns = own_steps y.setting y.symbols w.symbols (loops ++ x ∷ []) vs xs h.1

      by : (b : Bool) → has_own y.setting y.symbols v ≡ b → w.quotients ≡ before ++ (if_one b n ns ++ rest)
          → ((next : ℕ) (front : List ℤ) → next ≡ length front → w.quotients ≡ front ++ (ns ++ rest) → OwnCount y w (loops ++ x ∷ []) next vs xs)
          → (b ≡ true → (f : AffineForm) → form_at y.setting y.symbols v.around v.head.first ≡ Some f → (m : ℤ) × IsQuotient y.columns w q m × (x ≡ value_by loops w.symbols f +ℤ v.range.step *ℤ m))
          × OwnCount y w (loops ++ x ∷ []) (counted b q) vs xs
      by true i j more = (
        λ so f is. (n, there y.columns w fit q before n (ns ++ rest) e j, steps_are y.setting y.symbols w.symbols v loops x h.0 f is),
        more (q + 1) (before ++ n ∷ []) (let a = length-append before (n ∷ []) in omega (arith, a)) (j ∙ sym (append_assoc before (n ∷ []) (ns ++ rest))),
      )
      by false i j more = (λ so. absurd cc, more q before e j)

-- the quotients of common loops for both sides
module _ (s : Setting) (names : List (List ℕ)) (from to : List ℤ) where
  pub steady : (v : Level) → has_shared s names v ≡ true → v.range.steady ≡ true
  steady v e = (and_parts (strides v) v.range.steady (and_parts (strides v && v.range.steady) (not (has_first s names v)) e).0).1

  -- how many steps a loop's value at the sink is from that at the source; 0 where it has no quotient for both
  abbrev shared_step : (v : Level) (d : Direction) → IsCommon from to v d → (b : Bool) → has_shared s names v ≡ b → ℤ
  shared_step v d h false e = pos 0
  shared_step v d h true e = (h.in_step (steady v e)).0

  abbrev pub shared_steps : (vs : List Level) (ds : List Direction) → AreCommon from to vs ds → List ℤ
  shared_steps [] ds h = []
  shared_steps (v ∷ vs) [] h = []
  shared_steps (v ∷ vs) (d ∷ ds) h = if_one (has_shared s names v) (shared_step v d h.0 (has_shared s names v) refl) (shared_steps vs ds h.1)

  pub shared_long : (vs : List Level) (ds : List Direction) (h : AreCommon from to vs ds) → length (shared_steps vs ds h) ≡ length (filter (has_shared s names) vs)
  shared_long [] ds h = refl
  shared_long (v ∷ vs) [] h = absurd h
  shared_long (v ∷ vs) (d ∷ ds) h = by (has_shared s names v) (shared_step v d h.0 (has_shared s names v) refl) (shared_long vs ds h.1)
    where
      by : (b : Bool) (n : ℤ) → length (shared_steps vs ds h.1) ≡ length (filter (has_shared s names) vs) → length (if_one b n (shared_steps vs ds h.1)) ≡ length (cond b (v ∷ filter (has_shared s names) vs) (filter (has_shared s names) vs))
      by true n k = ap suc k
      by false n k = k

  shared_is : (v : Level) (d : Direction) (h : IsCommon from to v d) (b : Bool) (e : has_shared s names v ≡ b) → b ≡ true → value_at to v ≡ value_at from v +ℤ v.range.step *ℤ shared_step v d h b e
  shared_is v d h false e so = absurd cc
  shared_is v d h true e so = let k = (h.in_step (steady v e)).1 in omega (arith, linear)

module _ (y : Layout) (w : Values) (fit : AreFor y.columns w) where
  pub shared_count : (vs : List Level) (ds : List Direction) (h : AreCommon w.source w.sink vs ds) (q : ℕ) (before rest : List ℤ) → q ≡ length before
      → w.quotients ≡ before ++ (shared_steps y.setting y.symbols w.source w.sink vs ds h ++ rest) → SharedCount y w q vs
  shared_count [] ds h q before rest e k = tt
  shared_count (v ∷ vs) [] h q before rest e k = absurd h
  shared_count (v ∷ vs) (d ∷ ds) h q before rest e k = by (has_shared y.setting y.symbols v) n (shared_is y.setting y.symbols w.source w.sink v d h.0 (has_shared y.setting y.symbols v) refl) k
      (λ next front long is. shared_count vs ds h.1 next front rest long is)
    where
      n : ℤ
      n = shared_step y.setting y.symbols w.source w.sink v d h.0 (has_shared y.setting y.symbols v) refl

      ns : List ℤ
      ns = shared_steps y.setting y.symbols w.source w.sink vs ds h.1

      by : (b : Bool) (n : ℤ) → (b ≡ true → value_at w.sink v ≡ value_at w.source v +ℤ v.range.step *ℤ n) → w.quotients ≡ before ++ (if_one b n ns ++ rest)
          → ((next : ℕ) (front : List ℤ) → next ≡ length front → w.quotients ≡ front ++ (ns ++ rest) → SharedCount y w next vs)
          → (b ≡ true → (m : ℤ) × IsQuotient y.columns w q m × (value_at w.sink v ≡ value_at w.source v +ℤ v.range.step *ℤ m)) × SharedCount y w (counted b q) vs
      by true m is j more = (
        λ so. (m, there y.columns w fit q before m (ns ++ rest) e j, is so),
        more (q + 1) (before ++ m ∷ []) (let a = length-append before (m ∷ []) in omega (arith, a)) (j ∙ sym (append_assoc before (m ∷ []) (ns ++ rest))),
      )
      by false m is j more = (λ so. absurd cc, more q before e j)

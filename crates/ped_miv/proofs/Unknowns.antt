-- The unknowns of a subscript pair, loop by loop, and when they have a solution.
use Rattle.std.proofs.Common.{◌≡◌, ◌↔◌, ℕ, ◌+◌, ◌≤◌, ◌<◌, refl, sym, subst, arith, ℤ, pos, ◌+ℤ◌, ◌-ℤ◌, ◌*ℤ◌, neg_ℤ, List, [], ◌∷◌, length, get_or, drop, Bool, not, IsTrue, Option}
use Rattle.std.specs.List.{slice_get}
use Rattle.std.proofs.Math.Numerals.{add-one}
use Rattle.std.proofs.lemmas.Bool.Decides.{Decides-not, Decides-like}
use Rattle.ped_views.specs.declared.directions.Direction.{Direction}
use Rattle.ped_views.specs.declared.directions.Direction.TheVariants.{Before, Same, After}
use Rattle.ped_views.specs.Whole.{Divides, IsGreatestDivisor}
use Rattle.ped_views.specs.Views.{SubscriptPair}
use Rattle.ped_views.specs.Excluded.{Indices, HasIndices, SharesIndices, HasNoSolution, dot, difference}
use Rattle.ped_views.proofs.Products.{linear}
use Rattle.ped_views.proofs.Dividing.{Divides-trans, Divides-add}
use Rattle.ped_miv.specs.Values.{Plus, AreMultiples, FormValue, IsShared, CommonForm, InnerForm}
use Rattle.ped_miv.proofs.Bezout.{combination}
use Rattle.ped_miv.proofs.Multiples.{Divides-neg}
use Rattle.ped_miv.proofs.Steps.{Front, some, none, front, here, past}

-- what the common loops add from a place on
abbrev pub forms_from : List ℤ → List ℤ → List Direction → ℕ → ℤ → Type 0
forms_from source sink vector k v = CommonForm (drop k source) (drop k sink) (drop k vector) v

opened : {vs ws : List Direction} {d : Option Direction} → Front vs d ws → (a b : ℤ) (source sink : List ℤ) (v : ℤ) → CommonForm (a ∷ source) (b ∷ sink) vs v ↔ Plus (FormValue (IsShared d) a b) (CommonForm source sink ws) v
opened (some d ds) a b source sink v = (λ x. x, λ x. x)
opened none a b source sink v = (λ x. x, λ x. x)

pub forms_step : (source sink : List ℤ) (vector : List Direction) (k : ℕ) (d : Option Direction) (a b : ℤ) → k < length source → length source ≡ length sink → d ≡ slice_get vector k → a ≡ get_or source k (pos 0) → b ≡ get_or sink k (pos 0) → (v : ℤ) → forms_from source sink vector k v ↔ Plus (FormValue (IsShared d) a b) (forms_from source sink vector (k + 1)) v
forms_step source sink vector k d a b h m ed ea eb v =
    let es = here source k (pos 0) a h ea in
    let ek = here sink k (pos 0) b (omega arith) eb in
    let f : Front (drop k vector) d (drop (k + 1) vector) = subst (λ (x : Option Direction). Front (drop k vector) x (drop (k + 1) vector)) (sym ed) (subst (λ (x : ℕ). Front (drop k vector) (slice_get vector k) (drop x vector)) (sym (add-one k)) (front vector k)) in
    subst (λ (x : List ℤ). CommonForm x (drop k sink) (drop k vector) v ↔ Plus (FormValue (IsShared d) a b) (forms_from source sink vector (k + 1)) v) (sym es)
    (subst (λ (x : List ℤ). CommonForm (a ∷ drop (k + 1) source) x (drop k vector) v ↔ Plus (FormValue (IsShared d) a b) (forms_from source sink vector (k + 1)) v) (sym ek)
    (opened f a b (drop (k + 1) source) (drop (k + 1) sink) v))

pub forms_end : (source sink : List ℤ) (vector : List Direction) (k : ℕ) → length source ≤ k → (v : ℤ) → forms_from source sink vector k v ↔ (v ≡ pos 0)
forms_end source sink vector k h v =
    subst (λ (x : List ℤ). CommonForm x (drop k sink) (drop k vector) v ↔ (v ≡ pos 0)) (sym (past source k h)) (λ x. x, λ x. x)

-- what the further loops of one side add from a place on
abbrev pub inner_forms_from : List ℤ → ℕ → ℤ → Type 0
inner_forms_from row k v = InnerForm (drop k row) v

pub inner_forms_step : (row : List ℤ) (k : ℕ) (a : ℤ) → k < length row → a ≡ get_or row k (pos 0) → (v : ℤ) → inner_forms_from row k v ↔ Plus (Divides a) (inner_forms_from row (k + 1)) v
inner_forms_step row k a h ea v =
    subst (λ (x : List ℤ). InnerForm x v ↔ Plus (Divides a) (inner_forms_from row (k + 1)) v) (sym (here row k (pos 0) a h ea)) (λ x. x, λ x. x)

pub inner_forms_end : (row : List ℤ) (k : ℕ) → length row ≤ k → (v : ℤ) → inner_forms_from row k v ↔ (v ≡ pos 0)
inner_forms_end row k h v = subst (λ (x : List ℤ). InnerForm x v ↔ (v ≡ pos 0)) (sym (past row k h)) (λ x. x, λ x. x)

-- indices of the common loops, shared as the vector says, add what their loops add
common_form : (source sink : List ℤ) (vector : List Direction) (is js : List ℤ) → length source ≡ length sink → length is ≡ length source → length js ≡ length sink → SharesIndices vector is js → CommonForm source sink vector (dot source is -ℤ dot sink js)
common_form [] [] vector [] [] e f g p = omega (arith, linear)
common_form (a ∷ source) (b ∷ sink) (Same ∷ vector) (i ∷ is) (j ∷ js) e f g p = (
  a *ℤ i -ℤ b *ℤ j,
  dot source is -ℤ dot sink js,
  record { i = i; j = j; stand = p.0; is = refl },
  common_form source sink vector is js (omega arith) (omega arith) (omega arith) p.1,
  omega (arith, linear),
)
common_form (a ∷ source) (b ∷ sink) (Before ∷ vector) (i ∷ is) (j ∷ js) e f g p = (
  a *ℤ i -ℤ b *ℤ j,
  dot source is -ℤ dot sink js,
  record { i = i; j = j; stand = tt; is = refl },
  common_form source sink vector is js (omega arith) (omega arith) (omega arith) p,
  omega (arith, linear),
)
common_form (a ∷ source) (b ∷ sink) (After ∷ vector) (i ∷ is) (j ∷ js) e f g p = (
  a *ℤ i -ℤ b *ℤ j,
  dot source is -ℤ dot sink js,
  record { i = i; j = j; stand = tt; is = refl },
  common_form source sink vector is js (omega arith) (omega arith) (omega arith) p,
  omega (arith, linear),
)
common_form (a ∷ source) (b ∷ sink) [] (i ∷ is) (j ∷ js) e f g p = (
  a *ℤ i -ℤ b *ℤ j,
  dot source is -ℤ dot sink js,
  record { i = i; j = j; stand = tt; is = refl },
  common_form source sink [] is js (omega arith) (omega arith) (omega arith) tt,
  omega (arith, linear),
)
common_form source sink vector is js e f g p = absurd (omega arith)

-- what the common loops add is added by some indices
record CommonUnknowns (source sink : List ℤ) (vector : List Direction) (v : ℤ) : Type 0 where
  is : List ℤ
  js : List ℤ
  source_long : length is ≡ length source
  sink_long : length js ≡ length sink
  shared : SharesIndices vector is js
  value : dot source is -ℤ dot sink js ≡ v

-- one more loop
module _ (a b i j x y v : ℤ) (source sink : List ℤ) (vector : List Direction) (t : CommonUnknowns source sink vector y) (e : a *ℤ i -ℤ b *ℤ j ≡ x) (s : x +ℤ y ≡ v) where
  joined : (vs : List Direction) → SharesIndices vs (i ∷ t.is) (j ∷ t.js) → CommonUnknowns (a ∷ source) (b ∷ sink) vs v
  joined vs p =
      let w = t.value in
      record { is = i ∷ t.is; js = j ∷ t.js; source_long = omega (arith, t.source_long); sink_long = omega (arith, t.sink_long); shared = p; value = omega (arith, linear) }

common_unknowns : (source sink : List ℤ) (vector : List Direction) (v : ℤ) → length source ≡ length sink → CommonForm source sink vector v → CommonUnknowns source sink vector v
common_unknowns [] [] vector v e p = record { is = []; js = []; source_long = refl; sink_long = refl; shared = nothing vector; value = omega (arith, linear) }
  where
    nothing : (vs : List Direction) → SharesIndices vs [] []
    nothing [] = tt
    nothing (Before ∷ ds) = tt
    nothing (Same ∷ ds) = tt
    nothing (After ∷ ds) = tt
common_unknowns (a ∷ source) (b ∷ sink) (Same ∷ vector) v e (x, y, p, q, s) =
    let t = common_unknowns source sink vector y (omega arith) q in
    joined a b p.i p.j x y v source sink vector t p.is s (Same ∷ vector) (p.stand, t.shared)
common_unknowns (a ∷ source) (b ∷ sink) (Before ∷ vector) v e (x, y, p, q, s) =
    let t = common_unknowns source sink vector y (omega arith) q in
    joined a b p.i p.j x y v source sink vector t p.is s (Before ∷ vector) t.shared
common_unknowns (a ∷ source) (b ∷ sink) (After ∷ vector) v e (x, y, p, q, s) =
    let t = common_unknowns source sink vector y (omega arith) q in
    joined a b p.i p.j x y v source sink vector t p.is s (After ∷ vector) t.shared
common_unknowns (a ∷ source) (b ∷ sink) [] v e (x, y, p, q, s) =
    let t = common_unknowns source sink [] y (omega arith) q in
    joined a b p.i p.j x y v source sink [] t p.is s [] tt
common_unknowns source sink vector v e p = absurd (omega arith)

inner_form : (row xs : List ℤ) → length xs ≡ length row → InnerForm row (dot row xs)
inner_form [] xs e = refl
inner_form (a ∷ row) (x ∷ xs) e = (a *ℤ x, dot row xs, (x, refl), inner_form row xs (omega arith), refl)
inner_form (a ∷ row) [] e = absurd (omega arith)

record InnerUnknowns (row : List ℤ) (v : ℤ) : Type 0 where
  xs : List ℤ
  long : length xs ≡ length row
  value : dot row xs ≡ v

inner_unknowns : (row : List ℤ) (v : ℤ) → InnerForm row v → InnerUnknowns row v
inner_unknowns [] v p = record { xs = []; long = refl; value = sym p }
inner_unknowns (a ∷ row) v (x, y, (k, m), q, s) =
    let t = inner_unknowns row y q in
    let w = t.value in
    record { xs = k ∷ t.xs; long = omega (arith, t.long); value = omega (arith, linear) }

-- the test: the greatest common divisor of the parts' divisors divides the difference of the constants
module _ (p : SubscriptPair) (vector : List Direction) (c s t i g n : ℤ) (fits : length p.source.common ≡ length p.sink.common) (common_is : AreMultiples (CommonForm p.source.common p.sink.common vector) c) (source_is : AreMultiples (InnerForm p.source.inner) s) (sink_is : AreMultiples (InnerForm p.sink.inner) t) (inner : IsGreatestDivisor s t i) (whole : IsGreatestDivisor c i g) (constant : n ≡ p.source.constant -ℤ p.sink.constant) where
  divided : (at : Indices) → HasIndices p at → SharesIndices vector at.source at.sink → difference p at ≡ pos 0 → Divides g n
  divided at h q e =
      let x = dot p.source.common at.source -ℤ dot p.sink.common at.sink in
      let y = dot p.source.inner at.source_inner in
      let z = dot p.sink.inner at.sink_inner in
      let dx = Divides-trans g c x whole.divides_first ((common_is x).1 (common_form p.source.common p.sink.common vector at.source at.sink fits h.source h.sink q)) in
      let dy = Divides-trans g s y (Divides-trans g i s whole.divides_second inner.divides_first) ((source_is y).1 (inner_form p.source.inner at.source_inner h.source_inner)) in
      let dz = Divides-trans g t z (Divides-trans g i t whole.divides_second inner.divides_second) ((sink_is z).1 (inner_form p.sink.inner at.sink_inner h.sink_inner)) in
      let sum = Divides-add g z (neg_ℤ (x +ℤ y)) dz (Divides-neg g (x +ℤ y) (Divides-add g x y dx dy)) in
      let is : z +ℤ neg_ℤ (x +ℤ y) ≡ n = omega (arith, linear) in
      subst (λ (m : ℤ). Divides g m) is sum

  solved : Divides g n → ¬ (HasNoSolution p vector)
  solved h never =
      let a = combination c i g n whole h in
      let b = combination s t i (i *ℤ a.1) inner (a.1, refl) in
      let x = common_unknowns p.source.common p.sink.common vector (neg_ℤ (c *ℤ a.0)) fits ((common_is (neg_ℤ (c *ℤ a.0))).0 (Divides-neg c (c *ℤ a.0) (a.0, refl))) in
      let y = inner_unknowns p.source.inner (neg_ℤ (s *ℤ b.0)) ((source_is (neg_ℤ (s *ℤ b.0))).0 (Divides-neg s (s *ℤ b.0) (b.0, refl))) in
      let z = inner_unknowns p.sink.inner (t *ℤ b.1) ((sink_is (t *ℤ b.1)).0 (b.1, refl)) in
      let ea = a.2 in
      let eb = b.2 in
      let ex = x.value in
      let ey = y.value in
      let ez = z.value in
      never (record { source = x.is; sink = x.js; source_inner = y.xs; sink_inner = z.xs })
      (record { source = x.source_long; sink = x.sink_long; source_inner = y.long; sink_inner = z.long })
      x.shared (omega (arith, linear))

  pub no_solution_decided : (d : Bool) → (IsTrue d ↔ Divides g n) → IsTrue (not d) ↔ HasNoSolution p vector
  no_solution_decided d h = Decides-like (not d) (λ none at q r e. none (divided at q r e)) (λ never x. solved x never) (Decides-not d h)

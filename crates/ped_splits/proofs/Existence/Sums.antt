-- Sums of coefficients times indices: of one row, and of two rows over common loops. Both open loop by loop.
use Rattle.std.proofs.Common.{◌≡◌, refl, ◌∙◌, arith, ℤ, pos, ◌+ℤ◌, ◌-ℤ◌, ◌*ℤ◌, neg_ℤ, List, [], ◌∷◌, length}
use Rattle.ped_rules.specs.ped_views.specs.Excluded.{dot}
use Rattle.ped_rules.specs.ped_views.proofs.Products.{linear}
use Rattle.ped_splits.proofs.Existence.Reaching.{Sum}

-- a multiple of a by an index that stands so
pub record OneIndex (S : ℤ → Type 0) (a v : ℤ) : Type 0 where
  pub i : ℤ
  pub stand : S i
  pub is : a *ℤ i ≡ v

-- a times the index at the source less b times that at the sink, which stand so
pub record TwoIndices (S : ℤ → ℤ → Type 0) (a b v : ℤ) : Type 0 where
  pub i : ℤ
  pub j : ℤ
  pub stand : S i j
  pub is : a *ℤ i -ℤ b *ℤ j ≡ v

-- a row times as many indices, which stand so
pub record RowSum (C : List ℤ → Type 0) (row : List ℤ) (v : ℤ) : Type 0 where
  pub xs : List ℤ
  pub long : length xs ≡ length row
  pub stand : C xs
  pub value : dot row xs ≡ v

-- the row of the source times its indices less that of the sink times its own, which stand so
pub record PairSum (C : List ℤ → List ℤ → Type 0) (source sink : List ℤ) (v : ℤ) : Type 0 where
  pub is : List ℤ
  pub js : List ℤ
  pub source_long : length is ≡ length source
  pub sink_long : length js ≡ length sink
  pub stand : C is js
  pub value : dot source is -ℤ dot sink js ≡ v

-- any indices
abbrev pub Anything : List ℤ → Type 0
Anything xs = Unit {0}

-- an empty row has the sum 0
pub row_end : (C : List ℤ → Type 0) → C [] → (v : ℤ) → pos 0 ≡ v → RowSum C [] v
row_end C c v e = record { xs = []; long = refl; stand = c; value = e }

pub row_end_back : (C : List ℤ → Type 0) (v : ℤ) → RowSum C [] v → pos 0 ≡ v
row_end_back C v u = u.value

module _ (C D : List ℤ → Type 0) (S : ℤ → Type 0) (a : ℤ) (row : List ℤ) where
  pub row_joined : ((i : ℤ) (xs : List ℤ) → S i → D xs → C (i ∷ xs)) → (v : ℤ) → Sum (OneIndex S a) (RowSum D row) v → RowSum C (a ∷ row) v
  row_joined join v u =
      let f = u.first in
      let r = u.second in
      record { xs = f.i ∷ r.xs; long = omega (arith, r.long); stand = join f.i r.xs f.stand r.stand; value = (λ k. f.is k +ℤ r.value k) ∙ u.sum }

  pub row_parted : ((i : ℤ) (xs : List ℤ) → C (i ∷ xs) → S i × D xs) → (v : ℤ) → RowSum C (a ∷ row) v → Sum (OneIndex S a) (RowSum D row) v
  row_parted part v u = by u.xs u.long u.stand u.value
    where
      by : (xs : List ℤ) → length xs ≡ length (a ∷ row) → C xs → dot (a ∷ row) xs ≡ v → Sum (OneIndex S a) (RowSum D row) v
      by [] e c is = absurd (omega arith)
      by (i ∷ xs) e c is = let p = part i xs c in record {
        x = a *ℤ i;
        y = dot row xs;
        first = record { i = i; stand = p.0; is = refl };
        second = record { xs = xs; long = omega arith; stand = p.1; value = refl };
        sum = is;
      }

-- two rows whose indices have nothing to do with each other
module _ (C : List ℤ → List ℤ → Type 0) (source sink : List ℤ) where
  pub pair_apart : ((is js : List ℤ) → length is ≡ length source → length js ≡ length sink → C is js) → (v : ℤ) → Sum (RowSum Anything source) (λ w. RowSum Anything sink (neg_ℤ w)) v → PairSum C source sink v
  pair_apart all v u =
      let f = u.first in
      let r = u.second in
      let p = f.value in
      let q = r.value in
      let s = u.sum in
      record { is = f.xs; js = r.xs; source_long = f.long; sink_long = r.long; stand = all f.xs r.xs f.long r.long; value = omega (arith, linear) }

  pub pair_apart_back : (v : ℤ) → PairSum C source sink v → Sum (RowSum Anything source) (λ w. RowSum Anything sink (neg_ℤ w)) v
  pair_apart_back v u = record {
    x = dot source u.is;
    y = neg_ℤ (dot sink u.js);
    first = record { xs = u.is; long = u.source_long; stand = tt; value = refl };
    second = record { xs = u.js; long = u.sink_long; stand = tt; value = omega (arith, linear) };
    sum = let e = u.value in omega (arith, linear);
  }

-- two rows with a loop in common
module _ (C D : List ℤ → List ℤ → Type 0) (S : ℤ → ℤ → Type 0) (a b : ℤ) (source sink : List ℤ) where
  pub pair_joined : ((i j : ℤ) (is js : List ℤ) → S i j → D is js → C (i ∷ is) (j ∷ js)) → (v : ℤ) → Sum (TwoIndices S a b) (PairSum D source sink) v → PairSum C (a ∷ source) (b ∷ sink) v
  pair_joined join v u =
      let f = u.first in
      let r = u.second in
      let p = f.is in
      let q = r.value in
      let s = u.sum in
      record {
        is = f.i ∷ r.is;
        js = f.j ∷ r.js;
        source_long = omega (arith, r.source_long);
        sink_long = omega (arith, r.sink_long);
        stand = join f.i f.j r.is r.js f.stand r.stand;
        value = omega (arith, linear);
      }

  pub pair_parted : ((i j : ℤ) (is js : List ℤ) → C (i ∷ is) (j ∷ js) → S i j × D is js) → (v : ℤ) → PairSum C (a ∷ source) (b ∷ sink) v → Sum (TwoIndices S a b) (PairSum D source sink) v
  pair_parted part v u = by u.is u.js u.source_long u.sink_long u.stand u.value
    where
      by : (is js : List ℤ) → length is ≡ length (a ∷ source) → length js ≡ length (b ∷ sink) → C is js → dot (a ∷ source) is -ℤ dot (b ∷ sink) js ≡ v → Sum (TwoIndices S a b) (PairSum D source sink) v
      by [] js e f c m = absurd (omega arith)
      by (i ∷ is) [] e f c m = absurd (omega arith)
      by (i ∷ is) (j ∷ js) e f c m = let p = part i j is js c in record {
        x = a *ℤ i -ℤ b *ℤ j;
        y = dot source is -ℤ dot sink js;
        first = record { i = i; j = j; stand = p.0; is = refl };
        second = record { is = is; js = js; source_long = omega arith; sink_long = omega arith; stand = p.1; value = refl };
        sum = omega (arith, linear);
      }

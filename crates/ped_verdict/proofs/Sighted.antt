-- What is found once of a position of a view.
use Rattle.std.proofs.Common.{◌≡◌, ℕ, zero, suc, ◌+◌, ◌-◌, ◌<◌, ◌≤◌, ℤ, List, [], ◌∷◌, ◌++◌, length, replicate, get_or, Bool, true, not, Option, false, IsTrue, ◌↔◌, refl, sym, ap, subst, ◌∙◌, inl, inr, arith}
use Rattle.std.proofs.lemmas.Bool.{cases_lt, false≢true}
use Rattle.std.proofs.lemmas.List.{length_push, get_or_append_left, get_or-append_right}
use Rattle.ped_views.specs.declared.directions.Direction.{Direction}
use Rattle.ped_views.specs.declared.directions.Direction.TheVariants.{Before, Same, After}
use Rattle.ped_views.specs.declared.intervals.Interval.{Interval}
use Rattle.ped_views.specs.Views.{Range, SubscriptPair, View}
use Rattle.ped_views.specs.Excluded.{SharesIndices, HasNoSolution}
use Rattle.ped_miv.specs.declared.bounds.Bounds.{Bounds}
use Rattle.ped_miv.specs.declared.parts.LoopParts.{LoopParts}
use Rattle.ped_miv.specs.Bounds.{MayBound}
use Rattle.ped_miv.specs.Parts.{ArePartsAt, AreAllParts, IsRest}
use Rattle.ped_verdict.specs.Sights.{AreRests, AreAllBounds}
use Rattle.ped_verdict.proofs.Begun.{not_held}

-- indices that are equal in all loops are so in those with `=`
pub shares_all : (n : ℕ) (vector : List Direction) (is js : List ℤ) → length vector ≤ n → SharesIndices (replicate n Same) is js → SharesIndices vector is js
shares_all n [] is js l h = tt
shares_all zero (d ∷ vector) is js l h = absurd (omega arith)
shares_all (suc n) (Same ∷ vector) (i ∷ is) (j ∷ js) l h = (h.0, shares_all n vector is js (omega arith) h.1)
shares_all (suc n) (Before ∷ vector) (i ∷ is) (j ∷ js) l h = shares_all n vector is js (omega arith) h.1
shares_all (suc n) (After ∷ vector) (i ∷ is) (j ∷ js) l h = shares_all n vector is js (omega arith) h.1
shares_all (suc n) (Same ∷ vector) [] js l h = tt
shares_all (suc n) (Before ∷ vector) [] js l h = tt
shares_all (suc n) (After ∷ vector) [] js l h = tt
shares_all (suc n) (Same ∷ vector) (i ∷ is) [] l h = tt
shares_all (suc n) (Before ∷ vector) (i ∷ is) [] l h = tt
shares_all (suc n) (After ∷ vector) (i ∷ is) [] l h = tt

-- where the vector of `=` alone has a solution, each has one
pub all_solved : (p : SubscriptPair) (same : List Direction) (t : Bool) → same ≡ replicate 6 Same → IsTrue t ↔ HasNoSolution p same → not t ≡ true → (vector : List Direction) → length vector ≤ 6 → ¬ (HasNoSolution p vector)
all_solved p same t e h f vector l none =
    false≢true (sym (not_held t f) ∙ h.1 (λ at has shares. none at has (shares_all 6 vector at.source at.sink l (subst (λ (w : List Direction). SharesIndices w at.source at.sink) e shares))))

-- where each vector has a solution, that of `=` alone has one
pub solved_all : (p : SubscriptPair) (same : List Direction) (t : Bool) → same ≡ replicate 6 Same → IsTrue t ↔ HasNoSolution p same → ((vector : List Direction) → length vector ≤ 6 → ¬ (HasNoSolution p vector)) → not t ≡ true
solved_all p same true e h all = let l : length same ≡ 6 = ap length e in absurd (all same (omega arith) (h.0 refl))
solved_all p same false e h all = refl

-- an item of a list that was made longer by one
pushed_item : {X : Type 0} (P : ℕ → X → Type 0) (xs ys : List X) (x : X) (n : ℕ) → length xs ≡ n → ys ≡ xs ++ x ∷ [] → ((k : ℕ) (y : X) → k < n → y ≡ get_or xs k y → P k y) → P n x → (k : ℕ) (y : X) → k < n + 1 → y ≡ get_or ys k y → P k y
pushed_item P xs ys x n l e before here k y below is = elim (cases_lt k n) [
  | inl less ↦ before k y less (is ∙ ap (λ zs. get_or zs k y) e ∙ get_or_append_left xs (x ∷ []) y k (omega arith))
  | inr past ↦
      let s : k ≡ n = omega arith in
      let z : k - n ≡ 0 = omega arith in
      let at : y ≡ x = is ∙ ap (λ zs. get_or zs k y) e ∙ get_or-append_right xs (x ∷ []) n k y l (omega arith) ∙ ap (λ (j : ℕ). get_or (x ∷ []) j y) z in
      subst (λ (j : ℕ). P j y) (sym s) (subst (λ z. P n z) (sym at) here)
]

-- the parts of the first n loops
pub record FirstParts (n : ℕ) (loops : List Range) (source sink : List ℤ) (parts : List LoopParts) : Type 0 where
  pub as_many : length parts ≡ n
  pub each : (k : ℕ) (x : LoopParts) → k < n → x ≡ get_or parts k x → ArePartsAt loops source sink k x

pub more_parts : (n : ℕ) (loops : List Range) (source sink : List ℤ) (parts more : List LoopParts) (x : LoopParts) → more ≡ parts ++ x ∷ [] → ArePartsAt loops source sink n x → FirstParts n loops source sink parts → FirstParts (n + 1) loops source sink more
more_parts n loops source sink parts more x e at h = record {
  as_many = ap length e ∙ length_push parts x ∙ (let l = h.as_many in omega arith);
  each = pushed_item (ArePartsAt loops source sink) parts more x n h.as_many e h.each at;
}

pub all_first_parts : (n : ℕ) (loops : List Range) (source sink : List ℤ) (parts : List LoopParts) → FirstParts n loops source sink parts → n ≡ length loops → AreAllParts loops source sink parts
all_first_parts n loops source sink parts h e = record {
  as_many = h.as_many ∙ e;
  each = λ k x below is. h.each k x (omega (arith, below, e)) is;
}

-- what the last loops add, up to so many
pub record FirstRests (n : ℕ) (v : View) (p : SubscriptPair) (rests : List (Option Interval)) : Type 0 where
  pub as_many : length rests ≡ n
  pub each : (j : ℕ) (x : Option Interval) → j < n → x ≡ get_or rests j x → IsRest v p (length v.loops - j) x

pub first_rest : (v : View) (p : SubscriptPair) (rests more : List (Option Interval)) (x : Option Interval) → rests ≡ [] → more ≡ rests ++ x ∷ [] → IsRest v p (length v.loops) x → FirstRests 1 v p more
first_rest v p rests more x none e h =
    let start : length v.loops ≡ length v.loops - 0 = omega arith in record {
      as_many = ap length e ∙ length_push rests x ∙ (let l = ap length none in omega arith);
      each = pushed_item (λ j y. IsRest v p (length v.loops - j) y) rests more x 0 (ap length none) e (λ j y below is. absurd (omega (arith, below))) (subst (λ (j : ℕ). IsRest v p j x) start h);
    }

pub more_rests : (n : ℕ) (v : View) (p : SubscriptPair) (rests more : List (Option Interval)) (x : Option Interval) → more ≡ rests ++ x ∷ [] → IsRest v p (length v.loops - n) x → FirstRests n v p rests → FirstRests (n + 1) v p more
more_rests n v p rests more x e at h = record {
  as_many = ap length e ∙ length_push rests x ∙ (let l = h.as_many in omega arith);
  each = pushed_item (λ j y. IsRest v p (length v.loops - j) y) rests more x n h.as_many e h.each at;
}

pub all_first_rests : (n : ℕ) (v : View) (p : SubscriptPair) (rests : List (Option Interval)) → FirstRests n v p rests → n ≡ length v.loops + 1 → AreRests v p rests
all_first_rests n v p rests h e = record {
  as_many = h.as_many ∙ e;
  each = λ j x below is. h.each j x (omega (arith, below, e)) is;
}

-- the bounds of what the last loops add, up to so many
pub record FirstBounds (n : ℕ) (v : View) (p : SubscriptPair) (bounds : List (Option Bounds)) : Type 0 where
  pub as_many : length bounds ≡ n
  pub each : (j : ℕ) (x : Option Bounds) → j < n → x ≡ get_or bounds j x → MayBound v p (length v.loops - j) x

pub first_bounds : (v : View) (p : SubscriptPair) (bounds more : List (Option Bounds)) (x : Option Bounds) → bounds ≡ [] → more ≡ bounds ++ x ∷ [] → MayBound v p (length v.loops) x → FirstBounds 1 v p more
first_bounds v p bounds more x none e h =
    let start : length v.loops ≡ length v.loops - 0 = omega arith in record {
      as_many = ap length e ∙ length_push bounds x ∙ (let l = ap length none in omega arith);
      each = pushed_item (λ j y. MayBound v p (length v.loops - j) y) bounds more x 0 (ap length none) e (λ j y below is. absurd (omega (arith, below))) (subst (λ (j : ℕ). MayBound v p j x) start h);
    }

pub more_bounds : (n : ℕ) (v : View) (p : SubscriptPair) (bounds more : List (Option Bounds)) (x : Option Bounds) → more ≡ bounds ++ x ∷ [] → MayBound v p (length v.loops - n) x → FirstBounds n v p bounds → FirstBounds (n + 1) v p more
more_bounds n v p bounds more x e at h = record {
  as_many = ap length e ∙ length_push bounds x ∙ (let l = h.as_many in omega arith);
  each = pushed_item (λ j y. MayBound v p (length v.loops - j) y) bounds more x n h.as_many e h.each at;
}

pub all_first_bounds : (n : ℕ) (v : View) (p : SubscriptPair) (bounds : List (Option Bounds)) → FirstBounds n v p bounds → n ≡ length v.loops + 1 → AreAllBounds v p bounds
all_first_bounds n v p bounds h e = record {
  as_many = h.as_many ∙ e;
  each = λ j x below is. h.each j x (omega (arith, below, e)) is;
}

-- The sums over the loops from a place on: the loop there, and those behind it.
use Rattle.std.proofs.Common.{◌≡◌, ◌↔◌, ℕ, zero, suc, ◌+◌, ◌≤◌, ◌<◌, refl, sym, ap, subst, ◌∙◌, arith, ℤ, pos, List, [], ◌∷◌, length, get_or, drop, Option, Some, None, Bor, IfSome, nat_lt, is_some}
use Rattle.std.specs.List.{slice_get}
use Rattle.std.specs.Option.{option_copied}
use Rattle.std.proofs.lemmas.Option.{slice_get-get_or, slice_get_past}
use Rattle.std.proofs.lemmas.Bool.{ltb-true, ltb-false}
use Rattle.std.proofs.lemmas.List.{drop_more}
use Rattle.std.proofs.Math.Numerals.{add-one}
use Rattle.ped_views.specs.declared.directions.Direction.{Direction}
use Rattle.ped_views.specs.Views.{Range}
use Rattle.ped_miv.specs.Values.{Plus, LoopValue, CommonValue, InnerValue}

-- the first direction and those behind it, or none
pub data Front : List Direction → Option Direction → List Direction → Type 0 where
  some : (d : Direction) (ds : List Direction) → Front (d ∷ ds) (Some d) ds
  none : Front [] None []

pub front : (vector : List Direction) (k : ℕ) → Front (drop k vector) (slice_get vector k) (drop (suc k) vector)
front [] zero = none
front [] (suc k) = none
front (d ∷ ds) zero = some d ds
front (d ∷ ds) (suc k) = front ds k

opened : {vs ws : List Direction} {d : Option Direction} → Front vs d ws → (r : Range) (a b : ℤ) (loops : List Range) (source sink : List ℤ) (v : ℤ) → CommonValue (r ∷ loops) vs (a ∷ source) (b ∷ sink) v ↔ Plus (LoopValue r d a b) (CommonValue loops ws source sink) v
opened (some d ds) r a b loops source sink v = (λ x. x, λ x. x)
opened none r a b loops source sink v = (λ x. x, λ x. x)

pub here : {X : Type 0} (xs : List X) (k : ℕ) (d x : X) → k < length xs → x ≡ get_or xs k d → drop k xs ≡ x ∷ drop (k + 1) xs
here xs k d x h e = drop_more xs k d h ∙ ap (λ y. y ∷ drop (k + 1) xs) (sym e)

-- what the common loops add from a place on
abbrev pub common_from : List Range → List Direction → List ℤ → List ℤ → ℕ → ℤ → Type 0
common_from loops vector source sink k v = CommonValue (drop k loops) (drop k vector) (drop k source) (drop k sink) v

pub common_step : (loops : List Range) (vector : List Direction) (source sink : List ℤ) (k : ℕ) (r : Range) (d : Option Direction) (a b : ℤ) → k < length loops → length source ≡ length loops → length sink ≡ length loops → r ≡ get_or loops k r → d ≡ slice_get vector k → a ≡ get_or source k (pos 0) → b ≡ get_or sink k (pos 0) → (v : ℤ) → common_from loops vector source sink k v ↔ Plus (LoopValue r d a b) (common_from loops vector source sink (k + 1)) v
common_step loops vector source sink k r d a b h m n er ed ea eb v =
    let el = here loops k r r h er in
    let es = here source k (pos 0) a (omega arith) ea in
    let ek = here sink k (pos 0) b (omega arith) eb in
    let f : Front (drop k vector) d (drop (k + 1) vector) = subst (λ (x : Option Direction). Front (drop k vector) x (drop (k + 1) vector)) (sym ed) (subst (λ (x : ℕ). Front (drop k vector) (slice_get vector k) (drop x vector)) (sym (add-one k)) (front vector k)) in
    subst (λ (x : List Range). CommonValue x (drop k vector) (drop k source) (drop k sink) v ↔ Plus (LoopValue r d a b) (common_from loops vector source sink (k + 1)) v) (sym el)
    (subst (λ (x : List ℤ). CommonValue (r ∷ drop (k + 1) loops) (drop k vector) x (drop k sink) v ↔ Plus (LoopValue r d a b) (common_from loops vector source sink (k + 1)) v) (sym es)
    (subst (λ (x : List ℤ). CommonValue (r ∷ drop (k + 1) loops) (drop k vector) (a ∷ drop (k + 1) source) x v ↔ Plus (LoopValue r d a b) (common_from loops vector source sink (k + 1)) v) (sym ek)
    (opened f r a b (drop (k + 1) loops) (drop (k + 1) source) (drop (k + 1) sink) v)))

pub past : {X : Type 0} (xs : List X) (k : ℕ) → length xs ≤ k → drop k xs ≡ []
past [] zero h = refl
past [] (suc k) h = refl
past (x ∷ xs) zero h = absurd (omega arith)
past (x ∷ xs) (suc k) h = past xs k (omega arith)

pub common_end : (loops : List Range) (vector : List Direction) (source sink : List ℤ) (k : ℕ) → length loops ≤ k → (v : ℤ) → common_from loops vector source sink k v ↔ (v ≡ pos 0)
common_end loops vector source sink k h v =
    subst (λ (x : List Range). CommonValue x (drop k vector) (drop k source) (drop k sink) v ↔ (v ≡ pos 0)) (sym (past loops k h)) (λ x. x, λ x. x)

-- what the further loops of one side add from a place on
abbrev pub inner_from : List Range → List ℤ → ℕ → ℤ → Type 0
inner_from loops row k v = InnerValue (drop k loops) (drop k row) v

pub inner_step : (loops : List Range) (row : List ℤ) (k : ℕ) (r : Range) (a : ℤ) → k < length loops → length row ≡ length loops → r ≡ get_or loops k r → a ≡ get_or row k (pos 0) → (v : ℤ) → inner_from loops row k v ↔ Plus (LoopValue r None a (pos 0)) (inner_from loops row (k + 1)) v
inner_step loops row k r a h m er ea v =
    let el = here loops k r r h er in
    let es = here row k (pos 0) a (omega arith) ea in
    subst (λ (x : List Range). InnerValue x (drop k row) v ↔ Plus (LoopValue r None a (pos 0)) (inner_from loops row (k + 1)) v) (sym el)
    (subst (λ (x : List ℤ). InnerValue (r ∷ drop (k + 1) loops) x v ↔ Plus (LoopValue r None a (pos 0)) (inner_from loops row (k + 1)) v) (sym es) (λ x. x, λ x. x))

pub inner_end : (loops : List Range) (row : List ℤ) (k : ℕ) → length loops ≤ k → (v : ℤ) → inner_from loops row k v ↔ (v ≡ pos 0)
inner_end loops row k h v =
    subst (λ (x : List Range). InnerValue x (drop k row) v ↔ (v ≡ pos 0)) (sym (past loops k h)) (λ x. x, λ x. x)

-- what the code's look at a place of a list gives
pub looked_up : {X : Type 0} (o : Option (Bor X)) (xs : List X) (k : ℕ) → is_some o ≡ nat_lt k (length xs) → IfSome o (λ x. x.now ≡ get_or xs k x.now) → option_copied o ≡ slice_get xs k
looked_up (Some x) xs k t e = ap Some e ∙ sym (slice_get-get_or xs k x.now (ltb-true k (length xs) (sym t)))
looked_up None xs k t e = sym (slice_get_past xs k (ltb-false k (length xs) (sym t)))

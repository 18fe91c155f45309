-- Where the pairs of a changed program come from.
use Rattle.std.proofs.Common.{◌≡◌, ℕ, zero, suc, ◌+◌, List, [], ◌∷◌, map, Bool, true, false, ◌&&◌, Option, Some, None, refl, ap, sym, ◌∙◌, arith}
use Rattle.std.specs.Prelude.{◌≢◌, ◌||◌, ◌==◌, if◌then◌else◌, slice_get, is_some}
use Rattle.std.specs.List.{list_any, AllByRecursion}
use Rattle.std.specs.Option.{option_or}
use Rattle.std.proofs.lemmas.Bool.{eqb-true, eq-eqb}
use Rattle.ped_views.specs.Views.{View}
use Rattle.ped_views.specs.SameViews.{same_view}
use Rattle.ped_refs.specs.TextPlaces.{Key}
use Rattle.ped_refs.proofs.Ascending.{Ascending, all_told}
use Rattle.ped_graph.specs.Held.{Framed, Pair, Held, pair_by, pairs_by, held_pairs}
use Rattle.ped_graph.specs.Keys.{key_of, IsOnlyAt}
use Rattle.ped_graph.specs.Keeping.{IsOneToOne}
use Rattle.ped_update.specs.Fresh.{keeps, keeps_place, comes_from}
use Rattle.ped_update.specs.Matching.{former_in, with_number, both_places, former_key, place_from, origin}
use Rattle.ped_graph.proofs.Slices.{both_hold, ascending_from_pairs, some_is, at_place, mapped_at, mapped_there}

pub both_true : (a b : Bool) → a ≡ true → b ≡ true → (a && b) ≡ true
both_true true b e f = f
both_true false b e f = cc

not_true : (t : Bool) → (t ≡ true → ⊥) → t ≡ false
not_true true h = absurd (h refl)
not_true false h = refl

or_true : (a b : Bool) → b ≡ true → (a || b) ≡ true
or_true true b e = refl
or_true false b e = e

first_true : (a b : Bool) → a ≡ true → (a || b) ≡ true
first_true true b e = refl
first_true false b e = cc

-- items with one key, where no two have, are one
pub once_there : {X : Type 0} (key : X → ℕ) (xs : List X) → Ascending (λ x y. key x ≢ key y) xs → (i j : ℕ) (p q : X) → slice_get xs i ≡ Some p → slice_get xs j ≡ Some q → key p ≡ key q → p ≡ q
once_there key [] h i j p q e f same = cc
once_there key (x ∷ xs) h zero zero p q e f same = sym (some_is x p e) ∙ some_is x q f
once_there key (x ∷ xs) h zero (suc j) p q e f same = absurd (at_place (λ y. key x ≢ key y) xs j q h.0 f (ap key (some_is x p e) ∙ same))
once_there key (x ∷ xs) h (suc i) zero p q e f same = absurd (at_place (λ y. key x ≢ key y) xs i p h.0 e (ap key (some_is x q f) ∙ sym same))
once_there key (x ∷ xs) h (suc i) (suc j) p q e f same = once_there key xs h.1 i j p q e f same

-- a statement that is kept stands in the list
kept_there : (keep : List (ℕ × ℕ)) (before now : ℕ) → keeps keep before now ≡ true → (j : ℕ) × (k : ℕ × ℕ) × (slice_get keep j ≡ Some k) × (k.0 ≡ before) × (k.1 ≡ now)
kept_there [] before now e = cc
kept_there (k ∷ keep) before now e = go (k.0 == before && k.1 == now) refl e (kept_there keep before now)
  where
    go : (t : Bool) → (k.0 == before && k.1 == now) ≡ t → (t || keeps keep before now) ≡ true
        → (keeps keep before now ≡ true → (j : ℕ) × (m : ℕ × ℕ) × (slice_get keep j ≡ Some m) × (m.0 ≡ before) × (m.1 ≡ now))
        → (j : ℕ) × (m : ℕ × ℕ) × (slice_get (k ∷ keep) j ≡ Some m) × (m.0 ≡ before) × (m.1 ≡ now)
    go true at h rest = let is = both_hold _ _ at in (0, k, refl, eqb-true k.0 before is.0, eqb-true k.1 now is.1)
    go false at h rest = let r = rest h in (suc r.0, r.1, r.2, r.3, r.4)

-- a statement has one number behind the change
pub one_number : (keep : List (ℕ × ℕ)) → IsOneToOne keep → (before m n : ℕ) → keeps keep before m ≡ true → keeps keep before n ≡ true → m ≡ n
one_number keep once before m n e f =
    let a = kept_there keep before m e in
    let b = kept_there keep before n f in
    let same = once_there (λ (k : ℕ × ℕ). k.0) keep (ascending_from_pairs (λ p q. p.0 ≢ q.0) keep once.before) a.0 b.0 a.1 b.1 a.2 b.2 (a.3 ∙ sym b.3) in
    sym a.4 ∙ ap (λ (k : ℕ × ℕ). k.1) same ∙ b.4

none_former : (keep : List (ℕ × ℕ)) (now : ℕ) → AllByRecursion (λ (q : ℕ × ℕ). now ≢ q.1) keep → former_in keep now ≡ None
none_former [] now h = refl
none_former (k ∷ keep) now h = ap (λ (o : Option ℕ). option_or o (if k.1 == now then Some k.0 else None)) (none_former keep now h.1) ∙ go (k.1 == now) refl
  where
    go : (t : Bool) → (k.1 == now) ≡ t → option_or None (if t then Some k.0 else None) ≡ None
    go true e = absurd (h.0 (sym (eqb-true k.1 now e)))
    go false e = refl

-- the former number of a statement that is kept
kept_former : (keep : List (ℕ × ℕ)) → Ascending (λ (p q : ℕ × ℕ). p.1 ≢ q.1) keep → (before now : ℕ) → keeps keep before now ≡ true → former_in keep now ≡ Some before
kept_former [] h before now e = cc
kept_former (k ∷ keep) h before now e = go (k.0 == before && k.1 == now) refl e (kept_former keep h.1 before now)
  where
    chosen : (t : Bool) → t ≡ true → k.0 ≡ before → (if t then Some k.0 else None) ≡ Some before
    chosen true e is = ap Some is
    chosen false e is = cc

    go : (t : Bool) → (k.0 == before && k.1 == now) ≡ t → (t || keeps keep before now) ≡ true → (keeps keep before now ≡ true → former_in keep now ≡ Some before)
        → former_in (k ∷ keep) now ≡ Some before
    go true at w rest =
        let is = both_hold _ _ at in
        let here : k.1 ≡ now = eqb-true k.1 now is.1 in
        let none = none_former keep now (all_told (λ (q : ℕ × ℕ). k.1 ≢ q.1) (λ (q : ℕ × ℕ). now ≢ q.1) (λ (q : ℕ × ℕ) n (same : now ≡ q.1). n (here ∙ same)) keep h.0) in
        ap (λ (o : Option ℕ). option_or o (if k.1 == now then Some k.0 else None)) none ∙ chosen (k.1 == now) is.1 (eqb-true k.0 before is.0)
    go false at w rest = ap (λ (o : Option ℕ). option_or o (if k.1 == now then Some k.0 else None)) (rest w)

-- a statement with a former number is kept
former_kept : (keep : List (ℕ × ℕ)) (now before : ℕ) → former_in keep now ≡ Some before → keeps keep before now ≡ true
former_kept [] now before e = cc
former_kept (k ∷ keep) now before e = go (former_in keep now) refl e (former_kept keep now before)
  where
    last : (t : Bool) → (k.1 == now) ≡ t → (if t then Some k.0 else None) ≡ Some before → (k.0 == before && k.1 == now) ≡ true
    last true at w = both_true _ _ (ap (λ (n : ℕ). n == before) (some_is k.0 before w) ∙ eq-eqb before before refl) at
    last false at w = cc

    go : (o : Option ℕ) → former_in keep now ≡ o → option_or o (if k.1 == now then Some k.0 else None) ≡ Some before → (former_in keep now ≡ Some before → keeps keep before now ≡ true)
        → keeps (k ∷ keep) before now ≡ true
    go (Some b) at w rest = or_true (k.0 == before && k.1 == now) _ (rest (at ∙ w))
    go None at w rest = first_true _ _ (last (k.1 == now) refl w)

-- a place is kept where it is the former place
kept_place : (keep : List (ℕ × ℕ)) → IsOneToOne keep → (before now : ℕ × ℕ) → keeps_place keep before now ≡ true → with_number (former_in keep now.0) now.1 ≡ Some before
kept_place keep once before now e =
    let is = both_hold (keeps keep before.0 now.0) (before.1 == now.1) e in
    let statement = kept_former keep (ascending_from_pairs (λ p q. p.1 ≢ q.1) keep once.behind) before.0 now.0 is.0 in
    let number : before.1 ≡ now.1 = eqb-true before.1 now.1 is.1 in
    ap (λ (o : Option ℕ). with_number o now.1) statement ∙ ap (λ (n : ℕ). Some (before.0, n)) (sym number)

place_kept : (keep : List (ℕ × ℕ)) (before now : ℕ × ℕ) → with_number (former_in keep now.0) now.1 ≡ Some before → keeps_place keep before now ≡ true
place_kept keep before now e = go (former_in keep now.0) refl e
  where
    go : (o : Option ℕ) → former_in keep now.0 ≡ o → with_number o now.1 ≡ Some before → keeps_place keep before now ≡ true
    go None at w = cc
    go (Some b) at w =
        let is = some_is (b, now.1) before w in
        both_true _ _ (former_kept keep now.0 before.0 (at ∙ ap (λ (x : ℕ × ℕ). Some x.0) is)) (ap (λ (x : ℕ × ℕ). x.1 == now.1) (sym is) ∙ eq-eqb now.1 now.1 refl)

-- the former key of a pair whose references are both kept
pub kept_key : (keep : List (ℕ × ℕ)) → IsOneToOne keep → (k now : Key) → keeps_place keep k.0 now.0 ≡ true → keeps_place keep k.1 now.1 ≡ true → former_key (former_in keep) now ≡ Some k
kept_key keep once k now e f =
    let source = kept_place keep once k.0 now.0 e in
    let sink = kept_place keep once k.1 now.1 f in
    λ i. both_places (source i) (sink i)

pub key_kept : (keep : List (ℕ × ℕ)) (k now : Key) → former_key (former_in keep) now ≡ Some k → (keeps_place keep k.0 now.0 ≡ true) × (keeps_place keep k.1 now.1 ≡ true)
key_kept keep k now e = go (with_number (former_in keep now.0.0) now.0.1) (with_number (former_in keep now.1.0) now.1.1) refl refl e
  where
    go : (a b : Option (ℕ × ℕ)) → with_number (former_in keep now.0.0) now.0.1 ≡ a → with_number (former_in keep now.1.0) now.1.1 ≡ b → both_places a b ≡ Some k
        → (keeps_place keep k.0 now.0 ≡ true) × (keeps_place keep k.1 now.1 ≡ true)
    go (Some a) (Some b) e f w =
        let is = some_is (a, b) k w in
        (place_kept keep k.0 now.0 (e ∙ ap (λ (x : Key). Some x.0) is), place_kept keep k.1 now.1 (f ∙ ap (λ (x : Key). Some x.1) is))
    go (Some a) None e f w = cc
    go None b e f w = cc

-- two pairs of references that come from one are one
pub one_key : (keep : List (ℕ × ℕ)) → IsOneToOne keep → (before m n : ℕ × ℕ) → keeps_place keep before m ≡ true → keeps_place keep before n ≡ true → m ≡ n
one_key keep once before m n e f =
    let a = both_hold (keeps keep before.0 m.0) (before.1 == m.1) e in
    let b = both_hold (keeps keep before.0 n.0) (before.1 == n.1) f in
    let statement = one_number keep once before.0 m.0 n.0 a.0 b.0 in
    let number : m.1 ≡ n.1 = sym (eqb-true before.1 m.1 a.1) ∙ eqb-true before.1 n.1 b.1 in
    λ i. (statement i, number i)

-- a place that is found
pub found_at : {X : Type 0} (test : X → Bool) (n : ℕ) (xs : List X) (place : ℕ) → place_from test n xs ≡ Some place → (j : ℕ) × (x : X) × (place ≡ n + j) × (slice_get xs j ≡ Some x) × (test x ≡ true)
found_at test n [] place e = cc
found_at test n (x ∷ xs) place e = go (test x) refl e (found_at test (suc n) xs place)
  where
    go : (t : Bool) → test x ≡ t → (if t then Some n else place_from test (suc n) xs) ≡ Some place
        → (place_from test (suc n) xs ≡ Some place → (j : ℕ) × (y : _) × (place ≡ suc n + j) × (slice_get xs j ≡ Some y) × (test y ≡ true))
        → (j : ℕ) × (y : _) × (place ≡ n + j) × (slice_get (x ∷ xs) j ≡ Some y) × (test y ≡ true)
    go true at w rest = let is : n ≡ place = some_is n place w in (0, x, omega (arith, is), refl, at)
    go false at w rest = let r = rest w in let is = r.2 in (suc r.0, r.1, omega (arith, is), r.3, r.4)

-- nothing is found where nothing passes the test
pub none_found : {X : Type 0} (test : X → Bool) (n : ℕ) (xs : List X) → ((j : ℕ) (x : X) → slice_get xs j ≡ Some x → test x ≡ true → ⊥) → place_from test n xs ≡ None
none_found test n [] h = refl
none_found test n (x ∷ xs) h =
    let fails : test x ≡ false = not_true (test x) (λ passes. h 0 x refl passes) in
    ap (λ (t : Bool). if t then Some n else place_from test (suc n) xs) fails ∙ none_found test (suc n) xs (λ j y at passes. h (suc j) y at passes)

-- where one item alone may pass the test, it is found where it does
pub found_only : {X : Type 0} (test : X → Bool) (n : ℕ) (xs : List X) (here : ℕ) (q : X) → ((j : ℕ) (x : X) → slice_get xs j ≡ Some x → test x ≡ true → j ≡ here) → slice_get xs here ≡ Some q
    → place_from test n xs ≡ (if test q then Some (n + here) else None)
found_only test n [] here q only e = cc
found_only test n (x ∷ xs) zero q only e = go (test x) refl (none_found test (suc n) xs (λ j y at passes. absurd (suc_not_zero j (only (suc j) y at passes))))
  where
    suc_not_zero : (j : ℕ) → suc j ≡ 0 → ⊥
    suc_not_zero j e = omega (arith, e)

    same : x ≡ q
    same = some_is x q e

    go : (t : Bool) → test x ≡ t → place_from test (suc n) xs ≡ None → (if t then Some n else place_from test (suc n) xs) ≡ (if test q then Some (n + 0) else None)
    go true at none = let zero_more : n ≡ n + 0 = omega arith in ap Some zero_more ∙ ap (λ (t : Bool). if t then Some (n + 0) else None) (sym (sym (ap test same) ∙ at))
    go false at none = none ∙ ap (λ (t : Bool). if t then Some (n + 0) else None) (sym (sym (ap test same) ∙ at))
found_only test n (x ∷ xs) (suc here) q only e =
    let fails : test x ≡ false = not_true (test x) (λ passes. zero_not_suc here (only 0 x refl passes)) in
    let rest = found_only test (suc n) xs here q (λ j y at passes. less_one j here (only (suc j) y at passes)) e in
    let more : suc n + here ≡ n + suc here = omega arith in
    ap (λ (t : Bool). if t then Some n else place_from test (suc n) xs) fails ∙ rest ∙ ap (λ (m : ℕ). if test q then Some m else None) more
  where
    zero_not_suc : (j : ℕ) → 0 ≡ suc j → ⊥
    zero_not_suc j e = omega (arith, e)

    less_one : (i j : ℕ) → suc i ≡ suc j → i ≡ j
    less_one i j e = omega (arith, e)

-- a pair is fresh where it comes from none
pub fresh_is : {X : Type 0} (test : X → Bool) (n : ℕ) (xs : List X) → list_any test xs ≡ is_some (place_from test n xs)
fresh_is test n [] = refl
fresh_is test n (x ∷ xs) = go (test x) (fresh_is test (suc n) xs)
  where
    go : (t : Bool) → list_any test xs ≡ is_some (place_from test (suc n) xs) → (t || list_any test xs) ≡ is_some (if t then Some n else place_from test (suc n) xs)
    go true rest = refl
    go false rest = rest

-- a pair with its view
pub pair_there : (fs : List Framed) (vs : List View) (j : ℕ) (q : Pair) → slice_get (pairs_by fs vs) j ≡ Some q → (f : Framed) × (v : View) × (slice_get fs j ≡ Some f) × (slice_get vs j ≡ Some v) × (q ≡ pair_by f v)
pair_there [] vs j q e = cc
pair_there (f ∷ fs) [] j q e = cc
pair_there (f ∷ fs) (v ∷ vs) zero q e = (f, v, refl, refl, sym (some_is _ _ e))
pair_there (f ∷ fs) (v ∷ vs) (suc j) q e = pair_there fs vs j q e

pub there_pair : (fs : List Framed) (vs : List View) (j : ℕ) (f : Framed) (v : View) → slice_get fs j ≡ Some f → slice_get vs j ≡ Some v → slice_get (pairs_by fs vs) j ≡ Some (pair_by f v)
there_pair [] vs j f v e k = cc
there_pair (g ∷ fs) [] j f v e k = cc
there_pair (g ∷ fs) (w ∷ vs) zero f v e k = let same = some_is g f e in let alike = some_is w v k in λ i. Some (pair_by (same i) (alike i))
there_pair (g ∷ fs) (w ∷ vs) (suc j) f v e k = there_pair fs vs j f v e k

-- the key of a pair
abbrev pub pair_key : Pair → Key
pair_key p = (p.source, p.sink)

-- what it means that a pair comes from another
pub comes_key : (keep : List (ℕ × ℕ)) (q p : Pair) → comes_from keep q p ≡ true → (keeps_place keep q.source p.source ≡ true) × (keeps_place keep q.sink p.sink ≡ true) × (same_view q.view p.view ≡ true)
comes_key keep q p e =
    let a = both_hold (keeps_place keep q.source p.source && keeps_place keep q.sink p.sink) (same_view q.view p.view) e in
    let b = both_hold (keeps_place keep q.source p.source) (keeps_place keep q.sink p.sink) a.0 in
    (b.0, b.1, a.1)

module _ (former : Held) (keep : List (ℕ × ℕ)) (once : IsOneToOne keep) (p : Pair) where
  -- a pair that this one comes from has its former key
  its_key : (j : ℕ) (q : Pair) → slice_get (held_pairs former) j ≡ Some q → comes_from keep q p ≡ true
      → (k : Key) × (former_key (former_in keep) (pair_key p) ≡ Some k) × (slice_get (map key_of former.frame.pairs) j ≡ Some k)
  its_key j q at comes =
      let is = comes_key keep q p comes in
      let pair = pair_there former.frame.pairs former.views j q at in
      let key = mapped_at key_of former.frame.pairs j pair.0 pair.2 in
      (pair_key q, kept_key keep once (pair_key q) (pair_key p) is.0 is.1, key ∙ ap (λ (x : Pair). Some (pair_key x)) (sym pair.4))

  -- where a reference isn't kept, the pair is fresh
  pub no_key : former_key (former_in keep) (pair_key p) ≡ None → origin former keep p ≡ None
  no_key none = none_found (λ q. comes_from keep q p) 0 (held_pairs former) (λ j q at comes. let k = its_key j q at comes in none_some k.0 (sym none ∙ k.1))
    where
      none_some : (k : Key) → None ≡ Some k → ⊥
      none_some k e = cc

  -- where no pair had its former key, it is fresh
  pub no_pair : (k : Key) → former_key (former_in keep) (pair_key p) ≡ Some k → ((n : ℕ) → slice_get (map key_of former.frame.pairs) n ≡ Some k → ⊥) → origin former keep p ≡ None
  no_pair k e none =
      none_found (λ q. comes_from keep q p) 0 (held_pairs former)
      (λ j q at comes. let its = its_key j q at comes in none j (its.2 ∙ ap Some (some_is its.0 k (sym its.1 ∙ e))))

  -- where one pair had it, the view decides
  pub one_pair : (k : Key) (here : ℕ) (v : View) → former_key (former_in keep) (pair_key p) ≡ Some k → IsOnlyAt (map key_of former.frame.pairs) k here → slice_get former.views here ≡ Some v
      → origin former keep p ≡ (if same_view v p.view then Some here else None)
  one_pair k here v e alone view =
      let frame = mapped_there key_of former.frame.pairs here k alone.found in
      let q : Pair = pair_by frame.0 v in
      let kept = key_kept keep k (pair_key p) e in
      let source : keeps_place keep q.source p.source ≡ true = ap (λ (x : Key). keeps_place keep x.0 p.source) frame.2 ∙ kept.0 in
      let sink : keeps_place keep q.sink p.sink ≡ true = ap (λ (x : Key). keeps_place keep x.1 p.sink) frame.2 ∙ kept.1 in
      let both : (keeps_place keep q.source p.source && keeps_place keep q.sink p.sink) ≡ true = both_true _ _ source sink in
      let none_more : 0 + here ≡ here = omega arith in
      let comes : comes_from keep q p ≡ same_view v p.view = ap (λ (t : Bool). t && same_view v p.view) both in
      found_only (λ q. comes_from keep q p) 0 (held_pairs former) here q
      (λ j x at passes. let its = its_key j x at passes in alone.only j (its.2 ∙ ap Some (some_is its.0 k (sym its.1 ∙ e))))
      (there_pair former.frame.pairs former.views here frame.0 v frame.1 view)
      ∙ ap (λ (t : Bool). if t then Some (0 + here) else None) comes ∙ ap (λ (n : ℕ). if same_view v p.view then Some n else None) none_more

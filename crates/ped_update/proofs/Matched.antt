-- What the pairs of a changed program keep and what they are tested for takes a graph to that of the program.
use Rattle.std.proofs.Common.{◌≡◌, ℕ, zero, suc, ◌+◌, ◌<◌, List, [], ◌∷◌, ◌++◌, length, Bool, true, cond, Option, Some, None, refl, ap, sym, ◌∙◌, arith}
use Rattle.std.specs.Prelude.{◌≢◌, slice_get, is_some, not}
use Rattle.std.specs.List.{count_by, AllByRecursion}
use Rattle.std.proofs.lemmas.List.Recursion.{is_count_by}
use Rattle.ped_views.specs.Views.{View}
use Rattle.ped_views.specs.SameViews.{same_view}
use Rattle.ped_views.proofs.SameViews.{same_view_decides}
use Rattle.ped_refs.proofs.Ascending.{Ascending, all_told, all_joined, ascending_pairs}
use Rattle.ped_graph.specs.Held.{Framed, Pair, Held, pairs_by, held_pairs}
use Rattle.ped_graph.specs.Keys.{AreInOrder}
use Rattle.ped_graph.specs.Parts.{Stays, Fit}
use Rattle.ped_graph.specs.Keeping.{IsOneToOne}
use Rattle.ped_update.specs.Fresh.{comes_from, is_fresh}
use Rattle.ped_update.specs.Matching.{origin, slot_by, kept_by, slots_for, kept_from, parts_for}
use Rattle.ped_graph.specs.declared.parts.Kept.{Kept}
use Rattle.ped_graph.proofs.Slices.{some_is, mapped_there, mapped_at, length_mapped, all_both}
use Rattle.ped_graph.proofs.InOrder.{one_place}
use Rattle.ped_update.proofs.Origins.{found_at, fresh_is, pair_there, comes_key, one_key}

-- as many pairs with their views as views
pub as_many_pairs : (fs : List Framed) (vs : List View) → length vs ≡ length fs → length (pairs_by fs vs) ≡ length vs
as_many_pairs [] [] e = refl
as_many_pairs [] (v ∷ vs) e = absurd (omega (arith, e))
as_many_pairs (f ∷ fs) [] e = absurd (omega (arith, e))
as_many_pairs (f ∷ fs) (v ∷ vs) e = ap suc (as_many_pairs fs vs (omega (arith, e)))

-- equal views are told to be the same
pub same_told : (v w : View) → v ≡ w → same_view v w ≡ true
same_told v w e = (same_view_decides v w).1 e

none_some : {X : Type 0} (x : X) → None ≡ Some x → ⊥
none_some x e = cc

-- what is told of two items by what each of them is
ascending_with : {X : Type 0} (P : X → Type 0) (R S : X → X → Type 0) → ((x y : X) → P x → P y → R x y → S x y) → (xs : List X) → AllByRecursion P xs → Ascending R xs → Ascending S xs
ascending_with P R S g [] h k = tt
ascending_with P R S g (x ∷ xs) h k = (
  all_told _ _ (λ y b. g x y h.0 b.0 b.1) xs (all_both P (R x) xs h.1 k.0),
  ascending_with P R S g xs h.1 k.1,
)

-- how many pass a test
abbrev pub counted : {X : Type 0} → (X → Bool) → List X → ℕ
counted test [] = 0
counted test (x ∷ xs) = cond (test x) (1 + counted test xs) (counted test xs)

pub as_counted : {X : Type 0} (test : X → Bool) (xs : List X) → counted test xs ≡ count_by test xs
as_counted test xs = is_count_by (counted test) test refl (λ x ys. refl) xs

module _ (former : Held) (keep : List (ℕ × ℕ)) where
  -- a pair keeps a verdict or is fresh
  pub fresh_by : (p : Pair) → is_fresh former keep p ≡ not (is_some (origin former keep p))
  fresh_by p = ap not (fresh_is (λ q. comes_from keep q p) 0 (held_pairs former))

  -- it keeps that of the pair that it comes from
  abbrev Keeps : ℕ → List Pair → Kept → Type 0
  Keeps n ps k = (i : ℕ) × (p : Pair) × (k.there ≡ n + i) × (slice_get ps i ≡ Some p) × (origin former keep p ≡ Some k.here)

  keeps_later : (n : ℕ) (p : Pair) (ps : List Pair) (k : Kept) → Keeps (suc n) ps k → Keeps n (p ∷ ps) k
  keeps_later n p ps k h = let e = h.2 in (suc h.0, h.1, omega (arith, e), h.3, h.4)

  kept_one : (o : Option ℕ) (n : ℕ) (p : Pair) (ps : List Pair) → origin former keep p ≡ o → AllByRecursion (Keeps n (p ∷ ps)) (kept_by o n)
  kept_one None n p ps e = tt
  kept_one (Some here) n p ps e = ((0, p, omega arith, refl, e), tt)

  all_keep : (n : ℕ) (ps : List Pair) → AllByRecursion (Keeps n ps) (kept_from former keep n ps)
  all_keep n [] = tt
  all_keep n (p ∷ ps) = all_joined (Keeps n (p ∷ ps)) (kept_by (origin former keep p) n) (kept_from former keep (suc n) ps) (kept_one (origin former keep p) n p ps refl)
      (all_told _ _ (keeps_later n p ps) (kept_from former keep (suc n) ps) (all_keep (suc n) ps))

  abbrev IsLater : Kept → Kept → Type 0
  IsLater k m = k.there < m.there

  later_joined : (o : Option ℕ) (n : ℕ) (ks : List Kept) → AllByRecursion (λ (m : Kept). n < m.there) ks → Ascending IsLater ks → Ascending IsLater (kept_by o n ++ ks)
  later_joined None n ks h k = k
  later_joined (Some here) n ks h k = (h, k)

  all_later : (n : ℕ) (ps : List Pair) → Ascending IsLater (kept_from former keep n ps)
  all_later n [] = tt
  all_later n (p ∷ ps) = later_joined (origin former keep p) n (kept_from former keep (suc n) ps)
      (all_told _ _ (λ (m : Kept) h. let e = h.2 in omega (arith, e)) (kept_from former keep (suc n) ps) (all_keep (suc n) ps)) (all_later (suc n) ps)

  later_at : (o : Option ℕ) (n j : ℕ) (ks : List Kept) (k : Kept) → slice_get ks j ≡ Some k → (m : ℕ) × (slice_get (kept_by o n ++ ks) m ≡ Some k)
  later_at None n j ks k e = (j, e)
  later_at (Some here) n j ks k e = (suc j, e)

  -- a pair that keeps a verdict is among those that do
  is_kept : (n : ℕ) (ps : List Pair) (i : ℕ) (p : Pair) (here : ℕ) → slice_get ps i ≡ Some p → origin former keep p ≡ Some here
      → (j : ℕ) × (k : Kept) × (slice_get (kept_from former keep n ps) j ≡ Some k) × (k.there ≡ n + i)
  is_kept n [] i p here e h = cc
  is_kept n (q ∷ ps) zero p here e h =
      let is : origin former keep q ≡ Some here = ap (λ (x : Pair). origin former keep x) (some_is q p e) ∙ h in
      (0, record { here = here; there = n }, ap (λ (o : Option ℕ). slice_get (kept_by o n ++ kept_from former keep (suc n) ps) 0) is, omega arith)
  is_kept n (q ∷ ps) (suc i) p here e h =
      let rest = is_kept (suc n) ps i p here e h in
      let at = later_at (origin former keep q) n rest.0 (kept_from former keep (suc n) ps) rest.1 rest.2 in
      let place = rest.3 in
      (at.0, rest.1, at.1, omega (arith, place))

  by_slot : (o : Option ℕ) (p : Pair) (v : View) → slot_by o p ≡ Some v → p.view ≡ v
  by_slot None p v e = some_is p.view v e
  by_slot (Some here) p v e = cc

  empty_slot : (o : Option ℕ) (p : Pair) → slot_by o p ≡ None → (here : ℕ) × (o ≡ Some here)
  empty_slot None p e = cc
  empty_slot (Some here) p e = (here, refl)

  -- as many fresh pairs as there are without those that keep a verdict
  counted_by : (o : Option ℕ) (n a c : ℕ) (ks : List Kept) → a + length ks ≡ c → cond (not (is_some o)) (1 + a) a + length (kept_by o n ++ ks) ≡ suc c
  counted_by None n a c ks e = omega (arith, e)
  counted_by (Some here) n a c ks e = omega (arith, e)

  counted_kept : (n : ℕ) (ps : List Pair) → counted (is_fresh former keep) ps + length (kept_from former keep n ps) ≡ length ps
  counted_kept n [] = refl
  counted_kept n (p ∷ ps) =
      ap (λ (t : Bool). cond t (1 + counted (is_fresh former keep) ps) (counted (is_fresh former keep) ps) + length (kept_by (origin former keep p) n ++ kept_from former keep (suc n) ps)) (fresh_by p)
      ∙ counted_by (origin former keep p) n (counted (is_fresh former keep) ps) (length ps) (kept_from former keep (suc n) ps) (counted_kept (suc n) ps)

  pub fresh_counted : (n : ℕ) (ps : List Pair) → count_by (is_fresh former keep) ps + length (kept_from former keep n ps) ≡ length ps
  fresh_counted n ps = ap (λ (m : ℕ). m + length (kept_from former keep n ps)) (sym (as_counted (is_fresh former keep) ps)) ∙ counted_kept n ps

  module _ (once : IsOneToOne keep) (changed : Held) (order : AreInOrder changed.frame.pairs) (paired : length changed.views ≡ length changed.frame.pairs) where
    abbrev pub ps : List Pair
    ps = held_pairs changed

    abbrev pub kept : List Kept
    kept = kept_from former keep 0 ps

    -- the pair that a pair comes from
    from : (p : Pair) (here : ℕ) → origin former keep p ≡ Some here → (q : Pair) × (slice_get (held_pairs former) here ≡ Some q) × (comes_from keep q p ≡ true)
    from p here e =
        let f = found_at (λ q. comes_from keep q p) 0 (held_pairs former) here e in
        let place = f.2 in
        let is : f.0 ≡ here = omega (arith, place) in
        (f.1, ap (λ (j : ℕ). slice_get (held_pairs former) j) (sym is) ∙ f.3, f.4)

    -- two pairs that come from one stand at one place
    one_origin : (i j : ℕ) (p q : Pair) (here : ℕ) → slice_get ps i ≡ Some p → slice_get ps j ≡ Some q → origin former keep p ≡ Some here → origin former keep q ≡ Some here → i ≡ j
    one_origin i j p q here e f a b =
        let x = from p here a in
        let y = from q here b in
        let same : x.0 ≡ y.0 = some_is x.0 y.0 (sym x.1 ∙ y.1) in
        let k = comes_key keep x.0 p x.2 in
        let l = comes_key keep x.0 q (ap (λ (z : Pair). comes_from keep z q) same ∙ y.2) in
        let source = one_key keep once x.0.source p.source q.source k.0 l.0 in
        let sink = one_key keep once x.0.sink p.sink q.sink k.1 l.1 in
        let first = pair_there changed.frame.pairs changed.views i p e in
        let second = pair_there changed.frame.pairs changed.views j q f in
        one_place changed.frame.pairs order i j first.0 second.0 first.2 second.2
        (λ n. ((ap (λ (z : Pair). z.source) (sym first.4) ∙ source ∙ ap (λ (z : Pair). z.source) second.4) n, (ap (λ (z : Pair). z.sink) (sym first.4) ∙ sink ∙ ap (λ (z : Pair). z.sink) second.4) n))

    here_apart : (k m : Kept) → Keeps 0 ps k → Keeps 0 ps m → IsLater k m → k.here ≢ m.here
    here_apart k m a b less same =
        let place = one_origin a.0 b.0 a.1 b.1 m.here a.3 b.3 (a.4 ∙ ap Some same) b.4 in
        let first = a.2 in
        let second = b.2 in
        omega (arith, place, first, second, less)

    there_apart : (k m : Kept) → Keeps 0 ps k → Keeps 0 ps m → IsLater k m → k.there ≢ m.there
    there_apart k m a b less same = omega (arith, less, same)

    left_at : (n : ℕ) (v : View) → slice_get (slots_for former keep ps) n ≡ Some (Some v) → slice_get changed.views n ≡ Some v
    left_at n v e =
        let at = mapped_there (λ p. slot_by (origin former keep p) p) ps n (Some v) e in
        let pair = pair_there changed.frame.pairs changed.views n at.0 at.1 in
        pair.3 ∙ ap Some (ap (λ (x : Pair). x.view) (sym pair.4) ∙ by_slot (origin former keep at.0) at.0 v at.2)

    stays_at : (k : Kept) → Keeps 0 ps k → Stays (slots_for former keep ps) former changed k
    stays_at k h =
        let place = h.2 in
        let is : h.0 ≡ k.there = omega (arith, place) in
        let p = h.1 in
        let x = from p k.here h.4 in
        let old = pair_there former.frame.pairs former.views k.here x.0 x.1 in
        let new = pair_there changed.frame.pairs changed.views h.0 p h.3 in
        let same : x.0.view ≡ p.view = (same_view_decides x.0.view p.view).0 (comes_key keep x.0 p x.2).2 in
        record {
          empty = ap (λ (n : ℕ). slice_get (slots_for former keep ps) n) (sym is) ∙ mapped_at (λ q. slot_by (origin former keep q) q) ps h.0 p h.3 ∙ ap (λ (o : Option ℕ). Some (slot_by o p)) h.4;
          view = p.view;
          before = old.3 ∙ ap Some (ap (λ (z : Pair). z.view) (sym old.4) ∙ same);
          behind = ap (λ (n : ℕ). slice_get changed.views n) (sym is) ∙ new.3 ∙ ap (λ (z : Pair). Some z.view) (sym new.4);
        }

    others_at : (n : ℕ) → slice_get (slots_for former keep ps) n ≡ Some None → (j : ℕ) × (k : Kept) × (slice_get kept j ≡ Some k) × (k.there ≡ n)
    others_at n e =
        let at = mapped_there (λ p. slot_by (origin former keep p) p) ps n None e in
        let o = empty_slot (origin former keep at.0) at.0 at.2 in
        let k = is_kept 0 ps n at.0 o.0 at.1 o.1 in
        let place = k.3 in
        (k.0, k.1, k.2, omega (arith, place))

    -- the parts take the former graph to that of the changed program
    pub parts_fit : Fit (parts_for former keep changed) former changed
    parts_fit =
        let many = as_many_pairs changed.frame.pairs changed.views paired in
        let mapped = length_mapped (λ p. slot_by (origin former keep p) p) ps in
        record {
          frame = refl;
          paired = mapped ∙ many ∙ paired;
          long = mapped ∙ many;
          one_here = ascending_pairs (λ k m. k.here ≢ m.here) kept (ascending_with (Keeps 0 ps) IsLater (λ k m. k.here ≢ m.here) here_apart kept (all_keep 0 ps) (all_later 0 ps));
          one_there = ascending_pairs (λ k m. k.there ≢ m.there) kept (ascending_with (Keeps 0 ps) IsLater (λ k m. k.there ≢ m.there) there_apart kept (all_keep 0 ps) (all_later 0 ps));
          left = left_at;
          stay = all_told (Keeps 0 ps) _ stays_at kept (all_keep 0 ps);
          others = others_at;
        }

    -- as many are tested as are fresh
    pub tested_counted : length (slots_for former keep ps) ≡ count_by (is_fresh former keep) ps + length kept
    tested_counted = length_mapped (λ p. slot_by (origin former keep p) p) ps ∙ sym (fresh_counted 0 ps)

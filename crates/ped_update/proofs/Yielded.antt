-- The pairs of a changed program so far, as a loop over their views takes them.
use Rattle.std.proofs.Common.{◌≡◌, ℕ, zero, suc, ◌+◌, ◌≤◌, List, [], ◌∷◌, ◌++◌, length, take, Bool, true, false, cond, Option, Some, None, refl, ap, sym, ◌∙◌, append_assoc, append-nil, add-one, eqb, arith}
use Rattle.std.specs.Prelude.{slice_get, is_some, not, ◌==◌, if◌then◌else◌}
use Rattle.std.specs.Option.{option_or}
use Rattle.std.specs.List.{count_by}
use Rattle.ped_views.specs.Views.{View}
use Rattle.ped_graph.specs.Held.{Framed, Pair, Held, pair_by, pairs_by}
use Rattle.ped_update.specs.Fresh.{is_fresh}
use Rattle.ped_update.specs.Matching.{former_in, origin, slot_by, kept_by, slots_for, kept_from}
use Rattle.ped_graph.specs.declared.parts.Kept.{Kept}
use Rattle.ped_update.proofs.Matched.{counted, as_counted, fresh_by}
use Rattle.ped_graph.proofs.Slices.{some_is, map_more}

-- one more view
pub pairs_more : (fs : List Framed) (vs : List View) (f : Framed) (v : View) → slice_get fs (length vs) ≡ Some f → pairs_by fs (vs ++ v ∷ []) ≡ pairs_by fs vs ++ pair_by f v ∷ []
pairs_more [] vs f v e = cc
pairs_more (g ∷ fs) [] f v e = let same : g ≡ f = cc in λ i. pair_by (same i) v ∷ pairs_by_none fs i
  where
    pairs_by_none : (gs : List Framed) → pairs_by gs [] ≡ []
    pairs_by_none [] = refl
    pairs_by_none (h ∷ gs) = refl
pairs_more (g ∷ fs) (w ∷ vs) f v e = ap (λ (ps : List Pair). pair_by g w ∷ ps) (pairs_more fs vs f v e)

pub many_pairs : (fs : List Framed) (vs : List View) → length vs ≤ length fs → length (pairs_by fs vs) ≡ length vs
many_pairs [] [] e = refl
many_pairs [] (v ∷ vs) e = absurd (omega (arith, e))
many_pairs (f ∷ fs) [] e = refl
many_pairs (f ∷ fs) (v ∷ vs) e = ap suc (many_pairs fs vs (omega (arith, e)))

counted_more : {X : Type 0} (test : X → Bool) (xs : List X) (x : X) → counted test (xs ++ x ∷ []) ≡ counted test xs + cond (test x) 1 0
counted_more test [] x = go (test x)
  where
    go : (t : Bool) → cond t (1 + 0) 0 ≡ 0 + cond t 1 0
    go true = refl
    go false = refl
counted_more test (y ∷ xs) x = go (test y) (counted_more test xs x)
  where
    go : (t : Bool) → counted test (xs ++ x ∷ []) ≡ counted test xs + cond (test x) 1 0
        → cond t (1 + counted test (xs ++ x ∷ [])) (counted test (xs ++ x ∷ [])) ≡ cond t (1 + counted test xs) (counted test xs) + cond (test x) 1 0
    go true e = omega (arith, e)
    go false e = e

-- how many more are counted
pub count_more : {X : Type 0} (test : X → Bool) (xs : List X) (x : X) → count_by test (xs ++ x ∷ []) ≡ count_by test xs + cond (test x) 1 0
count_more test xs x = sym (as_counted test (xs ++ x ∷ [])) ∙ counted_more test xs x ∙ ap (λ (n : ℕ). n + cond (test x) 1 0) (as_counted test xs)

counted_front : (test : Pair → Bool) (fs : List Framed) (vs : List View) (n : ℕ) → counted test (pairs_by fs (take n vs)) ≤ counted test (pairs_by fs vs)
counted_front test [] vs n = omega arith
counted_front test (f ∷ fs) [] zero = omega arith
counted_front test (f ∷ fs) [] (suc n) = omega arith
counted_front test (f ∷ fs) (v ∷ vs) zero = omega arith
counted_front test (f ∷ fs) (v ∷ vs) (suc n) = go (test (pair_by f v)) (counted_front test fs vs n)
  where
    go : (t : Bool) → counted test (pairs_by fs (take n vs)) ≤ counted test (pairs_by fs vs)
        → cond t (1 + counted test (pairs_by fs (take n vs))) (counted test (pairs_by fs (take n vs))) ≤ cond t (1 + counted test (pairs_by fs vs)) (counted test (pairs_by fs vs))
    go true e = omega (arith, e)
    go false e = e

-- no more are counted at the front
pub count_front : (test : Pair → Bool) (fs : List Framed) (vs front : List View) (n : ℕ) → front ≡ take n vs → count_by test (pairs_by fs front) ≤ count_by test (pairs_by fs vs)
count_front test fs vs front n e =
    let few = counted_front test fs vs n in
    let first : counted test (pairs_by fs front) ≡ counted test (pairs_by fs (take n vs)) = ap (λ (xs : List View). counted test (pairs_by fs xs)) e in
    let here = as_counted test (pairs_by fs front) in
    let all = as_counted test (pairs_by fs vs) in
    omega (arith, few, first, here, all)

-- one more slot
pub slots_more : (former : Held) (keep : List (ℕ × ℕ)) (ps : List Pair) (p : Pair) (o : Option ℕ) → o ≡ origin former keep p → slots_for former keep (ps ++ p ∷ []) ≡ slots_for former keep ps ++ slot_by o p ∷ []
slots_more former keep ps p o e = map_more (λ q. slot_by (origin former keep q) q) ps p ∙ ap (λ (x : Option ℕ). slots_for former keep ps ++ slot_by x p ∷ []) (sym e)

-- one more pair, which may keep a verdict
pub kept_more : (former : Held) (keep : List (ℕ × ℕ)) (n m : ℕ) (ps : List Pair) (p : Pair) (o : Option ℕ) → o ≡ origin former keep p → m ≡ n + length ps → kept_from former keep n (ps ++ p ∷ []) ≡ kept_from former keep n ps ++ kept_by o m
kept_more former keep n m [] p o e f =
    let same : m ≡ n = omega (arith, f) in
    append-nil (kept_by (origin former keep p) n) ∙ (λ i. kept_by (sym e i) (sym same i))
kept_more former keep n m (q ∷ ps) p o e f =
    ap (λ (ks : List Kept). kept_by (origin former keep q) n ++ ks) (kept_more former keep (suc n) m ps p o e (omega (arith, f)))
    ∙ sym (append_assoc (kept_by (origin former keep q) n) (kept_from former keep (suc n) ps) (kept_by o m))

-- no pairs with no views
pub no_pairs : (fs : List Framed) → pairs_by fs [] ≡ []
no_pairs [] = refl
no_pairs (f ∷ fs) = refl

-- one more pair in the loop over views
module _ (former : Held) (keep : List (ℕ × ℕ)) (fs : List Framed) (ys : List View) (view : View) (f : Framed) (at : slice_get fs (length ys) ≡ Some f) (o : Option ℕ) (is : o ≡ origin former keep (pair_by f view)) where
  pub step_slots : (old new : List (Option View)) → old ≡ slots_for former keep (pairs_by fs ys) → new ≡ old ++ slot_by o (pair_by f view) ∷ [] → new ≡ slots_for former keep (pairs_by fs (ys ++ view ∷ []))
  step_slots old new e k =
      k ∙ ap (λ (ss : List (Option View)). ss ++ slot_by o (pair_by f view) ∷ []) e ∙ sym (slots_more former keep (pairs_by fs ys) (pair_by f view) o is)
      ∙ ap (λ (ps : List Pair). slots_for former keep ps) (sym (pairs_more fs ys f view at))

  pub step_kept : (old new : List Kept) (m : ℕ) → m ≡ length ys → length ys ≤ length fs → old ≡ kept_from former keep 0 (pairs_by fs ys) → new ≡ old ++ kept_by o m → new ≡ kept_from former keep 0 (pairs_by fs (ys ++ view ∷ []))
  step_kept old new m many few e k =
      let as_many = many_pairs fs ys few in
      let place : m ≡ 0 + length (pairs_by fs ys) = omega (arith, many, as_many) in
      k ∙ ap (λ (ks : List Kept). ks ++ kept_by o m) e ∙ sym (kept_more former keep 0 m (pairs_by fs ys) (pair_by f view) o is place)
      ∙ ap (λ (ps : List Pair). kept_from former keep 0 ps) (sym (pairs_more fs ys f view at))

  pub step_steps : (start before now : ℕ) → before ≡ start + count_by (is_fresh former keep) (pairs_by fs ys) → now ≡ before + cond (not (is_some o)) 1 0 → now ≡ start + count_by (is_fresh former keep) (pairs_by fs (ys ++ view ∷ []))
  step_steps start before now e k =
      let fresh : is_fresh former keep (pair_by f view) ≡ not (is_some o) = fresh_by former keep (pair_by f view) ∙ ap (λ (x : Option ℕ). not (is_some x)) (sym is) in
      let more : count_by (is_fresh former keep) (pairs_by fs (ys ++ view ∷ [])) ≡ count_by (is_fresh former keep) (pairs_by fs ys) + cond (not (is_some o)) 1 0 =
      ap (λ (ps : List Pair). count_by (is_fresh former keep) ps) (pairs_more fs ys f view at) ∙ count_more (is_fresh former keep) (pairs_by fs ys) (pair_by f view)
      ∙ ap (λ (t : Bool). count_by (is_fresh former keep) (pairs_by fs ys) + cond t 1 0) fresh in
      omega (arith, e, k, more)

-- the former statements with one more
former_push : (keep : List (ℕ × ℕ)) (k : ℕ × ℕ) (now : ℕ) → former_in (keep ++ k ∷ []) now ≡ cond (eqb k.1 now) (Some k.0) (former_in keep now)
former_push [] k now = go (eqb k.1 now)
  where
    go : (t : Bool) → option_or None (if t then Some k.0 else None) ≡ cond t (Some k.0) None
    go true = refl
    go false = refl
former_push (q ∷ keep) k now = ap (λ (o : Option ℕ). option_or o (if q.1 == now then Some q.0 else None)) (former_push keep k now) ∙ go (eqb k.1 now)
  where
    go : (t : Bool) → option_or (cond t (Some k.0) (former_in keep now)) (if q.1 == now then Some q.0 else None) ≡ cond t (Some k.0) (option_or (former_in keep now) (if q.1 == now then Some q.0 else None))
    go true = refl
    go false = refl

pub take_next : {X : Type 0} (xs : List X) (i : ℕ) (x : X) → slice_get xs i ≡ Some x → take (suc i) xs ≡ take i xs ++ x ∷ []
take_next [] i x e = cc
take_next (y ∷ xs) zero x e = ap (λ z. z ∷ []) (some_is y x e)
take_next (y ∷ xs) (suc i) x e = ap (λ zs. y ∷ zs) (take_next xs i x e)

pub former_more : (keep : List (ℕ × ℕ)) (i : ℕ) (k : ℕ × ℕ) (now : ℕ) → slice_get keep i ≡ Some k → former_in (take (i + 1) keep) now ≡ cond (eqb k.1 now) (Some k.0) (former_in (take i keep) now)
former_more keep i k now e =
    ap (λ (n : ℕ). former_in (take n keep) now) (add-one i) ∙ ap (λ (ks : List (ℕ × ℕ)). former_in ks now) (take_next keep i k e) ∙ former_push (take i keep) k now

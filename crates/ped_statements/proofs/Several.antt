-- Items with a comma between two: what is read is written so, and what is written so is read.
use Rattle.std.proofs.Common.{◌≡◌, ℕ, zero, suc, ◌≤◌, ◌<◌, Bool, true, false, cond, List, [], ◌∷◌, ◌++◌, length, map, Option, Some, None, refl, sym, ap, subst, ◌∙◌, append_assoc, arith, inl, inr, length-append}
use Rattle.std.specs.Prelude.{codes, ◌&&◌}
use Rattle.std.specs.List.{list_all, flat_map, join_by}
use Rattle.std.proofs.lemmas.List.{append-nil}
use Rattle.ped_expressions.specs.Scanning.{◌>>=◌, go_on, after}
use Rattle.ped_statements.specs.Listing.{is_end, whole, several_at, several, each_behind_comma}
use Rattle.ped_expressions.proofs.Basics.{some_is, bind_some, stops_or_goes, chosen, guarded, bind_same, go_same, after_is, after_len}
use Rattle.ped_expressions.proofs.Sound.{read_on}

-- no item leaves more than there was
abbrev pub Shrinks : {A : Type 0} → (List ℕ → Option (A × List ℕ)) → Type 0
Shrinks {A} item = (ts : List ℕ) (x : A × List ℕ) → item ts ≡ Some x → length x.1 ≤ length ts

-- what is read of an item is one of the forms, which passes the test
abbrev pub Finds : {F A : Type 0} → (F → List ℕ) → (F → A) → (F → Bool) → (List ℕ → Option (A × List ℕ)) → Type 0
Finds {F} {A} text tree good item = (ts : List ℕ) (x : A × List ℕ) → item ts ≡ Some x → (f : F) × (good f ≡ true) × (tree f ≡ x.0) × (ts ≡ text f ++ x.1)

-- each form that passes the test is read, where an end follows
abbrev pub IsReadBack : {F A : Type 0} → (F → List ℕ) → (F → A) → (F → Bool) → (List ℕ → Bool) → (List ℕ → Option (A × List ℕ)) → Type 0
IsReadBack {F} {A} text tree good ends item = (f : F) (rest : List ℕ) → good f ≡ true → ends rest ≡ true → item (text f ++ rest) ≡ Some (tree f, rest)

pub shrinks : {F A : Type 0} (text : F → List ℕ) (tree : F → A) (good : F → Bool) (item : List ℕ → Option (A × List ℕ)) → Finds text tree good item → Shrinks item
shrinks text tree good item found ts x h = let f = found ts x h in omega (arith, ap length f.3, length-append (text f.0) x.1)

-- what goes on behind an item
abbrev pub listed : {A : Type 0} → (List ℕ → Option (List A × List ℕ)) → A × List ℕ → Option (List A × List ℕ)
listed more x = go_on (after (codes ",") x.1) (Some (x.0 ∷ [], x.1)) (λ r. more r >>= λ y. Some (x.0 ∷ y.0, y.1))

several_settled : {A : Type 0} (item : List ℕ → Option (A × List ℕ)) → Shrinks item → (n m : ℕ) (ts : List ℕ) → length ts < n → length ts < m → several_at item n ts ≡ several_at item m ts
several_settled item s zero m ts p q = absurd (omega arith)
several_settled item s (suc n) zero ts p q = absurd (omega arith)
several_settled {A} item s (suc n) (suc m) ts p q =
    bind_same (item ts) (listed (several_at item n)) (listed (several_at item m)) (λ x h.
    let k = s ts x h in
    go_same (after (codes ",") x.1) (Some (x.0 ∷ [], x.1)) (λ r. several_at item n r >>= λ y. Some (x.0 ∷ y.0, y.1)) (λ r. several_at item m r >>= λ y. Some (x.0 ∷ y.0, y.1)) (λ r g.
    let l = after_len (codes ",") x.1 r g in
    ap (λ (o : Option (List A × List ℕ)). o >>= λ y. Some (x.0 ∷ y.0, y.1)) (several_settled item s n m r (omega arith) (omega arith))))

pub several_step : {A : Type 0} (item : List ℕ → Option (A × List ℕ)) → Shrinks item → (ts : List ℕ) → several item ts ≡ (item ts >>= listed (several item))
unfolding several
several_step {A} item s ts =
    bind_same (item ts) (listed (several_at item (length ts))) (listed (several item)) (λ x h.
    let k = s ts x h in
    go_same (after (codes ",") x.1) (Some (x.0 ∷ [], x.1)) (λ r. several_at item (length ts) r >>= λ y. Some (x.0 ∷ y.0, y.1)) (λ r. several item r >>= λ y. Some (x.0 ∷ y.0, y.1)) (λ r g.
    let l = after_len (codes ",") x.1 r g in
    ap (λ (o : Option (List A × List ℕ)). o >>= λ y. Some (x.0 ∷ y.0, y.1)) (several_settled item s (length ts) (suc (length r)) r (omega arith) (omega arith))))

-- the forms of what is read
abbrev pub FoundSeveral : {F A : Type 0} → (F → List ℕ) → (F → A) → (F → Bool) → List ℕ → List A × List ℕ → Type 0
FoundSeveral {F} text tree good ts y = (f : F) × (fs : List F) × (list_all good (f ∷ fs) ≡ true) × (map tree (f ∷ fs) ≡ y.0) × (ts ≡ join_by text (codes ",") (f ∷ fs) ++ y.1)

both : (a b : Bool) → a ≡ true → b ≡ true → (a && b) ≡ true
both a b p q = rw (p, q) refl

regroup : (a b c : List ℕ) → a ++ codes "," ++ (b ++ c) ≡ a ++ (codes "," ++ b ++ c)
regroup a b c = simp append_assoc

several_at_found : {F A : Type 0} (text : F → List ℕ) (tree : F → A) (good : F → Bool) (item : List ℕ → Option (A × List ℕ)) → Finds text tree good item → (n : ℕ) (ts : List ℕ) (y : List A × List ℕ) → several_at item n ts ≡ Some y → FoundSeveral text tree good ts y
several_at_found text tree good item found zero ts y h = absurd cc
several_at_found {F} {A} text tree good item found (suc n) ts y h =
    let a = bind_some (item ts) (listed (several_at item n)) y h in
    let f = found ts a.0 a.1 in
    elim (stops_or_goes (after (codes ",") a.0.1) (Some (a.0.0 ∷ [], a.0.1)) (λ r. several_at item n r >>= λ y. Some (a.0.0 ∷ y.0, y.1)) (Some y) a.2) [
      | inl g ↦
          subst (λ (y : List A × List ℕ). FoundSeveral text tree good ts y) (some_is (a.0.0 ∷ [], a.0.1) y g.1)
          (f.0, [], both _ _ f.1 refl, ap (λ (z : A). z ∷ []) f.2, f.3 ∙ ap (λ (w : List ℕ). w ++ a.0.1) (sym (append-nil (text f.0))))
      | inr g ↦
          let b = bind_some (several_at item n g.0) (λ y. Some (a.0.0 ∷ y.0, y.1)) y g.2 in
          let r = several_at_found text tree good item found n g.0 b.0 b.1 in
          subst (λ (y : List A × List ℕ). FoundSeveral text tree good ts y) (some_is (a.0.0 ∷ b.0.0, b.0.1) y b.2) (
            f.0,
            r.0 ∷ r.1,
            both _ _ f.1 r.2,
            ap (λ (z : A). z ∷ map tree (r.0 ∷ r.1)) f.2 ∙ ap (λ (z : List A). a.0.0 ∷ z) r.3,
            f.3 ∙ read_on (text f.0) (codes ",") a.0.1 g.0 (after_is (codes ",") a.0.1 g.0 g.1) ∙ read_on (text f.0 ++ codes ",") (join_by text (codes ",") (r.0 ∷ r.1)) g.0 b.0.1 r.4
                ∙ ap (λ (w : List ℕ). w ++ b.0.1) (regroup (text f.0) (text r.0) (flat_map (λ y. codes "," ++ text y) r.1)),
          )
    ]

pub several_found : {F A : Type 0} (text : F → List ℕ) (tree : F → A) (good : F → Bool) (item : List ℕ → Option (A × List ℕ)) → Finds text tree good item → (ts : List ℕ) (y : List A × List ℕ) → several item ts ≡ Some y → FoundSeveral text tree good ts y
unfolding several
several_found text tree good item found ts y h = several_at_found text tree good item found (suc (length ts)) ts y h

-- forms behind a comma each
abbrev pub all_behind : {F : Type 0} → (F → List ℕ) → List F → List ℕ
all_behind text fs = flat_map (λ f. codes "," ++ text f) fs

pub first_good : (a b : Bool) → (a && b) ≡ true → a ≡ true
first_good true b h = refl
first_good false b h = absurd cc

pub others_good : (a b : Bool) → (a && b) ≡ true → b ≡ true
others_good true b h = h
others_good false b h = absurd cc

several_text : (a b c r : List ℕ) → a ++ (codes "," ++ b ++ c) ++ r ≡ a ++ (codes "," ++ (b ++ c ++ r))
several_text a b c r = simp append_assoc

pub several_again : {F A : Type 0} (text : F → List ℕ) (tree : F → A) (good : F → Bool) (ends : List ℕ → Bool) (item : List ℕ → Option (A × List ℕ)) → Shrinks item → IsReadBack text tree good ends item → ((r : List ℕ) → ends (codes "," ++ r) ≡ true)
    → (f : F) (fs : List F) (rest : List ℕ) → list_all good (f ∷ fs) ≡ true → ends rest ≡ true → after (codes ",") rest ≡ None → several item (join_by text (codes ",") (f ∷ fs) ++ rest) ≡ Some (map tree (f ∷ fs), rest)
several_again text tree good ends item s back comma f [] rest g e n =
    let read = back f rest (first_good (good f) true g) e in
    ap (several item) (ap (λ (w : List ℕ). w ++ rest) (append-nil (text f)))
    ∙ several_step item s (text f ++ rest)
    ∙ rw (read, n) refl
several_again text tree good ends item s back comma f (k ∷ ks) rest g e n =
    let r = join_by text (codes ",") (k ∷ ks) ++ rest in
    let others = others_good (good f) (list_all good (k ∷ ks)) g in
    let read = back f (codes "," ++ r) (first_good (good f) (list_all good (k ∷ ks)) g) (comma r) in
    let more = several_again text tree good ends item s back comma k ks rest others e n in
    ap (several item) (several_text (text f) (text k) (all_behind text ks) rest)
    ∙ several_step item s (text f ++ (codes "," ++ r))
    ∙ rw (read, more) refl

-- whole texts

ends_nothing : (ts : List ℕ) → is_end ts ≡ true → ts ≡ []
ends_nothing [] h = refl
ends_nothing (c ∷ ts) h = absurd cc

pub whole_is : {A : Type 0} (r : Option (A × List ℕ)) (a : A) → whole r ≡ Some a → r ≡ Some (a, [])
whole_is r a h =
    let b = bind_some r (λ x. cond (is_end x.1) (Some x.0) None) a h in
    let g = guarded (is_end b.0.1) (Some b.0.0) a b.2 in
    let nothing : b.0.1 ≡ [] = ends_nothing b.0.1 g.0 in
    let same = some_is b.0.0 a g.1 in
    b.1 ∙ (λ i. Some (same i, nothing i))

pub whole_several_found : {F A : Type 0} (text : F → List ℕ) (tree : F → A) (good : F → Bool) (item : List ℕ → Option (A × List ℕ)) → Finds text tree good item → (ts : List ℕ) (xs : List A) → whole (several item ts) ≡ Some xs
    → (f : F) × (fs : List F) × (list_all good (f ∷ fs) ≡ true) × (map tree (f ∷ fs) ≡ xs) × (join_by text (codes ",") (f ∷ fs) ≡ ts)
whole_several_found text tree good item found ts xs h =
    let r = several_found text tree good item found ts (xs, []) (whole_is (several item ts) xs h) in
    (r.0, r.1, r.2, r.3, sym (r.4 ∙ append-nil (join_by text (codes ",") (r.0 ∷ r.1))))

pub whole_several_again : {F A : Type 0} (text : F → List ℕ) (tree : F → A) (good : F → Bool) (ends : List ℕ → Bool) (item : List ℕ → Option (A × List ℕ)) → Shrinks item → IsReadBack text tree good ends item → ((r : List ℕ) → ends (codes "," ++ r) ≡ true) → ends [] ≡ true
    → (f : F) (fs : List F) → list_all good (f ∷ fs) ≡ true → whole (several item (join_by text (codes ",") (f ∷ fs))) ≡ Some (map tree (f ∷ fs))
whole_several_again text tree good ends item s back comma nil f fs g =
    let t = join_by text (codes ",") (f ∷ fs) in
    let r : several item t ≡ Some (map tree (f ∷ fs), []) = ap (several item) (sym (append-nil t)) ∙ several_again text tree good ends item s back comma f fs [] g nil refl in
    rw r refl

pub each_found : {F A : Type 0} (text : F → List ℕ) (tree : F → A) (good : F → Bool) (item : List ℕ → Option (A × List ℕ)) → Finds text tree good item → (ts : List ℕ) (xs : List A) → each_behind_comma item ts ≡ Some xs
    → (fs : List F) × (list_all good fs ≡ true) × (map tree fs ≡ xs) × (all_behind text fs ≡ ts)
unfolding each_behind_comma
each_found text tree good item found ts xs h =
    elim (chosen (is_end ts) (Some []) (after (codes ",") ts >>= λ r. whole (several item r)) (Some xs) h) [
      | inl a ↦ ([], refl, some_is [] xs a.1, sym (ends_nothing ts a.0))
      | inr a ↦
          let b = bind_some (after (codes ",") ts) (λ r. whole (several item r)) xs a.1 in
          let r = whole_several_found text tree good item found b.0 xs b.2 in
          (r.0 ∷ r.1, r.2, r.3, append_assoc (codes ",") (text r.0) (all_behind text r.1) ∙ ap (λ (w : List ℕ). codes "," ++ w) r.4 ∙ sym (after_is (codes ",") ts b.0 b.1))
    ]

pub each_again : {F A : Type 0} (text : F → List ℕ) (tree : F → A) (good : F → Bool) (ends : List ℕ → Bool) (item : List ℕ → Option (A × List ℕ)) → Shrinks item → IsReadBack text tree good ends item → ((r : List ℕ) → ends (codes "," ++ r) ≡ true) → ends [] ≡ true
    → (fs : List F) → list_all good fs ≡ true → each_behind_comma item (all_behind text fs) ≡ Some (map tree fs)
unfolding each_behind_comma
each_again text tree good ends item s back comma nil [] g = refl
each_again text tree good ends item s back comma nil (f ∷ fs) g =
    ap (λ (w : List ℕ). each_behind_comma item w) (append_assoc (codes ",") (text f) (all_behind text fs)) ∙ whole_several_again text tree good ends item s back comma nil f fs g

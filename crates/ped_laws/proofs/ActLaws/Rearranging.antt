-- Items of touches in another order, each past items alone with which it doesn't clash.
use Rattle.std.proofs.Common.{◌≡◌, List, [], ◌∷◌, ◌++◌, reverse, Bool, true, false, refl, sym, ap, subst, ◌∙◌, inl, inr}
use Rattle.std.proofs.lemmas.List.{reverse-append}
use Rattle.ped_eval.specs.ped_store.specs.Stores.{Store}
use Rattle.ped_eval.specs.ped_store.specs.Acts.{Touch, store_behind}
use Rattle.ped_laws.specs.Acts.Fitting.{Find}
use Rattle.ped_laws.specs.Acts.Conflicts.{some_clash}
use Rattle.ped_laws.specs.Acts.Orders.{IsIn, StandsBefore, EachOnce, KeepsOrder}
use Rattle.ped_laws.proofs.ActLaws.Stores.{behind_append, find_append, find_first, find_rest}
use Rattle.ped_laws.proofs.ActLaws.Lists.{in_left, in_parts, in_more, in_fewer, split_at, first_in, second_in, before_more, before_it, once_fewer, not_in_rest}
use Rattle.ped_laws.proofs.ActLaws.Clashes.{swap_behind, swap_find, swap_found}

-- the touches of items, one after the other
abbrev pub flat : {X : Type 0} → (X → List Touch) → List X → List Touch
flat f [] = []
flat f (x ∷ xs) = f x ++ flat f xs

-- the items in another order: each, taken from what is left, clashes with none in front of it
abbrev pub Rearranged : {X : Type 0} → (X → List Touch) → List X → List X → Type 0
Rearranged f xs [] = xs ≡ []
Rearranged f xs (y ∷ ys) = (left : List _) × (right : List _) × (xs ≡ left ++ y ∷ right) × ((x : _) → IsIn x left → some_clash (f x) (f y) ≡ false) × Rearranged f (left ++ right) ys

-- an item with which none before it clashes moves to the front
moved_find : {X : Type 0} (f : X → List Touch) (left : List X) (y : X) (right : List X) (s : Store) → ((x : X) → IsIn x left → some_clash (f x) (f y) ≡ false) → Find (flat f (left ++ y ∷ right)) s → Find (f y ++ flat f (left ++ right)) s
moved_find f [] y right s free g = g
moved_find f (a ∷ left) y right s free g =
    let h = free a (inl refl) in
    let s1 = store_behind (f a) s in
    let m = moved_find f left y right s1 (λ x i. free x (inr i)) (find_rest (f a) (flat f (left ++ y ∷ right)) s g) in
    let ys = swap_find (f a) (f y) s h (find_first (f y) (flat f (left ++ right)) s1 m) in
    let xs = swap_found (f a) (f y) s h (find_first (f a) (flat f (left ++ y ∷ right)) s g) in
    let rest = subst (Find (flat f (left ++ right))) (swap_behind (f a) (f y) s h) (find_rest (f y) (flat f (left ++ right)) s1 m) in
    find_append (f y) (f a ++ flat f (left ++ right)) s ys (find_append (f a) (flat f (left ++ right)) (store_behind (f y) s) xs rest)

moved_behind : {X : Type 0} (f : X → List Touch) (left : List X) (y : X) (right : List X) (s : Store) → ((x : X) → IsIn x left → some_clash (f x) (f y) ≡ false) → store_behind (flat f (left ++ y ∷ right)) s ≡ store_behind (f y ++ flat f (left ++ right)) s
moved_behind f [] y right s free = refl
moved_behind f (a ∷ left) y right s free =
    let h = free a (inl refl) in
    let s1 = store_behind (f a) s in
    behind_append (f a) (flat f (left ++ y ∷ right)) s
    ∙ moved_behind f left y right s1 (λ x i. free x (inr i))
    ∙ behind_append (f y) (flat f (left ++ right)) s1
    ∙ ap (store_behind (flat f (left ++ right))) (swap_behind (f a) (f y) s h)
    ∙ sym (behind_append (f a) (flat f (left ++ right)) (store_behind (f y) s))
    ∙ sym (behind_append (f y) (f a ++ flat f (left ++ right)) s)

-- rearranged items find what they read, and leave the same store
pub rearranged_find : {X : Type 0} (f : X → List Touch) (xs ys : List X) (s : Store) → Rearranged f xs ys → Find (flat f xs) s → Find (flat f ys) s
rearranged_find f xs [] s r g = tt
rearranged_find f xs (y ∷ ys) s r g =
    let m = moved_find f r.0 y r.1 s r.3 (subst (λ z. Find (flat f z) s) r.2 g) in
    find_append (f y) (flat f ys) s
    (find_first (f y) (flat f (r.0 ++ r.1)) s m)
    (rearranged_find f (r.0 ++ r.1) ys (store_behind (f y) s) r.4 (find_rest (f y) (flat f (r.0 ++ r.1)) s m))

pub rearranged_behind : {X : Type 0} (f : X → List Touch) (xs ys : List X) (s : Store) → Rearranged f xs ys → store_behind (flat f xs) s ≡ store_behind (flat f ys) s
rearranged_behind f xs [] s r = ap (λ z. store_behind (flat f z) s) r
rearranged_behind f xs (y ∷ ys) s r =
    ap (λ z. store_behind (flat f z) s) r.2
    ∙ moved_behind f r.0 y r.1 s r.3
    ∙ behind_append (f y) (flat f (r.0 ++ r.1)) s
    ∙ rearranged_behind f (r.0 ++ r.1) ys (store_behind (f y) s) r.4
    ∙ sym (behind_append (f y) (flat f ys) s)

-- items in their own order
pub same_order : {X : Type 0} (f : X → List Touch) (xs : List X) → Rearranged f xs xs
same_order f [] = refl
same_order f (x ∷ xs) = ([], xs, refl, (λ y i. absurd i), same_order f xs)

-- what stands before the head of the new list doesn't clash with it
passes : {X : Type 0} (clash : X → X → Bool) (left right ys : List X) (y : X) → EachOnce (left ++ y ∷ right) → ((x : X) → IsIn x ys → IsIn x (left ++ right)) → KeepsOrder clash (left ++ y ∷ right) (y ∷ ys) → (x : X) → IsIn x left → clash x y ≡ false
passes clash left right ys y once back keeps x i = go (clash x y) refl
  where
    go : (b : Bool) → clash x y ≡ b → b ≡ false
    go false p = refl
    go true p = absurd (elim (keeps x y (before_it x y left right i) p) [
      | inl r ↦ not_in_rest y left right once (subst (λ z. IsIn z (left ++ right)) r.0 (in_left x left right i))
      | inr r ↦ not_in_rest y left right once (back y (second_in x y ys r))
    ])

kept_on : {X : Type 0} (clash : X → X → Bool) (left right ys : List X) (y : X) → EachOnce (left ++ y ∷ right) → KeepsOrder clash (left ++ y ∷ right) (y ∷ ys) → KeepsOrder clash (left ++ right) ys
kept_on clash left right ys y once keeps x z b c = elim (keeps x z (before_more x z y left right b) c) [
  | inl r ↦ absurd (not_in_rest y left right once (subst (λ w. IsIn w (left ++ right)) r.0 (first_in x z (left ++ right) b)))
  | inr r ↦ r
]

no_item : {X : Type 0} (xs : List X) → ((x : X) → IsIn x xs → ⊥) → xs ≡ []
no_item [] h = refl
no_item (x ∷ xs) h = absurd (h x (inl refl))

-- a list that holds the same items once, and keeps the order of those that clash, is rearranged
pub rearranges : {X : Type 0} (f : X → List Touch) (clash : X → X → Bool) → ((x y : X) → clash x y ≡ false → some_clash (f x) (f y) ≡ false)
    → (xs ys : List X) → EachOnce xs → EachOnce ys → ((x : X) → IsIn x xs → IsIn x ys) → ((x : X) → IsIn x ys → IsIn x xs) → KeepsOrder clash xs ys → Rearranged f xs ys
rearranges f clash tells xs [] once once_new forth back keeps = no_item xs forth
rearranges f clash tells xs (y ∷ ys) once once_new forth back keeps =
    let a = split_at y xs (back y (inl refl)) in
    let once' : EachOnce (a.0 ++ y ∷ a.1) = subst EachOnce a.2 once in
    let keeps' : KeepsOrder clash (a.0 ++ y ∷ a.1) (y ∷ ys) = subst (λ z. KeepsOrder clash z (y ∷ ys)) a.2 keeps in
    let forth' : (x : _) → IsIn x (a.0 ++ a.1) → IsIn x ys = λ x i. elim (forth x (subst (λ z. IsIn x z) (sym a.2) (in_more x y a.0 a.1 i))) [
      | inl e ↦ absurd (not_in_rest y a.0 a.1 once' (subst (λ z. IsIn z (a.0 ++ a.1)) e i))
      | inr j ↦ j
    ] in
    let back' : (x : _) → IsIn x ys → IsIn x (a.0 ++ a.1) = λ x i. elim (in_fewer x y a.0 a.1 (subst (λ z. IsIn x z) a.2 (back x (inr i)))) [
      | inl e ↦ absurd (once_new y (inl (refl, subst (λ z. IsIn z ys) e i)))
      | inr j ↦ j
    ] in (
      a.0,
      a.1,
      a.2,
      (λ x i. tells x y (passes clash a.0 a.1 ys y once' back' keeps' x i)),
      rearranges f clash tells (a.0 ++ a.1) ys (once_fewer y a.0 a.1 once') (λ x b. once_new x (inr b)) forth' back' (kept_on clash a.0 a.1 ys y once' keeps'),
    )

-- an item with which none clashes may come last
comes_last : {X : Type 0} (f : X → List Touch) (x : X) (xs ys : List X) → ((y : X) → IsIn y ys → some_clash (f x) (f y) ≡ false) → Rearranged f xs ys → Rearranged f (x ∷ xs) (ys ++ x ∷ [])
comes_last f x xs [] apart r = ([], [], ap (λ z. x ∷ z) r, (λ y i. absurd i), refl)
comes_last f x xs (y ∷ ys) apart r = (
  x ∷ r.0,
  r.1,
  ap (λ z. x ∷ z) r.2,
  (λ z i. elim i [ inl e ↦ subst (λ w. some_clash (f w) (f y) ≡ false) (sym e) (apart y (inl refl)) | inr j ↦ r.3 z j ]),
  comes_last f x (r.0 ++ r.1) ys (λ z i. apart z (inr i)) r.4,
)

reverse_cons : {X : Type 0} (x : X) (xs : List X) → reverse (x ∷ xs) ≡ reverse xs ++ x ∷ []
reverse_cons x xs = reverse-append (x ∷ []) xs

pub in_reverse : {X : Type 0} (x : X) (xs : List X) → IsIn x (reverse xs) → IsIn x xs
in_reverse x [] i = i
in_reverse x (y ∷ ys) i = elim (in_parts x (reverse ys) (y ∷ []) (subst (IsIn x) (reverse_cons y ys) i)) [
  | inl j ↦ inr (in_reverse x ys j)
  | inr j ↦ elim j [ inl e ↦ inl e | inr n ↦ absurd n ]
]

-- items of which no two clash may stand in reverse
pub reversed : {X : Type 0} (f : X → List Touch) (xs : List X) → ((x y : X) → StandsBefore x y xs → some_clash (f x) (f y) ≡ false) → Rearranged f xs (reverse xs)
reversed f [] apart = refl
reversed f (x ∷ xs) apart =
    subst (Rearranged f (x ∷ xs)) (sym (reverse_cons x xs))
    (comes_last f x xs (reverse xs) (λ y i. apart x y (inl (refl, in_reverse y xs i))) (reversed f xs (λ y z b. apart y z (inr b))))

-- What holds of each control, or of each block, of a list that is written out.
use Rattle.std.proofs.Common.{ℕ, List, [], ◌∷◌, sym, ap, subst, inl, inr}
use Rattle.ped_laws.specs.ped_store.specs.Acts.{Act}
use Rattle.ped_laws.specs.Acts.Orders.{IsIn}
use Rattle.ped_weaves.specs.Weaves.{Knot, block, control}

-- this holds of each control (plain words)
abbrev pub EachControl : (List Act → Type 0) → List Knot → Type 0
EachControl P [] = Unit {0}
EachControl P (block i j ∷ ks) = EachControl P ks
EachControl P (control c ∷ ks) = P c × EachControl P ks

-- this holds of the numbers of each block (plain words)
abbrev pub EachBlock : (ℕ → ℕ → Type 0) → List Knot → Type 0
EachBlock P [] = Unit {0}
EachBlock P (block i j ∷ ks) = P i j × EachBlock P ks
EachBlock P (control c ∷ ks) = EachBlock P ks

abbrev acts_of : Knot → List Act
acts_of (block i j) = []
acts_of (control c) = c

abbrev outer_of : Knot → ℕ
outer_of (block i j) = i
outer_of (control c) = 0

abbrev inner_of : Knot → ℕ
inner_of (block i j) = j
inner_of (control c) = 0

pub each_control : (P : List Act → Type 0) (ks : List Knot) → EachControl P ks → (c : List Act) → IsIn (control c) ks → P c
each_control P [] h c i = absurd i
each_control P (block k l ∷ ks) h c (inl e) = absurd cc
each_control P (block k l ∷ ks) h c (inr i) = each_control P ks h c i
each_control P (control a ∷ ks) h c (inl e) = subst P (sym (ap acts_of e)) h.0
each_control P (control a ∷ ks) h c (inr i) = each_control P ks h.1 c i

pub each_block : (P : ℕ → ℕ → Type 0) (ks : List Knot) → EachBlock P ks → (i j : ℕ) → IsIn (block i j) ks → P i j
each_block P [] h i j k = absurd k
each_block P (control a ∷ ks) h i j (inl e) = absurd cc
each_block P (control a ∷ ks) h i j (inr k) = each_block P ks h i j k
each_block P (block m n ∷ ks) h i j (inl e) = subst (λ z. P z j) (sym (ap outer_of e)) (subst (P m) (sym (ap inner_of e)) h.0)
each_block P (block m n ∷ ks) h i j (inr k) = each_block P ks h.1 i j k

-- Lists woven of blocks and controls: controls go and come, and blocks by their numbers.
use Rattle.std.proofs.Common.{◌≡◌, ℕ, List, [], ◌∷◌, ◌++◌, map, Bool, true, false, refl, sym, ap, subst, ◌∙◌, inl, inr}
use Rattle.ped_laws.specs.ped_store.specs.Cells.{Cell}
use Rattle.ped_laws.specs.ped_store.specs.Stores.{Content, Store}
use Rattle.ped_laws.specs.ped_store.specs.Acts.{Manner, reads, writes, is_told, Touch, Act}
use Rattle.ped_laws.specs.Acts.Fitting.{touches_of}
use Rattle.ped_laws.specs.Acts.Conflicts.{ReadNone, WriteWithin}
use Rattle.ped_laws.specs.Acts.Changes.{Change, goes, comes, acts_before, acts_behind, stay_all, IsHeldOutside, ReadPlain, PlainChange}
use Rattle.ped_laws.specs.Acts.Orders.{IsIn, StandsBefore, EachOnce, IsReordered, KeepsOrder, Block, acts_in_blocks}
use Rattle.ped_laws.specs.Acts.Grids.{block_at}
use Rattle.ped_laws.proofs.ActLaws.Lists.{in_left, in_right, first_in, second_in}
use Rattle.ped_laws.proofs.ActLaws.Appending.{before_append, behind_append, plain_append, before_stay, behind_stay, stay_plain}
use Rattle.ped_weaves.specs.Weaves.{Knot, block, control, knotted, blocks_in, ControlWithin}

-- controls go and blocks stay
abbrev pub loosened : (ℕ → ℕ → List Act) → List Knot → List Change
loosened acts [] = []
loosened acts (block i j ∷ ks) = stay_all (acts i j) ++ loosened acts ks
loosened acts (control c ∷ ks) = map (λ a. goes a) c ++ loosened acts ks

-- controls come and blocks stay
abbrev pub tightened : (ℕ → ℕ → List Act) → List Knot → List Change
tightened acts [] = []
tightened acts (block i j ∷ ks) = stay_all (acts i j) ++ tightened acts ks
tightened acts (control c ∷ ks) = map (λ a. comes a) c ++ tightened acts ks

both_append : {X : Type 0} (xs ys us vs : List X) → xs ≡ ys → us ≡ vs → xs ++ us ≡ ys ++ vs
both_append xs ys us vs e f = ap (λ z. z ++ us) e ∙ ap (λ z. ys ++ z) f

before_goes : (c : List Act) → acts_before (map (λ a. goes a) c) ≡ c
before_goes [] = refl
before_goes (a ∷ c) = ap (λ z. a ∷ z) (before_goes c)

behind_goes : (c : List Act) → acts_behind (map (λ a. goes a) c) ≡ []
behind_goes [] = refl
behind_goes (a ∷ c) = behind_goes c

before_comes : (c : List Act) → acts_before (map (λ a. comes a) c) ≡ []
before_comes [] = refl
before_comes (a ∷ c) = before_comes c

behind_comes : (c : List Act) → acts_behind (map (λ a. comes a) c) ≡ c
behind_comes [] = refl
behind_comes (a ∷ c) = ap (λ z. a ∷ z) (behind_comes c)

pub before_loosened : (acts : ℕ → ℕ → List Act) (ks : List Knot) → acts_before (loosened acts ks) ≡ knotted acts ks
before_loosened acts [] = refl
before_loosened acts (block i j ∷ ks) = before_append (stay_all (acts i j)) (loosened acts ks) ∙ both_append (acts_before (stay_all (acts i j))) (acts i j) (acts_before (loosened acts ks)) (knotted acts ks) (before_stay (acts i j)) (before_loosened acts ks)
before_loosened acts (control c ∷ ks) = before_append (map (λ a. goes a) c) (loosened acts ks) ∙ both_append (acts_before (map (λ a. goes a) c)) c (acts_before (loosened acts ks)) (knotted acts ks) (before_goes c) (before_loosened acts ks)

pub behind_loosened : (acts : ℕ → ℕ → List Act) (ks : List Knot) → acts_behind (loosened acts ks) ≡ acts_in_blocks (blocks_in acts ks)
behind_loosened acts [] = refl
behind_loosened acts (block i j ∷ ks) = behind_append (stay_all (acts i j)) (loosened acts ks) ∙ both_append (acts_behind (stay_all (acts i j))) (acts i j) (acts_behind (loosened acts ks)) (acts_in_blocks (blocks_in acts ks)) (behind_stay (acts i j)) (behind_loosened acts ks)
behind_loosened acts (control c ∷ ks) = behind_append (map (λ a. goes a) c) (loosened acts ks) ∙ both_append (acts_behind (map (λ a. goes a) c)) [] (acts_behind (loosened acts ks)) (acts_in_blocks (blocks_in acts ks)) (behind_goes c) (behind_loosened acts ks)

pub before_tightened : (acts : ℕ → ℕ → List Act) (ks : List Knot) → acts_before (tightened acts ks) ≡ acts_in_blocks (blocks_in acts ks)
before_tightened acts [] = refl
before_tightened acts (block i j ∷ ks) = before_append (stay_all (acts i j)) (tightened acts ks) ∙ both_append (acts_before (stay_all (acts i j))) (acts i j) (acts_before (tightened acts ks)) (acts_in_blocks (blocks_in acts ks)) (before_stay (acts i j)) (before_tightened acts ks)
before_tightened acts (control c ∷ ks) = before_append (map (λ a. comes a) c) (tightened acts ks) ∙ both_append (acts_before (map (λ a. comes a) c)) [] (acts_before (tightened acts ks)) (acts_in_blocks (blocks_in acts ks)) (before_comes c) (before_tightened acts ks)

pub behind_tightened : (acts : ℕ → ℕ → List Act) (ks : List Knot) → acts_behind (tightened acts ks) ≡ knotted acts ks
behind_tightened acts [] = refl
behind_tightened acts (block i j ∷ ks) = behind_append (stay_all (acts i j)) (tightened acts ks) ∙ both_append (acts_behind (stay_all (acts i j))) (acts i j) (acts_behind (tightened acts ks)) (knotted acts ks) (behind_stay (acts i j)) (behind_tightened acts ks)
behind_tightened acts (control c ∷ ks) = behind_append (map (λ a. comes a) c) (tightened acts ks) ∙ both_append (acts_behind (map (λ a. comes a) c)) c (acts_behind (tightened acts ks)) (knotted acts ks) (behind_comes c) (behind_tightened acts ks)

-- what some touches write within the set
within_first : (d : Cell → Bool) (xs ys : List Touch) → WriteWithin d (xs ++ ys) → WriteWithin d xs
within_first d [] ys h = tt
within_first d (x ∷ xs) ys h = (h.0, within_first d xs ys h.1)

within_rest : (d : Cell → Bool) (xs ys : List Touch) → WriteWithin d (xs ++ ys) → WriteWithin d ys
within_rest d [] ys h = h
within_rest d (x ∷ xs) ys h = within_rest d xs ys h.1

goes_plain : (d changing : Cell → Bool) (s : Store) (c : List Act) → WriteWithin d (touches_of c) → PlainChange d changing s (map (λ a. goes a) c)
goes_plain d changing s [] h = tt
goes_plain d changing s (a ∷ c) h = (within_first d a.touches (touches_of c) h, goes_plain d changing s c (within_rest d a.touches (touches_of c) h))

held : (d changing : Cell → Bool) (s : Store) (m : Manner) (e : Cell) (v : Content) → (m ≡ reads → (d e ≡ false) × (changing e ≡ false) × (s e ≡ v)) → IsHeldOutside d changing s m e v
held d changing s reads e v h = h refl
held d changing s writes e v h = tt
held d changing s is_told e v h = tt

reads_plain : (d changing : Cell → Bool) (s : Store) (ts : List Touch) → ((x : Touch) → IsIn x ts → x.manner ≡ reads → (d x.cell ≡ false) × (changing x.cell ≡ false) × (s x.cell ≡ x.content)) → ReadPlain d changing s ts
reads_plain d changing s [] h = tt
reads_plain d changing s (t ∷ ts) h = (held d changing s t.manner t.cell t.content (h t (inl refl)), reads_plain d changing s ts (λ x i. h x (inr i)))

comes_plain : (d changing : Cell → Bool) (s : Store) (c : List Act) → WriteWithin d (touches_of c) → ((x : Touch) → IsIn x (touches_of c) → x.manner ≡ reads → (d x.cell ≡ false) × (changing x.cell ≡ false) × (s x.cell ≡ x.content)) → PlainChange d changing s (map (λ a. comes a) c)
comes_plain d changing s [] h k = tt
comes_plain d changing s (a ∷ c) h k = (
  within_first d a.touches (touches_of c) h,
  reads_plain d changing s a.touches (λ x i. k x (in_left x a.touches (touches_of c) i)),
  comes_plain d changing s c (within_rest d a.touches (touches_of c) h) (λ x i. k x (in_right x a.touches (touches_of c) i)),
)

-- controls go
pub loosened_plain : (d changing : Cell → Bool) (s : Store) (acts : ℕ → ℕ → List Act) (ks : List Knot) → ControlWithin d ks → ((i j : ℕ) → IsIn (block i j) ks → ReadNone d (acts i j)) → PlainChange d changing s (loosened acts ks)
loosened_plain d changing s acts [] within unread = tt
loosened_plain d changing s acts (block i j ∷ ks) within unread =
    plain_append d changing s (stay_all (acts i j)) (loosened acts ks) (stay_plain d changing s (acts i j) (unread i j (inl refl))) (loosened_plain d changing s acts ks (λ c i. within c (inr i)) (λ i j k. unread i j (inr k)))
loosened_plain d changing s acts (control c ∷ ks) within unread =
    plain_append d changing s (map (λ a. goes a) c) (loosened acts ks) (goes_plain d changing s c (within c (inl refl))) (loosened_plain d changing s acts ks (λ c i. within c (inr i)) (λ i j k. unread i j (inr k)))

-- controls come
pub tightened_plain : (d changing : Cell → Bool) (s : Store) (acts : ℕ → ℕ → List Act) (ks : List Knot) → ControlWithin d ks → ((i j : ℕ) → IsIn (block i j) ks → ReadNone d (acts i j))
    → ((c : List Act) (x : Touch) → IsIn (control c) ks → IsIn x (touches_of c) → x.manner ≡ reads → (d x.cell ≡ false) × (changing x.cell ≡ false) × (s x.cell ≡ x.content)) → PlainChange d changing s (tightened acts ks)
tightened_plain d changing s acts [] within unread steady = tt
tightened_plain d changing s acts (block i j ∷ ks) within unread steady =
    plain_append d changing s (stay_all (acts i j)) (tightened acts ks) (stay_plain d changing s (acts i j) (unread i j (inl refl))) (tightened_plain d changing s acts ks (λ c i. within c (inr i)) (λ i j k. unread i j (inr k)) (λ c x i. steady c x (inr i)))
tightened_plain d changing s acts (control c ∷ ks) within unread steady =
    plain_append d changing s (map (λ a. comes a) c) (tightened acts ks) (comes_plain d changing s c (within c (inl refl)) (λ x i. steady c x (inl refl) i)) (tightened_plain d changing s acts ks (λ c i. within c (inr i)) (λ i j k. unread i j (inr k)) (λ c x i. steady c x (inr i)))

-- items of lists whose items are changed one by one
in_map : {X Y : Type 0} (f : X → Y) (x : X) (xs : List X) → IsIn x xs → IsIn (f x) (map f xs)
in_map f x [] i = absurd i
in_map f x (y ∷ ys) (inl e) = inl (ap f e)
in_map f x (y ∷ ys) (inr i) = inr (in_map f x ys i)

before_map : {X Y : Type 0} (f : X → Y) (x y : X) (xs : List X) → StandsBefore x y xs → StandsBefore (f x) (f y) (map f xs)
before_map f x y [] b = absurd b
before_map f x y (z ∷ zs) (inl p) = inl (ap f p.0, in_map f y zs p.1)
before_map f x y (z ∷ zs) (inr b) = inr (before_map f x y zs b)

-- the block with the same numbers, of other acts
abbrev pub remade : (ℕ → ℕ → List Act) → Block → Block
remade acts b = block_at acts b.outer b.inner

blocks_remade : (acts others : ℕ → ℕ → List Act) (ks : List Knot) → map (remade others) (blocks_in acts ks) ≡ blocks_in others ks
blocks_remade acts others [] = refl
blocks_remade acts others (block i j ∷ ks) = ap (λ z. block_at others i j ∷ z) (blocks_remade acts others ks)
blocks_remade acts others (control c ∷ ks) = blocks_remade acts others ks

pub block_is : (acts : ℕ → ℕ → List Act) (ks : List Knot) (b : Block) → IsIn b (blocks_in acts ks) → (b ≡ remade acts b) × IsIn (block b.outer b.inner) ks
block_is acts [] b i = absurd i
block_is acts (block i j ∷ ks) b (inl e) = subst (λ z. (z ≡ remade acts z) × IsIn (block z.outer z.inner) (block i j ∷ ks)) (sym e) (refl, inl refl)
block_is acts (block i j ∷ ks) b (inr k) = let r = block_is acts ks b k in (r.0, inr r.1)
block_is acts (control c ∷ ks) b k = let r = block_is acts ks b k in (r.0, inr r.1)

pub in_blocks : (acts : ℕ → ℕ → List Act) (ks : List Knot) (i j : ℕ) → IsIn (block i j) ks → IsIn (block_at acts i j) (blocks_in acts ks)
in_blocks acts [] i j k = absurd k
in_blocks acts (block k l ∷ ks) i j (inl e) = inl (ap (λ (z : Knot). number_of z) e)
  where
    number_of : Knot → Block
    number_of (block m n) = block_at acts m n
    number_of (control c) = block_at acts 0 0
in_blocks acts (block k l ∷ ks) i j (inr h) = inr (in_blocks acts ks i j h)
in_blocks acts (control c ∷ ks) i j (inl e) = absurd cc
in_blocks acts (control c ∷ ks) i j (inr h) = in_blocks acts ks i j h

pub in_remade : (acts others : ℕ → ℕ → List Act) (ks : List Knot) (b : Block) → IsIn b (blocks_in acts ks) → IsIn (remade others b) (blocks_in others ks)
in_remade acts others ks b i = subst (IsIn (remade others b)) (blocks_remade acts others ks) (in_map (remade others) b (blocks_in acts ks) i)

before_remade : (acts others : ℕ → ℕ → List Act) (ks : List Knot) (b c : Block) → StandsBefore b c (blocks_in acts ks) → StandsBefore (remade others b) (remade others c) (blocks_in others ks)
before_remade acts others ks b c i = subst (StandsBefore (remade others b) (remade others c)) (blocks_remade acts others ks) (before_map (remade others) b c (blocks_in acts ks) i)

-- blocks of other acts stand once where those of these do, in the same order
pub once_remade : (acts others : ℕ → ℕ → List Act) (ks : List Knot) → EachOnce (blocks_in acts ks) → EachOnce (blocks_in others ks)
once_remade acts others ks once b k = once (remade acts b) (before_remade others acts ks b b k)

same_remade : (acts others : ℕ → ℕ → List Act) (ks ls : List Knot) → ((b : Block) → IsIn b (blocks_in acts ks) → IsIn b (blocks_in acts ls)) → (b : Block) → IsIn b (blocks_in others ks) → IsIn b (blocks_in others ls)
same_remade acts others ks ls h b i =
    subst (λ z. IsIn z (blocks_in others ls)) (sym (block_is others ks b i).0) (in_remade acts others ls (remade acts b) (h (remade acts b) (in_remade others acts ks b i)))

pub reordered_remade : (acts others : ℕ → ℕ → List Act) (ks ls : List Knot) → IsReordered (blocks_in acts ks) (blocks_in acts ls) → IsReordered (blocks_in others ks) (blocks_in others ls)
reordered_remade acts others ks ls r = record {
  once = once_remade acts others ls r.once;
  same = record { none_lost = same_remade acts others ks ls r.same.none_lost; none_added = same_remade acts others ls ks r.same.none_added };
}

pub kept_remade : (acts others : ℕ → ℕ → List Act) (ks ls : List Knot) (clash : Block → Block → Bool) → ((b c : Block) → IsIn b (blocks_in others ks) → IsIn c (blocks_in others ks) → clash b c ≡ true → clash (remade acts b) (remade acts c) ≡ true)
    → KeepsOrder clash (blocks_in acts ks) (blocks_in acts ls) → KeepsOrder clash (blocks_in others ks) (blocks_in others ls)
kept_remade acts others ks ls clash back kept b c h e =
    let i = first_in b c (blocks_in others ks) h in
    let j = second_in b c (blocks_in others ks) h in
    let k = before_remade acts others ls (remade acts b) (remade acts c) (kept (remade acts b) (remade acts c) (before_remade others acts ks b c h) (back b c i j e)) in
    subst (λ z. StandsBefore z c (blocks_in others ls)) (sym (block_is others ks b i).0) (subst (λ z. StandsBefore (remade others b) z (blocks_in others ls)) (sym (block_is others ks c j).0) k)

-- Acts and blocks of acts in another order.
use Rattle.std.proofs.Common.{◌≡◌, ℕ, ◌≤◌, ◌<◌, List, [], ◌∷◌, ◌++◌, reverse, Bool, true, false, ◌&&◌, refl, sym, ap, subst, ◌∙◌, append_assoc, append-nil, arith, ◌⊎◌, inl, inr}
use Rattle.std.specs.Prelude.{not}
use Rattle.std.specs.List.{list_any}
use Rattle.std.proofs.lemmas.Bool.{both_ways, or_parts}
use Rattle.std.proofs.lemmas.List.{reverse-append}
use mathlib.Core.Path.{fun_ext}
use Rattle.ped_eval.specs.ped_store.specs.Cells.{Cell, same_cell}
use Rattle.ped_eval.specs.ped_store.specs.Stores.{Store}
use Rattle.ped_eval.specs.ped_store.specs.Acts.{Manner, reads, writes, is_told, Touch, Act, store_behind}
use Rattle.ped_eval.specs.ped_store.specs.Races.{is_write}
use Rattle.ped_laws.specs.Acts.Fitting.{Find, Fits, store_after, touches_of}
use Rattle.ped_laws.specs.Acts.Sets.{nothing, AgreeOutside}
use Rattle.ped_laws.specs.Acts.Conflicts.{manners_clash, clash, some_clash, clash_outside, some_clash_outside, acts_conflict, blocks_conflict, blocks_conflict_outside, touches_without, IsNoReadOf, LeaveUnread, ReadNone}
use Rattle.ped_laws.specs.Acts.Orders.{IsIn, StandsBefore, EachOnce, HaveSameItems, IsReordered, KeepsOrder, Numbered, number_from, acts_in, numbered_conflict, IsSortedBy, acts_in_all, AreApart, Block, acts_in_blocks, block_conflict, IsByRows, IsByColumns, NoneCrosses}
use Rattle.ped_laws.proofs.ActLaws.SameCells.{cell_is}
use Rattle.ped_laws.proofs.ActLaws.Stores.{find_append, find_first, find_rest, after_is, fits_find, find_fits, after_append, fits_append, fits_first, fits_rest}
use Rattle.ped_laws.proofs.ActLaws.Lists.{in_left, in_right, in_more, in_order, before_parts, first_in, second_in, numbers_rise, numbered_once, acts_numbered}
use Rattle.ped_laws.proofs.ActLaws.Clashes.{swap_behind, swap_find, swap_found}
use Rattle.ped_laws.proofs.ActLaws.Rearranging.{flat, Rearranged, rearranged_find, rearranged_behind, same_order, rearranges, in_reverse, reversed}
use Rattle.ped_laws.proofs.ActLaws.Outside.{agree_back, without_behind, without_find, find_without, without_append, unread_append, unread_first, unread_rest, unread_touches}

-- two touches that stay and don't clash outside the set don't clash at all
kept_pair : (d : Cell → Bool) (m n : Manner) (c e : Cell) → (same_cell c e && manners_clash m n) && not (d c) ≡ false → is_write m && d c ≡ false → is_write n && d e ≡ false → same_cell c e && manners_clash m n ≡ false
kept_pair d m n c e h k l = go (same_cell c e) refl
  where
    inside : (b : Bool) → not b ≡ false → b ≡ false → ⊥
    inside true p q = let r : true ≡ false = q in absurd cc
    inside false p q = let r : true ≡ false = p in absurd cc

    apart : (m n : Manner) → (true && manners_clash m n) && not (d c) ≡ false → is_write m && d c ≡ false → is_write n && d c ≡ false → manners_clash m n ≡ false
    apart writes writes h k l = absurd (inside (d c) h k)
    apart writes reads h k l = absurd (inside (d c) h k)
    apart reads writes h k l = absurd (inside (d c) h l)
    apart reads reads h k l = refl
    apart writes is_told h k l = refl
    apart reads is_told h k l = refl
    apart is_told n h k l = refl

    go : (b : Bool) → same_cell c e ≡ b → same_cell c e && manners_clash m n ≡ false
    go false p = rw p refl
    go true p =
        let same : c ≡ e = cell_is c e p in
        let h' : (true && manners_clash m n) && not (d c) ≡ false = subst (λ b. (b && manners_clash m n) && not (d c) ≡ false) p h in
        let l' : is_write n && d c ≡ false = ap (λ z. is_write n && d z) same ∙ l in
        ap (λ b. b && manners_clash m n) p ∙ apart m n h' k l'

any_kept : (d : Cell → Bool) (x : Touch) (ys : List Touch) → is_write x.manner && d x.cell ≡ false → list_any (clash_outside d x) ys ≡ false → list_any (clash x) (touches_without d ys) ≡ false
any_kept d x [] k h = refl
any_kept d x (y ∷ ys) k h = go (any_kept d x ys k (or_parts _ _ h).1) (is_write y.manner && d y.cell) refl
  where
    go : list_any (clash x) (touches_without d ys) ≡ false → (b : Bool) → is_write y.manner && d y.cell ≡ b → list_any (clash x) (touches_without d (y ∷ ys)) ≡ false
    go more true p = rw p more
    go more false p = rw p (rw (kept_pair d x.manner y.manner x.cell y.cell (or_parts _ _ h).0 k p) more)

-- touches that don't clash outside the set don't clash without their writes to it
pub some_kept : (d : Cell → Bool) (xs ys : List Touch) → some_clash_outside d xs ys ≡ false → some_clash (touches_without d xs) (touches_without d ys) ≡ false
some_kept d [] ys h = refl
some_kept d (x ∷ xs) ys h = go (some_kept d xs ys (or_parts _ _ h).1) (is_write x.manner && d x.cell) refl
  where
    go : some_clash (touches_without d xs) (touches_without d ys) ≡ false → (b : Bool) → is_write x.manner && d x.cell ≡ b → some_clash (touches_without d (x ∷ xs)) (touches_without d ys) ≡ false
    go more true p = rw p more
    go more false p = rw p (rw (any_kept d x ys p (or_parts _ _ h).0) more)

-- the items of a rearranged list are those of the first
rearranged_in : {X : Type 0} (f : X → List Touch) (xs ys : List X) (x : X) → Rearranged f xs ys → IsIn x ys → IsIn x xs
rearranged_in f xs [] x r i = absurd i
rearranged_in f xs (y ∷ ys) x r (inl e) = subst (IsIn x) (sym r.2) (in_right x r.0 (y ∷ r.1) (inl e))
rearranged_in f xs (y ∷ ys) x r (inr i) = subst (IsIn x) (sym r.2) (in_more x y r.0 r.1 (rearranged_in f (r.0 ++ r.1) ys x r.4 i))

item_unread : {X : Type 0} (d : Cell → Bool) (f : X → List Touch) (xs : List X) (x : X) → LeaveUnread d (flat f xs) → IsIn x xs → LeaveUnread d (f x)
item_unread d f [] x h i = absurd i
item_unread d f (y ∷ ys) x h (inl e) = subst (λ z. LeaveUnread d (f z)) (sym e) (unread_first d (f y) (flat f ys) h)
item_unread d f (y ∷ ys) x h (inr i) = item_unread d f ys x (unread_rest d (f y) (flat f ys) h) i

items_unread : {X : Type 0} (d : Cell → Bool) (f : X → List Touch) (xs : List X) → ((x : X) → IsIn x xs → LeaveUnread d (f x)) → LeaveUnread d (flat f xs)
items_unread d f [] h = tt
items_unread d f (x ∷ xs) h = unread_append d (f x) (flat f xs) (h x (inl refl)) (items_unread d f xs (λ y i. h y (inr i)))

-- a rearranged list doesn't read the set either
rearranged_unread : {X : Type 0} (d : Cell → Bool) (f g : X → List Touch) (xs ys : List X) → Rearranged g xs ys → LeaveUnread d (flat f xs) → LeaveUnread d (flat f ys)
rearranged_unread d f g xs ys r h = items_unread d f ys (λ x i. item_unread d f xs x h (rearranged_in g xs ys x r i))

-- the touches of items without the writes to the set
abbrev pub items_without : {X : Type 0} → (Cell → Bool) → (X → List Touch) → X → List Touch
items_without d f x = touches_without d (f x)

flat_without : {X : Type 0} (d : Cell → Bool) (f : X → List Touch) (xs : List X) → flat (items_without d f) xs ≡ touches_without d (flat f xs)
flat_without d f [] = refl
flat_without d f (x ∷ xs) = ap (λ z. touches_without d (f x) ++ z) (flat_without d f xs) ∙ sym (without_append d (f x) (flat f xs))

-- items that don't read the set, rearranged as their clashes outside the set allow
pub outside_find : {X : Type 0} (d : Cell → Bool) (f : X → List Touch) (xs ys : List X) (s t : Store) → Rearranged (items_without d f) xs ys → LeaveUnread d (flat f xs) → AgreeOutside d s t → Find (flat f xs) s → Find (flat f ys) t
outside_find d f xs ys s t r unread agree g =
    let a = subst (λ z. Find z s) (sym (flat_without d f xs)) (without_find d (flat f xs) s s unread (λ c h. refl) g) in
    let b = subst (λ z. Find z s) (flat_without d f ys) (rearranged_find (items_without d f) xs ys s r a) in
    find_without d (flat f ys) t s (rearranged_unread d f (items_without d f) xs ys r unread) (agree_back d s t agree) b

pub outside_behind : {X : Type 0} (d : Cell → Bool) (f : X → List Touch) (xs ys : List X) (s t : Store) → Rearranged (items_without d f) xs ys → AgreeOutside d s t → AgreeOutside d (store_behind (flat f xs) s) (store_behind (flat f ys) t)
outside_behind d f xs ys s t r agree c h =
    without_behind d (flat f xs) s s (λ e k. refl) c h
    ∙ ap (λ z. store_behind z s c) (sym (flat_without d f xs))
    ∙ ap (λ z. z c) (rearranged_behind (items_without d f) xs ys s r)
    ∙ ap (λ z. store_behind z s c) (flat_without d f ys)
    ∙ sym (without_behind d (flat f ys) t s (agree_back d s t agree) c h)

-- lists of acts as items
abbrev pub act_touches : Act → List Touch
act_touches a = a.touches

abbrev pub numbered_touches : Numbered → List Touch
numbered_touches x = x.act.touches

abbrev pub block_touches : Block → List Touch
block_touches b = touches_of b.acts

pub touches_append : (xs ys : List Act) → touches_of (xs ++ ys) ≡ touches_of xs ++ touches_of ys
touches_append [] ys = refl
touches_append (x ∷ xs) ys = ap (λ z. x.touches ++ z) (touches_append xs ys) ∙ sym (append_assoc x.touches (touches_of xs) (touches_of ys))

pub flat_acts : (acts : List Act) → flat act_touches acts ≡ touches_of acts
flat_acts [] = refl
flat_acts (a ∷ acts) = ap (λ z. a.touches ++ z) (flat_acts acts)

pub flat_numbered : (xs : List Numbered) → flat numbered_touches xs ≡ touches_of (acts_in xs)
flat_numbered [] = refl
flat_numbered (x ∷ xs) = ap (λ z. x.act.touches ++ z) (flat_numbered xs)

pub flat_all : (bs : List (List Act)) → flat touches_of bs ≡ touches_of (acts_in_all bs)
flat_all [] = refl
flat_all (b ∷ bs) = ap (λ z. touches_of b ++ z) (flat_all bs) ∙ sym (touches_append b (acts_in_all bs))

pub flat_blocks : (bs : List Block) → flat block_touches bs ≡ touches_of (acts_in_blocks bs)
flat_blocks [] = refl
flat_blocks (b ∷ bs) = ap (λ z. touches_of b.acts ++ z) (flat_blocks bs) ∙ sym (touches_append b.acts (acts_in_blocks bs))

-- what is said of touches is said of acts
pub acts_fit : (acts others : List Act) (xs ys : List Touch) (s t : Store) → xs ≡ touches_of acts → ys ≡ touches_of others → (Find xs s → Find ys t) → Fits acts s → Fits others t
acts_fit acts others xs ys s t e f h g = find_fits others t (subst (λ z. Find z t) f (h (subst (λ z. Find z s) (sym e) (fits_find acts s g))))

pub acts_leave : (acts others : List Act) (xs ys : List Touch) (s t : Store) → xs ≡ touches_of acts → ys ≡ touches_of others → (c : Cell) → store_behind xs s c ≡ store_behind ys t c → store_after acts s c ≡ store_after others t c
acts_leave acts others xs ys s t e f c h =
    ap (λ z. z c) (after_is acts s) ∙ ap (λ z. store_behind z s c) (sym e) ∙ h ∙ ap (λ z. store_behind z t c) f ∙ sym (ap (λ z. z c) (after_is others t))

-- stores that agree outside no cell are one store
pub agree_everywhere : (s t : Store) → AgreeOutside nothing s t → s ≡ t
agree_everywhere s t h = fun_ext λ c. h c refl

not_of_nothing : (m : Manner) (c : Cell) → IsNoReadOf nothing m c
not_of_nothing reads c = refl
not_of_nothing writes c = tt
not_of_nothing is_told c = tt

no_read_of_nothing : (ts : List Touch) → LeaveUnread nothing ts
no_read_of_nothing [] = tt
no_read_of_nothing (t ∷ ts) = (not_of_nothing t.manner t.cell, no_read_of_nothing ts)

-- no act reads a cell of the empty set
pub nothing_read : (acts : List Act) → ReadNone nothing acts
nothing_read [] = tt
nothing_read (a ∷ acts) = (no_read_of_nothing a.touches, nothing_read acts)

-- acts in another order that keeps the order of those that conflict outside the set
numbered_rearranged : (d : Cell → Bool) (acts : List Act) (order : List Numbered) → IsReordered (number_from 0 acts) order → KeepsOrder (numbered_conflict d) (number_from 0 acts) order → Rearranged (items_without d numbered_touches) (number_from 0 acts) order
numbered_rearranged d acts order o keeps =
    rearranges (items_without d numbered_touches) (numbered_conflict d) (λ x y h. some_kept d x.act.touches y.act.touches h)
    (number_from 0 acts) order (numbered_once 0 acts) o.once o.same.none_lost o.same.none_added keeps

numbered_touches_are : (acts : List Act) → flat numbered_touches (number_from 0 acts) ≡ touches_of acts
numbered_touches_are acts = flat_numbered (number_from 0 acts) ∙ ap touches_of (acts_numbered 0 acts)

pub reordered_fits_outside : (d : Cell → Bool) (acts : List Act) (order : List Numbered) (s t : Store) → IsReordered (number_from 0 acts) order → KeepsOrder (numbered_conflict d) (number_from 0 acts) order → ReadNone d acts → AgreeOutside d s t → Fits acts s → Fits (acts_in order) t
reordered_fits_outside d acts order s t o keeps unread agree =
    acts_fit acts (acts_in order) (flat numbered_touches (number_from 0 acts)) (flat numbered_touches order) s t (numbered_touches_are acts) (flat_numbered order)
    (outside_find d numbered_touches (number_from 0 acts) order s t (numbered_rearranged d acts order o keeps) (subst (LeaveUnread d) (sym (numbered_touches_are acts)) (unread_touches d acts unread)) agree)

pub reordered_leaves_outside : (d : Cell → Bool) (acts : List Act) (order : List Numbered) (s t : Store) → IsReordered (number_from 0 acts) order → KeepsOrder (numbered_conflict d) (number_from 0 acts) order → AgreeOutside d s t → AgreeOutside d (store_after acts s) (store_after (acts_in order) t)
reordered_leaves_outside d acts order s t o keeps agree c h =
    acts_leave acts (acts_in order) (flat numbered_touches (number_from 0 acts)) (flat numbered_touches order) s t (numbered_touches_are acts) (flat_numbered order) c
    (outside_behind d numbered_touches (number_from 0 acts) order s t (numbered_rearranged d acts order o keeps) agree c h)

-- the same, where the order of all that conflict is kept
abbrev by_acts : Numbered → Numbered → Bool
by_acts x y = acts_conflict x.act y.act

fully_rearranged : (acts : List Act) (order : List Numbered) → IsReordered (number_from 0 acts) order → KeepsOrder by_acts (number_from 0 acts) order → Rearranged numbered_touches (number_from 0 acts) order
fully_rearranged acts order o keeps =
    rearranges numbered_touches by_acts (λ x y h. h) (number_from 0 acts) order (numbered_once 0 acts) o.once o.same.none_lost o.same.none_added keeps

pub reordered_fits : (acts : List Act) (order : List Numbered) (s : Store) → IsReordered (number_from 0 acts) order → KeepsOrder by_acts (number_from 0 acts) order → Fits acts s → Fits (acts_in order) s
reordered_fits acts order s o keeps =
    acts_fit acts (acts_in order) (flat numbered_touches (number_from 0 acts)) (flat numbered_touches order) s s (numbered_touches_are acts) (flat_numbered order)
    (rearranged_find numbered_touches (number_from 0 acts) order s (fully_rearranged acts order o keeps))

pub reordered_leaves : (acts : List Act) (order : List Numbered) (s : Store) → IsReordered (number_from 0 acts) order → KeepsOrder by_acts (number_from 0 acts) order → store_after (acts_in order) s ≡ store_after acts s
reordered_leaves acts order s o keeps =
    fun_ext λ c. sym (acts_leave acts (acts_in order) (flat numbered_touches (number_from 0 acts)) (flat numbered_touches order) s s (numbered_touches_are acts) (flat_numbered order) c
    (ap (λ z. z c) (rearranged_behind numbered_touches (number_from 0 acts) order s (fully_rearranged acts order o keeps))))

-- a list sorted by a key that acts which conflict outside the set respect keeps their order
pub sorted_keeps : (d : Cell → Bool) (key : Numbered → ℕ) (acts : List Act) (order : List Numbered) → IsReordered (number_from 0 acts) order → IsSortedBy key order
    → ((x y : Numbered) → StandsBefore x y (number_from 0 acts) → numbered_conflict d x y ≡ true → key x ≤ key y) → KeepsOrder (numbered_conflict d) (number_from 0 acts) order
sorted_keeps d key acts order o sorted respects x y b c =
    let k = respects x y b c in
    let n = numbers_rise 0 acts x y b in
    elim (in_order x y order (o.same.none_lost x (first_in x y (number_from 0 acts) b)) (o.same.none_lost y (second_in x y (number_from 0 acts) b))) [
      | inl e ↦ let m : x.number ≡ y.number = ap (λ (z : Numbered). z.number) e in absurd (omega arith)
      | inr r ↦ elim r [
        | inl before ↦ before
        | inr after ↦ absurd (elim (sorted y x after) [ inl less ↦ omega arith | inr p ↦ let m = p.1 in omega arith ])
      ]
    ]

-- one act to the front
front_rearranged : (left right : List Act) (a : Act) → ((x : Act) → IsIn x left → acts_conflict x a ≡ false) → Rearranged act_touches (left ++ a ∷ right) (a ∷ (left ++ right))
front_rearranged left right a free = (left, right, refl, free, same_order act_touches (left ++ right))

pub front_fits : (left right : List Act) (a : Act) (s : Store) → ((x : Act) → IsIn x left → acts_conflict x a ≡ false) → Fits (left ++ a ∷ right) s → Fits (a ∷ (left ++ right)) s
front_fits left right a s free =
    acts_fit (left ++ a ∷ right) (a ∷ (left ++ right)) (flat act_touches (left ++ a ∷ right)) (flat act_touches (a ∷ (left ++ right))) s s (flat_acts (left ++ a ∷ right)) (flat_acts (a ∷ (left ++ right)))
    (rearranged_find act_touches (left ++ a ∷ right) (a ∷ (left ++ right)) s (front_rearranged left right a free))

pub front_leaves : (left right : List Act) (a : Act) (s : Store) → ((x : Act) → IsIn x left → acts_conflict x a ≡ false) → store_after (a ∷ (left ++ right)) s ≡ store_after (left ++ a ∷ right) s
front_leaves left right a s free =
    fun_ext λ c. sym (acts_leave (left ++ a ∷ right) (a ∷ (left ++ right)) (flat act_touches (left ++ a ∷ right)) (flat act_touches (a ∷ (left ++ right))) s s (flat_acts (left ++ a ∷ right)) (flat_acts (a ∷ (left ++ right))) c
    (ap (λ z. z c) (rearranged_behind act_touches (left ++ a ∷ right) (a ∷ (left ++ right)) s (front_rearranged left right a free))))

-- two neighbouring blocks
pub exchanged_fits : (xs ys : List Act) (s : Store) → blocks_conflict xs ys ≡ false → Fits (xs ++ ys) s → Fits (ys ++ xs) s
exchanged_fits xs ys s h f =
    let e : touches_of xs ++ touches_of ys ≡ touches_of (xs ++ ys) = sym (touches_append xs ys) in
    let g = subst (λ z. Find z s) (sym e) (fits_find (xs ++ ys) s f) in
    let m = find_append (touches_of ys) (touches_of xs) s
    (swap_find (touches_of xs) (touches_of ys) s h (find_rest (touches_of xs) (touches_of ys) s g))
    (swap_found (touches_of xs) (touches_of ys) s h (find_first (touches_of xs) (touches_of ys) s g)) in
    find_fits (ys ++ xs) s (subst (λ z. Find z s) (sym (touches_append ys xs)) m)

pub exchanged_leaves : (xs ys : List Act) (s : Store) → blocks_conflict xs ys ≡ false → store_after (ys ++ xs) s ≡ store_after (xs ++ ys) s
exchanged_leaves xs ys s h =
    after_append ys xs s ∙ after_is xs (store_after ys s) ∙ ap (store_behind (touches_of xs)) (after_is ys s)
    ∙ sym (swap_behind (touches_of xs) (touches_of ys) s h)
    ∙ sym (after_append xs ys s ∙ after_is ys (store_after xs s) ∙ ap (store_behind (touches_of ys)) (after_is xs s))

-- between what stands before and behind
pub between_fits : (ws xs ys zs : List Act) (s : Store) → blocks_conflict xs ys ≡ false → Fits (ws ++ ((xs ++ ys) ++ zs)) s → Fits (ws ++ ((ys ++ xs) ++ zs)) s
between_fits ws xs ys zs s h f =
    let u = store_after ws s in
    let g = fits_rest ws ((xs ++ ys) ++ zs) s f in
    let k = subst (Fits zs) (sym (exchanged_leaves xs ys u h)) (fits_rest (xs ++ ys) zs u g) in
    fits_append ws ((ys ++ xs) ++ zs) s (fits_first ws ((xs ++ ys) ++ zs) s f) (fits_append (ys ++ xs) zs u (exchanged_fits xs ys u h (fits_first (xs ++ ys) zs u g)) k)

pub between_leaves : (ws xs ys zs : List Act) (s : Store) → blocks_conflict xs ys ≡ false → store_after (ws ++ ((ys ++ xs) ++ zs)) s ≡ store_after (ws ++ ((xs ++ ys) ++ zs)) s
between_leaves ws xs ys zs s h =
    let u = store_after ws s in
    after_append ws ((ys ++ xs) ++ zs) s ∙ after_append (ys ++ xs) zs u ∙ ap (store_after zs) (exchanged_leaves xs ys u h)
    ∙ sym (after_append ws ((xs ++ ys) ++ zs) s ∙ after_append (xs ++ ys) zs u)

-- blocks in reverse
reversed_blocks : (d : Cell → Bool) (bs : List (List Act)) → AreApart d bs → Rearranged (items_without d touches_of) bs (reverse bs)
reversed_blocks d bs apart = reversed (items_without d touches_of) bs (λ x y b. some_kept d (touches_of x) (touches_of y) (apart x y b))

pub reversed_fits : (d : Cell → Bool) (bs : List (List Act)) (s t : Store) → AreApart d bs → ReadNone d (acts_in_all bs) → AgreeOutside d s t → Fits (acts_in_all bs) s → Fits (acts_in_all (reverse bs)) t
reversed_fits d bs s t apart unread agree =
    acts_fit (acts_in_all bs) (acts_in_all (reverse bs)) (flat touches_of bs) (flat touches_of (reverse bs)) s t (flat_all bs) (flat_all (reverse bs))
    (outside_find d touches_of bs (reverse bs) s t (reversed_blocks d bs apart) (subst (LeaveUnread d) (sym (flat_all bs)) (unread_touches d (acts_in_all bs) unread)) agree)

pub reversed_leaves : (d : Cell → Bool) (bs : List (List Act)) (s t : Store) → AreApart d bs → AgreeOutside d s t → AgreeOutside d (store_after (acts_in_all bs) s) (store_after (acts_in_all (reverse bs)) t)
reversed_leaves d bs s t apart agree c h =
    acts_leave (acts_in_all bs) (acts_in_all (reverse bs)) (flat touches_of bs) (flat touches_of (reverse bs)) s t (flat_all bs) (flat_all (reverse bs)) c
    (outside_behind d touches_of bs (reverse bs) s t (reversed_blocks d bs apart) agree c h)

-- rows to columns
pub rows_once : (bs : List Block) → IsByRows bs → EachOnce bs
rows_once bs rows x b = elim (rows x x b) [ inl h ↦ omega arith | inr h ↦ let k = h.1 in omega arith ]

columns_once : (bs : List Block) → IsByColumns bs → EachOnce bs
columns_once bs columns x b = elim (columns x x b) [ inl h ↦ omega arith | inr h ↦ let k = h.1 in omega arith ]

rows_keep : (d : Cell → Bool) (rows columns : List Block) → IsByRows rows → IsByColumns columns → HaveSameItems rows columns → NoneCrosses d rows → KeepsOrder (block_conflict d) rows columns
rows_keep d rows columns by_rows by_columns same none x y b c =
    elim (in_order x y columns (same.none_lost x i) (same.none_lost y j)) [
      | inl e ↦
          let o : x.outer ≡ y.outer = ap (λ (z : Block). z.outer) e in
          let n : x.inner ≡ y.inner = ap (λ (z : Block). z.inner) e in
          absurd (elim (by_rows x y b) [ inl h ↦ omega arith | inr h ↦ let k = h.1 in omega arith ])
      | inr r ↦ elim r [
        | inl before ↦ before
        | inr after ↦ absurd (crossed (by_rows x y b) (by_columns y x after))
      ]
    ]
  where
    i : IsIn x rows
    i = first_in x y rows b

    j : IsIn y rows
    j = second_in x y rows b

    crossed : (x.outer < y.outer) ⊎ ((x.outer ≡ y.outer) × (x.inner < y.inner)) → (y.inner < x.inner) ⊎ ((y.inner ≡ x.inner) × (y.outer < x.outer)) → ⊥
    crossed (inl h) (inl k) = both_ways (block_conflict d x y) (none x y i j h k) c
    crossed (inl h) (inr k) = let m = k.1 in omega arith
    crossed (inr h) (inl k) = let m = h.1 in omega arith
    crossed (inr h) (inr k) = let m = h.0 in let n = k.1 in omega arith

rows_rearranged : (d : Cell → Bool) (rows columns : List Block) → IsByRows rows → IsByColumns columns → HaveSameItems rows columns → NoneCrosses d rows → Rearranged (items_without d block_touches) rows columns
rows_rearranged d rows columns by_rows by_columns same none =
    rearranges (items_without d block_touches) (block_conflict d) (λ x y h. some_kept d (touches_of x.acts) (touches_of y.acts) h)
    rows columns (rows_once rows by_rows) (columns_once columns by_columns) same.none_lost same.none_added (rows_keep d rows columns by_rows by_columns same none)

pub columns_fit : (d : Cell → Bool) (rows columns : List Block) (s t : Store) → IsByRows rows → IsByColumns columns → HaveSameItems rows columns → NoneCrosses d rows → ReadNone d (acts_in_blocks rows) → AgreeOutside d s t → Fits (acts_in_blocks rows) s → Fits (acts_in_blocks columns) t
columns_fit d rows columns s t by_rows by_columns same none unread agree =
    acts_fit (acts_in_blocks rows) (acts_in_blocks columns) (flat block_touches rows) (flat block_touches columns) s t (flat_blocks rows) (flat_blocks columns)
    (outside_find d block_touches rows columns s t (rows_rearranged d rows columns by_rows by_columns same none) (subst (LeaveUnread d) (sym (flat_blocks rows)) (unread_touches d (acts_in_blocks rows) unread)) agree)

pub columns_leave : (d : Cell → Bool) (rows columns : List Block) (s t : Store) → IsByRows rows → IsByColumns columns → HaveSameItems rows columns → NoneCrosses d rows → AgreeOutside d s t → AgreeOutside d (store_after (acts_in_blocks rows) s) (store_after (acts_in_blocks columns) t)
columns_leave d rows columns s t by_rows by_columns same none agree c h =
    acts_leave (acts_in_blocks rows) (acts_in_blocks columns) (flat block_touches rows) (flat block_touches columns) s t (flat_blocks rows) (flat_blocks columns) c
    (outside_behind d block_touches rows columns s t (rows_rearranged d rows columns by_rows by_columns same none) agree c h)

-- blocks in another order
blocks_rearranged : (d : Cell → Bool) (blocks order : List Block) → EachOnce blocks → IsReordered blocks order → KeepsOrder (block_conflict d) blocks order → Rearranged (items_without d block_touches) blocks order
blocks_rearranged d blocks order once o keeps =
    rearranges (items_without d block_touches) (block_conflict d) (λ x y h. some_kept d (touches_of x.acts) (touches_of y.acts) h) blocks order once o.once o.same.none_lost o.same.none_added keeps

pub blocks_fit : (d : Cell → Bool) (blocks order : List Block) (s t : Store) → EachOnce blocks → IsReordered blocks order → KeepsOrder (block_conflict d) blocks order → ReadNone d (acts_in_blocks blocks) → AgreeOutside d s t → Fits (acts_in_blocks blocks) s → Fits (acts_in_blocks order) t
blocks_fit d blocks order s t once o keeps unread agree =
    acts_fit (acts_in_blocks blocks) (acts_in_blocks order) (flat block_touches blocks) (flat block_touches order) s t (flat_blocks blocks) (flat_blocks order)
    (outside_find d block_touches blocks order s t (blocks_rearranged d blocks order once o keeps) (subst (LeaveUnread d) (sym (flat_blocks blocks)) (unread_touches d (acts_in_blocks blocks) unread)) agree)

pub blocks_leave : (d : Cell → Bool) (blocks order : List Block) (s t : Store) → EachOnce blocks → IsReordered blocks order → KeepsOrder (block_conflict d) blocks order → AgreeOutside d s t → AgreeOutside d (store_after (acts_in_blocks blocks) s) (store_after (acts_in_blocks order) t)
blocks_leave d blocks order s t once o keeps agree c h =
    acts_leave (acts_in_blocks blocks) (acts_in_blocks order) (flat block_touches blocks) (flat block_touches order) s t (flat_blocks blocks) (flat_blocks order) c
    (outside_behind d block_touches blocks order s t (blocks_rearranged d blocks order once o keeps) agree c h)

-- two neighbouring blocks that don't conflict outside the set
two_apart : (d : Cell → Bool) (xs ys : List Act) → blocks_conflict_outside d xs ys ≡ false → AreApart d (xs ∷ ys ∷ [])
two_apart d xs ys h a b (inl p) = elim p.1 [ inl e ↦ subst (λ z. blocks_conflict_outside d z b ≡ false) (sym p.0) (subst (λ z. blocks_conflict_outside d xs z ≡ false) (sym e) h) | inr i ↦ absurd i ]
two_apart d xs ys h a b (inr k) = absurd (elim k [ inl p ↦ p.1 | inr n ↦ n ])

two_blocks : (xs ys : List Act) → acts_in_all (xs ∷ ys ∷ []) ≡ xs ++ ys
two_blocks xs ys = ap (λ z. xs ++ z) (append-nil ys)

pub exchanged_fits_outside : (d : Cell → Bool) (xs ys : List Act) (s t : Store) → blocks_conflict_outside d xs ys ≡ false → ReadNone d (xs ++ ys) → AgreeOutside d s t → Fits (xs ++ ys) s → Fits (ys ++ xs) t
exchanged_fits_outside d xs ys s t h unread agree f =
    subst (λ z. Fits z t) (two_blocks ys xs)
    (reversed_fits d (xs ∷ ys ∷ []) s t (two_apart d xs ys h) (subst (ReadNone d) (sym (two_blocks xs ys)) unread) agree (subst (λ z. Fits z s) (sym (two_blocks xs ys)) f))

pub exchanged_leaves_outside : (d : Cell → Bool) (xs ys : List Act) (s t : Store) → blocks_conflict_outside d xs ys ≡ false → AgreeOutside d s t → AgreeOutside d (store_after (xs ++ ys) s) (store_after (ys ++ xs) t)
exchanged_leaves_outside d xs ys s t h agree c k =
    ap (λ z. store_after z s c) (sym (two_blocks xs ys)) ∙ reversed_leaves d (xs ∷ ys ∷ []) s t (two_apart d xs ys h) agree c k ∙ ap (λ z. store_after z t c) (two_blocks ys xs)

pub sorted_fits : (d : Cell → Bool) (key : Numbered → ℕ) (acts : List Act) (order : List Numbered) (s t : Store) → IsReordered (number_from 0 acts) order → IsSortedBy key order → ((x y : Numbered) → StandsBefore x y (number_from 0 acts) → numbered_conflict d x y ≡ true → key x ≤ key y) → ReadNone d acts → AgreeOutside d s t → Fits acts s → Fits (acts_in order) t
sorted_fits d key acts order s t o sorted respects = reordered_fits_outside d acts order s t o (sorted_keeps d key acts order o sorted respects)

pub sorted_leaves : (d : Cell → Bool) (key : Numbered → ℕ) (acts : List Act) (order : List Numbered) (s t : Store) → IsReordered (number_from 0 acts) order → IsSortedBy key order → ((x y : Numbered) → StandsBefore x y (number_from 0 acts) → numbered_conflict d x y ≡ true → key x ≤ key y) → AgreeOutside d s t → AgreeOutside d (store_after acts s) (store_after (acts_in order) t)
sorted_leaves d key acts order s t o sorted respects = reordered_leaves_outside d acts order s t o (sorted_keeps d key acts order o sorted respects)

-- orders that are kept: blocks as they stand
pub own_order : (d : Cell → Bool) (blocks : List Block) → EachOnce blocks → IsReordered blocks blocks × KeepsOrder (block_conflict d) blocks blocks
own_order d blocks once = (record { once = once; same = record { none_lost = λ x i. i; none_added = λ x i. i } }, (λ x y b c. b))

in_reverse_too : {X : Type 0} (x : X) (xs : List X) → IsIn x xs → IsIn x (reverse xs)
in_reverse_too x [] i = absurd i
in_reverse_too x (y ∷ ys) (inl e) = subst (IsIn x) (sym (reverse-append (y ∷ []) ys)) (in_right x (reverse ys) (y ∷ []) (inl e))
in_reverse_too x (y ∷ ys) (inr i) = subst (IsIn x) (sym (reverse-append (y ∷ []) ys)) (in_left x (reverse ys) (y ∷ []) (in_reverse_too x ys i))

before_reversed : {X : Type 0} (x y : X) (xs : List X) → StandsBefore x y (reverse xs) → StandsBefore y x xs
before_reversed x y [] b = absurd b
before_reversed x y (z ∷ zs) b = elim (before_parts x y (reverse zs) (z ∷ []) (subst (StandsBefore x y) (reverse-append (z ∷ []) zs) b)) [
  | inl c ↦ inr (before_reversed x y zs c)
  | inr q ↦ elim q [
    | inl p ↦ elim p.1 [ inl e ↦ inl (e, in_reverse x zs p.0) | inr n ↦ absurd n ]
    | inr c ↦ elim c [ inl p ↦ absurd p.1 | inr n ↦ absurd n ]
  ]
]

-- blocks in reverse
pub reversed_order : (d : Cell → Bool) (blocks : List Block) → EachOnce blocks → ((x y : Block) → StandsBefore x y blocks → block_conflict d x y ≡ false) → IsReordered blocks (reverse blocks) × KeepsOrder (block_conflict d) blocks (reverse blocks)
reversed_order d blocks once apart = (
  record {
    once = λ x b. once x (before_reversed x x blocks b);
    same = record { none_lost = λ x i. in_reverse_too x blocks i; none_added = λ x i. in_reverse x blocks i };
  },
  (λ x y b c. absurd (both_ways (block_conflict d x y) (apart x y b) c)),
)

-- blocks by columns
pub column_order : (d : Cell → Bool) (rows columns : List Block) → IsByRows rows → IsByColumns columns → HaveSameItems rows columns → NoneCrosses d rows → IsReordered rows columns × KeepsOrder (block_conflict d) rows columns
column_order d rows columns by_rows by_columns same none =
    (record { once = columns_once columns by_columns; same = same }, rows_keep d rows columns by_rows by_columns same none)

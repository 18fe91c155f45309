-- Blocks that do the same on renamed cells, but for writes to idle cells.
use Rattle.std.proofs.Common.{◌≡◌, ℕ, List, [], ◌∷◌, ◌++◌, cond, Bool, true, false, ◌&&◌, refl, sym, ap, subst, ◌∙◌, inl, inr}
use Rattle.std.specs.Prelude.{not}
use Rattle.std.specs.List.{filter, list_any}
use Rattle.std.proofs.lemmas.Bool.{and_parts}
use Rattle.ped_laws.specs.ped_store.specs.Cells.{Cell, same_cell}
use Rattle.ped_laws.specs.ped_store.specs.Acts.{Manner, reads, writes, is_told, Touch, Act}
use Rattle.ped_laws.specs.ped_store.specs.Races.{is_write}
use Rattle.ped_laws.specs.Acts.Fitting.{touches_of, has_cell, of_cells}
use Rattle.ped_laws.specs.Acts.Sets.{writes_to, written}
use Rattle.ped_laws.specs.Acts.Conflicts.{manners_clash, clash, clash_outside, some_clash_outside, touches_without, without, IsNoReadOf, LeaveUnread, ReadNone}
use Rattle.ped_laws.specs.Acts.Orders.{IsIn, Block, acts_in_blocks}
use Rattle.ped_laws.specs.Acts.Grids.{block_at}
use Rattle.ped_laws.specs.Acts.Renaming.{AreRenamed, Renamed, touch}
use Rattle.ped_laws.proofs.ActLaws.SameCells.{cell_is, is_cell}
use Rattle.ped_laws.proofs.ActLaws.Lists.{in_left, in_right, in_parts}
use Rattle.ped_laws.proofs.ActLaws.Renamings.{or_right, or_left, or_either}
use Rattle.ped_laws.proofs.ActLaws.Outside.{touches_of_without, unread_first, unread_rest, unread_touches}
use Rattle.ped_laws.proofs.ActLaws.Conflicting.{clashing_outside, not_in}
use Rattle.ped_laws.proofs.ActLaws.Reorderings.{touches_append}
use Rattle.ped_laws.proofs.ActLaws.Appending.{renamed_append}
use Rattle.ped_weaves.specs.Weaves.{Knot, block, control, blocks_in}
use Rattle.ped_weaves.proofs.WeaveLaws.KnotLists.{in_blocks}

-- tests of items
pub any_of : {X : Type 0} (p : X → Bool) (xs : List X) (x : X) → IsIn x xs → p x ≡ true → list_any p xs ≡ true
any_of p [] x i h = absurd i
any_of p (y ∷ ys) x (inl e) h = or_left (p y) (list_any p ys) (ap p (sym e) ∙ h)
any_of p (y ∷ ys) x (inr i) h = or_right (p y) (list_any p ys) (any_of p ys x i h)

pub one_of : {X : Type 0} (p : X → Bool) (xs : List X) → list_any p xs ≡ true → (x : X) × IsIn x xs × (p x ≡ true)
one_of p [] h = absurd cc
one_of p (y ∷ ys) h = elim (or_either (p y) (list_any p ys) h) [
  | inl e ↦ (y, inl refl, e)
  | inr k ↦ let r = one_of p ys k in (r.0, inr r.1, r.2)
]

in_filter : {X : Type 0} (p : X → Bool) (xs : List X) (x : X) → IsIn x xs → p x ≡ true → IsIn x (filter p xs)
in_filter p [] x i h = absurd i
in_filter p (y ∷ ys) x (inl e) h = rw (ap p (sym e) ∙ h) (inl e)
in_filter p (y ∷ ys) x (inr i) h = go (p y) refl (in_filter p ys x i h)
  where
    go : (b : Bool) → p y ≡ b → IsIn x (filter p ys) → IsIn x (filter p (y ∷ ys))
    go true e k = rw e (inr k)
    go false e k = rw e k

from_filter : {X : Type 0} (p : X → Bool) (xs : List X) (x : X) → IsIn x (filter p xs) → IsIn x xs × (p x ≡ true)
from_filter p [] x i = absurd i
from_filter p (y ∷ ys) x i = go (from_filter p ys x) (p y) refl i
  where
    go : (IsIn x (filter p ys) → IsIn x ys × (p x ≡ true)) → (b : Bool) → p y ≡ b → IsIn x (filter p (y ∷ ys)) → IsIn x (y ∷ ys) × (p x ≡ true)
    go more true e k = elim (subst (λ b. IsIn x (cond b (y ∷ filter p ys) (filter p ys))) e k) [
      | inl q ↦ (inl q, ap p q ∙ e)
      | inr q ↦ let r = more q in (inr r.0, r.1)
    ]
    go more false e k = let r = more (subst (λ b. IsIn x (cond b (y ∷ filter p ys) (filter p ys))) e k) in (inr r.0, r.1)

not_so : (b : Bool) → b ≡ false → not b ≡ true
not_so b h = rw h refl

-- a touch of acts that counts: it reads or writes a cell, and is no write to the set
pub record Counts (d : Cell → Bool) (acts : List Act) (x : Touch) : Type 0 where
  pub among : IsIn x (touches_of acts)
  pub cell : has_cell x.manner ≡ true
  pub outside : is_write x.manner && d x.cell ≡ false

counts_in : (d : Cell → Bool) (acts : List Act) (x : Touch) → Counts d acts x → IsIn x (of_cells (touches_of (without d acts)))
counts_in d acts x k =
    in_filter (λ t. has_cell t.manner) (touches_of (without d acts)) x
    (subst (IsIn x) (sym (touches_of_without d acts)) (in_filter (λ t. not (is_write t.manner && d t.cell)) (touches_of acts) x k.among (not_so (is_write x.manner && d x.cell) k.outside))) k.cell

pub counts_from : (d : Cell → Bool) (acts : List Act) (x : Touch) → IsIn x (touches_of (without d acts)) → has_cell x.manner ≡ true → Counts d acts x
counts_from d acts x i h =
    let r = from_filter (λ t. not (is_write t.manner && d t.cell)) (touches_of acts) x (subst (IsIn x) (touches_of_without d acts) i) in
    record { among = r.0; cell = h; outside = not_in (is_write x.manner && d x.cell) r.1 }

-- a renamed touch has an old one
renamed_source : (g : Cell → Cell) (xs ys : List Touch) (y : Touch) → AreRenamed g xs ys → IsIn y ys → (x : Touch) × IsIn x xs × (x.manner ≡ y.manner) × (y.cell ≡ g x.cell)
renamed_source g [] [] y r i = absurd i
renamed_source g [] (z ∷ ys) y r i = absurd r
renamed_source g (x ∷ xs) [] y r i = absurd r
renamed_source g (x ∷ xs) (z ∷ ys) y r (inl e) = (x, inl refl, r.0 ∙ ap (λ (w : Touch). w.manner) (sym e), ap (λ (w : Touch). w.cell) e ∙ r.2)
renamed_source g (x ∷ xs) (z ∷ ys) y r (inr i) = let k = renamed_source g xs ys y r.3 i in (k.0, inr k.1, k.2, k.3)

pub counts_source : (g : Cell → Cell) (d : Cell → Bool) (acts others : List Act) (y : Touch) → Renamed g (without d acts) (without d others) → Counts d others y → (x : Touch) × Counts d acts x × (x.manner ≡ y.manner) × (y.cell ≡ g x.cell)
counts_source g d acts others y r k =
    let s = renamed_source g (of_cells (touches_of (without d acts))) (of_cells (touches_of (without d others))) y r (counts_in d others y k) in
    let i = from_filter (λ t. has_cell t.manner) (touches_of (without d acts)) s.0 s.1 in
    (s.0, counts_from d acts s.0 i.0 i.1, s.2, s.3)

-- what isn't read stands outside the set, where it counts
no_read : (d : Cell → Bool) (ts : List Touch) (x : Touch) → LeaveUnread d ts → IsIn x ts → IsNoReadOf d x.manner x.cell
no_read d [] x h i = absurd i
no_read d (t ∷ ts) x h (inl e) = subst (λ (z : Touch). IsNoReadOf d z.manner z.cell) (sym e) h.0
no_read d (t ∷ ts) x h (inr i) = no_read d ts x h.1 i

outside_of : (d : Cell → Bool) (m : Manner) (c : Cell) → IsNoReadOf d m c → has_cell m ≡ true → is_write m && d c ≡ false → d c ≡ false
outside_of d reads c h k w = h
outside_of d writes c h k w = w
outside_of d is_told c h k w = absurd cc

pub counts_outside : (d : Cell → Bool) (acts : List Act) (x : Touch) → ReadNone d acts → Counts d acts x → d x.cell ≡ false
counts_outside d acts x unread k = outside_of d x.manner x.cell (no_read d (touches_of acts) x (unread_touches d acts unread) k.among) k.cell k.outside

-- acts that don't read the set, told by their touches
no_read_of : (d : Cell → Bool) (m : Manner) (c : Cell) → (m ≡ reads → d c ≡ false) → IsNoReadOf d m c
no_read_of d reads c h = h refl
no_read_of d writes c h = tt
no_read_of d is_told c h = tt

leave_unread : (d : Cell → Bool) (ts : List Touch) → ((x : Touch) → IsIn x ts → x.manner ≡ reads → d x.cell ≡ false) → LeaveUnread d ts
leave_unread d [] h = tt
leave_unread d (t ∷ ts) h = (no_read_of d t.manner t.cell (h t (inl refl)), leave_unread d ts (λ x i. h x (inr i)))

read_none : (d : Cell → Bool) (acts : List Act) → LeaveUnread d (touches_of acts) → ReadNone d acts
read_none d [] h = tt
read_none d (a ∷ acts) h = (unread_first d a.touches (touches_of acts) h, read_none d acts (unread_rest d a.touches (touches_of acts) h))

read_counts : (d : Cell → Bool) (acts : List Act) (x : Touch) → IsIn x (touches_of acts) → x.manner ≡ reads → Counts d acts x
read_counts d acts x i e = record { among = i; cell = ap has_cell e; outside = ap (λ m. is_write m && d x.cell) e }

-- the new block reads none of the set, where the names of what counts lie outside it
pub new_unread : (g : Cell → Cell) (d : Cell → Bool) (acts others : List Act) → Renamed g (without d acts) (without d others) → ((x : Touch) → Counts d acts x → d (g x.cell) ≡ false) → ReadNone d others
new_unread g d acts others r outside = read_none d others (leave_unread d (touches_of others) each)
  where
    each : (y : Touch) → IsIn y (touches_of others) → y.manner ≡ reads → d y.cell ≡ false
    each y i e = let s = counts_source g d acts others y r (read_counts d others y i e) in ap d s.3 ∙ outside s.0 s.1

-- touches that clash read or write a cell
clash_cells : (m n : Manner) → manners_clash m n ≡ true → (has_cell m ≡ true) × (has_cell n ≡ true)
clash_cells reads reads h = absurd cc
clash_cells reads writes h = (refl, refl)
clash_cells reads is_told h = absurd cc
clash_cells writes reads h = (refl, refl)
clash_cells writes writes h = (refl, refl)
clash_cells writes is_told h = absurd cc
clash_cells is_told n h = absurd cc

and_false : (a b : Bool) → b ≡ false → a && b ≡ false
and_false true b h = h
and_false false b h = refl

clash_outside_of : (d : Cell → Bool) (xs ys : List Touch) (x y : Touch) → IsIn x xs → IsIn y ys → clash_outside d x y ≡ true → some_clash_outside d xs ys ≡ true
clash_outside_of d xs ys x y i j h = any_of (λ z. list_any (clash_outside d z) ys) xs x i (any_of (clash_outside d x) ys y j h)

-- new blocks conflict outside the set only where the old ones do
pub conflict_back : (g : Cell → Cell) (d : Cell → Bool) (xs ys us vs : List Act) → Renamed g (without d xs) (without d us) → Renamed g (without d ys) (without d vs) → ReadNone d xs
    → ((x y : Touch) → Counts d xs x → Counts d ys y → g x.cell ≡ g y.cell → x.cell ≡ y.cell) → some_clash_outside d (touches_of us) (touches_of vs) ≡ true → some_clash_outside d (touches_of xs) (touches_of ys) ≡ true
conflict_back g d xs ys us vs r q unread one h =
    let c = clashing_outside d (touches_of us) (touches_of vs) h in
    let u = c.0 in
    let v = c.1 in
    let k = and_parts (clash u v) (not (d u.cell)) c.4 in
    let m = and_parts (same_cell u.cell v.cell) (manners_clash u.manner v.manner) k.0 in
    let same = cell_is u.cell v.cell m.0 in
    let out = not_in (d u.cell) k.1 in
    let cells = clash_cells u.manner v.manner m.1 in
    let x = counts_source g d xs us u r (record { among = c.2; cell = cells.0; outside = and_false (is_write u.manner) (d u.cell) out }) in
    let y = counts_source g d ys vs v q (record { among = c.3; cell = cells.1; outside = and_false (is_write v.manner) (d v.cell) (ap d (sym same) ∙ out) }) in
    let e = is_cell x.0.cell y.0.cell (one x.0 y.0 x.1 y.1 (sym x.3 ∙ same ∙ y.3)) in
    let w : manners_clash x.0.manner y.0.manner ≡ true = ap (λ z. manners_clash z y.0.manner) x.2 ∙ ap (manners_clash u.manner) y.2 ∙ m.1 in
    clash_outside_of d (touches_of xs) (touches_of ys) x.0 y.0 x.1.among y.1.among
    (ap (λ b. b && not (d x.0.cell)) (ap (λ b. b && manners_clash x.0.manner y.0.manner) e ∙ w) ∙ not_so (d x.0.cell) (counts_outside d xs x.0 unread x.1))

-- acts without their writes, one after the other
without_acts : (d : Cell → Bool) (xs ys : List Act) → without d (xs ++ ys) ≡ without d xs ++ without d ys
without_acts d [] ys = refl
without_acts d (x ∷ xs) ys = ap (λ z. record { step = x.step; place = x.place; touches = touches_without d x.touches } ∷ z) (without_acts d xs ys)

-- all blocks, renamed
pub blocks_renamed : (g : Cell → Cell) (d : Cell → Bool) (acts others : ℕ → ℕ → List Act) (ks : List Knot) → ((i j : ℕ) → IsIn (block i j) ks → Renamed g (without d (acts i j)) (without d (others i j)))
    → Renamed g (without d (acts_in_blocks (blocks_in acts ks))) (without d (acts_in_blocks (blocks_in others ks)))
blocks_renamed g d acts others [] h = tt
blocks_renamed g d acts others (block i j ∷ ks) h =
    let xs = acts_in_blocks (blocks_in acts ks) in
    let ys = acts_in_blocks (blocks_in others ks) in
    subst (λ z. Renamed g z (without d (others i j ++ ys))) (sym (without_acts d (acts i j) xs))
    (subst (λ z. Renamed g (without d (acts i j) ++ without d xs) z) (sym (without_acts d (others i j) ys))
    (renamed_append g (without d (acts i j)) (without d (others i j)) (without d xs) (without d ys) (h i j (inl refl)) (blocks_renamed g d acts others ks (λ i j k. h i j (inr k)))))
blocks_renamed g d acts others (control c ∷ ks) h = blocks_renamed g d acts others ks (λ i j k. h i j (inr k))

-- touches of blocks
pub in_acts_of : (bs : List Block) (b : Block) (x : Touch) → IsIn b bs → IsIn x (touches_of b.acts) → IsIn x (touches_of (acts_in_blocks bs))
in_acts_of [] b x i j = absurd i
in_acts_of (a ∷ bs) b x (inl e) j = subst (IsIn x) (sym (touches_append a.acts (acts_in_blocks bs))) (in_left x (touches_of a.acts) (touches_of (acts_in_blocks bs)) (subst (λ (z : Block). IsIn x (touches_of z.acts)) e j))
in_acts_of (a ∷ bs) b x (inr i) j = subst (IsIn x) (sym (touches_append a.acts (acts_in_blocks bs))) (in_right x (touches_of a.acts) (touches_of (acts_in_blocks bs)) (in_acts_of bs b x i j))

pub of_block : (bs : List Block) (x : Touch) → IsIn x (touches_of (acts_in_blocks bs)) → (b : Block) × IsIn b bs × IsIn x (touches_of b.acts)
of_block [] x i = absurd i
of_block (a ∷ bs) x i = elim (in_parts x (touches_of a.acts) (touches_of (acts_in_blocks bs)) (subst (IsIn x) (touches_append a.acts (acts_in_blocks bs)) i)) [
  | inl k ↦ (a, inl refl, k)
  | inr k ↦ let r = of_block bs x k in (r.0, inr r.1, r.2)
]

-- what counts of a block counts of all
pub counts_of_all : (d : Cell → Bool) (acts : ℕ → ℕ → List Act) (ks : List Knot) (i j : ℕ) (x : Touch) → IsIn (block i j) ks → Counts d (acts i j) x → Counts d (acts_in_blocks (blocks_in acts ks)) x
counts_of_all d acts ks i j x k c = record { among = in_acts_of (blocks_in acts ks) (block_at acts i j) x (in_blocks acts ks i j k) c.among; cell = c.cell; outside = c.outside }

pub write_cell : (m : Manner) → is_write m ≡ true → has_cell m ≡ true
write_cell writes h = refl
write_cell reads h = absurd cc
write_cell is_told h = absurd cc

-- what counts is touched, and written where it is a write
touch_in : (d : Cell → Bool) (acts : List Act) (x : Touch) → Counts d acts x → IsIn x (touches_of (without d acts))
touch_in d acts x k = (from_filter (λ t. has_cell t.manner) (touches_of (without d acts)) x (counts_in d acts x k)).0

pub counts_touched : (d : Cell → Bool) (acts : List Act) (x : Touch) → Counts d acts x → touch (without d acts) x.cell ≡ true
counts_touched d acts x k = any_of (λ t. has_cell t.manner && same_cell t.cell x.cell) (touches_of (without d acts)) x (touch_in d acts x k) (ap (λ b. b && same_cell x.cell x.cell) k.cell ∙ is_cell x.cell x.cell refl)

pub counts_written : (d : Cell → Bool) (acts : List Act) (x : Touch) → Counts d acts x → is_write x.manner ≡ true → written (without d acts) x.cell ≡ true
counts_written d acts x k w = any_of (λ t. writes_to t x.cell) (touches_of (without d acts)) x (touch_in d acts x k) (ap (λ b. b && same_cell x.cell x.cell) w ∙ is_cell x.cell x.cell refl)

-- a cell outside the set that acts write is written by a touch that counts
pub write_of : (d : Cell → Bool) (acts : List Act) (c : Cell) → d c ≡ false → written acts c ≡ true → (x : Touch) × Counts d acts x × (is_write x.manner ≡ true) × (x.cell ≡ c)
write_of d acts c out h =
    let r = one_of (λ t. writes_to t c) (touches_of acts) h in
    let k = and_parts (is_write r.0.manner) (same_cell r.0.cell c) r.2 in
    let e = cell_is r.0.cell c k.1 in
    (r.0, record { among = r.1; cell = write_cell r.0.manner k.0; outside = and_false (is_write r.0.manner) (d r.0.cell) (ap d e ∙ out) }, k.0, e)

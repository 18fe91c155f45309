-- What counts of a list of blocks and controls, and the whole list.
use Rattle.std.proofs.Common.{◌≡◌, ℕ, List, [], ◌∷◌, Bool, true, false, ◌&&◌, ◌||◌, refl, sym, ap, ◌∙◌, inl, inr}
use Rattle.std.specs.Prelude.{not, if◌then◌else◌}
use Rattle.std.proofs.lemmas.Bool.{and_parts, both_ways}
use Rattle.ped_laws.specs.ped_store.specs.Cells.{Cell, same_cell}
use Rattle.ped_laws.specs.ped_store.specs.Acts.{Manner, reads, writes, is_told, Touch, Act}
use Rattle.ped_laws.specs.ped_store.specs.Races.{is_write}
use Rattle.ped_laws.specs.Acts.Fitting.{touches_of, has_cell}
use Rattle.ped_laws.specs.Acts.Sets.{writes_to, written_by, written, read_first, needed_by, needs}
use Rattle.ped_laws.specs.Acts.Conflicts.{touches_without, without, ReadNone, IsWriteWithin, WriteWithin}
use Rattle.ped_laws.specs.Acts.Orders.{IsIn, acts_in_blocks}
use Rattle.ped_laws.specs.Acts.Renaming.{touch, IsFree}
use Rattle.ped_laws.proofs.ActLaws.SameCells.{cell_is}
use Rattle.ped_laws.proofs.ActLaws.Renamings.{or_right, or_left, or_either, needed_touched}
use Rattle.ped_laws.proofs.ActLaws.Outside.{kept_first, dropped_first, touches_of_without}
use Rattle.ped_laws.proofs.ActLaws.Appending.{written_append, touch_append, needs_append}
use Rattle.ped_weaves.specs.Weaves.{Knot, block, control, Weave, knotted, blocks_in, old_list, counted, ControlWithin}
use Rattle.ped_weaves.proofs.WeaveLaws.NewNames.{any_of, one_of, counts_from, counts_outside, counts_written, write_cell, write_of}
use Rattle.ped_weaves.proofs.WeaveLaws.Woven.{blocks_unread}

-- controls write no other cell
within_unwritten : (d : Cell → Bool) (ts : List Touch) (c : Cell) → WriteWithin d ts → d c ≡ false → written_by ts c ≡ false
within_unwritten d [] c h out = refl
within_unwritten d (x ∷ xs) c h out = ap (λ b. b || written_by xs c) (go x.manner x.cell h.0) ∙ within_unwritten d xs c h.1 out
  where
    go : (m : Manner) (e : Cell) → IsWriteWithin d m e → is_write m && same_cell e c ≡ false
    go reads e k = refl
    go is_told e k = refl
    go writes e k = at (same_cell e c) refl
      where
        at : (b : Bool) → same_cell e c ≡ b → same_cell e c ≡ false
        at true p = absurd (both_ways (d c) out (ap d (sym (cell_is e c p)) ∙ k))
        at false p = p

-- blocks alone touch and write no more than all
touch_more : (acts : ℕ → ℕ → List Act) (ks : List Knot) (c : Cell) → touch (acts_in_blocks (blocks_in acts ks)) c ≡ true → touch (knotted acts ks) c ≡ true
touch_more acts [] c h = absurd cc
touch_more acts (block i j ∷ ks) c h = touch_append (acts i j) (knotted acts ks) c ∙ elim (or_either (touch (acts i j) c) (touch (acts_in_blocks (blocks_in acts ks)) c) (sym (touch_append (acts i j) (acts_in_blocks (blocks_in acts ks)) c) ∙ h)) [
  | inl p ↦ or_left (touch (acts i j) c) (touch (knotted acts ks) c) p
  | inr q ↦ or_right (touch (acts i j) c) (touch (knotted acts ks) c) (touch_more acts ks c q)
]
touch_more acts (control a ∷ ks) c h = touch_append a (knotted acts ks) c ∙ or_right (touch a c) (touch (knotted acts ks) c) (touch_more acts ks c h)

write_more : (acts : ℕ → ℕ → List Act) (ks : List Knot) (c : Cell) → written (acts_in_blocks (blocks_in acts ks)) c ≡ true → written (knotted acts ks) c ≡ true
write_more acts [] c h = absurd cc
write_more acts (block i j ∷ ks) c h = written_append (acts i j) (knotted acts ks) c ∙ elim (or_either (written (acts i j) c) (written (acts_in_blocks (blocks_in acts ks)) c) (sym (written_append (acts i j) (acts_in_blocks (blocks_in acts ks)) c) ∙ h)) [
  | inl p ↦ or_left (written (acts i j) c) (written (knotted acts ks) c) p
  | inr q ↦ or_right (written (acts i j) c) (written (knotted acts ks) c) (write_more acts ks c q)
]
write_more acts (control a ∷ ks) c h = written_append a (knotted acts ks) c ∙ or_right (written a c) (written (knotted acts ks) c) (write_more acts ks c h)

-- outside the set all write no more than the blocks
write_fewer : (d : Cell → Bool) (acts : ℕ → ℕ → List Act) (ks : List Knot) (c : Cell) → ControlWithin d ks → d c ≡ false → written (knotted acts ks) c ≡ written (acts_in_blocks (blocks_in acts ks)) c
write_fewer d acts [] c within out = refl
write_fewer d acts (block i j ∷ ks) c within out =
    written_append (acts i j) (knotted acts ks) c ∙ ap (λ b. written (acts i j) c || b) (write_fewer d acts ks c (λ a k. within a (inr k)) out) ∙ sym (written_append (acts i j) (acts_in_blocks (blocks_in acts ks)) c)
write_fewer d acts (control a ∷ ks) c within out =
    written_append a (knotted acts ks) c ∙ ap (λ b. b || written (knotted acts ks) c) (within_unwritten d (touches_of a) c (within a (inl refl)) out) ∙ write_fewer d acts ks c (λ a k. within a (inr k)) out

-- outside the set all need what the blocks need
need_more : (d : Cell → Bool) (acts : ℕ → ℕ → List Act) (ks : List Knot) (c : Cell) → ControlWithin d ks → d c ≡ false → needs (acts_in_blocks (blocks_in acts ks)) c ≡ true → needs (knotted acts ks) c ≡ true
need_more d acts [] c within out h = absurd cc
need_more d acts (block i j ∷ ks) c within out h = needs_append (acts i j) (knotted acts ks) c ∙ elim (or_either (needs (acts i j) c) (not (written (acts i j) c) && needs (acts_in_blocks (blocks_in acts ks)) c) (sym (needs_append (acts i j) (acts_in_blocks (blocks_in acts ks)) c) ∙ h)) [
  | inl p ↦ or_left (needs (acts i j) c) (not (written (acts i j) c) && needs (knotted acts ks) c) p
  | inr q ↦
      let r = and_parts (not (written (acts i j) c)) (needs (acts_in_blocks (blocks_in acts ks)) c) q in
      or_right (needs (acts i j) c) (not (written (acts i j) c) && needs (knotted acts ks) c) (ap (λ b. b && needs (knotted acts ks) c) r.0 ∙ need_more d acts ks c (λ a k. within a (inr k)) out r.1)
]
need_more d acts (control a ∷ ks) c within out h =
    needs_append a (knotted acts ks) c
    ∙ or_right (needs a c) (not (written a c) && needs (knotted acts ks) c) (ap (λ b. not b && needs (knotted acts ks) c) (within_unwritten d (touches_of a) c (within a (inl refl)) out) ∙ need_more d acts ks c (λ a k. within a (inr k)) out h)

-- without the writes to the set, the same is needed outside it
need_without : (d : Cell → Bool) (ts : List Touch) (c : Cell) → d c ≡ false → needed_by (touches_without d ts) c ≡ needed_by ts c
need_without d [] c out = refl
need_without d (x ∷ xs) c out = go (need_without d xs c out) (is_write x.manner && d x.cell) refl
  where
    other : is_write x.manner && d x.cell ≡ true → (b : Bool) → same_cell x.cell c ≡ b → needed_by xs c ≡ needed_by (x ∷ xs) c
    other h true p = absurd (both_ways (d c) out (ap d (sym (cell_is x.cell c p)) ∙ (and_parts (is_write x.manner) (d x.cell) h).1))
    other h false p = rw p refl

    go : needed_by (touches_without d xs) c ≡ needed_by xs c → (b : Bool) → is_write x.manner && d x.cell ≡ b → needed_by (touches_without d (x ∷ xs)) c ≡ needed_by (x ∷ xs) c
    go more true h = ap (λ z. needed_by z c) (dropped_first d x xs h) ∙ more ∙ other h (same_cell x.cell c) refl
    go more false h = ap (λ z. needed_by z c) (kept_first d x xs h) ∙ ap (λ b. if same_cell x.cell c then read_first x.manner b else b) more

-- what counts is touched outside the set
touched_counts : (d : Cell → Bool) (acts : List Act) (c : Cell) → ReadNone d acts → touch (without d acts) c ≡ true → (d c ≡ false) × (touch acts c ≡ true)
touched_counts d acts c unread h =
    let r = one_of (λ t. has_cell t.manner && same_cell t.cell c) (touches_of (without d acts)) h in
    let k = and_parts (has_cell r.0.manner) (same_cell r.0.cell c) r.2 in
    let e = cell_is r.0.cell c k.1 in
    let n = counts_from d acts r.0 r.1 k.0 in
    (ap d (sym e) ∙ counts_outside d acts r.0 unread n, any_of (λ t. has_cell t.manner && same_cell t.cell c) (touches_of acts) r.0 n.among r.2)

pub counted_touched : (w : Weave) (c : Cell) → ((i j : ℕ) → IsIn (block i j) w.old → ReadNone w.idle (w.acts i j)) → touch (counted w) c ≡ true → (w.idle c ≡ false) × (touch (old_list w) c ≡ true)
counted_touched w c unread h =
    let r = touched_counts w.idle (acts_in_blocks (blocks_in w.acts w.old)) c (blocks_unread w.idle w.acts w.old unread) h in
    (r.0, touch_more w.acts w.old c r.1)

pub counted_needed : (w : Weave) (c : Cell) → ControlWithin w.idle w.old → ((i j : ℕ) → IsIn (block i j) w.old → ReadNone w.idle (w.acts i j)) → needs (counted w) c ≡ true → needs (old_list w) c ≡ true
counted_needed w c within unread h =
    let out = (counted_touched w c unread (needed_touched (touches_of (counted w)) c h)).0 in
    let olds = acts_in_blocks (blocks_in w.acts w.old) in
    need_more w.idle w.acts w.old c within out (sym (need_without w.idle (touches_of olds) c out) ∙ ap (λ z. needed_by z c) (sym (touches_of_without w.idle olds)) ∙ h)

pub counted_writes : (w : Weave) (c : Cell) → written (counted w) c ≡ true → written (old_list w) c ≡ true
counted_writes w c h =
    let olds = acts_in_blocks (blocks_in w.acts w.old) in
    let r = one_of (λ t. writes_to t c) (touches_of (counted w)) h in
    let k = and_parts (is_write r.0.manner) (same_cell r.0.cell c) r.2 in
    let n = counts_from w.idle olds r.0 r.1 (write_cell r.0.manner k.0) in
    write_more w.acts w.old c (any_of (λ t. writes_to t c) (touches_of olds) r.0 n.among r.2)

pub counted_written : (w : Weave) (c : Cell) → ControlWithin w.idle w.old → w.idle c ≡ false → written (old_list w) c ≡ true → written (counted w) c ≡ true
counted_written w c within out h =
    let olds = acts_in_blocks (blocks_in w.acts w.old) in
    let x = write_of w.idle olds c out (sym (write_fewer w.idle w.acts w.old c within out) ∙ h) in
    ap (written (counted w)) (sym x.3) ∙ counts_written w.idle olds x.0 x.1 x.2

-- a cell that keeps its name, which no other written one gets, is no new name of a written cell where the old list doesn't write it
pub kept_unwritten : (w : Weave) (c : Cell) → w.names c ≡ c → IsFree w.names (counted w) c → written (old_list w) c ≡ false → (e : Cell) → written (counted w) e ≡ true → w.names e ≡ c → ⊥
kept_unwritten w c own free none e h k =
    both_ways (written (old_list w) c) none (counted_writes w c (ap (written (counted w)) (sym (free e h (k ∙ sym own))) ∙ h))

-- Acts put for others, where some cells count for nothing.
use Rattle.std.proofs.Common.{◌≡◌, List, [], ◌∷◌, ◌++◌, Bool, true, refl, sym, ap, subst, ◌∙◌, inl, inr}
use Rattle.ped_laws.specs.ped_store.specs.Cells.{Cell}
use Rattle.ped_laws.specs.ped_store.specs.Stores.{Content, Store}
use Rattle.ped_laws.specs.ped_store.specs.Acts.{Manner, reads, writes, is_told, Touch, Act, touched, store_behind}
use Rattle.ped_laws.specs.Acts.Fitting.{IsFound, Find, Fits, store_after, touches_of, of_cells}
use Rattle.ped_laws.specs.Acts.Sets.{nothing, AgreeIn, AgreeOutside}
use Rattle.ped_laws.specs.Acts.Conflicts.{touches_without, without, IsWriteWithin, ReadNone, WriteWithin}
use Rattle.ped_laws.specs.Acts.Changes.{AreSameOutside}
use Rattle.ped_laws.specs.Acts.Orders.{IsIn}
use Rattle.ped_laws.specs.Acts.Pieces.{StandsFor}
use Rattle.ped_laws.specs.Acts.Renaming.{AreRenamed, Renamed, own_name}
use Rattle.ped_laws.proofs.ActLaws.Stores.{behind_append, find_append, find_first, find_rest, after_is, fits_find, find_fits}
use Rattle.ped_laws.proofs.ActLaws.Outside.{unread_touches, touches_of_without}
use Rattle.ped_laws.proofs.ActLaws.Renamings.{agreeing_fits, agreeing_leaves}
use Rattle.ped_laws.proofs.ActLaws.Changing.{same_stays}
use Rattle.ped_weaves.specs.Puttings.{Suit, IsPutFor}

-- a store agrees with itself outside any set
pub itself : (d : Cell → Bool) (s : Store) → AgreeOutside d s s
itself d s c h = refl

-- what stores that agree before acts hold behind them, where the sets suit
pub alike_behind : (idle before behind : Cell → Bool) (acts : List Act) (s t : Store) → Suit idle before behind acts → AgreeIn before s t → (c : Cell) → behind c ≡ true → store_after acts s c ≡ store_after acts t c
alike_behind idle before behind acts s t suit agree c h = agreeing_leaves acts s t c (elim (suit.wanted c h).1 [ inl p ↦ inr (agree c p) | inr w ↦ inl w ])

-- acts that do the same outside the set
same_touches : (d : Cell → Bool) (acts others : List Act) → ReadNone d acts → Renamed own_name (without d acts) (without d others) → AreSameOutside d (touches_of acts) (touches_of others)
same_touches d acts others unread r = (
  unread_touches d acts unread,
  subst (λ z. AreRenamed own_name (of_cells z) (of_cells (touches_without d (touches_of others)))) (touches_of_without d acts)
      (subst (λ z. AreRenamed own_name (of_cells (touches_of (without d acts))) (of_cells z)) (touches_of_without d others) r),
)

pub kept_stands : (idle before behind : Cell → Bool) (acts others : List Act) (s : Store) → Fits acts s → Suit idle before behind acts → ReadNone idle acts → Renamed own_name (without idle acts) (without idle others)
    → StandsFor (record { agreed = before; old = acts; new = others }) behind s
kept_stands idle before behind acts others s f suit unread r t agree = (find_fits others t k.0, alike)
  where
    k : Find (touches_of others) t × AgreeOutside idle (store_behind (touches_of acts) t) (store_behind (touches_of others) t)
    k = same_stays idle (touches_of acts) (touches_of others) t t (same_touches idle acts others unread r) (fits_find acts t (agreeing_fits acts s t (λ c h. agree c (suit.needed c h)) f)) (itself idle t)

    alike : AgreeIn behind (store_after acts s) (store_after others t)
    alike c h = alike_behind idle before behind acts s t suit agree c h ∙ ap (λ z. z c) (after_is acts t) ∙ k.1 c (suit.wanted c h).0 ∙ ap (λ z. z c) (sym (after_is others t))

-- touches that write nothing
touched_not : (m : Manner) (c : Cell) (v : Content) (s : Store) → IsWriteWithin nothing m c → touched m c v s ≡ s
touched_not reads c v s h = refl
touched_not writes c v s h = absurd cc
touched_not is_told c v s h = refl

behind_reads : (xs : List Touch) (s : Store) → WriteWithin nothing xs → store_behind xs s ≡ s
behind_reads [] s h = refl
behind_reads (x ∷ xs) s h = ap (store_behind xs) (touched_not x.manner x.cell x.content s h.0) ∙ behind_reads xs s h.1

found_read : (m : Manner) (c : Cell) (v : Content) (s : Store) → m ≡ reads → IsFound m c v s → s c ≡ v
found_read reads c v s e f = f
found_read writes c v s e f = absurd cc
found_read is_told c v s e f = absurd cc

read_found : (m : Manner) (c : Cell) (v : Content) (s : Store) → (m ≡ reads → s c ≡ v) → IsFound m c v s
read_found reads c v s h = h refl
read_found writes c v s h = tt
read_found is_told c v s h = tt

-- each of them that reads holds
reads_hold : (xs : List Touch) (s : Store) → WriteWithin nothing xs → Find xs s → (x : Touch) → IsIn x xs → x.manner ≡ reads → s x.cell ≡ x.content
reads_hold [] s h f x i e = absurd i
reads_hold (y ∷ ys) s h f x (inl p) e =
    ap (λ (z : Touch). s z.cell) p ∙ found_read y.manner y.cell y.content s (ap (λ (z : Touch). z.manner) (sym p) ∙ e) f.0 ∙ ap (λ (z : Touch). z.content) (sym p)
reads_hold (y ∷ ys) s h f x (inr i) e = reads_hold ys s h.1 (subst (Find ys) (touched_not y.manner y.cell y.content s h.0) f.1) x i e

hold_reads : (xs : List Touch) (s : Store) → WriteWithin nothing xs → ((x : Touch) → IsIn x xs → x.manner ≡ reads → s x.cell ≡ x.content) → Find xs s
hold_reads [] s h k = tt
hold_reads (y ∷ ys) s h k = (
  read_found y.manner y.cell y.content s (k y (inl refl)),
  subst (Find ys) (sym (touched_not y.manner y.cell y.content s h.0)) (hold_reads ys s h.1 (λ x i. k x (inr i))),
)

pub put_stands : (idle before behind : Cell → Bool) (a b : Act) (s : Store) → Fits (a ∷ []) s → Suit idle before behind (a ∷ []) → IsPutFor idle a b → StandsFor (record { agreed = before; old = a ∷ []; new = b ∷ [] }) behind s
put_stands idle before behind a b s f suit p t agree = ((subst (λ z. Find z t) (sym p.in_new) found, tt), alike)
  where
    old : Find (p.reading ++ p.rest) t
    old = subst (λ z. Find z t) p.in_old (agreeing_fits (a ∷ []) s t (λ c h. agree c (suit.needed c h)) f).0

    reading : Find p.reading t
    reading = find_first p.reading p.rest t old

    new_reading : Find p.new_reading t
    new_reading = hold_reads p.new_reading t p.new_writes_nothing (λ y i e.
        let x = p.among y i e in
        ap t (sym x.3) ∙ reads_hold p.reading t p.writes_nothing reading x.0 x.1 x.2 ∙ x.4)

    rest : Find p.rest t
    rest = subst (Find p.rest) (behind_reads p.reading t p.writes_nothing) (find_rest p.reading p.rest t old)

    k : Find p.new_rest t × AgreeOutside idle (store_behind p.rest t) (store_behind p.new_rest t)
    k = same_stays idle p.rest p.new_rest t t p.same rest (itself idle t)

    found : Find (p.new_reading ++ p.new_rest) t
    found = find_append p.new_reading p.new_rest t new_reading (subst (Find p.new_rest) (sym (behind_reads p.new_reading t p.new_writes_nothing)) k.0)

    -- a store behind touches of which the first ones write nothing
    behind_is : (touches first more : List Touch) → touches ≡ first ++ more → WriteWithin nothing first → store_behind touches t ≡ store_behind more t
    behind_is touches first more e h = ap (λ z. store_behind z t) e ∙ behind_append first more t ∙ ap (store_behind more) (behind_reads first t h)

    alike : AgreeIn behind (store_after (a ∷ []) s) (store_after (b ∷ []) t)
    alike c h =
        alike_behind idle before behind (a ∷ []) s t suit agree c h
        ∙ ap (λ z. z c) (behind_is a.touches p.reading p.rest p.in_old p.writes_nothing)
        ∙ k.1 c (suit.wanted c h).0
        ∙ ap (λ z. z c) (sym (behind_is b.touches p.new_reading p.new_rest p.in_new p.new_writes_nothing))

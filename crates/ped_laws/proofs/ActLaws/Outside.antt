-- Stores that agree outside a set of cells which no act reads.
use Rattle.std.proofs.Common.{◌≡◌, List, [], ◌∷◌, ◌++◌, Bool, true, false, ◌&&◌, refl, sym, ap, subst, ◌∙◌}
use Rattle.std.proofs.lemmas.Bool.{both_ways}
use Rattle.ped_eval.specs.ped_store.specs.Cells.{Cell, same_cell}
use Rattle.ped_eval.specs.ped_store.specs.Stores.{Content, Store, put}
use Rattle.ped_eval.specs.ped_store.specs.Acts.{Manner, reads, writes, is_told, Touch, Act, touched, store_behind}
use Rattle.ped_eval.specs.ped_store.specs.Races.{is_write}
use Rattle.ped_laws.specs.Acts.Fitting.{IsFound, Find, touches_of}
use Rattle.ped_laws.specs.Acts.Sets.{AgreeOutside}
use Rattle.ped_laws.specs.Acts.Conflicts.{touches_without, without, IsNoReadOf, LeaveUnread, ReadNone, IsWriteWithin, WriteWithin}
use Rattle.ped_laws.proofs.ActLaws.SameCells.{cell_is}
use Rattle.ped_laws.proofs.ActLaws.Stores.{put_same, put_other}

pub agree_back : (d : Cell → Bool) (s t : Store) → AgreeOutside d s t → AgreeOutside d t s
agree_back d s t agree c h = sym (agree c h)

-- both stores behind one touch
pub both_touched : (d : Cell → Bool) (m : Manner) (c : Cell) (v : Content) (s t : Store) → AgreeOutside d s t → AgreeOutside d (touched m c v s) (touched m c v t)
both_touched d reads c v s t agree = agree
both_touched d is_told c v s t agree = agree
both_touched d writes c v s t agree = each
  where
    each : AgreeOutside d (put c v s) (put c v t)
    each e h = go (same_cell c e) refl
      where
        go : (b : Bool) → same_cell c e ≡ b → put c v s e ≡ put c v t e
        go true p = put_same c v s e p ∙ sym (put_same c v t e p)
        go false p = put_other c v s e p ∙ agree e h ∙ sym (put_other c v t e p)

-- one store behind a touch that writes within the set
pub one_touched : (d : Cell → Bool) (m : Manner) (c : Cell) (v : Content) (s t : Store) → IsWriteWithin d m c → AgreeOutside d s t → AgreeOutside d (touched m c v s) t
one_touched d reads c v s t within agree = agree
one_touched d is_told c v s t within agree = agree
one_touched d writes c v s t within agree = each
  where
    each : AgreeOutside d (put c v s) t
    each e h = go (same_cell c e) refl
      where
        go : (b : Bool) → same_cell c e ≡ b → put c v s e ≡ t e
        go true p = absurd (both_ways (d e) h (ap d (sym (cell_is c e p)) ∙ within))
        go false p = put_other c v s e p ∙ agree e h

-- what is read outside the set is found in both
pub found_outside : (d : Cell → Bool) (m : Manner) (c : Cell) (v : Content) (s t : Store) → IsNoReadOf d m c → AgreeOutside d s t → IsFound m c v s → IsFound m c v t
found_outside d reads c v s t unread agree f = sym (agree c unread) ∙ f
found_outside d writes c v s t unread agree f = tt
found_outside d is_told c v s t unread agree f = tt

-- touches that write within the set alone leave the rest as it was
pub idle_behind : (d : Cell → Bool) (ts : List Touch) (s t : Store) → WriteWithin d ts → AgreeOutside d s t → AgreeOutside d (store_behind ts s) t
idle_behind d [] s t within agree = agree
idle_behind d (x ∷ xs) s t within agree = idle_behind d xs (touched x.manner x.cell x.content s) t within.1 (one_touched d x.manner x.cell x.content s t within.0 agree)

-- which touches stay
dropped : (d : Cell → Bool) (m : Manner) (c : Cell) → is_write m && d c ≡ true → IsWriteWithin d m c
dropped d writes c h = h
dropped d reads c h = tt
dropped d is_told c h = tt

-- the first of the touches without the writes to the set
pub kept_first : (d : Cell → Bool) (x : Touch) (xs : List Touch) → is_write x.manner && d x.cell ≡ false → touches_without d (x ∷ xs) ≡ x ∷ touches_without d xs
kept_first d x xs h = rw h refl

pub dropped_first : (d : Cell → Bool) (x : Touch) (xs : List Touch) → is_write x.manner && d x.cell ≡ true → touches_without d (x ∷ xs) ≡ touches_without d xs
dropped_first d x xs h = rw h refl

pub without_behind : (d : Cell → Bool) (ts : List Touch) (s t : Store) → AgreeOutside d s t → AgreeOutside d (store_behind ts s) (store_behind (touches_without d ts) t)
without_behind d [] s t agree = agree
without_behind d (x ∷ xs) s t agree = go (without_behind d xs) (is_write x.manner && d x.cell) refl
  where
    go : ((u v : Store) → AgreeOutside d u v → AgreeOutside d (store_behind xs u) (store_behind (touches_without d xs) v)) → (b : Bool) → is_write x.manner && d x.cell ≡ b → AgreeOutside d (store_behind (x ∷ xs) s) (store_behind (touches_without d (x ∷ xs)) t)
    go more true p =
        subst (λ ys. AgreeOutside d (store_behind (x ∷ xs) s) (store_behind ys t)) (sym (dropped_first d x xs p))
        (more (touched x.manner x.cell x.content s) t (one_touched d x.manner x.cell x.content s t (dropped d x.manner x.cell p) agree))
    go more false p =
        subst (λ ys. AgreeOutside d (store_behind (x ∷ xs) s) (store_behind ys t)) (sym (kept_first d x xs p))
        (more (touched x.manner x.cell x.content s) (touched x.manner x.cell x.content t) (both_touched d x.manner x.cell x.content s t agree))

pub without_find : (d : Cell → Bool) (ts : List Touch) (s t : Store) → LeaveUnread d ts → AgreeOutside d s t → Find ts s → Find (touches_without d ts) t
without_find d [] s t unread agree f = tt
without_find d (x ∷ xs) s t unread agree f = go (λ u v. without_find d xs u v unread.1) (is_write x.manner && d x.cell) refl
  where
    go : ((u v : Store) → AgreeOutside d u v → Find xs u → Find (touches_without d xs) v) → (b : Bool) → is_write x.manner && d x.cell ≡ b → Find (touches_without d (x ∷ xs)) t
    go more true p =
        subst (λ ys. Find ys t) (sym (dropped_first d x xs p))
        (more (touched x.manner x.cell x.content s) t (one_touched d x.manner x.cell x.content s t (dropped d x.manner x.cell p) agree) f.1)
    go more false p =
        subst (λ ys. Find ys t) (sym (kept_first d x xs p))
        (found_outside d x.manner x.cell x.content s t unread.0 agree f.0, more (touched x.manner x.cell x.content s) (touched x.manner x.cell x.content t) (both_touched d x.manner x.cell x.content s t agree) f.1)

asks_nothing : (d : Cell → Bool) (m : Manner) (c : Cell) (v : Content) (s : Store) → is_write m && d c ≡ true → IsFound m c v s
asks_nothing d writes c v s h = tt
asks_nothing d reads c v s h = absurd cc
asks_nothing d is_told c v s h = tt

pub find_without : (d : Cell → Bool) (ts : List Touch) (s t : Store) → LeaveUnread d ts → AgreeOutside d s t → Find (touches_without d ts) t → Find ts s
find_without d [] s t unread agree f = tt
find_without d (x ∷ xs) s t unread agree f = go (λ u v. find_without d xs u v unread.1) (is_write x.manner && d x.cell) refl
  where
    go : ((u v : Store) → AgreeOutside d u v → Find (touches_without d xs) v → Find xs u) → (b : Bool) → is_write x.manner && d x.cell ≡ b → Find (x ∷ xs) s
    go more true p =
        (asks_nothing d x.manner x.cell x.content s p, more (touched x.manner x.cell x.content s) t (one_touched d x.manner x.cell x.content s t (dropped d x.manner x.cell p) agree) (subst (λ ys. Find ys t) (dropped_first d x xs p) f))
    go more false p =
        let g = subst (λ ys. Find ys t) (kept_first d x xs p) f in
        (found_outside d x.manner x.cell x.content t s unread.0 (agree_back d s t agree) g.0, more (touched x.manner x.cell x.content s) (touched x.manner x.cell x.content t) (both_touched d x.manner x.cell x.content s t agree) g.1)

pub without_append : (d : Cell → Bool) (xs ys : List Touch) → touches_without d (xs ++ ys) ≡ touches_without d xs ++ touches_without d ys
without_append d [] ys = refl
without_append d (x ∷ xs) ys = go (without_append d xs ys) (is_write x.manner && d x.cell) refl
  where
    go : touches_without d (xs ++ ys) ≡ touches_without d xs ++ touches_without d ys → (b : Bool) → is_write x.manner && d x.cell ≡ b → touches_without d (x ∷ (xs ++ ys)) ≡ touches_without d (x ∷ xs) ++ touches_without d ys
    go more true p = dropped_first d x (xs ++ ys) p ∙ more ∙ ap (λ zs. zs ++ touches_without d ys) (sym (dropped_first d x xs p))
    go more false p = kept_first d x (xs ++ ys) p ∙ ap (λ zs. x ∷ zs) more ∙ ap (λ zs. zs ++ touches_without d ys) (sym (kept_first d x xs p))

-- the touches of acts without their writes to the set
pub touches_of_without : (d : Cell → Bool) (acts : List Act) → touches_of (without d acts) ≡ touches_without d (touches_of acts)
touches_of_without d [] = refl
touches_of_without d (a ∷ acts) = ap (λ zs. touches_without d a.touches ++ zs) (touches_of_without d acts) ∙ sym (without_append d a.touches (touches_of acts))

pub unread_append : (d : Cell → Bool) (xs ys : List Touch) → LeaveUnread d xs → LeaveUnread d ys → LeaveUnread d (xs ++ ys)
unread_append d [] ys h k = k
unread_append d (x ∷ xs) ys h k = (h.0, unread_append d xs ys h.1 k)

pub unread_first : (d : Cell → Bool) (xs ys : List Touch) → LeaveUnread d (xs ++ ys) → LeaveUnread d xs
unread_first d [] ys h = tt
unread_first d (x ∷ xs) ys h = (h.0, unread_first d xs ys h.1)

pub unread_rest : (d : Cell → Bool) (xs ys : List Touch) → LeaveUnread d (xs ++ ys) → LeaveUnread d ys
unread_rest d [] ys h = h
unread_rest d (x ∷ xs) ys h = unread_rest d xs ys h.1

pub unread_touches : (d : Cell → Bool) (acts : List Act) → ReadNone d acts → LeaveUnread d (touches_of acts)
unread_touches d [] h = tt
unread_touches d (a ∷ acts) h = unread_append d a.touches (touches_of acts) h.0 (unread_touches d acts h.1)

pub none_append : (d : Cell → Bool) (xs ys : List Act) → ReadNone d xs → ReadNone d ys → ReadNone d (xs ++ ys)
none_append d [] ys h k = k
none_append d (x ∷ xs) ys h k = (h.0, none_append d xs ys h.1 k)

pub none_first : (d : Cell → Bool) (xs ys : List Act) → ReadNone d (xs ++ ys) → ReadNone d xs
none_first d [] ys h = tt
none_first d (x ∷ xs) ys h = (h.0, none_first d xs ys h.1)

pub none_rest : (d : Cell → Bool) (xs ys : List Act) → ReadNone d (xs ++ ys) → ReadNone d ys
none_rest d [] ys h = h
none_rest d (x ∷ xs) ys h = none_rest d xs ys h.1

-- Acts that stay, go and come.
use Rattle.std.proofs.Common.{◌≡◌, List, [], ◌∷◌, ◌++◌, Bool, true, false, ◌&&◌, refl, sym, ap, subst, ◌∙◌}
use Rattle.std.proofs.lemmas.Bool.{or_parts}
use Rattle.std.proofs.lemmas.List.Folds.{list_any-append}
use Rattle.ped_eval.specs.ped_store.specs.Cells.{Cell}
use Rattle.ped_eval.specs.ped_store.specs.Stores.{Content, Store}
use Rattle.ped_eval.specs.ped_store.specs.Acts.{Manner, reads, writes, is_told, Touch, Act, touched, store_behind}
use Rattle.ped_eval.specs.ped_store.specs.Races.{is_write}
use Rattle.ped_laws.specs.Acts.Fitting.{IsFound, Find, Fits, store_after, touches_of, has_cell, of_cells}
use Rattle.ped_laws.specs.Acts.Sets.{AgreeOutside, writes_to, written_by, written}
use Rattle.ped_laws.specs.Acts.Conflicts.{some_clash, touches_without, without, IsNoReadOf, LeaveUnread, ReadNone, WriteWithin}
use Rattle.ped_laws.specs.Acts.Renaming.{AreRenamed, own_name}
use Rattle.ped_laws.specs.Acts.Changes.{Change, stays, goes, comes, acts_before, acts_behind, StaysWithin, ChangeWithin, AreSameOutside, IsHeldOutside, ReadPlain, PlainChange}
use Rattle.ped_laws.proofs.ActLaws.Stores.{behind_append, find_append, find_first, find_rest, after_is, fits_find, find_fits}
use Rattle.ped_laws.proofs.ActLaws.OfCells.{stays_first, goes_first, find_cells, cells_find, behind_cells}
use Rattle.ped_laws.proofs.ActLaws.Clashes.{swap_behind, swap_find, swap_found}
use Rattle.ped_laws.proofs.ActLaws.Outside.{agree_back, both_touched, one_touched, found_outside, idle_behind, kept_first, dropped_first, without_behind, without_find, find_without, touches_of_without, unread_touches}
use Rattle.ped_laws.proofs.ActLaws.Renamings.{renamed_find, renamed_alike, behind_other}

-- touches that don't read the set find the same in stores that agree outside it
pub find_outside : (d : Cell → Bool) (ts : List Touch) (s t : Store) → LeaveUnread d ts → AgreeOutside d s t → Find ts s → Find ts t
find_outside d [] s t unread agree f = tt
find_outside d (x ∷ xs) s t unread agree f = (
  found_outside d x.manner x.cell x.content s t unread.0 agree f.0,
  find_outside d xs (touched x.manner x.cell x.content s) (touched x.manner x.cell x.content t) unread.1 (both_touched d x.manner x.cell x.content s t agree) f.1,
)

write_unread : (d : Cell → Bool) (m : Manner) (c : Cell) → is_write m && d c ≡ true → IsNoReadOf d m c
write_unread d writes c h = tt
write_unread d reads c h = absurd cc
write_unread d is_told c h = tt

-- what isn't read without the writes isn't read with them
unread_with : (d : Cell → Bool) (ts : List Touch) → LeaveUnread d (touches_without d ts) → LeaveUnread d ts
unread_with d [] h = tt
unread_with d (x ∷ xs) h = go (unread_with d xs) (is_write x.manner && d x.cell) refl
  where
    go : (LeaveUnread d (touches_without d xs) → LeaveUnread d xs) → (b : Bool) → is_write x.manner && d x.cell ≡ b → LeaveUnread d (x ∷ xs)
    go more true p = (write_unread d x.manner x.cell p, more (subst (LeaveUnread d) (dropped_first d x xs p) h))
    go more false p = let k = subst (LeaveUnread d) (kept_first d x xs p) h in (k.0, more k.1)

unread_without : (d : Cell → Bool) (ts : List Touch) → LeaveUnread d ts → LeaveUnread d (touches_without d ts)
unread_without d [] h = tt
unread_without d (x ∷ xs) h = go (unread_without d xs h.1) (is_write x.manner && d x.cell) refl
  where
    go : LeaveUnread d (touches_without d xs) → (b : Bool) → is_write x.manner && d x.cell ≡ b → LeaveUnread d (touches_without d (x ∷ xs))
    go more true p = subst (LeaveUnread d) (sym (dropped_first d x xs p)) more
    go more false p = subst (LeaveUnread d) (sym (kept_first d x xs p)) (h.0, more)

told_unread : (d : Cell → Bool) (m : Manner) (c : Cell) → has_cell m ≡ false → IsNoReadOf d m c
told_unread d reads c h = absurd cc
told_unread d writes c h = absurd cc
told_unread d is_told c h = tt

cells_unread : (d : Cell → Bool) (ts : List Touch) → LeaveUnread d ts → LeaveUnread d (of_cells ts)
cells_unread d [] h = tt
cells_unread d (x ∷ xs) h = go (cells_unread d xs h.1) (has_cell x.manner) refl
  where
    go : LeaveUnread d (of_cells xs) → (b : Bool) → has_cell x.manner ≡ b → LeaveUnread d (of_cells (x ∷ xs))
    go more true p = subst (LeaveUnread d) (sym (stays_first x xs p)) (h.0, more)
    go more false p = subst (LeaveUnread d) (sym (goes_first x xs p)) more

unread_cells : (d : Cell → Bool) (ts : List Touch) → LeaveUnread d (of_cells ts) → LeaveUnread d ts
unread_cells d [] h = tt
unread_cells d (x ∷ xs) h = go (unread_cells d xs) (has_cell x.manner) refl
  where
    go : (LeaveUnread d (of_cells xs) → LeaveUnread d xs) → (b : Bool) → has_cell x.manner ≡ b → LeaveUnread d (x ∷ xs)
    go more true p = let k = subst (LeaveUnread d) (stays_first x xs p) h in (k.0, more k.1)
    go more false p = (told_unread d x.manner x.cell p, more (subst (LeaveUnread d) (goes_first x xs p) h))

unread_renamed : (d : Cell → Bool) (xs ys : List Touch) → AreRenamed own_name xs ys → LeaveUnread d xs → LeaveUnread d ys
unread_renamed d [] [] r h = tt
unread_renamed d [] (y ∷ ys) r h = absurd r
unread_renamed d (x ∷ xs) [] r h = absurd r
unread_renamed d (x ∷ xs) (y ∷ ys) r h =
    (subst (λ z. IsNoReadOf d z y.cell) r.0 (subst (IsNoReadOf d x.manner) (sym r.2) h.0), unread_renamed d xs ys r.3 h.1)

-- touches that are the same outside the set
same_find : (d : Cell → Bool) (xs ys : List Touch) (s t : Store) → AreSameOutside d xs ys → AgreeOutside d s t → Find xs s → Find ys t
same_find d xs ys s t h agree f =
    let a = find_cells (touches_without d xs) s (without_find d xs s s h.0 (λ c k. refl) f) in
    let b = renamed_find own_name (of_cells (touches_without d xs)) (of_cells (touches_without d ys)) s s h.1 (λ c e p q k. k) (λ c k. refl) a in
    let unread = unread_with d ys (unread_cells d (touches_without d ys) (unread_renamed d (of_cells (touches_without d xs)) (of_cells (touches_without d ys)) h.1 (cells_unread d (touches_without d xs) (unread_without d xs h.0)))) in
    find_without d ys t s unread (agree_back d s t agree) (cells_find (touches_without d ys) s b)

same_behind : (d : Cell → Bool) (xs ys : List Touch) (s t : Store) → AreSameOutside d xs ys → AgreeOutside d s t → AgreeOutside d (store_behind xs s) (store_behind ys t)
same_behind d xs ys s t h agree c k =
    without_behind d xs s s (λ e n. refl) c k
    ∙ ap (λ z. z c) (sym (behind_cells (touches_without d xs) s))
    ∙ renamed_alike own_name (of_cells (touches_without d xs)) (of_cells (touches_without d ys)) s s c h.1 (λ e p q. q) refl
    ∙ ap (λ z. z c) (behind_cells (touches_without d ys) s)
    ∙ sym (without_behind d ys t s (agree_back d s t agree) c k)

pub same_stays : (d : Cell → Bool) (xs ys : List Touch) (s t : Store) → AreSameOutside d xs ys → StaysWithin d xs ys s t
same_stays d xs ys s t h f agree = (same_find d xs ys s t h agree f, same_behind d xs ys s t h agree)

both_behind : (d : Cell → Bool) (ts : List Touch) (s t : Store) → AgreeOutside d s t → AgreeOutside d (store_behind ts s) (store_behind ts t)
both_behind d [] s t agree = agree
both_behind d (x ∷ xs) s t agree = both_behind d xs (touched x.manner x.cell x.content s) (touched x.manner x.cell x.content t) (both_touched d x.manner x.cell x.content s t agree)

-- touches that don't clash in the other order
pub swapped_stays : (d : Cell → Bool) (xs ys zs : List Touch) (s t : Store) → some_clash xs ys ≡ false → LeaveUnread d (xs ++ (ys ++ zs)) → StaysWithin d (xs ++ (ys ++ zs)) (ys ++ (xs ++ zs)) s t
swapped_stays d xs ys zs s t h unread f agree =
    let g = find_outside d (xs ++ (ys ++ zs)) s t unread agree f in
    let x = find_first xs (ys ++ zs) t g in
    let rest = find_rest xs (ys ++ zs) t g in
    let y = find_first ys zs (store_behind xs t) rest in
    let z = subst (Find zs) (swap_behind xs ys t h) (find_rest ys zs (store_behind xs t) rest) in
    let e : store_behind (xs ++ (ys ++ zs)) t ≡ store_behind (ys ++ (xs ++ zs)) t =
    behind_append xs (ys ++ zs) t ∙ behind_append ys zs (store_behind xs t) ∙ ap (store_behind zs) (swap_behind xs ys t h) ∙ sym (behind_append ys (xs ++ zs) t ∙ behind_append xs zs (store_behind ys t)) in (
      find_append ys (xs ++ zs) t (swap_find xs ys t h y) (find_append xs zs (store_behind ys t) (swap_found xs ys t h x) z),
      (λ c k. both_behind d (xs ++ (ys ++ zs)) s t agree c k ∙ ap (λ w. w c) e),
    )

pub changed_fits : (d : Cell → Bool) (w : List Change) (s t : Store) → ChangeWithin d w s t → AgreeOutside d s t → Fits (acts_before w) s → Fits (acts_behind w) t
changed_fits d [] s t k agree f = tt
changed_fits d (stays a b ∷ w) s t k agree f =
    let h = k.0 f.0 agree in
    (h.0, changed_fits d w (store_behind a.touches s) (store_behind b.touches t) k.1 h.1 f.1)
changed_fits d (goes a ∷ w) s t k agree f = changed_fits d w (store_behind a.touches s) t k.1 (idle_behind d a.touches s t k.0 agree) f.1
changed_fits d (comes b ∷ w) s t k agree f = (
  k.1 agree,
  changed_fits d w s (store_behind b.touches t) k.2 (agree_back d (store_behind b.touches t) s (idle_behind d b.touches t s k.0 (agree_back d s t agree))) f,
)

pub changed_leaves : (d : Cell → Bool) (w : List Change) (s t : Store) → ChangeWithin d w s t → AgreeOutside d s t → Fits (acts_before w) s → AgreeOutside d (store_after (acts_before w) s) (store_after (acts_behind w) t)
changed_leaves d [] s t k agree f = agree
changed_leaves d (stays a b ∷ w) s t k agree f = changed_leaves d w (store_behind a.touches s) (store_behind b.touches t) k.1 (k.0 f.0 agree).1 f.1
changed_leaves d (goes a ∷ w) s t k agree f = changed_leaves d w (store_behind a.touches s) t k.1 (idle_behind d a.touches s t k.0 agree) f.1
changed_leaves d (comes b ∷ w) s t k agree f =
    changed_leaves d w s (store_behind b.touches t) k.2 (agree_back d (store_behind b.touches t) s (idle_behind d b.touches t s k.0 (agree_back d s t agree))) f

-- what is read in plain cells is found
plain_found : (d changing : Cell → Bool) (s : Store) (m : Manner) (c : Cell) (v : Content) (t : Store) → IsHeldOutside d changing s m c v → ((e : Cell) → d e ≡ false → changing e ≡ false → t e ≡ s e) → IsFound m c v t
plain_found d changing s reads c v t h same = same c h.0 h.1 ∙ h.2
plain_found d changing s writes c v t h same = tt
plain_found d changing s is_told c v t h same = tt

plain_find : (d changing : Cell → Bool) (s : Store) (ts : List Touch) (t : Store) → ReadPlain d changing s ts → WriteWithin d ts → ((e : Cell) → d e ≡ false → changing e ≡ false → t e ≡ s e) → Find ts t
plain_find d changing s [] t h within same = tt
plain_find d changing s (x ∷ xs) t h within same = (
  plain_found d changing s x.manner x.cell x.content t h.0 same,
  plain_find d changing s xs (touched x.manner x.cell x.content t) h.1 within.1 (λ e p q. one_touched d x.manner x.cell x.content t t within.0 (λ c k. refl) e p ∙ same e p q),
)

unwritten_parts : (a : Act) (acts : List Act) (c : Cell) → written (a ∷ acts) c ≡ false → (written_by a.touches c ≡ false) × (written acts c ≡ false)
unwritten_parts a acts c h = or_parts (written_by a.touches c) (written acts c) (sym (list_any-append (λ t. writes_to t c) a.touches (touches_of acts)) ∙ h)

plain_within : (d changing : Cell → Bool) (s : Store) (w : List Change) (u t : Store) → PlainChange d changing s w → ((e : Cell) → changing e ≡ false → written (acts_before w) e ≡ false) → ((e : Cell) → changing e ≡ false → u e ≡ s e) → ChangeWithin d w u t
plain_within d changing s [] u t h steady same = tt
plain_within d changing s (stays a b ∷ w) u t h steady same = (
  same_stays d a.touches b.touches u t h.0,
  plain_within d changing s w (store_behind a.touches u) (store_behind b.touches t) h.1
      (λ e p. (unwritten_parts a (acts_before w) e (steady e p)).1)
      (λ e p. behind_other a.touches u e (unwritten_parts a (acts_before w) e (steady e p)).0 ∙ same e p),
)
plain_within d changing s (goes a ∷ w) u t h steady same = (
  h.0,
  plain_within d changing s w (store_behind a.touches u) t h.1
      (λ e p. (unwritten_parts a (acts_before w) e (steady e p)).1)
      (λ e p. behind_other a.touches u e (unwritten_parts a (acts_before w) e (steady e p)).0 ∙ same e p),
)
plain_within d changing s (comes b ∷ w) u t h steady same = (
  h.0,
  (λ agree. plain_find d changing s b.touches t h.1 h.0 (λ e p q. sym (agree e p) ∙ same e q)),
  plain_within d changing s w u (store_behind b.touches t) h.2 steady same,
)

pub plain_changes : (d : Cell → Bool) (w : List Change) (s t : Store) → PlainChange d (written (acts_before w)) s w → ChangeWithin d w s t
plain_changes d w s t h = plain_within d (written (acts_before w)) s w s t h (λ e p. p) (λ e p. refl)

-- acts without their writes to the set
pub stripped_fits : (d : Cell → Bool) (acts : List Act) (s t : Store) → ReadNone d acts → AgreeOutside d s t → Fits acts s → Fits (without d acts) t
stripped_fits d acts s t unread agree f =
    find_fits (without d acts) t (subst (λ z. Find z t) (sym (touches_of_without d acts)) (without_find d (touches_of acts) s t (unread_touches d acts unread) agree (fits_find acts s f)))

pub restored_fits : (d : Cell → Bool) (acts : List Act) (s t : Store) → ReadNone d acts → AgreeOutside d s t → Fits (without d acts) t → Fits acts s
restored_fits d acts s t unread agree f =
    find_fits acts s (find_without d (touches_of acts) s t (unread_touches d acts unread) agree (subst (λ z. Find z t) (touches_of_without d acts) (fits_find (without d acts) t f)))

pub stripped_leaves : (d : Cell → Bool) (acts : List Act) (s t : Store) → AgreeOutside d s t → AgreeOutside d (store_after acts s) (store_after (without d acts) t)
stripped_leaves d acts s t agree c h =
    ap (λ z. z c) (after_is acts s) ∙ without_behind d (touches_of acts) s t agree c h
    ∙ sym (ap (λ z. z c) (after_is (without d acts) t) ∙ ap (λ z. store_behind z t c) (touches_of_without d acts))

-- Acts on renamed cells, and the same acts from stores that agree where they need it.
use Rattle.std.proofs.Common.{◌≡◌, List, [], ◌∷◌, Bool, true, false, ◌&&◌, ◌||◌, refl, sym, ap, subst, ◌∙◌, ◌⊎◌, inl, inr}
use Rattle.std.specs.Prelude.{if◌then◌else◌}
use Rattle.std.proofs.lemmas.Bool.{and_parts, both_ways, or_parts}
use Rattle.ped_eval.specs.ped_store.specs.Cells.{Cell, same_cell}
use Rattle.ped_eval.specs.ped_store.specs.Stores.{Content, Store, put}
use Rattle.ped_eval.specs.ped_store.specs.Acts.{Manner, reads, writes, is_told, Touch, Act, touched, store_behind}
use Rattle.ped_eval.specs.ped_store.specs.Races.{is_write}
use Rattle.ped_laws.specs.Acts.Fitting.{IsFound, Find, Fits, store_after, touches_of, has_cell, of_cells}
use Rattle.ped_laws.specs.Acts.Sets.{AgreeIn, writes_to, written_by, written, read_first, needed_by, needs}
use Rattle.ped_laws.specs.Acts.Walks.{OfReads}
use Rattle.ped_laws.specs.Acts.Renaming.{AreRenamed, Renamed, touched_by, touch, IsOneToOne, IsFree, own_name, in_place_of}
use Rattle.ped_laws.proofs.ActLaws.SameCells.{cell_itself, cell_is, is_cell, other_cell, cells_differ}
use Rattle.ped_laws.proofs.ActLaws.OfCells.{find_cells, cells_find, behind_cells, written_cells, touched_cells, needed_cells}
use Rattle.ped_laws.proofs.ActLaws.Stores.{put_same, put_other, touched_other, after_is, fits_find, find_fits}

pub or_right : (a b : Bool) → b ≡ true → a || b ≡ true
or_right true b h = refl
or_right false b h = h

pub or_left : (a b : Bool) → a ≡ true → a || b ≡ true
or_left true b h = refl
or_left false b h = absurd cc

pub or_either : (a b : Bool) → a || b ≡ true → (a ≡ true) ⊎ (b ≡ true)
or_either true b h = inl refl
or_either false b h = inr h

-- what is read first is touched, and so is what is written
first_touched : (m : Manner) (same later touches : Bool) → (if same then read_first m later else later) ≡ true → (later ≡ true → touches ≡ true) → (has_cell m && same) || touches ≡ true
first_touched reads true later touches h more = refl
first_touched writes true later touches h more = refl
first_touched is_told true later touches h more = more h
first_touched reads false later touches h more = more h
first_touched writes false later touches h more = more h
first_touched is_told false later touches h more = more h

pub needed_touched : (xs : List Touch) (c : Cell) → needed_by xs c ≡ true → touched_by xs c ≡ true
needed_touched [] c h = absurd cc
needed_touched (x ∷ xs) c h = first_touched x.manner (same_cell x.cell c) (needed_by xs c) (touched_by xs c) h (needed_touched xs c)

write_touches : (m : Manner) (same : Bool) → is_write m && same ≡ true → has_cell m && same ≡ true
write_touches writes same h = h
write_touches reads same h = absurd cc
write_touches is_told same h = absurd cc

pub written_touched : (xs : List Touch) (c : Cell) → written_by xs c ≡ true → touched_by xs c ≡ true
written_touched [] c h = absurd cc
written_touched (x ∷ xs) c h = elim (or_either (writes_to x c) (written_by xs c) h) [
  | inl p ↦ or_left (has_cell x.manner && same_cell x.cell c) (touched_by xs c) (write_touches x.manner (same_cell x.cell c) p)
  | inr q ↦ or_right (has_cell x.manner && same_cell x.cell c) (touched_by xs c) (written_touched xs c q)
]

-- a read is needed at once
asked : (g : Cell → Cell) (m : Manner) (c : Cell) (xs : List Touch) (s t : Store) → ((e : Cell) → (if same_cell c e then read_first m (needed_by xs e) else needed_by xs e) ≡ true → s e ≡ t (g e)) → OfReads m (s c ≡ t (g c))
asked g reads c xs s t h = h c (ap (λ b. if b then true else needed_by xs c) (cell_itself c))
asked g writes c xs s t h = tt
asked g is_told c xs s t h = tt

pub found_renamed : (g : Cell → Cell) (m n : Manner) (c e : Cell) (v w : Content) (s t : Store) → m ≡ n → v ≡ w → e ≡ g c → OfReads m (s c ≡ t (g c)) → IsFound m c v s → IsFound n e w t
found_renamed g m n c e v w s t p q new same f = subst (λ z. IsFound z e w t) p (go m same f)
  where
    go : (m : Manner) → OfReads m (s c ≡ t (g c)) → IsFound m c v s → IsFound m e w t
    go reads same f = ap t new ∙ sym same ∙ f ∙ q
    go writes same f = tt
    go is_told same f = tt

-- stores that are alike at a cell, or get the same there, are alike behind two touches
pub touched_renamed : (g : Cell → Cell) (m n : Manner) (c e : Cell) (v w : Content) (s t : Store) (d : Cell) → m ≡ n → v ≡ w → e ≡ g c
    → (is_write m ≡ true → g c ≡ g d → c ≡ d) → (is_write m && same_cell c d ≡ false → s d ≡ t (g d)) → touched m c v s d ≡ touched n e w t (g d)
touched_renamed g m n c e v w s t d p q new free same = subst (λ z. touched m c v s d ≡ touched z e w t (g d)) p (go m free same)
  where
    go : (m : Manner) → (is_write m ≡ true → g c ≡ g d → c ≡ d) → (is_write m && same_cell c d ≡ false → s d ≡ t (g d)) → touched m c v s d ≡ touched m e w t (g d)
    go reads free same = same refl
    go is_told free same = same refl
    go writes free same = at (same_cell c d) refl
      where
        at : (b : Bool) → same_cell c d ≡ b → put c v s d ≡ put e w t (g d)
        at true r = put_same c v s d r ∙ q ∙ sym (put_same e w t (g d) (is_cell e (g d) (new ∙ ap g (cell_is c d r))))
        at false r = put_other c v s d r ∙ same r ∙ sym (put_other e w t (g d) (other_cell e (g d) (λ k. cells_differ c d r (free refl (sym new ∙ k)))))

-- what is needed behind a touch is needed before it, or is written by it
needed_behind : (m : Manner) (same later : Bool) → later ≡ true → is_write m && same ≡ false → (if same then read_first m later else later) ≡ true
needed_behind reads true later h n = refl
needed_behind is_told true later h n = h
needed_behind writes true later h n = absurd cc
needed_behind m false later h n = h

-- renamed touches find what they read
pub renamed_find : (g : Cell → Cell) (xs ys : List Touch) (s t : Store) → AreRenamed g xs ys → ((c d : Cell) → touched_by xs c ≡ true → touched_by xs d ≡ true → g c ≡ g d → c ≡ d)
    → ((c : Cell) → needed_by xs c ≡ true → s c ≡ t (g c)) → Find xs s → Find ys t
renamed_find g [] [] s t r one alike f = tt
renamed_find g [] (y ∷ ys) s t r one alike f = absurd r
renamed_find g (x ∷ xs) [] s t r one alike f = absurd r
renamed_find g (x ∷ xs) (y ∷ ys) s t r one alike f = (
  found_renamed g x.manner y.manner x.cell y.cell x.content y.content s t r.0 r.1 r.2 (asked g x.manner x.cell xs s t alike) f.0,
  renamed_find g xs ys (touched x.manner x.cell x.content s) (touched y.manner y.cell y.content t) r.3 (λ c d p q. one c d (more c p) (more d q)) alike' f.1,
)
  where
    more : (c : Cell) → touched_by xs c ≡ true → touched_by (x ∷ xs) c ≡ true
    more c h = or_right (has_cell x.manner && same_cell x.cell c) (touched_by xs c) h

    head : (m : Manner) → is_write m ≡ true → has_cell m && same_cell x.cell x.cell ≡ true
    head writes h = cell_itself x.cell
    head reads h = absurd cc
    head is_told h = absurd cc

    alike' : (c : Cell) → needed_by xs c ≡ true → touched x.manner x.cell x.content s c ≡ touched y.manner y.cell y.content t (g c)
    alike' c h =
        touched_renamed g x.manner y.manner x.cell y.cell x.content y.content s t c r.0 r.1 r.2
        (λ w. one x.cell c (or_left (has_cell x.manner && same_cell x.cell x.cell) (touched_by xs x.cell) (head x.manner w)) (more c (needed_touched xs c h)))
        (λ n. alike c (needed_behind x.manner (same_cell x.cell c) (needed_by xs c) h n))

writes_itself : (m : Manner) (c : Cell) → is_write m ≡ true → is_write m && same_cell c c ≡ true
writes_itself writes c h = cell_itself c
writes_itself reads c h = absurd cc
writes_itself is_told c h = absurd cc

-- renamed touches leave the same, where the stores hold the same before
pub renamed_alike : (g : Cell → Cell) (xs ys : List Touch) (s t : Store) (c : Cell) → AreRenamed g xs ys → ((d : Cell) → written_by xs d ≡ true → g d ≡ g c → d ≡ c) → s c ≡ t (g c) → store_behind xs s c ≡ store_behind ys t (g c)
renamed_alike g [] [] s t c r free alike = alike
renamed_alike g [] (y ∷ ys) s t c r free alike = absurd r
renamed_alike g (x ∷ xs) [] s t c r free alike = absurd r
renamed_alike g (x ∷ xs) (y ∷ ys) s t c r free alike =
    renamed_alike g xs ys (touched x.manner x.cell x.content s) (touched y.manner y.cell y.content t) c r.3
    (λ d h. free d (or_right (writes_to x d) (written_by xs d) h))
    (touched_renamed g x.manner y.manner x.cell y.cell x.content y.content s t c r.0 r.1 r.2
    (λ w. free x.cell (or_left (writes_to x x.cell) (written_by xs x.cell) (writes_itself x.manner x.cell w)))
    (λ n. alike))

-- and where they write
pub renamed_written : (g : Cell → Cell) (xs ys : List Touch) (s t : Store) (c : Cell) → AreRenamed g xs ys → ((d : Cell) → written_by xs d ≡ true → g d ≡ g c → d ≡ c) → written_by xs c ≡ true → store_behind xs s c ≡ store_behind ys t (g c)
renamed_written g [] [] s t c r free h = absurd cc
renamed_written g [] (y ∷ ys) s t c r free h = absurd r
renamed_written g (x ∷ xs) [] s t c r free h = absurd r
renamed_written g (x ∷ xs) (y ∷ ys) s t c r free h = elim (or_either (writes_to x c) (written_by xs c) h) [
  | inl p ↦ renamed_alike g xs ys (touched x.manner x.cell x.content s) (touched y.manner y.cell y.content t) c r.3
      (λ d k. free d (or_right (writes_to x d) (written_by xs d) k))
      (touched_renamed g x.manner y.manner x.cell y.cell x.content y.content s t c r.0 r.1 r.2
      (λ w. free x.cell (or_left (writes_to x x.cell) (written_by xs x.cell) (writes_itself x.manner x.cell w)))
      (λ n. absurd (both_ways (writes_to x c) n p)))
  | inr q ↦ renamed_written g xs ys (touched x.manner x.cell x.content s) (touched y.manner y.cell y.content t) c r.3
      (λ d k. free d (or_right (writes_to x d) (written_by xs d) k)) q
]

-- a cell that isn't written keeps its content
pub behind_other : (ts : List Touch) (s : Store) (c : Cell) → written_by ts c ≡ false → store_behind ts s c ≡ s c
behind_other [] s c h = refl
behind_other (t ∷ ts) s c h =
    let p = or_parts (writes_to t c) (written_by ts c) h in
    behind_other ts (touched t.manner t.cell t.content s) c p.1 ∙ touched_other t.manner t.cell t.content s c p.0

-- a cell that is written has a cell of the old touches
renamed_from : (g : Cell → Cell) (xs ys : List Touch) (d : Cell) → AreRenamed g xs ys → written_by ys d ≡ true → (c : Cell) × (written_by xs c ≡ true) × (g c ≡ d)
renamed_from g [] [] d r h = absurd cc
renamed_from g [] (y ∷ ys) d r h = absurd r
renamed_from g (x ∷ xs) [] d r h = absurd r
renamed_from g (x ∷ xs) (y ∷ ys) d r h = elim (or_either (writes_to y d) (written_by ys d) h) [
  | inl p ↦ head p
  | inr q ↦ let k = renamed_from g xs ys d r.3 q in (k.0, or_right (writes_to x k.0) (written_by xs k.0) k.1, k.2)
]
  where
    head : writes_to y d ≡ true → (c : Cell) × (written_by (x ∷ xs) c ≡ true) × (g c ≡ d)
    head p =
        let q = and_parts (is_write y.manner) (same_cell y.cell d) p in
        let w : is_write x.manner ≡ true = ap is_write r.0 ∙ q.0 in
        (x.cell, or_left (writes_to x x.cell) (written_by xs x.cell) (writes_itself x.manner x.cell w), sym r.2 ∙ cell_is y.cell d q.1)

pub renamed_other : (g : Cell → Cell) (xs ys : List Touch) (t : Store) (d : Cell) → AreRenamed g xs ys → ((c : Cell) → written_by xs c ≡ true → g c ≡ d → ⊥) → store_behind ys t d ≡ t d
renamed_other g xs ys t d r none = behind_other ys t d (go (written_by ys d) refl)
  where
    go : (b : Bool) → written_by ys d ≡ b → written_by ys d ≡ false
    go false p = p
    go true p = let k = renamed_from g xs ys d r p in absurd (none k.0 k.1 k.2)

-- of acts
pub renamed_fits : (g : Cell → Cell) (acts others : List Act) (s t : Store) → Renamed g acts others → IsOneToOne g acts → ((c : Cell) → needs acts c ≡ true → s c ≡ t (g c)) → Fits acts s → Fits others t
renamed_fits g acts others s t r one alike f =
    find_fits others t
    (cells_find (touches_of others) t
    (renamed_find g (of_cells (touches_of acts)) (of_cells (touches_of others)) s t r
    (λ c d p q. one c d (sym (touched_cells (touches_of acts) c) ∙ p) (sym (touched_cells (touches_of acts) d) ∙ q))
    (λ c p. alike c (sym (needed_cells (touches_of acts) c) ∙ p))
    (find_cells (touches_of acts) s (fits_find acts s f))))

-- what acts leave in a cell
left_by : (acts : List Act) (s : Store) (c : Cell) → store_after acts s c ≡ store_behind (of_cells (touches_of acts)) s c
left_by acts s c = ap (λ z. z c) (after_is acts s ∙ sym (behind_cells (touches_of acts) s))

pub renamed_leaves : (g : Cell → Cell) (acts others : List Act) (s t : Store) (c : Cell) → Renamed g acts others → IsFree g acts c → (written acts c ≡ true) ⊎ (s c ≡ t (g c)) → store_after acts s c ≡ store_after others t (g c)
renamed_leaves g acts others s t c r free h = left_by acts s c ∙ go h ∙ sym (left_by others t (g c))
  where
    free' : (d : Cell) → written_by (of_cells (touches_of acts)) d ≡ true → g d ≡ g c → d ≡ c
    free' d p = free d (sym (written_cells (touches_of acts) d) ∙ p)

    go : (written acts c ≡ true) ⊎ (s c ≡ t (g c)) → store_behind (of_cells (touches_of acts)) s c ≡ store_behind (of_cells (touches_of others)) t (g c)
    go (inl w) = renamed_written g (of_cells (touches_of acts)) (of_cells (touches_of others)) s t c r free' (written_cells (touches_of acts) c ∙ w)
    go (inr e) = renamed_alike g (of_cells (touches_of acts)) (of_cells (touches_of others)) s t c r free' e

pub renamed_keeps : (g : Cell → Cell) (acts others : List Act) (t : Store) (d : Cell) → Renamed g acts others → ((c : Cell) → written acts c ≡ true → g c ≡ d → ⊥) → store_after others t d ≡ t d
renamed_keeps g acts others t d r none =
    left_by others t d ∙ renamed_other g (of_cells (touches_of acts)) (of_cells (touches_of others)) t d r (λ c p. none c (sym (written_cells (touches_of acts) c) ∙ p))

-- all cells have new names, no two the same
pub all_fit : (g : Cell → Cell) (acts others : List Act) (s t : Store) → Renamed g acts others → ((c d : Cell) → g c ≡ g d → c ≡ d) → ((c : Cell) → s c ≡ t (g c)) → Fits acts s → Fits others t
all_fit g acts others s t r one alike = renamed_fits g acts others s t r (λ c d p q. one c d) (λ c p. alike c)

pub all_leave : (g : Cell → Cell) (acts others : List Act) (s t : Store) → Renamed g acts others → ((c d : Cell) → g c ≡ g d → c ≡ d) → ((c : Cell) → s c ≡ t (g c)) → (c : Cell) → store_after acts s c ≡ store_after others t (g c)
all_leave g acts others s t r one alike c = renamed_leaves g acts others s t c r (λ d p. one d c) (inr (alike c))

-- a cell that acts don't write keeps its content
pub after_other : (acts : List Act) (s : Store) (c : Cell) → written acts c ≡ false → store_after acts s c ≡ s c
after_other acts s c h = ap (λ z. z c) (after_is acts s) ∙ behind_other (touches_of acts) s c h

-- the same touches
pub own_names : (ts : List Touch) → AreRenamed own_name ts ts
own_names [] = tt
own_names (t ∷ ts) = (refl, refl, refl, own_names ts)

-- the same reads and writes by other acts
pub same_fits : (acts others : List Act) (s t : Store) → Renamed own_name acts others → AgreeIn (needs acts) s t → Fits acts s → Fits others t
same_fits acts others s t r agree = renamed_fits own_name acts others s t r (λ c d p q e. e) agree

pub same_leaves : (acts others : List Act) (s t : Store) (c : Cell) → Renamed own_name acts others → (written acts c ≡ true) ⊎ (s c ≡ t c) → store_after acts s c ≡ store_after others t c
same_leaves acts others s t c r h = renamed_leaves own_name acts others s t c r (λ d p e. e) h

pub agreeing_fits : (acts : List Act) (s t : Store) → AgreeIn (needs acts) s t → Fits acts s → Fits acts t
agreeing_fits acts s t agree = same_fits acts acts s t (own_names (of_cells (touches_of acts))) agree

pub agreeing_leaves : (acts : List Act) (s t : Store) (c : Cell) → (written acts c ≡ true) ⊎ (s c ≡ t c) → store_after acts s c ≡ store_after acts t c
agreeing_leaves acts s t c h = same_leaves acts acts s t c (own_names (of_cells (touches_of acts))) h

-- one cell with a new name
named : (c d x : Cell) → same_cell c x ≡ true → in_place_of c d x ≡ d
named c d x h = rw h refl

unnamed : (c d x : Cell) → same_cell c x ≡ false → in_place_of c d x ≡ x
unnamed c d x h = rw h refl

one_free : (c d : Cell) (test : Cell → Bool) → test d ≡ false → (x y : Cell) → test x ≡ true → test y ≡ true → in_place_of c d x ≡ in_place_of c d y → x ≡ y
one_free c d test fresh x y p q e = go (same_cell c x) (same_cell c y) refl refl
  where
    never : (z : Cell) → test z ≡ true → d ≡ z → ⊥
    never z r k = both_ways (test d) fresh (ap test k ∙ r)

    go : (a b : Bool) → same_cell c x ≡ a → same_cell c y ≡ b → x ≡ y
    go true true h k = sym (cell_is c x h) ∙ cell_is c y k
    go true false h k = absurd (never y q (sym (named c d x h) ∙ e ∙ unnamed c d y k))
    go false true h k = absurd (never x p (sym (named c d y k) ∙ sym e ∙ unnamed c d x h))
    go false false h k = sym (unnamed c d x h) ∙ e ∙ unnamed c d y k

pub one_fits : (c d : Cell) (acts others : List Act) (s t : Store) → Renamed (in_place_of c d) acts others → needs acts c ≡ false → touch acts d ≡ false → AgreeIn (needs acts) s t → Fits acts s → Fits others t
one_fits c d acts others s t r unneeded fresh agree = renamed_fits (in_place_of c d) acts others s t r (one_free c d (touch acts) fresh) alike
  where
    alike : (x : Cell) → needs acts x ≡ true → s x ≡ t (in_place_of c d x)
    alike x h = agree x h ∙ ap t (sym (unnamed c d x (other_cell c x (λ e. both_ways (needs acts c) unneeded (ap (needs acts) e ∙ h)))))

-- a fresh cell isn't written
fresh_unwritten : (acts : List Act) (d x : Cell) → touch acts d ≡ false → written acts x ≡ true → d ≡ x → ⊥
fresh_unwritten acts d x fresh h e = both_ways (touch acts d) fresh (ap (touch acts) e ∙ written_touched (touches_of acts) x h)

-- the new cell gets what the acts write to the old one
pub one_moves : (c d : Cell) (acts others : List Act) (s t : Store) → Renamed (in_place_of c d) acts others → touch acts d ≡ false → written acts c ≡ true → store_after acts s c ≡ store_after others t d
one_moves c d acts others s t r fresh h =
    renamed_leaves (in_place_of c d) acts others s t c r
    (λ x w e. one_free c d (touch acts) fresh x c (written_touched (touches_of acts) x w) (written_touched (touches_of acts) c h) e) (inl h)
    ∙ ap (store_after others t) (named c d c (cell_itself c))

-- the others get what the acts write to them
pub one_leaves : (c d : Cell) (acts others : List Act) (s t : Store) (x : Cell) → Renamed (in_place_of c d) acts others → touch acts d ≡ false → same_cell c x ≡ false → same_cell d x ≡ false → (written acts x ≡ true) ⊎ (s x ≡ t x) → store_after acts s x ≡ store_after others t x
one_leaves c d acts others s t x r fresh n m h =
    renamed_leaves (in_place_of c d) acts others s t x r free (elim h [ inl w ↦ inl w | inr e ↦ inr (e ∙ ap t (sym (unnamed c d x n))) ])
    ∙ ap (store_after others t) (unnamed c d x n)
  where
    free : IsFree (in_place_of c d) acts x
    free y w e = go (same_cell c y) refl
      where
        go : (b : Bool) → same_cell c y ≡ b → y ≡ x
        go true p = absurd (cells_differ d x m (sym (named c d y p) ∙ e ∙ unnamed c d x n))
        go false p = sym (unnamed c d y p) ∙ e ∙ unnamed c d x n

-- the old cell keeps its content
pub one_keeps : (c d : Cell) (acts others : List Act) (t : Store) → Renamed (in_place_of c d) acts others → touch acts d ≡ false → store_after others t c ≡ t c
one_keeps c d acts others t r fresh = renamed_keeps (in_place_of c d) acts others t c r none
  where
    none : (x : Cell) → written acts x ≡ true → in_place_of c d x ≡ c → ⊥
    none x w e = go (same_cell c x) refl
      where
        go : (b : Bool) → same_cell c x ≡ b → ⊥
        go true p = fresh_unwritten acts d x fresh w (sym (named c d x p) ∙ e ∙ cell_is c x p)
        go false p = cells_differ c x p (sym e ∙ unnamed c d x p)

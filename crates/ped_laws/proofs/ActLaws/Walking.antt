-- Lists that go side by side.
use Rattle.std.proofs.Common.{◌≡◌, List, [], ◌∷◌, Bool, true, false, refl, sym, ap, subst, ◌∙◌}
use Rattle.std.specs.Bool.{MatchBool}
use Rattle.ped_eval.specs.ped_store.specs.Cells.{Cell}
use Rattle.ped_eval.specs.ped_store.specs.Stores.{Content, Store}
use Rattle.ped_eval.specs.ped_store.specs.Acts.{Manner, reads, writes, is_told, Touch, Act, touched, store_behind}
use Rattle.ped_laws.specs.Acts.Fitting.{IsFound, Find, Fits, store_after, touches_of, has_cell, of_cells}
use Rattle.ped_laws.specs.Acts.Sets.{writes_to}
use Rattle.ped_laws.specs.Acts.Walks.{Stride, both, old_alone, new_alone, olds, news, in_step, SameSource, new_store, OfReads, SideBySide, walked}
use Rattle.ped_laws.proofs.ActLaws.OfCells.{stays_first, goes_first, find_cells, cells_find, behind_cells}
use Rattle.ped_laws.proofs.ActLaws.Stores.{touched_same, touched_other, after_is, fits_find, find_fits}

-- the stores at this moment hold the same where the source is one
abbrev Alike : List Stride → Store → Store → Store → Store → Type 0
Alike before s t u v = (c d : Cell) → SameSource before s t c d → u c ≡ v d

both_alike : (before : List Stride) (s t u v : Store) (x y : Touch) → x.content ≡ y.content → Alike before s t u v → Alike (both x y ∷ before) s t (touched x.manner x.cell x.content u) (touched y.manner y.cell y.content v)
both_alike before s t u v x y e h c d = go (writes_to x c) refl
  where
    go : (b : Bool) → writes_to x c ≡ b → MatchBool b (writes_to y d ≡ true) ((writes_to y d ≡ false) × SameSource before s t c d) → touched x.manner x.cell x.content u c ≡ touched y.manner y.cell y.content v d
    go true p m = touched_same x.manner x.cell x.content u c p ∙ e ∙ sym (touched_same y.manner y.cell y.content v d m)
    go false p m = touched_other x.manner x.cell x.content u c p ∙ h c d m.1 ∙ sym (touched_other y.manner y.cell y.content v d m.0)

old_alike : (before : List Stride) (s t u v : Store) (x : Touch) → Alike before s t u v → Alike (old_alone x ∷ before) s t (touched x.manner x.cell x.content u) v
old_alike before s t u v x h c d m = touched_other x.manner x.cell x.content u c m.0 ∙ h c d m.1

new_alike : (before : List Stride) (s t u v : Store) (y : Touch) → Alike before s t u v → Alike (new_alone y ∷ before) s t u (touched y.manner y.cell y.content v)
new_alike before s t u v y h c d m = h c d m.1 ∙ sym (touched_other y.manner y.cell y.content v d m.0)

both_found : (m n : Manner) (c d : Cell) (v w : Content) (s t : Store) (asked : Type 0) → m ≡ n → v ≡ w → OfReads m asked → (asked → s c ≡ t d) → IsFound m c v s → IsFound n d w t
both_found m n c d v w s t asked p q a h f = subst (λ z. IsFound z d w t) p (go m a f)
  where
    go : (m : Manner) → OfReads m asked → IsFound m c v s → IsFound m d w t
    go reads a f = sym (h a) ∙ f ∙ q
    go writes a f = tt
    go is_told a f = tt

walk_find : (w before : List Stride) (s t u v : Store) → SideBySide before w s t → Alike before s t u v → v ≡ new_store before t → Find (olds w) u → Find (news w) v
walk_find [] before s t u v k h e f = tt
walk_find (both x y ∷ w) before s t u v k h e f = (
  both_found x.manner y.manner x.cell y.cell x.content y.content u v (SameSource before s t x.cell y.cell) k.0.0 k.0.1 k.0.2 (h x.cell y.cell) f.0,
  walk_find w (both x y ∷ before) s t (touched x.manner x.cell x.content u) (touched y.manner y.cell y.content v) k.1 (both_alike before s t u v x y k.0.1 h) (ap (touched y.manner y.cell y.content) e) f.1,
)
walk_find (old_alone x ∷ w) before s t u v k h e f =
    walk_find w (old_alone x ∷ before) s t (touched x.manner x.cell x.content u) v k.1 (old_alike before s t u v x h) e f.1
walk_find (new_alone y ∷ w) before s t u v k h e f = (
  subst (IsFound y.manner y.cell y.content) (sym e) k.0,
  walk_find w (new_alone y ∷ before) s t u (touched y.manner y.cell y.content v) k.1 (new_alike before s t u v y h) (ap (touched y.manner y.cell y.content) e) f,
)

walk_behind : (w before : List Stride) (s t u v : Store) → SideBySide before w s t → Alike before s t u v → Alike (walked before w) s t (store_behind (olds w) u) (store_behind (news w) v)
walk_behind [] before s t u v k h = h
walk_behind (both x y ∷ w) before s t u v k h =
    walk_behind w (both x y ∷ before) s t (touched x.manner x.cell x.content u) (touched y.manner y.cell y.content v) k.1 (both_alike before s t u v x y k.0.1 h)
walk_behind (old_alone x ∷ w) before s t u v k h = walk_behind w (old_alone x ∷ before) s t (touched x.manner x.cell x.content u) v k.1 (old_alike before s t u v x h)
walk_behind (new_alone y ∷ w) before s t u v k h = walk_behind w (new_alone y ∷ before) s t u (touched y.manner y.cell y.content v) k.1 (new_alike before s t u v y h)

pub beside_fits : (w : List Stride) (acts others : List Act) (s t : Store) → of_cells (touches_of acts) ≡ of_cells (olds w) → of_cells (touches_of others) ≡ of_cells (news w) → SideBySide [] w s t → Fits acts s → Fits others t
beside_fits w acts others s t a b k f =
    let f' = cells_find (olds w) s (subst (λ z. Find z s) a (find_cells (touches_of acts) s (fits_find acts s f))) in
    let g = find_cells (news w) t (walk_find w [] s t s t k (λ c d e. e) refl f') in
    find_fits others t (cells_find (touches_of others) t (subst (λ z. Find z t) (sym b) g))

-- what acts leave in a cell, by their reads and writes
left_by : (acts : List Act) (ts : List Touch) (s : Store) (c : Cell) → of_cells (touches_of acts) ≡ of_cells ts → store_after acts s c ≡ store_behind ts s c
left_by acts ts s c a = ap (λ z. z c) (after_is acts s ∙ sym (behind_cells (touches_of acts) s)) ∙ ap (λ z. store_behind z s c) a ∙ ap (λ z. z c) (behind_cells ts s)

pub beside_leaves : (w : List Stride) (acts others : List Act) (s t : Store) → of_cells (touches_of acts) ≡ of_cells (olds w) → of_cells (touches_of others) ≡ of_cells (news w) → SideBySide [] w s t → (c d : Cell) → SameSource (walked [] w) s t c d → store_after acts s c ≡ store_after others t d
beside_leaves w acts others s t a b k c d e = left_by acts (olds w) s c a ∙ walk_behind w [] s t s t k (λ c d e. e) c d e ∙ sym (left_by others (news w) t d b)

-- touches that meet one by one
pub olds_in_step : (xs ys : List Touch) → olds (in_step xs ys) ≡ xs
olds_in_step [] [] = refl
olds_in_step [] (y ∷ ys) = olds_in_step [] ys
olds_in_step (x ∷ xs) [] = ap (λ z. x ∷ z) (olds_in_step xs [])
olds_in_step (x ∷ xs) (y ∷ ys) = ap (λ z. x ∷ z) (olds_in_step xs ys)

pub news_in_step : (xs ys : List Touch) → news (in_step xs ys) ≡ ys
news_in_step [] [] = refl
news_in_step [] (y ∷ ys) = ap (λ z. y ∷ z) (news_in_step [] ys)
news_in_step (x ∷ xs) [] = news_in_step xs []
news_in_step (x ∷ xs) (y ∷ ys) = ap (λ z. y ∷ z) (news_in_step xs ys)

-- the same reads and writes, told values aside
no_told : (ts : List Touch) → of_cells (of_cells ts) ≡ of_cells ts
no_told [] = refl
no_told (x ∷ xs) = go (no_told xs) (has_cell x.manner) refl
  where
    go : of_cells (of_cells xs) ≡ of_cells xs → (b : Bool) → has_cell x.manner ≡ b → of_cells (of_cells (x ∷ xs)) ≡ of_cells (x ∷ xs)
    go more true h = ap of_cells (stays_first x xs h) ∙ stays_first x (of_cells xs) h ∙ ap (λ z. x ∷ z) more ∙ sym (stays_first x xs h)
    go more false h = ap of_cells (goes_first x xs h) ∙ more ∙ sym (goes_first x xs h)

-- the walk in which the reads and writes of two lists of acts meet one by one
abbrev meeting : List Act → List Act → List Stride
meeting acts others = in_step (of_cells (touches_of acts)) (of_cells (touches_of others))

pub meeting_fits : (acts others : List Act) (s t : Store) → SideBySide [] (meeting acts others) s t → Fits acts s → Fits others t
meeting_fits acts others s t =
    beside_fits (meeting acts others) acts others s t
    (sym (ap of_cells (olds_in_step (of_cells (touches_of acts)) (of_cells (touches_of others))) ∙ no_told (touches_of acts)))
    (sym (ap of_cells (news_in_step (of_cells (touches_of acts)) (of_cells (touches_of others))) ∙ no_told (touches_of others)))

pub meeting_leaves : (acts others : List Act) (s t : Store) → SideBySide [] (meeting acts others) s t → (c d : Cell) → SameSource (walked [] (meeting acts others)) s t c d → store_after acts s c ≡ store_after others t d
meeting_leaves acts others s t =
    beside_leaves (meeting acts others) acts others s t
    (sym (ap of_cells (olds_in_step (of_cells (touches_of acts)) (of_cells (touches_of others))) ∙ no_told (touches_of acts)))
    (sym (ap of_cells (news_in_step (of_cells (touches_of acts)) (of_cells (touches_of others))) ∙ no_told (touches_of others)))

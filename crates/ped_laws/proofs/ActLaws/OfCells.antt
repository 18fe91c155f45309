-- Values that the place tells don't count.
use Rattle.std.proofs.Common.{◌≡◌, List, [], ◌∷◌, ◌++◌, Bool, true, false, ◌&&◌, ◌||◌, refl, sym, ap, subst, ◌∙◌}
use Rattle.std.specs.Prelude.{if◌then◌else◌}
use Rattle.ped_eval.specs.ped_store.specs.Cells.{Cell, same_cell}
use Rattle.ped_eval.specs.ped_store.specs.Stores.{Content, Store}
use Rattle.ped_eval.specs.ped_store.specs.Acts.{Manner, reads, writes, is_told, Touch, touched, store_behind}
use Rattle.ped_eval.specs.ped_store.specs.Races.{is_write}
use Rattle.ped_laws.specs.Acts.Fitting.{IsFound, Find, has_cell, of_cells}
use Rattle.ped_laws.specs.Acts.Sets.{writes_to, written_by, read_first, needed_by}
use Rattle.ped_laws.specs.Acts.Renaming.{touched_by}

-- the first touch stays, or goes
pub stays_first : (t : Touch) (ts : List Touch) → has_cell t.manner ≡ true → of_cells (t ∷ ts) ≡ t ∷ of_cells ts
stays_first t ts h = rw h refl

pub goes_first : (t : Touch) (ts : List Touch) → has_cell t.manner ≡ false → of_cells (t ∷ ts) ≡ of_cells ts
goes_first t ts h = rw h refl

-- a value that the place tells does nothing
told_touched : (m : Manner) (c : Cell) (v : Content) (s : Store) → has_cell m ≡ false → touched m c v s ≡ s
told_touched reads c v s h = absurd cc
told_touched writes c v s h = absurd cc
told_touched is_told c v s h = refl

told_found : (m : Manner) (c : Cell) (v : Content) (s : Store) → has_cell m ≡ false → IsFound m c v s
told_found reads c v s h = absurd cc
told_found writes c v s h = absurd cc
told_found is_told c v s h = tt

told_written : (m : Manner) (same rest : Bool) → has_cell m ≡ false → (is_write m && same) || rest ≡ rest
told_written reads same rest h = absurd cc
told_written writes same rest h = absurd cc
told_written is_told same rest h = refl

told_touches : (m : Manner) (same rest : Bool) → has_cell m ≡ false → (has_cell m && same) || rest ≡ rest
told_touches m same rest h = rw h refl

told_needed : (m : Manner) (same rest : Bool) → has_cell m ≡ false → (if same then read_first m rest else rest) ≡ rest
told_needed reads same rest h = absurd cc
told_needed writes same rest h = absurd cc
told_needed is_told true rest h = refl
told_needed is_told false rest h = refl

pub find_cells : (ts : List Touch) (s : Store) → Find ts s → Find (of_cells ts) s
find_cells [] s f = tt
find_cells (t ∷ ts) s f = go (find_cells ts (touched t.manner t.cell t.content s) f.1) (has_cell t.manner) refl
  where
    go : Find (of_cells ts) (touched t.manner t.cell t.content s) → (b : Bool) → has_cell t.manner ≡ b → Find (of_cells (t ∷ ts)) s
    go more true h = subst (λ z. Find z s) (sym (stays_first t ts h)) (f.0, more)
    go more false h = subst (λ z. Find z s) (sym (goes_first t ts h)) (subst (Find (of_cells ts)) (told_touched t.manner t.cell t.content s h) more)

pub cells_find : (ts : List Touch) (s : Store) → Find (of_cells ts) s → Find ts s
cells_find [] s f = tt
cells_find (t ∷ ts) s f = go (cells_find ts (touched t.manner t.cell t.content s)) (has_cell t.manner) refl
  where
    go : (Find (of_cells ts) (touched t.manner t.cell t.content s) → Find ts (touched t.manner t.cell t.content s)) → (b : Bool) → has_cell t.manner ≡ b → Find (t ∷ ts) s
    go more true h = let g = subst (λ z. Find z s) (stays_first t ts h) f in (g.0, more g.1)
    go more false h =
        let g = subst (λ z. Find z s) (goes_first t ts h) f in
        (told_found t.manner t.cell t.content s h, more (subst (Find (of_cells ts)) (sym (told_touched t.manner t.cell t.content s h)) g))

pub behind_cells : (ts : List Touch) (s : Store) → store_behind (of_cells ts) s ≡ store_behind ts s
behind_cells [] s = refl
behind_cells (t ∷ ts) s = go (behind_cells ts (touched t.manner t.cell t.content s)) (has_cell t.manner) refl
  where
    go : store_behind (of_cells ts) (touched t.manner t.cell t.content s) ≡ store_behind ts (touched t.manner t.cell t.content s) → (b : Bool) → has_cell t.manner ≡ b → store_behind (of_cells (t ∷ ts)) s ≡ store_behind (t ∷ ts) s
    go more true h = ap (λ z. store_behind z s) (stays_first t ts h) ∙ more
    go more false h = ap (λ z. store_behind z s) (goes_first t ts h) ∙ ap (store_behind (of_cells ts)) (sym (told_touched t.manner t.cell t.content s h)) ∙ more

pub written_cells : (ts : List Touch) (c : Cell) → written_by (of_cells ts) c ≡ written_by ts c
written_cells [] c = refl
written_cells (t ∷ ts) c = go (written_cells ts c) (has_cell t.manner) refl
  where
    go : written_by (of_cells ts) c ≡ written_by ts c → (b : Bool) → has_cell t.manner ≡ b → written_by (of_cells (t ∷ ts)) c ≡ written_by (t ∷ ts) c
    go more true h = ap (λ z. written_by z c) (stays_first t ts h) ∙ ap (λ b. writes_to t c || b) more
    go more false h = ap (λ z. written_by z c) (goes_first t ts h) ∙ more ∙ sym (told_written t.manner (same_cell t.cell c) (written_by ts c) h)

pub touched_cells : (ts : List Touch) (c : Cell) → touched_by (of_cells ts) c ≡ touched_by ts c
touched_cells [] c = refl
touched_cells (t ∷ ts) c = go (touched_cells ts c) (has_cell t.manner) refl
  where
    go : touched_by (of_cells ts) c ≡ touched_by ts c → (b : Bool) → has_cell t.manner ≡ b → touched_by (of_cells (t ∷ ts)) c ≡ touched_by (t ∷ ts) c
    go more true h = ap (λ z. touched_by z c) (stays_first t ts h) ∙ ap (λ b. (has_cell t.manner && same_cell t.cell c) || b) more
    go more false h = ap (λ z. touched_by z c) (goes_first t ts h) ∙ more ∙ sym (told_touches t.manner (same_cell t.cell c) (touched_by ts c) h)

pub needed_cells : (ts : List Touch) (c : Cell) → needed_by (of_cells ts) c ≡ needed_by ts c
needed_cells [] c = refl
needed_cells (t ∷ ts) c = go (needed_cells ts c) (has_cell t.manner) refl
  where
    go : needed_by (of_cells ts) c ≡ needed_by ts c → (b : Bool) → has_cell t.manner ≡ b → needed_by (of_cells (t ∷ ts)) c ≡ needed_by (t ∷ ts) c
    go more true h = ap (λ z. needed_by z c) (stays_first t ts h) ∙ ap (λ b. if same_cell t.cell c then read_first t.manner b else b) more
    go more false h = ap (λ z. needed_by z c) (goes_first t ts h) ∙ more ∙ sym (told_needed t.manner (same_cell t.cell c) (needed_by ts c) h)

pub cells_append : (xs ys : List Touch) → of_cells (xs ++ ys) ≡ of_cells xs ++ of_cells ys
cells_append [] ys = refl
cells_append (x ∷ xs) ys = go (cells_append xs ys) (has_cell x.manner) refl
  where
    go : of_cells (xs ++ ys) ≡ of_cells xs ++ of_cells ys → (b : Bool) → has_cell x.manner ≡ b → of_cells (x ∷ (xs ++ ys)) ≡ of_cells (x ∷ xs) ++ of_cells ys
    go more true h = stays_first x (xs ++ ys) h ∙ ap (λ z. x ∷ z) more ∙ ap (λ z. z ++ of_cells ys) (sym (stays_first x xs h))
    go more false h = goes_first x (xs ++ ys) h ∙ more ∙ ap (λ z. z ++ of_cells ys) (sym (goes_first x xs h))

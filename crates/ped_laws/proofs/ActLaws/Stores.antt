-- Stores behind touches.
use Rattle.std.proofs.Common.{◌≡◌, List, [], ◌∷◌, ◌++◌, Bool, true, false, ◌&&◌, refl, sym, subst, ◌∙◌}
use mathlib.Core.Path.{fun_ext}
use Rattle.ped_eval.specs.ped_store.specs.Cells.{Cell, same_cell}
use Rattle.ped_eval.specs.ped_store.specs.Stores.{Content, Store, put}
use Rattle.ped_eval.specs.ped_store.specs.Acts.{Manner, reads, writes, is_told, Touch, Act, touched, store_behind}
use Rattle.ped_eval.specs.ped_store.specs.Races.{is_write}
use Rattle.ped_laws.specs.Acts.Fitting.{Find, Fits, store_after, touches_of}
use Rattle.ped_laws.proofs.ActLaws.SameCells.{cell_is}

-- the cell that is written holds what is written
pub put_same : (c : Cell) (v : Content) (s : Store) (d : Cell) → same_cell c d ≡ true → put c v s d ≡ v
put_same c v s d h = rw h refl

-- a cell that isn't written keeps its content
pub put_other : (c : Cell) (v : Content) (s : Store) (d : Cell) → same_cell c d ≡ false → put c v s d ≡ s d
put_other c v s d h = rw h refl

-- writes of two cells in either order
pub put_swap : (c d : Cell) (v w : Content) (s : Store) → same_cell c d ≡ false → put c v (put d w s) ≡ put d w (put c v s)
put_swap c d v w s h = fun_ext λ e. go e (same_cell c e) (same_cell d e) refl refl
  where
    go : (e : Cell) (x y : Bool) → same_cell c e ≡ x → same_cell d e ≡ y → put c v (put d w s) e ≡ put d w (put c v s) e
    go e true true p q =
        let f : same_cell c d ≡ true = subst (λ (z : Cell). same_cell c z ≡ true) (sym (cell_is d e q)) p in
        let k : true ≡ false = sym f ∙ h in
        absurd cc
    go e true false p q = rw (p, q) refl
    go e false true p q = rw (p, q) refl
    go e false false p q = rw (p, q) refl

-- a touch that writes the cell leaves its content there
pub touched_same : (m : Manner) (c : Cell) (v : Content) (s : Store) (d : Cell) → is_write m && same_cell c d ≡ true → touched m c v s d ≡ v
touched_same writes c v s d h = put_same c v s d h
touched_same reads c v s d h = absurd cc
touched_same is_told c v s d h = absurd cc

-- any other touch leaves the cell as it was
pub touched_other : (m : Manner) (c : Cell) (v : Content) (s : Store) (d : Cell) → is_write m && same_cell c d ≡ false → touched m c v s d ≡ s d
touched_other writes c v s d h = put_other c v s d h
touched_other reads c v s d h = refl
touched_other is_told c v s d h = refl

-- touches and then others
pub behind_append : (xs ys : List Touch) (s : Store) → store_behind (xs ++ ys) s ≡ store_behind ys (store_behind xs s)
behind_append [] ys s = refl
behind_append (x ∷ xs) ys s = behind_append xs ys (touched x.manner x.cell x.content s)

pub find_append : (xs ys : List Touch) (s : Store) → Find xs s → Find ys (store_behind xs s) → Find (xs ++ ys) s
find_append [] ys s f g = g
find_append (x ∷ xs) ys s f g = (f.0, find_append xs ys (touched x.manner x.cell x.content s) f.1 g)

pub find_first : (xs ys : List Touch) (s : Store) → Find (xs ++ ys) s → Find xs s
find_first [] ys s f = tt
find_first (x ∷ xs) ys s f = (f.0, find_first xs ys (touched x.manner x.cell x.content s) f.1)

pub find_rest : (xs ys : List Touch) (s : Store) → Find (xs ++ ys) s → Find ys (store_behind xs s)
find_rest [] ys s f = f
find_rest (x ∷ xs) ys s f = find_rest xs ys (touched x.manner x.cell x.content s) f.1

-- acts are their touches
pub after_is : (acts : List Act) (s : Store) → store_after acts s ≡ store_behind (touches_of acts) s
after_is [] s = refl
after_is (a ∷ acts) s = after_is acts (store_behind a.touches s) ∙ sym (behind_append a.touches (touches_of acts) s)

pub fits_find : (acts : List Act) (s : Store) → Fits acts s → Find (touches_of acts) s
fits_find [] s f = tt
fits_find (a ∷ acts) s f = find_append a.touches (touches_of acts) s f.0 (fits_find acts (store_behind a.touches s) f.1)

pub find_fits : (acts : List Act) (s : Store) → Find (touches_of acts) s → Fits acts s
find_fits [] s f = tt
find_fits (a ∷ acts) s f =
    (find_first a.touches (touches_of acts) s f, find_fits acts (store_behind a.touches s) (find_rest a.touches (touches_of acts) s f))

-- acts and then others
pub after_append : (xs ys : List Act) (s : Store) → store_after (xs ++ ys) s ≡ store_after ys (store_after xs s)
after_append [] ys s = refl
after_append (x ∷ xs) ys s = after_append xs ys (store_behind x.touches s)

pub fits_append : (xs ys : List Act) (s : Store) → Fits xs s → Fits ys (store_after xs s) → Fits (xs ++ ys) s
fits_append [] ys s f g = g
fits_append (x ∷ xs) ys s f g = (f.0, fits_append xs ys (store_behind x.touches s) f.1 g)

pub fits_first : (xs ys : List Act) (s : Store) → Fits (xs ++ ys) s → Fits xs s
fits_first [] ys s f = tt
fits_first (x ∷ xs) ys s f = (f.0, fits_first xs ys (store_behind x.touches s) f.1)

pub fits_rest : (xs ys : List Act) (s : Store) → Fits (xs ++ ys) s → Fits ys (store_after xs s)
fits_rest [] ys s f = f
fits_rest (x ∷ xs) ys s f = fits_rest xs ys (store_behind x.touches s) f.1

-- Touches that don't clash may change places.
use Rattle.std.proofs.Common.{◌≡◌, List, [], ◌∷◌, Bool, true, false, ◌&&◌, refl, sym, ap, subst, ◌∙◌}
use Rattle.std.specs.List.{list_any}
use Rattle.std.proofs.lemmas.Bool.{or_parts}
use Rattle.ped_eval.specs.ped_store.specs.Cells.{Cell, same_cell}
use Rattle.ped_eval.specs.ped_store.specs.Stores.{Content, Store}
use Rattle.ped_eval.specs.ped_store.specs.Acts.{Manner, reads, writes, is_told, Touch, touched, store_behind}
use Rattle.ped_laws.specs.Acts.Fitting.{IsFound, Find}
use Rattle.ped_laws.specs.Acts.Conflicts.{manners_clash, clash, some_clash}
use Rattle.ped_laws.proofs.ActLaws.SameCells.{cell_flip}
use Rattle.ped_laws.proofs.ActLaws.Stores.{put_other, put_swap}

and_true : (b : Bool) → b && true ≡ false → b ≡ false
and_true true h = h
and_true false h = refl

-- a write of another cell doesn't disturb what is found
found_back : (m n : Manner) (c d : Cell) (v w : Content) (s : Store) → same_cell c d && manners_clash m n ≡ false → IsFound n d w (touched m c v s) → IsFound n d w s
found_back reads n c d v w s h f = f
found_back is_told n c d v w s h f = f
found_back writes reads c d v w s h f = sym (put_other c v s d (and_true _ h)) ∙ f
found_back writes writes c d v w s h f = tt
found_back writes is_told c d v w s h f = tt

-- a read isn't disturbed by a later write of another cell
kept_past : (m n : Manner) (c d : Cell) (v w : Content) (s : Store) → same_cell c d && manners_clash m n ≡ false → IsFound m c v s → IsFound m c v (touched n d w s)
kept_past m reads c d v w s h f = f
kept_past m is_told c d v w s h f = f
kept_past reads writes c d v w s h f = put_other d w s c (cell_flip d c ∙ and_true _ h) ∙ f
kept_past writes writes c d v w s h f = tt
kept_past is_told writes c d v w s h f = tt

touched_swap : (m n : Manner) (c d : Cell) (v w : Content) (s : Store) → same_cell c d && manners_clash m n ≡ false → touched n d w (touched m c v s) ≡ touched m c v (touched n d w s)
touched_swap reads n c d v w s h = refl
touched_swap is_told n c d v w s h = refl
touched_swap writes reads c d v w s h = refl
touched_swap writes is_told c d v w s h = refl
touched_swap writes writes c d v w s h = sym (put_swap c d v w s (and_true _ h))

-- one touch past others
past_behind : (x : Touch) (ys : List Touch) (s : Store) → list_any (clash x) ys ≡ false → store_behind ys (touched x.manner x.cell x.content s) ≡ touched x.manner x.cell x.content (store_behind ys s)
past_behind x [] s h = refl
past_behind x (y ∷ ys) s h =
    let p = or_parts _ _ h in
    ap (store_behind ys) (touched_swap x.manner y.manner x.cell y.cell x.content y.content s p.0) ∙ past_behind x ys (touched y.manner y.cell y.content s) p.1

past_find : (x : Touch) (ys : List Touch) (s : Store) → list_any (clash x) ys ≡ false → Find ys (touched x.manner x.cell x.content s) → Find ys s
past_find x [] s h f = tt
past_find x (y ∷ ys) s h f =
    let p = or_parts _ _ h in (
      found_back x.manner y.manner x.cell y.cell x.content y.content s p.0 f.0,
      past_find x ys (touched y.manner y.cell y.content s) p.1 (subst (Find ys) (touched_swap x.manner y.manner x.cell y.cell x.content y.content s p.0) f.1),
    )

past_found : (x : Touch) (ys : List Touch) (s : Store) → list_any (clash x) ys ≡ false → IsFound x.manner x.cell x.content s → IsFound x.manner x.cell x.content (store_behind ys s)
past_found x [] s h f = f
past_found x (y ∷ ys) s h f =
    let p = or_parts _ _ h in
    past_found x ys (touched y.manner y.cell y.content s) p.1 (kept_past x.manner y.manner x.cell y.cell x.content y.content s p.0 f)

-- touches that don't clash leave the same store in either order
pub swap_behind : (xs ys : List Touch) (s : Store) → some_clash xs ys ≡ false → store_behind ys (store_behind xs s) ≡ store_behind xs (store_behind ys s)
swap_behind [] ys s h = refl
swap_behind (x ∷ xs) ys s h =
    let p = or_parts _ _ h in
    swap_behind xs ys (touched x.manner x.cell x.content s) p.1 ∙ ap (store_behind xs) (past_behind x ys s p.0)

-- the later of two lists that don't clash finds what it reads without the first
pub swap_find : (xs ys : List Touch) (s : Store) → some_clash xs ys ≡ false → Find ys (store_behind xs s) → Find ys s
swap_find [] ys s h g = g
swap_find (x ∷ xs) ys s h g = let p = or_parts _ _ h in past_find x ys s p.0 (swap_find xs ys (touched x.manner x.cell x.content s) p.1 g)

-- and the first finds it behind the later
pub swap_found : (xs ys : List Touch) (s : Store) → some_clash xs ys ≡ false → Find xs s → Find xs (store_behind ys s)
swap_found [] ys s h f = tt
swap_found (x ∷ xs) ys s h f =
    let p = or_parts _ _ h in (
      past_found x ys s p.0 f.0,
      subst (Find xs) (past_behind x ys s p.0) (swap_found xs ys (touched x.manner x.cell x.content s) p.1 f.1),
    )

-- DO 10 I=1,2; T=I; 10 A(I)=T gets PRIVATE T: in each iteration its copy stands for T, and the exit leaves T undefined. T isn't wanted behind the loop.
use Rattle.std.proofs.Common.{◌≡◌, ℕ, List, [], ◌∷◌, Bool, true, false, ◌||◌, refl, ap, inl, inr}
use Rattle.std.specs.Prelude.{not, if◌then◌else◌}
use Rattle.std.proofs.lemmas.Bool.{or_parts, both_ways}
use Rattle.ped_eval.specs.ped_store.specs.Cells.{Cell, same_cell}
use Rattle.ped_eval.specs.ped_store.specs.Stores.{Store}
use Rattle.ped_eval.specs.ped_store.specs.Acts.{did, entered, ended_turn, Act}
use Rattle.ped_laws.specs.Acts.Fitting.{Fits, store_after, touches_of, of_cells}
use Rattle.ped_laws.specs.Acts.Sets.{AgreeIn, AgreeOutside, needs, written}
use Rattle.ped_laws.specs.Acts.Renaming.{Renamed, touch, in_place_of}
use Rattle.ped_laws.specs.Acts.Changes.{stays, PlainChange}
use Rattle.ped_laws.specs.Acts.Pieces.{Piece, old_acts, new_acts, StandsFor, AllStand}
use Rattle.ped_laws.proofs.ActLaws.Renamings.{own_names, one_fits, one_leaves}
use Rattle.ped_laws.proofs.ActLaws.Changing.{changed_fits, changed_leaves, plain_changes}
use Rattle.ped_laws.proofs.ActLaws.Exchanging.{same_stands, pieces_fit, pieces_leave}
use Rattle.ped_laws.proofs.ActLaws.Examples.Checks.{not_is}
use Rattle.ped_laws.proofs.ActLaws.Examples.Lists.{i, t, copy, a, told, read, write, undefines_t, turn, act}

abbrev entry : Act
entry = act (entered 2) 1 [] []

abbrev end_of_first : Act
end_of_first = act (ended_turn 1) 1 [] []

abbrev exit : Act
exit = act (ended_turn 0) 1 [] (write i 3 0 ∷ [])

abbrev new_exit : Act
new_exit = act (ended_turn 0) 1 [] (write i 3 0 ∷ undefines_t ∷ [])

-- iteration k, with T or its copy
abbrev iteration : Cell → ℕ → List Act
iteration x k =
    act did 2 (turn 1 k ∷ []) (told i k 1 ∷ write x k 2 ∷ [])
    ∷ act did 3 (turn 1 k ∷ []) (read x k 1 ∷ told i k 2 ∷ write (a k) k 3 ∷ [])
    ∷ []

-- the stores agree but on T and on its copies
abbrev ours : Cell → Bool
ours x = same_cell t x || (same_cell (copy 1) x || same_cell (copy 2) x)

abbrev agreed : Cell → Bool
agreed x = not (ours x)

abbrev piece : List Act → List Act → Piece
piece old new = record { agreed = agreed; old = old; new = new }

abbrev pieces : List Piece
pieces =
    piece (entry ∷ []) (entry ∷ [])
    ∷ piece (iteration t 1) (iteration (copy 1) 1)
    ∷ piece (end_of_first ∷ []) (end_of_first ∷ [])
    ∷ piece (iteration t 2) (iteration (copy 2) 2)
    ∷ piece (exit ∷ []) (new_exit ∷ [])
    ∷ []

parts : (x : Cell) → agreed x ≡ true → (same_cell t x ≡ false) × (same_cell (copy 1) x ≡ false) × (same_cell (copy 2) x ≡ false)
parts x h =
    let p = or_parts (same_cell t x) (same_cell (copy 1) x || same_cell (copy 2) x) (not_is (ours x) h) in
    let q = or_parts (same_cell (copy 1) x) (same_cell (copy 2) x) p.1 in
    (p.0, q.0, q.1)

-- an iteration needs no cell: T isn't exposed
none_needed : (p q r : Bool) → (if p then (if q then false else (if q then true else (if p then (if r then false else false) else (if r then false else false)))) else (if q then false else (if q then true else (if p then (if r then false else false) else (if r then false else false))))) ≡ false
none_needed true true r = refl
none_needed true false true = refl
none_needed true false false = refl
none_needed false true r = refl
none_needed false false true = refl
none_needed false false false = refl

unneeded : (k : ℕ) (x : Cell) → needs (iteration t k) x ≡ false
unneeded k x = none_needed (same_cell i x) (same_cell t x) (same_cell (a k) x)

-- an iteration with the copy stands for that with T
iterations_stand : (k : ℕ) (s : Store) → ((x : Cell) → agreed x ≡ true → same_cell (copy k) x ≡ false) → touch (iteration t k) (copy k) ≡ false → Fits (iteration t k) s → StandsFor (piece (iteration t k) (iteration (copy k) k)) agreed s
iterations_stand k s apart fresh f u agree = (
  one_fits t (copy k) (iteration t k) (iteration (copy k) k) s u renamed (unneeded k t) fresh (λ x h. absurd (both_ways (needs (iteration t k) x) (unneeded k x) h)) f,
  (λ x h. one_leaves t (copy k) (iteration t k) (iteration (copy k) k) s u x renamed fresh (parts x h).0 (apart x h) (inr (agree x h))),
)
  where
    renamed : Renamed (in_place_of t (copy k)) (iteration t k) (iteration (copy k) k)
    renamed = (refl, refl, refl, (refl, refl, refl, (refl, refl, refl, tt)))

-- entries and ends of iterations stand for themselves
ends_stand : (x : Act) (s : Store) → Fits (x ∷ []) s → ((c : Cell) → needs (x ∷ []) c ≡ true → agreed c ≡ true) → StandsFor (piece (x ∷ []) (x ∷ [])) agreed s
ends_stand x s f h = same_stands (x ∷ []) (x ∷ []) agreed agreed s (own_names (of_cells (touches_of (x ∷ [])))) f h (λ c k. inl k)

-- so does the exit, which leaves T undefined besides
exit_stands : (s : Store) → StandsFor (piece (exit ∷ []) (new_exit ∷ [])) agreed s
exit_stands s u agree = (
  changed_fits ours (stays exit new_exit ∷ []) s u (plain_changes ours (stays exit new_exit ∷ []) s u plain) outside f,
  (λ x h. changed_leaves ours (stays exit new_exit ∷ []) s u (plain_changes ours (stays exit new_exit ∷ []) s u plain) outside f x (not_is (ours x) h)),
)
  where
    plain : PlainChange ours (written (exit ∷ [])) s (stays exit new_exit ∷ [])
    plain = (((tt, tt), (refl, refl, refl, tt)), tt)

    outside : AgreeOutside ours s u
    outside x h = agree x (ap not h)

    f : Fits (exit ∷ []) s
    f = ((tt, tt), tt)

all_stand : (s : Store) → Fits (old_acts pieces) s → AllStand pieces agreed s
all_stand s f = (
  ends_stand entry s (tt, tt) (λ c h. absurd cc),
  (
    iterations_stand 1 s (λ x h. (parts x h).1) refl (f.1.0, (f.1.1.0, tt)),
    (
      ends_stand end_of_first _ (tt, tt) (λ c h. absurd cc),
      (
        iterations_stand 2 _ (λ x h. (parts x h).2) refl (f.1.1.1.1.0, (f.1.1.1.1.1.0, tt)),
        (exit_stands _, tt),
      ),
    ),
  ),
)

-- the loop with PRIVATE T does what the loop did
pub privatised_fits : (s : Store) → Fits (old_acts pieces) s → Fits (new_acts pieces) s
privatised_fits s f = pieces_fit pieces agreed s s (all_stand s f) (λ x h. refl)

pub privatised_leaves : (s : Store) → Fits (old_acts pieces) s → AgreeIn agreed (store_after (old_acts pieces) s) (store_after (new_acts pieces) s)
privatised_leaves s f = pieces_leave pieces agreed s s (all_stand s f) (λ x h. refl)

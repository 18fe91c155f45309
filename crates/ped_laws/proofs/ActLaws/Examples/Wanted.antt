-- DO 10 I=1,2; 10 A(I)=I is reversed, and I has another value behind it: 0 for 3. Then I=5; T=I follow, so that I isn't wanted behind the loop, and A and T are the same at the end.
use Rattle.std.proofs.Common.{◌≡◌, ℕ, List, [], ◌∷◌, ◌++◌, Bool, true, false, ◌||◌, refl, sym, ap, ◌∙◌, inl, inr}
use Rattle.std.proofs.lemmas.Bool.{both_ways}
use Rattle.ped_eval.specs.ped_store.specs.Cells.{Cell, same_cell}
use Rattle.ped_eval.specs.ped_store.specs.Stores.{Store}
use Rattle.ped_eval.specs.ped_store.specs.Acts.{did, entered, ended_turn, Act}
use Rattle.ped_laws.specs.Acts.Fitting.{Fits, store_after}
use Rattle.ped_laws.specs.Acts.Sets.{AgreeIn, written, wants}
use Rattle.ped_laws.specs.Acts.Pieces.{Part, same, changed, old_parts, new_parts, StandsFor, PartsStand}
use Rattle.ped_laws.proofs.ActLaws.SameCells.{cell_is, is_cell}
use Rattle.ped_laws.proofs.ActLaws.Exchanging.{wanted_before, parts_fit, parts_leave}
use Rattle.ped_laws.proofs.ActLaws.Examples.Lists.{i, t, a, told, read, write, turn, act}

abbrev sets_a : ℕ → Act
sets_a k = act did 2 (turn 1 k ∷ []) (told i k 1 ∷ told i k 2 ∷ write (a k) k 3 ∷ [])

-- the loop that leaves this value in I, from one iteration to the other
abbrev loop : ℕ → ℕ → ℕ → List Act
loop first second left =
    act (entered 2) 1 [] []
    ∷ sets_a first
    ∷ act (ended_turn 1) 1 [] []
    ∷ sets_a second
    ∷ act (ended_turn 0) 1 [] (write i left 0 ∷ [])
    ∷ []

abbrev rest : List Act
rest = act did 3 [] (write i 5 1 ∷ []) ∷ act did 4 [] (read i 5 1 ∷ write t 5 2 ∷ []) ∷ []

-- A and T are shown at the end
abbrev shown : Cell → Bool
shown x = same_cell t x || (same_cell (a 1) x || same_cell (a 2) x)

abbrev parts : List Part
parts = changed (loop 1 2 3) (loop 2 1 0) ∷ same rest ∷ []

-- nobody wants I behind the loop
unwanted : wants shown rest i ≡ false
unwanted = refl

-- the loops leave the same where that is wanted
leave_same : (s u : Store) → AgreeIn (wants shown (loop 1 2 3 ++ rest)) s u → AgreeIn (wants shown rest) (store_after (loop 1 2 3) s) (store_after (loop 2 1 0) u)
leave_same s u agree x h = go (same_cell i x) (same_cell (a 1) x) (same_cell (a 2) x) refl refl refl
  where
    go : (p q r : Bool) → same_cell i x ≡ p → same_cell (a 1) x ≡ q → same_cell (a 2) x ≡ r → store_after (loop 1 2 3) s x ≡ store_after (loop 2 1 0) u x
    go true q r e f g = absurd (both_ways (wants shown rest x) (ap (wants shown rest) (sym (cell_is i x e))) h)
    go false true true e f g = absurd (both_ways (same_cell (a 1) (a 2)) refl (is_cell (a 1) (a 2) (cell_is (a 1) x f ∙ sym (cell_is (a 2) x g))))
    go false true false e f g = rw (e, f, g) refl
    go false false true e f g = rw (e, f, g) refl
    go false false false e f g = rw (e, f, g) (elim (wanted_before shown (loop 1 2 3) rest x h) [
      | inl w ↦ agree x w
      | inr w ↦ absurd (both_ways (written (loop 1 2 3) x) (rw (e, f, g) refl) w)
    ])

stands : (s : Store) → StandsFor (record { agreed = wants shown (loop 1 2 3 ++ rest); old = loop 1 2 3; new = loop 2 1 0 }) (wants shown rest) s
stands s u agree = ((tt, ((tt, (tt, (tt, tt))), (tt, ((tt, (tt, (tt, tt))), ((tt, tt), tt))))), leave_same s u agree)

parts_stand : (s : Store) → PartsStand shown parts s
parts_stand s = (stands s, tt)

-- what the program did fits with the loop reversed, and A and T are the same: wanted_parts
reversed_fits : (s : Store) → Fits (old_parts parts) s → Fits (new_parts parts) s
reversed_fits s f = parts_fit shown parts s s (parts_stand s) (λ x h. refl) f

reversed_shows : (s : Store) → Fits (old_parts parts) s → AgreeIn shown (store_after (old_parts parts) s) (store_after (new_parts parts) s)
reversed_shows s f = parts_leave shown parts s s (parts_stand s) (λ x h. refl) f

-- such a run there is: from a store in which nothing was read before it is written
some_run : (s : Store) → Fits (old_parts parts) s
some_run s = (tt, ((tt, (tt, (tt, tt))), (tt, ((tt, (tt, (tt, tt))), ((tt, tt), ((tt, tt), ((refl, (tt, tt)), tt)))))))

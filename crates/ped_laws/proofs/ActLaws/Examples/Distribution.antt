-- DO 10 I=1,2; A(I)=I; 10 B(I)=A(I) is distributed: DO 20 I=1,2; 20 A(I)=I; DO 10 I=1,2; 10 B(I)=A(I).
use Rattle.std.proofs.Common.{◌≡◌, ℕ, List, [], ◌∷◌, Bool, true, false, refl, sym, ap, ◌∙◌}
use mathlib.Core.Path.{fun_ext}
use Rattle.ped_eval.specs.ped_store.specs.Cells.{Cell, same_cell}
use Rattle.ped_eval.specs.ped_store.specs.Stores.{Store}
use Rattle.ped_eval.specs.ped_store.specs.Acts.{did, entered, ended_turn, Act}
use Rattle.ped_laws.specs.Acts.Fitting.{Fits, store_after}
use Rattle.ped_laws.specs.Acts.Sets.{AgreeOutside, written}
use Rattle.ped_laws.specs.Acts.Conflicts.{LeaveUnread, ReadNone}
use Rattle.ped_laws.specs.Acts.Orders.{HaveSameItems, Block, acts_in_blocks}
use Rattle.ped_laws.specs.Acts.Changes.{Change, stays, goes, comes, acts_before, acts_behind, AreSameOutside, PlainChange}
use Rattle.ped_laws.proofs.ActLaws.SameCells.{cell_is}
use Rattle.ped_laws.proofs.ActLaws.Changing.{changed_fits, changed_leaves, plain_changes}
use Rattle.ped_laws.proofs.ActLaws.Reorderings.{columns_fit, columns_leave}
use Rattle.ped_laws.proofs.ActLaws.Examples.Checks.{by_rows, by_columns, none_crosses, four_lost}
use Rattle.ped_laws.proofs.ActLaws.Examples.Lists.{i, a, b, told, read, write, turn, act}
use Rattle.ped_laws.proofs.ActLaws.Examples.Orders.{sets_a, sets_b}

-- the acts of the loop: its entry, the statements and the end of each iteration, the last of which leaves I
abbrev entry : Act
entry = act (entered 2) 1 [] []

abbrev end_of_first : Act
end_of_first = act (ended_turn 1) 1 [] []

abbrev exit : Act
exit = act (ended_turn 0) 1 [] (write i 3 0 ∷ [])

abbrev old : List Act
old = entry ∷ sets_a 1 ∷ sets_b 1 ∷ end_of_first ∷ sets_a 2 ∷ sets_b 2 ∷ exit ∷ []

-- the acts of the two loops: B has other places
abbrev later_b : ℕ → Act
later_b k = act did 4 (turn 3 k ∷ []) (told i k 1 ∷ read (a k) k 2 ∷ told i k 3 ∷ write (b k) k 4 ∷ [])

abbrev second_entry : Act
second_entry = act (entered 2) 3 [] []

abbrev second_end : Act
second_end = act (ended_turn 1) 3 [] []

abbrev second_exit : Act
second_exit = act (ended_turn 0) 3 [] (write i 3 0 ∷ [])

abbrev new : List Act
new = entry ∷ sets_a 1 ∷ end_of_first ∷ sets_a 2 ∷ exit ∷ second_entry ∷ later_b 1 ∷ second_end ∷ later_b 2 ∷ second_exit ∷ []

-- only the loops' own stores of I count for nothing
abbrev index : Cell → Bool
index c = same_cell i c

-- entries and ends go, blocks are exchanged, entries and ends come
abbrev going : List Change
going = goes entry ∷ stays (sets_a 1) (sets_a 1) ∷ stays (sets_b 1) (sets_b 1) ∷ goes end_of_first ∷ stays (sets_a 2) (sets_a 2) ∷ stays (sets_b 2) (sets_b 2) ∷ goes exit ∷ []

abbrev coming : List Change
coming =
    comes entry ∷ stays (sets_a 1) (sets_a 1) ∷ comes end_of_first ∷ stays (sets_a 2) (sets_a 2) ∷ comes exit
    ∷ comes second_entry ∷ stays (sets_b 1) (later_b 1) ∷ comes second_end ∷ stays (sets_b 2) (later_b 2) ∷ comes second_exit ∷ []

abbrev block : ℕ → ℕ → Act → Block
block k l x = record { outer = k; inner = l; acts = x ∷ [] }

abbrev rows : List Block
rows = block 1 1 (sets_a 1) ∷ block 1 2 (sets_b 1) ∷ block 2 1 (sets_a 2) ∷ block 2 2 (sets_b 2) ∷ []

abbrev columns : List Block
columns = block 1 1 (sets_a 1) ∷ block 2 1 (sets_a 2) ∷ block 1 2 (sets_b 1) ∷ block 2 2 (sets_b 2) ∷ []

same_items : HaveSameItems rows columns
same_items = record {
  none_lost = four_lost (block 1 1 (sets_a 1)) (block 1 2 (sets_b 1)) (block 2 1 (sets_a 2)) (block 2 2 (sets_b 2));
  none_added = four_lost (block 1 1 (sets_a 1)) (block 2 1 (sets_a 2)) (block 1 2 (sets_b 1)) (block 2 2 (sets_b 2));
}

a_unread : (k : ℕ) → LeaveUnread index (sets_a k).touches
a_unread k = (tt, (tt, (tt, tt)))

b_unread : (k : ℕ) → LeaveUnread index (sets_b k).touches
b_unread k = (tt, (refl, (tt, (tt, tt))))

unread : ReadNone index (acts_in_blocks rows)
unread = (a_unread 1, (b_unread 1, (a_unread 2, (b_unread 2, tt))))

-- an act of A, and one of B, does outside I what it did
a_same : (k : ℕ) → AreSameOutside index (sets_a k).touches (sets_a k).touches
a_same k = (a_unread k, (refl, refl, refl, tt))

b_same : (k : ℕ) → AreSameOutside index (sets_b k).touches (sets_b k).touches
b_same k = (b_unread k, (refl, refl, refl, (refl, refl, refl, tt)))

b_moves : (k : ℕ) → AreSameOutside index (sets_b k).touches (later_b k).touches
b_moves k = (b_unread k, (refl, refl, refl, (refl, refl, refl, tt)))

going_plain : (s : Store) → PlainChange index (written (acts_before going)) s going
going_plain s = (tt, (a_same 1, (b_same 1, (tt, (a_same 2, (b_same 2, ((refl, tt), tt)))))))

coming_plain : (s : Store) → PlainChange index (written (acts_before coming)) s coming
coming_plain s = (tt, tt, (a_same 1, (tt, tt, (a_same 2, ((refl, tt), (tt, tt), (tt, tt, (b_moves 1, (tt, tt, (b_moves 2, ((refl, tt), (tt, tt), tt))))))))))

same : (s : Store) → AgreeOutside index s s
same s c h = refl

-- the two loops do what the one did
pub distributed_fits : (s : Store) → Fits old s → Fits new s
distributed_fits s f =
    let kept = changed_fits index going s s (plain_changes index going s s (going_plain s)) (same s) f in
    let moved = columns_fit index rows columns s s (by_rows rows refl) (by_columns columns refl) same_items (none_crosses index rows refl) unread (same s) kept in
    changed_fits index coming s s (plain_changes index coming s s (coming_plain s)) (same s) moved

-- and leave the same store: I has the same content at the end, too
pub distributed_leaves : (s : Store) → Fits old s → store_after old s ≡ store_after new s
distributed_leaves s f = fun_ext λ c. go c (index c) refl
  where
    kept : Fits (acts_behind going) s
    kept = changed_fits index going s s (plain_changes index going s s (going_plain s)) (same s) f

    moved : Fits (acts_before coming) s
    moved = columns_fit index rows columns s s (by_rows rows refl) (by_columns columns refl) same_items (none_crosses index rows refl) unread (same s) kept

    go : (c : Cell) (r : Bool) → index c ≡ r → store_after old s c ≡ store_after new s c
    go c true h = ap (λ z. store_after old s z) (sym (cell_is i c h)) ∙ ap (λ z. store_after new s z) (cell_is i c h)
    go c false h =
        changed_leaves index going s s (plain_changes index going s s (going_plain s)) (same s) f c h
        ∙ columns_leave index rows columns s s (by_rows rows refl) (by_columns columns refl) same_items (none_crosses index rows refl) (same s) c h
        ∙ changed_leaves index coming s s (plain_changes index coming s s (coming_plain s)) (same s) moved c h

-- DO 10 I=1,2; DO 10 J=1,N; 10 C(I,J)=C(I-1,J) is interchanged: DO 10 J=1,N; DO 10 I=1,2; the dependence has the directions (<,=).
use Rattle.std.proofs.Common.{◌≡◌, ℕ, ◌-◌, ◌+◌, pos, List, [], ◌∷◌, Bool, true, false, ◌||◌, refl, sym, ap, ◌∙◌, inl, inr}
use Rattle.std.specs.Prelude.{nat_lt}
use Rattle.std.proofs.lemmas.Bool.{ltb-true}
use mathlib.Core.Path.{fun_ext}
use Rattle.ped_eval.specs.ped_store.specs.Cells.{Cell, same_cell}
use Rattle.ped_eval.specs.ped_store.specs.Stores.{Store, Number}
use Rattle.ped_eval.specs.ped_store.specs.Acts.{did, entered, ended_turn, Touch, Act}
use Rattle.ped_laws.specs.Acts.Fitting.{Fits, store_after}
use Rattle.ped_laws.specs.Acts.Sets.{AgreeOutside, written}
use Rattle.ped_laws.specs.Acts.Conflicts.{LeaveUnread, ReadNone}
use Rattle.ped_laws.specs.Acts.Orders.{Block, acts_in_blocks, IsByRows, IsByColumns}
use Rattle.ped_laws.specs.Acts.Grids.{IsRising, by_rows, by_columns}
use Rattle.ped_laws.specs.Acts.Changes.{Change, stays, goes, comes, acts_before, acts_behind, AreSameOutside, PlainChange}
use Rattle.ped_laws.proofs.ActLaws.SameCells.{cell_is}
use Rattle.ped_laws.proofs.ActLaws.Renamings.{or_either}
use Rattle.ped_laws.proofs.ActLaws.Changing.{changed_fits, changed_leaves, plain_changes}
use Rattle.ped_laws.proofs.ActLaws.Reorderings.{columns_fit, columns_leave}
use Rattle.ped_laws.proofs.ActLaws.Rows.{rows_stand, columns_stand, same_blocks}
use Rattle.ped_laws.proofs.ActLaws.Examples.Checks.{before_passes, none_crosses}
use Rattle.ped_laws.proofs.ActLaws.Examples.Lists.{i, j, n, c, told, read, write, turn, act}

-- C(I,J)=C(I-1,J) in iterations k and l: the column l holds 6+l
abbrev assigned : ℕ → ℕ → List Touch
assigned k l = told i k 1 ∷ told j l 2 ∷ read (c (k - 1) l) (6 + l) 3 ∷ told i k 4 ∷ told j l 5 ∷ write (c k l) (6 + l) 6 ∷ []

abbrev sets : ℕ → ℕ → Act
sets k l = act did 3 (turn 1 k ∷ turn 2 l ∷ []) (assigned k l)

abbrev entry : Act
entry = act (entered 2) 1 [] []

abbrev inner_entry : ℕ → Act
inner_entry k = act (entered 2) 2 (turn 1 k ∷ []) (read n 2 1 ∷ [])

abbrev inner_end : ℕ → Act
inner_end k = act (ended_turn 1) 2 (turn 1 k ∷ []) []

abbrev inner_exit : ℕ → Act
inner_exit k = act (ended_turn 0) 2 (turn 1 k ∷ []) (write j 3 0 ∷ [])

abbrev end_of_first : Act
end_of_first = act (ended_turn 1) 1 [] []

abbrev exit : Act
exit = act (ended_turn 0) 1 [] (write i 3 0 ∷ [])

abbrev old : List Act
old =
    entry
    ∷ inner_entry 1 ∷ sets 1 1 ∷ inner_end 1 ∷ sets 1 2 ∷ inner_exit 1 ∷ end_of_first
    ∷ inner_entry 2 ∷ sets 2 1 ∷ inner_end 2 ∷ sets 2 2 ∷ inner_exit 2 ∷ exit ∷ []

-- the loops in the other order: N is read once, and I is left twice
abbrev new_sets : ℕ → ℕ → Act
new_sets k l = act did 3 (turn 1 l ∷ turn 2 k ∷ []) (assigned k l)

abbrev new_entry : Act
new_entry = act (entered 2) 1 [] (read n 2 1 ∷ [])

abbrev new_inner_entry : ℕ → Act
new_inner_entry l = act (entered 2) 2 (turn 1 l ∷ []) []

abbrev new_inner_end : ℕ → Act
new_inner_end l = act (ended_turn 1) 2 (turn 1 l ∷ []) []

abbrev new_inner_exit : ℕ → Act
new_inner_exit l = act (ended_turn 0) 2 (turn 1 l ∷ []) (write i 3 0 ∷ [])

abbrev new_exit : Act
new_exit = act (ended_turn 0) 1 [] (write j 3 0 ∷ [])

abbrev new : List Act
new =
    new_entry
    ∷ new_inner_entry 1 ∷ new_sets 1 1 ∷ new_inner_end 1 ∷ new_sets 2 1 ∷ new_inner_exit 1 ∷ end_of_first
    ∷ new_inner_entry 2 ∷ new_sets 1 2 ∷ new_inner_end 2 ∷ new_sets 2 2 ∷ new_inner_exit 2 ∷ new_exit ∷ []

-- only the loops' own stores of I and J count for nothing
abbrev indices : Cell → Bool
indices x = same_cell i x || same_cell j x

-- all entries and ends go, and others come
abbrev going : List Change
going =
    goes entry
    ∷ goes (inner_entry 1) ∷ stays (sets 1 1) (sets 1 1) ∷ goes (inner_end 1) ∷ stays (sets 1 2) (sets 1 2) ∷ goes (inner_exit 1) ∷ goes end_of_first
    ∷ goes (inner_entry 2) ∷ stays (sets 2 1) (sets 2 1) ∷ goes (inner_end 2) ∷ stays (sets 2 2) (sets 2 2) ∷ goes (inner_exit 2) ∷ goes exit ∷ []

abbrev coming : List Change
coming =
    comes new_entry
    ∷ comes (new_inner_entry 1) ∷ stays (sets 1 1) (new_sets 1 1) ∷ comes (new_inner_end 1) ∷ stays (sets 2 1) (new_sets 2 1) ∷ comes (new_inner_exit 1) ∷ comes end_of_first
    ∷ comes (new_inner_entry 2) ∷ stays (sets 1 2) (new_sets 1 2) ∷ comes (new_inner_end 2) ∷ stays (sets 2 2) (new_sets 2 2) ∷ comes (new_inner_exit 2) ∷ comes new_exit ∷ []

-- iterations by rows and by columns
abbrev all : ℕ → ℕ → Bool
all k l = true

abbrev one_act : ℕ → ℕ → List Act
one_act k l = sets k l ∷ []

abbrev two : List ℕ
two = 1 ∷ 2 ∷ []

abbrev rows : List Block
rows = by_rows all one_act two two

abbrev columns : List Block
columns = by_columns all one_act two two

rising : IsRising two
rising k l b = ltb-true k l (before_passes nat_lt two refl k l b)

rows_are : IsByRows rows
rows_are = rows_stand all one_act two two rising rising

columns_are : IsByColumns columns
columns_are = columns_stand all one_act two two rising rising

unread : (k l : ℕ) → LeaveUnread indices (assigned k l)
unread k l = (tt, (tt, (refl, (tt, (tt, (tt, tt))))))

none_read : ReadNone indices (acts_in_blocks rows)
none_read = (unread 1 1, (unread 1 2, (unread 2 1, (unread 2 2, tt))))

-- an assignment does outside I and J what it did
stay : (k l : ℕ) → AreSameOutside indices (assigned k l) (assigned k l)
stay k l = (unread k l, (refl, refl, refl, (refl, refl, refl, tt)))

going_plain : (s : Store) → PlainChange indices (written (acts_before going)) s going
going_plain s =
    (tt, ((tt, tt), (stay 1 1, (tt, (stay 1 2, ((refl, tt), (tt, ((tt, tt), (stay 2 1, (tt, (stay 2 2, ((refl, tt), ((refl, tt), tt)))))))))))))

-- N holds 2, and no assignment writes it
coming_plain : (s : Store) → s n ≡ Number (pos 2) → PlainChange indices (written (acts_before coming)) s coming
coming_plain s h = (
  (tt, tt),
  ((refl, refl, h), tt),
  (
    tt,
    tt,
    (
      stay 1 1,
      (
        tt,
        tt,
        (
          stay 2 1,
          (
            (refl, tt),
            (tt, tt),
            (tt, tt, (tt, tt, (stay 1 2, (tt, tt, (stay 2 2, ((refl, tt), (tt, tt), ((refl, tt), (tt, tt), tt))))))),
          ),
        ),
      ),
    ),
  ),
)

same : (s : Store) → AgreeOutside indices s s
same s x h = refl

-- the interchanged loops do what the loops did
pub interchanged_fits : (s : Store) → Fits old s → Fits new s
interchanged_fits s f =
    let kept = changed_fits indices going s s (plain_changes indices going s s (going_plain s)) (same s) f in
    let moved = columns_fit indices rows columns s s rows_are columns_are (same_blocks all one_act two two) (none_crosses indices rows refl) none_read (same s) kept in
    changed_fits indices coming s s (plain_changes indices coming s s (coming_plain s f.1.0.0)) (same s) moved

-- and leave the same store: I and J have the same contents at the end, too
pub interchanged_leaves : (s : Store) → Fits old s → store_after old s ≡ store_after new s
interchanged_leaves s f = fun_ext λ x. go x (indices x) refl
  where
    kept : Fits (acts_behind going) s
    kept = changed_fits indices going s s (plain_changes indices going s s (going_plain s)) (same s) f

    moved : Fits (acts_before coming) s
    moved = columns_fit indices rows columns s s rows_are columns_are (same_blocks all one_act two two) (none_crosses indices rows refl) none_read (same s) kept

    index : (x y : Cell) → same_cell x y ≡ true → store_after old s x ≡ store_after new s x → store_after old s y ≡ store_after new s y
    index x y h e = ap (store_after old s) (sym (cell_is x y h)) ∙ e ∙ ap (store_after new s) (cell_is x y h)

    go : (x : Cell) (r : Bool) → indices x ≡ r → store_after old s x ≡ store_after new s x
    go x true h = elim (or_either (same_cell i x) (same_cell j x) h) [ inl p ↦ index i x p refl | inr p ↦ index j x p refl ]
    go x false h =
        changed_leaves indices going s s (plain_changes indices going s s (going_plain s)) (same s) f x h
        ∙ columns_leave indices rows columns s s rows_are columns_are (same_blocks all one_act two two) (none_crosses indices rows refl) (same s) x h
        ∙ changed_leaves indices coming s s (plain_changes indices coming s s (coming_plain s f.1.0.0)) (same s) moved x h

-- DO 10 I=M,N; PRIVATE T; T=I; 10 A(I)=T is reversed: DO 10 I=N,M,-1. The bounds are read in the other order, each iteration has the other's copy of T, and the exit leaves I in another state, and T undefined as before.
use Rattle.std.proofs.Common.{◌≡◌, ℕ, pos, List, [], ◌∷◌, Bool, true, false, ◌||◌, refl, sym, ap, ◌∙◌, ◌⊎◌, inl, inr}
use Rattle.std.specs.Prelude.{not, if◌then◌else◌}
use Rattle.std.proofs.lemmas.Bool.{or_parts, both_ways}
use Rattle.ped_eval.specs.ped_store.specs.Cells.{Cell, Scalar, same_cell}
use Rattle.ped_eval.specs.ped_store.specs.Stores.{Store, Number}
use Rattle.ped_eval.specs.ped_store.specs.Acts.{did, entered, ended_turn, Act}
use Rattle.ped_laws.specs.Acts.Fitting.{Fits, store_after}
use Rattle.ped_laws.specs.Acts.Sets.{AgreeIn, needs, written}
use Rattle.ped_laws.specs.Acts.Conflicts.{LeaveUnread}
use Rattle.ped_laws.specs.Acts.Orders.{Block, HaveSameItems, IsReordered, KeepsOrder, IsIn, block_conflict}
use Rattle.ped_laws.specs.Acts.Changes.{Change, stays, goes, comes, acts_before, acts_behind, AreSameOutside, PlainChange}
use Rattle.ped_laws.specs.Acts.Walks.{Stride, both, old_alone, new_alone, SideBySide}
use Rattle.ped_laws.specs.Acts.Pieces.{Piece, StandsFor, old_acts, new_acts}
use Rattle.ped_laws.specs.Acts.Exchanges.{Exchange, IsAllowed}
use Rattle.ped_laws.proofs.ActLaws.SameCells.{cell_is}
use Rattle.ped_laws.proofs.ActLaws.Renamings.{or_left, or_either}
use Rattle.ped_laws.proofs.ActLaws.Changing.{plain_changes}
use Rattle.ped_laws.proofs.ActLaws.Reorderings.{rows_once, column_order}
use Rattle.ped_laws.proofs.ActLaws.Exchanging.{exchange_stands, same_stands, pieces_fit, pieces_leave}
use Rattle.ped_laws.proofs.ActLaws.Walking.{beside_fits}
use Rattle.ped_laws.proofs.ActLaws.Examples.Checks.{by_rows, by_columns, none_crosses, not_is, is_not}
use Rattle.ped_laws.proofs.ActLaws.Examples.Lists.{i, n, copy, a, told, read, write, undefines_t, turn, act}

abbrev m : Cell
m = Scalar (77 ∷ [])

-- T=I and A(I)=T in iteration k, where I is l
abbrev sets_t : ℕ → ℕ → Act
sets_t k l = act did 2 (record { statement = 1; parallel = false; number = k; value = pos l } ∷ []) (told i l 1 ∷ write (copy k) l 2 ∷ [])

abbrev sets_a : ℕ → ℕ → Act
sets_a k l = act did 3 (record { statement = 1; parallel = false; number = k; value = pos l } ∷ []) (read (copy k) l 1 ∷ told i l 2 ∷ write (a l) l 3 ∷ [])

abbrev entry : Act
entry = act (entered 2) 1 [] (read m 1 1 ∷ read n 2 2 ∷ [])

abbrev new_entry : Act
new_entry = act (entered 2) 1 [] (read n 2 1 ∷ read m 1 2 ∷ [])

abbrev end_of_first : Act
end_of_first = act (ended_turn 1) 1 [] []

abbrev exit : Act
exit = act (ended_turn 0) 1 [] (write i 3 0 ∷ undefines_t ∷ [])

abbrev new_exit : Act
new_exit = act (ended_turn 0) 1 [] (write i 0 0 ∷ undefines_t ∷ [])

abbrev old : List Act
old = entry ∷ sets_t 1 1 ∷ sets_a 1 1 ∷ end_of_first ∷ sets_t 2 2 ∷ sets_a 2 2 ∷ exit ∷ []

-- each iteration gets the other's copy of T
abbrev other_copy : Cell → Cell
other_copy x = if same_cell (copy 1) x then copy 2 else if same_cell (copy 2) x then copy 1 else x

-- the old acts on the other's copies
abbrev other_t : ℕ → ℕ → Act
other_t k l = act did 2 (turn 1 l ∷ []) (told i l 1 ∷ write (copy k) l 2 ∷ [])

abbrev other_a : ℕ → ℕ → Act
other_a k l = act did 3 (turn 1 l ∷ []) (read (copy k) l 1 ∷ told i l 2 ∷ write (a l) l 3 ∷ [])

abbrev going : List Change
going =
    goes entry ∷ stays (other_t 2 1) (other_t 2 1) ∷ stays (other_a 2 1) (other_a 2 1) ∷ goes end_of_first
    ∷ stays (other_t 1 2) (other_t 1 2) ∷ stays (other_a 1 2) (other_a 1 2) ∷ stays exit exit ∷ []

-- iteration k of the new loop is iteration l of the old one
abbrev iteration : ℕ → ℕ → Block
iteration k l = record { outer = l; inner = k; acts = other_t k l ∷ other_a k l ∷ [] }

abbrev last : Block
last = record { outer = 3; inner = 3; acts = exit ∷ [] }

abbrev blocks : List Block
blocks = iteration 2 1 ∷ iteration 1 2 ∷ last ∷ []

abbrev order : List Block
order = iteration 1 2 ∷ iteration 2 1 ∷ last ∷ []

abbrev coming : List Change
coming =
    comes new_entry ∷ stays (other_t 1 2) (sets_t 1 2) ∷ stays (other_a 1 2) (sets_a 1 2) ∷ comes end_of_first
    ∷ stays (other_t 2 1) (sets_t 2 1) ∷ stays (other_a 2 1) (sets_a 2 1) ∷ stays exit new_exit ∷ []

abbrev index : Cell → Bool
index x = same_cell i x

abbrev reversal : Exchange
reversal = record { names = other_copy; idle = index; going = going; blocks = blocks; order = order; coming = coming }

-- the stores agree but on I and on the copies of T
abbrev agreed : Cell → Bool
agreed x = not (same_cell i x || (same_cell (copy 1) x || same_cell (copy 2) x))

-- the copies change names
first_named : (x : Cell) → same_cell (copy 1) x ≡ true → other_copy x ≡ copy 2
first_named x h = rw h refl

second_named : (x : Cell) → same_cell (copy 1) x ≡ false → same_cell (copy 2) x ≡ true → other_copy x ≡ copy 1
second_named x h k = rw (h, k) refl

none_named : (x : Cell) → same_cell (copy 1) x ≡ false → same_cell (copy 2) x ≡ false → other_copy x ≡ x
none_named x h k = rw (h, k) refl

back : (x : Cell) → other_copy (other_copy x) ≡ x
back x = go (same_cell (copy 1) x) (same_cell (copy 2) x) refl refl
  where
    go : (p q : Bool) → same_cell (copy 1) x ≡ p → same_cell (copy 2) x ≡ q → other_copy (other_copy x) ≡ x
    go true q h k = ap other_copy (first_named x h) ∙ cell_is (copy 1) x h
    go false true h k = ap other_copy (second_named x h k) ∙ cell_is (copy 2) x k
    go false false h k = ap other_copy (none_named x h k) ∙ none_named x h k

injective : (x y : Cell) → other_copy x ≡ other_copy y → x ≡ y
injective x y e = sym (back x) ∙ ap other_copy e ∙ back y

-- what the stores agree on is neither I nor a copy
parts : (x : Cell) → agreed x ≡ true → (same_cell i x ≡ false) × (same_cell (copy 1) x ≡ false) × (same_cell (copy 2) x ≡ false)
parts x h =
    let p = or_parts (same_cell i x) (same_cell (copy 1) x || same_cell (copy 2) x) (not_is (same_cell i x || (same_cell (copy 1) x || same_cell (copy 2) x)) h) in
    let q = or_parts (same_cell (copy 1) x) (same_cell (copy 2) x) p.1 in
    (p.0, q.0, q.1)

own : (x : Cell) → agreed x ≡ true → other_copy x ≡ x
own x h = let p = parts x h in none_named x p.1 p.2

-- the loop reads neither I nor a copy before it writes it
unneeded : (x : Cell) → agreed x ≡ false → needs old x ≡ false
unneeded x h = elim (or_either (same_cell i x) (same_cell (copy 1) x || same_cell (copy 2) x) (is_not (same_cell i x || (same_cell (copy 1) x || same_cell (copy 2) x)) h)) [
  | inl p ↦ ap (needs old) (sym (cell_is i x p))
  | inr r ↦ elim (or_either (same_cell (copy 1) x) (same_cell (copy 2) x) r) [
    | inl p ↦ ap (needs old) (sym (cell_is (copy 1) x p))
    | inr p ↦ ap (needs old) (sym (cell_is (copy 2) x p))
  ]
]

needed : (x : Cell) → needs old x ≡ true → (agreed x ≡ true) × (other_copy x ≡ x)
needed x h = go (agreed x) refl
  where
    go : (b : Bool) → agreed x ≡ b → (agreed x ≡ true) × (other_copy x ≡ x)
    go true p = (p, own x p)
    go false p = absurd (both_ways (needs old x) (unneeded x p) h)

unread_t : (k l : ℕ) → LeaveUnread index (other_t k l).touches
unread_t k l = (tt, (tt, tt))

unread_a : (k l : ℕ) → LeaveUnread index (other_a k l).touches
unread_a k l = (refl, (tt, (tt, tt)))

same_t : (k l : ℕ) → AreSameOutside index (other_t k l).touches (sets_t k l).touches
same_t k l = (unread_t k l, (refl, refl, refl, tt))

same_a : (k l : ℕ) → AreSameOutside index (other_a k l).touches (sets_a k l).touches
same_a k l = (unread_a k l, (refl, refl, refl, (refl, refl, refl, tt)))

same_exit : AreSameOutside index exit.touches new_exit.touches
same_exit = ((tt, (tt, tt)), (refl, refl, refl, tt))

own_exit : AreSameOutside index exit.touches exit.touches
own_exit = ((tt, (tt, tt)), (refl, refl, refl, tt))

going_plain : (u : Store) → PlainChange index (written (acts_before going)) u going
going_plain u = ((tt, (tt, tt)), ((unread_t 2 1, (refl, refl, refl, tt)), ((unread_a 2 1, (refl, refl, refl, (refl, refl, refl, tt))), (tt, ((unread_t 1 2, (refl, refl, refl, tt)), ((unread_a 1 2, (refl, refl, refl, (refl, refl, refl, tt))), (own_exit, tt)))))))

coming_plain : (u : Store) → u m ≡ Number (pos 1) → u n ≡ Number (pos 2) → PlainChange index (written (acts_before coming)) u coming
coming_plain u h k = (
  (tt, (tt, tt)),
  ((refl, refl, k), ((refl, refl, h), tt)),
  (same_t 1 2, (same_a 1 2, (tt, tt, (same_t 2 1, (same_a 2 1, (same_exit, tt)))))),
)

same_items : HaveSameItems blocks order
same_items = record { none_lost = λ x h. three x h; none_added = λ x h. three_back x h }
  where
    three : (x : Block) → IsIn x blocks → IsIn x order
    three x (inl e) = inr (inl e)
    three x (inr (inl e)) = inl e
    three x (inr (inr h)) = inr (inr h)

    three_back : (x : Block) → IsIn x order → IsIn x blocks
    three_back x (inl e) = inr (inl e)
    three_back x (inr (inl e)) = inl e
    three_back x (inr (inr h)) = inr (inr h)

allowed : (s : Store) → Fits old s → IsAllowed reversal old agreed agreed s
allowed s f = record {
  renamed = (
    refl,
    refl,
    refl,
    (
      refl,
      refl,
      refl,
      (
        refl,
        refl,
        refl,
        (
          refl,
          refl,
          refl,
          (
            refl,
            refl,
            refl,
            (
              refl,
              refl,
              refl,
              (
                refl,
                refl,
                refl,
                (
                  refl,
                  refl,
                  refl,
                  (refl, refl, refl, (refl, refl, refl, tt)),
                ),
              ),
            ),
          ),
        ),
      ),
    ),
  );
  one_to_one = λ x y p q. injective x y;
  needed = needed;
  go = λ u agree g. plain_changes index going u u (going_plain u);
  are_left = refl;
  once = rows_once blocks (by_rows blocks refl);
  reordered = kept.0;
  kept = kept.1;
  unread = (unread_t 2 1, (unread_a 2 1, (unread_t 1 2, (unread_a 1 2, ((tt, (tt, tt)), tt)))));
  are_taken = refl;
  come = λ u agree g. plain_changes index coming u u (coming_plain u (sym (agree m refl) ∙ f.0.0) (sym (agree n refl) ∙ f.0.1.0));
  wanted = λ x h. ((parts x h).0, own x h, (λ y w e. injective y x e), inl h);
}
  where
    kept : IsReordered blocks order × KeepsOrder (block_conflict index) blocks order
    kept = column_order index blocks order (by_rows blocks refl) (by_columns order refl) same_items (none_crosses index blocks refl)

-- the reversed loop may stand for the loop, wherever it stands among the acts of a program
pub reversed : (s : Store) → Fits old s → StandsFor (record { agreed = agreed; old = old; new = acts_behind coming }) agreed s
reversed s f = exchange_stands reversal old agreed agreed s f (allowed s f)

-- behind the loop I=5 makes the stores agree on I again
abbrev sets_i : Act
sets_i = act did 4 [] (write i 5 1 ∷ [])

abbrev agreed_at_end : Cell → Bool
agreed_at_end x = agreed x || same_cell i x

abbrev both_pieces : List Piece
both_pieces = record { agreed = agreed; old = old; new = acts_behind coming } ∷ record { agreed = agreed; old = sets_i ∷ []; new = sets_i ∷ [] } ∷ []

nothing_needed : (b : Bool) → (if b then false else false) ≡ true → ⊥
nothing_needed true h = let k : false ≡ true = h in absurd cc
nothing_needed false h = let k : false ≡ true = h in absurd cc

assigned_stands : (u : Store) → StandsFor (record { agreed = agreed; old = sets_i ∷ []; new = sets_i ∷ [] }) agreed_at_end u
assigned_stands u = same_stands (sets_i ∷ []) (sets_i ∷ []) agreed agreed_at_end u (refl, refl, refl, tt) ((tt, tt), tt) (λ x h. absurd (nothing_needed (same_cell i x) h)) tells
  where
    tells : (x : Cell) → agreed_at_end x ≡ true → (agreed x ≡ true) ⊎ (written (sets_i ∷ []) x ≡ true)
    tells x h = elim (or_either (agreed x) (same_cell i x) h) [
      | inl p ↦ inl p
      | inr p ↦ inr (or_left (same_cell i x) false p)
    ]

pub followed_fits : (s : Store) → Fits old s → Fits (new_acts both_pieces) s
followed_fits s f = pieces_fit both_pieces agreed_at_end s s (reversed s f, (assigned_stands (store_after old s), tt)) (λ x h. refl)

pub followed_leaves : (s : Store) → Fits old s → AgreeIn agreed_at_end (store_after (old_acts both_pieces) s) (store_after (new_acts both_pieces) s)
followed_leaves s f = pieces_leave both_pieces agreed_at_end s s (reversed s f, (assigned_stands (store_after old s), tt)) (λ x h. refl)

-- side by side: the bounds read in the other order, and the exit with another content of I, touch by touch
abbrev walk : List Stride
walk =
    old_alone (read m 1 1) ∷ both (read n 2 2) (read n 2 1) ∷ new_alone (read m 1 2)
    ∷ old_alone (write i 3 0) ∷ new_alone (write i 0 0) ∷ both undefines_t undefines_t
    ∷ []

walks : (s u : Store) → Fits (entry ∷ exit ∷ []) s → s m ≡ u m → s n ≡ u n → SideBySide [] walk s u
walks s u f e h = (tt, ((refl, refl, (refl, h)), (sym e ∙ f.0.0, (tt, (tt, ((refl, refl, tt), tt))))))

pub beside : (s u : Store) → Fits (entry ∷ exit ∷ []) s → s m ≡ u m → s n ≡ u n → Fits (new_entry ∷ new_exit ∷ []) u
beside s u f e h = beside_fits walk (entry ∷ exit ∷ []) (new_entry ∷ new_exit ∷ []) s u refl refl (walks s u f e h) f

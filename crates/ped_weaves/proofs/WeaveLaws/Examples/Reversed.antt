-- DO 10 I=1,2; PRIVATE T; T=I; 10 A(I)=T is reversed, and T=5 follows. Each iteration gets the other's copy of T, and the exit leaves I in another state, and T undefined as before.
use Rattle.std.proofs.Common.{◌≡◌, ℕ, List, [], ◌∷◌, ◌++◌, Bool, true, false, ◌||◌, refl, sym, ap, ◌∙◌, inl, inr}
use Rattle.std.specs.Prelude.{◌==◌, if◌then◌else◌}
use Rattle.std.proofs.lemmas.Bool.{both_ways}
use Rattle.ped_laws.specs.ped_store.specs.Cells.{Cell, same_cell}
use Rattle.ped_laws.specs.ped_store.specs.Stores.{Store}
use Rattle.ped_laws.specs.ped_store.specs.Acts.{reads, did, entered, ended_turn, Touch, Act}
use Rattle.ped_laws.specs.Acts.Fitting.{Fits, touches_of}
use Rattle.ped_laws.specs.Acts.Sets.{nothing, needs, wants}
use Rattle.ped_laws.specs.Acts.Conflicts.{without, ReadNone, WriteWithin}
use Rattle.ped_laws.specs.Acts.Orders.{IsIn, Block, HaveSameItems, IsReordered, KeepsOrder, block_conflict}
use Rattle.ped_laws.specs.Acts.Pieces.{StandsFor}
use Rattle.ped_laws.specs.Acts.Renaming.{Renamed, touch}
use Rattle.ped_laws.proofs.ActLaws.SameCells.{cell_is}
use Rattle.ped_laws.proofs.ActLaws.Reorderings.{rows_once, column_order}
use Rattle.ped_weaves.specs.Apart.{agreed}
use Rattle.ped_weaves.specs.Weaves.{block, control, Weave, blocks_in, old_list, new_list, counted, IsSteady, IsWoven}
use Rattle.ped_weaves.proofs.WeaveLaws.AgreedApart.{agreed_suit}
use Rattle.ped_weaves.proofs.WeaveLaws.CountedActs.{counted_touched}
use Rattle.ped_weaves.proofs.WeaveLaws.EachKnot.{each_control, each_block}
use Rattle.ped_weaves.proofs.WeaveLaws.Woven.{woven_stands}
use Rattle.ped_weaves.proofs.WeaveLaws.Examples.Checks.{by_rows, by_columns, none_crosses}
use Rattle.ped_weaves.proofs.WeaveLaws.Examples.Lists.{i, t, copy, a, told, read, write, undefines_t, turn, act}

-- T=I and A(I)=T in iteration k, where I is l
abbrev body : ℕ → ℕ → List Act
body k l = act did 2 (turn 1 k ∷ []) (told i l 1 ∷ write (copy k) l 2 ∷ []) ∷ act did 3 (turn 1 k ∷ []) (read (copy k) l 1 ∷ told i l 2 ∷ write (a l) l 3 ∷ []) ∷ []

abbrev entry : Act
entry = act (entered 2) 1 [] []

abbrev end_of_first : Act
end_of_first = act (ended_turn 1) 1 [] []

abbrev exit : Act
exit = act (ended_turn 0) 1 [] (write i 3 0 ∷ undefines_t ∷ [])

abbrev new_exit : Act
new_exit = act (ended_turn 0) 1 [] (write i 0 0 ∷ undefines_t ∷ [])

-- each iteration gets the other's copy of T
abbrev other_copy : Cell → Cell
other_copy x = if same_cell (copy 1) x then copy 2 else if same_cell (copy 2) x then copy 1 else x

abbrev index : Cell → Bool
index x = same_cell i x

-- iteration k of the new loop is iteration l of the old one; the exits are the last block
abbrev weave : Weave
weave = record {
  names = other_copy;
  idle = index;
  old = control (entry ∷ []) ∷ block 1 2 ∷ control (end_of_first ∷ []) ∷ block 2 1 ∷ block 3 3 ∷ [];
  new = control (entry ∷ []) ∷ block 2 1 ∷ control (end_of_first ∷ []) ∷ block 1 2 ∷ block 3 3 ∷ [];
  acts = λ l k. if l == 3 then exit ∷ [] else body l l;
  others = λ l k. if l == 3 then new_exit ∷ [] else body k l;
}

-- the copies change names
first_named : (x : Cell) → same_cell (copy 1) x ≡ true → other_copy x ≡ copy 2
first_named x h = rw h refl

second_named : (x : Cell) → same_cell (copy 1) x ≡ false → same_cell (copy 2) x ≡ true → other_copy x ≡ copy 1
second_named x h k = rw (h, k) refl

none_named : (x : Cell) → same_cell (copy 1) x ≡ false → same_cell (copy 2) x ≡ false → other_copy x ≡ x
none_named x h k = rw (h, k) refl

back : (x : Cell) → other_copy (other_copy x) ≡ x
back x = go (same_cell (copy 1) x) (same_cell (copy 2) x) refl refl
  where
    go : (p q : Bool) → same_cell (copy 1) x ≡ p → same_cell (copy 2) x ≡ q → other_copy (other_copy x) ≡ x
    go true q h k = ap other_copy (first_named x h) ∙ cell_is (copy 1) x h
    go false true h k = ap other_copy (second_named x h k) ∙ cell_is (copy 2) x k
    go false false h k = ap other_copy (none_named x h k) ∙ none_named x h k

injective : (x y : Cell) → other_copy x ≡ other_copy y → x ≡ y
injective x y e = sym (back x) ∙ ap other_copy e ∙ back y

-- where a test fails for both copies, the cells that pass it keep their names
keeps : (test : Cell → Bool) → test (copy 1) ≡ false → test (copy 2) ≡ false → (x : Cell) → test x ≡ true → other_copy x ≡ x
keeps test p q x h = go (same_cell (copy 1) x) (same_cell (copy 2) x) refl refl
  where
    go : (b c : Bool) → same_cell (copy 1) x ≡ b → same_cell (copy 2) x ≡ c → other_copy x ≡ x
    go true c e f = absurd (both_ways (test x) (ap test (sym (cell_is (copy 1) x e)) ∙ p) h)
    go false true e f = absurd (both_ways (test x) (ap test (sym (cell_is (copy 2) x f)) ∙ q) h)
    go false false e f = none_named x e f

-- I and the copies stand apart
abbrev apart : Cell → Bool
apart x = same_cell i x || (same_cell (copy 1) x || same_cell (copy 2) x)

abbrev rest : List Act
rest = act did 4 [] (write t 5 1 ∷ []) ∷ []

abbrev before : Cell → Bool
before = agreed apart nothing (old_list weave ++ rest)

abbrev behind : Cell → Bool
behind = agreed apart nothing rest

unwanted : (x : Cell) → index x ≡ true → (apart x ≡ true) × (wants nothing rest x ≡ false)
unwanted x h = (ap apart (sym (cell_is i x h)), ap (wants nothing rest) (sym (cell_is i x h)))

abbrev olds : List Block
olds = blocks_in weave.acts weave.old

abbrev news : List Block
news = blocks_in weave.acts weave.new

same_items : HaveSameItems olds news
same_items = record { none_lost = λ x h. three x h; none_added = λ x h. three_back x h }
  where
    three : (x : Block) → IsIn x olds → IsIn x news
    three x (inl e) = inr (inl e)
    three x (inr (inl e)) = inl e
    three x (inr (inr h)) = inr (inr h)

    three_back : (x : Block) → IsIn x news → IsIn x olds
    three_back x (inl e) = inr (inl e)
    three_back x (inr (inl e)) = inl e
    three_back x (inr (inr h)) = inr (inr h)

kept : IsReordered olds news × KeepsOrder (block_conflict index) olds news
kept = column_order index olds news (by_rows olds refl) (by_columns news refl) same_items (none_crosses index olds refl)

unread : (l k : ℕ) → IsIn (block l k) weave.old → ReadNone index (weave.acts l k)
unread = each_block (λ l k. ReadNone index (weave.acts l k)) weave.old (((tt, (tt, tt)), ((refl, (tt, (tt, tt))), tt)), (((tt, (tt, tt)), ((refl, (tt, (tt, tt))), tt)), (((tt, (tt, tt)), tt), tt)))

-- the names of cells that count aren't I
names_count : (x : Cell) → touch (counted weave) x ≡ true → index (other_copy x) ≡ false
names_count x h = go (same_cell (copy 1) x) (same_cell (copy 2) x) refl refl
  where
    go : (p q : Bool) → same_cell (copy 1) x ≡ p → same_cell (copy 2) x ≡ q → index (other_copy x) ≡ false
    go true q e f = ap index (first_named x e)
    go false true e f = ap index (second_named x e f)
    go false false e f = ap index (none_named x e f) ∙ (counted_touched weave x unread h).0

-- controls read nothing
reads_nothing : (s : Store) (c : List Act) (x : Touch) → IsIn (control c) weave.new → IsIn x (touches_of c) → x.manner ≡ reads → IsSteady weave before s x
reads_nothing s c x k = each_control (λ c. IsIn x (touches_of c) → x.manner ≡ reads → IsSteady weave before s x) weave.new ((λ j m. absurd j), ((λ j m. absurd j), tt)) c k

woven : (s : Store) → IsWoven weave before behind s
woven s = record {
  controls = each_control (λ c. WriteWithin index (touches_of c)) weave.old (tt, (tt, tt));
  new_controls = each_control (λ c. WriteWithin index (touches_of c)) weave.new (tt, (tt, tt));
  steady = reads_nothing s;
  unread = unread;
  renamed = each_block (λ l k. Renamed other_copy (without index (weave.acts l k)) (without index (weave.others l k))) weave.old
      ((refl, refl, refl, (refl, refl, refl, (refl, refl, refl, tt))), ((refl, refl, refl, (refl, refl, refl, (refl, refl, refl, tt))), ((refl, refl, refl, tt), tt)));
  one_to_one = λ x y p q. injective x y;
  idle_names = names_count;
  once = rows_once olds (by_rows olds refl);
  reordered = kept.0;
  kept = kept.1;
  suit = agreed_suit apart nothing index (old_list weave) rest unwanted;
  own = keeps (needs (counted weave)) refl refl;
  own_behind = λ x h. (keeps behind refl refl x h, (λ y w e. injective y x e));
}

-- the reversed loop stands for the loop
pub reversed : (s : Store) → Fits (old_list weave) s → StandsFor (record { agreed = before; old = old_list weave; new = new_list weave }) behind s
reversed s f = woven_stands weave before behind s f (woven s)

-- whatever I, T and its copies hold before it
pub reversed_fits : (s : Store) → Fits (old_list weave) s → Fits (new_list weave) s
reversed_fits s f = (reversed s f s (λ x h. refl)).0

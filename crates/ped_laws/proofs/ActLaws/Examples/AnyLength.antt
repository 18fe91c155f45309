-- A loop with any iterations, whose body has two parts, is distributed: no act of the second part conflicts with one of the first in a later iteration.
use Rattle.std.proofs.Common.{◌≡◌, ℕ, ◌<◌, List, [], ◌∷◌, ◌++◌, map, Bool, true, false, refl, sym, ap, subst, ◌∙◌, append-nil, arith, ◌⊎◌, inl, inr}
use Rattle.std.specs.Prelude.{nat_lt, filter}
use Rattle.std.proofs.lemmas.Bool.{ltb-true}
use Rattle.ped_eval.specs.ped_store.specs.Cells.{Cell}
use Rattle.ped_eval.specs.ped_store.specs.Stores.{Store}
use Rattle.ped_eval.specs.ped_store.specs.Acts.{Act}
use Rattle.ped_laws.specs.Acts.Fitting.{Fits, touches_of, of_cells}
use Rattle.ped_laws.specs.Acts.Sets.{needs, written}
use Rattle.ped_laws.specs.Acts.Conflicts.{WriteWithin, ReadNone, blocks_conflict_outside}
use Rattle.ped_laws.specs.Acts.Orders.{IsIn, IsReordered, KeepsOrder, Block, block_conflict, acts_in_blocks, IsByRows}
use Rattle.ped_laws.specs.Acts.Grids.{IsRising, block_at, by_rows, by_columns}
use Rattle.ped_laws.specs.Acts.Renaming.{Renamed, own_name}
use Rattle.ped_laws.specs.Acts.Changes.{Change, goes, comes, acts_before, acts_behind, stay_all, ReadPlain, PlainChange}
use Rattle.ped_laws.specs.Acts.Exchanges.{Exchange, IsAllowed}
use Rattle.ped_laws.specs.Acts.Pieces.{StandsFor}
use Rattle.ped_laws.proofs.ActLaws.Renamings.{own_names}
use Rattle.ped_laws.proofs.ActLaws.Outside.{none_append}
use Rattle.ped_laws.proofs.ActLaws.Changing.{plain_changes}
use Rattle.ped_laws.proofs.ActLaws.Appending.{before_append, behind_append, plain_append, blocks_append, before_stay, behind_stay, stay_plain}
use Rattle.ped_laws.proofs.ActLaws.Reorderings.{rows_once, column_order}
use Rattle.ped_laws.proofs.ActLaws.Rows.{rows_stand, columns_stand, same_blocks, rows_cross_not}
use Rattle.ped_laws.proofs.ActLaws.Exchanging.{exchange_stands}
use Rattle.ped_laws.proofs.ActLaws.Examples.Checks.{before_passes}

-- the acts of the loop, by its iterations, and of the two loops
abbrev pub old_iterations : (ℕ → ℕ → List Act) → (ℕ → Act) → List ℕ → List Act
old_iterations part end [] = []
old_iterations part end (i ∷ more) = part i 1 ++ (part i 2 ++ end i ∷ old_iterations part end more)

abbrev pub new_iterations : (ℕ → ℕ → List Act) → ℕ → (ℕ → Act) → List ℕ → List Act
new_iterations part j end [] = []
new_iterations part j end (i ∷ more) = part i j ++ end i ∷ new_iterations part j end more

-- the ends of the iterations go, and come
abbrev going : (ℕ → ℕ → List Act) → (ℕ → Act) → List ℕ → List Change
going part end [] = []
going part end (i ∷ more) = stay_all (part i 1) ++ (stay_all (part i 2) ++ goes (end i) ∷ going part end more)

abbrev coming : (ℕ → ℕ → List Act) → ℕ → (ℕ → Act) → List ℕ → List Change
coming part j end [] = []
coming part j end (i ∷ more) = stay_all (part i j) ++ comes (end i) ∷ coming part j end more

abbrev all : ℕ → ℕ → Bool
all i j = true

abbrev two : List ℕ
two = 1 ∷ 2 ∷ []

going_before : (part : ℕ → ℕ → List Act) (end : ℕ → Act) (is : List ℕ) → acts_before (going part end is) ≡ old_iterations part end is
going_before part end [] = refl
going_before part end (i ∷ more) =
    before_append (stay_all (part i 1)) (stay_all (part i 2) ++ goes (end i) ∷ going part end more)
    ∙ ap (λ z. z ++ acts_before (stay_all (part i 2) ++ goes (end i) ∷ going part end more)) (before_stay (part i 1))
    ∙ ap (λ z. part i 1 ++ z)
    (before_append (stay_all (part i 2)) (goes (end i) ∷ going part end more)
    ∙ ap (λ z. z ++ acts_before (goes (end i) ∷ going part end more)) (before_stay (part i 2))
    ∙ ap (λ z. part i 2 ++ end i ∷ z) (going_before part end more))

going_behind : (part : ℕ → ℕ → List Act) (end : ℕ → Act) (is : List ℕ) → acts_behind (going part end is) ≡ acts_in_blocks (by_rows all part is two)
going_behind part end [] = refl
going_behind part end (i ∷ more) =
    behind_append (stay_all (part i 1)) (stay_all (part i 2) ++ goes (end i) ∷ going part end more)
    ∙ ap (λ z. z ++ acts_behind (stay_all (part i 2) ++ goes (end i) ∷ going part end more)) (behind_stay (part i 1))
    ∙ ap (λ z. part i 1 ++ z)
    (behind_append (stay_all (part i 2)) (goes (end i) ∷ going part end more)
    ∙ ap (λ z. z ++ acts_behind (goes (end i) ∷ going part end more)) (behind_stay (part i 2))
    ∙ ap (λ z. part i 2 ++ z) (going_behind part end more))

coming_before : (part : ℕ → ℕ → List Act) (j : ℕ) (end : ℕ → Act) (is : List ℕ) → acts_before (coming part j end is) ≡ acts_in_blocks (map (λ i. block_at part i j) (filter (λ i. all i j) is))
coming_before part j end [] = refl
coming_before part j end (i ∷ more) =
    before_append (stay_all (part i j)) (comes (end i) ∷ coming part j end more)
    ∙ ap (λ z. z ++ acts_before (coming part j end more)) (before_stay (part i j))
    ∙ ap (λ z. part i j ++ z) (coming_before part j end more)

coming_behind : (part : ℕ → ℕ → List Act) (j : ℕ) (end : ℕ → Act) (is : List ℕ) → acts_behind (coming part j end is) ≡ new_iterations part j end is
coming_behind part j end [] = refl
coming_behind part j end (i ∷ more) =
    behind_append (stay_all (part i j)) (comes (end i) ∷ coming part j end more)
    ∙ ap (λ z. z ++ end i ∷ acts_behind (coming part j end more)) (behind_stay (part i j))
    ∙ ap (λ z. part i j ++ end i ∷ z) (coming_behind part j end more)

-- an act that reads nothing and writes the set alone
abbrev pub IsIdle : (Cell → Bool) → Act → Type 0
IsIdle d a = WriteWithin d a.touches × ((changing : Cell → Bool) (t : Store) → ReadPlain d changing t a.touches)

going_plain : (d changing : Cell → Bool) (t : Store) (part : ℕ → ℕ → List Act) (end : ℕ → Act) (is : List ℕ) → ((i j : ℕ) → ReadNone d (part i j)) → ((i : ℕ) → IsIdle d (end i)) → PlainChange d changing t (going part end is)
going_plain d changing t part end [] unread idle = tt
going_plain d changing t part end (i ∷ more) unread idle =
    plain_append d changing t (stay_all (part i 1)) (stay_all (part i 2) ++ goes (end i) ∷ going part end more) (stay_plain d changing t (part i 1) (unread i 1))
    (plain_append d changing t (stay_all (part i 2)) (goes (end i) ∷ going part end more) (stay_plain d changing t (part i 2) (unread i 2))
    ((idle i).0, going_plain d changing t part end more unread idle))

coming_plain : (d changing : Cell → Bool) (t : Store) (part : ℕ → ℕ → List Act) (j : ℕ) (end : ℕ → Act) (is : List ℕ) → ((i j : ℕ) → ReadNone d (part i j)) → ((i : ℕ) → IsIdle d (end i)) → PlainChange d changing t (coming part j end is)
coming_plain d changing t part j end [] unread idle = tt
coming_plain d changing t part j end (i ∷ more) unread idle =
    plain_append d changing t (stay_all (part i j)) (comes (end i) ∷ coming part j end more) (stay_plain d changing t (part i j) (unread i j))
    ((idle i).0, (idle i).1 changing t, coming_plain d changing t part j end more unread idle)

-- the loop: its iterations and the parts of its body; its entry and the ends of its iterations, and those of the two loops; the variables that count for nothing; where the stores agree before it and shall agree behind it
pub record Loop : Type 0 where
  pub iterations : List ℕ
  pub part : ℕ → ℕ → List Act
  pub entry : Act
  pub end : ℕ → Act
  pub second_entry : Act
  pub second_end : ℕ → Act
  pub idle : Cell → Bool
  pub before : Cell → Bool
  pub behind : Cell → Bool

abbrev pub old : Loop → List Act
old l = l.entry ∷ old_iterations l.part l.end l.iterations

abbrev pub new : Loop → List Act
new l = l.entry ∷ (new_iterations l.part 1 l.end l.iterations ++ l.second_entry ∷ new_iterations l.part 2 l.second_end l.iterations)

-- what a distribution asks
pub record MayBeDistributed (l : Loop) : Type 0 where
  pub rising : IsRising l.iterations
  pub entry_idle : IsIdle l.idle l.entry
  pub second_idle : IsIdle l.idle l.second_entry
  pub end_idle : (i : ℕ) → IsIdle l.idle (l.end i)
  pub second_end_idle : (i : ℕ) → IsIdle l.idle (l.second_end i)
  pub unread : (i j : ℕ) → ReadNone l.idle (l.part i j)
  pub none_back : (i k : ℕ) → i < k → blocks_conflict_outside l.idle (l.part i 2) (l.part k 1) ≡ false
  pub needed : (c : Cell) → needs (old l) c ≡ true → l.before c ≡ true
  pub wanted : (c : Cell) → l.behind c ≡ true → (l.idle c ≡ false) × ((l.before c ≡ true) ⊎ (written (old l) c ≡ true))

abbrev all_going : Loop → List Change
all_going l = goes l.entry ∷ going l.part l.end l.iterations

abbrev all_coming : Loop → List Change
all_coming l = comes l.entry ∷ (coming l.part 1 l.end l.iterations ++ comes l.second_entry ∷ coming l.part 2 l.second_end l.iterations)

abbrev rows : Loop → List Block
rows l = by_rows all l.part l.iterations two

abbrev columns : Loop → List Block
columns l = by_columns all l.part l.iterations two

abbrev distribution : Loop → Exchange
distribution l = record { names = own_name; idle = l.idle; going = all_going l; blocks = rows l; order = columns l; coming = all_coming l }

two_rise : IsRising two
two_rise m n b = ltb-true m n (before_passes nat_lt two refl m n b)

rows_unread : (d : Cell → Bool) (part : ℕ → ℕ → List Act) (is : List ℕ) → ((i j : ℕ) → ReadNone d (part i j)) → ReadNone d (acts_in_blocks (by_rows all part is two))
rows_unread d part [] unread = tt
rows_unread d part (i ∷ more) unread =
    none_append d (part i 1) (part i 2 ++ acts_in_blocks (by_rows all part more two)) (unread i 1)
    (none_append d (part i 2) (acts_in_blocks (by_rows all part more two)) (unread i 2) (rows_unread d part more unread))

-- only the second part of an earlier iteration could cross the first of a later one
none_cross : (l : Loop) → MayBeDistributed l → (i j k m : ℕ) → IsIn i l.iterations → IsIn j two → IsIn k l.iterations → IsIn m two → all i j ≡ true → all k m ≡ true → i < k → m < j → blocks_conflict_outside l.idle (l.part i j) (l.part k m) ≡ false
none_cross l h i j k m p (inl e) q (inl f) u v less more = absurd (omega (arith, e, f, more))
none_cross l h i j k m p (inl e) q (inr (inl f)) u v less more = absurd (omega (arith, e, f, more))
none_cross l h i j k m p (inr (inl e)) q (inl f) u v less more = (λ z. blocks_conflict_outside l.idle (l.part i (e z)) (l.part k (f z))) ∙ h.none_back i k less
none_cross l h i j k m p (inr (inl e)) q (inr (inl f)) u v less more = absurd (omega (arith, e, f, more))
none_cross l h i j k m p (inl e) q (inr (inr f)) u v less more = absurd f
none_cross l h i j k m p (inr (inl e)) q (inr (inr f)) u v less more = absurd f
none_cross l h i j k m p (inr (inr e)) q g u v less more = absurd e

taken : (l : Loop) → acts_before (all_coming l) ≡ acts_in_blocks (columns l)
taken l =
    before_append (coming l.part 1 l.end l.iterations) (comes l.second_entry ∷ coming l.part 2 l.second_end l.iterations)
    ∙ ap (λ z. z ++ acts_before (coming l.part 2 l.second_end l.iterations)) (coming_before l.part 1 l.end l.iterations)
    ∙ ap (λ z. acts_in_blocks ones ++ z) (coming_before l.part 2 l.second_end l.iterations)
    ∙ sym (blocks_append ones twos)
    ∙ ap (λ z. acts_in_blocks (ones ++ z)) (sym (append-nil twos))
  where
    ones : List Block
    ones = map (λ i. block_at l.part i 1) (filter (λ i. all i 1) l.iterations)

    twos : List Block
    twos = map (λ i. block_at l.part i 2) (filter (λ i. all i 2) l.iterations)

new_is : (l : Loop) → acts_behind (all_coming l) ≡ new l
new_is l =
    ap (λ z. l.entry ∷ z)
    (behind_append (coming l.part 1 l.end l.iterations) (comes l.second_entry ∷ coming l.part 2 l.second_end l.iterations)
    ∙ ap (λ z. z ++ l.second_entry ∷ acts_behind (coming l.part 2 l.second_end l.iterations)) (coming_behind l.part 1 l.end l.iterations)
    ∙ ap (λ z. new_iterations l.part 1 l.end l.iterations ++ l.second_entry ∷ z) (coming_behind l.part 2 l.second_end l.iterations))

allowed : (l : Loop) (s : Store) → MayBeDistributed l → IsAllowed (distribution l) (old l) l.before l.behind s
allowed l s h = record {
  renamed = subst (λ z. Renamed own_name (old l) z) (ap (λ z. l.entry ∷ z) (sym (going_before l.part l.end l.iterations))) (own_names (of_cells (touches_of (old l))));
  one_to_one = λ c d p q e. e;
  needed = λ c k. (h.needed c k, refl);
  go = λ t agree f. plain_changes l.idle (all_going l) t t (h.entry_idle.0, going_plain l.idle (written (acts_before (all_going l))) t l.part l.end l.iterations h.unread h.end_idle);
  are_left = going_behind l.part l.end l.iterations;
  once = rows_once (rows l) rows_are;
  reordered = orders.0;
  kept = orders.1;
  unread = rows_unread l.idle l.part l.iterations h.unread;
  are_taken = taken l;
  come = λ t agree f. plain_changes l.idle (all_coming l) t t (come_plain (written (acts_before (all_coming l))) t);
  wanted = λ c k. ((h.wanted c k).0, refl, (λ d w e. e), (h.wanted c k).1);
}
  where
    rows_are : IsByRows (rows l)
    rows_are = rows_stand all l.part l.iterations two h.rising two_rise

    orders : IsReordered (rows l) (columns l) × KeepsOrder (block_conflict l.idle) (rows l) (columns l)
    orders =
        column_order l.idle (rows l) (columns l) rows_are (columns_stand all l.part l.iterations two h.rising two_rise) (same_blocks all l.part l.iterations two)
        (rows_cross_not l.idle all l.part l.iterations two (none_cross l h))

    come_plain : (changing : Cell → Bool) (t : Store) → PlainChange l.idle changing t (all_coming l)
    come_plain changing t = (
      h.entry_idle.0,
      h.entry_idle.1 changing t,
      plain_append l.idle changing t (coming l.part 1 l.end l.iterations) (comes l.second_entry ∷ coming l.part 2 l.second_end l.iterations)
          (coming_plain l.idle changing t l.part 1 l.end l.iterations h.unread h.end_idle)
          (h.second_idle.0, h.second_idle.1 changing t, coming_plain l.idle changing t l.part 2 l.second_end l.iterations h.unread h.second_end_idle),
    )

-- the two loops may stand for the loop
pub distributed : (l : Loop) (s : Store) → MayBeDistributed l → Fits (old l) s → StandsFor (record { agreed = l.before; old = old l; new = new l }) l.behind s
distributed l s h f =
    subst (λ z. StandsFor (record { agreed = l.before; old = old l; new = z }) l.behind s) (new_is l)
    (exchange_stands (distribution l) (old l) l.before l.behind s f (allowed l s h))

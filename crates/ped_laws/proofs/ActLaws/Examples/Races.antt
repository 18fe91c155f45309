-- Two acts that race, and acts that don't: PARALLEL DO 10 I=1,2; 10 A(I)=I, and 10 T=I in its place. Then DO 20 J=1,N goes round the body of the first: its accesses come from those that were there, but for N, which is read alone, and for J.
use Rattle.std.proofs.Common.{◌≡◌, ℕ, pos, List, [], ◌∷◌, Bool, true, false, ◌&&◌, ◌||◌, Option, Some, None, refl, sym, ap, subst, ◌∙◌, ◌⊎◌, inl, inr}
use Rattle.std.specs.Prelude.{not, ◌==◌, if◌then◌else◌}
use Rattle.std.specs.List.{list_all}
use Rattle.std.proofs.lemmas.Bool.{and_parts, both_ways}
use Rattle.ped_eval.specs.ped_store.specs.Cells.{Cell, Private, same_cell}
use Rattle.ped_eval.specs.ped_store.specs.Stores.{Undefined}
use Rattle.ped_eval.specs.ped_store.specs.Acts.{Touch, writes, did, entered, ended_turn, closed, Turn, Act}
use Rattle.ped_eval.specs.ped_store.specs.Races.{Access, accesses_of, accesses, is_lines, conflict, are_apart, race, HasNoRace}
use Rattle.ped_laws.specs.Acts.Sets.{nothing}
use Rattle.ped_laws.specs.Acts.Conflicts.{acts_conflict, acts_conflict_outside}
use Rattle.ped_laws.specs.Acts.Orders.{IsIn}
use Rattle.ped_laws.specs.Acts.Origins.{told_to, WritesItsLines, HaveOrigins}
use Rattle.ped_laws.proofs.ActLaws.Conflicting.{conflict_of_accesses, accesses_of_conflict, accesses_outside, acts_of_blocks}
use Rattle.ped_laws.proofs.ActLaws.RaceFree.{no_race_before, no_race_from, apart_flip, origins_race_free, race_free_acts}
use Rattle.ped_laws.proofs.ActLaws.Examples.Checks.{in_passes, before_passes, not_is, implied}
use Rattle.ped_laws.proofs.ActLaws.Examples.Lists.{i, j, n, t, a, told, read, write, act}

abbrev iteration : ℕ → Turn
iteration k = record { statement = 1; parallel = true; number = k; value = pos k }

-- the copies of I and of J in iteration k
abbrev index : ℕ → Cell
index k = Private (73 ∷ []) (record { statement = 1; number = k } ∷ [])

abbrev inner_index : ℕ → Cell
inner_index k = Private (74 ∷ []) (record { statement = 1; number = k } ∷ [])

abbrev undefines : Cell → Touch
undefines x = record { cell = x; manner = writes; content = Undefined; reference = 0 }

-- A(I)=I and T=I in iteration k
abbrev sets_a : ℕ → Act
sets_a k = act did 2 (iteration k ∷ []) (told (index k) k 0 ∷ told (index k) k 0 ∷ write (a k) k 1 ∷ [])

abbrev sets_t : ℕ → Act
sets_t k = act did 2 (iteration k ∷ []) (told (index k) k 0 ∷ write t k 1 ∷ [])

abbrev entry : Act
entry = act (entered 2) 1 [] []

abbrev close : Act
close = act closed 1 [] (undefines i ∷ [])

abbrev free : List Act
free = entry ∷ sets_a 1 ∷ sets_a 2 ∷ close ∷ []

abbrev racing : List Act
racing = entry ∷ sets_t 1 ∷ sets_t 2 ∷ close ∷ []

-- acts that touch no lines
without_lines : (x : Act) → list_all (λ t. not (is_lines t.cell)) x.touches ≡ true → WritesItsLines x
without_lines x h t i lines = absurd (both_ways (is_lines t.cell) (not_is (is_lines t.cell) (in_passes (λ t. not (is_lines t.cell)) x.touches h t i)) lines)

-- no access races with one behind it: no_race_by_pairs
free_of_races : HasNoRace (accesses free)
free_of_races = no_race_from (accesses free) (λ p q before. not_is (race p q) (before_passes (λ p q. not (race p q)) (accesses free) refl p q before))

-- so the iterations don't conflict: race_free_acts
iterations_apart : acts_conflict (sets_a 1) (sets_a 2) ≡ false
iterations_apart = race_free_acts free (sets_a 1) (sets_a 2) free_of_races (inr (inl (refl, inl refl))) refl (without_lines (sets_a 1) refl) (without_lines (sets_a 2) refl)

-- whichever is named first: apart_either_way
either_way : are_apart (iteration 2 ∷ []) (iteration 1 ∷ []) ≡ true
either_way = apart_flip (iteration 1 ∷ []) (iteration 2 ∷ []) one_kind refl
  where
    one_kind : (v w : Turn) → IsIn v (iteration 1 ∷ []) → IsIn w (iteration 2 ∷ []) → v.statement ≡ w.statement → v.parallel ≡ w.parallel
    one_kind v w (inl e) (inl f) h = ap (λ (z : Turn). z.parallel) e ∙ sym (ap (λ (z : Turn). z.parallel) f)
    one_kind v w (inr k) f h = absurd k
    one_kind v w (inl e) (inr k) h = absurd k

-- T is written in both iterations
abbrev writes_t : ℕ → Access
writes_t k = record { cell = t; writes = true; place = (sets_t k).place; reference = 1 }

not_free_of_races : HasNoRace (accesses racing) → ⊥
not_free_of_races h = both_ways (race (writes_t 1) (writes_t 2)) (no_race_before (accesses racing) (writes_t 1) (writes_t 2) h (inr (inl (refl, inr (inl refl))))) refl

-- accesses that conflict are of acts that do: conflicting_accesses
acts_of_accesses : (acts_conflict (sets_t 1) (sets_t 2) ≡ true) ⊎ ((told_to (sets_t 1) t ≡ true) ⊎ (told_to (sets_t 2) t ≡ true))
acts_of_accesses = conflict_of_accesses (sets_t 1) (sets_t 2) (writes_t 1) (writes_t 2) (inr (inl refl)) (inr (inl refl)) refl

-- but for a value that the place tells: an act that is told I doesn't conflict with one that writes I, and their accesses do
abbrev is_told_i : Act
is_told_i = act did 2 (iteration 1 ∷ []) (told i 1 0 ∷ write t 1 1 ∷ [])

told_apart : acts_conflict is_told_i close ≡ false
told_apart = refl

told_conflicts : conflict (record { cell = i; writes = false; place = is_told_i.place; reference = 0 }) (record { cell = i; writes = true; place = close.place; reference = 0 }) ≡ true
told_conflicts = refl

told_is : (acts_conflict is_told_i close ≡ true) ⊎ ((told_to is_told_i i ≡ true) ⊎ (told_to close i ≡ true))
told_is = conflict_of_accesses is_told_i close (record { cell = i; writes = false; place = is_told_i.place; reference = 0 }) (record { cell = i; writes = true; place = close.place; reference = 0 }) (inl refl) (inl refl) refl

-- acts that conflict have accesses that do: acts_that_conflict
accesses_of_acts : (p q : Access) × IsIn p (accesses_of (sets_t 1)) × IsIn q (accesses_of (sets_t 2)) × (conflict p q ≡ true)
accesses_of_acts = accesses_of_conflict (sets_t 1) (sets_t 2) (without_lines (sets_t 1) refl) (without_lines (sets_t 2) refl) refl

accesses_but_i : (p q : Access) × IsIn p (accesses_of (sets_t 1)) × IsIn q (accesses_of (sets_t 2)) × (conflict p q ≡ true) × (same_cell i p.cell ≡ false)
accesses_but_i = accesses_outside (same_cell i) (sets_t 1) (sets_t 2) (without_lines (sets_t 1) refl) (without_lines (sets_t 2) refl) refl

-- blocks that conflict have acts that do: blocks_that_conflict
acts_of_iterations : (x y : Act) × IsIn x (sets_a 1 ∷ sets_t 1 ∷ []) × IsIn y (sets_a 2 ∷ sets_t 2 ∷ []) × (acts_conflict_outside nothing x y ≡ true)
acts_of_iterations = acts_of_blocks nothing (sets_a 1 ∷ sets_t 1 ∷ []) (sets_a 2 ∷ sets_t 2 ∷ []) refl

-- DO 20 J=1,N with one iteration round A(I)=I
abbrev inner : Turn
inner = record { statement = 3; parallel = false; number = 1; value = pos 1 }

abbrev inner_entry : ℕ → Act
inner_entry k = act (entered 1) 3 (iteration k ∷ []) (read n 1 1 ∷ [])

abbrev inner_sets_a : ℕ → Act
inner_sets_a k = act did 4 (iteration k ∷ inner ∷ []) (told (index k) k 0 ∷ told (index k) k 0 ∷ write (a k) k 1 ∷ [])

abbrev inner_exit : ℕ → Act
inner_exit k = act (ended_turn 0) 3 (iteration k ∷ []) (write (inner_index k) 2 0 ∷ [])

abbrev new_close : Act
new_close = act closed 1 [] (undefines i ∷ undefines j ∷ [])

abbrev new : List Act
new = entry ∷ inner_entry 1 ∷ inner_sets_a 1 ∷ inner_exit 1 ∷ inner_entry 2 ∷ inner_sets_a 2 ∷ inner_exit 2 ∷ new_close ∷ []

-- the iteration of the outer loop alone
abbrev outer_turn : List Turn → List Turn
outer_turn [] = []
outer_turn (u ∷ us) = u ∷ []

-- where an access comes from: one of A(I)=I from that without J, and that of I at the close from itself; those of N and J from none
abbrev from : Access → Option Access
from b =
    if b.place.statement == 4 then Some (record { cell = b.cell; writes = b.writes; place = record { statement = 2; turns = outer_turn b.place.turns }; reference = b.reference })
    else if b.place.statement == 1 && same_cell i b.cell then Some b
    else None

-- what is asked of an origin, and what where there is none
abbrev of_origin : Option Access → (Access → Bool) → Bool → Bool
of_origin (Some x) test none = test x
of_origin None test none = none

of_some : (o : Option Access) (x : Access) (test : Access → Bool) (none : Bool) → o ≡ Some x → of_origin o test none ≡ true → test x ≡ true
of_some o x test none e h = ap (λ z. of_origin z test none) (sym e) ∙ h

of_none : (o : Option Access) (test : Access → Bool) (none : Bool) → o ≡ None → of_origin o test none ≡ true → none ≡ true
of_none o test none e h = ap (λ z. of_origin z test none) (sym e) ∙ h

abbrev Found : Option Access → Type 0
Found (Some x) = IsIn x (accesses free)
Found None = Unit {0}

abbrev AllFound : List Access → Type 0
AllFound [] = Unit {0}
AllFound (b ∷ bs) = Found (from b) × AllFound bs

found_in : (bs : List Access) → AllFound bs → (b : Access) → IsIn b bs → Found (from b)
found_in [] h b k = absurd k
found_in (c ∷ bs) h b (inl e) = subst (λ z. Found (from z)) (sym e) h.0
found_in (c ∷ bs) h b (inr k) = found_in bs h.1 b k

all_found : AllFound (accesses new)
all_found = (
  tt,
  (
    inl refl,
    (
      inr (inl refl),
      (
        inr (inr (inl refl)),
        (
          tt,
          (
            tt,
            (
              inr (inr (inr (inl refl))),
              (inr (inr (inr (inr (inl refl)))), (inr (inr (inr (inr (inr (inl refl))))), (tt, (inr (inr (inr (inr (inr (inr (inl refl)))))), (tt, tt))))),
            ),
          ),
        ),
      ),
    ),
  ),
)

-- the tests run through the list
abbrev writes_too : Access → Bool
writes_too b = of_origin (from b) (λ x. not b.writes || x.writes) true

abbrev meets : Access → Access → Bool
meets b c = are_apart b.place.turns c.place.turns && conflict b c

abbrev one_cell : Access → Access → Bool
one_cell b c = of_origin (from b) (λ x. of_origin (from c) (λ y. not (same_cell b.cell c.cell) || same_cell x.cell y.cell) true) true

abbrev apart : Access → Access → Bool
apart b c = of_origin (from b) (λ x. of_origin (from c) (λ y. not (meets b c) || (are_apart x.place.turns y.place.turns && are_apart y.place.turns x.place.turns)) true) true

abbrev alone : Access → Access → Bool
alone b c = of_origin (from b) (λ x. true) (not (meets b c)) && of_origin (from c) (λ x. true) (not (meets b c))

pairs : (test : Access → Access → Bool) → list_all (λ b. list_all (test b) (accesses new)) (accesses new) ≡ true → (b c : Access) → IsIn b (accesses new) → IsIn c (accesses new) → test b c ≡ true
pairs test h b c k l = in_passes (test b) (accesses new) (in_passes (λ b. list_all (test b) (accesses new)) (accesses new) h b k) c l

meet_not : (p q : Bool) → not (p && q) ≡ true → p ≡ true → q ≡ false
meet_not true true h e = absurd cc
meet_not true false h e = refl
meet_not false q h e = absurd cc

-- the accesses of the new list come from the old one: origins
have_origins : HaveOrigins from free new
have_origins = record {
  found = λ b x k e. subst Found e (found_in (accesses new) all_found b k);
  written = λ b x k e w. implied b.writes x.writes (of_some (from b) x (λ x. not b.writes || x.writes) true e (in_passes writes_too (accesses new) refl b k)) w;
  one_cell = λ b c x y k l e f s.
      implied (same_cell b.cell c.cell) (same_cell x.cell y.cell)
      (of_some (from c) y (λ y. not (same_cell b.cell c.cell) || same_cell x.cell y.cell) true f
      (of_some (from b) x (λ x. of_origin (from c) (λ y. not (same_cell b.cell c.cell) || same_cell x.cell y.cell) true) true e (pairs one_cell refl b c k l))) s;
  apart = λ b c x y k l e f s m.
      and_parts (are_apart x.place.turns y.place.turns) (are_apart y.place.turns x.place.turns)
      (implied (meets b c) (are_apart x.place.turns y.place.turns && are_apart y.place.turns x.place.turns)
      (of_some (from c) y (λ y. not (meets b c) || (are_apart x.place.turns y.place.turns && are_apart y.place.turns x.place.turns)) true f
      (of_some (from b) x (λ x. of_origin (from c) (λ y. not (meets b c) || (are_apart x.place.turns y.place.turns && are_apart y.place.turns x.place.turns)) true) true e (pairs apart refl b c k l)))
      (ap (λ z. z && conflict b c) s ∙ m));
  alone = λ b c k l e s.
      meet_not (are_apart b.place.turns c.place.turns) (conflict b c)
      (of_none (from b) (λ x. true) (not (meets b c)) e (and_parts (of_origin (from b) (λ x. true) (not (meets b c))) (of_origin (from c) (λ x. true) (not (meets b c))) (pairs alone refl b c k l)).0) s;
  alone_behind = λ b c k l e s.
      meet_not (are_apart b.place.turns c.place.turns) (conflict b c)
      (of_none (from c) (λ x. true) (not (meets b c)) e (and_parts (of_origin (from b) (λ x. true) (not (meets b c))) (of_origin (from c) (λ x. true) (not (meets b c))) (pairs alone refl b c k l)).1) s;
}

new_free_of_races : HasNoRace (accesses new)
new_free_of_races = origins_race_free from free new have_origins free_of_races

-- The acts of a DO: its entry, its trips, and what it does when it is left.
use Rattle.std.proofs.Common.{◌≡◌, ◌⊎◌, ℕ, zero, suc, ◌+◌, ◌-◌, ◌≤◌, ◌<◌, List, [], ◌∷◌, ◌++◌, Bool, true, false, ◌&&◌, ◌==◌, not, if◌then◌else◌, refl, sym, ap, ◌∙◌, subst, inl, inr, arith}
use Rattle.std.specs.List.{flat_map, range_with_len}
use Rattle.std.proofs.lemmas.Bool.Decides.{nat_tests}
use Rattle.ped_bodies.specs.ped_store.specs.Cells.{Cell}
use Rattle.ped_bodies.specs.ped_store.specs.Acts.{reads, writes, Touch, Place, closed, ended_turn, Act}
use Rattle.ped_bodies.specs.ped_eval.specs.Evaluation.{Seen, cell_seen, index_seen, numbered, number_behind}
use Rattle.ped_bodies.specs.ped_eval.specs.Loops.{Entered, exit_touches, exit_when_none, undefined_by, undefined_all}
use Rattle.ped_bodies.specs.ped_eval.specs.Scopes.{Scope, cell_of}
use Rattle.ped_bodies.specs.ped_laws.specs.Acts.Orders.{IsIn}
use Rattle.ped_bodies.specs.ped_laws.specs.Runs.Replaying.{act}
use Rattle.ped_bodies.specs.ped_laws.proofs.ActLaws.Lists.{in_left, in_right, in_parts}
use Rattle.ped_bodies.specs.Trips.{loop_entry, trip_end, trips, loop_close, loop_acts}

-- items of lists for some numbers, one behind the other
in_flat : {X : Type 0} (g : ℕ → List X) (x : X) (from count k : ℕ) → from ≤ k → k < from + count → IsIn x (g k) → IsIn x (flat_map g (range_with_len from count))
in_flat g x from zero k low high i = absurd (omega (arith, low, high))
in_flat g x from (suc count) k low high i = go (k == from) refl (λ more. in_flat g x (from + 1) count k more (omega (arith, high)) i)
  where
    go : (b : Bool) → (k == from) ≡ b → (from + 1 ≤ k → IsIn x (flat_map g (range_with_len (from + 1) count))) → IsIn x (g from ++ flat_map g (range_with_len (from + 1) count))
    go true e later = let same : k ≡ from = grind (arith, nat_tests, e) in in_left x (g from) (flat_map g (range_with_len (from + 1) count)) (subst (λ (m : ℕ). IsIn x (g m)) same i)
    go false e later = let more : from + 1 ≤ k = grind (arith, nat_tests, e, low) in in_right x (g from) (flat_map g (range_with_len (from + 1) count)) (later more)

of_flat : {X : Type 0} (g : ℕ → List X) (x : X) (from count : ℕ) → IsIn x (flat_map g (range_with_len from count)) → (k : ℕ) × (from ≤ k) × (k < from + count) × IsIn x (g k)
of_flat g x from zero i = absurd i
of_flat g x from (suc count) i = elim (in_parts x (g from) (flat_map g (range_with_len (from + 1) count)) i) [
  | inl here ↦ (from, omega arith, omega arith, here)
  | inr later ↦ let r = of_flat g x (from + 1) count later in let low = r.1 in let high = r.2 in (r.0, omega (arith, low), omega (arith, high), r.3)
]

-- what is read in bounds by references
pub numbered_reads : (n : ℕ) (seen : List Seen) (v : Touch) → IsIn v (numbered n seen) → 0 < v.reference → v.manner ≡ reads
numbered_reads n [] v i some = absurd i
numbered_reads n (cell_seen c content ∷ more) v (inl e) some = ap (λ (z : Touch). z.manner) e
numbered_reads n (cell_seen c content ∷ more) v (inr i) some = numbered_reads (suc n) more v i some
numbered_reads n (index_seen c value ∷ more) v (inl e) some = let none : v.reference ≡ 0 = ap (λ (z : Touch). z.reference) e in absurd (omega (arith, some, none))
numbered_reads n (index_seen c value ∷ more) v (inr i) some = numbered_reads n more v i some

pub reads_numbered : (n : ℕ) (seen : List Seen) (v : Touch) → IsIn v (numbered n seen) → v.manner ≡ reads → n ≤ v.reference
reads_numbered n [] v i e = absurd i
reads_numbered n (cell_seen c content ∷ more) v (inl is) e = let same : v.reference ≡ n = ap (λ (z : Touch). z.reference) is in omega (arith, same)
reads_numbered n (cell_seen c content ∷ more) v (inr i) e = let less = reads_numbered (suc n) more v i e in omega (arith, less)
reads_numbered n (index_seen c value ∷ more) v (inl is) e = let told = sym (ap (λ (z : Touch). z.manner) is) ∙ e in absurd cc
reads_numbered n (index_seen c value ∷ more) v (inr i) e = reads_numbered n more v i e

pub behind_numbered : (n : ℕ) (seen : List Seen) → n ≤ number_behind n seen
behind_numbered n [] = omega arith
behind_numbered n (cell_seen c content ∷ more) = let less = behind_numbered (suc n) more in omega (arith, less)
behind_numbered n (index_seen c value ∷ more) = behind_numbered n more

-- PRIVATE names that become undefined, by references from one number on and from another
pub record IsUndefined (scope : Scope) (m : ℕ) (xs : List (List ℕ)) (c : Cell) : Type 0 where
  pub touch : Touch
  pub among : IsIn touch (undefined_by scope m xs)
  pub cell : touch.cell ≡ c
  pub manner : touch.manner ≡ writes
  pub referred : m ≤ touch.reference

pub other_undefined : (scope : Scope) (n m : ℕ) (xs : List (List ℕ)) (v : Touch) → IsIn v (undefined_by scope n xs) → (v.manner ≡ writes) × IsUndefined scope m xs v.cell
other_undefined scope n m [] v i = absurd i
other_undefined scope n m (x ∷ xs) v (inl e) = (
  ap (λ (z : Touch). z.manner) e,
  record { touch = record { cell = cell_of scope x; manner = writes; content = v.content; reference = m }; among = inl (ap (λ (z : Touch). record { cell = cell_of scope x; manner = writes; content = z.content; reference = m }) e); cell = ap (λ (z : Touch). z.cell) (sym e); manner = refl; referred = omega arith },
)
other_undefined scope n m (x ∷ xs) v (inr i) =
    let r = other_undefined scope (suc n) (suc m) xs v i in
    let more = r.1.referred in
    (r.0, record { touch = r.1.touch; among = inr r.1.among; cell = r.1.cell; manner = r.1.manner; referred = omega (arith, more) })

pub own_unreferred : (scope : Scope) (xs : List (List ℕ)) (v : Touch) → IsIn v (undefined_all scope xs) → v.reference ≡ 0
own_unreferred scope [] v i = absurd i
own_unreferred scope (x ∷ xs) v (inl e) = ap (λ (z : Touch). z.reference) e
own_unreferred scope (x ∷ xs) v (inr i) = own_unreferred scope xs v i

module _ (seen : List Seen) (e : Entered) (scope : Scope) (at : Place) (trip : ℕ → List Act) where
  abbrev all : List Act
  all = loop_acts seen e scope at trip

  -- an act that leaves the DO: it stands at the DO's place
  pub record IsExit : Type 0 where
    pub by : Act
    pub found : IsIn by all
    pub place : by.place ≡ at
    pub has : (v : Touch) → IsIn v (exit_touches e scope) → IsIn v by.touches

  in_order_exit : (e.count == 0) ≡ false → e.head.parallel ≡ false → IsExit
  in_order_exit some in_order =
      let none : (e.count - e.count == 0) ≡ true = grind arith in
      let last : Act = act (ended_turn (e.count - e.count)) at (exit_when_none (e.count - e.count) e scope) in
      let low : 1 ≤ e.count = grind (arith, nat_tests, some) in
      let ends : IsIn last (trip_end e scope at e.count) = subst (λ (b : Bool). IsIn last (if b then [] else last ∷ [])) (sym in_order) (inl refl) in
      record {
        by = last;
        found = inr (in_left last (trips e scope at trip 1 e.count) (loop_close e scope at) (in_flat (λ j. trip j ++ trip_end e scope at j) last 1 e.count e.count low (omega arith) (in_right last (trip e.count) (trip_end e scope at e.count) ends)));
        place = refl;
        has = λ v i. subst (λ (b : Bool). IsIn v (if b then exit_touches e scope else [])) (sym none) i;
      }

  pub exit_of : IsExit
  exit_of = by_count (e.count == 0) refl
    where
      closing : Act
      closing = act closed at (exit_touches e scope)

      by_flag : (b : Bool) → e.head.parallel ≡ b → (e.count == 0) ≡ false → IsExit
      by_flag true f some =
          let is : loop_close e scope at ≡ closing ∷ [] = λ i. if f i && not (some i) then closing ∷ [] else [] in
          record { by = closing; found = inr (in_right closing (trips e scope at trip 1 e.count) (loop_close e scope at) (subst (λ (acts : List Act). IsIn closing acts) (sym is) (inl refl))); place = refl; has = λ v i. i }
      by_flag false f some = in_order_exit some f

      by_count : (b : Bool) → (e.count == 0) ≡ b → IsExit
      by_count true none = record {
        by = loop_entry seen e scope at;
        found = inl refl;
        place = refl;
        has = λ v i. in_right v (numbered 1 seen) (exit_when_none e.count e scope) (subst (λ (b : Bool). IsIn v (if b then exit_touches e scope else [])) (sym none) i);
      }
      by_count false some = by_flag e.head.parallel refl some

  pub when_none : (n : ℕ) (v : Touch) → IsIn v (exit_when_none n e scope) → IsIn v (exit_touches e scope)
  when_none n v i = go (n == 0) i
    where
      go : (b : Bool) → IsIn v (if b then exit_touches e scope else []) → IsIn v (exit_touches e scope)
      go true j = j
      go false j = absurd j

  -- an act stands at the DO's place, and touches no more than its exit does
  pub record IsControl (a : Act) : Type 0 where
    pub place : a.place ≡ at
    pub touches : (v : Touch) → IsIn v a.touches → IsIn v (exit_touches e scope)

  pub record IsOfTrip (a : Act) : Type 0 where
    pub number : ℕ
    pub from : 1 ≤ number
    pub to : number ≤ e.count
    pub there : IsIn a (trip number)

  -- each act is the entry, or of a trip, or one of these
  pub act_of_loop : (a : Act) → IsIn a all → (a ≡ loop_entry seen e scope at) ⊎ (IsOfTrip a ⊎ IsControl a)
  act_of_loop a (inl is) = inl is
  act_of_loop a (inr i) = inr (elim (in_parts a (trips e scope at trip 1 e.count) (loop_close e scope at) i) [
    | inl inside ↦ of_trip (of_flat (λ j. trip j ++ trip_end e scope at j) a 1 e.count inside)
    | inr behind ↦ inr (of_close (e.head.parallel && not (e.count == 0)) behind)
  ])
    where
      of_end : (j : ℕ) (b : Bool) → IsIn a (if b then [] else act (ended_turn (e.count - j)) at (exit_when_none (e.count - j) e scope) ∷ []) → IsControl a
      of_end j true k = absurd k
      of_end j false (inl is) = record { place = ap (λ (z : Act). z.place) is; touches = λ v h. when_none (e.count - j) v (subst (λ (z : Act). IsIn v z.touches) is h) }
      of_end j false (inr k) = absurd k

      of_trip : (k : ℕ) × (1 ≤ k) × (k < 1 + e.count) × IsIn a (trip k ++ trip_end e scope at k) → IsOfTrip a ⊎ IsControl a
      of_trip r = elim (in_parts a (trip r.0) (trip_end e scope at r.0) r.3) [
        | inl there ↦ (let high = r.2 in inl (record { number = r.0; from = r.1; to = omega (arith, high); there = there }))
        | inr ends ↦ inr (of_end r.0 e.head.parallel ends)
      ]

      of_close : (b : Bool) → IsIn a (if b then act closed at (exit_touches e scope) ∷ [] else []) → IsControl a
      of_close true (inl is) = record { place = ap (λ (z : Act). z.place) is; touches = λ v h. subst (λ (z : Act). IsIn v z.touches) is h }
      of_close true (inr k) = absurd k
      of_close false k = absurd k

  -- acts of trips and the entry are among all
  pub trip_among : (k : ℕ) → 1 ≤ k → k ≤ e.count → (a : Act) → IsIn a (trip k) → IsIn a all
  trip_among k from to a i =
      inr (in_left a (trips e scope at trip 1 e.count) (loop_close e scope at) (in_flat (λ j. trip j ++ trip_end e scope at j) a 1 e.count k from (omega (arith, to)) (in_left a (trip k) (trip_end e scope at k) i)))

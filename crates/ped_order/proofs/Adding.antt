-- The table with one access more.
use Rattle.std.proofs.Common.{◌≡◌, ℕ, ◌+◌, ◌<◌, ◌≤◌, List, [], ◌∷◌, ◌++◌, map, length, take, Bool, true, false, ◌&&◌, ◌||◌, not, Option, Some, None, refl, sym, ap, subst, ◌∙◌, arith}
use Rattle.std.specs.Prelude.{if◌then◌else◌, ltb}
use Rattle.std.specs.Map.{lookup}
use Rattle.std.proofs.lemmas.Bool.{ltb-true, ltb-false, lt-ltb}
use Rattle.std.proofs.lemmas.List.{length-append, length-take-le, take-map, length-map}
use Rattle.ped_store.specs.Cells.{Cell, same_cell}
use Rattle.ped_store.specs.Acts.{Turn}
use Rattle.ped_store.specs.Races.{Access}
use Rattle.ped_order.specs.Keys.{Key, is_elsewhere, is_rival}
use Rattle.ped_order.specs.KeyLaws.{cell_decides}
use Rattle.ped_order.specs.Paths.{level_view, common_count}
use Rattle.ped_order.specs.declared.sightings.Sighting.{Sighting}
use Rattle.ped_order.specs.declared.sightings.Entry.{Entry}
use Rattle.ped_order.specs.declared.sightings.Summary.{Summary}
use Rattle.ped_order.specs.declared.touched.Touched.{Touched}
use Rattle.ped_order.specs.declared.tables.Table.{Table}
use Rattle.ped_order.specs.Sightings.{first_of, first_sighting, sighting_of, rival_among}
use Rattle.ped_order.specs.Entered.{Telling, told_by, is_within, Enters, Spreads}
use Rattle.ped_order.specs.Tables.{Remembers, told_with, told_in, is_told, IsKnown}
use Rattle.ped_order.proofs.Searches.{found_more}
use Rattle.ped_order.proofs.PathLaws.{too_short, front_tells, common_tells, nothing_within}
use Rattle.ped_order.proofs.Remembering.{as_it_was, known_tells}

nothing_more : (o : Option Sighting) (b : Bool) → o ≡ first_of o (if b then None else None)
nothing_more o true = as_it_was o
nothing_more o false = as_it_was o

-- of no access nothing is entered
pub spread_none : (entries : List (Key × Entry)) (from : ℕ) (ts : List Turn) (seen : Option Summary) (c : Cell) → seen ≡ None → Spreads entries entries from ts seen c
spread_none entries from ts seen c e k n w =
    nothing_more (told_by entries k n w) (is_within from k && (is_elsewhere k.around k.statement n ts && same_cell c k.cell))
    ∙ ap (λ (o : Option Summary). first_of (told_by entries k n w) (if is_within from k && (is_elsewhere k.around k.statement n ts && same_cell c k.cell) then rival_among o w else None)) (sym e)

-- from a turn on that the path hasn't nothing is entered
pub spread_short : (entries : List (Key × Entry)) (from : ℕ) (ts : List Turn) (seen : Option Summary) (c : Cell) → length ts ≤ from → Spreads entries entries from ts seen c
spread_short entries from ts seen c h k n w =
    as_it_was (told_by entries k n w)
    ∙ ap (λ b. first_of (told_by entries k n w) (if b then rival_among seen w else None)) (sym (nothing_within k n from ts (same_cell c k.cell) h))

first_alone : (o : Option Sighting) (s : Sighting) (g e c w : Bool) → first_of o (if g && (e && (c && (false || w))) then Some s else None) ≡ first_of o (if g && (e && c) then (if w then Some s else None) else None)
first_alone o s true true true w = refl
first_alone o s true true false w = refl
first_alone o s true false c w = refl
first_alone o s false e c w = refl

-- where there is no write among them
pub spread_first : (old new : List (Key × Entry)) (from : ℕ) (a : Access) (sum : Summary) → a.writes ≡ false → sum.write ≡ None → Enters (told_by old) new from sum.first a → Spreads old new from a.place.turns (Some sum) a.cell
spread_first old new from a sum reads none h k n w =
    h k n w
    ∙ ap (λ r. first_of (told_by old k n w) (if is_within from k && (is_elsewhere k.around k.statement n a.place.turns && (same_cell a.cell k.cell && (r || w))) then Some sum.first else None)) reads
    ∙ first_alone (told_by old k n w) sum.first (is_within from k) (is_elsewhere k.around k.statement n a.place.turns) (same_cell a.cell k.cell) w
    ∙ ap (λ (o : Option Sighting). first_of (told_by old k n w) (if is_within from k && (is_elsewhere k.around k.statement n a.place.turns && same_cell a.cell k.cell) then (if w then Some sum.first else o) else None)) (sym none)

both_alone : (o : Option Sighting) (s t : Sighting) (g e c w : Bool) → first_of (first_of o (if g && (e && (c && (false || w))) then Some s else None)) (if g && (e && (c && (true || w))) then Some t else None) ≡ first_of o (if g && (e && c) then (if w then Some s else Some t) else None)
both_alone (Some x) s t g e c w = refl
both_alone None s t true true true true = refl
both_alone None s t true true true false = refl
both_alone None s t true true false w = refl
both_alone None s t true false c w = refl
both_alone None s t false e c w = refl

-- where there is one
pub spread_both : (old mid new : List (Key × Entry)) (from : ℕ) (a b : Access) (sum : Summary) (s : Sighting) → a.writes ≡ false → b.writes ≡ true → a.cell ≡ b.cell → a.place.turns ≡ b.place.turns → sum.write ≡ Some s
    → Enters (told_by old) mid from sum.first a → Enters (told_by mid) new from s b → Spreads old new from b.place.turns (Some sum) b.cell
spread_both old mid new from a b sum s reads writes cells turns some h g k n w =
    g k n w
    ∙ ap (λ (o : Option Sighting). first_of o (if is_within from k && is_rival k n w b then Some s else None)) (h k n w)
    ∙ (λ i. first_of (first_of (told_by old k n w) (if is_within from k && (is_elsewhere k.around k.statement n (turns i) && (same_cell (cells i) k.cell && (reads i || w))) then Some sum.first else None)) (if is_within from k && (is_elsewhere k.around k.statement n b.place.turns && (same_cell b.cell k.cell && (writes i || w))) then Some s else None))
    ∙ both_alone (told_by old k n w) sum.first s (is_within from k) (is_elsewhere k.around k.statement n b.place.turns) (same_cell b.cell k.cell) w
    ∙ ap (λ (o : Option Sighting). first_of (told_by old k n w) (if is_within from k && (is_elsewhere k.around k.statement n b.place.turns && same_cell b.cell k.cell) then (if w then Some sum.first else o) else None)) (sym some)

-- what is known, and what comes to it, at a key whose cell it is
told_like : (o : Option Touched) (f g : Telling) (k : Key) (n : ℕ) (w : Bool) → f k n w ≡ g k n w → told_in o f k n w ≡ told_in o g k n w
told_like None f g k n w e = refl
told_like (Some c) f g k n w e = ap (λ (x : Option Sighting). if ltb (length k.around) (length c.path) then (if is_elsewhere k.around k.statement n (map level_view c.path) then rival_among c.seen w else None) else x) e

told_here : (o : Option Touched) (c : Touched) (k : Key) → IsKnown o c → ltb (length k.around) (length c.path) ≡ true → is_told o k ≡ true
told_here None c k e h = refl
told_here (Some known) c k e h = ap (λ (d : Touched). ltb (length k.around) (length d.path)) (sym e) ∙ h

one_path : (d q : Bool) (r : Option Sighting) (s : Sighting) → (if d then first_of r (if q then Some s else None) else None) ≡ first_of (if d then r else None) (if d && (true && q) then Some s else None)
one_path true q r s = refl
one_path false q r s = refl

-- an access that has been added
pub record IsAdded (old new : Table) (known after : Touched) (mid : List (Key × Entry)) (c : ℕ) (s : Sighting) (b : Access) : Type 0 where
  pub sighting : s ≡ sighting_of old.told b
  pub told : new.told ≡ old.told + 1
  pub is_known : IsKnown (lookup (same_cell b.cell) old.cells.entries) known
  pub common : c ≡ common_count (map level_view known.path) b.place.turns
  pub within : c ≤ length known.path
  pub path : after.path ≡ take c known.path
  pub seen : (w : Bool) → rival_among after.seen w ≡ first_of (rival_among known.seen w) (if b.writes || w then Some s else None)
  pub cells : (d : Cell) → lookup (same_cell d) new.cells.entries ≡ (if same_cell b.cell d then Some after else lookup (same_cell d) old.cells.entries)
  pub spread : Spreads old.entries.entries mid c (map level_view known.path) known.seen b.cell
  pub entered : Enters (told_by mid) new.entries.entries c s b

module _ (old new : Table) (known after : Touched) (mid : List (Key × Entry)) (c : ℕ) (s : Sighting) (b : Access) (seen : List Access) (h : IsAdded old new known after mid c s b) (r : Remembers old seen) where
  abbrev told_old : Telling
  told_old = told_by old.entries.entries

  abbrev told_new : Telling
  told_new = told_by new.entries.entries

  -- at keys that the access isn't entered at, the table says what it did
  kept : (k : Key) (n : ℕ) (w : Bool) → is_within c k && (is_elsewhere k.around k.statement n (map level_view known.path) && same_cell b.cell k.cell) ≡ false → is_within c k && is_rival k n w b ≡ false → told_new k n w ≡ told_old k n w
  kept k n w e f =
      h.entered k n w
      ∙ ap (λ q. first_of (told_by mid k n w) (if q then Some s else None)) f
      ∙ sym (as_it_was (told_by mid k n w))
      ∙ h.spread k n w
      ∙ ap (λ q. first_of (told_old k n w) (if q then rival_among known.seen w else None)) e
      ∙ sym (as_it_was (told_old k n w))

  and_other : (g e q : Bool) → q ≡ false → g && (e && q) ≡ false
  and_other true true q f = f
  and_other true false q f = refl
  and_other false e q f = refl

  and_none : (g e q p : Bool) → q ≡ false → g && (e && (q && p)) ≡ false
  and_none g e q p f = and_other g e (q && p) (ap (λ x. x && p) f)

  kept_other : (k : Key) (n : ℕ) (w : Bool) → same_cell b.cell k.cell ≡ false → told_new k n w ≡ told_old k n w
  kept_other k n w e =
      kept k n w (and_other (is_within c k) (is_elsewhere k.around k.statement n (map level_view known.path)) (same_cell b.cell k.cell) e)
      (and_none (is_within c k) (is_elsewhere k.around k.statement n b.place.turns) (same_cell b.cell k.cell) (b.writes || w) e)

  kept_outside : (k : Key) (n : ℕ) (w : Bool) → ltb (length k.around) c ≡ true → told_new k n w ≡ told_old k n w
  kept_outside k n w e =
      kept k n w (ap (λ q. not q && (is_elsewhere k.around k.statement n (map level_view known.path) && same_cell b.cell k.cell)) e) (ap (λ q. not q && is_rival k n w b) e)

  long : length after.path ≡ c
  long = ap length h.path ∙ length-take-le c known.path h.within

  known_at : (k : Key) → b.cell ≡ k.cell → IsKnown (lookup (same_cell k.cell) old.cells.entries) known
  known_at k e = subst (λ (d : Cell). IsKnown (lookup (same_cell d) old.cells.entries) known) e h.is_known

  -- what was told at a key of the cell
  told_before : (k : Key) (n : ℕ) (w : Bool) → b.cell ≡ k.cell → told_with known told_old k n w ≡ told_in (lookup (same_cell k.cell) old.cells.entries) told_old k n w
  told_before k n w e = known_tells (lookup (same_cell k.cell) old.cells.entries) known told_old k n w (known_at k e) (r.bare k n w)

  looked_up : (k : Key) (q : Bool) → same_cell b.cell k.cell ≡ q → lookup (same_cell k.cell) new.cells.entries ≡ (if q then Some after else lookup (same_cell k.cell) old.cells.entries)
  looked_up k q e = h.cells k.cell ∙ ap (λ p. if p then Some after else lookup (same_cell k.cell) old.cells.entries) e

  -- the table tells at each key what it did, and then the access
  more_told : (k : Key) (n : ℕ) (w : Bool) → told_in (lookup (same_cell k.cell) new.cells.entries) told_new k n w ≡ first_of (told_in (lookup (same_cell k.cell) old.cells.entries) told_old k n w) (if is_rival k n w b then Some s else None)
  more_told k n w = go (same_cell b.cell k.cell) refl
    where
      before : Option Sighting
      before = told_in (lookup (same_cell k.cell) old.cells.entries) told_old k n w

      on_path : Bool
      on_path = is_elsewhere k.around k.statement n (map level_view known.path)

      here : Bool
      here = is_elsewhere k.around k.statement n b.place.turns

      summed : Option Sighting
      summed = rival_among known.seen w

      in_path : b.cell ≡ k.cell → ltb (length k.around) (length known.path) ≡ true → (if on_path then summed else None) ≡ before
      in_path same g = sym (ap (λ q. if q then (if on_path then summed else None) else told_old k n w) g) ∙ told_before k n w same

      past_path : b.cell ≡ k.cell → ltb (length k.around) (length known.path) ≡ false → told_old k n w ≡ before
      past_path same g = sym (ap (λ q. if q then (if on_path then summed else None) else told_old k n w) g) ∙ told_before k n w same

      and_true : (q : Bool) → q && true ≡ q
      and_true true = refl
      and_true false = refl

      spread_told : b.cell ≡ k.cell → (q : Bool) → ltb (length k.around) (length known.path) ≡ q → first_of (told_old k n w) (if on_path && true then summed else None) ≡ before
      spread_told same true g =
          ap (λ o. first_of o (if on_path && true then summed else None)) (r.bare k n w (told_here (lookup (same_cell k.cell) old.cells.entries) known k (known_at k same) g))
          ∙ ap (λ q. if q then summed else None) (and_true on_path)
          ∙ in_path same g
      spread_told same false g =
          let l : length (map level_view known.path) ≡ length known.path = length-map known.path level_view in
          let f = ltb-false (length k.around) (length known.path) g in
          ap (λ q. first_of (told_old k n w) (if q && true then summed else None)) (too_short k.around k.statement n (map level_view known.path) (omega (arith, l, f)))
          ∙ sym (as_it_was (told_old k n w))
          ∙ past_path same g

      in_common : length k.around < c → on_path ≡ here
      in_common i = common_tells k.around k.statement n (map level_view known.path) b.place.turns (subst (λ m. length k.around < m) h.common i)

      after_path : length k.around < c → is_elsewhere k.around k.statement n (map level_view after.path) ≡ here
      after_path i =
          ap (λ p. is_elsewhere k.around k.statement n (map level_view p)) h.path
          ∙ ap (is_elsewhere k.around k.statement n) (sym (take-map level_view c known.path))
          ∙ front_tells c k.around k.statement n (map level_view known.path) i
          ∙ in_common i

      at_cell : same_cell b.cell k.cell ≡ true → (q : Bool) → ltb (length k.around) c ≡ q → told_with after told_new k n w ≡ first_of before (if is_rival k n w b then Some s else None)
      at_cell e true f =
          let i = ltb-true (length k.around) c f in
          let same = (cell_decides b.cell k.cell).0 e in
          ap (λ m. if ltb (length k.around) m then (if is_elsewhere k.around k.statement n (map level_view after.path) then rival_among after.seen w else None) else told_new k n w) long
          ∙ ap (λ q. if q then (if is_elsewhere k.around k.statement n (map level_view after.path) then rival_among after.seen w else None) else told_new k n w) f
          ∙ ap (λ q. if q then rival_among after.seen w else None) (after_path i)
          ∙ ap (λ o. if here then o else None) (h.seen w)
          ∙ one_path here (b.writes || w) summed s
          ∙ ap (λ q. first_of (if here then summed else None) (if here && (q && (b.writes || w)) then Some s else None)) (sym e)
          ∙ ap (λ o. first_of o (if is_rival k n w b then Some s else None)) (ap (λ q. if q then summed else None) (sym (in_common i)) ∙ in_path same (lt-ltb (length k.around) (length known.path) (omega (arith, i, h.within))))
      at_cell e false f =
          ap (λ m. if ltb (length k.around) m then (if is_elsewhere k.around k.statement n (map level_view after.path) then rival_among after.seen w else None) else told_new k n w) long
          ∙ ap (λ q. if q then (if is_elsewhere k.around k.statement n (map level_view after.path) then rival_among after.seen w else None) else told_new k n w) f
          ∙ h.entered k n w
          ∙ ap (λ q. first_of (told_by mid k n w) (if not q && is_rival k n w b then Some s else None)) f
          ∙ ap (λ o. first_of o (if is_rival k n w b then Some s else None)) (h.spread k n w ∙ (λ i. first_of (told_old k n w) (if not (f i) && (on_path && e i) then summed else None)) ∙ spread_told ((cell_decides b.cell k.cell).0 e) (ltb (length k.around) (length known.path)) refl)

      go : (q : Bool) → same_cell b.cell k.cell ≡ q → told_in (lookup (same_cell k.cell) new.cells.entries) told_new k n w ≡ first_of before (if is_rival k n w b then Some s else None)
      go true e = ap (λ o. told_in o told_new k n w) (looked_up k true e) ∙ at_cell e (ltb (length k.around) c) refl
      go false e =
          ap (λ o. told_in o told_new k n w) (looked_up k false e)
          ∙ told_like (lookup (same_cell k.cell) old.cells.entries) told_new told_old k n w (kept_other k n w e)
          ∙ as_it_was before
          ∙ ap (λ q. first_of before (if q then Some s else None)) (sym (and_none true here (same_cell b.cell k.cell) (b.writes || w) e))

  -- where the path of the cell tells it, there is still no entry
  still_bare : (k : Key) (n : ℕ) (w : Bool) → is_told (lookup (same_cell k.cell) new.cells.entries) k ≡ true → told_new k n w ≡ None
  still_bare k n w t = go (same_cell b.cell k.cell) refl
    where
      go : (q : Bool) → same_cell b.cell k.cell ≡ q → told_new k n w ≡ None
      go false e = kept_other k n w e ∙ r.bare k n w (sym (ap (λ o. is_told o k) (looked_up k false e)) ∙ t)
      go true e =
          let f : ltb (length k.around) c ≡ true = sym (ap (ltb (length k.around)) long) ∙ (sym (ap (λ o. is_told o k) (looked_up k true e)) ∙ t) in
          let i = ltb-true (length k.around) c f in
          kept_outside k n w f ∙ r.bare k n w (told_here (lookup (same_cell k.cell) old.cells.entries) known k (known_at k ((cell_decides b.cell k.cell).0 e)) (lt-ltb (length k.around) (length known.path) (omega (arith, i, h.within))))

  -- so it remembers one access more
  pub remembers_more : Remembers new (seen ++ b ∷ [])
  remembers_more = let z : length seen ≡ 0 + length seen = omega arith in record {
    told = h.told ∙ ap (λ n. n + 1) r.told ∙ sym (length-append seen (b ∷ []));
    tells = λ k n w.
        more_told k n w
        ∙ ap (λ o. first_of o (if is_rival k n w b then Some s else None)) (r.tells k n w)
        ∙ ap (λ x. first_of (first_sighting (is_rival k n w) 0 seen) (if is_rival k n w b then Some x else None)) (h.sighting ∙ ap (λ m. sighting_of m b) r.told)
        ∙ ap (λ m. first_of (first_sighting (is_rival k n w) 0 seen) (if is_rival k n w b then Some (sighting_of m b) else None)) z
        ∙ sym (found_more (is_rival k n w) 0 seen b);
    bare = still_bare;
  }

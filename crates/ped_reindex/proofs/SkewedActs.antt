-- Acts that are done as before, in the same iterations, but for the values of DO variables there and for what they write to idle cells.
use Rattle.std.proofs.Common.{◌≡◌, ◌⊎◌, ℕ, zero, suc, ◌+◌, ◌<◌, ◌≤◌, pos, List, [], ◌∷◌, ◌++◌, map, Bool, true, false, ◌&&◌, ◌||◌, not, refl, sym, ap, ◌∙◌, subst, inl, inr, arith}
use Rattle.std.specs.List.{flat_map, range_with_len}
use Rattle.std.proofs.lemmas.Bool.{both_ways}
use Rattle.std.proofs.lemmas.List.{map-append}
use Rattle.ped_rules.specs.ped_store.specs.Cells.{Cell}
use Rattle.ped_rules.specs.ped_store.specs.Acts.{Manner, reads, writes, is_told, Touch, Turn, Act}
use Rattle.ped_rules.specs.ped_store.specs.Races.{Access, is_lines, is_write, accesses_of, accesses}
use Rattle.ped_rules.specs.ped_laws.specs.Acts.Fitting.{has_cell, of_cells, touches_of}
use Rattle.ped_rules.specs.ped_laws.specs.Acts.Conflicts.{touches_without, without}
use Rattle.ped_rules.specs.ped_laws.specs.Acts.Renaming.{own_name, AreRenamed, Renamed}
use Rattle.ped_rules.specs.ped_laws.specs.Acts.Orders.{IsIn}
use Rattle.ped_rules.specs.ped_laws.specs.Acts.Sets.{nothing}
use Rattle.ped_rules.specs.ped_laws.proofs.ActLaws.Lists.{in_left, in_right, in_parts}
use Rattle.ped_rules.specs.ped_laws.proofs.ActLaws.OfCells.{stays_first, goes_first, cells_append}
use Rattle.ped_rules.specs.ped_laws.proofs.ActLaws.Conflicting.{access_by, access_in}
use Rattle.ped_rules.specs.ped_steps.specs.Runs.Renumbering.{renumbered_turn}
use Rattle.ped_rules.specs.ped_steps.proofs.RunLaws.AccessTouches.{touch_of}
use Rattle.ped_rules.specs.ped_bodies.specs.Likewise.{Meet, AllMeet, AreLikewise, IsOnlyTold}
use Rattle.ped_rules.specs.ped_bodies.specs.Moving.{own_number}
use Rattle.ped_rules.specs.ped_bodies.proofs.BodyLaws.LikewiseActs.{cells_without, filter_first, filter_other}

-- an iteration without the value of its variable
abbrev pub valueless : Turn → Turn
valueless i = record { statement = i.statement; parallel = i.parallel; number = i.number; value = pos 0 }

-- the same iterations, but for these values
abbrev pub AreSameTurns : List Turn → List Turn → Type 0
AreSameTurns is js = map valueless is ≡ map valueless js

-- the same touch, but for what it writes to an idle cell
pub record IsKeptTouch (idle : Cell → Bool) (x y : Touch) : Type 0 where
  pub manner : y.manner ≡ x.manner
  pub reference : y.reference ≡ x.reference
  pub cell : y.cell ≡ x.cell
  pub content : (y.content ≡ x.content) ⊎ (is_write x.manner && idle x.cell ≡ true)

abbrev pub AllKept : (Cell → Bool) → List Touch → List Touch → Type 0
AllKept idle [] [] = Unit {0}
AllKept idle [] (y ∷ ys) = ⊥
AllKept idle (x ∷ xs) [] = ⊥
AllKept idle (x ∷ xs) (y ∷ ys) = IsKeptTouch idle x y × AllKept idle xs ys

-- an act done as before
pub record IsKeptAct (idle : Cell → Bool) (a b : Act) : Type 0 where
  pub turns : AreSameTurns b.place.turns a.place.turns
  pub touches : AllKept idle (of_cells a.touches) (of_cells b.touches)

abbrev pub AreKept : (Cell → Bool) → List Act → List Act → Type 0
AreKept idle [] [] = Unit {0}
AreKept idle [] (b ∷ bs) = ⊥
AreKept idle (a ∷ acts) [] = ⊥
AreKept idle (a ∷ acts) (b ∷ bs) = IsKeptAct idle a b × AreKept idle acts bs

-- an access made as before
pub record IsKeptAccess (x y : Access) : Type 0 where
  pub cell : x.cell ≡ y.cell
  pub writes : x.writes ≡ y.writes
  pub reference : x.reference ≡ y.reference
  pub turns : AreSameTurns y.place.turns x.place.turns

pub turns_append : (is js ks ms : List Turn) → AreSameTurns is js → AreSameTurns ks ms → AreSameTurns (is ++ ks) (js ++ ms)
turns_append is js ks ms h k = map-append valueless is ks ∙ (λ i. h i ++ k i) ∙ sym (map-append valueless js ms)

own_turns : (more : List Turn) → map (renumbered_turn own_number) more ≡ more
own_turns [] = refl
own_turns (t ∷ more) = ap (λ (rest : List Turn). t ∷ rest) (own_turns more)

module _ (idle : Cell → Bool) where
  touch_itself : (x : Touch) → IsKeptTouch idle x x
  touch_itself x = record { manner = refl; reference = refl; cell = refl; content = inl refl }

  pub touches_themselves : (xs : List Touch) → AllKept idle xs xs
  touches_themselves [] = tt
  touches_themselves (x ∷ xs) = (touch_itself x, touches_themselves xs)

  pub touches_append : (xs ys us vs : List Touch) → AllKept idle xs ys → AllKept idle us vs → AllKept idle (xs ++ us) (ys ++ vs)
  touches_append [] [] us vs h k = k
  touches_append [] (y ∷ ys) us vs h k = absurd h
  touches_append (x ∷ xs) [] us vs h k = absurd h
  touches_append (x ∷ xs) (y ∷ ys) us vs h k = (h.0, touches_append xs ys us vs h.1 k)

  -- also without the values that places tell
  pub cells_kept : (xs ys us vs : List Touch) → AllKept idle (of_cells xs) (of_cells ys) → AllKept idle (of_cells us) (of_cells vs) → AllKept idle (of_cells (xs ++ us)) (of_cells (ys ++ vs))
  cells_kept xs ys us vs h k =
      subst (λ (ts : List Touch). AllKept idle ts (of_cells (ys ++ vs))) (sym (cells_append xs us))
      (subst (AllKept idle (of_cells xs ++ of_cells us)) (sym (cells_append ys vs)) (touches_append (of_cells xs) (of_cells ys) (of_cells us) (of_cells vs) h k))

  pub act_itself : (a : Act) → IsKeptAct idle a a
  act_itself a = record { turns = refl; touches = touches_themselves (of_cells a.touches) }

  pub acts_themselves : (acts : List Act) → AreKept idle acts acts
  acts_themselves [] = tt
  acts_themselves (a ∷ acts) = (act_itself a, acts_themselves acts)

  pub kept_append : (acts fresh more others : List Act) → AreKept idle acts fresh → AreKept idle more others → AreKept idle (acts ++ more) (fresh ++ others)
  kept_append [] [] more others h k = k
  kept_append [] (b ∷ fresh) more others h k = absurd h
  kept_append (a ∷ acts) [] more others h k = absurd h
  kept_append (a ∷ acts) (b ∷ fresh) more others h k = (h.0, kept_append acts fresh more others h.1 k)

  pub kept_rows : (f g : ℕ → List Act) (m a : ℕ) → ((k : ℕ) → a ≤ k → k < a + m → AreKept idle (f k) (g k)) → AreKept idle (flat_map f (range_with_len a m)) (flat_map g (range_with_len a m))
  kept_rows f g zero a h = tt
  kept_rows f g (suc m) a h =
      kept_append (f a) (g a) (flat_map f (range_with_len (a + 1) m)) (flat_map g (range_with_len (a + 1) m)) (h a (omega arith) (omega arith))
      (kept_rows f g m (a + 1) (λ k from to. h k (omega (arith, from)) (omega (arith, to))))

  -- acts that are done likewise on their own cells
  pub touches_likewise : (xs ys : List Touch) → AllMeet own_name nothing xs ys → AllKept idle xs ys
  touches_likewise [] [] h = tt
  touches_likewise [] (y ∷ ys) h = absurd h
  touches_likewise (x ∷ xs) [] h = absurd h
  touches_likewise (x ∷ xs) (y ∷ ys) h = (record { manner = h.0.manner; reference = h.0.reference; cell = same h.0.cells; content = inl h.0.content }, touches_likewise xs ys h.1)
    where
      same : Meet own_name nothing x.cell y.cell → y.cell ≡ x.cell
      same (inl e) = e
      same (inr e) = absurd cc

  pub likewise_kept : (turns others : List Turn) (acts fresh : List Act) → AreSameTurns others turns → AreLikewise own_name nothing own_number turns others acts fresh → AreKept idle acts fresh
  likewise_kept turns others [] [] same h = tt
  likewise_kept turns others [] (b ∷ fresh) same h = absurd h
  likewise_kept turns others (a ∷ acts) [] same h = absurd h
  likewise_kept turns others (a ∷ acts) (b ∷ fresh) same h = (
    record {
      turns = ap (map valueless) (h.0.new ∙ ap (λ (more : List Turn). others ++ more) (own_turns h.0.more)) ∙ turns_append others turns h.0.more h.0.more same refl ∙ ap (map valueless) (sym h.0.old);
      touches = touches_likewise (of_cells a.touches) (of_cells b.touches) h.0.touches;
    },
    likewise_kept turns others acts fresh same h.1,
  )

  -- without what they write to idle cells they are the same
  first_stays : (t : Touch) (ts : List Touch) → is_write t.manner && idle t.cell ≡ false → touches_without idle (t ∷ ts) ≡ t ∷ touches_without idle ts
  first_stays t ts h = filter_first (λ (u : Touch). not (is_write u.manner && idle u.cell)) t ts (ap not h)

  first_goes : (t : Touch) (ts : List Touch) → is_write t.manner && idle t.cell ≡ true → touches_without idle (t ∷ ts) ≡ touches_without idle ts
  first_goes t ts h = filter_other (λ (u : Touch). not (is_write u.manner && idle u.cell)) t ts (ap not h)

  abbrev Same : List Touch → List Touch → Type 0
  Same = AreRenamed own_name

  same_append : (xs ys us vs : List Touch) → Same xs ys → Same us vs → Same (xs ++ us) (ys ++ vs)
  same_append [] [] us vs h k = k
  same_append [] (y ∷ ys) us vs h k = absurd h
  same_append (x ∷ xs) [] us vs h k = absurd h
  same_append (x ∷ xs) (y ∷ ys) us vs h k = (h.0, h.1, h.2, same_append xs ys us vs h.3 k)

  touches_stripped : (xs ys : List Touch) → AllKept idle xs ys → Same (touches_without idle xs) (touches_without idle ys)
  touches_stripped [] [] h = tt
  touches_stripped [] (y ∷ ys) h = absurd h
  touches_stripped (x ∷ xs) [] h = absurd h
  touches_stripped (x ∷ xs) (y ∷ ys) h = go (is_write x.manner && idle x.cell) refl (touches_stripped xs ys h.1)
    where
      test : is_write y.manner && idle y.cell ≡ is_write x.manner && idle x.cell
      test = λ i. is_write (h.0.manner i) && idle (h.0.cell i)

      content : is_write x.manner && idle x.cell ≡ false → (y.content ≡ x.content) ⊎ (is_write x.manner && idle x.cell ≡ true) → x.content ≡ y.content
      content none (inl e) = sym e
      content none (inr e) = absurd (both_ways (is_write x.manner && idle x.cell) none e)

      go : (b : Bool) → is_write x.manner && idle x.cell ≡ b → Same (touches_without idle xs) (touches_without idle ys) → Same (touches_without idle (x ∷ xs)) (touches_without idle (y ∷ ys))
      go true e more = subst (λ (ts : List Touch). Same ts (touches_without idle (y ∷ ys))) (sym (first_goes x xs e)) (subst (Same (touches_without idle xs)) (sym (first_goes y ys (test ∙ e))) more)
      go false e more =
          subst (λ (ts : List Touch). Same ts (touches_without idle (y ∷ ys))) (sym (first_stays x xs e))
          (subst (Same (x ∷ touches_without idle xs)) (sym (first_stays y ys (test ∙ e))) (sym h.0.manner, content e h.0.content, h.0.cell, more))

  pub kept_stripped : (acts fresh : List Act) → AreKept idle acts fresh → Renamed own_name (without idle acts) (without idle fresh)
  kept_stripped [] [] h = tt
  kept_stripped [] (b ∷ fresh) h = absurd h
  kept_stripped (a ∷ acts) [] h = absurd h
  kept_stripped (a ∷ acts) (b ∷ fresh) h =
      let old = touches_without idle a.touches in
      let new = touches_without idle b.touches in
      let one : Same (of_cells old) (of_cells new) =
      subst (λ (ts : List Touch). Same ts (of_cells new)) (sym (cells_without idle a.touches)) (subst (Same (touches_without idle (of_cells a.touches))) (sym (cells_without idle b.touches)) (touches_stripped (of_cells a.touches) (of_cells b.touches) h.0.touches)) in
      subst (λ (ts : List Touch). Same ts (of_cells (new ++ touches_of (without idle fresh)))) (sym (cells_append old (touches_of (without idle acts))))
      (subst (Same (of_cells old ++ of_cells (touches_of (without idle acts)))) (sym (cells_append new (touches_of (without idle fresh))))
      (same_append (of_cells old) (of_cells new) (of_cells (touches_of (without idle acts))) (of_cells (touches_of (without idle fresh))) one (kept_stripped acts fresh h.1)))

  -- accesses are made as before
  among_cells : (ts : List Touch) (u : Touch) → IsIn u ts → has_cell u.manner ≡ true → IsIn u (of_cells ts)
  among_cells [] u i h = absurd i
  among_cells (t ∷ ts) u (inl e) h = subst (IsIn u) (sym (stays_first t ts (ap (λ (z : Touch). has_cell z.manner) (sym e) ∙ h))) (inl e)
  among_cells (t ∷ ts) u (inr i) h = go (has_cell t.manner) refl (among_cells ts u i h)
    where
      go : (b : Bool) → has_cell t.manner ≡ b → IsIn u (of_cells ts) → IsIn u (of_cells (t ∷ ts))
      go true q j = subst (IsIn u) (sym (stays_first t ts q)) (inr j)
      go false q j = subst (IsIn u) (sym (goes_first t ts q)) j

  cells_among : (ts : List Touch) (v : Touch) → IsIn v (of_cells ts) → IsIn v ts
  cells_among [] v i = absurd i
  cells_among (t ∷ ts) v i = go (has_cell t.manner) refl (cells_among ts v)
    where
      go : (b : Bool) → has_cell t.manner ≡ b → (IsIn v (of_cells ts) → IsIn v ts) → IsIn v (t ∷ ts)
      go true q more = elim (subst (IsIn v) (stays_first t ts q) i) [ inl e ↦ inl e | inr j ↦ inr (more j) ]
      go false q more = inr (more (subst (IsIn v) (goes_first t ts q) i))

  kept_from : (ts us : List Touch) → AllKept idle ts us → (u : Touch) → IsIn u us → (t : Touch) × IsIn t ts × IsKeptTouch idle t u
  kept_from [] [] h u i = absurd i
  kept_from [] (w ∷ us) h u i = absurd h
  kept_from (t ∷ ts) [] h u i = absurd i
  kept_from (t ∷ ts) (w ∷ us) h u (inl e) = (t, inl refl, subst (IsKeptTouch idle t) (sym e) h.0)
  kept_from (t ∷ ts) (w ∷ us) h u (inr i) = let r = kept_from ts us h.1 u i in (r.0, inr r.1, r.2)

  one_access : (a b : Act) → IsKeptAct idle a b → (fresh : List Act) → IsIn b fresh → (y : Access) → IsIn y (accesses_of b) → ((x : Access) × IsIn x (accesses_of a) × IsKeptAccess x y) ⊎ IsOnlyTold fresh y
  one_access a b kept fresh there y i = by (touch_of b b.touches y i).0.manner refl
    where
      u : Touch
      u = (touch_of b b.touches y i).0

      among : IsIn u b.touches
      among = (touch_of b b.touches y i).1

      is : y ≡ access_by b u
      is = (touch_of b b.touches y i).3

      made : has_cell u.manner ≡ true → (x : Access) × IsIn x (accesses_of a) × IsKeptAccess x y
      made has =
          let r = kept_from (of_cells a.touches) (of_cells b.touches) kept.touches u (among_cells b.touches u among has) in
          let write : is_write r.0.manner ≡ is_write u.manner = ap is_write (sym r.2.manner) in
          let cell : r.0.cell ≡ u.cell = sym r.2.cell in (
            access_by a r.0,
            access_in a a.touches r.0 (cells_among a.touches r.0 r.1) ((λ i. write i || not (is_lines (cell i))) ∙ (touch_of b b.touches y i).2),
            subst (IsKeptAccess (access_by a r.0)) (sym is) (record { cell = cell; writes = write; reference = sym r.2.reference; turns = kept.turns }),
          )

      by : (m : Manner) → u.manner ≡ m → ((x : Access) × IsIn x (accesses_of a) × IsKeptAccess x y) ⊎ IsOnlyTold fresh y
      by reads e = inl (made (ap has_cell e))
      by writes e = inl (made (ap has_cell e))
      by is_told e = inr (record { by = b; found = there; touch = u; among = among; manner = e; is = is })

  all_accesses : (acts fresh whole : List Act) → AreKept idle acts fresh → ((b : Act) → IsIn b fresh → IsIn b whole) → (y : Access) → IsIn y (accesses fresh) → ((x : Access) × IsIn x (accesses acts) × IsKeptAccess x y) ⊎ IsOnlyTold whole y
  all_accesses [] [] whole kept there y i = absurd i
  all_accesses [] (b ∷ fresh) whole kept there y i = absurd kept
  all_accesses (a ∷ acts) [] whole kept there y i = absurd i
  all_accesses (a ∷ acts) (b ∷ fresh) whole kept there y i = elim (in_parts y (accesses_of b) (accesses fresh) i) [
    | inl j ↦ elim (one_access a b kept.0 whole (there b (inl refl)) y j) [
      | inl r ↦ inl (r.0, in_left r.0 (accesses_of a) (accesses acts) r.1, r.2)
      | inr r ↦ inr r
    ]
    | inr j ↦ elim (all_accesses acts fresh whole kept.1 (λ c k. there c (inr k)) y j) [
      | inl r ↦ inl (r.0, in_right r.0 (accesses_of a) (accesses acts) r.1, r.2)
      | inr r ↦ inr r
    ]
  ]

  pub access_kept : (acts fresh : List Act) → AreKept idle acts fresh → (y : Access) → IsIn y (accesses fresh) → ((x : Access) × IsIn x (accesses acts) × IsKeptAccess x y) ⊎ IsOnlyTold fresh y
  access_kept acts fresh kept y i = all_accesses acts fresh fresh kept (λ b j. j) y i

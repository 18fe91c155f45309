-- Acts that are done as before, at the same places, but for stores of DO loops of themselves, which go to other cells; and what is done by references, which is the same.
use Rattle.std.proofs.Common.{if◌then◌else◌, ◌≡◌, ◌⊎◌, ℕ, zero, suc, ◌+◌, ◌<◌, ◌≤◌, List, [], ◌∷◌, ◌++◌, map, filter, Bool, true, false, ◌&&◌, not, refl, sym, ap, ◌∙◌, subst, inl, inr, arith, append-nil}
use Rattle.std.specs.Prelude.{nat_lt}
use Rattle.std.specs.List.{flat_map, range_with_len}
use Rattle.std.proofs.lemmas.List.{map-append}
use Rattle.std.proofs.lemmas.List.Elements.{filter-append}
use Rattle.std.proofs.lemmas.Grind.{flat_map-append}
use Rattle.ped_rules.specs.ped_store.specs.Cells.{Cell}
use Rattle.ped_rules.specs.ped_store.specs.Acts.{Act, Manner, Place, Step, Touch, is_told, reads, writes}
use Rattle.ped_rules.specs.ped_store.specs.Races.{Access, accesses, accesses_of, is_access, is_write}
use Rattle.ped_rules.specs.ped_laws.specs.Acts.Conflicts.{touches_without, without}
use Rattle.ped_rules.specs.ped_laws.specs.Acts.Fitting.{has_cell, of_cells, touches_of}
use Rattle.ped_rules.specs.ped_laws.specs.Acts.Orders.{IsIn}
use Rattle.ped_rules.specs.ped_steps.proofs.RunLaws.AccessTouches.{write_there}
use Rattle.ped_rules.specs.ped_laws.proofs.ActLaws.Appending.{written_append}
use Rattle.ped_rules.specs.ped_laws.proofs.ActLaws.Renamings.{or_right}
use Rattle.ped_rules.specs.ped_laws.specs.Acts.Sets.{written}
use Rattle.ped_rules.specs.ped_laws.specs.Acts.Renaming.{AreRenamed, Renamed, own_name}
use Rattle.ped_rules.specs.ped_laws.proofs.ActLaws.OfCells.{cells_append, goes_first, stays_first}
use Rattle.ped_rules.specs.ped_bodies.proofs.BodyLaws.LikewiseActs.{cells_without, filter_first, filter_other}

-- an item that doesn't pass is left out
filter_out : {X : Type 0} (p : X → Bool) (x : X) (xs : List X) → p x ≡ false → filter p (x ∷ xs) ≡ filter p xs
filter_out p x xs e = ap (λ b. if b then x ∷ filter p xs else filter p xs) e

-- the same touch, or two stores by no reference, in these two cells
pub record IsTurnedTouch (c d : Cell) (x y : Touch) : Type 0 where
  pub manner : y.manner ≡ x.manner
  pub reference : y.reference ≡ x.reference
  pub rest : ((y.cell ≡ x.cell) × (y.content ≡ x.content)) ⊎ ((is_write x.manner ≡ true) × (x.cell ≡ c) × (y.cell ≡ d) × (x.reference ≡ 0))

abbrev pub AllTurned : (c d : Cell) → List Touch → List Touch → Type 0
AllTurned c d [] [] = Unit {0}
AllTurned c d [] (y ∷ ys) = ⊥
AllTurned c d (x ∷ xs) [] = ⊥
AllTurned c d (x ∷ xs) (y ∷ ys) = IsTurnedTouch c d x y × AllTurned c d xs ys

-- an act at the same place
pub record IsTurnedAct (c d : Cell) (a b : Act) : Type 0 where
  pub place : b.place ≡ a.place
  pub touches : AllTurned c d (of_cells a.touches) (of_cells b.touches)

abbrev pub AreTurned : (c d : Cell) → List Act → List Act → Type 0
AreTurned c d [] [] = Unit {0}
AreTurned c d [] (b ∷ bs) = ⊥
AreTurned c d (a ∷ acts) [] = ⊥
AreTurned c d (a ∷ acts) (b ∷ bs) = IsTurnedAct c d a b × AreTurned c d acts bs

-- what places tell has no reference
abbrev pub IsUnreferred : Act → Type 0
IsUnreferred a = (v : Touch) → IsIn v a.touches → v.manner ≡ is_told → v.reference ≡ 0

abbrev pub AreUnreferred : List Act → Type 0
AreUnreferred acts = (a : Act) → IsIn a acts → IsUnreferred a

-- the accesses by references
abbrev pub by_reference : Access → Bool
by_reference x = nat_lt 0 x.reference

abbrev pub referred : List Act → List Access
referred acts = filter (λ x. nat_lt 0 x.reference) (accesses acts)

pub referred_append : (acts more : List Act) → referred (acts ++ more) ≡ referred acts ++ referred more
referred_append acts more = ap (filter by_reference) (flat_map-append accesses_of acts more) ∙ filter-append by_reference (accesses acts) (accesses more)

module _ (c d : Cell) where
  touch_itself : (x : Touch) → IsTurnedTouch c d x x
  touch_itself x = record { manner = refl; reference = refl; rest = inl (refl, refl) }

  pub touches_themselves : (xs : List Touch) → AllTurned c d xs xs
  touches_themselves [] = tt
  touches_themselves (x ∷ xs) = (touch_itself x, touches_themselves xs)

  touches_append : (xs ys us vs : List Touch) → AllTurned c d xs ys → AllTurned c d us vs → AllTurned c d (xs ++ us) (ys ++ vs)
  touches_append [] [] us vs h k = k
  touches_append [] (y ∷ ys) us vs h k = absurd h
  touches_append (x ∷ xs) [] us vs h k = absurd h
  touches_append (x ∷ xs) (y ∷ ys) us vs h k = (h.0, touches_append xs ys us vs h.1 k)

  -- also without the values that places tell
  pub cells_turned : (xs ys us vs : List Touch) → AllTurned c d (of_cells xs) (of_cells ys) → AllTurned c d (of_cells us) (of_cells vs) → AllTurned c d (of_cells (xs ++ us)) (of_cells (ys ++ vs))
  cells_turned xs ys us vs h k =
      subst (λ (ts : List Touch). AllTurned c d ts (of_cells (ys ++ vs))) (sym (cells_append xs us))
      (subst (AllTurned c d (of_cells xs ++ of_cells us)) (sym (cells_append ys vs)) (touches_append (of_cells xs) (of_cells ys) (of_cells us) (of_cells vs) h k))

  pub turned_append : (acts fresh more others : List Act) → AreTurned c d acts fresh → AreTurned c d more others → AreTurned c d (acts ++ more) (fresh ++ others)
  turned_append [] [] more others h k = k
  turned_append [] (b ∷ fresh) more others h k = absurd h
  turned_append (a ∷ acts) [] more others h k = absurd h
  turned_append (a ∷ acts) (b ∷ fresh) more others h k = (h.0, turned_append acts fresh more others h.1 k)

  pub turned_rows : (f g : ℕ → List Act) (m a : ℕ) → ((k : ℕ) → a ≤ k → k < a + m → AreTurned c d (f k) (g k)) → AreTurned c d (flat_map f (range_with_len a m)) (flat_map g (range_with_len a m))
  turned_rows f g zero a h = tt
  turned_rows f g (suc m) a h =
      turned_append (f a) (g a) (flat_map f (range_with_len (a + 1) m)) (flat_map g (range_with_len (a + 1) m)) (h a (omega arith) (omega arith))
      (turned_rows f g m (a + 1) (λ k from to. h k (omega (arith, from)) (omega (arith, to))))

  -- without what they write to idle cells they are the same, if these two are idle
  module _ (idle : Cell → Bool) (old_idle : idle c ≡ true) (new_idle : idle d ≡ true) where
    first_stays : (t : Touch) (ts : List Touch) → is_write t.manner && idle t.cell ≡ false → touches_without idle (t ∷ ts) ≡ t ∷ touches_without idle ts
    first_stays t ts h = filter_first (λ (u : Touch). not (is_write u.manner && idle u.cell)) t ts (ap not h)

    first_goes : (t : Touch) (ts : List Touch) → is_write t.manner && idle t.cell ≡ true → touches_without idle (t ∷ ts) ≡ touches_without idle ts
    first_goes t ts h = filter_other (λ (u : Touch). not (is_write u.manner && idle u.cell)) t ts (ap not h)

    abbrev Same : List Touch → List Touch → Type 0
    Same = AreRenamed own_name

    same_append : (xs ys us vs : List Touch) → Same xs ys → Same us vs → Same (xs ++ us) (ys ++ vs)
    same_append [] [] us vs h k = k
    same_append [] (y ∷ ys) us vs h k = absurd h
    same_append (x ∷ xs) [] us vs h k = absurd h
    same_append (x ∷ xs) (y ∷ ys) us vs h k = (h.0, h.1, h.2, same_append xs ys us vs h.3 k)

    touches_stripped : (xs ys : List Touch) → AllTurned c d xs ys → Same (touches_without idle xs) (touches_without idle ys)
    touches_stripped [] [] h = tt
    touches_stripped [] (y ∷ ys) h = absurd h
    touches_stripped (x ∷ xs) [] h = absurd h
    touches_stripped (x ∷ xs) (y ∷ ys) h = by h.0.rest (touches_stripped xs ys h.1)
      where
        by : ((y.cell ≡ x.cell) × (y.content ≡ x.content)) ⊎ ((is_write x.manner ≡ true) × (x.cell ≡ c) × (y.cell ≡ d) × (x.reference ≡ 0)) → Same (touches_without idle xs) (touches_without idle ys) → Same (touches_without idle (x ∷ xs)) (touches_without idle (y ∷ ys))
        by (inl same) more = go (is_write x.manner && idle x.cell) refl
          where
            test : is_write y.manner && idle y.cell ≡ is_write x.manner && idle x.cell
            test = λ i. is_write (h.0.manner i) && idle (same.0 i)

            go : (b : Bool) → is_write x.manner && idle x.cell ≡ b → Same (touches_without idle (x ∷ xs)) (touches_without idle (y ∷ ys))
            go true e = subst (λ (ts : List Touch). Same ts (touches_without idle (y ∷ ys))) (sym (first_goes x xs e)) (subst (Same (touches_without idle xs)) (sym (first_goes y ys (test ∙ e))) more)
            go false e =
                subst (λ (ts : List Touch). Same ts (touches_without idle (y ∷ ys))) (sym (first_stays x xs e))
                (subst (Same (x ∷ touches_without idle xs)) (sym (first_stays y ys (test ∙ e))) (sym h.0.manner, sym same.1, same.0, more))
        by (inr own) more =
            subst (λ (ts : List Touch). Same ts (touches_without idle (y ∷ ys))) (sym (first_goes x xs ((λ i. own.0 i && idle (own.1 i)) ∙ old_idle)))
            (subst (Same (touches_without idle xs)) (sym (first_goes y ys ((λ i. is_write (h.0.manner i) && idle (own.2 i)) ∙ (λ i. own.0 i && new_idle i)))) more)

    pub turned_stripped : (acts fresh : List Act) → AreTurned c d acts fresh → Renamed own_name (without idle acts) (without idle fresh)
    turned_stripped [] [] h = tt
    turned_stripped [] (b ∷ fresh) h = absurd h
    turned_stripped (a ∷ acts) [] h = absurd h
    turned_stripped (a ∷ acts) (b ∷ fresh) h =
        let old = touches_without idle a.touches in
        let new = touches_without idle b.touches in
        let one : Same (of_cells old) (of_cells new) =
        subst (λ (ts : List Touch). Same ts (of_cells new)) (sym (cells_without idle a.touches)) (subst (Same (touches_without idle (of_cells a.touches))) (sym (cells_without idle b.touches)) (touches_stripped (of_cells a.touches) (of_cells b.touches) h.0.touches)) in
        subst (λ (ts : List Touch). Same ts (of_cells (new ++ touches_of (without idle fresh)))) (sym (cells_append old (touches_of (without idle acts))))
        (subst (Same (of_cells old ++ of_cells (touches_of (without idle acts)))) (sym (cells_append new (touches_of (without idle fresh))))
        (same_append (of_cells old) (of_cells new) (of_cells (touches_of (without idle acts))) (of_cells (touches_of (without idle fresh))) one (turned_stripped acts fresh h.1)))

  -- and by references they do the same
  module _ (place : Place) where
    abbrev made : Touch → Access
    made t = record { cell = t.cell; writes = is_write t.manner; place = place; reference = t.reference }

    abbrev made_by : List Touch → List Access
    made_by ts = filter by_reference (map made (filter is_access ts))

    first_made : (t : Touch) (ts : List Touch) → made_by (t ∷ ts) ≡ made_by (t ∷ []) ++ made_by ts
    first_made t ts =
        ap (λ (us : List Touch). filter by_reference (map made us)) (filter-append is_access (t ∷ []) ts)
        ∙ ap (filter by_reference) (map-append made (filter is_access (t ∷ [])) (filter is_access ts))
        ∙ filter-append by_reference (map made (filter is_access (t ∷ []))) (map made (filter is_access ts))

    none_made : (t : Touch) → t.reference ≡ 0 → made_by (t ∷ []) ≡ []
    none_made t e = go (is_access t) refl
      where
        nothing_made : filter by_reference (made t ∷ []) ≡ []
        nothing_made = filter_out by_reference (made t) [] (ap (nat_lt 0) e)

        go : (b : Bool) → is_access t ≡ b → made_by (t ∷ []) ≡ []
        go true h = ap (λ (us : List Touch). filter by_reference (map made us)) (filter_first is_access t [] h) ∙ nothing_made
        go false h = ap (λ (us : List Touch). filter by_reference (map made us)) (filter_other is_access t [] h)

    cells_made : (ts : List Touch) → ((v : Touch) → IsIn v ts → v.manner ≡ is_told → v.reference ≡ 0) → made_by ts ≡ made_by (of_cells ts)
    cells_made [] h = refl
    cells_made (t ∷ ts) h = first_made t ts ∙ (λ i. made_by (t ∷ []) ++ cells_made ts (λ v j. h v (inr j)) i) ∙ go t.manner refl
      where
        stays : has_cell t.manner ≡ true → made_by (t ∷ []) ++ made_by (of_cells ts) ≡ made_by (of_cells (t ∷ ts))
        stays e = sym (first_made t (of_cells ts)) ∙ ap made_by (sym (stays_first t ts e))

        go : (m : Manner) → t.manner ≡ m → made_by (t ∷ []) ++ made_by (of_cells ts) ≡ made_by (of_cells (t ∷ ts))
        go reads e = stays (ap has_cell e)
        go writes e = stays (ap has_cell e)
        go is_told e = ap (λ (xs : List Access). xs ++ made_by (of_cells ts)) (none_made t (h t (inl refl) e)) ∙ ap made_by (sym (goes_first t ts (ap has_cell e)))

    turned_made : (xs ys : List Touch) → AllTurned c d xs ys → made_by xs ≡ made_by ys
    turned_made [] [] h = refl
    turned_made [] (y ∷ ys) h = absurd h
    turned_made (x ∷ xs) [] h = absurd h
    turned_made (x ∷ xs) (y ∷ ys) h = first_made x xs ∙ (λ i. one h.0.rest i ++ turned_made xs ys h.1 i) ∙ sym (first_made y ys)
      where
        one : ((y.cell ≡ x.cell) × (y.content ≡ x.content)) ⊎ ((is_write x.manner ≡ true) × (x.cell ≡ c) × (y.cell ≡ d) × (x.reference ≡ 0)) → made_by (x ∷ []) ≡ made_by (y ∷ [])
        one (inl same) = λ i. made_by (record { cell = sym same.0 i; manner = sym h.0.manner i; content = sym same.1 i; reference = sym h.0.reference i } ∷ [])
        one (inr own) = none_made x own.3 ∙ sym (none_made y (h.0.reference ∙ own.3))

  pub turned_referred : (acts fresh : List Act) → AreTurned c d acts fresh → AreUnreferred acts → AreUnreferred fresh → referred acts ≡ referred fresh
  turned_referred [] [] h f g = refl
  turned_referred [] (b ∷ fresh) h f g = absurd h
  turned_referred (a ∷ acts) [] h f g = absurd h
  turned_referred (a ∷ acts) (b ∷ fresh) h f g =
      filter-append by_reference (accesses_of a) (accesses acts)
      ∙ (λ i. one i ++ turned_referred acts fresh h.1 (λ c j. f c (inr j)) (λ c j. g c (inr j)) i)
      ∙ sym (filter-append by_reference (accesses_of b) (accesses fresh))
    where
      one : filter by_reference (accesses_of a) ≡ filter by_reference (accesses_of b)
      one =
          cells_made a.place a.touches (f a (inl refl)) ∙ turned_made a.place (of_cells a.touches) (of_cells b.touches) h.0.touches
          ∙ sym (cells_made a.place b.touches (g b (inl refl))) ∙ ap (λ (at : Place). made_by at b.touches) (sym h.0.place)

  -- and write the same cells, and the other one
  touch_writes : (xs ys : List Touch) → AllTurned c d xs ys → (v : Touch) → IsIn v ys → is_write v.manner ≡ true → ((w : Touch) × IsIn w xs × (is_write w.manner ≡ true) × (w.cell ≡ v.cell)) ⊎ (v.cell ≡ d)
  touch_writes [] [] h v i k = absurd i
  touch_writes [] (y ∷ ys) h v i k = absurd h
  touch_writes (x ∷ xs) [] h v i k = absurd h
  touch_writes (x ∷ xs) (y ∷ ys) h v (inl e) k = elim h.0.rest [
    | inl same ↦ inl (x, inl refl, ap is_write (sym h.0.manner) ∙ ap (λ (u : Touch). is_write u.manner) (sym e) ∙ k, sym same.0 ∙ ap (λ (u : Touch). u.cell) (sym e))
    | inr own ↦ inr (ap (λ (u : Touch). u.cell) e ∙ own.2)
  ]
  touch_writes (x ∷ xs) (y ∷ ys) h v (inr i) k = elim (touch_writes xs ys h.1 v i k) [ inl r ↦ inl (r.0, inr r.1, r.2, r.3) | inr e ↦ inr e ]

  pub turned_writes : (acts fresh : List Act) → AreTurned c d acts fresh → (b : Act) → IsIn b fresh → (v : Touch) → IsIn v b.touches → is_write v.manner ≡ true → (written acts v.cell ≡ true) ⊎ (v.cell ≡ d)
  turned_writes [] [] h b i v j k = absurd i
  turned_writes [] (y ∷ ys) h b i v j k = absurd h
  turned_writes (a ∷ acts) [] h b i v j k = absurd i
  turned_writes (a ∷ acts) (y ∷ ys) h b (inl e) v j k =
      elim (touch_writes (of_cells a.touches) (of_cells y.touches) h.0.touches v (has_it y.touches v (subst (λ (u : Act). IsIn v u.touches) e j) (write_has v.manner k)) k) [
        | inl r ↦ inl (subst (λ (w : Cell). written (a ∷ acts) w ≡ true) r.3 (write_there (a ∷ acts) a r.0 (inl refl) (among a.touches r.0 r.1) r.2))
        | inr e ↦ inr e
      ]
    where
      write_has : (m : Manner) → is_write m ≡ true → has_cell m ≡ true
      write_has writes k = refl
      write_has reads k = absurd cc
      write_has is_told k = absurd cc

      has_it : (ts : List Touch) (u : Touch) → IsIn u ts → has_cell u.manner ≡ true → IsIn u (of_cells ts)
      has_it [] u i q = absurd i
      has_it (w ∷ ts) u (inl f) q = subst (IsIn u) (sym (stays_first w ts (ap (λ (z : Touch). has_cell z.manner) (sym f) ∙ q))) (inl f)
      has_it (w ∷ ts) u (inr i) q = go (has_cell w.manner) refl (has_it ts u i q)
        where
          go : (b : Bool) → has_cell w.manner ≡ b → IsIn u (of_cells ts) → IsIn u (of_cells (w ∷ ts))
          go true g more = subst (IsIn u) (sym (stays_first w ts g)) (inr more)
          go false g more = subst (IsIn u) (sym (goes_first w ts g)) more

      among : (ts : List Touch) (u : Touch) → IsIn u (of_cells ts) → IsIn u ts
      among [] u i = absurd i
      among (w ∷ ts) u i = go (has_cell w.manner) refl (among ts u)
        where
          go : (b : Bool) → has_cell w.manner ≡ b → (IsIn u (of_cells ts) → IsIn u ts) → IsIn u (w ∷ ts)
          go true g more = elim (subst (IsIn u) (stays_first w ts g) i) [ inl f ↦ inl f | inr n ↦ inr (more n) ]
          go false g more = inr (more (subst (IsIn u) (goes_first w ts g) i))
  turned_writes (a ∷ acts) (y ∷ ys) h b (inr i) v j k = elim (turned_writes acts ys h.1 b i v j k) [ inl r ↦ inl (written_append (a ∷ []) acts v.cell ∙ or_right (written (a ∷ []) v.cell) (written acts v.cell) r) | inr e ↦ inr e ]

-- what an exit does by references doesn't tell which further names it makes undefined
module _ (step : Step) (place : Place) (first : List Touch) where
  unmade : (xs : List Touch) → ((v : Touch) → IsIn v xs → v.reference ≡ 0) → filter by_reference (accesses_of (record { step = step; place = place; touches = first ++ xs })) ≡ filter by_reference (accesses_of (record { step = step; place = place; touches = first }))
  unmade xs none =
      ap (λ (us : List Touch). filter by_reference (map made us)) (filter-append is_access first xs)
      ∙ ap (filter by_reference) (map-append made (filter is_access first) (filter is_access xs))
      ∙ filter-append by_reference (map made (filter is_access first)) (map made (filter is_access xs))
      ∙ (λ i. filter by_reference (map made (filter is_access first)) ++ nothing xs none i)
      ∙ append-nil (filter by_reference (map made (filter is_access first)))
    where
      made : Touch → Access
      made v = record { cell = v.cell; writes = is_write v.manner; place = place; reference = v.reference }

      nothing : (ys : List Touch) → ((v : Touch) → IsIn v ys → v.reference ≡ 0) → filter by_reference (map made (filter is_access ys)) ≡ []
      nothing [] h = refl
      nothing (y ∷ ys) h = go (is_access y) refl (nothing ys (λ v i. h v (inr i)))
        where
          go : (b : Bool) → is_access y ≡ b → filter by_reference (map made (filter is_access ys)) ≡ [] → filter by_reference (map made (filter is_access (y ∷ ys))) ≡ []
          go true e more = ap (λ (us : List Touch). filter by_reference (map made us)) (filter_first is_access y ys e) ∙ filter_out by_reference (made y) (map made (filter is_access ys)) (ap (nat_lt 0) (h y (inl refl))) ∙ more
          go false e more = ap (λ (us : List Touch). filter by_reference (map made us)) (filter_other is_access y ys e) ∙ more

  pub exits_referred : (xs ys : List Touch) → ((v : Touch) → IsIn v xs → v.reference ≡ 0) → ((v : Touch) → IsIn v ys → v.reference ≡ 0)
      → referred ((record { step = step; place = place; touches = first ++ xs }) ∷ []) ≡ referred ((record { step = step; place = place; touches = first ++ ys }) ∷ [])
  exits_referred xs ys h k =
      filter-append by_reference (accesses_of (record { step = step; place = place; touches = first ++ xs })) []
      ∙ (λ i. (unmade xs h ∙ sym (unmade ys k)) i ++ [])
      ∙ sym (filter-append by_reference (accesses_of (record { step = step; place = place; touches = first ++ ys })) [])

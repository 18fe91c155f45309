-- Each access of acts that are done likewise is made likewise, or is only told.
use Rattle.std.proofs.Common.{◌≡◌, ℕ, List, [], ◌∷◌, map, filter, Bool, true, false, ◌||◌, refl, sym, ap, subst, ◌∙◌, ◌⊎◌, inl, inr}
use Rattle.std.specs.Prelude.{not, cond}
use Rattle.std.proofs.lemmas.Bool.{both_ways}
use Rattle.ped_steps.specs.ped_store.specs.Cells.{Cell, Scalar, Element, Private, In, Out}
use Rattle.ped_steps.specs.ped_store.specs.Acts.{Manner, reads, writes, is_told, Touch, Turn, Act}
use Rattle.ped_steps.specs.ped_store.specs.Races.{Access, is_lines, is_write, is_access, accesses_of, accesses}
use Rattle.ped_steps.specs.ped_laws.specs.Acts.Fitting.{has_cell, of_cells}
use Rattle.ped_steps.specs.ped_laws.specs.Acts.Orders.{IsIn}
use Rattle.ped_steps.specs.ped_laws.proofs.ActLaws.Lists.{in_left, in_right, in_parts}
use Rattle.ped_bodies.specs.Likewise.{NamesScalars, Meet, Meets, AllMeet, IsLikewise, AreLikewise, IsMadeLikewise, IsOnlyTold}

-- the access that a touch of an act is
abbrev access_by : Act → Touch → Access
access_by a t = record { cell = t.cell; writes = is_write t.manner; place = a.place; reference = t.reference }

-- accesses are touches
touch_of : (a : Act) (ts : List Touch) (y : Access) → IsIn y (map (access_by a) (filter is_access ts)) → (u : Touch) × IsIn u ts × (is_access u ≡ true) × (y ≡ access_by a u)
touch_of a [] y i = absurd i
touch_of a (u ∷ us) y i = go (is_access u) refl i (touch_of a us y)
  where
    go : (r : Bool) → is_access u ≡ r → IsIn y (map (access_by a) (cond r (u ∷ filter is_access us) (filter is_access us))) → (IsIn y (map (access_by a) (filter is_access us)) → (v : Touch) × IsIn v us × (is_access v ≡ true) × (y ≡ access_by a v))
        → (v : Touch) × IsIn v (u ∷ us) × (is_access v ≡ true) × (y ≡ access_by a v)
    go true e (inl h) more = (u, inl refl, e, h)
    go true e (inr j) more = let r = more j in (r.0, inr r.1, r.2, r.3)
    go false e j more = let r = more j in (r.0, inr r.1, r.2, r.3)

access_of : (a : Act) (ts : List Touch) (t : Touch) → IsIn t ts → is_access t ≡ true → IsIn (access_by a t) (map (access_by a) (filter is_access ts))
access_of a [] t i h = absurd i
access_of a (u ∷ us) t (inl e) h = go (is_access u) (ap is_access (sym e) ∙ h)
  where
    go : (b : Bool) → b ≡ true → IsIn (access_by a t) (map (access_by a) (cond b (u ∷ filter is_access us) (filter is_access us)))
    go true q = inl (ap (access_by a) e)
    go false q = absurd cc
access_of a (u ∷ us) t (inr i) h = go (is_access u) (access_of a us t i h)
  where
    go : (b : Bool) → IsIn (access_by a t) (map (access_by a) (filter is_access us)) → IsIn (access_by a t) (map (access_by a) (cond b (u ∷ filter is_access us) (filter is_access us)))
    go true j = inr j
    go false j = j

-- reads and writes of cells among touches
among_cells : (ts : List Touch) (u : Touch) → IsIn u ts → has_cell u.manner ≡ true → IsIn u (of_cells ts)
among_cells [] u i h = absurd i
among_cells (t ∷ ts) u (inl e) h = go (has_cell t.manner) (ap (λ (z : Touch). has_cell z.manner) (sym e) ∙ h)
  where
    go : (b : Bool) → b ≡ true → IsIn u (cond b (t ∷ of_cells ts) (of_cells ts))
    go true q = inl e
    go false q = absurd cc
among_cells (t ∷ ts) u (inr i) h = go (has_cell t.manner) (among_cells ts u i h)
  where
    go : (b : Bool) → IsIn u (of_cells ts) → IsIn u (cond b (t ∷ of_cells ts) (of_cells ts))
    go true j = inr j
    go false j = j

cells_among : (ts : List Touch) (v : Touch) → IsIn v (of_cells ts) → IsIn v ts
cells_among [] v i = absurd i
cells_among (t ∷ ts) v i = go (has_cell t.manner) i (cells_among ts v)
  where
    go : (b : Bool) → IsIn v (cond b (t ∷ of_cells ts) (of_cells ts)) → (IsIn v (of_cells ts) → IsIn v ts) → IsIn v (t ∷ ts)
    go true (inl e) more = inl e
    go true (inr j) more = inr (more j)
    go false j more = inr (more j)

module _ (name : Cell → Cell) (idle : Cell → Bool) (laws : NamesScalars name) (no_lines : (c : Cell) → idle c ≡ true → is_lines c ≡ false) where
  -- a touch that corresponds
  met_touch : (ts us : List Touch) → AllMeet name idle ts us → (u : Touch) → IsIn u us → (t : Touch) × IsIn t ts × Meets name idle t u
  met_touch [] [] h u i = absurd i
  met_touch [] (w ∷ us) h u i = absurd h
  met_touch (t ∷ ts) [] h u i = absurd i
  met_touch (t ∷ ts) (w ∷ us) h u (inl e) = (t, inl refl, subst (Meets name idle t) (sym e) h.0)
  met_touch (t ∷ ts) (w ∷ us) h u (inr i) = let r = met_touch ts us h.1 u i in (r.0, inr r.1, r.2)

  -- the data and the output correspond to themselves alone
  lines_alike : (c d : Cell) → Meet name idle c d → is_lines d ≡ false → is_lines c ≡ false
  lines_alike c d (inr e) h = no_lines c e.0
  lines_alike (Scalar x) d (inl e) h = refl
  lines_alike (Element x js) d (inl e) h = refl
  lines_alike (Private x path) d (inl e) h = refl
  lines_alike In d (inl e) h = absurd (both_ways (is_lines d) h (ap is_lines (e ∙ laws.input)))
  lines_alike Out d (inl e) h = absurd (both_ways (is_lines d) h (ap is_lines (e ∙ laws.output)))

  access_alike : (t u : Touch) → Meets name idle t u → is_access u ≡ true → is_access t ≡ true
  access_alike t u m h = go (is_write t.manner) (is_lines t.cell) (is_lines u.cell) (ap (λ (b : Bool). b || not (is_lines u.cell)) (sym (ap is_write m.manner)) ∙ h) (lines_alike t.cell u.cell m.cells)
    where
      go : (w l r : Bool) → w || not r ≡ true → (r ≡ false → l ≡ false) → w || not l ≡ true
      go true l r e k = refl
      go false l true e k = absurd cc
      go false l false e k = ap not (k refl)

  module _ (f : ℕ → ℕ) (turns others : List Turn) where
    one_access : (a b : Act) → IsLikewise name idle f turns others a b → (fresh : List Act) → IsIn b fresh → (y : Access) → IsIn y (accesses_of b)
        → ((x : Access) × IsIn x (accesses_of a) × IsMadeLikewise name idle f turns others x y) ⊎ IsOnlyTold fresh y
    one_access a b alike fresh there y i = by_manner (touch_of b b.touches y i).0.manner refl
      where
        u : Touch
        u = (touch_of b b.touches y i).0

        among : IsIn u b.touches
        among = (touch_of b b.touches y i).1

        is : y ≡ access_by b u
        is = (touch_of b b.touches y i).3

        made : has_cell u.manner ≡ true → (x : Access) × IsIn x (accesses_of a) × IsMadeLikewise name idle f turns others x y
        made has =
            let r = met_touch (of_cells a.touches) (of_cells b.touches) alike.touches u (among_cells b.touches u among has) in (
              access_by a r.0,
              access_of a a.touches r.0 (cells_among a.touches r.0 r.1) (access_alike r.0 u r.2 (touch_of b b.touches y i).2),
              subst (IsMadeLikewise name idle f turns others (access_by a r.0)) (sym is)
                  (record {
                    cell = r.2.cells;
                    writes = ap is_write r.2.manner;
                    reference = r.2.reference;
                    statement = alike.statement;
                    more = alike.more;
                    old = alike.old;
                    new = alike.new;
                  }),
            )

        by_manner : (m : Manner) → u.manner ≡ m → ((x : Access) × IsIn x (accesses_of a) × IsMadeLikewise name idle f turns others x y) ⊎ IsOnlyTold fresh y
        by_manner reads e = inl (made (ap has_cell e))
        by_manner writes e = inl (made (ap has_cell e))
        by_manner is_told e = inr (record { by = b; found = there; touch = u; among = among; manner = e; is = is })

    all_accesses : (acts fresh whole : List Act) → AreLikewise name idle f turns others acts fresh → ((b : Act) → IsIn b fresh → IsIn b whole) → (y : Access) → IsIn y (accesses fresh)
        → ((x : Access) × IsIn x (accesses acts) × IsMadeLikewise name idle f turns others x y) ⊎ IsOnlyTold whole y
    all_accesses [] [] whole alike there y i = absurd i
    all_accesses [] (b ∷ fresh) whole alike there y i = absurd alike
    all_accesses (a ∷ acts) [] whole alike there y i = absurd i
    all_accesses (a ∷ acts) (b ∷ fresh) whole alike there y i =
        go (in_parts y (accesses_of b) (accesses fresh) i) (one_access a b alike.0 whole (there b (inl refl)) y) (all_accesses acts fresh whole alike.1 (λ c j. there c (inr j)) y)
      where
        go : IsIn y (accesses_of b) ⊎ IsIn y (accesses fresh)
            → (IsIn y (accesses_of b) → ((x : Access) × IsIn x (accesses_of a) × IsMadeLikewise name idle f turns others x y) ⊎ IsOnlyTold whole y)
            → (IsIn y (accesses fresh) → ((x : Access) × IsIn x (accesses acts) × IsMadeLikewise name idle f turns others x y) ⊎ IsOnlyTold whole y)
            → ((x : Access) × IsIn x (accesses (a ∷ acts)) × IsMadeLikewise name idle f turns others x y) ⊎ IsOnlyTold whole y
        go (inl j) first later = here (first j)
          where
            here : ((x : Access) × IsIn x (accesses_of a) × IsMadeLikewise name idle f turns others x y) ⊎ IsOnlyTold whole y → ((x : Access) × IsIn x (accesses (a ∷ acts)) × IsMadeLikewise name idle f turns others x y) ⊎ IsOnlyTold whole y
            here (inl r) = inl (r.0, in_left r.0 (accesses_of a) (accesses acts) r.1, r.2)
            here (inr r) = inr r
        go (inr j) first later = behind (later j)
          where
            behind : ((x : Access) × IsIn x (accesses acts) × IsMadeLikewise name idle f turns others x y) ⊎ IsOnlyTold whole y → ((x : Access) × IsIn x (accesses (a ∷ acts)) × IsMadeLikewise name idle f turns others x y) ⊎ IsOnlyTold whole y
            behind (inl r) = inl (r.0, in_right r.0 (accesses_of a) (accesses acts) r.1, r.2)
            behind (inr r) = inr r

    pub likewise_accesses : (acts fresh : List Act) → AreLikewise name idle f turns others acts fresh → (y : Access) → IsIn y (accesses fresh) → ((x : Access) × IsIn x (accesses acts) × IsMadeLikewise name idle f turns others x y) ⊎ IsOnlyTold fresh y
    likewise_accesses acts fresh alike y i = all_accesses acts fresh fresh alike (λ b j. j) y i

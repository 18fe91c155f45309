-- Acts that are done likewise are acts on renamed cells, but for what they write to idle cells.
use Rattle.std.proofs.Common.{◌≡◌, ℕ, List, [], ◌∷◌, ◌++◌, map, filter, Bool, true, false, ◌&&◌, inl, inr, refl, sym, ap, subst, ◌∙◌}
use Rattle.std.specs.Prelude.{not}
use Rattle.std.proofs.lemmas.Bool.{both_ways}
use Rattle.ped_steps.specs.ped_store.specs.Cells.{Cell}
use Rattle.ped_steps.specs.ped_store.specs.Acts.{Manner, reads, writes, is_told, Touch, Turn, Act}
use Rattle.ped_steps.specs.ped_store.specs.Races.{is_write}
use Rattle.ped_steps.specs.ped_laws.specs.Acts.Fitting.{touches_of, has_cell, of_cells}
use Rattle.ped_steps.specs.ped_laws.specs.Acts.Sets.{nothing}
use Rattle.ped_steps.specs.ped_laws.specs.Acts.Conflicts.{touches_without, without, IsNoReadOf, LeaveUnread, ReadNone}
use Rattle.ped_steps.specs.ped_laws.specs.Acts.Renaming.{AreRenamed, Renamed}
use Rattle.ped_steps.specs.ped_laws.proofs.ActLaws.OfCells.{stays_first, goes_first, cells_append}
use Rattle.ped_steps.specs.Runs.Renumbering.{renumbered_turn}
use Rattle.ped_steps.specs.Runs.Substituting.{AreSameOn}
use Rattle.ped_bodies.specs.Likewise.{Meet, AllMeet, IsLikewise, AreLikewise}
use Rattle.ped_bodies.specs.Moving.{own_number}

pub likewise_append : (name : Cell → Cell) (idle : Cell → Bool) (f : ℕ → ℕ) (turns others : List Turn) (acts fresh more further : List Act) → AreLikewise name idle f turns others acts fresh → AreLikewise name idle f turns others more further
    → AreLikewise name idle f turns others (acts ++ more) (fresh ++ further)
likewise_append name idle f turns others [] [] more further h k = k
likewise_append name idle f turns others [] (b ∷ fresh) more further h k = absurd h
likewise_append name idle f turns others (a ∷ acts) [] more further h k = absurd h
likewise_append name idle f turns others (a ∷ acts) (b ∷ fresh) more further h k = (h.0, likewise_append name idle f turns others acts fresh more further h.1 k)

-- two filters may change places
pub filter_first : (p : Touch → Bool) (x : Touch) (xs : List Touch) → p x ≡ true → filter p (x ∷ xs) ≡ x ∷ filter p xs
filter_first p x xs h = rw h refl

pub filter_other : (p : Touch → Bool) (x : Touch) (xs : List Touch) → p x ≡ false → filter p (x ∷ xs) ≡ filter p xs
filter_other p x xs h = rw h refl

filters_swap : (p q : Touch → Bool) (ts : List Touch) → filter p (filter q ts) ≡ filter q (filter p ts)
filters_swap p q [] = refl
filters_swap p q (x ∷ xs) = go (p x) (q x) refl refl (filters_swap p q xs)
  where
    go : (a b : Bool) → p x ≡ a → q x ≡ b → filter p (filter q xs) ≡ filter q (filter p xs) → filter p (filter q (x ∷ xs)) ≡ filter q (filter p (x ∷ xs))
    go true true h k more =
        ap (filter p) (filter_first q x xs k) ∙ filter_first p x (filter q xs) h ∙ ap (λ (ts : List Touch). x ∷ ts) more
        ∙ sym (filter_first q x (filter p xs) k) ∙ ap (filter q) (sym (filter_first p x xs h))
    go true false h k more = ap (filter p) (filter_other q x xs k) ∙ more ∙ sym (filter_other q x (filter p xs) k) ∙ ap (filter q) (sym (filter_first p x xs h))
    go false true h k more = ap (filter p) (filter_first q x xs k) ∙ filter_other p x (filter q xs) h ∙ more ∙ ap (filter q) (sym (filter_other p x xs h))
    go false false h k more = ap (filter p) (filter_other q x xs k) ∙ more ∙ ap (filter q) (sym (filter_other p x xs h))

pub cells_without : (idle : Cell → Bool) (ts : List Touch) → of_cells (touches_without idle ts) ≡ touches_without idle (of_cells ts)
cells_without idle ts = filters_swap (λ (t : Touch). has_cell t.manner) (λ (t : Touch). not (is_write t.manner && idle t.cell)) ts

-- touches of cells
abbrev HaveCells : List Touch → Type 0
HaveCells [] = Unit {0}
HaveCells (t ∷ ts) = (has_cell t.manner ≡ true) × HaveCells ts

have_cells : (ts : List Touch) → HaveCells (of_cells ts)
have_cells [] = tt
have_cells (t ∷ ts) = go (has_cell t.manner) refl (have_cells ts)
  where
    go : (b : Bool) → has_cell t.manner ≡ b → HaveCells (of_cells ts) → HaveCells (of_cells (t ∷ ts))
    go true h more = subst HaveCells (sym (stays_first t ts h)) (h, more)
    go false h more = subst HaveCells (sym (goes_first t ts h)) more

told_unread : (idle : Cell → Bool) (m : Manner) (c : Cell) → has_cell m ≡ false → IsNoReadOf idle m c
told_unread idle reads c h = absurd cc
told_unread idle writes c h = absurd cc
told_unread idle is_told c h = tt

cells_unread : (idle : Cell → Bool) (ts : List Touch) → LeaveUnread idle ts → LeaveUnread idle (of_cells ts)
cells_unread idle [] h = tt
cells_unread idle (t ∷ ts) h = go (has_cell t.manner) refl (cells_unread idle ts h.1)
  where
    go : (b : Bool) → has_cell t.manner ≡ b → LeaveUnread idle (of_cells ts) → LeaveUnread idle (of_cells (t ∷ ts))
    go true p more = subst (LeaveUnread idle) (sym (stays_first t ts p)) (h.0, more)
    go false p more = subst (LeaveUnread idle) (sym (goes_first t ts p)) more

unread_cells : (idle : Cell → Bool) (ts : List Touch) → LeaveUnread idle (of_cells ts) → LeaveUnread idle ts
unread_cells idle [] h = tt
unread_cells idle (t ∷ ts) h = go (has_cell t.manner) refl (unread_cells idle ts)
  where
    go : (b : Bool) → has_cell t.manner ≡ b → (LeaveUnread idle (of_cells ts) → LeaveUnread idle ts) → LeaveUnread idle (t ∷ ts)
    go true p more = let k = subst (LeaveUnread idle) (stays_first t ts p) h in (k.0, more k.1)
    go false p more = (told_unread idle t.manner t.cell p, more (subst (LeaveUnread idle) (goes_first t ts p) h))

-- which touches stay
abbrev goes : (Cell → Bool) → Manner → Cell → Bool
goes idle m c = is_write m && idle c

first_stays : (idle : Cell → Bool) (t : Touch) (ts : List Touch) → goes idle t.manner t.cell ≡ false → touches_without idle (t ∷ ts) ≡ t ∷ touches_without idle ts
first_stays idle t ts h = filter_first (λ (u : Touch). not (is_write u.manner && idle u.cell)) t ts (ap not h)

first_goes : (idle : Cell → Bool) (t : Touch) (ts : List Touch) → goes idle t.manner t.cell ≡ true → touches_without idle (t ∷ ts) ≡ touches_without idle ts
first_goes idle t ts h = filter_other (λ (u : Touch). not (is_write u.manner && idle u.cell)) t ts (ap not h)

module _ (name : Cell → Cell) (idle : Cell → Bool) (kept : (c : Cell) → idle (name c) ≡ idle c) where
  -- cells that correspond are idle alike
  idle_alike : (c d : Cell) → Meet name idle c d → idle d ≡ idle c
  idle_alike c d (inl e) = ap idle e ∙ kept c
  idle_alike c d (inr e) = e.1 ∙ sym e.0

  -- a touch that stays has its cell renamed
  stays_renamed : (m : Manner) (c d : Cell) → has_cell m ≡ true → IsNoReadOf idle m c → goes idle m c ≡ false → Meet name idle c d → d ≡ name c
  stays_renamed m c d has unread stays (inl e) = e
  stays_renamed reads c d has unread stays (inr e) = absurd (both_ways (idle c) unread e.0)
  stays_renamed writes c d has unread stays (inr e) = absurd (both_ways (idle c) stays e.0)
  stays_renamed is_told c d has unread stays (inr e) = absurd cc

  unread_alike : (m k : Manner) (c d : Cell) → k ≡ m → idle d ≡ idle c → IsNoReadOf idle m c → IsNoReadOf idle k d
  unread_alike m k c d same alike h = subst (λ (n : Manner). IsNoReadOf idle n d) (sym same) (by m h)
    where
      by : (n : Manner) → IsNoReadOf idle n c → IsNoReadOf idle n d
      by reads h = alike ∙ h
      by writes h = tt
      by is_told h = tt

  pairs_renamed : (xs ys : List Touch) → HaveCells xs → LeaveUnread idle xs → AllMeet name idle xs ys → AreRenamed name (touches_without idle xs) (touches_without idle ys) × LeaveUnread idle ys
  pairs_renamed [] [] has unread meet = (tt, tt)
  pairs_renamed [] (y ∷ ys) has unread meet = absurd meet
  pairs_renamed (x ∷ xs) [] has unread meet = absurd meet
  pairs_renamed (x ∷ xs) (y ∷ ys) has unread meet = go (goes idle x.manner x.cell) refl (pairs_renamed xs ys has.1 unread.1 meet.1)
    where
      alike : idle y.cell ≡ idle x.cell
      alike = idle_alike x.cell y.cell meet.0.cells

      test : goes idle y.manner y.cell ≡ goes idle x.manner x.cell
      test = λ i. is_write (meet.0.manner i) && alike i

      go : (b : Bool) → goes idle x.manner x.cell ≡ b → AreRenamed name (touches_without idle xs) (touches_without idle ys) × LeaveUnread idle ys → AreRenamed name (touches_without idle (x ∷ xs)) (touches_without idle (y ∷ ys)) × LeaveUnread idle (y ∷ ys)
      go true h more = (
        subst (λ (ts : List Touch). AreRenamed name ts (touches_without idle (y ∷ ys))) (sym (first_goes idle x xs h)) (subst (AreRenamed name (touches_without idle xs)) (sym (first_goes idle y ys (test ∙ h))) more.0),
        (unread_alike x.manner y.manner x.cell y.cell meet.0.manner alike unread.0, more.1),
      )
      go false h more = (
        subst (λ (ts : List Touch). AreRenamed name ts (touches_without idle (y ∷ ys))) (sym (first_stays idle x xs h))
            (subst (AreRenamed name (x ∷ touches_without idle xs)) (sym (first_stays idle y ys (test ∙ h)))
            (sym meet.0.manner, sym meet.0.content, stays_renamed x.manner x.cell y.cell has.0 unread.0 h meet.0.cells, more.0)),
        (unread_alike x.manner y.manner x.cell y.cell meet.0.manner alike unread.0, more.1),
      )

  renamed_append : (xs ys us vs : List Touch) → AreRenamed name xs ys → AreRenamed name us vs → AreRenamed name (xs ++ us) (ys ++ vs)
  renamed_append [] [] us vs h k = k
  renamed_append [] (y ∷ ys) us vs h k = absurd h
  renamed_append (x ∷ xs) [] us vs h k = absurd h
  renamed_append (x ∷ xs) (y ∷ ys) us vs h k = (h.0, h.1, h.2, renamed_append xs ys us vs h.3 k)

  module _ (f : ℕ → ℕ) (turns others : List Turn) where
    one_stripped : (a b : Act) → LeaveUnread idle a.touches → IsLikewise name idle f turns others a b → AreRenamed name (of_cells (touches_without idle a.touches)) (of_cells (touches_without idle b.touches)) × LeaveUnread idle b.touches
    one_stripped a b unread alike =
        let both = pairs_renamed (of_cells a.touches) (of_cells b.touches) (have_cells a.touches) (cells_unread idle a.touches unread) alike.touches in (
          subst (λ (ts : List Touch). AreRenamed name ts (of_cells (touches_without idle b.touches))) (sym (cells_without idle a.touches))
              (subst (AreRenamed name (touches_without idle (of_cells a.touches))) (sym (cells_without idle b.touches)) both.0),
          unread_cells idle b.touches both.1,
        )

    -- without what they write to idle cells, acts that are done likewise do the same on renamed cells
    pub likewise_stripped : (acts fresh : List Act) → ReadNone idle acts → AreLikewise name idle f turns others acts fresh → Renamed name (without idle acts) (without idle fresh) × ReadNone idle fresh
    likewise_stripped [] [] unread alike = (tt, tt)
    likewise_stripped [] (b ∷ fresh) unread alike = absurd alike
    likewise_stripped (a ∷ acts) [] unread alike = absurd alike
    likewise_stripped (a ∷ acts) (b ∷ fresh) unread alike =
        let one = one_stripped a b unread.0 alike.0 in
        let more = likewise_stripped acts fresh unread.1 alike.1 in
        let old = touches_without idle a.touches in
        let new = touches_without idle b.touches in (
          subst (λ (ts : List Touch). AreRenamed name ts (of_cells (new ++ touches_of (without idle fresh)))) (sym (cells_append old (touches_of (without idle acts))))
              (subst (AreRenamed name (of_cells old ++ of_cells (touches_of (without idle acts)))) (sym (cells_append new (touches_of (without idle fresh))))
              (renamed_append (of_cells old) (of_cells new) (of_cells (touches_of (without idle acts))) (of_cells (touches_of (without idle fresh))) one.0 more.0)),
          (one.1, more.1),
        )

-- where no cell is idle
module _ (name : Cell → Cell) where
  all_renamed : (xs ys : List Touch) → AllMeet name nothing xs ys → AreRenamed name xs ys
  all_renamed [] [] h = tt
  all_renamed [] (y ∷ ys) h = absurd h
  all_renamed (x ∷ xs) [] h = absurd h
  all_renamed (x ∷ xs) (y ∷ ys) h = (sym h.0.manner, sym h.0.content, cell x.cell y.cell h.0.cells, all_renamed xs ys h.1)
    where
      cell : (c d : Cell) → Meet name nothing c d → d ≡ name c
      cell c d (inl e) = e
      cell c d (inr e) = absurd cc

  pub likewise_renamed : (f : ℕ → ℕ) (turns others : List Turn) (acts fresh : List Act) → AreLikewise name nothing f turns others acts fresh → Renamed name acts fresh
  likewise_renamed f turns others [] [] h = tt
  likewise_renamed f turns others [] (b ∷ fresh) h = absurd h
  likewise_renamed f turns others (a ∷ acts) [] h = absurd h
  likewise_renamed f turns others (a ∷ acts) (b ∷ fresh) h =
      subst (λ (ts : List Touch). AreRenamed name ts (of_cells (b.touches ++ touches_of fresh))) (sym (cells_append a.touches (touches_of acts)))
      (subst (AreRenamed name (of_cells a.touches ++ of_cells (touches_of acts))) (sym (cells_append b.touches (touches_of fresh)))
      (renamed_append name nothing (λ c. refl) (of_cells a.touches) (of_cells b.touches) (of_cells (touches_of acts)) (of_cells (touches_of fresh)) (all_renamed (of_cells a.touches) (of_cells b.touches) h.0.touches) (likewise_renamed f turns others acts fresh h.1)))

  same_turns : (more : List Turn) → map (renumbered_turn own_number) more ≡ more
  same_turns [] = refl
  same_turns (t ∷ more) = ap (λ (rest : List Turn). t ∷ rest) (same_turns more)

  -- in the same iterations, under the same numbers
  pub likewise_same : (turns : List Turn) (acts fresh : List Act) → AreLikewise name nothing own_number turns turns acts fresh → AreSameOn name acts fresh
  likewise_same turns [] [] h = tt
  likewise_same turns [] (b ∷ fresh) h = absurd h
  likewise_same turns (a ∷ acts) [] h = absurd h
  likewise_same turns (a ∷ acts) (b ∷ fresh) h = (record { step = h.0.step; place = place; touches = all_renamed (of_cells a.touches) (of_cells b.touches) h.0.touches }, likewise_same turns acts fresh h.1)
    where
      place : b.place ≡ a.place
      place = λ i. record { statement = h.0.statement i; turns = (h.0.new ∙ ap (λ (more : List Turn). turns ++ more) (same_turns h.0.more) ∙ sym h.0.old) i }

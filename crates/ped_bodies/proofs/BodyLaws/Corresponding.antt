-- Touches that correspond, and what evaluations see that correspond.
use Rattle.std.proofs.Common.{◌≡◌, ℕ, suc, List, [], ◌∷◌, ◌++◌, Bool, refl, sym, ap, subst, ◌∙◌}
use Rattle.ped_steps.specs.ped_store.specs.Cells.{Cell}
use Rattle.ped_steps.specs.ped_store.specs.Stores.{Content, Number}
use Rattle.ped_steps.specs.ped_store.specs.Acts.{reads, is_told, Touch}
use Rattle.ped_steps.specs.ped_laws.specs.Acts.Fitting.{of_cells}
use Rattle.ped_steps.specs.ped_laws.proofs.ActLaws.OfCells.{cells_append}
use Rattle.ped_steps.specs.ped_eval.specs.Evaluation.{Seen, cell_seen, index_seen, numbered, number_behind}
use Rattle.ped_steps.specs.ped_eval.specs.Statements.{read_touch, write_touch}
use Rattle.ped_bodies.specs.Likewise.{Meet, Meets, AllMeet, AreSeenAlike}
use Rattle.ped_bodies.specs.Standing.{SeesNoCell}

-- what is seen counts on
pub numbered_append : (n : ℕ) (xs ys : List Seen) → numbered n (xs ++ ys) ≡ numbered n xs ++ numbered (number_behind n xs) ys
numbered_append n [] ys = refl
numbered_append n (cell_seen c content ∷ xs) ys = ap (λ (ts : List Touch). record { cell = c; manner = reads; content = content; reference = n } ∷ ts) (numbered_append (suc n) xs ys)
numbered_append n (index_seen c v ∷ xs) ys = ap (λ (ts : List Touch). record { cell = c; manner = is_told; content = Number v; reference = 0 } ∷ ts) (numbered_append n xs ys)

pub behind_append : (n : ℕ) (xs ys : List Seen) → number_behind n (xs ++ ys) ≡ number_behind (number_behind n xs) ys
behind_append n [] ys = refl
behind_append n (cell_seen c content ∷ xs) ys = behind_append (suc n) xs ys
behind_append n (index_seen c v ∷ xs) ys = behind_append n xs ys

module _ (name : Cell → Cell) (idle : Cell → Bool) where
  pub meet_append : (xs ys us vs : List Touch) → AllMeet name idle xs ys → AllMeet name idle us vs → AllMeet name idle (xs ++ us) (ys ++ vs)
  meet_append [] [] us vs h k = k
  meet_append [] (y ∷ ys) us vs h k = absurd h
  meet_append (x ∷ xs) [] us vs h k = absurd h
  meet_append (x ∷ xs) (y ∷ ys) us vs h k = (h.0, meet_append xs ys us vs h.1 k)

  -- touches of cells correspond
  abbrev pub Alike : List Touch → List Touch → Type 0
  Alike ts us = AllMeet name idle (of_cells ts) (of_cells us)

  pub alike_append : (ts us ts' us' : List Touch) → Alike ts us → Alike ts' us' → Alike (ts ++ ts') (us ++ us')
  alike_append ts us ts' us' h k =
      subst (λ (z : List Touch). AllMeet name idle z (of_cells (us ++ us'))) (sym (cells_append ts ts'))
      (subst (λ (z : List Touch). AllMeet name idle (of_cells ts ++ of_cells ts') z) (sym (cells_append us us')) (meet_append (of_cells ts) (of_cells us) (of_cells ts') (of_cells us') h k))

  -- reads and writes that correspond
  pub read_meets : (c d : Cell) (v : Content) (n : ℕ) → Meet name idle c d → Meets name idle (read_touch c v n) (read_touch d v n)
  read_meets c d v n h = record { manner = refl; reference = refl; content = refl; cells = h }

  pub write_meets : (c d : Cell) (v : Content) (n : ℕ) → Meet name idle c d → Meets name idle (write_touch c v n) (write_touch d v n)
  write_meets c d v n h = record { manner = refl; reference = refl; content = refl; cells = h }

module _ (name : Cell → Cell) (idle : Cell → Bool) where
  pub nothing_alike : AreSeenAlike name idle [] []
  nothing_alike = record { touches = λ n. tt; behind = λ n. refl }

  pub see_append : (xs ys us vs : List Seen) → AreSeenAlike name idle xs ys → AreSeenAlike name idle us vs → AreSeenAlike name idle (xs ++ us) (ys ++ vs)
  see_append xs ys us vs h k = record { touches = all; behind = λ n. behind_append n ys vs ∙ k.behind (number_behind n ys) ∙ ap (λ (m : ℕ). number_behind m us) (h.behind n) ∙ sym (behind_append n xs us) }
    where
      rest : (n : ℕ) → Alike name idle (numbered (number_behind n xs) us) (numbered (number_behind n ys) vs)
      rest n = subst (λ (m : ℕ). Alike name idle (numbered (number_behind n xs) us) (numbered m vs)) (sym (h.behind n)) (k.touches (number_behind n xs))

      all : (n : ℕ) → Alike name idle (numbered n (xs ++ us)) (numbered n (ys ++ vs))
      all n =
          subst (λ (z : List Touch). Alike name idle z (numbered n (ys ++ vs))) (sym (numbered_append n xs us))
          (subst (λ (z : List Touch). Alike name idle (numbered n xs ++ numbered (number_behind n xs) us) z) (sym (numbered_append n ys vs))
          (alike_append name idle (numbered n xs) (numbered n ys) (numbered (number_behind n xs) us) (numbered (number_behind n ys) vs) (h.touches n) (rest n)))

  -- values that places tell are seen in no cell
  pub unseen_cells : (n : ℕ) (ys : List Seen) → SeesNoCell ys → (of_cells (numbered n ys) ≡ []) × (number_behind n ys ≡ n)
  unseen_cells n [] h = (refl, refl)
  unseen_cells n (cell_seen c content ∷ ys) h = absurd h
  unseen_cells n (index_seen c v ∷ ys) h = unseen_cells n ys h

  pub told_alike : (xs ys : List Seen) → SeesNoCell xs → SeesNoCell ys → AreSeenAlike name idle xs ys
  told_alike xs ys h k = record {
    touches = λ n.
        subst (λ (z : List Touch). AllMeet name idle z (of_cells (numbered n ys))) (sym (unseen_cells n xs h).0)
        (subst (λ (z : List Touch). AllMeet name idle [] z) (sym (unseen_cells n ys k).0) tt);
    behind = λ n. (unseen_cells n ys k).1 ∙ sym (unseen_cells n xs h).1;
  }

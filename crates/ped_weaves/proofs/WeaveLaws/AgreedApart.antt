-- Parts of a list exchanged for others, where stores differ on cells that stand apart.
use Rattle.std.proofs.Common.{◌≡◌, List, [], ◌∷◌, ◌++◌, Bool, true, false, refl, sym, ap, ◌∙◌, ◌⊎◌, inl, inr}
use Rattle.std.specs.Prelude.{not}
use Rattle.std.proofs.lemmas.Bool.{both_ways, false_from_ne_true}
use Rattle.ped_laws.specs.ped_store.specs.Cells.{Cell}
use Rattle.ped_laws.specs.ped_store.specs.Stores.{Store}
use Rattle.ped_laws.specs.ped_store.specs.Acts.{Act}
use Rattle.ped_laws.specs.Acts.Fitting.{Fits, store_after}
use Rattle.ped_laws.specs.Acts.Sets.{AgreeIn, needs, written, wants}
use Rattle.ped_laws.specs.Acts.Pieces.{StandsFor, Part, same, changed, old_parts, new_parts}
use Rattle.ped_laws.specs.Acts.Fitting.{touches_of, of_cells}
use Rattle.ped_laws.proofs.ActLaws.Stores.{after_append, fits_append, fits_first, fits_rest}
use Rattle.ped_laws.proofs.ActLaws.Renamings.{or_right, or_left, or_either, own_names}
use Rattle.ped_laws.proofs.ActLaws.Exchanging.{same_stands, needed_wanted, wanted_before, shown_wanted}
use Rattle.ped_weaves.specs.Apart.{agreed, agreed_at_end, PartsStandApart}
use Rattle.ped_weaves.specs.Puttings.{Suit}

-- what acts need is agreed on before them
pub needed_agreed : (apart shown : Cell → Bool) (acts rest : List Act) (c : Cell) → needs acts c ≡ true → agreed apart shown (acts ++ rest) c ≡ true
needed_agreed apart shown acts rest c h = or_right (not (apart c)) (wants shown (acts ++ rest) c) (needed_wanted shown acts rest c h)

-- what is agreed on behind acts is agreed on before them, or they write it
pub agreed_before_or_written : (apart shown : Cell → Bool) (acts rest : List Act) (c : Cell) → agreed apart shown rest c ≡ true → (agreed apart shown (acts ++ rest) c ≡ true) ⊎ (written acts c ≡ true)
agreed_before_or_written apart shown acts rest c h = elim (or_either (not (apart c)) (wants shown rest c) h) [
  | inl p ↦ inl (or_left (not (apart c)) (wants shown (acts ++ rest) c) p)
  | inr q ↦ elim (wanted_before shown acts rest c q) [
    | inl k ↦ inl (or_right (not (apart c)) (wants shown (acts ++ rest) c) k)
    | inr k ↦ inr k
  ]
]

-- at the end
end_agreed : (apart shown : Cell → Bool) (c : Cell) → agreed_at_end apart shown c ≡ true → agreed apart shown [] c ≡ true
end_agreed apart shown c h = elim (or_either (not (apart c)) (shown c) h) [
  | inl p ↦ or_left (not (apart c)) (wants shown [] c) p
  | inr q ↦ or_right (not (apart c)) (wants shown [] c) (shown_wanted shown c q)
]

own_part : (apart shown : Cell → Bool) (acts rest : List Act) (s : Store) → Fits acts s → StandsFor (record { agreed = agreed apart shown (acts ++ rest); old = acts; new = acts }) (agreed apart shown rest) s
own_part apart shown acts rest s f =
    same_stands acts acts (agreed apart shown (acts ++ rest)) (agreed apart shown rest) s (own_names (of_cells (touches_of acts))) f (needed_agreed apart shown acts rest) (agreed_before_or_written apart shown acts rest)

pub apart_fit : (apart shown : Cell → Bool) (ps : List Part) (s t : Store) → PartsStandApart apart shown ps s → AgreeIn (agreed apart shown (old_parts ps)) s t → Fits (old_parts ps) s → Fits (new_parts ps) t
apart_fit apart shown [] s t k agree f = tt
apart_fit apart shown (same acts ∷ ps) s t k agree f =
    let h = own_part apart shown acts (old_parts ps) s (fits_first acts (old_parts ps) s f) t agree in
    fits_append acts (new_parts ps) t h.0 (apart_fit apart shown ps (store_after acts s) (store_after acts t) k h.1 (fits_rest acts (old_parts ps) s f))
apart_fit apart shown (changed old new ∷ ps) s t k agree f =
    let h = k.0 t agree in
    fits_append new (new_parts ps) t h.0 (apart_fit apart shown ps (store_after old s) (store_after new t) k.1 h.1 (fits_rest old (old_parts ps) s f))

pub apart_leave : (apart shown : Cell → Bool) (ps : List Part) (s t : Store) → PartsStandApart apart shown ps s → AgreeIn (agreed apart shown (old_parts ps)) s t → Fits (old_parts ps) s → AgreeIn (agreed_at_end apart shown) (store_after (old_parts ps) s) (store_after (new_parts ps) t)
apart_leave apart shown [] s t k agree f c h = agree c (end_agreed apart shown c h)
apart_leave apart shown (same acts ∷ ps) s t k agree f c h =
    let a = own_part apart shown acts (old_parts ps) s (fits_first acts (old_parts ps) s f) t agree in
    ap (λ z. z c) (after_append acts (old_parts ps) s) ∙ apart_leave apart shown ps (store_after acts s) (store_after acts t) k a.1 (fits_rest acts (old_parts ps) s f) c h
    ∙ sym (ap (λ z. z c) (after_append acts (new_parts ps) t))
apart_leave apart shown (changed old new ∷ ps) s t k agree f c h =
    let a = k.0 t agree in
    ap (λ z. z c) (after_append old (old_parts ps) s) ∙ apart_leave apart shown ps (store_after old s) (store_after new t) k.1 a.1 (fits_rest old (old_parts ps) s f) c h
    ∙ sym (ap (λ z. z c) (after_append new (new_parts ps) t))

not_true : (b : Bool) → not b ≡ true → b ≡ false
not_true true h = absurd cc
not_true false h = refl

-- the sets that stores agree on suit acts where idle cells stand apart and nobody wants them behind the acts
pub agreed_suit : (apart shown idle : Cell → Bool) (acts rest : List Act) → ((c : Cell) → idle c ≡ true → (apart c ≡ true) × (wants shown rest c ≡ false)) → Suit idle (agreed apart shown (acts ++ rest)) (agreed apart shown rest) acts
agreed_suit apart shown idle acts rest h = record {
  needed = needed_agreed apart shown acts rest;
  wanted = (λ c k. (false_from_ne_true (idle c) (counts c k), agreed_before_or_written apart shown acts rest c k));
}
  where
    counts : (c : Cell) → agreed apart shown rest c ≡ true → idle c ≡ true → ⊥
    counts c k i = elim (or_either (not (apart c)) (wants shown rest c) k) [
      | inl p ↦ both_ways (apart c) (not_true (apart c) p) (h c i).0
      | inr q ↦ both_ways (wants shown rest c) (h c i).1 q
    ]

-- pieces that stand for others, one after the other
pub both_stand : (before middle behind : Cell → Bool) (first others rest more : List Act) (s : Store) → StandsFor (record { agreed = before; old = first; new = others }) middle s → StandsFor (record { agreed = middle; old = rest; new = more }) behind (store_after first s)
    → StandsFor (record { agreed = before; old = first ++ rest; new = others ++ more }) behind s
both_stand before middle behind first others rest more s h k t agree =
    let a = h t agree in
    let b = k (store_after others t) a.1 in (
      fits_append others more t a.0 b.0,
      (λ c p. ap (λ z. z c) (after_append first rest s) ∙ b.1 c p ∙ ap (λ z. z c) (sym (after_append others more t))),
    )

-- a piece stands with more agreed before it, and less behind it
pub stands_with : (before more behind less : Cell → Bool) (acts others : List Act) (s : Store) → StandsFor (record { agreed = before; old = acts; new = others }) behind s → ((c : Cell) → before c ≡ true → more c ≡ true) → ((c : Cell) → less c ≡ true → behind c ≡ true)
    → StandsFor (record { agreed = more; old = acts; new = others }) less s
stands_with before more behind less acts others s h m l t agree = let a = h t (λ c p. agree c (m c p)) in (a.0, (λ c p. a.1 c (l c p)))

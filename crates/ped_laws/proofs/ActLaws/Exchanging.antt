-- Pieces of a list exchanged for others.
use Rattle.std.proofs.Common.{◌≡◌, List, [], ◌∷◌, ◌++◌, Bool, true, false, ◌&&◌, ◌||◌, refl, sym, ap, subst, ◌∙◌, ◌⊎◌, inl, inr}
use Rattle.std.specs.Prelude.{not, if◌then◌else◌}
use Rattle.std.proofs.lemmas.Bool.{and_parts, or_parts}
use Rattle.std.proofs.lemmas.List.Folds.{list_any-append}
use Rattle.ped_eval.specs.ped_store.specs.Cells.{Cell, same_cell}
use Rattle.ped_eval.specs.ped_store.specs.Stores.{Store}
use Rattle.ped_eval.specs.ped_store.specs.Acts.{Manner, reads, writes, is_told, Touch, Act}
use Rattle.ped_eval.specs.ped_store.specs.Races.{is_write}
use Rattle.ped_laws.specs.Acts.Fitting.{Fits, store_after, touches_of, of_cells}
use Rattle.ped_laws.specs.Acts.Sets.{AgreeIn, AgreeOutside, writes_to, written_by, written, read_first, needed_by, needs, wants}
use Rattle.ped_laws.specs.Acts.Renaming.{Renamed, own_name}
use Rattle.ped_laws.specs.Acts.Pieces.{Piece, old_acts, new_acts, agreed_before, StandsFor, AllStand, Part, same, changed, old_parts, new_parts, PartsStand}
use Rattle.ped_laws.specs.Acts.Orders.{acts_in_blocks}
use Rattle.ped_laws.specs.Acts.Changes.{acts_before, acts_behind}
use Rattle.ped_laws.specs.Acts.Exchanges.{Exchange, IsAllowed}
use Rattle.ped_laws.proofs.ActLaws.Stores.{after_append, fits_append, fits_first, fits_rest}
use Rattle.ped_laws.proofs.ActLaws.Renamings.{or_right, or_left, or_either, renamed_fits, renamed_leaves, same_fits, same_leaves, own_names}
use Rattle.ped_laws.proofs.ActLaws.Changing.{changed_fits, changed_leaves}
use Rattle.ped_laws.proofs.ActLaws.Reorderings.{touches_append, blocks_fit, blocks_leave}

pub pieces_fit : (ps : List Piece) (last : Cell → Bool) (s t : Store) → AllStand ps last s → AgreeIn (agreed_before ps last) s t → Fits (new_acts ps) t
pieces_fit [] last s t k agree = tt
pieces_fit (p ∷ ps) last s t k agree =
    let h = k.0 t agree in
    fits_append p.new (new_acts ps) t h.0 (pieces_fit ps last (store_after p.old s) (store_after p.new t) k.1 h.1)

pub pieces_leave : (ps : List Piece) (last : Cell → Bool) (s t : Store) → AllStand ps last s → AgreeIn (agreed_before ps last) s t → AgreeIn last (store_after (old_acts ps) s) (store_after (new_acts ps) t)
pieces_leave [] last s t k agree c h = agree c h
pieces_leave (p ∷ ps) last s t k agree c h =
    let a = k.0 t agree in
    ap (λ z. z c) (after_append p.old (old_acts ps) s) ∙ pieces_leave ps last (store_after p.old s) (store_after p.new t) k.1 a.1 c h
    ∙ sym (ap (λ z. z c) (after_append p.new (new_acts ps) t))

-- a piece with the same reads and writes stands for it
pub same_stands : (acts others : List Act) (before behind : Cell → Bool) (s : Store) → Renamed own_name acts others → Fits acts s → ((c : Cell) → needs acts c ≡ true → before c ≡ true) → ((c : Cell) → behind c ≡ true → (before c ≡ true) ⊎ (written acts c ≡ true))
    → StandsFor (record { agreed = before; old = acts; new = others }) behind s
same_stands acts others before behind s r f asks tells t agree = (
  same_fits acts others s t r (λ c h. agree c (asks c h)) f,
  (λ c h. same_leaves acts others s t c r (elim (tells c h) [ inl p ↦ inr (agree c p) | inr w ↦ inl w ])),
)

own_stands : (acts : List Act) (before behind : Cell → Bool) (s : Store) → Fits acts s → ((c : Cell) → needs acts c ≡ true → before c ≡ true) → ((c : Cell) → behind c ≡ true → (before c ≡ true) ⊎ (written acts c ≡ true))
    → StandsFor (record { agreed = before; old = acts; new = acts }) behind s
own_stands acts before behind s = same_stands acts acts before behind s (own_names (of_cells (touches_of acts)))

-- a piece stands for another by a third
pub two_stand : (acts middle others : List Act) (before behind : Cell → Bool) (s : Store) → StandsFor (record { agreed = before; old = acts; new = middle }) behind s → StandsFor (record { agreed = before; old = middle; new = others }) behind s → StandsFor (record { agreed = before; old = acts; new = others }) behind s
two_stand acts middle others before behind s h k t agree =
    let a = h s (λ c p. refl) in
    let b = k t agree in
    (b.0, (λ c p. a.1 c p ∙ b.1 c p))

-- what acts and then others need
more_needed : (xs ys : List Touch) (c : Cell) → needed_by xs c ≡ true → needed_by (xs ++ ys) c ≡ true
more_needed [] ys c h = absurd cc
more_needed (x ∷ xs) ys c h = go x.manner (same_cell x.cell c) (more_needed xs ys c) h
  where
    go : (m : Manner) (b : Bool) → (needed_by xs c ≡ true → needed_by (xs ++ ys) c ≡ true) → (if b then read_first m (needed_by xs c) else needed_by xs c) ≡ true → (if b then read_first m (needed_by (xs ++ ys) c) else needed_by (xs ++ ys) c) ≡ true
    go reads true more h = refl
    go writes true more h = absurd cc
    go is_told true more h = more h
    go m false more h = more h

later_needed : (xs ys : List Touch) (c : Cell) → needed_by ys c ≡ true → written_by xs c ≡ false → needed_by (xs ++ ys) c ≡ true
later_needed [] ys c h n = h
later_needed (x ∷ xs) ys c h n = let p = or_parts (writes_to x c) (written_by xs c) n in go x.manner (same_cell x.cell c) (later_needed xs ys c h p.1) p.0
  where
    go : (m : Manner) (b : Bool) → needed_by (xs ++ ys) c ≡ true → is_write m && b ≡ false → (if b then read_first m (needed_by (xs ++ ys) c) else needed_by (xs ++ ys) c) ≡ true
    go reads true more h = refl
    go writes true more h = absurd cc
    go is_told true more h = more
    go m false more h = more

not_true : (b : Bool) → not b ≡ true → b ≡ false
not_true true h = absurd cc
not_true false h = refl

not_false : (b : Bool) → b ≡ false → not b ≡ true
not_false true h = absurd cc
not_false false h = refl

-- what acts need, acts and then others want
pub needed_wanted : (shown : Cell → Bool) (xs ys : List Act) (c : Cell) → needs xs c ≡ true → wants shown (xs ++ ys) c ≡ true
needed_wanted shown xs ys c h =
    or_left (needs (xs ++ ys) c) (shown c && not (written (xs ++ ys) c)) (ap (λ z. needed_by z c) (touches_append xs ys) ∙ more_needed (touches_of xs) (touches_of ys) c h)

-- what others want, acts and then the others want where the acts don't write it
pub wanted_before : (shown : Cell → Bool) (xs ys : List Act) (c : Cell) → wants shown ys c ≡ true → (wants shown (xs ++ ys) c ≡ true) ⊎ (written xs c ≡ true)
wanted_before shown xs ys c h = go (written xs c) refl
  where
    case : written xs c ≡ false → (needs ys c ≡ true) ⊎ (shown c && not (written ys c) ≡ true) → wants shown (xs ++ ys) c ≡ true
    case n (inl k) = or_left (needs (xs ++ ys) c) (shown c && not (written (xs ++ ys) c)) (ap (λ z. needed_by z c) (touches_append xs ys) ∙ later_needed (touches_of xs) (touches_of ys) c k n)
    case n (inr k) =
        let p = and_parts (shown c) (not (written ys c)) k in
        let w : written (xs ++ ys) c ≡ false =
        ap (λ z. written_by z c) (touches_append xs ys) ∙ list_any-append (λ t. writes_to t c) (touches_of xs) (touches_of ys) ∙ ap (λ b. b || written ys c) n ∙ not_true (written ys c) p.1 in
        or_right (needs (xs ++ ys) c) (shown c && not (written (xs ++ ys) c)) (ap (λ b. b && not (written (xs ++ ys) c)) p.0 ∙ not_false (written (xs ++ ys) c) w)

    go : (b : Bool) → written xs c ≡ b → (wants shown (xs ++ ys) c ≡ true) ⊎ (written xs c ≡ true)
    go true p = inr p
    go false p = inl (case p (or_either (needs ys c) (shown c && not (written ys c)) h))

-- at the end is wanted what is shown
pub shown_wanted : (shown : Cell → Bool) (c : Cell) → shown c ≡ true → wants shown [] c ≡ true
shown_wanted shown c h = ap (λ b. b && true) h

pub parts_fit : (shown : Cell → Bool) (ps : List Part) (s t : Store) → PartsStand shown ps s → AgreeIn (wants shown (old_parts ps)) s t → Fits (old_parts ps) s → Fits (new_parts ps) t
parts_fit shown [] s t k agree f = tt
parts_fit shown (same acts ∷ ps) s t k agree f =
    let h = own_stands acts (wants shown (acts ++ old_parts ps)) (wants shown (old_parts ps)) s (fits_first acts (old_parts ps) s f) (needed_wanted shown acts (old_parts ps)) (wanted_before shown acts (old_parts ps)) t agree in
    fits_append acts (new_parts ps) t h.0 (parts_fit shown ps (store_after acts s) (store_after acts t) k h.1 (fits_rest acts (old_parts ps) s f))
parts_fit shown (changed old new ∷ ps) s t k agree f =
    let h = k.0 t agree in
    fits_append new (new_parts ps) t h.0 (parts_fit shown ps (store_after old s) (store_after new t) k.1 h.1 (fits_rest old (old_parts ps) s f))

pub parts_leave : (shown : Cell → Bool) (ps : List Part) (s t : Store) → PartsStand shown ps s → AgreeIn (wants shown (old_parts ps)) s t → Fits (old_parts ps) s → AgreeIn shown (store_after (old_parts ps) s) (store_after (new_parts ps) t)
parts_leave shown [] s t k agree f c h = agree c (shown_wanted shown c h)
parts_leave shown (same acts ∷ ps) s t k agree f c h =
    let a = own_stands acts (wants shown (acts ++ old_parts ps)) (wants shown (old_parts ps)) s (fits_first acts (old_parts ps) s f) (needed_wanted shown acts (old_parts ps)) (wanted_before shown acts (old_parts ps)) t agree in
    ap (λ z. z c) (after_append acts (old_parts ps) s) ∙ parts_leave shown ps (store_after acts s) (store_after acts t) k a.1 (fits_rest acts (old_parts ps) s f) c h
    ∙ sym (ap (λ z. z c) (after_append acts (new_parts ps) t))
parts_leave shown (changed old new ∷ ps) s t k agree f c h =
    let a = k.0 t agree in
    ap (λ z. z c) (after_append old (old_parts ps) s) ∙ parts_leave shown ps (store_after old s) (store_after new t) k.1 a.1 (fits_rest old (old_parts ps) s f) c h
    ∙ sym (ap (λ z. z c) (after_append new (new_parts ps) t))

-- an exchange that is allowed gives acts that may stand for the old ones
pub exchange_stands : (e : Exchange) (acts : List Act) (before behind : Cell → Bool) (s : Store) → Fits acts s → IsAllowed e acts before behind s → StandsFor (record { agreed = before; old = acts; new = acts_behind e.coming }) behind s
exchange_stands e acts before behind s f k t agree = (new, alike)
  where
    d : Cell → Bool
    d = e.idle

    same_store : AgreeOutside d t t
    same_store c h = refl

    kept_name : (c : Cell) → needs acts c ≡ true → s c ≡ t (e.names c)
    kept_name c h = agree c (k.needed c h).0 ∙ ap t (sym (k.needed c h).1)

    renamed : Fits (acts_before e.going) t
    renamed = renamed_fits e.names acts (acts_before e.going) s t k.renamed k.one_to_one kept_name f

    gone : Fits (acts_in_blocks e.blocks) t
    gone = subst (λ z. Fits z t) k.are_left (changed_fits d e.going t t (k.go t agree renamed) same_store renamed)

    moved : Fits (acts_before e.coming) t
    moved = subst (λ z. Fits z t) (sym k.are_taken) (blocks_fit d e.blocks e.order t t k.once k.reordered k.kept k.unread same_store gone)

    new : Fits (acts_behind e.coming) t
    new = changed_fits d e.coming t t (k.come t agree moved) same_store moved

    alike : AgreeIn behind (store_after acts s) (store_after (acts_behind e.coming) t)
    alike c h =
        let w = k.wanted c h in
        let own = w.1 in
        renamed_leaves e.names acts (acts_before e.going) s t c k.renamed w.2 (elim w.3 [ inl p ↦ inr (agree c p ∙ ap t (sym own)) | inr p ↦ inl p ])
        ∙ ap (store_after (acts_before e.going) t) own
        ∙ changed_leaves d e.going t t (k.go t agree renamed) same_store renamed c w.0
        ∙ ap (λ z. store_after z t c) k.are_left
        ∙ blocks_leave d e.blocks e.order t t k.once k.reordered k.kept same_store c w.0
        ∙ ap (λ z. store_after z t c) (sym k.are_taken)
        ∙ changed_leaves d e.coming t t (k.come t agree moved) same_store moved c w.0

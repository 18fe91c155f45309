-- What holds of lists of acts one after the other, for lists that are put together by recursion.
use Rattle.std.proofs.Common.{◌≡◌, List, [], ◌∷◌, ◌++◌, Bool, true, false, ◌&&◌, ◌||◌, refl, sym, ap, subst, ◌∙◌, append_assoc}
use Rattle.std.specs.Prelude.{not, if◌then◌else◌}
use Rattle.std.proofs.lemmas.List.Folds.{list_any-append}
use Rattle.ped_eval.specs.ped_store.specs.Cells.{Cell, same_cell}
use Rattle.ped_eval.specs.ped_store.specs.Stores.{Store}
use Rattle.ped_eval.specs.ped_store.specs.Acts.{Manner, reads, writes, is_told, Touch, Act}
use Rattle.ped_eval.specs.ped_store.specs.Races.{is_write}
use Rattle.ped_laws.specs.Acts.Fitting.{touches_of, has_cell, of_cells}
use Rattle.ped_laws.specs.Acts.Sets.{writes_to, written_by, written, read_first, needed_by, needs}
use Rattle.ped_laws.specs.Acts.Renaming.{AreRenamed, Renamed, touched_by, touch}
use Rattle.ped_laws.specs.Acts.Changes.{Change, stays, goes, comes, acts_before, acts_behind, stay_all, PlainChange}
use Rattle.ped_laws.specs.Acts.Orders.{Block, acts_in_blocks}
use Rattle.ped_laws.specs.Acts.Conflicts.{touches_without, ReadNone}
use Rattle.ped_laws.proofs.ActLaws.OfCells.{cells_append}
use Rattle.ped_laws.proofs.ActLaws.Renamings.{own_names}
use Rattle.ped_laws.proofs.ActLaws.Reorderings.{touches_append}

-- what is written, touched and needed by acts and then others
pub written_append : (xs ys : List Act) (c : Cell) → written (xs ++ ys) c ≡ written xs c || written ys c
written_append xs ys c = ap (λ z. written_by z c) (touches_append xs ys) ∙ list_any-append (λ t. writes_to t c) (touches_of xs) (touches_of ys)

pub touch_append : (xs ys : List Act) (c : Cell) → touch (xs ++ ys) c ≡ touch xs c || touch ys c
touch_append xs ys c = ap (λ z. touched_by z c) (touches_append xs ys) ∙ list_any-append (λ t. has_cell t.manner && same_cell t.cell c) (touches_of xs) (touches_of ys)

first_of_both : (m : Manner) (same needed later wrote : Bool) → (if same then read_first m (needed || (not wrote && later)) else (needed || (not wrote && later))) ≡ (if same then read_first m needed else needed) || (not ((is_write m && same) || wrote) && later)
first_of_both reads true needed later wrote = refl
first_of_both writes true needed later wrote = refl
first_of_both is_told true needed later wrote = refl
first_of_both reads false needed later wrote = refl
first_of_both writes false needed later wrote = refl
first_of_both is_told false needed later wrote = refl

needed_by_append : (xs ys : List Touch) (c : Cell) → needed_by (xs ++ ys) c ≡ needed_by xs c || (not (written_by xs c) && needed_by ys c)
needed_by_append [] ys c = refl
needed_by_append (x ∷ xs) ys c =
    ap (λ b. if same_cell x.cell c then read_first x.manner b else b) (needed_by_append xs ys c)
    ∙ first_of_both x.manner (same_cell x.cell c) (needed_by xs c) (needed_by ys c) (written_by xs c)

pub needs_append : (xs ys : List Act) (c : Cell) → needs (xs ++ ys) c ≡ needs xs c || (not (written xs c) && needs ys c)
needs_append xs ys c = ap (λ z. needed_by z c) (touches_append xs ys) ∙ needed_by_append (touches_of xs) (touches_of ys) c

-- renamed acts and then others
are_renamed_append : (g : Cell → Cell) (xs ys us vs : List Touch) → AreRenamed g xs ys → AreRenamed g us vs → AreRenamed g (xs ++ us) (ys ++ vs)
are_renamed_append g [] [] us vs h k = k
are_renamed_append g [] (y ∷ ys) us vs h k = absurd h
are_renamed_append g (x ∷ xs) [] us vs h k = absurd h
are_renamed_append g (x ∷ xs) (y ∷ ys) us vs h k = (h.0, h.1, h.2, are_renamed_append g xs ys us vs h.3 k)

cells_of_both : (xs ys : List Act) → of_cells (touches_of (xs ++ ys)) ≡ of_cells (touches_of xs) ++ of_cells (touches_of ys)
cells_of_both xs ys = ap of_cells (touches_append xs ys) ∙ cells_append (touches_of xs) (touches_of ys)

pub renamed_append : (g : Cell → Cell) (xs ys us vs : List Act) → Renamed g xs ys → Renamed g us vs → Renamed g (xs ++ us) (ys ++ vs)
renamed_append g xs ys us vs h k =
    subst (λ z. AreRenamed g z (of_cells (touches_of (ys ++ vs)))) (sym (cells_of_both xs us))
    (subst (AreRenamed g (of_cells (touches_of xs) ++ of_cells (touches_of us))) (sym (cells_of_both ys vs))
    (are_renamed_append g (of_cells (touches_of xs)) (of_cells (touches_of ys)) (of_cells (touches_of us)) (of_cells (touches_of vs)) h k))

-- changes and then others
pub before_append : (v w : List Change) → acts_before (v ++ w) ≡ acts_before v ++ acts_before w
before_append [] w = refl
before_append (stays a b ∷ v) w = ap (λ z. a ∷ z) (before_append v w)
before_append (goes a ∷ v) w = ap (λ z. a ∷ z) (before_append v w)
before_append (comes b ∷ v) w = before_append v w

pub behind_append : (v w : List Change) → acts_behind (v ++ w) ≡ acts_behind v ++ acts_behind w
behind_append [] w = refl
behind_append (stays a b ∷ v) w = ap (λ z. b ∷ z) (behind_append v w)
behind_append (goes a ∷ v) w = behind_append v w
behind_append (comes b ∷ v) w = ap (λ z. b ∷ z) (behind_append v w)

pub plain_append : (d changing : Cell → Bool) (s : Store) (v w : List Change) → PlainChange d changing s v → PlainChange d changing s w → PlainChange d changing s (v ++ w)
plain_append d changing s [] w h k = k
plain_append d changing s (stays a b ∷ v) w h k = (h.0, plain_append d changing s v w h.1 k)
plain_append d changing s (goes a ∷ v) w h k = (h.0, plain_append d changing s v w h.1 k)
plain_append d changing s (comes b ∷ v) w h k = (h.0, h.1, plain_append d changing s v w h.2 k)

-- blocks and then others
pub blocks_append : (bs cs : List Block) → acts_in_blocks (bs ++ cs) ≡ acts_in_blocks bs ++ acts_in_blocks cs
blocks_append [] cs = refl
blocks_append (b ∷ bs) cs = ap (λ z. b.acts ++ z) (blocks_append bs cs) ∙ sym (append_assoc b.acts (acts_in_blocks bs) (acts_in_blocks cs))

-- acts that all stay
pub before_stay : (acts : List Act) → acts_before (stay_all acts) ≡ acts
before_stay [] = refl
before_stay (a ∷ acts) = ap (λ z. a ∷ z) (before_stay acts)

pub behind_stay : (acts : List Act) → acts_behind (stay_all acts) ≡ acts
behind_stay [] = refl
behind_stay (a ∷ acts) = ap (λ z. a ∷ z) (behind_stay acts)

pub stay_plain : (d changing : Cell → Bool) (s : Store) (acts : List Act) → ReadNone d acts → PlainChange d changing s (stay_all acts)
stay_plain d changing s [] h = tt
stay_plain d changing s (a ∷ acts) h = ((h.0, own_names (of_cells (touches_without d a.touches))), stay_plain d changing s acts h.1)

-- Lists woven anew.
use Rattle.std.proofs.Common.{◌≡◌, ℕ, List, [], ◌∷◌, Bool, true, false, refl, sym, ap, subst, ◌∙◌, inl, inr}
use Rattle.std.proofs.lemmas.Bool.{false_from_ne_true}
use Rattle.ped_laws.specs.ped_store.specs.Cells.{Cell}
use Rattle.ped_laws.specs.ped_store.specs.Stores.{Store}
use Rattle.ped_laws.specs.ped_store.specs.Acts.{Manner, reads, Touch, Act}
use Rattle.ped_laws.specs.ped_store.specs.Races.{is_write}
use Rattle.ped_laws.specs.Acts.Fitting.{Fits, store_after, touches_of}
use Rattle.ped_laws.specs.Acts.Sets.{AgreeIn, written}
use Rattle.ped_laws.specs.Acts.Conflicts.{without, ReadNone}
use Rattle.ped_laws.specs.Acts.Changes.{acts_before, ChangeWithin}
use Rattle.ped_laws.specs.Acts.Orders.{IsIn, EachOnce, IsReordered, KeepsOrder, Block, acts_in_blocks, block_conflict}
use Rattle.ped_laws.specs.Acts.Grids.{block_at}
use Rattle.ped_laws.specs.Acts.Pieces.{StandsFor}
use Rattle.ped_laws.specs.Acts.Renaming.{Renamed}
use Rattle.ped_laws.proofs.ActLaws.Outside.{none_append}
use Rattle.ped_laws.proofs.ActLaws.Renamings.{agreeing_fits, renamed_fits, renamed_leaves}
use Rattle.ped_laws.proofs.ActLaws.Changing.{changed_fits, changed_leaves, plain_changes, stripped_fits, restored_fits, stripped_leaves}
use Rattle.ped_laws.proofs.ActLaws.Reorderings.{blocks_fit, blocks_leave}
use Rattle.ped_weaves.specs.Weaves.{Knot, block, control, Weave, blocks_in, old_list, new_list, counted, IsWoven}
use Rattle.ped_weaves.proofs.WeaveLaws.KnotLists.{loosened, tightened, before_loosened, behind_loosened, before_tightened, behind_tightened, loosened_plain, tightened_plain, remade, block_is, in_blocks, once_remade, reordered_remade, kept_remade}
use Rattle.ped_weaves.proofs.WeaveLaws.NewNames.{Counts, counts_source, new_unread, conflict_back, blocks_renamed, of_block, counts_of_all, counts_touched, counts_written, write_of}
use Rattle.ped_weaves.proofs.WeaveLaws.PutFor.{itself, alike_behind}

-- blocks read none of the set where each does
pub blocks_unread : (d : Cell → Bool) (acts : ℕ → ℕ → List Act) (ks : List Knot) → ((i j : ℕ) → IsIn (block i j) ks → ReadNone d (acts i j)) → ReadNone d (acts_in_blocks (blocks_in acts ks))
blocks_unread d acts [] h = tt
blocks_unread d acts (block i j ∷ ks) h = none_append d (acts i j) (acts_in_blocks (blocks_in acts ks)) (h i j (inl refl)) (blocks_unread d acts ks (λ i j k. h i j (inr k)))
blocks_unread d acts (control c ∷ ks) h = blocks_unread d acts ks (λ i j k. h i j (inr k))

-- what IsWoven says, and what follows for the new blocks
new_unread_at : (w : Weave) (before behind : Cell → Bool) (s : Store) → IsWoven w before behind s → (i j : ℕ) → IsIn (block i j) w.old → ReadNone w.idle (w.others i j)
new_unread_at w before behind s k i j h =
    new_unread w.names w.idle (w.acts i j) (w.others i j) (k.renamed i j h) (λ x c. k.idle_names x.cell (counts_touched w.idle (acts_in_blocks (blocks_in w.acts w.old)) x (counts_of_all w.idle w.acts w.old i j x h c)))

-- a block of the new list is one of the old list
old_block : (w : Weave) (before behind : Cell → Bool) (s : Store) → IsWoven w before behind s → (b : Block) → IsIn b (blocks_in w.others w.new) → (b ≡ remade w.others b) × IsIn (block b.outer b.inner) w.old
old_block w before behind s k b i =
    block_is w.others w.old b ((reordered_remade w.acts w.others w.old w.new k.reordered).same.none_added b i)

-- what counts of an old block is written by what counts of all, where it is a write
counted_write : (w : Weave) (i j : ℕ) (x : Touch) (m : Manner) → IsIn (block i j) w.old → Counts w.idle (w.acts i j) x → x.manner ≡ m → is_write m ≡ true → written (counted w) x.cell ≡ true
counted_write w i j x m k c e h = counts_written w.idle (acts_in_blocks (blocks_in w.acts w.old)) x (counts_of_all w.idle w.acts w.old i j x k c) (ap is_write e ∙ h)

-- where new blocks write, an old one writes a cell that is renamed so
new_write : (w : Weave) (before behind : Cell → Bool) (s : Store) → IsWoven w before behind s → (c : Cell) → w.idle c ≡ false → written (acts_in_blocks (blocks_in w.others w.new)) c ≡ true → (e : Cell) × (written (counted w) e ≡ true) × (w.names e ≡ c)
new_write w before behind s k c out h =
    let y = write_of w.idle (acts_in_blocks (blocks_in w.others w.new)) c out h in
    let b = of_block (blocks_in w.others w.new) y.0 y.1.among in
    let o = old_block w before behind s k b.0 b.1 in
    let i = b.0.outer in
    let j = b.0.inner in
    let x = counts_source w.names w.idle (w.acts i j) (w.others i j) y.0 (k.renamed i j o.1) (record { among = subst (λ (z : Block). IsIn y.0 (touches_of z.acts)) o.0 b.2; cell = y.1.cell; outside = y.1.outside }) in
    (x.0.cell, counted_write w i j x.0 y.0.manner o.1 x.1 x.2 y.2, sym x.3 ∙ y.3)

-- new blocks conflict only where the old ones do
conflicts_stay : (w : Weave) (before behind : Cell → Bool) (s : Store) → IsWoven w before behind s → KeepsOrder (block_conflict w.idle) (blocks_in w.others w.old) (blocks_in w.others w.new)
conflicts_stay w before behind s k = kept_remade w.acts w.others w.old w.new (block_conflict w.idle) back k.kept
  where
    back : (b c : Block) → IsIn b (blocks_in w.others w.old) → IsIn c (blocks_in w.others w.old) → block_conflict w.idle b c ≡ true → block_conflict w.idle (remade w.acts b) (remade w.acts c) ≡ true
    back b c i j h =
        let p = block_is w.others w.old b i in
        let q = block_is w.others w.old c j in
        let e : block_conflict w.idle (remade w.others b) (remade w.others c) ≡ true = ap (λ z. block_conflict w.idle z (remade w.others c)) (sym p.0) ∙ ap (block_conflict w.idle b) (sym q.0) ∙ h in
        conflict_back w.names w.idle (w.acts b.outer b.inner) (w.acts c.outer c.inner) (w.others b.outer b.inner) (w.others c.outer c.inner) (k.renamed b.outer b.inner p.1) (k.renamed c.outer c.inner q.1) (k.unread b.outer b.inner p.1)
        (λ x y f g. k.one_to_one x.cell y.cell
        (counts_touched w.idle (acts_in_blocks (blocks_in w.acts w.old)) x (counts_of_all w.idle w.acts w.old b.outer b.inner x p.1 f))
        (counts_touched w.idle (acts_in_blocks (blocks_in w.acts w.old)) y (counts_of_all w.idle w.acts w.old c.outer c.inner y q.1 g))) e

pub woven_stands : (w : Weave) (before behind : Cell → Bool) (s : Store) → Fits (old_list w) s → IsWoven w before behind s → StandsFor (record { agreed = before; old = old_list w; new = new_list w }) behind s
woven_stands w before behind s f k t agree = (new, alike)
  where
    d : Cell → Bool
    d = w.idle

    olds : List Act
    olds = acts_in_blocks (blocks_in w.acts w.old)

    rest : List Act
    rest = acts_in_blocks (blocks_in w.others w.old)

    moved : List Act
    moved = acts_in_blocks (blocks_in w.others w.new)

    -- controls go
    loose : ChangeWithin d (loosened w.acts w.old) t t
    loose = plain_changes d (loosened w.acts w.old) t t (loosened_plain d (written (acts_before (loosened w.acts w.old))) t w.acts w.old k.controls k.unread)

    all : Fits (acts_before (loosened w.acts w.old)) t
    all = subst (λ z. Fits z t) (sym (before_loosened w.acts w.old)) (agreeing_fits (old_list w) s t (λ c h. agree c (k.suit.needed c h)) f)

    olds_fit : Fits olds t
    olds_fit = subst (λ z. Fits z t) (behind_loosened w.acts w.old) (changed_fits d (loosened w.acts w.old) t t loose (itself d t) all)

    -- cells get new names
    unread : ReadNone d olds
    unread = blocks_unread d w.acts w.old k.unread

    renamed : Renamed w.names (counted w) (without d rest)
    renamed = blocks_renamed w.names d w.acts w.others w.old k.renamed

    stripped : Fits (without d rest) t
    stripped = renamed_fits w.names (counted w) (without d rest) t t renamed k.one_to_one (λ c h. ap t (sym (k.own c h))) (stripped_fits d olds t t unread (itself d t) olds_fit)

    rest_unread : ReadNone d rest
    rest_unread = blocks_unread d w.others w.old (new_unread_at w before behind s k)

    rest_fit : Fits rest t
    rest_fit = restored_fits d rest t t rest_unread (itself d t) stripped

    -- blocks change places
    once : EachOnce (blocks_in w.others w.old)
    once = once_remade w.acts w.others w.old k.once

    reordered : IsReordered (blocks_in w.others w.old) (blocks_in w.others w.new)
    reordered = reordered_remade w.acts w.others w.old w.new k.reordered

    moved_fit : Fits moved t
    moved_fit = blocks_fit d (blocks_in w.others w.old) (blocks_in w.others w.new) t t once reordered (conflicts_stay w before behind s k) rest_unread (itself d t) rest_fit

    -- controls come
    new_block_unread : (i j : ℕ) → IsIn (block i j) w.new → ReadNone d (w.others i j)
    new_block_unread i j h = new_unread_at w before behind s k i j (old_block w before behind s k (block_at w.others i j) (in_blocks w.others w.new i j h)).1

    steady : (c : List Act) (x : Touch) → IsIn (control c) w.new → IsIn x (touches_of c) → x.manner ≡ reads → (d x.cell ≡ false) × (written (acts_before (tightened w.others w.new)) x.cell ≡ false) × (t x.cell ≡ x.content)
    steady c x i j m =
        let e = k.steady c x i j m in (
          e.counts,
          false_from_ne_true (written (acts_before (tightened w.others w.new)) x.cell) (λ h.
              let n = new_write w before behind s k x.cell e.counts (ap (λ z. written z x.cell) (sym (before_tightened w.others w.new)) ∙ h) in
              e.unwritten n.0 n.1 n.2),
          sym (agree x.cell e.agreed) ∙ e.held,
        )

    tight : ChangeWithin d (tightened w.others w.new) t t
    tight = plain_changes d (tightened w.others w.new) t t (tightened_plain d (written (acts_before (tightened w.others w.new))) t w.others w.new k.new_controls new_block_unread steady)

    before_all : Fits (acts_before (tightened w.others w.new)) t
    before_all = subst (λ z. Fits z t) (sym (before_tightened w.others w.new)) moved_fit

    new : Fits (new_list w) t
    new = subst (λ z. Fits z t) (behind_tightened w.others w.new) (changed_fits d (tightened w.others w.new) t t tight (itself d t) before_all)

    alike : AgreeIn behind (store_after (old_list w) s) (store_after (new_list w) t)
    alike c h =
        let out = (k.suit.wanted c h).0 in
        let own = k.own_behind c h in
        alike_behind d before behind (old_list w) s t k.suit agree c h
        ∙ ap (λ z. store_after z t c) (sym (before_loosened w.acts w.old))
        ∙ changed_leaves d (loosened w.acts w.old) t t loose (itself d t) all c out
        ∙ ap (λ z. store_after z t c) (behind_loosened w.acts w.old)
        ∙ stripped_leaves d olds t t (itself d t) c out
        ∙ renamed_leaves w.names (counted w) (without d rest) t t c renamed own.1 (inr (ap t (sym own.0)))
        ∙ ap (store_after (without d rest) t) own.0
        ∙ sym (stripped_leaves d rest t t (itself d t) c out)
        ∙ blocks_leave d (blocks_in w.others w.old) (blocks_in w.others w.new) t t once reordered (conflicts_stay w before behind s k) (itself d t) c out
        ∙ ap (λ z. store_after z t c) (sym (before_tightened w.others w.new))
        ∙ changed_leaves d (tightened w.others w.new) t t tight (itself d t) before_all c out
        ∙ ap (λ z. store_after z t c) (behind_tightened w.others w.new)

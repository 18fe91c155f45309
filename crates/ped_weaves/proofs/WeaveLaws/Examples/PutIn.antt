-- DO 10 I=1,0; DO 10 J=1,N is interchanged, and T=5 follows. There is no iteration, so the old loops don't read N; the new ones read it, as the bound of the outer loop. Nobody else wants N.
use Rattle.std.proofs.Common.{◌≡◌, pos, List, [], ◌∷◌, ◌++◌, Bool, true, false, ◌||◌, refl, sym, ap, subst, ◌∙◌, inl, inr}
use Rattle.std.proofs.lemmas.Bool.{both_ways}
use Rattle.ped_laws.specs.ped_store.specs.Cells.{Cell, same_cell}
use Rattle.ped_laws.specs.ped_store.specs.Stores.{Store, Number, Undefined, put}
use Rattle.ped_laws.specs.ped_store.specs.Acts.{reads, did, entered, ended_turn, Touch, Act}
use Rattle.ped_laws.specs.Acts.Fitting.{Fits, store_after, touches_of}
use Rattle.ped_laws.specs.Acts.Sets.{AgreeIn, wants}
use Rattle.ped_laws.specs.Acts.Conflicts.{without, ReadNone, WriteWithin}
use Rattle.ped_laws.specs.Acts.Orders.{IsIn}
use Rattle.ped_laws.specs.Acts.Pieces.{StandsFor, Part, same, changed}
use Rattle.ped_laws.specs.Acts.Renaming.{Renamed, own_name}
use Rattle.ped_laws.proofs.ActLaws.SameCells.{cell_is}
use Rattle.ped_laws.proofs.ActLaws.Stores.{put_other}
use Rattle.ped_laws.proofs.ActLaws.Renamings.{or_either}
use Rattle.ped_weaves.proofs.WeaveLaws.Examples.Lists.{i, j, n, t, read, write, turn, act}
use Rattle.ped_weaves.specs.Apart.{agreed, agreed_at_end, PartsStandApart}
use Rattle.ped_weaves.specs.Weaves.{control, Weave, IsSteady, IsWoven}
use Rattle.ped_weaves.proofs.WeaveLaws.AgreedApart.{apart_fit, apart_leave, agreed_suit}
use Rattle.ped_weaves.proofs.WeaveLaws.EachKnot.{each_control, each_block}
use Rattle.ped_weaves.proofs.WeaveLaws.Woven.{woven_stands}

abbrev entry : Act
entry = act (entered 0) 1 [] (write i 1 0 ∷ [])

abbrev new : List Act
new =
    act (entered 2) 1 [] (read n 2 1 ∷ [])
    ∷ act (entered 0) 2 (turn 1 1 ∷ []) (write i 1 0 ∷ [])
    ∷ act (ended_turn 1) 1 [] []
    ∷ act (entered 0) 2 (turn 1 2 ∷ []) (write i 1 0 ∷ [])
    ∷ act (ended_turn 0) 1 [] (write j 3 0 ∷ [])
    ∷ []

abbrev rest : List Act
rest = act did 3 [] (write t 5 1 ∷ []) ∷ []

abbrev shown : Cell → Bool
shown x = same_cell t x

-- I and J stand apart, and count for nothing
abbrev indices : Cell → Bool
indices x = same_cell i x || same_cell j x

unwanted : (x : Cell) → indices x ≡ true → (indices x ≡ true) × (wants shown rest x ≡ false)
unwanted x h = (
  h,
  elim (or_either (same_cell i x) (same_cell j x) h) [
    | inl p ↦ ap (wants shown rest) (sym (cell_is i x p))
    | inr p ↦ ap (wants shown rest) (sym (cell_is j x p))
  ],
)

-- entries and ends alone
abbrev weave : Weave
weave = record { names = own_name; idle = indices; old = control (entry ∷ []) ∷ []; new = control new ∷ []; acts = λ k l. []; others = λ k l. [] }

abbrev before : Cell → Bool
before = agreed indices shown (entry ∷ rest)

abbrev behind : Cell → Bool
behind = agreed indices shown rest

-- N is the one cell that the new acts read, and holds 2 all the time
reads_n : (s : Store) → s n ≡ Number (pos 2) → (x : Touch) → IsIn x (touches_of new) → x.manner ≡ reads → IsSteady weave before s x
reads_n s h x (inl e) m = subst (IsSteady weave before s) (sym e) (record { held = h; agreed = refl; counts = refl; unwritten = λ c w. absurd cc })
reads_n s h x (inr (inl e)) m = let k = ap (λ (z : Touch). z.manner) (sym e) ∙ m in absurd cc
reads_n s h x (inr (inr (inl e))) m = let k = ap (λ (z : Touch). z.manner) (sym e) ∙ m in absurd cc
reads_n s h x (inr (inr (inr (inl e)))) m = let k = ap (λ (z : Touch). z.manner) (sym e) ∙ m in absurd cc
reads_n s h x (inr (inr (inr (inr k)))) m = absurd k

woven : (s : Store) → s n ≡ Number (pos 2) → IsWoven weave before behind s
woven s h = record {
  controls = each_control (λ c. WriteWithin indices (touches_of c)) weave.old ((refl, tt), tt);
  new_controls = each_control (λ c. WriteWithin indices (touches_of c)) weave.new ((tt, (refl, (refl, (refl, tt)))), tt);
  steady = λ c x k. each_control (λ c. IsIn x (touches_of c) → x.manner ≡ reads → IsSteady weave before s x) weave.new (reads_n s h x, tt) c k;
  unread = each_block (λ k l. ReadNone indices []) weave.old tt;
  renamed = each_block (λ k l. Renamed own_name (without indices []) (without indices [])) weave.old tt;
  one_to_one = λ c d p q e. e;
  idle_names = λ c p. absurd cc;
  once = λ x b. b;
  reordered = record { once = λ x b. b; same = record { none_lost = λ x k. k; none_added = λ x k. k } };
  kept = λ x y b. absurd b;
  suit = agreed_suit indices shown indices (entry ∷ []) rest unwanted;
  own = λ c p. refl;
  own_behind = λ c p. (refl, (λ d w e. e));
}

stands : (s : Store) → s n ≡ Number (pos 2) → StandsFor (record { agreed = before; old = entry ∷ []; new = new }) behind s
stands s h = woven_stands weave before behind s ((tt, tt), tt) (woven s h)

-- the whole program's acts
abbrev parts : List Part
parts = changed (entry ∷ []) new ∷ same rest ∷ []

parts_stand : (s : Store) → s n ≡ Number (pos 2) → PartsStandApart indices shown parts s
parts_stand s h = (stands s h, tt)

pub interchanged_fits : (s : Store) → s n ≡ Number (pos 2) → Fits (new ++ rest) s
interchanged_fits s h = apart_fit indices shown parts s s (parts_stand s h) (λ x k. refl) ((tt, tt), ((tt, tt), tt))

pub interchanged_shows : (s : Store) → s n ≡ Number (pos 2) → AgreeIn (agreed_at_end indices shown) (store_after (entry ∷ rest) s) (store_after (new ++ rest) s)
interchanged_shows s h = apart_leave indices shown parts s s (parts_stand s h) (λ x k. refl) ((tt, tt), ((tt, tt), tt))

-- where the stores needn't agree on more than the old acts want, the new loops don't stand for the old ones: N may hold anything
wanted_agree : (s : Store) → AgreeIn (wants shown (entry ∷ rest)) s (put n Undefined s)
wanted_agree s x h = go (same_cell n x) refl
  where
    go : (b : Bool) → same_cell n x ≡ b → s x ≡ put n Undefined s x
    go true p = absurd (both_ways (wants shown (entry ∷ rest) x) (ap (wants shown (entry ∷ rest)) (sym (cell_is n x p))) h)
    go false p = sym (put_other n Undefined s x p)

pub wanted_is_too_little : (s : Store) → StandsFor (record { agreed = wants shown (entry ∷ rest); old = entry ∷ []; new = new }) (wants shown rest) s → ⊥
wanted_is_too_little s h = let k : Undefined ≡ Number (pos 2) = (h (put n Undefined s) (wanted_agree s)).0.0.0 in absurd cc

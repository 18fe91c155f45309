-- Accesses of acts, and the touches by which they are made.
use Rattle.std.proofs.Common.{◌≡◌, List, [], ◌∷◌, map, cond, Bool, true, false, refl, sym, ap, subst, ◌∙◌, inl, inr}
use Rattle.std.specs.Prelude.{not, ◌&&◌}
use Rattle.std.specs.List.{filter, list_any}
use Rattle.std.proofs.lemmas.Bool.{and_parts}
use Rattle.ped_weaves.specs.ped_store.specs.Cells.{Cell, same_cell}
use Rattle.ped_weaves.specs.ped_store.specs.Acts.{is_told, Touch, Act}
use Rattle.ped_weaves.specs.ped_store.specs.Races.{Access, is_lines, is_write, is_access, accesses_of, accesses}
use Rattle.ped_weaves.specs.ped_laws.specs.Acts.Fitting.{touches_of, has_cell}
use Rattle.ped_weaves.specs.ped_laws.specs.Acts.Orders.{IsIn}
use Rattle.ped_weaves.specs.ped_laws.specs.Acts.Renaming.{touch}
use Rattle.ped_weaves.specs.ped_laws.specs.Acts.Sets.{writes_to, written}
use Rattle.ped_weaves.specs.ped_laws.proofs.ActLaws.Lists.{in_left, in_right, in_parts}
use Rattle.ped_weaves.specs.ped_laws.proofs.ActLaws.SameCells.{cell_is, is_cell}
use Rattle.ped_weaves.specs.ped_laws.proofs.ActLaws.Renamings.{or_left, or_right, or_either}
use Rattle.ped_weaves.specs.ped_laws.proofs.ActLaws.Conflicting.{access_by}

-- an access is one of an act
pub accesses_from : (acts : List Act) (b : Access) → IsIn b (accesses acts) → (a : Act) × IsIn a acts × IsIn b (accesses_of a)
accesses_from [] b i = absurd i
accesses_from (a ∷ acts) b i = elim (in_parts b (accesses_of a) (accesses acts) i) [
  | inl j ↦ (a, inl refl, j)
  | inr j ↦ let r = accesses_from acts b j in (r.0, inr r.1, r.2)
]

-- an access is one of the touches of the act
pub touch_of : (a : Act) (touches : List Touch) (b : Access) → IsIn b (map (access_by a) (filter is_access touches)) → (u : Touch) × IsIn u touches × (is_access u ≡ true) × (b ≡ access_by a u)
touch_of a [] b i = absurd i
touch_of a (u ∷ us) b i = go (is_access u) refl i (touch_of a us b)
  where
    go : (r : Bool) → is_access u ≡ r → IsIn b (map (access_by a) (cond r (u ∷ filter is_access us) (filter is_access us))) → (IsIn b (map (access_by a) (filter is_access us)) → (v : Touch) × IsIn v us × (is_access v ≡ true) × (b ≡ access_by a v))
        → (v : Touch) × IsIn v (u ∷ us) × (is_access v ≡ true) × (b ≡ access_by a v)
    go true e (inl h) more = (u, inl refl, e, h)
    go true e (inr j) more = let r = more j in (r.0, inr r.1, r.2, r.3)
    go false e j more = let r = more j in (r.0, inr r.1, r.2, r.3)

-- tests of touches of acts
any_of : {X : Type 0} (test : X → Bool) (xs : List X) (y : X) → IsIn y xs → test y ≡ true → list_any test xs ≡ true
any_of test [] y i h = absurd i
any_of test (z ∷ zs) y (inl e) h = or_left (test z) (list_any test zs) (ap test (sym e) ∙ h)
any_of test (z ∷ zs) y (inr i) h = or_right (test z) (list_any test zs) (any_of test zs y i h)

one_of : {X : Type 0} (test : X → Bool) (xs : List X) → list_any test xs ≡ true → (y : X) × IsIn y xs × (test y ≡ true)
one_of test [] h = absurd cc
one_of test (z ∷ zs) h = elim (or_either (test z) (list_any test zs) h) [
  | inl e ↦ (z, inl refl, e)
  | inr k ↦ let r = one_of test zs k in (r.0, inr r.1, r.2)
]

touch_in : (acts : List Act) (a : Act) (v : Touch) → IsIn a acts → IsIn v a.touches → IsIn v (touches_of acts)
touch_in [] a v i j = absurd i
touch_in (b ∷ acts) a v (inl e) j = in_left v b.touches (touches_of acts) (subst (λ (z : Act). IsIn v z.touches) e j)
touch_in (b ∷ acts) a v (inr i) j = in_right v b.touches (touches_of acts) (touch_in acts a v i j)

touch_from : (acts : List Act) (v : Touch) → IsIn v (touches_of acts) → (a : Act) × IsIn a acts × IsIn v a.touches
touch_from [] v i = absurd i
touch_from (b ∷ acts) v i = elim (in_parts v b.touches (touches_of acts) i) [
  | inl k ↦ (b, inl refl, k)
  | inr k ↦ let r = touch_from acts v k in (r.0, inr r.1, r.2)
]

pub touch_there : (acts : List Act) (a : Act) (v : Touch) (c : Cell) → IsIn a acts → IsIn v a.touches → has_cell v.manner ≡ true → v.cell ≡ c → touch acts c ≡ true
touch_there acts a v c i j h e = any_of (λ (t : Touch). has_cell t.manner && same_cell t.cell c) (touches_of acts) v (touch_in acts a v i j) (ap (λ (b : Bool). b && same_cell v.cell c) h ∙ is_cell v.cell c e)

pub write_there : (acts : List Act) (a : Act) (v : Touch) → IsIn a acts → IsIn v a.touches → is_write v.manner ≡ true → written acts v.cell ≡ true
write_there acts a v i j h = any_of (λ (t : Touch). writes_to t v.cell) (touches_of acts) v (touch_in acts a v i j) (ap (λ (b : Bool). b && same_cell v.cell v.cell) h ∙ is_cell v.cell v.cell refl)

-- where acts write a cell, one of them has a touch that does
pub write_in : (acts : List Act) (c : Cell) → written acts c ≡ true → (a : Act) × IsIn a acts × (v : Touch) × IsIn v a.touches × (v.cell ≡ c) × (is_write v.manner ≡ true)
write_in acts c h =
    let t = one_of (λ (z : Touch). writes_to z c) (touches_of acts) h in
    let a = touch_from acts t.0 t.1 in
    let k = and_parts (is_write t.0.manner) (same_cell t.0.cell c) t.2 in
    (a.0, a.1, t.0, a.2, cell_is t.0.cell c k.1, k.0)

pub write_access : (v : Touch) → is_write v.manner ≡ true → is_access v ≡ true
write_access v h = or_left (is_write v.manner) (not (is_lines v.cell)) h

-- an access that is no more than the value of a DO's variable, which the place tells
pub record IsTold (acts : List Act) (b : Access) : Type 0 where
  pub by : Act
  pub found : IsIn by acts
  pub told : Touch
  pub among : IsIn told by.touches
  pub manner : told.manner ≡ is_told
  pub is : b ≡ access_by by told

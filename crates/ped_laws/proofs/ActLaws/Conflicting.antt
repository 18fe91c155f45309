-- Acts conflict where their accesses do.
use Rattle.std.proofs.Common.{◌≡◌, List, [], ◌∷◌, map, cond, Bool, true, false, ◌&&◌, ◌||◌, refl, sym, ap, subst, ◌∙◌, ◌⊎◌, inl, inr}
use Rattle.std.specs.Prelude.{not}
use Rattle.std.specs.List.{filter, list_any}
use Rattle.std.proofs.lemmas.Bool.{and_parts, or_parts}
use Rattle.ped_eval.specs.ped_store.specs.Cells.{Cell, same_cell}
use Rattle.ped_eval.specs.ped_store.specs.Acts.{Manner, reads, writes, is_told, Touch, Act}
use Rattle.ped_eval.specs.ped_store.specs.Races.{Access, is_lines, is_write, is_access, accesses_of, accesses, conflict}
use Rattle.ped_laws.specs.Acts.Fitting.{touches_of}
use Rattle.ped_laws.specs.Acts.Conflicts.{manners_clash, clash, some_clash, clash_outside, some_clash_outside, acts_conflict, acts_conflict_outside, blocks_conflict_outside}
use Rattle.ped_laws.specs.Acts.Orders.{IsIn, StandsBefore}
use Rattle.ped_laws.specs.Acts.Origins.{is_told_value, told_to, WritesItsLines}
use Rattle.ped_laws.proofs.ActLaws.SameCells.{cell_is, is_cell}
use Rattle.ped_laws.proofs.ActLaws.Lists.{in_left, in_right, in_parts, before_right, before_across}
use Rattle.ped_laws.proofs.ActLaws.Renamings.{or_right, or_left, or_either}

-- tests of items
any_of : {X : Type 0} (p : X → Bool) (xs : List X) (x : X) → IsIn x xs → p x ≡ true → list_any p xs ≡ true
any_of p [] x i h = absurd i
any_of p (y ∷ ys) x (inl e) h = or_left (p y) (list_any p ys) (ap p (sym e) ∙ h)
any_of p (y ∷ ys) x (inr i) h = or_right (p y) (list_any p ys) (any_of p ys x i h)

one_of : {X : Type 0} (p : X → Bool) (xs : List X) → list_any p xs ≡ true → (x : X) × IsIn x xs × (p x ≡ true)
one_of p [] h = absurd cc
one_of p (y ∷ ys) h = elim (or_either (p y) (list_any p ys) h) [
  | inl e ↦ (y, inl refl, e)
  | inr k ↦ let r = one_of p ys k in (r.0, inr r.1, r.2)
]

pub clash_of : (xs ys : List Touch) (x y : Touch) → IsIn x xs → IsIn y ys → clash x y ≡ true → some_clash xs ys ≡ true
clash_of xs ys x y i j h = any_of (λ z. list_any (clash z) ys) xs x i (any_of (clash x) ys y j h)

pub clashing : (xs ys : List Touch) → some_clash xs ys ≡ true → (x y : Touch) × IsIn x xs × IsIn y ys × (clash x y ≡ true)
clashing xs ys h =
    let r = one_of (λ z. list_any (clash z) ys) xs h in
    let q = one_of (clash r.0) ys r.2 in
    (r.0, q.0, r.1, q.1, q.2)

-- accesses are touches
abbrev pub access_by : Act → Touch → Access
access_by a t = record { cell = t.cell; writes = is_write t.manner; place = a.place; reference = t.reference }

pub access_in : (a : Act) (ts : List Touch) (t : Touch) → IsIn t ts → is_access t ≡ true → IsIn (access_by a t) (map (access_by a) (filter is_access ts))
access_in a [] t i h = absurd i
access_in a (u ∷ us) t (inl e) h = rw (ap is_access (sym e) ∙ h) (inl (ap (access_by a) e))
access_in a (u ∷ us) t (inr i) h = go (access_in a us t i h) (is_access u) refl
  where
    go : IsIn (access_by a t) (map (access_by a) (filter is_access us)) → (b : Bool) → is_access u ≡ b → IsIn (access_by a t) (map (access_by a) (filter is_access (u ∷ us)))
    go more true p = rw p (inr more)
    go more false p = rw p more

pub access_from : (a : Act) (ts : List Touch) (p : Access) → IsIn p (map (access_by a) (filter is_access ts)) → (t : Touch) × IsIn t ts × (p ≡ access_by a t)
access_from a [] p i = absurd i
access_from a (u ∷ us) p i = go (access_from a us p) (is_access u) refl i
  where
    go : (IsIn p (map (access_by a) (filter is_access us)) → (t : Touch) × IsIn t us × (p ≡ access_by a t)) → (b : Bool) → is_access u ≡ b → IsIn p (map (access_by a) (filter is_access (u ∷ us))) → (t : Touch) × IsIn t (u ∷ us) × (p ≡ access_by a t)
    go more true h j = elim (subst (λ b. IsIn p (map (access_by a) (cond b (u ∷ filter is_access us) (filter is_access us)))) h j) [
      | inl e ↦ (u, inl refl, e)
      | inr k ↦ let r = more k in (r.0, inr r.1, r.2)
    ]
    go more false h j = let r = more (subst (λ b. IsIn p (map (access_by a) (cond b (u ∷ filter is_access us) (filter is_access us)))) h j) in (r.0, inr r.1, r.2)

is_told_here : (a : Act) (t : Touch) → IsIn t a.touches → is_told_value t.manner ≡ true → (c : Cell) → same_cell t.cell c ≡ true → told_to a c ≡ true
is_told_here a t i h c k = any_of (λ u. is_told_value u.manner && same_cell u.cell c) a.touches t i (ap (λ b. b && same_cell t.cell c) h ∙ k)

-- two touches of which one writes clash, or one of them is told a value
pub by_manners : (m n : Manner) → is_write m || is_write n ≡ true → (manners_clash m n ≡ true) ⊎ ((is_told_value m ≡ true) ⊎ (is_told_value n ≡ true))
by_manners writes writes h = inl refl
by_manners writes reads h = inl refl
by_manners reads writes h = inl refl
by_manners writes is_told h = inr (inr refl)
by_manners is_told n h = inr (inl refl)
by_manners reads reads h = absurd cc
by_manners reads is_told h = absurd cc

-- acts of accesses that conflict do so, or one of them is told the value
pub conflict_of_accesses : (a b : Act) (p q : Access) → IsIn p (accesses_of a) → IsIn q (accesses_of b) → conflict p q ≡ true → (acts_conflict a b ≡ true) ⊎ ((told_to a p.cell ≡ true) ⊎ (told_to b q.cell ≡ true))
conflict_of_accesses a b p q i j h =
    let x = access_from a a.touches p i in
    let y = access_from b b.touches q j in
    let k = and_parts (same_cell p.cell q.cell) (p.writes || q.writes) h in
    let c : p.cell ≡ x.0.cell = ap (λ (z : Access). z.cell) x.2 in
    let d : q.cell ≡ y.0.cell = ap (λ (z : Access). z.cell) y.2 in
    let v : p.writes ≡ is_write x.0.manner = ap (λ (z : Access). z.writes) x.2 in
    let w : q.writes ≡ is_write y.0.manner = ap (λ (z : Access). z.writes) y.2 in
    let same : same_cell x.0.cell y.0.cell ≡ true = ap (λ z. same_cell z y.0.cell) (sym c) ∙ ap (same_cell p.cell) (sym d) ∙ k.0 in
    let wr : is_write x.0.manner || is_write y.0.manner ≡ true = ap (λ z. z || is_write y.0.manner) (sym v) ∙ ap (λ z. p.writes || z) (sym w) ∙ k.1 in
    elim (by_manners x.0.manner y.0.manner wr) [
      | inl m ↦ inl (clash_of a.touches b.touches x.0 y.0 x.1 y.1 (ap (λ z. z && manners_clash x.0.manner y.0.manner) same ∙ m))
      | inr t ↦ inr (elim t [
        | inl m ↦ inl (is_told_here a x.0 x.1 m p.cell (is_cell x.0.cell p.cell (sym c)))
        | inr n ↦ inr (is_told_here b y.0 y.1 n q.cell (is_cell y.0.cell q.cell (sym d)))
      ])
    ]

pub clash_writes : (m n : Manner) → manners_clash m n ≡ true → (is_write m ≡ true) ⊎ (is_write n ≡ true)
clash_writes writes n h = inl refl
clash_writes reads writes h = inr refl
clash_writes is_told n h = absurd cc
clash_writes reads reads h = absurd cc
clash_writes reads is_told h = absurd cc

write_is_access : (t : Touch) → is_write t.manner ≡ true → is_access t ≡ true
write_is_access t h = or_left (is_write t.manner) (not (is_lines t.cell)) h

pub not_lines : (b : Bool) → not b ≡ false → b ≡ true
not_lines true h = refl
not_lines false h = absurd cc

-- a touch has an access to its cell, which is a write where the touch is none by itself
access_to : (a : Act) (x : Touch) → WritesItsLines a → IsIn x a.touches → (p : Access) × IsIn p (accesses_of a) × (same_cell p.cell x.cell ≡ true) × (is_write x.manner ≡ true → p.writes ≡ true)
access_to a x lines i = go (is_access x) refl
  where
    go : (b : Bool) → is_access x ≡ b → (p : Access) × IsIn p (accesses_of a) × (same_cell p.cell x.cell ≡ true) × (is_write x.manner ≡ true → p.writes ≡ true)
    go true h = (access_by a x, access_in a a.touches x i h, is_cell x.cell x.cell refl, (λ w. w))
    go false h =
        let k = or_parts (is_write x.manner) (not (is_lines x.cell)) h in
        let u = lines x i (not_lines (is_lines x.cell) k.1) in
        (access_by a u.0, access_in a a.touches u.0 u.1 (write_is_access u.0 u.2), u.3, (λ w. u.2))

pub clashing_outside : (d : Cell → Bool) (xs ys : List Touch) → some_clash_outside d xs ys ≡ true → (x y : Touch) × IsIn x xs × IsIn y ys × (clash_outside d x y ≡ true)
clashing_outside d xs ys h =
    let r = one_of (λ z. list_any (clash_outside d z) ys) xs h in
    let q = one_of (clash_outside d r.0) ys r.2 in
    (r.0, q.0, r.1, q.1, q.2)

pub not_in : (b : Bool) → not b ≡ true → b ≡ false
not_in true h = absurd cc
not_in false h = refl

-- touches that clash have accesses that conflict
accesses_of_clash : (a b : Act) (x y : Touch) → WritesItsLines a → WritesItsLines b → IsIn x a.touches → IsIn y b.touches → clash x y ≡ true → (p q : Access) × IsIn p (accesses_of a) × IsIn q (accesses_of b) × (conflict p q ≡ true) × (p.cell ≡ x.cell)
accesses_of_clash a b x y la lb i j h =
    let k = and_parts (same_cell x.cell y.cell) (manners_clash x.manner y.manner) h in
    let p = access_to a x la i in
    let q = access_to b y lb j in
    let same : same_cell p.0.cell q.0.cell ≡ true = is_cell p.0.cell q.0.cell (cell_is p.0.cell x.cell p.2 ∙ cell_is x.cell y.cell k.0 ∙ sym (cell_is q.0.cell y.cell q.2)) in
    let write : p.0.writes || q.0.writes ≡ true = elim (clash_writes x.manner y.manner k.1) [
      | inl w ↦ or_left p.0.writes q.0.writes (p.3 w)
      | inr w ↦ or_right p.0.writes q.0.writes (q.3 w)
    ] in
    (p.0, q.0, p.1, q.1, ap (λ z. z && (p.0.writes || q.0.writes)) same ∙ write, cell_is p.0.cell x.cell p.2)

-- acts that conflict have accesses that do
pub accesses_of_conflict : (a b : Act) → WritesItsLines a → WritesItsLines b → acts_conflict a b ≡ true → (p q : Access) × IsIn p (accesses_of a) × IsIn q (accesses_of b) × (conflict p q ≡ true)
accesses_of_conflict a b la lb h =
    let c = clashing a.touches b.touches h in
    let r = accesses_of_clash a b c.0 c.1 la lb c.2 c.3 c.4 in
    (r.0, r.1, r.2, r.3, r.4)

-- and on a cell outside a set where the acts do
pub accesses_outside : (d : Cell → Bool) (a b : Act) → WritesItsLines a → WritesItsLines b → acts_conflict_outside d a b ≡ true → (p q : Access) × IsIn p (accesses_of a) × IsIn q (accesses_of b) × (conflict p q ≡ true) × (d p.cell ≡ false)
accesses_outside d a b la lb h =
    let c = clashing_outside d a.touches b.touches h in
    let k = and_parts (clash c.0 c.1) (not (d c.0.cell)) c.4 in
    let r = accesses_of_clash a b c.0 c.1 la lb c.2 c.3 k.0 in
    (r.0, r.1, r.2, r.3, r.4, ap d r.5 ∙ not_in (d c.0.cell) k.1)

-- a touch of acts is one of an act
touch_from : (acts : List Act) (t : Touch) → IsIn t (touches_of acts) → (a : Act) × IsIn a acts × IsIn t a.touches
touch_from [] t i = absurd i
touch_from (a ∷ acts) t i = elim (in_parts t a.touches (touches_of acts) i) [
  | inl k ↦ (a, inl refl, k)
  | inr k ↦ let r = touch_from acts t k in (r.0, inr r.1, r.2)
]

-- blocks that conflict have acts that do
pub acts_of_blocks : (d : Cell → Bool) (xs ys : List Act) → blocks_conflict_outside d xs ys ≡ true → (a b : Act) × IsIn a xs × IsIn b ys × (acts_conflict_outside d a b ≡ true)
acts_of_blocks d xs ys h =
    let c = clashing_outside d (touches_of xs) (touches_of ys) h in
    let a = touch_from xs c.0 c.2 in
    let b = touch_from ys c.1 c.3 in
    (a.0, b.0, a.1, b.1, any_of (λ z. list_any (clash_outside d z) b.0.touches) a.0.touches c.0 a.2 (any_of (clash_outside d c.0) b.0.touches c.1 b.2 c.4))

-- the place of an access is that of its act
pub access_place : (a : Act) (p : Access) → IsIn p (accesses_of a) → p.place ≡ a.place
access_place a p i = ap (λ (z : Access). z.place) (access_from a a.touches p i).2

-- accesses stand in the order of their acts
pub accesses_in : (acts : List Act) (a : Act) (p : Access) → IsIn a acts → IsIn p (accesses_of a) → IsIn p (accesses acts)
accesses_in [] a p i j = absurd i
accesses_in (b ∷ acts) a p (inl e) j = in_left p (accesses_of b) (accesses acts) (subst (λ z. IsIn p (accesses_of z)) e j)
accesses_in (b ∷ acts) a p (inr i) j = in_right p (accesses_of b) (accesses acts) (accesses_in acts a p i j)

pub accesses_before : (acts : List Act) (a b : Act) (p q : Access) → StandsBefore a b acts → IsIn p (accesses_of a) → IsIn q (accesses_of b) → StandsBefore p q (accesses acts)
accesses_before [] a b p q s i j = absurd s
accesses_before (c ∷ acts) a b p q (inl h) i j = before_across p q (accesses_of c) (accesses acts) (subst (λ z. IsIn p (accesses_of z)) h.0 i) (accesses_in acts b q h.1 j)
accesses_before (c ∷ acts) a b p q (inr s) i j = before_right p q (accesses_of c) (accesses acts) (accesses_before acts a b p q s i j)

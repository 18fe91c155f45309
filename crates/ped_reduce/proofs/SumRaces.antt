-- The new acts race only where those of the DO do.
use Rattle.std.proofs.Common.{◌≡◌, ℕ, ℤ, pos, List, [], ◌∷◌, ◌++◌, map, filter, Bool, true, false, ◌&&◌, ◌||◌, ◌<◌, ◌⊎◌, inl, inr, arith, refl, sym, ap, subst, ◌∙◌, if◌then◌else◌}
use Rattle.std.specs.Prelude.{not, ◌==◌}
use Rattle.std.specs.List.{list_any}
use Rattle.std.proofs.lemmas.Bool.{and_parts, both_ways, or_parts}
use Rattle.ped_base.specs.Lists.{is_same_text}
use Rattle.ped_base.proofs.NameEquality.{same_is}
use Rattle.ped_rules.specs.ped_store.specs.Cells.{Cell, Scalar, Element, Private, In, Out, same_cell}
use Rattle.ped_rules.specs.ped_store.specs.Acts.{Manner, reads, writes, is_told, Touch, Turn, Place, Act}
use Rattle.ped_rules.specs.ped_store.specs.Races.{is_lines, is_write, is_access, Access, accesses, are_apart}
use Rattle.ped_rules.specs.ped_store.specs.Stores.{Store}
use Rattle.ped_rules.specs.ped_laws.specs.Acts.Orders.{IsIn}
use Rattle.ped_rules.specs.ped_laws.specs.Acts.Sets.{written_by, writes_to}
use Rattle.ped_rules.specs.ped_laws.proofs.ActLaws.SameCells.{cell_is}
use Rattle.ped_rules.specs.ped_laws.proofs.ActLaws.Conflicting.{accesses_in}
use Rattle.ped_rules.specs.ped_laws.proofs.ActLaws.Lists.{in_left, in_right, in_parts}
use Rattle.ped_rules.specs.ped_laws.proofs.ConflictLaws.Scoping.{act_of_access}
use Rattle.ped_rules.specs.ped_laws.proofs.RunLaws.Touches.{Fine, all_good}
use Rattle.ped_rules.specs.ped_eval.specs.Scopes.{Setting, Scope}
use Rattle.ped_rules.specs.ped_eval.specs.Runs.{run_all}
use Rattle.ped_tree.specs.Tree.{StmtTrees}
use Rattle.ped_reduce.specs.Lowering.{Partials}
use Rattle.ped_reduce.proofs.SumStores.{is_array_of, part, AreDistinct, HaveArrays, array_apart}
use Rattle.ped_reduce.proofs.SumSteps.{AllTouchBy, IsTouched, touch_in}
use Rattle.ped_reduce.proofs.SumParts.{Origin, ComesFrom}
use Rattle.ped_reduce.proofs.SumTrips.{IsCalm, AreNew}
use Rattle.ped_reduce.proofs.SumWhole.{is_part}

-- iterations of no PARALLEL DO are apart from none
pub calm_apart : (ts us : List Turn) → IsCalm ts → are_apart ts us ≡ false
calm_apart [] us h = refl
calm_apart (t ∷ ts) [] h = refl
calm_apart (t ∷ ts) (u ∷ us) h =
    let parts = or_parts t.parallel (list_any (λ (x : Turn). x.parallel) ts) h in
    go (t.statement == u.statement) (t.number == u.number) parts.0 (calm_apart ts us parts.1)
  where
    go : (a b : Bool) → t.parallel ≡ false → are_apart ts us ≡ false → (a && (if b then are_apart ts us else t.parallel)) ≡ false
    go false b serial rest = refl
    go true true serial rest = rest
    go true false serial rest = serial

-- a touch as an access
abbrev pub access_at : Place → Touch → Access
access_at place t = record { cell = t.cell; writes = is_write t.manner; place = place; reference = t.reference }

-- the touch of an access
pub from_touch : (place : Place) (ts : List Touch) (x : Access) → IsIn x (map (access_at place) (filter is_access ts)) → (t : Touch) × IsIn t ts × (is_access t ≡ true) × (x ≡ access_at place t)
from_touch place [] x i = absurd i
from_touch place (t ∷ ts) x i = go (is_access t) refl i (from_touch place ts x)
  where
    go : (b : Bool) → is_access t ≡ b → IsIn x (map (access_at place) (if b then t ∷ filter is_access ts else filter is_access ts)) → (IsIn x (map (access_at place) (filter is_access ts)) → (u : Touch) × IsIn u ts × (is_access u ≡ true) × (x ≡ access_at place u)) → (u : Touch) × IsIn u (t ∷ ts) × (is_access u ≡ true) × (x ≡ access_at place u)
    go true e (inl q) rest = (t, inl refl, e, q)
    go true e (inr j) rest = let r = rest j in (r.0, inr r.1, r.2, r.3)
    go false e j rest = let r = rest j in (r.0, inr r.1, r.2, r.3)

-- and the access of a touch
pub to_access : (place : Place) (ts : List Touch) (t : Touch) → IsIn t ts → is_access t ≡ true → IsIn (access_at place t) (map (access_at place) (filter is_access ts))
to_access place [] t i h = absurd i
to_access place (u ∷ ts) t i h = go (is_access u) refl i (λ j. to_access place ts t j h)
  where
    go : (b : Bool) → is_access u ≡ b → IsIn t (u ∷ ts) → (IsIn t ts → IsIn (access_at place t) (map (access_at place) (filter is_access ts))) → IsIn (access_at place t) (map (access_at place) (if b then u ∷ filter is_access ts else filter is_access ts))
    go true e (inl q) rest = inl (ap (access_at place) q)
    go true e (inr j) rest = inr (rest j)
    go false e (inl q) rest = absurd (both_ways (is_access u) e (ap is_access (sym q) ∙ h))
    go false e (inr j) rest = rest j

-- two accesses of the old acts that race
pub record OldRace (olds : List Act) : Type 0 where
  pub one : Access
  pub other : Access
  pub one_in : IsIn one (accesses olds)
  pub other_in : IsIn other (accesses olds)
  pub cells : one.cell ≡ other.cell
  pub writing : one.writes || other.writes ≡ true
  pub apart : are_apart one.place.turns other.place.turns ≡ true

-- one of the touches writes the cell
write_found : (ts : List Touch) (c : Cell) → written_by ts c ≡ true → (t : Touch) × IsIn t ts × (is_write t.manner ≡ true) × (t.cell ≡ c)
write_found [] c h = absurd cc
write_found (t ∷ ts) c h = go (writes_to t c) refl h (write_found ts c)
  where
    go : (b : Bool) → writes_to t c ≡ b → (b || written_by ts c) ≡ true → (written_by ts c ≡ true → (u : Touch) × IsIn u ts × (is_write u.manner ≡ true) × (u.cell ≡ c)) → (u : Touch) × IsIn u (t ∷ ts) × (is_write u.manner ≡ true) × (u.cell ≡ c)
    go true e k rest = let parts = and_parts (is_write t.manner) (same_cell t.cell c) e in (t, inl refl, parts.0, cell_is t.cell c parts.1)
    go false e k rest = let r = rest k in (r.0, inr r.1, r.2, r.3)

-- nothing is asked of cells and names
abbrev Any : List Turn → Cell → Type 0
Any ts c = Unit {0}

abbrev Free : Scope → List ℕ → Type 0
Free S x = Unit {0}

-- where a touch comes from, whatever the DO's variable is: from one of the old touches; it is a value that the place tells; or it is of an element of the arrays of a scalar that the old touches write
abbrev pub Source : List Partials → ℤ → List Touch → Manner → Cell → Type 0
Source ps k ts m c = IsTouched ts m c ⊎ ((m ≡ is_told) ⊎ ((p : Partials) × IsIn p ps × (x : List ℕ) × (is_array_of p x ≡ true) × (c ≡ part x k) × (written_by ts (Scalar p.scalar) ≡ true)))

-- an act stems from another, done in the same iterations
pub record StemsFrom (ps : List Partials) (k : ℤ) (a b : Act) : Type 0 where
  pub turns : b.place.turns ≡ a.place.turns
  pub touches : AllTouchBy (Source ps k a.touches) b.touches

-- each act stems from an old one, or is done in no PARALLEL DO
abbrev pub AreSprung : List Partials → List Act → List Act → Type 0
AreSprung ps acts others = (b : Act) → IsIn b others → IsCalm b.place.turns ⊎ ((k : ℤ) × (a : Act) × IsIn a acts × StemsFrom ps k a b)

touches_map : (Q R : Manner → Cell → Type 0) → ((m : Manner) (c : Cell) → Q m c → R m c) → (ts : List Touch) → AllTouchBy Q ts → AllTouchBy R ts
touches_map Q R f [] h = tt
touches_map Q R f (t ∷ ts) h = (f t.manner t.cell h.0, touches_map Q R f ts h.1)

-- the new acts of a DO do
pub new_sprung : (ps : List Partials) (told : Cell) (acts others : List Act) → AreNew ps told acts others → AreSprung ps acts others
new_sprung ps told acts others come b i = by (come b i)
  where
    weaker : (k : ℤ) (ts : List Touch) (m : Manner) (c : Cell) → Origin ps k told ts m c → Source ps k ts m c
    weaker k ts m c (inl h) = inl h
    weaker k ts m c (inr (inl e)) = inr (inl e.0)
    weaker k ts m c (inr (inr h)) = inr (inr h)

    by : IsCalm b.place.turns ⊎ ((k : ℤ) × (a : Act) × IsIn a acts × ComesFrom ps k told a b) → IsCalm b.place.turns ⊎ ((k : ℤ) × (a : Act) × IsIn a acts × StemsFrom ps k a b)
    by (inl calm) = inl calm
    by (inr h) = inr (h.0, h.1, h.2, record { turns = h.3.turns; touches = touches_map (Origin ps h.0 told h.1.touches) (Source ps h.0 h.1.touches) (weaker h.0 h.1.touches) b.touches h.3.touches })

-- acts that stay do
pub kept_sprung : (ps : List Partials) (acts : List Act) → AreSprung ps acts acts
kept_sprung ps acts b i = inr (pos 0, b, i, record { turns = refl; touches = itself b.touches (λ t j. j) })
  where
    itself : (us : List Touch) → ((t : Touch) → IsIn t us → IsIn t b.touches) → AllTouchBy (Source ps (pos 0) b.touches) us
    itself [] all = tt
    itself (u ∷ us) all = (inl (u, all u (inl refl), refl, refl), itself us (λ t j. all t (inr j)))

pub sprung_append : (ps : List Partials) (acts others more further : List Act) → AreSprung ps acts others → AreSprung ps more further → AreSprung ps (acts ++ more) (others ++ further)
sprung_append ps acts others more further h k b i = elim (in_parts b others further i) [ inl j ↦ left (h b j) | inr j ↦ right (k b j) ]
  where
    left : IsCalm b.place.turns ⊎ ((n : ℤ) × (a : Act) × IsIn a acts × StemsFrom ps n a b) → IsCalm b.place.turns ⊎ ((n : ℤ) × (a : Act) × IsIn a (acts ++ more) × StemsFrom ps n a b)
    left (inl calm) = inl calm
    left (inr x) = inr (x.0, x.1, in_left x.1 acts more x.2, x.3)

    right : IsCalm b.place.turns ⊎ ((n : ℤ) × (a : Act) × IsIn a more × StemsFrom ps n a b) → IsCalm b.place.turns ⊎ ((n : ℤ) × (a : Act) × IsIn a (acts ++ more) × StemsFrom ps n a b)
    right (inl calm) = inl calm
    right (inr x) = inr (x.0, x.1, in_right x.1 acts more x.2, x.3)

-- what a place tells belongs to no reference
pub told_unreferred : (p : Setting) (ts : StmtTrees) (n : ℕ) (scope : Scope) (s : Store) (a : Act) → IsIn a (run_all p ts n scope s).acts → (t : Touch) → IsIn t a.touches → t.manner ≡ is_told → t.reference ≡ 0
told_unreferred p ts n scope s a i t j e = by t.manner e ((all_good Any Free (λ S x h. tt) (λ S e k body h all x among. tt) p ts n scope s (λ x h. tt) a i).0 t j)
  where
    by : (m : Manner) → m ≡ is_told → Fine Any a.place.turns m t.cell t.reference → t.reference ≡ 0
    by is_told q h = h.0
    by reads q h = absurd cc
    by writes q h = absurd cc

module _ (ps : List Partials) (arrays : HaveArrays ps) (olds news : List Act) (come : AreSprung ps olds news)
    (no_part : (a : Act) → IsIn a olds → (t : Touch) → IsIn t a.touches → is_part ps t.cell ≡ false) (unreferred : (b : Act) → IsIn b news → (t : Touch) → IsIn t b.touches → t.manner ≡ is_told → t.reference ≡ 0) where
  -- where an access that races comes from: an old act in the same iterations
  record From (x : Access) : Type 0 where
    k : ℤ
    act : Act
    found : IsIn act olds
    turns : x.place.turns ≡ act.place.turns
    manner : Manner
    is : x.writes ≡ is_write manner
    access : (is_write manner || not (is_lines x.cell)) ≡ true
    nobody : manner ≡ is_told → x.reference ≡ 0
    origin : Source ps k act.touches manner x.cell

  from : (x : Access) → IsIn x (accesses news) → IsCalm x.place.turns ⊎ From x
  from x i =
      let a = act_of_access x news i in
      let t = from_touch a.0.place a.0.touches x a.2 in
      by a.0 a.1 t.0 t.1 t.2 t.3 (come a.0 a.1)
    where
      by : (b : Act) → IsIn b news → (t : Touch) → IsIn t b.touches → is_access t ≡ true → x ≡ access_at b.place t → IsCalm b.place.turns ⊎ ((k : ℤ) × (a : Act) × IsIn a olds × StemsFrom ps k a b) → IsCalm x.place.turns ⊎ From x
      by b n t j e q (inl calm) = inl (subst (λ (y : Access). IsCalm y.place.turns) (sym q) calm)
      by b n t j e q (inr c) = inr (subst From (sym q) (record {
        k = c.0;
        act = c.1;
        found = c.2;
        turns = c.3.turns;
        manner = t.manner;
        is = refl;
        access = e;
        nobody = λ m. unreferred b n t j m;
        origin = touch_in (Source ps c.0 c.1.touches) b.touches t c.3.touches j;
      }))

  -- an old touch in the same manner of the same cell is an old access
  old_access : (x : Access) (f : From x) (h : IsTouched f.act.touches f.manner x.cell) → (y : Access) × IsIn y (accesses olds) × (y.cell ≡ x.cell) × (y.writes ≡ x.writes) × (y.place ≡ f.act.place)
  old_access x f h =
      let e : is_access h.0 ≡ true = (λ i. is_write (h.3 i) || not (is_lines (h.2 i))) ∙ f.access in
      (access_at f.act.place h.0, accesses_in olds f.act (access_at f.act.place h.0) f.found (to_access f.act.place f.act.touches h.0 h.1 e), h.2, ap is_write h.3 ∙ sym f.is, refl)

  -- the scalar's write in an old act
  old_write : (a : Act) → IsIn a olds → (c : Cell) → written_by a.touches c ≡ true → (y : Access) × IsIn y (accesses olds) × (y.cell ≡ c) × (y.writes ≡ true) × (y.place ≡ a.place)
  old_write a i c h =
      let w = write_found a.touches c h in
      let e : is_access w.0 ≡ true = ap (λ (b : Bool). b || not (is_lines w.0.cell)) w.2 in
      (access_at a.place w.0, accesses_in olds a (access_at a.place w.0) i (to_access a.place a.touches w.0 w.1 e), w.3, w.2, refl)

  one_array : (p o : Partials) (x : List ℕ) → IsIn p ps → IsIn o ps → is_array_of p x ≡ true → is_array_of o x ≡ true → o ≡ p
  one_array p o x i j own other = elim (arrays.distinct p o i j) [
    | inl e ↦ e
    | inr apart ↦ absurd (clash apart own)
  ]
    where
      same : (y : List ℕ) → is_array_of o y ≡ false → is_same_text x y ≡ true → ⊥
      same y none e = both_ways (is_array_of o y) none (ap (is_array_of o) (sym (same_is x y e)) ∙ other)

      clash : AreDistinct p o → is_array_of p x ≡ true → ⊥
      clash apart h = go (is_same_text x p.high) (is_same_text x p.low) (is_same_text x p.flag) refl refl refl h
        where
          go : (a b c : Bool) → is_same_text x p.high ≡ a → is_same_text x p.low ≡ b → is_same_text x p.flag ≡ c → (a || (b || c)) ≡ true → ⊥
          go true b c e f g h = same p.high apart.high e
          go false true c e f g h = same p.low apart.low f
          go false false true e f g h = same p.flag apart.flag g
          go false false false e f g h = absurd cc

  part_is : (p : Partials) (x : List ℕ) (k : ℤ) → IsIn p ps → is_array_of p x ≡ true → is_part ps (part x k) ≡ true
  part_is p x k i own = array_apart ps p x i own

  -- the array of an element
  abbrev array_of : Cell → List ℕ
  array_of (Element x js) = x
  array_of (Scalar x) = []
  array_of (Private x path) = []
  array_of In = []
  array_of Out = []

  module _ (x y : Access) (cells : x.cell ≡ y.cell) (writing : x.writes || y.writes ≡ true) (apart : are_apart x.place.turns y.place.turns ≡ true) (back : are_apart y.place.turns x.place.turns ≡ true) where
    race_of : (c d : Access) → IsIn c (accesses olds) → IsIn d (accesses olds) → (f : From x) (g : From y) → c.place ≡ f.act.place → d.place ≡ g.act.place → c.cell ≡ d.cell → c.writes || d.writes ≡ true → OldRace olds
    race_of c d i j f g p q e w = record {
      one = c;
      other = d;
      one_in = i;
      other_in = j;
      cells = e;
      writing = w;
      apart = (λ z. are_apart (p z).turns (q z).turns) ∙ (λ z. are_apart (sym f.turns z) (sym g.turns z)) ∙ apart;
    }

    abbrev Part : (z : Access) → From z → Type 0
    Part z f = (p : Partials) × IsIn p ps × (a : List ℕ) × (is_array_of p a ≡ true) × (z.cell ≡ part a f.k) × (written_by f.act.touches (Scalar p.scalar) ≡ true)

    old_part : (z : Access) (f : From z) (w : Access) (g : From w) → IsTouched f.act.touches f.manner z.cell → Part w g → z.cell ≡ w.cell → ⊥
    old_part z f w g h q e =
        both_ways (is_part ps h.0.cell) (no_part f.act f.found h.0 h.1) (ap (is_part ps) (h.2 ∙ e ∙ q.4) ∙ part_is q.0 q.2 g.k q.1 q.3)

    some_reference : (n : ℕ) → 0 < n → n ≡ 0 → ⊥
    some_reference n h e = omega (arith, h, e)

    module _ (one : 0 < x.reference) (other : 0 < y.reference) where
      both : (f : From x) (g : From y) → OldRace olds
      both f g = by f.origin g.origin
        where
          by : Source ps f.k f.act.touches f.manner x.cell → Source ps g.k g.act.touches g.manner y.cell → OldRace olds
          by (inr (inl e)) h = absurd (some_reference x.reference one (f.nobody e))
          by (inl h) (inr (inl e)) = absurd (some_reference y.reference other (g.nobody e))
          by (inr (inr h)) (inr (inl e)) = absurd (some_reference y.reference other (g.nobody e))
          by (inl h) (inl i) =
              let c = old_access x f h in
              let d = old_access y g i in
              race_of c.0 d.0 c.1 d.1 f g c.4 d.4 (c.2 ∙ cells ∙ sym d.2) ((λ z. c.3 z || d.3 z) ∙ writing)
          by (inl h) (inr (inr q)) = absurd (old_part x f y g h q cells)
          by (inr (inr q)) (inl i) = absurd (old_part y g x f i q (sym cells))
          by (inr (inr q)) (inr (inr r)) =
              let array : q.2 ≡ r.2 = ap array_of (sym q.4 ∙ cells ∙ r.4) in
              let same : r.0 ≡ q.0 = one_array q.0 r.0 q.2 q.1 r.1 q.3 (ap (is_array_of r.0) array ∙ r.3) in
              let c = old_write f.act f.found (Scalar q.0.scalar) q.5 in
              let d = old_write g.act g.found (Scalar r.0.scalar) r.5 in
              race_of c.0 d.0 c.1 d.1 f g c.4 d.4 (c.2 ∙ ap (λ (p : Partials). Scalar p.scalar) (sym same) ∙ sym d.2) (ap (λ (b : Bool). b || d.0.writes) c.3)

      -- two accesses of the new acts that race come from two of the old ones that do
      pub sprung_races : IsIn x (accesses news) → IsIn y (accesses news) → OldRace olds
      sprung_races i j = elim (from x i) [
        | inl calm ↦ absurd (both_ways (are_apart x.place.turns y.place.turns) (calm_apart x.place.turns y.place.turns calm) apart)
        | inr f ↦ elim (from y j) [
          | inl calm ↦ absurd (both_ways (are_apart y.place.turns x.place.turns) (calm_apart y.place.turns x.place.turns calm) back)
          | inr g ↦ both f g
        ]
      ]

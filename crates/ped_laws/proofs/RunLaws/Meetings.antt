-- Where acts of a run conflict, references do.
use Rattle.std.proofs.Common.{◌≡◌, ℕ, ◌<◌, List, Bool, true, false, eqb, eqb-true, refl, sym, ap, subst, ◌∙◌, inl, inr, arith, ◌&&◌, ◌||◌}
use Rattle.std.specs.Prelude.{not, ◌==◌}
use Rattle.std.proofs.lemmas.Bool.{and_parts, both_ways}
use Rattle.ped_eval.specs.ped_store.specs.Cells.{Cell, same_cell}
use Rattle.ped_eval.specs.ped_store.specs.Acts.{Manner, reads, writes, is_told, Touch, Turn, Act}
use Rattle.ped_eval.specs.ped_store.specs.Races.{Access, is_lines, is_write, is_access, accesses_of, conflict, are_apart}
use Rattle.ped_laws.specs.Acts.Conflicts.{manners_clash, clash, acts_conflict, acts_conflict_outside}
use Rattle.ped_laws.specs.Acts.Orders.{IsIn}
use Rattle.ped_laws.specs.Acts.Origins.{is_told_value, WritesItsLines}
use Rattle.ped_laws.proofs.ActLaws.SameCells.{cell_is, is_cell}
use Rattle.ped_laws.proofs.ActLaws.Renamings.{or_right, or_left}
use Rattle.ped_laws.proofs.ActLaws.Conflicting.{access_by, access_in, access_from, by_manners, clash_of, clash_writes, clashing, clashing_outside, not_in}
use Rattle.ped_flow.specs.ped_tree.specs.Tree.{StmtTrees}
use Rattle.ped_eval.specs.ped_store.specs.Stores.{Store}
use Rattle.ped_eval.specs.Scopes.{Setting, Scope}
use Rattle.ped_flow.specs.ped_tree.specs.NamesIn.{all_loop_variables}
use Rattle.ped_eval.specs.Runs.{run_all}
use Rattle.ped_laws.specs.Runs.Touching.{is_own_store, StoresWithin, HasCopies, HaveCopies, Meeting}
use Rattle.ped_laws.proofs.RunLaws.Turning.{At, Owned, cell_owned, body_copies, owned_apart}
use Rattle.ped_laws.proofs.RunLaws.Touches.{Fine, Good, all_good}

-- an act that touches lines writes them
pub good_lines : (Own : List Turn → Cell → Type 0) (a : Act) → Good Own a → WritesItsLines a
good_lines Own a g t i h = let u = g.1 t i h in (u.0, u.1, u.2, u.3)

-- an own store belongs to its iteration
own_is : (Own : List Turn → Cell → Type 0) (ts : List Turn) (m : Manner) (c : Cell) (r : ℕ) → Fine Own ts m c r → is_write m && (r == 0) ≡ true → Own ts c
own_is Own ts writes c r f h = elim f.0 [
  | inl less ↦ let z = eqb-true r 0 h in absurd (omega (arith, less, z))
  | inr own ↦ own
]
own_is Own ts reads c r f h = absurd cc
own_is Own ts is_told c r f h = absurd cc

at_is : (Own : List Turn → Cell → Type 0) (ts : List Turn) (m : Manner) (c : Cell) (r : ℕ) → Fine Own ts m c r → At ts c
at_is Own ts reads c r f = f.1
at_is Own ts writes c r f = f.1
at_is Own ts is_told c r f = f.1

not_true : (b : Bool) → (b ≡ true → ⊥) → b ≡ false
not_true true h = absurd (h refl)
not_true false h = refl

-- and meets no touch of another iteration of the PARALLEL DO
pub own_apart : (a b : Act) → Good Owned a → Good Owned b → are_apart a.place.turns b.place.turns ≡ true → (x y : Touch) → IsIn x a.touches → IsIn y b.touches → is_own_store x ≡ true → same_cell x.cell y.cell ≡ false
own_apart a b ga gb h x y i j o = not_true (same_cell x.cell y.cell) λ e.
    owned_apart a.place.turns b.place.turns x.cell h (own_is Owned a.place.turns x.manner x.cell x.reference (ga.0 x i) o)
    (subst (At b.place.turns) (sym (cell_is x.cell y.cell e)) (at_is Owned b.place.turns y.manner y.cell y.reference (gb.0 y j)))

own_writes : (w : Bool) (r : ℕ) → w ≡ true → r ≡ 0 → w && (r == 0) ≡ true
own_writes w r h k = ap (λ (b : Bool). b && (r == 0)) h ∙ ap (λ (n : ℕ). n == 0) k

pub own_accesses_apart : (a b : Act) → Good Owned a → Good Owned b → are_apart a.place.turns b.place.turns ≡ true → (p q : Access) → IsIn p (accesses_of a) → IsIn q (accesses_of b) → p.writes ≡ true → p.reference ≡ 0 → conflict p q ≡ false
own_accesses_apart a b ga gb h p q i j w r =
    let x = access_from a a.touches p i in
    let y = access_from b b.touches q j in
    let own : is_own_store x.0 ≡ true = own_writes (is_write x.0.manner) x.0.reference (sym (ap (λ (z : Access). z.writes) x.2) ∙ w) (sym (ap (λ (z : Access). z.reference) x.2) ∙ r) in
    let s = own_apart a b ga gb h x.0 y.0 x.1 y.1 own in
    ap (λ (z : Access). conflict z q) x.2 ∙ ap (λ (z : Access). conflict (access_by a x.0) z) y.2 ∙ ap (λ b. b && (is_write x.0.manner || is_write y.0.manner)) s

-- a touch is made by a reference, where it is no own store and isn't told; or one of the same act is that writes the lines
by_reference : (Own : List Turn → Cell → Type 0) (ts : List Turn) (m : Manner) (c : Cell) (r : ℕ) → Fine Own ts m c r → is_lines c ≡ false → is_told_value m ≡ false → (is_write m && (r == 0) ≡ true → ⊥) → 0 < r
by_reference Own ts reads c r f l t o = elim f.0 [ inl k ↦ absurd (both_ways (is_lines c) l k) | inr k ↦ k ]
by_reference Own ts writes c r f l t o = go (eqb r 0) refl
  where
    go : (b : Bool) → eqb r 0 ≡ b → 0 < r
    go true e = absurd (o e)
    go false e = let n : r ≡ 0 → ⊥ = λ z. both_ways (eqb r 0) e (ap (λ k. eqb k 0) z) in omega (arith, n)
by_reference Own ts is_told c r f l t o = absurd cc

abbrev Made : Act → Touch → Type 0
Made a x = (u : Touch) × IsIn u a.touches × (is_access u ≡ true) × (0 < u.reference) × (same_cell u.cell x.cell ≡ true) × (is_write x.manner ≡ true → is_write u.manner ≡ true)

made : (Own : List Turn → Cell → Type 0) (a : Act) (x : Touch) → Good Own a → IsIn x a.touches → is_told_value x.manner ≡ false → (is_own_store x ≡ true → ⊥) → Made a x
made Own a x g i t o = go (is_lines x.cell) refl
  where
    go : (b : Bool) → is_lines x.cell ≡ b → Made a x
    go true l = let u = g.1 x i l in (u.0, u.1, or_left (is_write u.0.manner) (not (is_lines u.0.cell)) u.2, u.4, u.3, (λ w. u.2))
    go false l = (
      x,
      i,
      or_right (is_write x.manner) (not (is_lines x.cell)) (ap not l),
      by_reference Own a.place.turns x.manner x.cell x.reference (g.0 x i) l t o,
      is_cell x.cell x.cell refl,
      (λ w. w),
    )

untold_first : (m n : Manner) → manners_clash m n ≡ true → is_told_value m ≡ false
untold_first reads n h = refl
untold_first writes n h = refl
untold_first is_told n h = absurd cc

untold_second : (m n : Manner) → manners_clash m n ≡ true → is_told_value n ≡ false
untold_second m reads h = refl
untold_second m writes h = refl
untold_second reads is_told h = absurd cc
untold_second writes is_told h = absurd cc
untold_second is_told is_told h = absurd cc

-- touches that clash, and are no own stores, meet by references
meet : (Own : List Turn → Cell → Type 0) (a b : Act) (x y : Touch) → Good Own a → Good Own b → IsIn x a.touches → IsIn y b.touches → (is_own_store x ≡ true → ⊥) → (is_own_store y ≡ true → ⊥) → clash x y ≡ true
    → (m : Meeting a b) × (m.first.cell ≡ x.cell)
meet Own a b x y ga gb i j ox oy h =
    let k = and_parts (same_cell x.cell y.cell) (manners_clash x.manner y.manner) h in
    let u = made Own a x ga i (untold_first x.manner y.manner k.1) ox in
    let v = made Own b y gb j (untold_second x.manner y.manner k.1) oy in
    let same : same_cell u.0.cell v.0.cell ≡ true = is_cell u.0.cell v.0.cell (cell_is u.0.cell x.cell u.4 ∙ cell_is x.cell y.cell k.0 ∙ sym (cell_is v.0.cell y.cell v.4)) in
    let write : is_write u.0.manner || is_write v.0.manner ≡ true = elim (clash_writes x.manner y.manner k.1) [
      | inl w ↦ or_left (is_write u.0.manner) (is_write v.0.manner) (u.5 w)
      | inr w ↦ or_right (is_write u.0.manner) (is_write v.0.manner) (v.5 w)
    ] in (
      record {
        first = access_by a u.0;
        second = access_by b v.0;
        of_first = access_in a a.touches u.0 u.1 u.2;
        of_second = access_in b b.touches v.0 v.1 v.2;
        conflicts = ap (λ z. z && (is_write u.0.manner || is_write v.0.manner)) same ∙ write;
        first_reference = u.3;
        second_reference = v.3;
      },
      cell_is u.0.cell x.cell u.4,
    )

-- acts in two iterations of a PARALLEL DO
pub meet_apart : (a b : Act) → Good Owned a → Good Owned b → are_apart a.place.turns b.place.turns ≡ true → are_apart b.place.turns a.place.turns ≡ true → acts_conflict a b ≡ true → Meeting a b
meet_apart a b ga gb h k c =
    let t = clashing a.touches b.touches c in
    let e = and_parts (same_cell t.0.cell t.1.cell) (manners_clash t.0.manner t.1.manner) t.4 in
    (meet Owned a b t.0 t.1 ga gb t.2 t.3
    (λ o. both_ways (same_cell t.0.cell t.1.cell) (own_apart a b ga gb h t.0 t.1 t.2 t.3 o) e.0)
    (λ o. both_ways (same_cell t.1.cell t.0.cell) (own_apart b a gb ga k t.1 t.0 t.3 t.2 o) (is_cell t.1.cell t.0.cell (sym (cell_is t.0.cell t.1.cell e.0))))
    t.4).0

-- acts whose own stores lie in a set
pub meet_outside : (Own : List Turn → Cell → Type 0) (d : Cell → Bool) (a b : Act) → Good Own a → Good Own b → StoresWithin d a → StoresWithin d b → acts_conflict_outside d a b ≡ true → (m : Meeting a b) × (d m.first.cell ≡ false)
meet_outside Own d a b ga gb sa sb c =
    let t = clashing_outside d a.touches b.touches c in
    let k = and_parts (clash t.0 t.1) (not (d t.0.cell)) t.4 in
    let e = and_parts (same_cell t.0.cell t.1.cell) (manners_clash t.0.manner t.1.manner) k.0 in
    let out = not_in (d t.0.cell) k.1 in
    let r = meet Own a b t.0 t.1 ga gb t.2 t.3
    (λ o. both_ways (d t.0.cell) out (sa t.0 t.2 o))
    (λ o. both_ways (d t.0.cell) out (ap d (cell_is t.0.cell t.1.cell e.0) ∙ sb t.1 t.3 o))
    k.0 in
    (r.0, ap d r.1 ∙ out)

-- accesses of references that conflict are of acts that do
not_told : (Own : List Turn → Cell → Type 0) (ts : List Turn) (m : Manner) (c : Cell) (r : ℕ) → Fine Own ts m c r → 0 < r → is_told_value m ≡ true → ⊥
not_told Own ts reads c r f h k = absurd cc
not_told Own ts writes c r f h k = absurd cc
not_told Own ts is_told c r f h k = let z = f.0 in omega (arith, h, z)

pub references_back : (Own : List Turn → Cell → Type 0) (a b : Act) → Good Own a → Good Own b → Meeting a b → acts_conflict a b ≡ true
references_back Own a b ga gb m =
    let x = access_from a a.touches m.first m.of_first in
    let y = access_from b b.touches m.second m.of_second in
    let h : conflict (access_by a x.0) (access_by b y.0) ≡ true = sym (ap (λ (z : Access). conflict z m.second) x.2 ∙ ap (λ (z : Access). conflict (access_by a x.0) z) y.2) ∙ m.conflicts in
    let k = and_parts (same_cell x.0.cell y.0.cell) (is_write x.0.manner || is_write y.0.manner) h in
    let r : 0 < x.0.reference = subst (λ n. 0 < n) (ap (λ (z : Access). z.reference) x.2) m.first_reference in
    let q : 0 < y.0.reference = subst (λ n. 0 < n) (ap (λ (z : Access). z.reference) y.2) m.second_reference in
    elim (by_manners x.0.manner y.0.manner k.1) [
      | inl c ↦ clash_of a.touches b.touches x.0 y.0 x.1 y.1 (ap (λ z. z && manners_clash x.0.manner y.0.manner) k.0 ∙ c)
      | inr t ↦ elim t [
        | inl c ↦ absurd (not_told Own a.place.turns x.0.manner x.0.cell x.0.reference (ga.0 x.0 x.1) r c)
        | inr c ↦ absurd (not_told Own b.place.turns y.0.manner y.0.cell y.0.reference (gb.0 y.0 y.1) q c)
      ]
    ]

-- acts of runs
module _ (p : Setting) (ts : StmtTrees) (n : ℕ) (scope : Scope) (s : Store) where
  any_good : (a : Act) → IsIn a (run_all p ts n scope s).acts → Good (λ ts c. Unit {0}) a
  any_good = all_good (λ ts c. Unit {0}) (λ scope x. Unit {0}) (λ scope x h. tt) (λ scope e k body q h x i. tt) p ts n scope s (λ x i. tt)

  owned_good : HaveCopies scope (all_loop_variables ts) → (a : Act) → IsIn a (run_all p ts n scope s).acts → Good Owned a
  owned_good h = all_good Owned HasCopies cell_owned body_copies p ts n scope s h

  pub lines_of_run : (a : Act) → IsIn a (run_all p ts n scope s).acts → WritesItsLines a
  lines_of_run a i = good_lines (λ ts c. Unit {0}) a (any_good a i)

  pub touches_of_run : (a b : Act) (x y : Touch) → HaveCopies scope (all_loop_variables ts) → IsIn a (run_all p ts n scope s).acts → IsIn b (run_all p ts n scope s).acts → are_apart a.place.turns b.place.turns ≡ true → IsIn x a.touches → IsIn y b.touches → is_own_store x ≡ true → same_cell x.cell y.cell ≡ false
  touches_of_run a b x y h i j apart k l o = own_apart a b (owned_good h a i) (owned_good h b j) apart x y k l o

  pub accesses_of_run : (a b : Act) (x y : Access) → HaveCopies scope (all_loop_variables ts) → IsIn a (run_all p ts n scope s).acts → IsIn b (run_all p ts n scope s).acts → are_apart a.place.turns b.place.turns ≡ true → IsIn x (accesses_of a) → IsIn y (accesses_of b) → x.writes ≡ true → x.reference ≡ 0 → conflict x y ≡ false
  accesses_of_run a b x y h i j apart k l w r = own_accesses_apart a b (owned_good h a i) (owned_good h b j) apart x y k l w r

  pub apart_of_run : (a b : Act) → HaveCopies scope (all_loop_variables ts) → IsIn a (run_all p ts n scope s).acts → IsIn b (run_all p ts n scope s).acts → are_apart a.place.turns b.place.turns ≡ true → are_apart b.place.turns a.place.turns ≡ true → acts_conflict a b ≡ true → Meeting a b
  apart_of_run a b h i j apart back c = meet_apart a b (owned_good h a i) (owned_good h b j) apart back c

  pub outside_of_run : (d : Cell → Bool) (a b : Act) → IsIn a (run_all p ts n scope s).acts → IsIn b (run_all p ts n scope s).acts → StoresWithin d a → StoresWithin d b → acts_conflict_outside d a b ≡ true → (m : Meeting a b) × (d m.first.cell ≡ false)
  outside_of_run d a b i j sa sb c = meet_outside (λ ts c. Unit {0}) d a b (any_good a i) (any_good b j) sa sb c

  pub back_of_run : (a b : Act) → IsIn a (run_all p ts n scope s).acts → IsIn b (run_all p ts n scope s).acts → Meeting a b → acts_conflict a b ≡ true
  back_of_run a b i j m = references_back (λ ts c. Unit {0}) a b (any_good a i) (any_good b j) m

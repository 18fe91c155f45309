-- Rows of the units that refer to a name, reference by reference.
use Rattle.std.proofs.Common.{◌≡◌, ◌⊎◌, ◌↔◌, ℕ, ◌+◌, ◌-◌, ◌<◌, ◌==◌, if◌then◌else◌, List, [], ◌∷◌, ◌++◌, length, take, map, get_or, slice_index_or, slice_set, Bool, true, false, ◌&&◌, ◌||◌, IsTrue, Option, Some, None, inl, inr, refl, sym, ap, subst, ◌∙◌}
use Rattle.std.specs.Prelude.{slice_get, nat_lt}
use Rattle.std.specs.List.{list_any}
use Rattle.std.proofs.lemmas.Option.{slice_get_within, get_or_from_slice_get}
use Rattle.std.proofs.lemmas.List.{get_or-set_same, get_or-set_other}
use Rattle.std.proofs.lemmas.List.Folds.{list_any-append}
use Rattle.std.proofs.lemmas.Bool.{cases_eq, eqb-true, eq-eqb, or_right}
use Rattle.ped_base.specs.Lists.{is_same_text}
use Rattle.ped_bits.specs.Places.{Has}
use Rattle.ped_refs.specs.References.{Reference}
use Rattle.ped_refs.specs.Occurrences.{name_text, reference_of, references_of}
use Rattle.ped_refs.specs.declared.occurring.Occurrence.{Occurrence}
use Rattle.ped_splits.specs.Units.{is_unit}
use Rattle.ped_splits.specs.CodeUnits.{AreBelow, home_of, refers_by}
use Rattle.ped_splits.proofs.ArrowLaws.{taken, true_both}

or_false : (b : Bool) → (b || false) ≡ b
or_false true = refl
or_false false = refl

pub other_number : (a b : ℕ) → (b ≡ a → ⊥) → (a == b) ≡ false
other_number a b n = by (a == b) refl
  where
    by : (r : Bool) → (a == b) ≡ r → (a == b) ≡ false
    by true e = absurd (n (sym (eqb-true a b e)))
    by false e = e

-- a unit more in a row
pub set_unit : (row : List Bool) (unit : ℕ) → unit < length row → (i : ℕ) → slice_index_or (slice_set row unit true) i false ≡ (slice_index_or row i false || (unit == i))
set_unit row unit h i = elim (cases_eq i unit) [
  | inl e ↦
      ap (λ (k : ℕ). slice_index_or (slice_set row unit true) k false) e ∙ get_or-set_same row unit true false h ∙ sym (or_right (slice_index_or row i false) true refl)
      ∙ ap (λ (b : Bool). slice_index_or row i false || b) (sym (eq-eqb unit i (sym e)))
  | inr n ↦ get_or-set_other row unit i true false n ∙ sym (or_false (slice_index_or row i false)) ∙ ap (λ (b : Bool). slice_index_or row i false || b) (sym (other_number unit i n))
]

module _ (s : ℕ) (found : List ℕ) (x : List ℕ) where
  -- one reference more
  pub refers_more : (os : List Occurrence) (k : ℕ) (o : Occurrence) → k < length os → o ≡ get_or os k o → (i : ℕ)
      → refers_by s found (references_of (take (k + 1) os)) x i ≡ (refers_by s found (references_of (take k os)) x i || (is_same_text x (name_text o.name) && is_unit i (home_of s found o.statement)))
  refers_more os k o h is i =
      ap (list_any refers) (taken reference_of os k o h is) ∙ list_any-append refers (references_of (take k os)) (reference_of o ∷ [])
      ∙ ap (λ (b : Bool). refers_by s found (references_of (take k os)) x i || b) (or_false (refers (reference_of o)))
    where
      refers : Reference → Bool
      refers r = is_same_text x r.access.name && is_unit i (home_of s found r.statement)

  module _ (os : List Occurrence) (k : ℕ) (o : Occurrence) (h : k < length os) (is : o ≡ get_or os k o) (row : List Bool) (before : (i : ℕ) → slice_index_or row i false ≡ refers_by s found (references_of (take k os)) x i) where
    -- of another name, or in no unit
    pub same_row : ((i : ℕ) → (is_same_text x (name_text o.name) && is_unit i (home_of s found o.statement)) ≡ false) → (i : ℕ) → slice_index_or row i false ≡ refers_by s found (references_of (take (k + 1) os)) x i
    same_row none i = before i ∙ sym (or_false (refers_by s found (references_of (take k os)) x i)) ∙ ap (λ (b : Bool). refers_by s found (references_of (take k os)) x i || b) (sym (none i)) ∙ sym (refers_more os k o h is i)

    pub other_name : is_same_text x (name_text o.name) ≡ false → (i : ℕ) → slice_index_or row i false ≡ refers_by s found (references_of (take (k + 1) os)) x i
    other_name e = same_row (λ i. ap (λ (b : Bool). b && is_unit i (home_of s found o.statement)) e)

    pub no_home : home_of s found o.statement ≡ None → (i : ℕ) → slice_index_or row i false ≡ refers_by s found (references_of (take (k + 1) os)) x i
    no_home e = same_row (λ i. ap (λ (u : Option ℕ). is_same_text x (name_text o.name) && is_unit i u) e ∙ and_false (is_same_text x (name_text o.name)))
      where
        and_false : (b : Bool) → (b && false) ≡ false
        and_false true = refl
        and_false false = refl

    -- in a unit
    pub with_unit : (unit : ℕ) → is_same_text x (name_text o.name) ≡ true → home_of s found o.statement ≡ Some unit → unit < length row
        → (i : ℕ) → slice_index_or (slice_set row unit true) i false ≡ refers_by s found (references_of (take (k + 1) os)) x i
    with_unit unit named home inside i =
        set_unit row unit inside i
        ∙ (λ j. before i j || (sym named j && is_unit i (sym home j)))
        ∙ sym (refers_more os k o h is i)

-- both units are in a row
pub both_refer : (row : List Bool) (f : ℕ → Bool) → ((i : ℕ) → slice_index_or row i false ≡ f i) → (i j : ℕ) → (Has row i × Has row j) ↔ IsTrue (f i && f j)
both_refer row f is i j = ((λ p. (true_both (f i) (f j)).0 (sym (is i) ∙ p.0, sym (is j) ∙ p.1)), λ t. let p = (true_both (f i) (f j)).1 t in (is i ∙ p.0, is j ∙ p.1))

none_some : (x : ℕ) → None ≡ Some x → ⊥
none_some x e = cc

-- units of statements are among so many
pub home_below : (s : ℕ) (found : List ℕ) (k n unit : ℕ) → AreBelow n found → home_of s found k ≡ Some unit → unit < n
home_below s found k n unit below is = by (nat_lt s k) refl
  where
    by : (b : Bool) → nat_lt s k ≡ b → unit < n
    by true e =
        let there : slice_get found (k - (s + 1)) ≡ Some unit = ap (λ (b : Bool). if b then slice_get found (k - (s + 1)) else None) (sym e) ∙ is in
        subst (λ (i : ℕ). i < n) (get_or_from_slice_get found (k - (s + 1)) unit 0 there) (below (k - (s + 1)) 0 (slice_get_within found (k - (s + 1)) unit there))
    by false e = absurd (none_some unit (ap (λ (b : Bool). if b then slice_get found (k - (s + 1)) else None) (sym e) ∙ is))

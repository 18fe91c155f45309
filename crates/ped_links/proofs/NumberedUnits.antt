-- The first subroutine of a name, and its number.
use Rattle.std.proofs.Common.{◌≡◌, ℕ, suc, ◌+◌, ◌-◌, ◌<◌, ◌≤◌, List, [], ◌∷◌, Bool, true, false, Option, Some, None, length, map, get_or, refl, sym, ap, ◌∙◌, if◌then◌else◌, arith}
use Rattle.std.specs.Prelude.{IfSome}
use Rattle.std.proofs.lemmas.List.{length-map, get_or-map}
use Rattle.ped_base.specs.Lists.{is_same_text}
use Rattle.ped_units.specs.Units.{ProgramUnit, ProgramUnits, all_units, unit_among, unit_of}
use Rattle.ped_links.specs.Numbers.{number_among, number_of_unit}
use Rattle.ped_links.specs.Scenes.{unit_at}
use Rattle.ped_units.specs.Views.{program_unit_of}
use Rattle.ped_units.specs.declared.units.ProgramUnit as code

-- a unit is found by its number
pub record IsNumbered (us : List ProgramUnit) (n : ℕ) (x : List ℕ) (k : ℕ) (d : ProgramUnit) : Type 0 where
  pub above : n ≤ k
  pub below : k < n + length us
  pub found : unit_among us x ≡ Some (get_or us (k - n) d)

numbered : (us : List ProgramUnit) (n : ℕ) (x : List ℕ) (k : ℕ) (d : ProgramUnit) → number_among us n x ≡ Some k → IsNumbered us n x k d
numbered [] n x k d h = absurd cc
numbered (u ∷ us) n x k d h = by (numbered us (n + 1) x k d) (is_same_text x u.name) refl h
  where
    inner : (m j : ℕ) → Some m ≡ Some j → m ≡ j
    inner m j e = cc

    by : (number_among us (n + 1) x ≡ Some k → IsNumbered us (n + 1) x k d) → (b : Bool) → is_same_text x u.name ≡ b → (if b then Some n else number_among us (n + 1) x) ≡ Some k → IsNumbered (u ∷ us) n x k d
    by later true e l =
        let is : n ≡ k = inner n k l in
        let none : k - n ≡ 0 = omega (arith, is) in
        record {
          above = omega (arith, is);
          below = omega (arith, is);
          found = ap (λ (b : Bool). if b then Some u else unit_among us x) e ∙ ap (λ (j : ℕ). Some (get_or (u ∷ us) j d)) (sym none);
        }
    by later false e l =
        let rest = later l in
        let above = rest.above in
        let below = rest.below in
        let more : k - n ≡ suc (k - (n + 1)) = omega (arith, above) in
        record {
          above = omega (arith, above);
          below = omega (arith, below);
          found = ap (λ (b : Bool). if b then Some u else unit_among us x) e ∙ rest.found ∙ ap (λ (j : ℕ). Some (get_or (u ∷ us) j d)) (sym more);
        }

unnumbered : (us : List ProgramUnit) (n : ℕ) (x : List ℕ) → number_among us n x ≡ None → unit_among us x ≡ None
unnumbered [] n x h = refl
unnumbered (u ∷ us) n x h = by (unnumbered us (n + 1) x) (is_same_text x u.name) refl h
  where
    by : (number_among us (n + 1) x ≡ None → unit_among us x ≡ None) → (b : Bool) → is_same_text x u.name ≡ b → (if b then Some n else number_among us (n + 1) x) ≡ None → unit_among (u ∷ us) x ≡ None
    by later true e l = absurd cc
    by later false e l = ap (λ (b : Bool). if b then Some u else unit_among us x) e ∙ later l

-- a number leads to the subroutine of the name
pub unit_of_number : (us : ProgramUnits) (x : List ℕ) (k : ℕ) → number_of_unit (all_units us) x ≡ Some k → (unit_of us x ≡ Some (unit_at us k)) × (k < length (all_units us))
unit_of_number us x k h =
    let is = numbered us.others 1 x k us.main h in
    let above = is.above in
    let below = is.below in
    let next : k ≡ suc (k - 1) = omega (arith, above) in
    (is.found ∙ ap (λ (j : ℕ). Some (get_or (all_units us) j us.main)) (sym next), omega (arith, below))

-- where there is none, there is no subroutine of the name
pub no_number : (us : ProgramUnits) (x : List ℕ) → number_of_unit (all_units us) x ≡ None → unit_of us x ≡ None
no_number us x h = unnumbered us.others 1 x h

-- a subroutine of the name has a number
pub number_of_unit_of : (us : ProgramUnits) (x : List ℕ) (v : ProgramUnit) → unit_of us x ≡ Some v → (k : ℕ) × (number_of_unit (all_units us) x ≡ Some k) × (unit_at us k ≡ v)
number_of_unit_of us x v h = by (number_of_unit (all_units us) x) refl
  where
    inner : (a b : ProgramUnit) → Some a ≡ Some b → a ≡ b
    inner a b e = cc

    by : (o : Option ℕ) → number_of_unit (all_units us) x ≡ o → (k : ℕ) × (number_of_unit (all_units us) x ≡ Some k) × (unit_at us k ≡ v)
    by None e = absurd (none (no_number us x e))
      where
        none : unit_of us x ≡ None → ⊥
        none f = absurd cc
    by (Some k) e = (k, e, inner (unit_at us k) v (sym (unit_of_number us x k e).0 ∙ h))

-- the number of a subroutine is that of a unit
pub number_below : (us : ProgramUnits) (x : List ℕ) (o : Option ℕ) (count : ℕ) → o ≡ number_of_unit (all_units us) x → count ≡ length (all_units us) → IfSome o (λ k. k < count)
number_below us x None count e w = tt
number_below us x (Some k) count e w = let below = (unit_of_number us x k (sym e)).1 in omega (arith, below, w)

-- the unit that is read at a place
pub unit_read : (us : ProgramUnits) (units : List code.ProgramUnit) (n : ℕ) (r : code.ProgramUnit) → map program_unit_of units ≡ all_units us → n < length units → unit_at us n ≡ program_unit_of (get_or units n r)
unit_read us units n r e low = ap (λ (vs : List ProgramUnit). get_or vs n us.main) (sym e) ∙ get_or-map program_unit_of units n r us.main low

-- as many units
pub units_long : (us : ProgramUnits) (units : List code.ProgramUnit) → map program_unit_of units ≡ all_units us → length units ≡ length (all_units us)
units_long us units e = sym (length-map units program_unit_of) ∙ ap length e

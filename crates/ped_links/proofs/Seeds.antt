-- Dummy arguments that their units use themselves, one after the other.
use Rattle.std.proofs.Common.{◌≡◌, ◌⊎◌, inl, inr, ℕ, ◌+◌, ◌<◌, ◌↔◌, List, [], ◌∷◌, ◌++◌, false, Option, Some, None, length, get_or, refl, sym, ap, subst, ◌∙◌, arith}
use Rattle.std.proofs.lemmas.Bool.{both_ways, or_left, or_right, or_cases, cases_lt}
use Rattle.std.proofs.lemmas.Option.{none-some, same_Some}
use Rattle.std.specs.Prelude.{IsTrue, IfSome}
use Rattle.ped_base.specs.Lists.{is_same_text, is_among}
use Rattle.ped_base.proofs.NameEquality.{same_itself, same_is}
use Rattle.ped_units.specs.Units.{ProgramUnit, ProgramUnits, all_units}
use Rattle.ped_units.specs.Linking.{IsIn}
use Rattle.ped_links.specs.Arguments.{formals_at, formal_number, IsSeedAmong, with_some}
use Rattle.ped_links.specs.Reaching.{AreBelow}
use Rattle.ped_links.specs.Scenes.{unit_at}
use Rattle.ped_links.proofs.Members.{in_left, in_right, in_either, in_one, in_place}
use Rattle.ped_links.proofs.Used.{SeedBelow, formals_there}

pub in_among : (x : List ℕ) (ys : List (List ℕ)) → IsIn x ys → IsTrue (is_among x ys)
in_among x [] h = absurd h
in_among x (y ∷ ys) (inl e) = or_left (is_same_text x y) (is_among x ys) (ap (is_same_text x) (sym e) ∙ same_itself x)
in_among x (y ∷ ys) (inr h) = or_right (is_same_text x y) (is_among x ys) (in_among x ys h)

among_in : (x : List ℕ) (ys : List (List ℕ)) → IsTrue (is_among x ys) → IsIn x ys
among_in x [] h = absurd cc
among_in x (y ∷ ys) h = elim (or_cases (is_same_text x y) (is_among x ys) h) [ inl e ↦ inl (same_is x y e) | inr i ↦ inr (among_in x ys i) ]

-- a number more, where there is one
pub below_with : (count : ℕ) (ns : List ℕ) (o : Option ℕ) → IfSome o (λ n. n < count) → AreBelow count ns → AreBelow count (with_some ns o)
below_with count ns None h b = b
below_with count ns (Some m) h b = λ n i. elim (in_either n ns (m ∷ []) i) [ inl x ↦ b n x | inr y ↦ subst (λ (k : ℕ). k < count) (sym (in_one n m y)) h ]

-- the number of one dummy argument that is used
with_seed : (us : List ProgramUnit) (k : ℕ) (x : List ℕ) (names : List (List ℕ)) (o : Option ℕ) (old : List ℕ) → IsTrue (is_among x names) → o ≡ formal_number us k x → (n : ℕ) → IsIn n (with_some old o) ↔ (IsIn n old ⊎ IsSeedAmong us k (x ∷ []) names n)
with_seed us k x names None old h e n = (λ i. inl i, λ s. elim s [ inl i ↦ i | inr a ↦ absurd (none-some n (e ∙ ap (formal_number us k) (sym (in_one a.0 x a.1)) ∙ a.3)) ])
with_seed us k x names (Some m) old h e n = (
  λ i. elim (in_either n old (m ∷ []) i) [ inl y ↦ inl y | inr z ↦ inr (x, inl refl, h, sym e ∙ ap (λ (j : ℕ). Some j) (sym (in_one n m z))) ],
  λ s. elim s [
    | inl i ↦ in_left n old (m ∷ []) i
    | inr a ↦ in_right n old (m ∷ []) (inl (sym (same_Some m n (e ∙ ap (formal_number us k) (sym (in_one a.0 x a.1)) ∙ a.3))))
  ],
)

pub seed_added : (us : List ProgramUnit) (k : ℕ) (x : List ℕ) (names : List (List ℕ)) (o : Option ℕ) (old new : List ℕ) → IsTrue (is_among x names) → o ≡ formal_number us k x → new ≡ with_some old o → (n : ℕ) → IsIn n new ↔ (IsIn n old ⊎ IsSeedAmong us k (x ∷ []) names n)
seed_added us k x names o old new h e is n = subst (λ (ns : List ℕ). IsIn n ns ↔ (IsIn n old ⊎ IsSeedAmong us k (x ∷ []) names n)) (sym is) (with_seed us k x names o old h e n)

-- one that isn't used has none
pub no_seed_added : (us : List ProgramUnit) (k : ℕ) (x : List ℕ) (names : List (List ℕ)) (old : List ℕ) → is_among x names ≡ false → (n : ℕ) → IsIn n old ↔ (IsIn n old ⊎ IsSeedAmong us k (x ∷ []) names n)
no_seed_added us k x names old h n = (λ i. inl i, λ s. elim s [ inl i ↦ i | inr a ↦ absurd (both_ways (is_among x names) h (subst (λ (y : List ℕ). IsTrue (is_among y names)) (in_one a.0 x a.1) a.2)) ])

-- one dummy argument more
pub seeds_step : (us : List ProgramUnit) (k : ℕ) (fs all names : List (List ℕ)) (x : List ℕ) (old mid new : List ℕ) → all ≡ fs ++ x ∷ []
    → ((n : ℕ) → IsIn n mid ↔ (IsIn n old ⊎ IsSeedAmong us k fs names n)) → ((n : ℕ) → IsIn n new ↔ (IsIn n mid ⊎ IsSeedAmong us k (x ∷ []) names n)) → (n : ℕ) → IsIn n new ↔ (IsIn n old ⊎ IsSeedAmong us k all names n)
seeds_step us k fs all names x old mid new e before now n = (forth, back)
  where
    forth : IsIn n new → IsIn n old ⊎ IsSeedAmong us k all names n
    forth i = elim ((now n).0 i) [
      | inl m ↦ elim ((before n).0 m) [ inl o ↦ inl o | inr a ↦ inr (a.0, subst (IsIn a.0) (sym e) (in_left a.0 fs (x ∷ []) a.1), a.2, a.3) ]
      | inr b ↦ inr (b.0, subst (IsIn b.0) (sym e) (in_right b.0 fs (x ∷ []) b.1), b.2, b.3)
    ]

    back : IsIn n old ⊎ IsSeedAmong us k all names n → IsIn n new
    back (inl o) = (now n).1 (inl ((before n).1 (inl o)))
    back (inr a) = elim (in_either a.0 fs (x ∷ []) (subst (IsIn a.0) e a.1)) [
      | inl y ↦ (now n).1 (inl ((before n).1 (inr (a.0, y, a.2, a.3))))
      | inr z ↦ (now n).1 (inr (a.0, z, a.2, a.3))
    ]

-- none in no unit
pub no_seeds : (own : ProgramUnit → List (List ℕ)) (us : ProgramUnits) (n : ℕ) → SeedBelow own us 0 n → ⊥
no_seeds own us n h = absurd (omega (arith, h.2))

-- one unit more
pub units_seeds : (own : ProgramUnit → List (List ℕ)) (us : ProgramUnits) (m : ℕ) (formals names : List (List ℕ)) (old new : List ℕ) → formals ≡ (unit_at us m).formals → ((x : List ℕ) → is_among x names ≡ is_among x (own (unit_at us m)))
    → ((n : ℕ) → IsIn n old ↔ SeedBelow own us m n) → ((n : ℕ) → IsIn n new ↔ (IsIn n old ⊎ IsSeedAmong (all_units us) m formals names n)) → (n : ℕ) → IsIn n new ↔ SeedBelow own us (m + 1) n
units_seeds own us m formals names old new f same before now n = (forth, back)
  where
    forth : IsIn n new → SeedBelow own us (m + 1) n
    forth i = elim ((now n).0 i) [
      | inl o ↦ let s = (before n).0 o in let low = s.2 in (s.0, s.1, omega (arith, low), s.3, s.4, s.5)
      | inr a ↦ (m, a.0, omega arith, ap (is_among a.0) (sym f) ∙ in_among a.0 formals a.1, sym (same a.0) ∙ a.2, a.3)
    ]

    back : SeedBelow own us (m + 1) n → IsIn n new
    back s = elim (cases_lt s.0 m) [
      | inl low ↦ (now n).1 (inl ((before n).1 (s.0, s.1, low, s.3, s.4, s.5)))
      | inr high ↦
          let below = s.2 in
          let is : s.0 ≡ m = omega (arith, high, below) in
          let formal : IsTrue (is_among s.1 (unit_at us m).formals) = subst (λ (j : ℕ). IsTrue (is_among s.1 (unit_at us j).formals)) is s.3 in
          let uses : IsTrue (is_among s.1 (own (unit_at us m))) = subst (λ (j : ℕ). IsTrue (is_among s.1 (own (unit_at us j)))) is s.4 in
          let number : formal_number (all_units us) m s.1 ≡ Some n = subst (λ (j : ℕ). formal_number (all_units us) j s.1 ≡ Some n) is s.5 in
          (now n).1 (inr (s.1, among_in s.1 formals (ap (is_among s.1) f ∙ formal), same s.1 ∙ uses, number))
    ]

-- a dummy argument of a list is among those of its unit
pub among_formals : (fs gs : List (List ℕ)) (k : ℕ) (r : List ℕ) → fs ≡ gs → k < length fs → IsTrue (is_among (get_or fs k r) gs)
among_formals fs gs k r e low = subst (λ (hs : List (List ℕ)). IsTrue (is_among (get_or fs k r) hs)) e (in_among (get_or fs k r) fs (in_place fs k r low))

pub among_there : (us : ProgramUnits) (fs : List (List ℕ)) (k n : ℕ) (r : List ℕ) → fs ≡ (unit_at us n).formals → n < length (all_units us) → k < length fs → IsTrue (is_among (get_or fs k r) (formals_at (all_units us) n))
among_there us fs k n r e below low = among_formals fs (formals_at (all_units us) n) k r (e ∙ sym (formals_there (all_units us) n us.main below)) low

-- Arrows between numbers of which it is known whether they are there: to which numbers they lead is known, too.
use Rattle.std.proofs.Common.{◌≡◌, ◌⊎◌, inl, inr, ℕ, zero, suc, ◌+◌, ◌<◌, ◌≤◌, ◌↔◌, List, [], ◌∷◌, ◌++◌, length, get_or, refl, sym, ap, subst, ◌∙◌, eq-or-lt_of_le, arith}
use Rattle.ped_units.specs.Linking.{IsIn}
use Rattle.ped_links.specs.Reaching.{Leads, LeadAlong, IsReached}
use Rattle.ped_links.proofs.Known.{IsKnown, holds, fails, known_either, known_both, known_as, known_one, known_number, known_member}
use Rattle.ped_links.proofs.Reached.{leads_within}

-- the numbers below a bound, the greatest first
abbrev pub numbers : ℕ → List ℕ
numbers zero = []
numbers (suc n) = n ∷ numbers n

pub in_numbers : (n k : ℕ) → k < n → IsIn k (numbers n)
in_numbers zero k h = absurd (omega (arith, h))
in_numbers (suc n) k h = elim (eq-or-lt_of_le (below h)) [ inl e ↦ inl e | inr less ↦ inr (in_numbers n k less) ]
  where
    below : k < suc n → k ≤ n
    below l = omega (arith, l)

pub numbers_in : (n k : ℕ) → IsIn k (numbers n) → k < n
numbers_in zero k h = absurd h
numbers_in (suc n) k (inl e) = omega (arith, e)
numbers_in (suc n) k (inr h) = let less = numbers_in n k h in omega (arith, less)

-- arrows one behind the other
along_both : (ends : List (List ℕ)) (p q : List ℕ) (i k j : ℕ) → LeadAlong ends i p k → LeadAlong ends k q j → LeadAlong ends i (p ++ q) j
along_both ends [] q i k j e b = subst (λ (m : ℕ). LeadAlong ends m q j) (sym e) b
along_both ends (m ∷ p) q i k j a b = (a.0, along_both ends p q m k j a.1 b)

module _ (ends : List (List ℕ)) where
  -- one arrow leads from a number to another, or more, between which these alone are
  abbrev Through : List ℕ → ℕ → ℕ → Type 0
  Through [] i j = Leads ends i j
  Through (k ∷ ks) i j = Through ks i j ⊎ (Through ks i k × Through ks k j)

  known_through : (ks : List ℕ) (i j : ℕ) → IsKnown (Through ks i j)
  known_through [] i j = known_member j (get_or ends i [])
  known_through (k ∷ ks) i j = known_either (known_through ks i j) (known_both (known_through ks i k) (known_through ks k j))

  by_arrow : (ks : List ℕ) (i j : ℕ) → Leads ends i j → Through ks i j
  by_arrow [] i j h = h
  by_arrow (k ∷ ks) i j h = inl (by_arrow ks i j h)

  joined : (ks : List ℕ) (i k j : ℕ) → IsIn k ks → Through ks i k → Through ks k j → Through ks i j
  joined [] i k j h a b = absurd h
  joined (m ∷ ks) i k j (inl e) a b =
      let to_here : Through (m ∷ ks) i m = subst (λ (n : ℕ). Through (m ∷ ks) i n) e a in
      let from_here : Through (m ∷ ks) m j = subst (λ (n : ℕ). Through (m ∷ ks) n j) e b in
      inr (elim to_here [ inl x ↦ x | inr x ↦ x.0 ], elim from_here [ inl y ↦ y | inr y ↦ y.1 ])
  joined (m ∷ ks) i k j (inr h) (inl a) (inl b) = inl (joined ks i k j h a b)
  joined (m ∷ ks) i k j (inr h) (inl a) (inr b) = inr (joined ks i k m h a b.0, b.1)
  joined (m ∷ ks) i k j (inr h) (inr a) (inl b) = inr (a.0, joined ks m k j h a.1 b)
  joined (m ∷ ks) i k j (inr h) (inr a) (inr b) = inr (a.0, b.1)

  -- arrows lead from a number to another
  pub record HasPath (i j : ℕ) : Type 0 where
    pub path : List ℕ
    pub leads : LeadAlong ends i path j

  through_leads : (ks : List ℕ) (i j : ℕ) → Through ks i j → HasPath i j
  through_leads [] i j h = record { path = j ∷ []; leads = (h, refl) }
  through_leads (k ∷ ks) i j (inl h) = through_leads ks i j h
  through_leads (k ∷ ks) i j (inr h) =
      let one = through_leads ks i k h.0 in
      let two = through_leads ks k j h.1 in
      record { path = one.path ++ two.path; leads = along_both ends one.path two.path i k j one.leads two.leads }

  leads_through : (path : List ℕ) (i j : ℕ) → LeadAlong ends i path j → (i ≡ j) ⊎ Through (numbers (length ends)) i j
  leads_through [] i j e = inl e
  leads_through (k ∷ []) i j h = inr (by_arrow (numbers (length ends)) i j (subst (λ (n : ℕ). Leads ends i n) h.1 h.0))
  leads_through (k ∷ m ∷ path) i j h =
      let ks = numbers (length ends) in
      let first = by_arrow ks i k h.0 in
      elim (leads_through (m ∷ path) k j h.1) [
        | inl e ↦ inr (subst (λ (n : ℕ). Through ks i n) e first)
        | inr t ↦ inr (joined ks i k j (in_numbers (length ends) k (leads_within ends k m h.1.0)) first t)
      ]

  known_path : (i j : ℕ) → IsKnown (HasPath i j)
  known_path i j =
      known_as
      (λ h. elim h [ inl e ↦ record { path = []; leads = e } | inr t ↦ through_leads (numbers (length ends)) i j t ])
      (λ p. leads_through p.path i j p.leads)
      (known_either (known_number i j) (known_through (numbers (length ends)) i j))

  -- it is known whether a number is reached
  pub known_reached : (seeds : List ℕ) (j : ℕ) → IsKnown (IsReached ends seeds j)
  known_reached seeds j =
      known_as
      (λ h. record { seed = h.one; is_seed = h.is_in; path = h.stands.path; leads = h.stands.leads })
      (λ r. record { one = r.seed; is_in = r.is_seed; stands = record { path = r.path; leads = r.leads } })
      (known_one (λ i. HasPath i j) seeds (λ i is. known_path i j))

-- the numbers of a list for which something holds
abbrev add_if : {P : Type 0} → IsKnown P → ℕ → List ℕ → List ℕ
add_if (holds p) n ns = n ∷ ns
add_if (fails f) n ns = ns

in_added : {P : Type 0} (k : IsKnown P) (n m : ℕ) (ns : List ℕ) → IsIn m (add_if k n ns) → ((m ≡ n) × P) ⊎ IsIn m ns
in_added (holds p) n m ns (inl e) = inl (e, p)
in_added (holds p) n m ns (inr h) = inr h
in_added (fails f) n m ns h = inr h

added_here : {P : Type 0} (k : IsKnown P) (n : ℕ) (ns : List ℕ) → P → IsIn n (add_if k n ns)
added_here (holds p) n ns h = inl refl
added_here (fails f) n ns h = absurd (f h)

added_there : {P : Type 0} (k : IsKnown P) (n m : ℕ) (ns : List ℕ) → IsIn m ns → IsIn m (add_if k n ns)
added_there (holds p) n m ns h = inr h
added_there (fails f) n m ns h = h

module _ (P : ℕ → Type 0) (known : (n : ℕ) → IsKnown (P n)) where
  abbrev pub those : List ℕ → List ℕ
  those [] = []
  those (n ∷ ns) = add_if (known n) n (those ns)

  pub in_those : (ns : List ℕ) (m : ℕ) → IsIn m (those ns) → IsIn m ns × P m
  in_those [] m h = absurd h
  in_those (n ∷ ns) m h = elim (in_added (known n) n m (those ns) h) [
    | inl x ↦ (inl x.0, subst P (sym x.0) x.1)
    | inr y ↦ let there = in_those ns m y in (inr there.0, there.1)
  ]

  pub those_in : (ns : List ℕ) (m : ℕ) → IsIn m ns → P m → IsIn m (those ns)
  those_in [] m h p = absurd h
  those_in (n ∷ ns) m (inl e) p = subst (λ (k : ℕ). IsIn k (those (n ∷ ns))) (sym e) (added_here (known n) n (those ns) (subst P e p))
  those_in (n ∷ ns) m (inr h) p = added_there (known n) n m (those ns) (those_in ns m h p)

-- arrows between numbers below a bound, listed
module _ (Arrow : ℕ → ℕ → Type 0) (known : (i j : ℕ) → IsKnown (Arrow i j)) (count : ℕ) (below : (i j : ℕ) → Arrow i j → (i < count) × (j < count)) where
  abbrev row : ℕ → List ℕ
  row i = those (Arrow i) (known i) (numbers count)

  abbrev rows : ℕ → ℕ → List (List ℕ)
  rows zero i = []
  rows (suc n) i = row i ∷ rows n (i + 1)

  -- for each number those to which arrows lead
  abbrev pub listed_arrows : List (List ℕ)
  listed_arrows = rows count 0

  row_there : (n from i : ℕ) → i < n → get_or (rows n from) i [] ≡ row (from + i)
  row_there zero from i h = absurd (omega (arith, h))
  row_there (suc n) from zero h = let same : from ≡ from + 0 = omega arith in ap row same
  row_there (suc n) from (suc i) h =
      let same : from + 1 + i ≡ from + suc i = omega arith in
      row_there n (from + 1) i (omega (arith, h)) ∙ ap row same

  no_row : (n from i j : ℕ) → IsIn j (get_or (rows n from) i []) → i < n
  no_row zero from i j h = absurd h
  no_row (suc n) from zero j h = omega arith
  no_row (suc n) from (suc i) j h = let less = no_row n (from + 1) i j h in omega (arith, less)

  here : (i : ℕ) → i < count → get_or listed_arrows i [] ≡ row i
  here i h = let same : 0 + i ≡ i = omega arith in row_there count 0 i h ∙ ap row same

  -- these are the arrows
  pub listed_are : (i j : ℕ) → Leads listed_arrows i j ↔ Arrow i j
  listed_are i j = (
    λ h.
        let less = no_row count 0 i j h in
        (in_those (Arrow i) (known i) (numbers count) j (subst (λ (ns : List ℕ). IsIn j ns) (here i less) h)).1,
    λ a.
        let less = below i j a in
        subst (λ (ns : List ℕ). IsIn j ns) (sym (here i less.0)) (those_in (Arrow i) (known i) (numbers count) j (in_numbers count j less.1) a),
  )

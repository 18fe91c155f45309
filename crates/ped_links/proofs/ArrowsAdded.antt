-- One arrow more.
use Rattle.std.proofs.Common.{◌≡◌, ◌⊎◌, inl, inr, ℕ, zero, suc, ◌<◌, ◌↔◌, List, [], ◌∷◌, ◌++◌, Option, Some, None, Result, Ok, Err, length, get_or, take, drop, replicate, sym, ap, subst, ◌∙◌, arith}
use Rattle.std.proofs.Math.ListN.{set}
use Rattle.std.proofs.lemmas.Bool.{cases_eq}
use Rattle.std.proofs.lemmas.Option.{same_Some, none-some}
use Rattle.std.proofs.lemmas.List.{length-set, length-map, get_or-set_same, get_or-set_other, get_or-map, map-set, set-get_or, take_at}
use Rattle.ped_units.specs.Linking.{IsIn}
use Rattle.std.specs.Global.{Vec}
use Rattle.std.specs.Prelude.{OnOk, OnErr}
use Rattle.ped_links.specs.Reaching.{ends_in, Leads, EndBelow}
use Rattle.ped_links.proofs.Members.{in_left, in_right, in_either, in_one}

-- the arrows with one more
abbrev pub with_arrow : List (List ℕ) → ℕ → ℕ → List (List ℕ)
with_arrow ends from to = set ends from (get_or ends from [] ++ to ∷ [])

pub was_leading : (ends : List (List ℕ)) (from to i j : ℕ) → from < length ends → Leads (with_arrow ends from to) i j → Leads ends i j ⊎ ((i ≡ from) × (j ≡ to))
was_leading ends from to i j below h = elim (cases_eq i from) [
  | inl e ↦
      let here : IsIn j (get_or ends from [] ++ to ∷ []) = subst (λ (ns : List ℕ). IsIn j ns) (get_or-set_same ends from (get_or ends from [] ++ to ∷ []) [] below) (subst (λ (k : ℕ). Leads (with_arrow ends from to) k j) e h) in
      elim (in_either j (get_or ends from []) (to ∷ []) here) [ inl x ↦ inl (subst (λ (k : ℕ). Leads ends k j) (sym e) x) | inr y ↦ inr (e, in_one j to y) ]
  | inr o ↦ inl (subst (λ (ns : List ℕ). IsIn j ns) (get_or-set_other ends from i (get_or ends from [] ++ to ∷ []) [] o) h)
]

pub now_leading : (ends : List (List ℕ)) (from to i j : ℕ) → from < length ends → Leads ends i j ⊎ ((i ≡ from) × (j ≡ to)) → Leads (with_arrow ends from to) i j
now_leading ends from to i j below (inl h) = elim (cases_eq i from) [
  | inl e ↦
      let here = in_left j (get_or ends from []) (to ∷ []) (subst (λ (k : ℕ). Leads ends k j) e h) in
      subst (λ (k : ℕ). Leads (with_arrow ends from to) k j) (sym e) (subst (λ (ns : List ℕ). IsIn j ns) (sym (get_or-set_same ends from (get_or ends from [] ++ to ∷ []) [] below)) here)
  | inr o ↦ subst (λ (ns : List ℕ). IsIn j ns) (sym (get_or-set_other ends from i (get_or ends from [] ++ to ∷ []) [] o)) h
]
now_leading ends from to i j below (inr h) =
    let here = in_right j (get_or ends from []) (to ∷ []) (inl h.1) in
    subst (λ (k : ℕ). Leads (with_arrow ends from to) k j) (sym h.0) (subst (λ (ns : List ℕ). IsIn j ns) (sym (get_or-set_same ends from (get_or ends from [] ++ to ∷ []) [] below)) here)

-- all arrows end below the bound still
pub ends_below : (ends : List (List ℕ)) (from to : ℕ) → from < length ends → to < length ends → EndBelow (length ends) ends → EndBelow (length (with_arrow ends from to)) (with_arrow ends from to)
ends_below ends from to below low h i j l =
    let same = length-set ends from (get_or ends from [] ++ to ∷ []) in
    elim (was_leading ends from to i j below l) [
      | inl x ↦ let less = h i j x in omega (arith, less, same)
      | inr y ↦ let is = y.1 in omega (arith, is, low, same)
    ]

-- a slice that is written back is what it was written to
pub written_back : {X : Type 0} (n : ℕ) (new old : List X) → n ≡ length old → length new ≡ length old → take n (new ++ drop (length new) old) ≡ new
written_back n new old e l = take_at new (drop (length new) old) n (l ∙ sym e)

-- what holds anyway holds after an error
pub on_err : {A E : Type 0} (r : Result A E) (P : Type 0) → P → OnErr r P
on_err (Ok x) P p = tt
on_err (Err e) P p = p

-- the ends with those of a number exchanged
end_put : (ends : List (Vec ℕ)) (from : ℕ) (v : Vec ℕ) → ends_in (set ends from v) ≡ set (ends_in ends) from v.items
end_put ends from v = map-set (λ (w : Vec ℕ). w.items) ends from v

pub same_end : (ends : List (Vec ℕ)) (from : ℕ) (d v : Vec ℕ) → from < length ends → v.items ≡ (get_or ends from d).items → ends_in (set ends from v) ≡ ends_in ends
same_end ends from d v below e =
    end_put ends from v
    ∙ ap (set (ends_in ends) from) (e ∙ sym (get_or-map (λ (w : Vec ℕ). w.items) ends from d [] below))
    ∙ set-get_or (ends_in ends) from []

pub one_end_more : (ends : List (Vec ℕ)) (from to : ℕ) (d v : Vec ℕ) → from < length ends → v.items ≡ (get_or ends from d).items ++ to ∷ [] → ends_in (set ends from v) ≡ with_arrow (ends_in ends) from to
one_end_more ends from to d v below e =
    end_put ends from v
    ∙ ap (set (ends_in ends) from) (e ∙ ap (λ (ns : List ℕ). ns ++ to ∷ []) (sym (get_or-map (λ (w : Vec ℕ). w.items) ends from d [] below)))

-- all arrows end below the bound, whether one was added or not
within_by : {A E : Type 0} (r : Result A E) (old new : List (List ℕ)) (from to : ℕ) → from < length old → to < length old → EndBelow (length old) old → OnOk r (new ≡ with_arrow old from to) → OnErr r (new ≡ old) → EndBelow (length new) new × (length new ≡ length old)
within_by (Ok x) old new from to f t h ok err = (subst (λ (es : List (List ℕ)). EndBelow (length es) es) (sym ok) (ends_below old from to f t h), ap length ok ∙ length-set old from (get_or old from [] ++ to ∷ []))
within_by (Err x) old new from to f t h ok err = (subst (λ (es : List (List ℕ)). EndBelow (length es) es) (sym err) h, ap length err)

pub added_within : {A E : Type 0} (r : Result A E) (all now : List (Vec ℕ)) (n from to : ℕ) → n ≡ length all → from < length (ends_in all) → to < length (ends_in all) → EndBelow (length (ends_in all)) (ends_in all)
    → OnOk r (ends_in now ≡ with_arrow (ends_in all) from to) → OnErr r (ends_in now ≡ ends_in all)
    → EndBelow (length (ends_in (take n (now ++ drop (length now) all)))) (ends_in (take n (now ++ drop (length now) all)))
added_within r all now n from to e f t h ok err =
    let known = within_by r (ends_in all) (ends_in now) from to f t h ok err in
    let long : length now ≡ length all = sym (length-map now (λ (w : Vec ℕ). w.items)) ∙ known.1 ∙ length-map all (λ (w : Vec ℕ). w.items) in
    subst (λ (vs : List (Vec ℕ)). EndBelow (length (ends_in vs)) (ends_in vs)) (sym (written_back n now all e long)) known.0

-- no arrow leads anywhere at first
pub no_arrows : (n k i : ℕ) → Leads (replicate n []) k i → ⊥
no_arrows zero k i h = h
no_arrows (suc n) zero i h = h
no_arrows (suc n) (suc k) i h = no_arrows n k i h

-- as many numbers, whether an arrow was added or not
pub as_long : {A E : Type 0} (r : Result A E) (old new : List (List ℕ)) (from to : ℕ) → OnOk r (new ≡ with_arrow old from to) → OnErr r (new ≡ old) → length new ≡ length old
as_long (Ok x) old new from to ok err = ap length ok ∙ length-set old from (get_or old from [] ++ to ∷ [])
as_long (Err x) old new from to ok err = ap length err

-- an arrow more, where both its ends are there
pub leads_added : (old new : List (List ℕ)) (from to : ℕ) (o p : Option ℕ) → o ≡ Some from → p ≡ Some to → from < length old → new ≡ with_arrow old from to → (i j : ℕ) → Leads new i j ↔ (Leads old i j ⊎ ((o ≡ Some i) × (p ≡ Some j)))
leads_added old new from to o p is also below e i j = (
  λ l. elim (was_leading old from to i j below (subst (λ (es : List (List ℕ)). Leads es i j) e l)) [ inl x ↦ inl x | inr y ↦ inr (is ∙ ap Some (sym y.0), also ∙ ap Some (sym y.1)) ],
  λ h. subst (λ (es : List (List ℕ)). Leads es i j) (sym e) (now_leading old from to i j below (elim h [ inl x ↦ inl x | inr y ↦ inr (sym (same_Some from i (sym is ∙ y.0)), sym (same_Some to j (sym also ∙ y.1))) ])),
)

-- none more, where one end isn't there
pub leads_same : (old : List (List ℕ)) (o p : Option ℕ) → (o ≡ None) ⊎ (p ≡ None) → (i j : ℕ) → Leads old i j ↔ (Leads old i j ⊎ ((o ≡ Some i) × (p ≡ Some j)))
leads_same old o p none i j = (λ l. inl l, λ h. elim h [ inl x ↦ x | inr y ↦ absurd (elim none [ inl e ↦ none-some i (sym e ∙ y.0) | inr e ↦ none-some j (sym e ∙ y.1) ]) ])

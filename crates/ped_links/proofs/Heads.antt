-- Names of subroutines that are repeated, by units and by their numbers.
use Rattle.std.proofs.Common.{◌≡◌, inl, inr, ℕ, zero, suc, ◌+◌, ◌-◌, ◌<◌, List, [], ◌∷◌, ◌++◌, Bool, true, false, Option, Some, None, length, map, take, drop, get_or, refl, sym, ap, subst, ◌∙◌, ◌||◌, if◌then◌else◌, arith}
use Rattle.ped_base.specs.Lists.{is_same_text, is_among}
use Rattle.ped_units.specs.ped_valid.specs.ped_symbols.specs.NameRefusals.{has_twice}
use Rattle.ped_units.specs.Units.{ProgramUnit, ProgramUnits, all_units}
use Rattle.ped_units.specs.Linking.{LinkRefusal, NoUnit, Recursion, Arguments, Aliased, CallPlace}
use Rattle.ped_links.specs.Links.{AreNamed}
use Rattle.ped_links.specs.LinkPlaces.{IsBelow, HasEarlier}
use Rattle.ped_links.specs.Numbers.{number_among, number_of_unit}
use Rattle.ped_links.specs.Scenes.{unit_at, AtHeads}
use Rattle.ped_units.specs.Views.{name_or_none}
use Rattle.ped_links.specs.FirstLinks.{IsFirstOf, EitherStands, StandsIf, standing_link}
use Rattle.ped_units.specs.declared.refusals.UnitFinding.{UnitFinding}
use Rattle.ped_units.specs.declared.refusals.UnitRule.TheVariants as rule
use Rattle.std.proofs.lemmas.Bool.{cases_lt}
use Rattle.std.proofs.lemmas.Option.{same_Some}
use Rattle.ped_links.proofs.FirstFound.{first_as, standing_first}
use Rattle.ped_links.proofs.Members.{place_in, in_place}

-- the name of a unit
abbrev name_of : ProgramUnit → List ℕ
name_of u = u.name

-- a name among the first of units has a number among theirs
among_numbered : (us rest : List ProgramUnit) (n : ℕ) (x : List ℕ) → is_among x (map name_of us) ≡ true → (j : ℕ) × (number_among (us ++ rest) n x ≡ Some j) × (j < n + length us)
among_numbered [] rest n x h = absurd cc
among_numbered (u ∷ us) rest n x h = by (among_numbered us rest (n + 1) x) (is_same_text x u.name) refl h
  where
    by : (is_among x (map name_of us) ≡ true → (j : ℕ) × (number_among (us ++ rest) (n + 1) x ≡ Some j) × (j < n + 1 + length us)) → (b : Bool) → is_same_text x u.name ≡ b → (b || is_among x (map name_of us)) ≡ true → (j : ℕ) × (number_among ((u ∷ us) ++ rest) n x ≡ Some j) × (j < n + length (u ∷ us))
    by later true e k = (n, ap (λ (b : Bool). if b then Some n else number_among (us ++ rest) (n + 1) x) e, omega arith)
    by later false e k =
        let there = later k in
        let below = there.2 in
        (there.0, ap (λ (b : Bool). if b then Some n else number_among (us ++ rest) (n + 1) x) e ∙ there.1, omega (arith, below))

-- no number is below the first
none_below : (us : List ProgramUnit) (n j : ℕ) (x : List ℕ) → number_among us n x ≡ Some j → j < n → ⊥
none_below [] n j x h l = absurd cc
none_below (u ∷ us) n j x h l = by (λ e. none_below us (n + 1) j x e (omega (arith, l))) (is_same_text x u.name) h
  where
    by : (number_among us (n + 1) x ≡ Some j → ⊥) → (b : Bool) → (if b then Some n else number_among us (n + 1) x) ≡ Some j → ⊥
    by later true e = let is = same_Some n j e in absurd (omega (arith, is, l))
    by later false e = later e

-- a name with a number among the first of units is among theirs
numbered_among : (us : List ProgramUnit) (n m j : ℕ) (x : List ℕ) → number_among us n x ≡ Some j → j < n + m → is_among x (map name_of (take m us)) ≡ true
numbered_among [] n m j x h l = absurd cc
numbered_among (u ∷ us) n zero j x h l = absurd (none_below (u ∷ us) n j x h (omega (arith, l)))
numbered_among (u ∷ us) n (suc m) j x h l = by (λ e. numbered_among us (n + 1) m j x e (omega (arith, l))) (is_same_text x u.name) h
  where
    by : (number_among us (n + 1) x ≡ Some j → is_among x (map name_of (take m us)) ≡ true) → (b : Bool) → (if b then Some n else number_among us (n + 1) x) ≡ Some j → (b || is_among x (map name_of (take m us))) ≡ true
    by later true e = refl
    by later false e = later e

-- a subroutine has the name of one with a lesser number
pub record RepeatsAt (us : ProgramUnits) (n : ℕ) (line : ℕ) : Type 0 where
  pub number : ℕ
  pub above : 0 < number
  pub below : number < n
  pub earlier : ℕ
  pub is_earlier : number_of_unit (all_units us) (unit_at us number).name ≡ Some earlier
  pub less : earlier < number
  pub there : (unit_at us number).line ≡ line

-- a unit with a number below this lists a dummy argument twice
pub record TwiceAt (us : ProgramUnits) (n : ℕ) (line : ℕ) : Type 0 where
  pub number : ℕ
  pub below : number < n
  pub twice : has_twice (unit_at us number).formals ≡ true
  pub there : (unit_at us number).line ≡ line

-- what stands at the SUBROUTINE statements of the first units
abbrev pub HeadsBelow : ProgramUnits → ℕ → LinkRefusal → ℕ → Type 0
HeadsBelow us n NoUnit line = RepeatsAt us n line
HeadsBelow us n Recursion line = ⊥
HeadsBelow us n Arguments line = TwiceAt us n line
HeadsBelow us n Aliased line = ⊥
HeadsBelow us n CallPlace line = ⊥

at_front : (before behind : List ProgramUnit) (u d : ProgramUnit) → get_or (before ++ u ∷ behind) (length before) d ≡ u
at_front [] behind u d = refl
at_front (b ∷ bs) behind u d = at_front bs behind u d

split_at : (us : List ProgramUnit) (k : ℕ) (d : ProgramUnit) → k < length us → us ≡ take k us ++ get_or us k d ∷ drop (k + 1) us
split_at [] k d h = absurd (omega (arith, h))
split_at (u ∷ us) zero d h = refl
split_at (u ∷ us) (suc k) d h =
    let same : suc (k + 1) ≡ suc k + 1 = omega arith in
    ap (λ (vs : List ProgramUnit). u ∷ vs) (split_at us k d (omega (arith, h))) ∙ ap (λ (n : ℕ). u ∷ (take k us ++ get_or us k d ∷ drop n (u ∷ us))) same

longer : (xs ys : List ProgramUnit) (y : ProgramUnit) → length xs < length (xs ++ y ∷ ys)
longer [] ys y = omega arith
longer (x ∷ xs) ys y = let less = longer xs ys y in omega (arith, less)

pub heads_from : (us : ProgramUnits) (n : ℕ) → n ≡ length (all_units us) → (r : LinkRefusal) (line : ℕ) → HeadsBelow us n r line → AtHeads us r line
heads_from us n wide NoUnit line h =
    let k = h.number in
    let below = h.below in
    let above = h.above in
    let less = h.less in
    let place : k ≡ suc (k - 1) = omega (arith, above) in
    let unit : unit_at us k ≡ get_or us.others (k - 1) us.main = ap (λ (j : ℕ). get_or (all_units us) j us.main) place in
    record {
      before = take (k - 1) us.others;
      unit = get_or us.others (k - 1) us.main;
      behind = drop (k - 1 + 1) us.others;
      stand = split_at us.others (k - 1) us.main (omega (arith, wide, below, above));
      repeats = numbered_among us.others 1 (k - 1) h.earlier (get_or us.others (k - 1) us.main).name (ap (λ (v : ProgramUnit). number_of_unit (all_units us) v.name) (sym unit) ∙ h.is_earlier) (omega (arith, less, above));
      there = ap (λ (v : ProgramUnit). v.line) (sym unit) ∙ h.there;
    }
heads_from us n wide Arguments line h = record { unit = unit_at us h.number; is_unit = in_place (all_units us) h.number us.main (omega (arith, wide, h.below)); twice = h.twice; there = h.there }
heads_from us n wide Recursion line h = absurd h
heads_from us n wide Aliased line h = absurd h
heads_from us n wide CallPlace line h = absurd h

pub heads_to : (us : ProgramUnits) (n : ℕ) → n ≡ length (all_units us) → (r : LinkRefusal) (line : ℕ) → AtHeads us r line → HeadsBelow us n r line
heads_to us n wide NoUnit line h =
    let k = suc (length h.before) in
    let long = ap length h.stand in
    let less = longer h.before h.behind h.unit in
    let unit : unit_at us k ≡ h.unit = ap (λ (vs : List ProgramUnit). get_or vs (length h.before) us.main) h.stand ∙ at_front h.before h.behind h.unit us.main in
    let there = among_numbered h.before (h.unit ∷ h.behind) 1 h.unit.name h.repeats in
    let low = there.2 in
    record {
      number = k;
      above = omega arith;
      below = omega (arith, wide, long, less);
      earlier = there.0;
      is_earlier = ap (λ (v : ProgramUnit). number_of_unit (all_units us) v.name) unit ∙ ap (λ (vs : List ProgramUnit). number_among vs 1 h.unit.name) h.stand ∙ there.1;
      less = omega (arith, low);
      there = ap (λ (v : ProgramUnit). v.line) unit ∙ h.there;
    }
heads_to us n wide Arguments line h =
    let place = place_in h.unit (all_units us) us.main h.is_unit in
    record {
      number = place.0;
      below = omega (arith, wide, place.1);
      twice = ap (λ (v : ProgramUnit). has_twice v.formals) place.2 ∙ h.twice;
      there = ap (λ (v : ProgramUnit). v.line) place.2 ∙ h.there;
    }
heads_to us n wide Recursion line h = absurd h
heads_to us n wide Aliased line h = absurd h
heads_to us n wide CallPlace line h = absurd h

-- none at no SUBROUTINE statement
pub no_heads : (us : ProgramUnits) → IsFirstOf (HeadsBelow us 0) None
no_heads us NoUnit line h = absurd (omega (arith, h.below))
no_heads us Recursion line h = h
no_heads us Arguments line h = absurd (omega (arith, h.below))
no_heads us Aliased line h = h
no_heads us CallPlace line h = h

-- the unit with this number has the name of one with a lesser number
abbrev pub RepeatsHere : ProgramUnits → ℕ → Type 0
RepeatsHere us n = (0 < n) × ((j : ℕ) × (number_of_unit (all_units us) (unit_at us n).name ≡ Some j) × (j < n))

-- what stands at one more SUBROUTINE statement
abbrev HeadMore : ProgramUnits → ℕ → LinkRefusal → ℕ → Type 0
HeadMore us n = EitherStands (EitherStands (HeadsBelow us n) (StandsIf NoUnit (unit_at us n).line (RepeatsHere us n))) (StandsIf Arguments (unit_at us n).line (has_twice (unit_at us n).formals ≡ true))

head_together : (us : ProgramUnits) (n : ℕ) (r : LinkRefusal) (line : ℕ) → HeadMore us n r line → HeadsBelow us (n + 1) r line
head_together us n NoUnit line (inl (inl s)) = record { number = s.number; above = s.above; below = omega (arith, s.below); earlier = s.earlier; is_earlier = s.is_earlier; less = s.less; there = s.there }
head_together us n Arguments line (inl (inl s)) = record { number = s.number; below = omega (arith, s.below); twice = s.twice; there = s.there }
head_together us n Recursion line (inl (inl s)) = s
head_together us n Aliased line (inl (inl s)) = s
head_together us n CallPlace line (inl (inl s)) = s
head_together us n r line (inl (inr s)) = subst (λ (q : LinkRefusal). HeadsBelow us (n + 1) q line) (sym s.0) (record { number = n; above = s.2.0; below = omega arith; earlier = s.2.1.0; is_earlier = s.2.1.1; less = s.2.1.2; there = sym s.1 })
head_together us n r line (inr s) = subst (λ (q : LinkRefusal). HeadsBelow us (n + 1) q line) (sym s.0) (record { number = n; below = omega arith; twice = s.2; there = sym s.1 })

head_apart : (us : ProgramUnits) (n : ℕ) (r : LinkRefusal) (line : ℕ) → HeadsBelow us (n + 1) r line → HeadMore us n r line
head_apart us n NoUnit line s = elim (cases_lt s.number n) [
  | inl low ↦ inl (inl (record { number = s.number; above = s.above; below = low; earlier = s.earlier; is_earlier = s.is_earlier; less = s.less; there = s.there }))
  | inr high ↦
      let is : s.number ≡ n = omega (arith, high, s.below) in
      inl (inr (refl, sym (ap (λ (k : ℕ). (unit_at us k).line) (sym is) ∙ s.there), (omega (arith, is, s.above), (s.earlier, ap (λ (k : ℕ). number_of_unit (all_units us) (unit_at us k).name) (sym is) ∙ s.is_earlier, omega (arith, is, s.less)))))
]
head_apart us n Arguments line s = elim (cases_lt s.number n) [
  | inl low ↦ inl (inl (record { number = s.number; below = low; twice = s.twice; there = s.there }))
  | inr high ↦
      let is : s.number ≡ n = omega (arith, high, s.below) in
      inr (refl, sym (ap (λ (k : ℕ). (unit_at us k).line) (sym is) ∙ s.there), ap (λ (k : ℕ). has_twice (unit_at us k).formals) (sym is) ∙ s.twice)
]
head_apart us n Recursion line s = inl (inl s)
head_apart us n Aliased line s = inl (inl s)
head_apart us n CallPlace line s = inl (inl s)

-- one SUBROUTINE statement more
pub heads_more : (us : ProgramUnits) (n : ℕ) (found : Option UnitFinding) (repeats twice : Bool) → IsFirstOf (HeadsBelow us n) found → (repeats ≡ true → RepeatsHere us n) → (RepeatsHere us n → repeats ≡ true) → twice ≡ has_twice (unit_at us n).formals
    → IsFirstOf (HeadsBelow us (n + 1)) (standing_link (standing_link found repeats rule.NoUnit (unit_at us n).line) twice rule.Arguments (unit_at us n).line)
heads_more us n found repeats twice h f g e =
    let line = (unit_at us n).line in
    let one = standing_first (HeadsBelow us n) found repeats rule.NoUnit line NoUnit (RepeatsHere us n) refl h f g in
    let two = standing_first (EitherStands (HeadsBelow us n) (StandsIf NoUnit line (RepeatsHere us n))) (standing_link found repeats rule.NoUnit line) twice rule.Arguments line Arguments (has_twice (unit_at us n).formals ≡ true) refl one (λ t. sym e ∙ t) (λ t. e ∙ t) in
    first_as (HeadMore us n) (HeadsBelow us (n + 1)) (standing_link (standing_link found repeats rule.NoUnit line) twice rule.Arguments line) (head_together us n) (head_apart us n) two

below_some : (o : Option ℕ) (n : ℕ) → IsBelow o n → (j : ℕ) × (o ≡ Some j) × (j < n)
below_some None n h = absurd h
below_some (Some j) n h = (j, refl, h)

-- a unit that has the name of an earlier one
pub repeats_by : (us : ProgramUnits) (n : ℕ) (name : Option (List ℕ)) → (unit_at us n).name ≡ name_or_none name → HasEarlier (all_units us) name n → RepeatsHere us n
repeats_by us n None e h = absurd h
repeats_by us n (Some x) e h =
    let there = below_some (number_of_unit (all_units us) x) n h in
    let less = there.2 in
    (omega (arith, less), (there.0, ap (number_of_unit (all_units us)) e ∙ there.1, less))

pub by_repeats : (us : ProgramUnits) (n : ℕ) (name : Option (List ℕ)) → AreNamed us → n < length (all_units us) → (unit_at us n).name ≡ name_or_none name → RepeatsHere us n → HasEarlier (all_units us) name n
by_repeats us n None named below e h =
    let above = h.0 in
    let place : n ≡ suc (n - 1) = omega (arith, above) in
    let unit : get_or us.others (n - 1) us.main ≡ unit_at us n = ap (λ (j : ℕ). get_or (all_units us) j us.main) (sym place) in
    absurd (named (get_or us.others (n - 1) us.main) (in_place us.others (n - 1) us.main (omega (arith, above, below))) (ap (λ (v : ProgramUnit). v.name) unit ∙ e))
by_repeats us n (Some x) named below e h = subst (λ (o : Option ℕ). IsBelow o n) (sym (ap (number_of_unit (all_units us)) (sym e) ∙ h.1.1)) h.1.2

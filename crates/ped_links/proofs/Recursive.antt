-- CALLs that lead back, by units and by their numbers.
use Rattle.std.proofs.Common.{◌≡◌, ◌⊎◌, inl, inr, ℕ, ◌+◌, ◌<◌, ◌↔◌, List, [], ◌∷◌, ◌++◌, Bool, true, false, Option, Some, None, length, map, refl, sym, ap, subst, ◌∙◌, eqb, ltb, ◌||◌, ◌&&◌, arith}
use Rattle.std.proofs.lemmas.Bool.{cases_lt}
use Rattle.std.proofs.lemmas.Option.{same_Some}
use Rattle.ped_units.specs.Units.{ProgramUnit, ProgramUnits, all_units}
use Rattle.ped_units.specs.Linking.{IsIn, Placed, calls_of, CallsUnit, LeadsAlong, Reaches, LinkRefusal, NoUnit, Recursion, Arguments, Aliased, CallPlace, IsAtCall, OfCalled, IsRecursive, is_before}
use Rattle.ped_units.specs.Verdicts.{number_of_rule}
use Rattle.ped_links.specs.FirstLinks.{comes_first, IsFirstOf, EitherStands, first_link_of}
use Rattle.ped_links.specs.Numbers.{number_of_unit}
use Rattle.ped_links.specs.Placing.{placed_call}
use Rattle.ped_links.specs.Reaching.{Leads, LeadAlong, IsReached, IsMarked, IsMarkedNumber}
use Rattle.ped_links.specs.Recursions.{CallsIn, IsLeading, MayComeFirst, IsFoundIn}
use Rattle.ped_links.specs.Scenes.{unit_at, CallsAt, CallsMarked, StandsAtCalls, AtRecursions}
use Rattle.ped_links.specs.declared.placing.PlacedCall.{PlacedCall}
use Rattle.ped_units.specs.declared.refusals.UnitFinding.{UnitFinding}
use Rattle.ped_units.specs.declared.refusals.UnitRule.TheVariants as rule
use Rattle.ped_links.proofs.FirstFound.{both_first, first_as}
use Rattle.ped_links.proofs.Members.{in_map, map_in, in_place, in_left, in_right, in_either, in_one}
use Rattle.ped_links.proofs.NumberedUnits.{unit_of_number, number_of_unit_of}
use Rattle.ped_links.proofs.Reached.{along_more}

-- arrows lead from each unit to those that call it
abbrev pub AreCallers : ProgramUnits → List (List ℕ) → Type 0
AreCallers us ends = (k i : ℕ) → Leads ends k i ↔ CallsAt us i k

leads_more : (us : ProgramUnits) (u v w : ProgramUnit) (path : List ProgramUnit) → LeadsAlong us u path v → CallsUnit us v w → LeadsAlong us u (path ++ v ∷ []) w
leads_more us u v w [] h c = (h, c)
leads_more us u v w (m ∷ path) h c = (h.0, leads_more us m v w path h.1 c)

unit_calls : (us : ProgramUnits) (i k : ℕ) → CallsAt us i k → CallsUnit us (unit_at us i) (unit_at us k)
unit_calls us i k h = record { call = h.1.0; is_call = h.1.1; is_unit = (unit_of_number us h.1.0.called.name k h.1.2).0 }

-- along arrows back, CALLs lead there
leads_back : (us : ProgramUnits) (ends : List (List ℕ)) (path : List ℕ) (i k : ℕ) → AreCallers us ends → LeadAlong ends i path k → (i ≡ k) ⊎ Reaches us (unit_at us k) (unit_at us i)
leads_back us ends [] i k a e = inl e
leads_back us ends (m ∷ path) i k a h =
    let calls = unit_calls us m i ((a i m).0 h.0) in
    elim (leads_back us ends path m k a h.1) [
      | inl e ↦ inr ([], subst (λ (n : ℕ). CallsUnit us (unit_at us n) (unit_at us i)) e calls)
      | inr r ↦ inr (r.0 ++ unit_at us m ∷ [], leads_more us (unit_at us k) (unit_at us m) (unit_at us i) r.0 r.1 calls)
    ]

-- a unit is called at its number
pub record IsCalledFrom (us : ProgramUnits) (ends : List (List ℕ)) (k : ℕ) (w : ProgramUnit) : Type 0 where
  pub number : ℕ
  pub below : number < length (all_units us)
  pub is_unit : unit_at us number ≡ w
  pub path : List ℕ
  pub leads : LeadAlong ends number path k

call_numbered : (us : ProgramUnits) (ends : List (List ℕ)) (k : ℕ) (v w : ProgramUnit) → AreCallers us ends → k < length (all_units us) → unit_at us k ≡ v → CallsUnit us v w → (n : ℕ) × (n < length (all_units us)) × (unit_at us n ≡ w) × Leads ends n k
call_numbered us ends k v w a below is c =
    let there = number_of_unit_of us c.call.called.name w c.is_unit in
    let known = unit_of_number us c.call.called.name there.0 there.1 in
    (there.0, known.1, there.2, (a there.0 k).1 (below, (c.call, subst (λ (u : ProgramUnit). IsIn c.call (calls_of u)) (sym is) c.is_call, there.1)))

-- along CALLs, arrows lead back
leads_on : (us : ProgramUnits) (ends : List (List ℕ)) (path : List ProgramUnit) (k : ℕ) (v w : ProgramUnit) → AreCallers us ends → k < length (all_units us) → unit_at us k ≡ v → LeadsAlong us v path w → IsCalledFrom us ends k w
leads_on us ends [] k v w a below is c =
    let there = call_numbered us ends k v w a below is c in
    record { number = there.0; below = there.1; is_unit = there.2; path = k ∷ []; leads = (there.3, refl) }
leads_on us ends (m ∷ path) k v w a below is h =
    let there = call_numbered us ends k v m a below is h.0 in
    let rest = leads_on us ends path there.0 m w a there.1 there.2 h.1 in
    record { number = rest.number; below = rest.below; is_unit = rest.is_unit; path = rest.path ++ k ∷ []; leads = along_more ends rest.number there.0 k rest.path rest.leads there.3 }

-- the CALLs of the unit with this number that lead back
abbrev pub LeadingAt : ProgramUnits → List (List ℕ) → ℕ → LinkRefusal → ℕ → Type 0
LeadingAt us ends i = StandsAtCalls (map placed_call (calls_of (unit_at us i))) Recursion (IsLeading (all_units us) ends i)

-- those of the first units
abbrev pub LeadingBelow : ProgramUnits → List (List ℕ) → ℕ → LinkRefusal → ℕ → Type 0
LeadingBelow us ends n r line = (i : ℕ) × (i < n) × LeadingAt us ends i r line

of_rule : (us : ProgramUnits) (r : LinkRefusal) (line : ℕ) → r ≡ Recursion → IsAtCall us line (OfCalled us (IsRecursive us)) → AtRecursions us r line
of_rule us r line e h = subst (λ (q : LinkRefusal). AtRecursions us q line) (sym e) h

-- a CALL that leads back by numbers is recursive
pub leading_recurs : (us : ProgramUnits) (ends : List (List ℕ)) (n : ℕ) → AreCallers us ends → n ≡ length (all_units us) → (r : LinkRefusal) (line : ℕ) → LeadingBelow us ends n r line → AtRecursions us r line
leading_recurs us ends n a wide r line h =
    let i = h.0 in
    let at = h.2 in
    let u = unit_at us i in
    let there = in_map placed_call at.call (calls_of u) at.is_call in
    let p = there.0 in
    let k = at.stands.0 in
    let named : number_of_unit (all_units us) p.called.name ≡ Some k = subst (λ (c : PlacedCall). number_of_unit (all_units us) c.name ≡ Some k) there.2 at.stands.1 in
    let reached = at.stands.2 in
    let from_unit : LeadAlong ends i reached.path k = subst (λ (s : ℕ). LeadAlong ends s reached.path k) (one reached.seed i reached.is_seed) reached.leads in
    let recurs : IsRecursive us u (unit_at us k) p = elim (leads_back us ends reached.path i k a from_unit) [ inl e ↦ inl (ap (unit_at us) (sym e)) | inr x ↦ inr x ] in
    of_rule us r line at.is_rule (record {
      unit = u;
      is_unit = in_place (all_units us) i us.main (omega (arith, h.1, wide));
      call = p;
      is_call = there.1;
      stands = (unit_at us k, (unit_of_number us p.called.name k named).0, recurs);
      there = ap (λ (c : PlacedCall). c.line) (sym there.2) ∙ at.there;
    })
  where
    one : (x y : ℕ) → IsIn x (y ∷ []) → x ≡ y
    one x y (inl e) = e
    one x y (inr e) = absurd e

leading_at : (us : ProgramUnits) (ends : List (List ℕ)) (i k : ℕ) (u : ProgramUnit) (p : Placed) (path : List ℕ) (line : ℕ) → unit_at us i ≡ u → IsIn p (calls_of u) → number_of_unit (all_units us) p.called.name ≡ Some k → LeadAlong ends i path k → p.line ≡ line → LeadingAt us ends i Recursion line
leading_at us ends i k u p path line is call named leads there = record {
  is_rule = refl;
  call = placed_call p;
  is_call = map_in placed_call p (calls_of (unit_at us i)) (subst (λ (v : ProgramUnit). IsIn p (calls_of v)) (sym is) call);
  stands = (k, named, record { seed = i; is_seed = inl refl; path = path; leads = leads });
  there = there;
}

-- a recursive CALL leads back by numbers
pub recursive_leads : (us : ProgramUnits) (ends : List (List ℕ)) (n : ℕ) → AreCallers us ends → n ≡ length (all_units us) → (r : LinkRefusal) (line : ℕ) → AtRecursions us r line → LeadingBelow us ends n r line
recursive_leads us ends n a wide Recursion line h =
    let v = h.stands.0 in
    let p = h.call in
    let there = number_of_unit_of us p.called.name v h.stands.1 in
    let k = there.0 in
    let below = (unit_of_number us p.called.name k there.1).1 in
    elim h.stands.2 [
      | inl e ↦ (k, omega (arith, below, wide), leading_at us ends k k h.unit p [] line (there.2 ∙ e) h.is_call there.1 refl h.there)
      | inr reaches ↦
          let from_unit = leads_on us ends reaches.0 k v h.unit a below there.2 reaches.1 in
          (from_unit.number, omega (arith, from_unit.below, wide), leading_at us ends from_unit.number k h.unit p from_unit.path line from_unit.is_unit h.is_call there.1 from_unit.leads h.there)
    ]
recursive_leads us ends n a wide NoUnit line h = absurd h
recursive_leads us ends n a wide Arguments line h = absurd h
recursive_leads us ends n a wide Aliased line h = absurd h
recursive_leads us ends n a wide CallPlace line h = absurd h

-- by line, and then by number
abbrev before : ℕ → ℕ → ℕ → ℕ → Bool
before a p b q = ltb a b || (eqb a b && ltb p q)

-- what doesn't come before what was found may be left out
skipped : (one other : LinkRefusal → ℕ → Type 0) (found : Option UnitFinding) → IsFirstOf one found → ((r : LinkRefusal) (line : ℕ) → other r line → (r ≡ Recursion) × (comes_first (record { rule = rule.Recursion; line = line }) found ≡ false)) → IsFirstOf (EitherStands one other) found
skipped one other None h f = λ r line s. elim s [ inl x ↦ h r line x | inr y ↦ absurd (no (f r line y).1) ]
  where
    no : true ≡ false → ⊥
    no e = absurd cc
skipped one other (Some g) h f = record {
  rule = h.rule;
  is_rule = h.is_rule;
  stands_there = inl h.stands_there;
  least = λ q line s. elim s [
    | inl x ↦ h.least q line x
    | inr y ↦
        ap (λ (p : LinkRefusal). is_before p line h.rule g.line) (f q line y).0
        ∙ ap (λ (m : ℕ). before line 21 g.line m) (sym (ap number_of_rule h.is_rule)) ∙ (f q line y).1
  ];
}

-- no CALL of a unit that is left out comes first
pub skipped_unit : (us : ProgramUnits) (ends : List (List ℕ)) (marks : List Bool) (found : Option UnitFinding) (i : ℕ) (one : LinkRefusal → ℕ → Type 0) → AreCallers us ends → i < length (all_units us)
    → ((k j : ℕ) → Leads ends k j → IsReached ends (j ∷ []) k → IsMarked marks k)
    → (MayComeFirst (all_units us) marks found (map placed_call (calls_of (unit_at us i))) → ⊥) → IsFirstOf one found → IsFirstOf (EitherStands one (LeadingAt us ends i)) found
skipped_unit us ends marks found i one a below returns none h = skipped one (LeadingAt us ends i) found h (λ r line s.
    let k = s.stands.0 in
    let there = in_map placed_call s.call (calls_of (unit_at us i)) s.is_call in
    let named : number_of_unit (all_units us) there.0.called.name ≡ Some k = subst (λ (c : PlacedCall). number_of_unit (all_units us) c.name ≡ Some k) there.2 s.stands.1 in
    let leads : Leads ends k i = (a k i).1 (below, (there.0, there.1, named)) in
    let marked : CallsMarked (all_units us) marks s.call = subst (IsMarkedNumber marks) (sym s.stands.1) (returns k i leads s.stands.2) in
    (s.is_rule, later (comes_first (record { rule = rule.Recursion; line = line }) found) (λ e. none (s.call, s.is_call, (marked, subst (λ (l : ℕ). comes_first (record { rule = rule.Recursion; line = l }) found ≡ true) (sym s.there) e)))))
  where
    later : (b : Bool) → (b ≡ true → ⊥) → b ≡ false
    later true f = absurd (f refl)
    later false f = refl

-- none in no unit
pub none_below : (us : ProgramUnits) (ends : List (List ℕ)) → IsFirstOf (LeadingBelow us ends 0) None
none_below us ends r line h = absurd (omega (arith, h.1))

-- one unit more
pub unit_more : (us : ProgramUnits) (ends : List (List ℕ)) (marks : List Bool) (found more : Option UnitFinding) (i : ℕ) → AreCallers us ends → i < length (all_units us)
    → ((k j : ℕ) → Leads ends k j → IsReached ends (j ∷ []) k → IsMarked marks k)
    → IsFoundIn us ends marks found i more → IsFirstOf (LeadingBelow us ends i) found → IsFirstOf (LeadingBelow us ends (i + 1)) (first_link_of found more)
unit_more us ends marks found more i a below returns f h =
    first_as (EitherStands (LeadingBelow us ends i) (LeadingAt us ends i)) (LeadingBelow us ends (i + 1)) (first_link_of found more) together apart (both f)
  where
    together : (r : LinkRefusal) (line : ℕ) → EitherStands (LeadingBelow us ends i) (LeadingAt us ends i) r line → LeadingBelow us ends (i + 1) r line
    together r line (inl s) = (s.0, omega (arith, s.1), s.2)
    together r line (inr s) = (i, omega arith, s)

    apart : (r : LinkRefusal) (line : ℕ) → LeadingBelow us ends (i + 1) r line → EitherStands (LeadingBelow us ends i) (LeadingAt us ends i) r line
    apart r line s = elim (cases_lt s.0 i) [
      | inl low ↦ inl (s.0, low, s.2)
      | inr high ↦ inr (subst (λ (n : ℕ). LeadingAt us ends n r line) (omega (arith, high, s.1)) s.2)
    ]

    both : IsFoundIn us ends marks found i more → IsFirstOf (EitherStands (LeadingBelow us ends i) (LeadingAt us ends i)) (first_link_of found more)
    both (inl k) = both_first (LeadingBelow us ends i) (LeadingAt us ends i) found more h k
    both (inr k) = subst (λ (o : Option UnitFinding). IsFirstOf (EitherStands (LeadingBelow us ends i) (LeadingAt us ends i)) (first_link_of found o)) (sym k.0) (skipped_unit us ends marks found i (LeadingBelow us ends i) a below returns k.1 h)

-- the arrows of one CALL more
pub callers_step : (us : ProgramUnits) (calls all : List PlacedCall) (c : PlacedCall) (unit : ℕ) (callee : Option ℕ) (old mid new : List (List ℕ)) → all ≡ calls ++ c ∷ [] → callee ≡ number_of_unit (all_units us) c.name
    → ((k i : ℕ) → Leads mid k i ↔ (Leads old k i ⊎ ((i ≡ unit) × CallsIn (all_units us) calls k))) → ((k i : ℕ) → Leads new k i ↔ (Leads mid k i ⊎ ((callee ≡ Some k) × (Some unit ≡ Some i))))
    → (k i : ℕ) → Leads new k i ↔ (Leads old k i ⊎ ((i ≡ unit) × CallsIn (all_units us) all k))
callers_step us calls all c unit callee old mid new e named before now k i = (from, to)
  where
    more : CallsIn (all_units us) calls k → CallsIn (all_units us) all k
    more x = (x.0, subst (IsIn x.0) (sym e) (in_left x.0 calls (c ∷ []) x.1), x.2)

    here : callee ≡ Some k → CallsIn (all_units us) all k
    here h = (c, subst (IsIn c) (sym e) (in_right c calls (c ∷ []) (inl refl)), sym named ∙ h)

    from : Leads new k i → Leads old k i ⊎ ((i ≡ unit) × CallsIn (all_units us) all k)
    from l = elim ((now k i).0 l) [
      | inl m ↦ elim ((before k i).0 m) [ inl o ↦ inl o | inr x ↦ inr (x.0, more x.1) ]
      | inr h ↦ inr (sym (same_Some unit i h.1), here h.0)
    ]

    to : Leads old k i ⊎ ((i ≡ unit) × CallsIn (all_units us) all k) → Leads new k i
    to (inl o) = (now k i).1 (inl ((before k i).1 (inl o)))
    to (inr x) = elim (in_either x.1.0 calls (c ∷ []) (subst (IsIn x.1.0) e x.1.1)) [
      | inl y ↦ (now k i).1 (inl ((before k i).1 (inr (x.0, (x.1.0, y, x.1.2)))))
      | inr z ↦ (now k i).1 (inr (named ∙ ap (λ (d : PlacedCall). number_of_unit (all_units us) d.name) (sym (in_one x.1.0 c z)) ∙ x.1.2, ap (λ (n : ℕ). Some n) (sym x.0)))
    ]

-- the arrows of one unit more
pub callers_more : (us : ProgramUnits) (n : ℕ) (calls : List PlacedCall) (old new : List (List ℕ)) → calls ≡ map placed_call (calls_of (unit_at us n)) → n < length (all_units us)
    → ((k i : ℕ) → Leads old k i ↔ ((i < n) × CallsAt us i k)) → ((k i : ℕ) → Leads new k i ↔ (Leads old k i ⊎ ((i ≡ n) × CallsIn (all_units us) calls k)))
    → (k i : ℕ) → Leads new k i ↔ ((i < n + 1) × CallsAt us i k)
callers_more us n calls old new e below before now k i = (from, to)
  where
    from : Leads new k i → (i < n + 1) × CallsAt us i k
    from l = elim ((now k i).0 l) [
      | inl o ↦ let known = (before k i).0 o in let low = known.0 in (omega (arith, low), known.1)
      | inr x ↦
          let call = in_map placed_call x.1.0 (calls_of (unit_at us n)) (subst (IsIn x.1.0) e x.1.1) in
          let is = x.0 in
          (omega (arith, is), subst (λ (m : ℕ). CallsAt us m k) (sym is) (below, (call.0, call.1, ap (λ (d : PlacedCall). number_of_unit (all_units us) d.name) (sym call.2) ∙ x.1.2)))
    ]

    to : (i < n + 1) × CallsAt us i k → Leads new k i
    to h = elim (cases_lt i n) [
      | inl low ↦ (now k i).1 (inl ((before k i).1 (low, h.1)))
      | inr high ↦
          let is : i ≡ n = omega (arith, high, h.0) in
          let at : CallsAt us n k = subst (λ (m : ℕ). CallsAt us m k) is h.1 in
          (now k i).1 (inr (is, (placed_call at.1.0, subst (IsIn (placed_call at.1.0)) (sym e) (map_in placed_call at.1.0 (calls_of (unit_at us n)) at.1.1), at.1.2)))
    ]

-- the arrows of all units
pub all_callers : (us : ProgramUnits) (n : ℕ) (ends : List (List ℕ)) → n ≡ length (all_units us) → ((k i : ℕ) → Leads ends k i ↔ ((i < n) × CallsAt us i k)) → AreCallers us ends
all_callers us n ends wide f k i = (λ l. ((f k i).0 l).1, λ h. (f k i).1 (omega (arith, wide, h.0), h))

-- what is marked from a unit along arrows
marked_leading : (us : List ProgramUnit) (ends : List (List ℕ)) (marks : List Bool) (i : ℕ) (c : PlacedCall) → ((j : ℕ) → IsMarked marks j ↔ IsReached ends (i ∷ []) j) → CallsMarked us marks c → IsLeading us ends i c
marked_leading us ends marks i c m h = by (number_of_unit us c.name) refl h
  where
    by : (o : Option ℕ) → number_of_unit us c.name ≡ o → IsMarkedNumber marks o → IsLeading us ends i c
    by None e k = absurd k
    by (Some n) e k = (n, e, (m n).0 k)

leading_marked : (us : List ProgramUnit) (ends : List (List ℕ)) (marks : List Bool) (i : ℕ) (c : PlacedCall) → ((j : ℕ) → IsMarked marks j ↔ IsReached ends (i ∷ []) j) → IsLeading us ends i c → CallsMarked us marks c
leading_marked us ends marks i c m h = subst (IsMarkedNumber marks) (sym h.1) ((m h.0).1 h.2)

-- the first CALL of a unit that is marked is the first that leads back
pub found_leading : (us : List ProgramUnit) (ends : List (List ℕ)) (marks : List Bool) (i : ℕ) (calls : List PlacedCall) (found : Option UnitFinding) → ((j : ℕ) → IsMarked marks j ↔ IsReached ends (i ∷ []) j)
    → IsFirstOf (StandsAtCalls calls Recursion (CallsMarked us marks)) found → IsFirstOf (StandsAtCalls calls Recursion (IsLeading us ends i)) found
found_leading us ends marks i calls found m h =
    first_as (StandsAtCalls calls Recursion (CallsMarked us marks)) (StandsAtCalls calls Recursion (IsLeading us ends i)) found
    (λ r line s. record { is_rule = s.is_rule; call = s.call; is_call = s.is_call; stands = marked_leading us ends marks i s.call m s.stands; there = s.there })
    (λ r line s. record { is_rule = s.is_rule; call = s.call; is_call = s.is_call; stands = leading_marked us ends marks i s.call m s.stands; there = s.there }) h

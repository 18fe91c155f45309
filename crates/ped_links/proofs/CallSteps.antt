-- CALLs that are looked at one after the other.
use Rattle.std.proofs.Common.{◌≡◌, inl, inr, ℕ, Bool, true, List, [], ◌∷◌, ◌++◌, Option, None, refl, sym, ap, subst, ◌∙◌}
use Rattle.std.specs.Prelude.{IsTrue}
use Rattle.ped_units.specs.Units.{ProgramUnit}
use Rattle.ped_units.specs.Linking.{LinkRefusal, Arguments}
use Rattle.ped_units.specs.Verdicts.{of_links}
use Rattle.ped_units.specs.Views.{rule_of}
use Rattle.ped_links.specs.FirstLinks.{standing_link, IsFirstOf, EitherStands, StandsIf}
use Rattle.ped_links.specs.LinkPlaces.{StandsAtLines, StandsAtPlaces}
use Rattle.ped_links.specs.Scenes.{StandsAtCalls}
use Rattle.ped_links.specs.declared.placing.PlacedCall.{PlacedCall}
use Rattle.ped_units.specs.declared.refusals.UnitRule.{UnitRule}
use Rattle.ped_units.specs.declared.refusals.UnitRule.TheVariants as rule
use Rattle.ped_units.specs.declared.refusals.UnitFinding.{UnitFinding}
use Rattle.ped_links.proofs.FirstFound.{first_as, standing_first}
use Rattle.ped_links.proofs.Members.{in_left, in_right, in_either, in_one}

-- one of some, or one more
pub from_more : (calls : List PlacedCall) (c : PlacedCall) (rule : LinkRefusal) (holds : PlacedCall → Type 0) (r : LinkRefusal) (line : ℕ) → EitherStands (StandsAtCalls calls rule holds) (StandsIf rule c.line (holds c)) r line → StandsAtCalls (calls ++ c ∷ []) rule holds r line
from_more calls c rule holds r line (inl s) = record { is_rule = s.is_rule; call = s.call; is_call = in_left s.call calls (c ∷ []) s.is_call; stands = s.stands; there = s.there }
from_more calls c rule holds r line (inr s) = record { is_rule = s.0; call = c; is_call = in_right c calls (c ∷ []) (inl refl); stands = s.2; there = sym s.1 }

pub to_more : (calls : List PlacedCall) (c : PlacedCall) (rule : LinkRefusal) (holds : PlacedCall → Type 0) (r : LinkRefusal) (line : ℕ) → StandsAtCalls (calls ++ c ∷ []) rule holds r line → EitherStands (StandsAtCalls calls rule holds) (StandsIf rule c.line (holds c)) r line
to_more calls c rule holds r line s = elim (in_either s.call calls (c ∷ []) s.is_call) [
  | inl i ↦ inl (record { is_rule = s.is_rule; call = s.call; is_call = i; stands = s.stands; there = s.there })
  | inr j ↦ inr (s.is_rule, sym s.there ∙ ap (λ (d : PlacedCall). d.line) (in_one s.call c j), subst holds (in_one s.call c j) s.stands)
]

-- none of no CALLs
pub no_calls : (rule : LinkRefusal) (holds : PlacedCall → Type 0) → IsFirstOf (StandsAtCalls [] rule holds) None
no_calls rule holds r line s = s.is_call

-- one CALL more
pub first_more : (calls all : List PlacedCall) (c : PlacedCall) (r : LinkRefusal) (code : UnitRule) (holds : PlacedCall → Type 0) (found : Option UnitFinding) (test : Bool) → all ≡ calls ++ c ∷ [] → rule_of code ≡ of_links r → IsFirstOf (StandsAtCalls calls r holds) found
    → (IsTrue test → holds c) → (holds c → IsTrue test) → IsFirstOf (StandsAtCalls all r holds) (standing_link found test code c.line)
first_more calls all c r code holds found test e is h f g =
    subst (λ (cs : List PlacedCall). IsFirstOf (StandsAtCalls cs r holds) (standing_link found test code c.line)) (sym e)
    (first_as (EitherStands (StandsAtCalls calls r holds) (StandsIf r c.line (holds c))) (StandsAtCalls (calls ++ c ∷ []) r holds) (standing_link found test code c.line) (from_more calls c r holds) (to_more calls c r holds)
    (standing_first (StandsAtCalls calls r holds) found test code c.line r (holds c) is h f g))

-- one CALL more, at which two rules may stand
pub first_two_more : (calls all : List PlacedCall) (c : PlacedCall) (r q : LinkRefusal) (code other : UnitRule) (holds fits : PlacedCall → Type 0) (found : Option UnitFinding) (test tried : Bool) → all ≡ calls ++ c ∷ [] → rule_of code ≡ of_links r → rule_of other ≡ of_links q
    → IsFirstOf (EitherStands (StandsAtCalls calls r holds) (StandsAtCalls calls q fits)) found → (IsTrue test → holds c) → (holds c → IsTrue test) → (IsTrue tried → fits c) → (fits c → IsTrue tried)
    → IsFirstOf (EitherStands (StandsAtCalls all r holds) (StandsAtCalls all q fits)) (standing_link (standing_link found test code c.line) tried other c.line)
first_two_more calls all c r q code other holds fits found test tried e is also h f g i j =
    let one = standing_first (EitherStands (StandsAtCalls calls r holds) (StandsAtCalls calls q fits)) found test code c.line r (holds c) is h f g in
    let two = standing_first (EitherStands (EitherStands (StandsAtCalls calls r holds) (StandsAtCalls calls q fits)) (StandsIf r c.line (holds c))) (standing_link found test code c.line) tried other c.line q (fits c) also one i j in
    subst (λ (cs : List PlacedCall). IsFirstOf (EitherStands (StandsAtCalls cs r holds) (StandsAtCalls cs q fits)) (standing_link (standing_link found test code c.line) tried other c.line)) (sym e)
    (first_as (EitherStands (EitherStands (EitherStands (StandsAtCalls calls r holds) (StandsAtCalls calls q fits)) (StandsIf r c.line (holds c))) (StandsIf q c.line (fits c)))
    (EitherStands (StandsAtCalls (calls ++ c ∷ []) r holds) (StandsAtCalls (calls ++ c ∷ []) q fits)) (standing_link (standing_link found test code c.line) tried other c.line) together apart two)
  where
    together : (p : LinkRefusal) (line : ℕ) → EitherStands (EitherStands (EitherStands (StandsAtCalls calls r holds) (StandsAtCalls calls q fits)) (StandsIf r c.line (holds c))) (StandsIf q c.line (fits c)) p line → EitherStands (StandsAtCalls (calls ++ c ∷ []) r holds) (StandsAtCalls (calls ++ c ∷ []) q fits) p line
    together p line (inl (inl (inl s))) = inl (from_more calls c r holds p line (inl s))
    together p line (inl (inl (inr s))) = inr (from_more calls c q fits p line (inl s))
    together p line (inl (inr s)) = inl (from_more calls c r holds p line (inr s))
    together p line (inr s) = inr (from_more calls c q fits p line (inr s))

    apart : (p : LinkRefusal) (line : ℕ) → EitherStands (StandsAtCalls (calls ++ c ∷ []) r holds) (StandsAtCalls (calls ++ c ∷ []) q fits) p line → EitherStands (EitherStands (EitherStands (StandsAtCalls calls r holds) (StandsAtCalls calls q fits)) (StandsIf r c.line (holds c))) (StandsIf q c.line (fits c)) p line
    apart p line (inl s) = elim (to_more calls c r holds p line s) [ inl x ↦ inl (inl (inl x)) | inr y ↦ inl (inr y) ]
    apart p line (inr s) = elim (to_more calls c q fits p line s) [ inl x ↦ inl (inl (inr x)) | inr y ↦ inr y ]

-- one line more
pub line_more : (lines all : List ℕ) (n : ℕ) (found : Option UnitFinding) → all ≡ lines ++ n ∷ [] → IsFirstOf (StandsAtLines lines) found → IsFirstOf (StandsAtLines all) (standing_link found true rule.Arguments n)
line_more lines all n found e h =
    subst (λ (ns : List ℕ). IsFirstOf (StandsAtLines ns) (standing_link found true rule.Arguments n)) (sym e)
    (first_as (EitherStands (StandsAtLines lines) (StandsIf Arguments n (Unit {0}))) (StandsAtLines (lines ++ n ∷ [])) (standing_link found true rule.Arguments n) from to
    (standing_first (StandsAtLines lines) found true rule.Arguments n Arguments (Unit {0}) refl h (λ x. tt) (λ x. refl)))
  where
    from : (r : LinkRefusal) (line : ℕ) → EitherStands (StandsAtLines lines) (StandsIf Arguments n (Unit {0})) r line → StandsAtLines (lines ++ n ∷ []) r line
    from r line (inl s) = (s.0, in_left line lines (n ∷ []) s.1)
    from r line (inr s) = (s.0, in_right line lines (n ∷ []) (inl s.1))

    to : (r : LinkRefusal) (line : ℕ) → StandsAtLines (lines ++ n ∷ []) r line → EitherStands (StandsAtLines lines) (StandsIf Arguments n (Unit {0})) r line
    to r line s = elim (in_either line lines (n ∷ []) s.1) [ inl x ↦ inl (s.0, x) | inr y ↦ inr (s.0, in_one line n y, tt) ]

-- nothing stands at no CALLs
pub no_places_called : (us : List ProgramUnit) → IsFirstOf (StandsAtPlaces us []) None
no_places_called us r line (inl s) = s.is_call
no_places_called us r line (inr s) = s.is_call

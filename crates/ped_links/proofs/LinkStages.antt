-- What is refused at CALLs, stage by stage.
use Rattle.std.proofs.Common.{◌≡◌, inl, inr, ℕ, Option, Some, None, subst}
use Rattle.ped_units.specs.Units.{ProgramUnits}
use Rattle.ped_units.specs.Linking.{LinkRefusal, NoUnit, Recursion, Arguments, Aliased, CallPlace, Stands, IsLinked}
use Rattle.ped_links.specs.FirstLinks.{IsFirstAmong, IsFirstOf, EitherStands, first_link_of}
use Rattle.ped_links.specs.Links.{IsLinkRefusal}
use Rattle.ped_links.specs.Scenes.{AtHeads, AtPlaces, AtRecursions, AtArguments}
use Rattle.ped_units.specs.declared.refusals.UnitFinding.{UnitFinding}
use Rattle.ped_units.specs.declared.refusals.UnitRefusal.TheVariants as refusal
use Rattle.ped_links.proofs.FirstFound.{both_first, first_as}

-- what stands at some stage
abbrev Staged : ProgramUnits → LinkRefusal → ℕ → Type 0
Staged us = EitherStands (EitherStands (EitherStands (AtHeads us) (AtPlaces us)) (AtRecursions us)) (AtArguments us)

staged_stands : (us : ProgramUnits) (r : LinkRefusal) (line : ℕ) → Staged us r line → Stands us r line
staged_stands us NoUnit line (inl (inl (inl h))) = inl h
staged_stands us NoUnit line (inl (inl (inr h))) = inr h
staged_stands us NoUnit line (inl (inr h)) = absurd h
staged_stands us NoUnit line (inr h) = absurd h
staged_stands us Recursion line (inl (inl (inl h))) = absurd h
staged_stands us Recursion line (inl (inl (inr h))) = absurd h
staged_stands us Recursion line (inl (inr h)) = h
staged_stands us Recursion line (inr h) = absurd h
staged_stands us Arguments line (inl (inl (inl h))) = inl h
staged_stands us Arguments line (inl (inl (inr h))) = inr (inl h)
staged_stands us Arguments line (inl (inr h)) = absurd h
staged_stands us Arguments line (inr h) = inr (inr h)
staged_stands us Aliased line (inl (inl (inl h))) = absurd h
staged_stands us Aliased line (inl (inl (inr h))) = absurd h
staged_stands us Aliased line (inl (inr h)) = absurd h
staged_stands us Aliased line (inr h) = h
staged_stands us CallPlace line (inl (inl (inl h))) = absurd h
staged_stands us CallPlace line (inl (inl (inr h))) = h
staged_stands us CallPlace line (inl (inr h)) = absurd h
staged_stands us CallPlace line (inr h) = absurd h

stands_staged : (us : ProgramUnits) (r : LinkRefusal) (line : ℕ) → Stands us r line → Staged us r line
stands_staged us NoUnit line (inl h) = inl (inl (inl h))
stands_staged us NoUnit line (inr h) = inl (inl (inr h))
stands_staged us Recursion line h = inl (inr h)
stands_staged us Arguments line (inl h) = inl (inl (inl h))
stands_staged us Arguments line (inr (inl h)) = inl (inl (inr h))
stands_staged us Arguments line (inr (inr h)) = inr h
stands_staged us Aliased line h = inr h
stands_staged us CallPlace line h = inl (inl (inr h))

-- the first of all stages
pub first_of_stages : (us : ProgramUnits) (heads places recursions arguments : Option UnitFinding) → IsFirstOf (AtHeads us) heads → IsFirstOf (AtPlaces us) places → IsFirstOf (AtRecursions us) recursions → IsFirstOf (AtArguments us) arguments
    → IsFirstOf (Stands us) (first_link_of (first_link_of (first_link_of heads places) recursions) arguments)
first_of_stages us heads places recursions arguments h p r a =
    let two = both_first (AtHeads us) (AtPlaces us) heads places h p in
    let three = both_first (EitherStands (AtHeads us) (AtPlaces us)) (AtRecursions us) (first_link_of heads places) recursions two r in
    first_as (Staged us) (Stands us) (first_link_of (first_link_of (first_link_of heads places) recursions) arguments) (staged_stands us) (stands_staged us)
    (both_first (EitherStands (EitherStands (AtHeads us) (AtPlaces us)) (AtRecursions us)) (AtArguments us) (first_link_of (first_link_of heads places) recursions) arguments three a)

-- nothing is refused
pub none_refused : (us : ProgramUnits) (found : Option UnitFinding) → found ≡ None → IsFirstOf (Stands us) found → IsLinked us
none_refused us None e h = h
none_refused us (Some f) e h = absurd cc

-- the first is refused
pub first_refused : (us : ProgramUnits) (found : Option UnitFinding) (f : UnitFinding) → found ≡ Some f → IsFirstOf (Stands us) found → IsLinkRefusal us (refusal.At f)
first_refused us None f e h = absurd cc
first_refused us (Some g) f e h = of_first f (sub e h)
  where
    of_first : (x : UnitFinding) → IsFirstAmong (Stands us) x → IsLinkRefusal us (refusal.At x)
    of_first x k = (k.rule, k.is_rule, record { stands = k.stands_there; least = k.least })

    same : (x y : UnitFinding) → Some x ≡ Some y → x ≡ y
    same x y k = cc

    sub : Some g ≡ Some f → IsFirstAmong (Stands us) g → IsFirstAmong (Stands us) f
    sub k l = subst (IsFirstAmong (Stands us)) (same g f k) l

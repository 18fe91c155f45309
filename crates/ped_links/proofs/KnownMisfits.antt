-- Whether arguments don't fit, and whether one name is handed over twice, is known.
use Rattle.std.proofs.Common.{◌≡◌, ℕ, List, [], ◌∷◌, Option, Some, None, length, refl, subst}
use Rattle.ped_base.specs.Dimensions.{Dimensions}
use Rattle.ped_units.specs.ped_valid.specs.ped_symbols.specs.declared.symbols.Kind.{Kind}
use Rattle.ped_units.specs.Units.{ProgramUnit, ProgramUnits, unit_of}
use Rattle.ped_units.specs.Linking.{Placed, OfCalled, HasBadArguments, IsAliased, IsUsed, IsAssigned, IsIndex, assigns, indexes, kind_there, bounds_by, is_scalar, is_constant}
use Rattle.ped_links.specs.Arguments.{IsOtherKind, is_one_of, kind_of_name, IsMisfit, SomeMisfit, HasMisfit, IsAgain, IsAliasedFirst, SomeAliased}
use Rattle.ped_links.specs.Placing.{placed_call}
use Rattle.ped_links.specs.declared.placing.Around.{Around}
use Rattle.ped_links.specs.declared.placing.PlacedCall.{PlacedCall}
use Rattle.ped_links.proofs.Aliases.{aliased_named, named_aliased}
use Rattle.ped_links.proofs.Known.{IsKnown, holds, fails, known_true, known_false, known_either, known_both, known_not, known_as, known_number, known_none, known_there, known_bounds, known_name}
use Rattle.ped_links.proofs.KnownUses.{known_used}
use Rattle.ped_links.proofs.Misfits.{bad_named, named_bad}
use Rattle.ped_links.proofs.NumberedUnits.{unit_of_number, number_of_unit_of}

known_three : {P Q R : Type 0} → IsKnown P → IsKnown Q → IsKnown R → IsKnown (P × Q × R)
known_three p q r = known_as (λ h. (h.0, h.1.0, h.1.1)) (λ h. (h.0, (h.1, h.2))) (known_both p (known_both q r))

known_some_bounds : (o : Option Dimensions) → IsKnown ((d : Dimensions) × (o ≡ Some d))
known_some_bounds None = fails (λ h. none h.0 h.1)
  where
    none : (d : Dimensions) → ◌≡◌ {A = Option Dimensions} None (Some d) → ⊥
    none d e = cc
known_some_bounds (Some d) = holds (d, refl)

known_other_kind : (formal argument : Option Kind) (P : Type 0) → IsKnown P → IsKnown (IsOtherKind formal argument P)
known_other_kind formal argument P k =
    known_either
    (known_there (bounds_by formal) (λ (d : Dimensions). bounds_by argument ≡ Some d → ⊥) (λ d e. known_not (known_bounds (bounds_by argument) d)))
    (known_either
    (known_as (λ h. (h.1.0, h.0, h.1.1)) (λ h. (h.1, (h.0, h.2))) (known_both (known_none (bounds_by formal)) (known_some_bounds (bounds_by argument))))
    (known_three (known_none (bounds_by formal)) k (known_false (is_scalar argument))))

-- it is known which dummy arguments of a subroutine are assigned, and which are DO variables
module _ (us : ProgramUnits) (u v : ProgramUnit) (assigned : (f : List ℕ) → IsKnown (IsAssigned us v f)) (index : (f : List ℕ) → IsKnown (IsIndex us v f)) where
  known_misfit : (around : Around) (f : List ℕ) (a : Option (List ℕ)) → IsKnown (IsMisfit us u v around f a)
  known_misfit around f a =
      known_either
      (known_other_kind (kind_there v f) (kind_of_name u a) (IsAssigned us v f) (assigned f))
      (known_either
      (known_both (assigned f) (known_true (is_one_of a around.variables)))
      (known_both (index f) (known_true (is_one_of a around.private))))

  known_some_misfit : (around : Around) (fs : List (List ℕ)) (as_names : List (Option (List ℕ))) → IsKnown (SomeMisfit us u v around fs as_names)
  known_some_misfit around [] as_names = fails (λ h. h)
  known_some_misfit around (f ∷ fs) [] = fails (λ h. h)
  known_some_misfit around (f ∷ fs) (a ∷ rest) = known_either (known_misfit around f a) (known_some_misfit around fs rest)

  known_has_misfit : (c : PlacedCall) → IsKnown (HasMisfit us u v c)
  known_has_misfit c =
      let same = known_number (length c.arguments) (length v.formals) in
      known_either (known_not same) (known_both same (known_some_misfit c.around v.formals c.arguments))

  known_again : (f x : List ℕ) (fs : List (List ℕ)) (as_names : List (Option (List ℕ))) → IsKnown (IsAgain us v f x fs as_names)
  known_again f x [] as_names = fails (λ h. h)
  known_again f x (g ∷ gs) [] = fails (λ h. h)
  known_again f x (g ∷ gs) (a ∷ rest) = known_either (known_both (known_name a x) (known_either (assigned f) (assigned g))) (known_again f x gs rest)

  known_first : (f : List ℕ) (a : Option (List ℕ)) (fs : List (List ℕ)) (as_names : List (Option (List ℕ))) → IsKnown (IsAliasedFirst us u v f a fs as_names)
  known_first f None fs as_names = fails (λ h. h)
  known_first f (Some x) fs as_names = known_both (known_false (is_constant (kind_there u x))) (known_again f x fs as_names)

  known_some_aliased : (fs : List (List ℕ)) (as_names : List (Option (List ℕ))) → IsKnown (SomeAliased us u v fs as_names)
  known_some_aliased [] as_names = fails (λ h. h)
  known_some_aliased (f ∷ fs) [] = fails (λ h. h)
  known_some_aliased (f ∷ fs) (a ∷ rest) = known_either (known_first f a fs rest) (known_some_aliased fs rest)

  known_bad : (p : Placed) → IsKnown (HasBadArguments us u v p)
  known_bad p = known_as (named_bad us u v p) (bad_named us u v p) (known_has_misfit (placed_call p))

  known_aliased : (p : Placed) → IsKnown (IsAliased us u v p.called)
  known_aliased p = known_as (named_aliased us u v p.called) (aliased_named us u v p.called) (known_some_aliased v.formals (placed_call p).arguments)

-- a subroutine that is called uses a dummy argument so
known_use : (own : ProgramUnit → List (List ℕ)) (us : ProgramUnits) (x : List ℕ) (v : ProgramUnit) → unit_of us x ≡ Some v → (f : List ℕ) → IsKnown (IsUsed own us v f)
known_use own us x v is f =
    let there = number_of_unit_of us x v is in
    let below = (unit_of_number us x there.0 there.1).1 in
    subst (λ (w : ProgramUnit). IsKnown (IsUsed own us w f)) there.2 (known_used us own there.0 f below)

-- it is known whether the arguments of a CALL don't fit
pub known_bad_call : (us : ProgramUnits) (u : ProgramUnit) (p : Placed) → IsKnown (OfCalled us (HasBadArguments us) u p)
known_bad_call us u p =
    known_there (unit_of us p.called.name) (λ (v : ProgramUnit). HasBadArguments us u v p) (λ v e.
    known_bad us u v (known_use assigns us p.called.name v e) (known_use indexes us p.called.name v e) p)

-- it is known whether a CALL hands over one name twice
pub known_aliased_call : (us : ProgramUnits) (u : ProgramUnit) (p : Placed) → IsKnown (OfCalled us (λ w v q. IsAliased us w v q.called) u p)
known_aliased_call us u p =
    known_there (unit_of us p.called.name) (λ (v : ProgramUnit). IsAliased us u v p.called) (λ v e.
    known_aliased us u v (known_use assigns us p.called.name v e) (known_use indexes us p.called.name v e) p)

-- What the names of the units stand for that were looked at so far, or the first of their refusals.
use Rattle.std.proofs.Common.{◌≡◌, ℕ, ◌<◌, List, [], ◌∷◌, ◌++◌, map, length, get_or, All, subst, arith, Option, Some, None, refl, sym, ap, ◌∙◌, append-nil, Bool, true, false, if◌then◌else◌}
use Rattle.std.proofs.lemmas.List.{map-append, get_or-map, length-map}
use Rattle.std.proofs.lemmas.List.Concat.{flat_map-append}
use Rattle.ped_tree.specs.Grammar.Refusal.{Finding, earlier, is_before, first_of}
use Rattle.ped_valid.specs.ped_symbols.specs.Kinds.{Table, table_of}
use Rattle.ped_valid.specs.ped_symbols.specs.NameRefusals.{name_refusals}
use Rattle.ped_units.specs.Units.{ProgramUnit}
use Rattle.ped_units.specs.Refusals.{for_names, lines_for_names, units_name_refusals}
use Rattle.ped_units.specs.Seeing.{combined}
use Rattle.ped_units.specs.Naming.{HasFew, HaveTables, IsFound, IsFirstNameRefusal}
use Rattle.ped_units.specs.Views.{program_unit_of}
use Rattle.ped_units.specs.declared.units.ProgramUnit as code
use Rattle.ped_units.specs.declared.refusals.UnitRefusal.{UnitRefusal}
use Rattle.ped_units.specs.declared.refusals.UnitRefusal.TheVariants.{At, NoMemory}
use Rattle.ped_tree.specs.declared.grammar.refusals.Refusal.{Refusal}
use Rattle.ped_tree.specs.Grammar.RefusalViews.{finding_of}
use Rattle.ped_units.proofs.Earliest.{both_first}

-- the first refusal of these units, and their tables where there is none
pub record SoFar (us : List ProgramUnit) (found : Option Finding) (tables : List Table) : Type 0 where
  pub first : found ≡ first_of (units_name_refusals us)
  pub right : found ≡ None → HaveTables us tables

one_more : (us : List ProgramUnit) (u : ProgramUnit) → units_name_refusals (us ++ u ∷ []) ≡ units_name_refusals us ++ name_refusals (lines_for_names u) (for_names u)
one_more us u =
    flat_map-append (λ v. name_refusals (lines_for_names v) (for_names v)) us (u ∷ [])
    ∙ ap (λ (fs : List Finding). units_name_refusals us ++ fs) (append-nil (name_refusals (lines_for_names u) (for_names u)))

-- before the first unit
pub none_yet : SoFar [] None []
none_yet = record { first = refl; right = λ h. record { right = refl; are = refl } }

-- behind one whose names are right
pub right_more : (us : List ProgramUnit) (u : ProgramUnit) (found : Option Finding) (tables : List Table) (table : Table) → SoFar us found tables
    → name_refusals (lines_for_names u) (for_names u) ≡ [] → table ≡ table_of (for_names u) → SoFar (us ++ u ∷ []) found (tables ++ table ∷ [])
right_more us u found tables table h none is =
    let same : units_name_refusals (us ++ u ∷ []) ≡ units_name_refusals us = one_more us u ∙ ap (λ (fs : List Finding). units_name_refusals us ++ fs) none ∙ append-nil (units_name_refusals us) in
    record {
      first = h.first ∙ ap first_of (sym same);
      right = λ e.
          let t = h.right e in
          record {
            right = same ∙ t.right;
            are = (λ i. t.are i ++ is i ∷ []) ∙ sym (map-append (λ v. table_of (for_names v)) us (u ∷ []));
          };
    }

some_of_both : (f g : Finding) (b : Bool) → (if b then Some f else Some g) ≡ None → ⊥
some_of_both f g true h = absurd cc
some_of_both f g false h = absurd cc

some_stays : (found : Option Finding) (f : Finding) → combined found (Some f) ≡ None → ⊥
unfolding earlier
some_stays None f h = absurd cc
some_stays (Some g) f h = some_of_both f g (is_before f g) h

-- behind one whose names are refused
pub wrong_more : (us : List ProgramUnit) (u : ProgramUnit) (found : Option Finding) (tables : List Table) (f : Finding) → SoFar us found tables
    → first_of (name_refusals (lines_for_names u) (for_names u)) ≡ Some f → SoFar (us ++ u ∷ []) (combined found (Some f)) tables
wrong_more us u found tables f h first = record {
  first = both_first (units_name_refusals us) (name_refusals (lines_for_names u) (for_names u)) found (Some f) (combined found (Some f)) h.first (sym first) refl ∙ ap first_of (sym (one_more us u));
  right = λ e. absurd (some_stays found f e);
}

-- one of units that all have few statements and references
pub few_here : (us : List code.ProgramUnit) (i : ℕ) (u : code.ProgramUnit) → i < length us → u ≡ get_or us i u → All HasFew (map program_unit_of us) → HasFew (program_unit_of u)
few_here us i u lt is h =
    subst (λ (v : code.ProgramUnit). HasFew (program_unit_of v)) (sym is)
    (subst HasFew (get_or-map program_unit_of us i u (program_unit_of u) lt) (h i (program_unit_of u) (omega (arith, lt, length-map us program_unit_of))))

-- the first of the refusals of names, as it is told
pub found_first : (us : List ProgramUnit) (r : Refusal) (e : UnitRefusal) → first_of (units_name_refusals us) ≡ Some (finding_of r) → IsFound (finding_of r) e → IsFirstNameRefusal us e
found_first us r NoMemory h f = tt
found_first us r (At g) h f = (r, h, f)

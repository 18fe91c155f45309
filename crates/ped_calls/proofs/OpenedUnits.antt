-- What a file of program units is opened as, or refused for, by what its units are opened as.
use Rattle.std.proofs.Common.{◌≡◌, ℕ, List, map, sym, ap, subst, ◌∙◌}
use Rattle.std.specs.Prelude.{All}
use Rattle.ped_tree.specs.Tree.{ProgramTree}
use Rattle.ped_tree.specs.Grammar.Refusal.{first_of}
use Rattle.ped_tree.specs.Grammar.RefusalViews.{finding_of}
use Rattle.ped_links.specs.ped_symbols.specs.Kinds.{Table}
use Rattle.ped_links.specs.ped_symbols.specs.NameRefusals.{IsValid}
use Rattle.ped_links.specs.ped_units.specs.Units.{ProgramUnit, ProgramUnits, all_units}
use Rattle.ped_links.specs.ped_units.specs.Refusals.{ReadsUnits, units_name_refusals}
use Rattle.ped_links.specs.ped_units.specs.Linking.{IsLinked}
use Rattle.ped_links.specs.Links.{AreUnitsWith, IsLinkRefusal}
use Rattle.ped_links.specs.ped_units.specs.Naming.{HasFew, HaveTables, IsFirstNameRefusal}
use Rattle.ped_links.specs.ped_units.specs.Expanding.{expansion}
use Rattle.ped_calls.specs.Courses.{units_of}
use Rattle.ped_calls.specs.Opening.{StartsWell, IsPastAt}
use Rattle.ped_links.specs.ped_units.specs.Verdicts.{ReadsRightUnits, ReadsLinkedUnits, in_names, in_links, in_expanding, IsExpansion}
use Rattle.ped_links.specs.ped_units.specs.Views.{program_unit_of, IsUnitRefusalOf}
use Rattle.ped_links.specs.ped_units.specs.declared.units.ProgramUnit as code
use Rattle.ped_links.specs.ped_units.specs.declared.refusals.UnitRefusal.{UnitRefusal}
use Rattle.ped_links.specs.ped_units.specs.declared.refusals.UnitRefusal.TheVariants.{At, NoMemory}
use Rattle.ped_calls.proofs.FewUnits.{few_units}
use Rattle.ped_calls.proofs.MainStarts.{starts_well}
use Rattle.ped_calls.proofs.NamedUnits.{units_same, are_with}

-- the units that the code keeps are those that the text reads as
pub record Kept (text : List ℕ) (given : List code.ProgramUnit) : Type 0 where
  pub units : ProgramUnits
  pub reads : ReadsUnits text units
  pub are : map program_unit_of given ≡ all_units units

-- the same units, as they are handed on
pub kept_as : (text : List ℕ) (given units : List code.ProgramUnit) → (us : ProgramUnits) × ReadsUnits text us × (map program_unit_of units ≡ all_units us) → given ≡ units → Kept text given
kept_as text given units found is = record { units = found.0; reads = found.1; are = ap (map program_unit_of) is ∙ found.2 }

-- the same tables
pub tables_as : (given units : List code.ProgramUnit) (known tables : List Table) → HaveTables (map program_unit_of units) tables → given ≡ units → known ≡ tables → HaveTables (map program_unit_of given) known
tables_as given units known tables have is same =
    subst (λ (gs : List code.ProgramUnit). HaveTables (map program_unit_of gs) known) (sym is) (subst (λ (ts : List Table). HaveTables (map program_unit_of units) ts) (sym same) have)

-- the same of both
pub with_same : (us : ProgramUnits) (given units : List code.ProgramUnit) (known tables : List Table) → given ≡ units → known ≡ tables → AreUnitsWith us units tables → AreUnitsWith us given known
with_same us given units known tables is same a =
    subst (λ (gs : List code.ProgramUnit). AreUnitsWith us gs known) (sym is) (subst (λ (ts : List Table). AreUnitsWith us units ts) (sym same) a)

pub few_kept : (text : List ℕ) (given : List code.ProgramUnit) → Kept text given → All HasFew (map program_unit_of given)
few_kept text given k = subst (λ (us : List ProgramUnit). All HasFew us) (sym k.are) (few_units text k.units k.reads)

-- refused for a name
pub names_refused : (text : List ℕ) (given : List code.ProgramUnit) (e : UnitRefusal) → Kept text given → IsFirstNameRefusal (map program_unit_of given) e → IsUnitRefusalOf text e
names_refused text given NoMemory k h = tt
names_refused text given (At f) k h = in_names (finding_of h.0) h.2 k.units k.reads (ap (λ (us : List ProgramUnit). first_of (units_name_refusals us)) (sym k.are) ∙ h.1)

module _ (text : List ℕ) (given : List code.ProgramUnit) (known : List Table) (k : Kept text given) (tables : HaveTables (map program_unit_of given) known) where
  right : ReadsRightUnits text k.units
  right = record { reads = k.reads; names = ap units_name_refusals (sym k.are) ∙ tables.right }

  with_tables : AreUnitsWith k.units given known
  with_tables = are_with text given k.units known k.reads k.are tables.are

  -- refused for a CALL
  pub links_refused : (e : UnitRefusal) → ((us : ProgramUnits) → AreUnitsWith us given known → IsLinkRefusal us e) → IsUnitRefusalOf text e
  links_refused e h = by e (h k.units with_tables)
    where
      by : (e : UnitRefusal) → IsLinkRefusal k.units e → IsUnitRefusalOf text e
      by NoMemory l = tt
      by (At f) l = in_links l.0 l.1 k.units right l.2

  pub starts_kept : StartsWell (units_of given)
  starts_kept = subst StartsWell (sym (units_same given k.units k.are)) (starts_well text k.units right)

  module _ (links : (us : ProgramUnits) → AreUnitsWith us given known → IsLinked us) where
    linked : ReadsLinkedUnits text k.units
    linked = record { right = right; linked = links k.units with_tables }

    -- refused for a limit
    pub limits_refused : (e : UnitRefusal) → IsPastAt (units_of given) e → IsUnitRefusalOf text e
    limits_refused e h = by e (subst (λ (us : ProgramUnits). IsPastAt us e) (units_same given k.units k.are) h)
      where
        by : (e : UnitRefusal) → IsPastAt k.units e → IsUnitRefusalOf text e
        by NoMemory l = tt
        by (At f) l = in_expanding l.0 l.1 k.units linked l.2

    -- expanded
    pub units_expand : (t : ProgramTree) → t ≡ expansion (units_of given) → IsValid t → IsExpansion text t
    units_expand t is valid = record { units = k.units; linked = linked; expands = ap expansion (sym (units_same given k.units k.are)) ∙ sym is; valid = valid }

-- The units of a file with what their names stand for, and the first of their refusals by CALLs, as the code reports (this project).
use Rattle.std.specs.Prelude.{◌≡◌, List, [], map}
use Rattle.ped_units.specs.Units.{ProgramUnit, ProgramUnits, all_units}
use Rattle.ped_units.specs.Linking.{IsIn, LinkRefusal, IsFirstLink}
use Rattle.ped_units.specs.Verdicts.{of_links}
use Rattle.ped_units.specs.Naming.{AreTables}
use Rattle.ped_units.specs.Views.{program_unit_of, rule_of}
use Rattle.ped_units.specs.declared.units.ProgramUnit as code
use Rattle.ped_units.specs.declared.refusals.UnitRefusal.{UnitRefusal}
use Rattle.ped_units.specs.declared.refusals.UnitRefusal.TheVariants as refusal
use Rattle.ped_units.specs.ped_valid.specs.ped_symbols.specs.Kinds.{Table}

-- each subroutine has a name
abbrev pub AreNamed : ProgramUnits → Type 0
AreNamed us = (u : ProgramUnit) → IsIn u us.others → u.name ≡ [] → ⊥

-- these are the units of a file, each subroutine with a name, and what their names stand for
pub record AreUnitsWith (us : ProgramUnits) (given : List code.ProgramUnit) (known : List Table) : Type 0 where
  pub units : map program_unit_of given ≡ all_units us
  pub named : AreNamed us
  pub tables : AreTables (all_units us) known

-- the first of the refusals by CALLs, or out of memory
abbrev pub IsLinkRefusal : ProgramUnits → UnitRefusal → Type 0
IsLinkRefusal us refusal.NoMemory = Unit {0}
IsLinkRefusal us (refusal.At f) = (r : LinkRefusal) × (rule_of f.rule ≡ of_links r) × IsFirstLink us r f.line

-- Races and the dependences that cover them (Allen and Kennedy, section 2.2.5; ParaScope).
use Rattle.std.specs.Prelude.{List}
use Rattle.ped_tree.specs.Tree.{ProgramTree}
use Rattle.ped_laws.specs.ped_edges.specs.Edges.{Edge}
use Rattle.ped_laws.specs.Conflicts.Covered.{IsCarriedInParallel}
use Rattle.ped_order.specs.Reports.{Report, NoRace, Race, Fault}

-- where a report is of a race, a PARALLEL DO carries one of these dependences, from the statement of the earlier access to that of the later (Allen and Kennedy, section 2.2.5; ParaScope)
abbrev pub IsCarried : ProgramTree → List Edge → Report → Type 0
IsCarried t edges NoRace = Unit {0}
IsCarried t edges (Race cell earlier later) = IsCarriedInParallel t edges earlier later
IsCarried t edges (Fault number statement) = Unit {0}

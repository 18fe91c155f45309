use Rattle.std.proofs.Common.{map, Result, subst}
use Rattle.ped_tree.specs.declared.grammar.refusals.Refusal.{Refusal}
use Rattle.std.specs.Global.{Vec}
use Rattle.ped_valid.specs.ped_symbols.specs.Kinds.{Table}
use Rattle.ped_units.specs.Naming.{JudgesAllNames, tables_view}
use Rattle.ped_units.specs.Views.{program_unit_of}
use Rattle.ped_units.proofs.TablesSoFar.{found_first}
use Rattle.ped_units.proofs.naming.tables.Goals as goal

pub returns-in-Err-clause-refused : goal.returns-in-Err-clause-refused
returns-in-Err-clause-refused c =
    let us = map program_unit_of c.args.units.now in
    let first = subst (λ (r : Result (Vec Table) Refusal). JudgesAllNames us (tables_view r)) c.in-Err.is c.in_ok-judged.ensures in
    found_first us c.in-Err.refusal c.at.result first c.at.ensures.found

use Rattle.std.proofs.Common.{◌≡◌, ◌+◌, ◌++◌, [], ◌∷◌, List, map, take, Option, None, Result, sym, ap, subst, ◌∙◌, arith}
use Rattle.std.proofs.lemmas.List.{map_push}
use Rattle.std.proofs.lemmas.Grind.{common_steps}
use Rattle.std.specs.Global.{Vec}
use Rattle.ped_tree.specs.Grammar.Refusal.{Finding}
use Rattle.ped_tree.specs.Grammar.RefusalViews.{finding_of, found_of}
use Rattle.ped_tree.specs.declared.grammar.refusals.Refusal.{Refusal}
use Rattle.ped_valid.specs.ped_symbols.specs.Kinds.{Table}
use Rattle.ped_units.specs.Units.{ProgramUnit}
use Rattle.ped_units.specs.Naming.{JudgesNames}
use Rattle.ped_units.specs.Views.{program_unit_of}
use Rattle.ped_units.proofs.TablesSoFar.{SoFar, none_yet, few_here, right_more, wrong_more}
use Rattle.ped_units.proofs.naming.all_tables.Goals.{in-Ok+in_ok-push-in-Ok, in-Err}
use Rattle.ped_units.proofs.naming.all_tables.Goals as goal

pub loop-unit-init : goal.loop-unit-init
loop-unit-init c = subst (λ (ts : List Table). SoFar [] None ts) (sym c.new-tables.ensures.items) none_yet

pub table-requires : goal.table-requires
table-requires c = few_here c.args.units.now c.loop-unit.unit-index c.unit-item.result c.loop-unit-test.true c.unit-item.is c.requires

pub loop-unit-preserved : goal.loop-unit-preserved
loop-unit-preserved c =
    let units = c.args.units.now in
    let i = c.loop-unit.unit-index in
    let u = program_unit_of c.unit-item.result in
    let us = map program_unit_of (take i units) in
    let next = c.match-judged in
    let front : take (i + 1) units ≡ take i units ++ c.unit-item.result ∷ [] = grind (arith, common_steps) in
    let more = ap (map program_unit_of) front ∙ map_push program_unit_of (take i units) c.unit-item.result in
    subst (λ (vs : List ProgramUnit). SoFar vs (found_of next.found) next.tables.items) (sym more)
    (elim next.branch [
      | in-Ok+in_ok-push-in-Ok w ↦
          let j = subst (λ (r : Result Table Refusal). JudgesNames u r) w.in-Ok.is c.in_ok-judged.ensures in
          subst (λ (f : Option Refusal). SoFar (us ++ u ∷ []) (found_of f) next.tables.items) (sym w.found-is)
          (subst (λ (ts : List Table). SoFar (us ++ u ∷ []) (found_of c.loop-unit.found) ts) (sym (ap (λ (v : Vec Table). v.items) w.tables-is ∙ w.in_ok-push-in-Ok.ensures.items))
          (right_more us u (found_of c.loop-unit.found) c.loop-unit.tables.items w.in-Ok.symbols c.loop-unit.invariant j.0 j.1))
      | in-Err w ↦
          let j = subst (λ (r : Result Table Refusal). JudgesNames u r) w.in-Err.is c.in_ok-judged.ensures in
          subst (λ (ts : List Table). SoFar (us ++ u ∷ []) (found_of next.found) ts) (sym (ap (λ (v : Vec Table). v.items) w.tables-is))
          (subst (λ (f : Option Finding). SoFar (us ++ u ∷ []) f c.loop-unit.tables.items) (sym (ap found_of w.found-is ∙ w.first_of_both-found.ensures))
          (wrong_more us u (found_of c.loop-unit.found) c.loop-unit.tables.items (finding_of w.in-Err.refusal) c.loop-unit.invariant j))
    ])

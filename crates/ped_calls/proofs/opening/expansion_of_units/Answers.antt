use Rattle.std.proofs.Common.{◌≡◌, List, map, subst}
use Rattle.std.proofs.lemmas.Result.{IfOk-weaker, IfErr-weaker}
use Rattle.ped_tree.specs.Views.{program_tree}
use Rattle.ped_links.specs.ped_valid.specs.declared.opening.Opened.{Opened}
use Rattle.ped_links.specs.ped_symbols.specs.NameRefusals.{IsValid}
use Rattle.ped_calls.specs.Courses.{units_of}
use Rattle.ped_links.specs.ped_units.specs.Expanding.{expansion}
use Rattle.ped_links.specs.Numbers.{AreNumbers}
use Rattle.ped_calls.specs.Opening.{IsPastAt}
use Rattle.ped_links.specs.ped_units.specs.Verdicts.{IsExpansion}
use Rattle.ped_links.specs.ped_units.specs.Views.{program_unit_of, IsUnitRefusalOf}
use Rattle.ped_links.specs.ped_units.specs.declared.units.ProgramUnit.{ProgramUnit}
use Rattle.ped_calls.proofs.CourseSteps.{err_passes}
use Rattle.ped_calls.proofs.MainSteps.{tables_count}
use Rattle.ped_calls.proofs.NamedUnits.{some_unit}
use Rattle.ped_calls.proofs.OpenedUnits.{kept_as, tables_as, with_same, few_kept, names_refused, links_refused, starts_kept, limits_refused, units_expand}
use Rattle.ped_calls.proofs.opening.expansion_of_units.Goals as goal

pub tables-requires : goal.tables-requires
tables-requires c = few_kept c.args.text.now c.deref.result.now (kept_as c.args.text.now c.deref.result.now c.in_ok-units.units.items c.in_ok-units.ensures.units (cc (c.deref.ensures.value)))

pub returns-in_err-tables-clause-refused : goal.returns-in_err-tables-clause-refused
returns-in_err-tables-clause-refused c =
    let kept = kept_as c.args.text.now c.deref.result.now c.in_ok-units.units.items c.in_ok-units.ensures.units (cc (c.deref.ensures.value)) in
    let e = c.in_err-tables.field-0.0 in
    err_passes c.from_residual-in_err-tables.result e (IsUnitRefusalOf c.args.text.now) c.from_residual-in_err-tables.ensures.1 (names_refused c.args.text.now c.deref.result.now e kept c.in_err-tables.ensures.refused)

pub look_at_calls-requires : goal.look_at_calls-requires
look_at_calls-requires c =
    let have = tables_as c.deref-2.result.now c.deref.result.now c.deref-3.result.now c.in_ok-tables.tables.items c.in_ok-tables.ensures.tables (cc (c.deref.ensures.value, c.deref-2.ensures.value)) (cc (c.deref-3.ensures.value)) in
    tables_count c.deref-2.result.now c.deref-3.result.now have.are

pub returns-in_err-look_at_calls-clause-refused : goal.returns-in_err-look_at_calls-clause-refused
returns-in_err-look_at_calls-clause-refused c =
    let text = c.args.text.now in
    let given = c.deref-2.result.now in
    let known = c.deref-3.result.now in
    let kept = kept_as text given c.in_ok-units.units.items c.in_ok-units.ensures.units (cc (c.deref-2.ensures.value)) in
    let have = tables_as given c.deref.result.now known c.in_ok-tables.tables.items c.in_ok-tables.ensures.tables (cc (c.deref.ensures.value, c.deref-2.ensures.value)) (cc (c.deref-3.ensures.value)) in
    let e = c.in_err-look_at_calls.field-0.0 in
    err_passes c.from_residual-in_err-look_at_calls.result e (IsUnitRefusalOf text) c.from_residual-in_err-look_at_calls.ensures.1 (links_refused text given known kept have e c.in_err-look_at_calls.ensures.refused)

pub expanded-requires-clause-file : goal.expanded-requires-clause-file
expanded-requires-clause-file c =
    let text = c.args.text.now in
    let given = c.deref-5.result.now in
    let known = c.deref-6.result.now in
    let kept = kept_as text given c.in_ok-units.units.items c.in_ok-units.ensures.units (cc (c.deref-5.ensures.value)) in
    let have = tables_as given c.deref.result.now known c.in_ok-tables.tables.items c.in_ok-tables.ensures.tables (cc (c.deref.ensures.value, c.deref-5.ensures.value)) (cc (c.deref-6.ensures.value)) in
    let same : c.deref-4.result.now ≡ given = cc (c.deref-4.ensures.value, c.deref-5.ensures.value) in
    record {
      some = some_unit given kept.units kept.are;
      tables = have.are;
      numbers = subst (λ (gs : List ProgramUnit). AreNumbers (map program_unit_of gs) c.in_ok-numbers.numbers.entries) same c.in_ok-numbers.ensures;
    }

pub expanded-requires-clause-starts : goal.expanded-requires-clause-starts
expanded-requires-clause-starts c =
    let text = c.args.text.now in
    let given = c.deref-5.result.now in
    let known = c.deref-6.result.now in
    let kept = kept_as text given c.in_ok-units.units.items c.in_ok-units.ensures.units (cc (c.deref-5.ensures.value)) in
    let have = tables_as given c.deref.result.now known c.in_ok-tables.tables.items c.in_ok-tables.ensures.tables (cc (c.deref.ensures.value, c.deref-5.ensures.value)) (cc (c.deref-6.ensures.value)) in
    starts_kept text given known kept have

pub returns-clause-tree : goal.returns-clause-tree
returns-clause-tree c =
    let text = c.args.text.now in
    let given = c.deref-5.result.now in
    let known = c.deref-6.result.now in
    let kept = kept_as text given c.in_ok-units.units.items c.in_ok-units.ensures.units (cc (c.deref-5.ensures.value)) in
    let have = tables_as given c.deref.result.now known c.in_ok-tables.tables.items c.in_ok-tables.ensures.tables (cc (c.deref.ensures.value, c.deref-5.ensures.value)) (cc (c.deref-6.ensures.value)) in
    IfOk-weaker c.expanded.result (λ (o : Opened). (program_tree o.program ≡ expansion (units_of given)) × IsValid (program_tree o.program)) (λ (o : Opened). IsExpansion text (program_tree o.program))
    (λ o h.
    units_expand text given known kept have
    (λ us a. c.in_ok-look_at_calls.ensures.linked us (with_same us c.deref-2.result.now given c.deref-3.result.now known (cc (c.deref-2.ensures.value, c.deref-5.ensures.value)) (cc (c.deref-3.ensures.value, c.deref-6.ensures.value)) a))
    (program_tree o.program) h.0 h.1)
    c.expanded.ensures.tree

pub returns-clause-refused : goal.returns-clause-refused
returns-clause-refused c =
    let text = c.args.text.now in
    let given = c.deref-5.result.now in
    let known = c.deref-6.result.now in
    let kept = kept_as text given c.in_ok-units.units.items c.in_ok-units.ensures.units (cc (c.deref-5.ensures.value)) in
    let have = tables_as given c.deref.result.now known c.in_ok-tables.tables.items c.in_ok-tables.ensures.tables (cc (c.deref.ensures.value, c.deref-5.ensures.value)) (cc (c.deref-6.ensures.value)) in
    IfErr-weaker c.expanded.result (IsPastAt (units_of given)) (IsUnitRefusalOf text)
    (limits_refused text given known kept have
    (λ us a. c.in_ok-look_at_calls.ensures.linked us (with_same us c.deref-2.result.now given c.deref-3.result.now known (cc (c.deref-2.ensures.value, c.deref-5.ensures.value)) (cc (c.deref-3.ensures.value, c.deref-6.ensures.value)) a)))
    c.expanded.ensures.refused

use Rattle.std.proofs.Common.{◌≡◌, ◌-◌, IfErr, length, sym, ap, subst, ◌∙◌}
use Rattle.ped_tree.specs.Numbering.{statements_count}
use Rattle.ped_tree.specs.Views.{stmt_trees}
use Rattle.ped_links.specs.ped_symbols.specs.Kinds.{Table}
use Rattle.ped_calls.specs.Courses.{units_of, Passes, StopsAt, AreTooDeep}
use Rattle.ped_links.specs.ped_units.specs.Expanding.{Given, AllExpanded, constants_of}
use Rattle.ped_calls.specs.Giving.{given_of}
use Rattle.ped_calls.specs.Meaning.{meanings_of}
use Rattle.ped_calls.proofs.MainSteps.{main_same, others_count, main_table}
use Rattle.ped_calls.proofs.expanding.File.main.Goals as goal

pub returns-clause-stopped : goal.returns-clause-stopped
returns-clause-stopped c =
    let us = c.args.self.now.units.now in
    let table = main_table us c.args.self.now.tables.now c.index-self-0.result c.requires.file.some c.requires.file.tables c.index-self-0.is in
    let constants : c.consts.result.now ≡ constants_of (units_of us).main = c.consts.ensures ∙ ap (λ (t : Table). t.constants) (sym c.index-self-0.is ∙ table) in
    let same = main_same (units_of us) (meanings_of c.nothing-meanings.result) (length us - 1) c.consts.result.now (stmt_trees c.args.statements.now) (given_of c.args.course.now.given)
    c.nothing-meanings.ensures (others_count us) constants in
    subst (λ (e : AllExpanded Given). IfErr c.statements.result (λ why. StopsAt why (Passes c.args.course.now.room (statements_count (stmt_trees c.args.statements.now)) (statements_count e.statements) (AreTooDeep 0 e.statements)))) same c.statements.ensures.stopped

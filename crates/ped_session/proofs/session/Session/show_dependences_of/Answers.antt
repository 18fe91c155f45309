use Rattle.std.proofs.Common.{Some, subst, sym, ◌∙◌}
use Rattle.ped_tree.specs.Views.{program_tree}
use Rattle.ped_transformations.specs.ped_graph.specs.DependencePane.{IsDependencePaneOf}
use Rattle.ped_versions.specs.States.{State}
use Rattle.ped_versions.specs.ped_valid.specs.Validity.{ReadsValid}
use Rattle.ped_session.proofs.Shown.{refused_statement, shown_statement}
use Rattle.ped_session.proofs.session.Session.show_dependences_of.Goals as goal

pub returns-then-not-has_statement : goal.returns-then-not-has_statement
returns-then-not-has_statement g c =
    let t = program_tree c.present.result.program.now in
    let reads = subst (λ (s : State). ReadsValid s.present t) c.self.view_is c.present.ensures.reads in
    refused_statement (λ u. IsDependencePaneOf u (Some c.args.number)) t c.args.self.now c.args.number reads (sym (c.has_statement.ensures t c.present.ensures.is.graph) ∙ c.if-not-has_statement.true)

pub returns : goal.returns
returns g c =
    let t = program_tree c.present.result.program.now in
    let reads = subst (λ (s : State). ReadsValid s.present t) c.self.view_is c.present.ensures.reads in
    shown_statement (λ u. IsDependencePaneOf u (Some c.args.number)) t c.args.self.now c.args.number c.in_ok-dependence_pane.field-0 reads (sym (c.has_statement.ensures t c.present.ensures.is.graph) ∙ c.if-not-has_statement.false)
    (c.in_ok-dependence_pane.ensures t c.present.ensures.is.graph)

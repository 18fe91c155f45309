use Rattle.std.proofs.Common.{◌↔◌, Option, Decides, ap, subst, ◌∙◌}
use Rattle.std.specs.Prelude.{IsTrue}
use Rattle.ped_base.specs.Lists.{is_among}
use Rattle.ped_units.specs.ped_valid.specs.ped_symbols.specs.declared.symbols.Kind.{Kind}
use Rattle.ped_units.specs.Units.{all_units}
use Rattle.ped_units.specs.Linking.{kind_there}
use Rattle.ped_links.specs.Arguments.{IsOtherKind, kind_of_name, is_one_of}
use Rattle.ped_links.specs.Scenes.{unit_at}
use Rattle.ped_links.proofs.ArgumentSteps.{kind_by_table, argument_kind, misfit_told}
use Rattle.ped_links.proofs.Used.{formals_there}
use Rattle.ped_links.proofs.arguments.At.misfits.Goals as goal

pub returns : goal.returns
returns c us i at among =
    let self = c.args.self.now in
    let u = unit_at us i in
    let v = unit_at us self.callee in
    let f = c.args.formal.now in
    let a = c.args.argument.now in
    let around = self.call.now.around in
    let there = ap (is_among f) (formals_there (all_units us) self.callee us.main at.below) ∙ among in
    let assigned = c.is_assigned-assigned.result in
    let formal = c.kind.ensures ∙ kind_by_table v self.callee_table.now f at.callee in
    let argument = c.kind_of_argument-kind.ensures ∙ argument_kind u self.caller_table.now a at.caller in
    let other : Decides c.is_other_kind-other.result (IsOtherKind (kind_there v f) (kind_of_name u a) (IsTrue assigned)) =
    subst (λ (k : Option Kind). IsTrue c.is_other_kind-other.result ↔ IsOtherKind k (kind_of_name u a) (IsTrue assigned)) formal
    (subst (λ (k : Option Kind). IsTrue c.is_other_kind-other.result ↔ IsOtherKind c.kind.result k (IsTrue assigned)) argument c.is_other_kind-other.ensures) in
    misfit_told us u v around f a c.is_other_kind-other.result assigned c.is_index-index.result c.is_one_of-at_variable.result c.is_one_of-at_private.result
    other (c.is_assigned-assigned.ensures us at.marks at.below there) (c.is_index-index.ensures us at.marks at.below there)
    (c.is_one_of-at_variable.ensures ∙ ap (is_one_of a) c.as_slice.ensures) (c.is_one_of-at_private.ensures ∙ ap (is_one_of a) c.as_slice-2.ensures)

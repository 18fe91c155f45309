use Rattle.std.proofs.Common.{◌≡◌, ℤ, List, ◌++◌, map, subst, length, All, ap, sym, ◌∙◌, lit≤}
use Rattle.std.proofs.lemmas.List.{map-append}
use Rattle.ped_tree.specs.Nests.{indices_of}
use Rattle.ped_refs.specs.Loops.{nest_of}
use Rattle.ped_views.specs.Limits.{IsSmallCoefficient}
use Rattle.ped_affine.specs.AffineForms.{unknown_coefficient}
use Rattle.ped_affine.specs.KeptForms.{unknowns_of, coefficients_of}
use Rattle.ped_affine.proofs.FormLaws.{variable_is, unknowns_small, length-unknowns}
use Rattle.ped_affine.proofs.forms.Terms.variable.Goals as goal

pub returns-clause-form : goal.returns-clause-form
returns-clause-form c =
    let x = c.args.name.now in
    let us = unknowns_of c.args.self.now in
    let others = c.args.self.now.others.now in
    let indices = indices_of (nest_of c.args.self.now.nest.now) in
    let is : c.add_of_names.new.coefficients.items ≡ map (unknown_coefficient x) us =
    c.in_ok-add_of_names.ensures ∙ ap (λ (xs : List ℤ). xs ++ map (unknown_coefficient x) others)
    (c.in_ok-add_of_loops.ensures ∙ ap (λ (xs : List ℤ). xs ++ map (unknown_coefficient x) indices) c.in_ok-coefficients.ensures.items)
    ∙ sym (map-append (unknown_coefficient x) indices others) in
    variable_is x us c.add_of_names.new.coefficients.items is (sym c.has_unknown.ensures ∙ c.if-not-has_unknown.false)

pub returns-clause-over : goal.returns-clause-over
returns-clause-over c =
    let x = c.args.name.now in
    let us = unknowns_of c.args.self.now in
    let others = c.args.self.now.others.now in
    let indices = indices_of (nest_of c.args.self.now.nest.now) in
    let is : c.add_of_names.new.coefficients.items ≡ map (unknown_coefficient x) us =
    c.in_ok-add_of_names.ensures ∙ ap (λ (xs : List ℤ). xs ++ map (unknown_coefficient x) others)
    (c.in_ok-add_of_loops.ensures ∙ ap (λ (xs : List ℤ). xs ++ map (unknown_coefficient x) indices) c.in_ok-coefficients.ensures.items)
    ∙ sym (map-append (unknown_coefficient x) indices others) in
    record {
      complete = ap (λ (xs : List ℤ). length (coefficients_of us xs)) is ∙ length-unknowns x us;
      coefficients = subst (All IsSmallCoefficient) (sym is) (unknowns_small x us);
      constant = lit≤ tt;
    }
